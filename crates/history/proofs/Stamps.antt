-- The newest drop of a table, and the newest end and mark of an entry, is the only one that can count.
use Rattle.std.proofs.Common.{◌≡◌, ℕ, arith, true, [], ◌∷◌, refl, None}
use Rattle.std.proofs.lemmas.Grind.{common_steps}
use Rattle.history.specs.Transactions.{TxEvents}
use Rattle.history.specs.Catalogue.{Stamps, TableDropped, EntryEnded, EntryMarked, drops, entry_ends, marks, newest_of, counted_of, standing}
use Rattle.history.specs.History.{History, TxChange, CatalogueChange, tx_events, catalogue_events}
use Rattle.history.specs.Places.{AreCatalogueSound}
use Rattle.history.proofs.Settled.{AbortsStay, aborts_before}

-- where none counts, none counts later
none_later : (old new : TxEvents) (ds : Stamps) (k : ℕ) → AbortsStay old new → counted_of old ds k ≡ None → counted_of new ds k ≡ None
none_later old new [] k stay none = refl
none_later old new (d ∷ ds) k stay none = grind (arith, common_steps, none_later old new ds k stay, stay d.1.by.number)

drop_counts : (h : History) (txs : TxEvents) (k : ℕ) → AbortsStay (tx_events h) txs → AreCatalogueSound h → counted_of txs (drops (catalogue_events h)) k ≡ standing txs (newest_of (drops (catalogue_events h)) k)
drop_counts [] txs k stay sound = refl
drop_counts (TxChange e ∷ h) txs k stay sound = drop_counts h txs k (aborts_before e (tx_events h) txs stay) sound
drop_counts (CatalogueChange (TableDropped n s) ∷ h) txs k stay sound =
    grind (arith, common_steps, drop_counts h txs k stay sound.1, none_later (tx_events h) txs (drops (catalogue_events h)) k stay, sound.0.1)
drop_counts (CatalogueChange e ∷ h) txs k stay sound = drop_counts h txs k stay sound.1
drop_counts (_ ∷ h) txs k stay sound = drop_counts h txs k stay sound

end_counts : (h : History) (txs : TxEvents) (k : ℕ) → AbortsStay (tx_events h) txs → AreCatalogueSound h → counted_of txs (entry_ends (catalogue_events h)) k ≡ standing txs (newest_of (entry_ends (catalogue_events h)) k)
end_counts [] txs k stay sound = refl
end_counts (TxChange e ∷ h) txs k stay sound = end_counts h txs k (aborts_before e (tx_events h) txs stay) sound
end_counts (CatalogueChange (EntryEnded n s) ∷ h) txs k stay sound =
    grind (arith, common_steps, end_counts h txs k stay sound.1, none_later (tx_events h) txs (entry_ends (catalogue_events h)) k stay, sound.0.1)
end_counts (CatalogueChange e ∷ h) txs k stay sound = end_counts h txs k stay sound.1
end_counts (_ ∷ h) txs k stay sound = end_counts h txs k stay sound

mark_counts : (h : History) (txs : TxEvents) (k : ℕ) → AbortsStay (tx_events h) txs → AreCatalogueSound h → counted_of txs (marks (catalogue_events h)) k ≡ standing txs (newest_of (marks (catalogue_events h)) k)
mark_counts [] txs k stay sound = refl
mark_counts (TxChange e ∷ h) txs k stay sound = mark_counts h txs k (aborts_before e (tx_events h) txs stay) sound
mark_counts (CatalogueChange (EntryMarked n s) ∷ h) txs k stay sound =
    grind (arith, common_steps, mark_counts h txs k stay sound.1, none_later (tx_events h) txs (marks (catalogue_events h)) k stay, sound.0.1)
mark_counts (CatalogueChange e ∷ h) txs k stay sound = mark_counts h txs k stay sound.1
mark_counts (_ ∷ h) txs k stay sound = mark_counts h txs k stay sound

pub newest_drop_counts : (h : History) (k : ℕ) → AreCatalogueSound h → counted_of (tx_events h) (drops (catalogue_events h)) k ≡ standing (tx_events h) (newest_of (drops (catalogue_events h)) k)
newest_drop_counts h k sound = drop_counts h (tx_events h) k (λ t a. a) sound

pub newest_end_counts : (h : History) (k : ℕ) → AreCatalogueSound h → counted_of (tx_events h) (entry_ends (catalogue_events h)) k ≡ standing (tx_events h) (newest_of (entry_ends (catalogue_events h)) k)
newest_end_counts h k sound = end_counts h (tx_events h) k (λ t a. a) sound

pub newest_mark_counts : (h : History) (k : ℕ) → AreCatalogueSound h → counted_of (tx_events h) (marks (catalogue_events h)) k ≡ standing (tx_events h) (newest_of (marks (catalogue_events h)) k)
newest_mark_counts h k sound = mark_counts h (tx_events h) k (λ t a. a) sound
