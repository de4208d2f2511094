-- A CHECK says what the entry says that it repeats; and whoever does not see the CHECK of another open transaction sees the
-- entry.
use Rattle.std.proofs.Common.{◌≡◌, ℕ, true, false, inl, inr, refl, ap, subst, List}
use Rattle.pg_values.specs.declared.value.Value.{Value}
use Rattle.bound_forms.specs.Accepts.{accepts, is_default}
use Rattle.history.specs.declared.transaction.Fate.TheVariants.{Running}
use Rattle.history.specs.declared.catalogue.Entry.{Entry}
use Rattle.history.specs.declared.catalogue.Check.{Check}
use Rattle.history.specs.Transactions.{TxEvents, fate}
use Rattle.history.specs.Catalogue.{CatalogueEvents}
use Rattle.history.specs.History.{History, tx_events, catalogue_events, lock_events}
use Rattle.row_router.specs.Trees.{key_of}
use Rattle.soundness.specs.Worlds.{World, same_tx, IsWorld, view, Present, Accepts, key_at, key_in}
use Rattle.soundness.proofs.Worlds.{both_ways, split, view_world}
use Rattle.soundness.specs.Kept.{Passes, Repeats, IsRepeated}

pub passes_of : (cats : CatalogueEvents) (w : World) (c : Check) (e : Entry) (row : List Value) → Repeats cats c e → Accepts cats w e row → Passes c row
passes_of cats w c e row r (inl is) =
    let key : key_at cats e.parent.number row ≡ key_of c.kept.level row = ap (λ s. key_in s row) r.level in
    let a : accepts (key_of c.kept.level row) e.bound ≡ true = subst (λ k. accepts k e.bound ≡ true) key is in
    subst (λ b. accepts (key_of c.kept.level row) b ≡ true) r.bound a
passes_of cats w c e row r (inr (by_default, none)) = absurd (both_ways (is_default e.bound) by_default r.named)

-- what another transaction does that runs, does not count
pub other_out : (txs : TxEvents) (t u : ℕ) → fate txs u ≡ Running → same_tx txs t u ≡ false → view txs t u ≡ false
other_out txs t u runs other = rw (runs, other) refl

pub entry_mine : (h : History) (w : World) (t : ℕ) (c : Check) (e : Entry) → IsWorld (tx_events h) w → fate (tx_events h) c.by.number ≡ Running → same_tx (tx_events h) t c.by.number ≡ false → w c.by.number ≡ true
    → IsRepeated (tx_events h) (catalogue_events h) (lock_events h) c e → (fate (tx_events h) e.by.number ≡ Running → same_tx (tx_events h) t e.by.number ≡ false → ⊥) → Present (catalogue_events h) (view (tx_events h) t) e
entry_mine h w t c e world runs other counts r alone = elim (split (tx_events h) w t e.by.number world (r.born w world counts)) [
  | inl mine ↦ (r.entry, mine, λ u end. r.unended (view (tx_events h) t) u (view_world (tx_events h) t) (other_out (tx_events h) t c.by.number runs other) end)
  | inr theirs ↦ absurd (alone theirs.0 theirs.1)
]
