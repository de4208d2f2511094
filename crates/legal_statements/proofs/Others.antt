-- What a transaction has, and has locked, no other one has dropped or ended.
use Rattle.std.proofs.Common.{◌≡◌, ℕ, ◌==◌, ◌&&◌, not, Bool, true, false, [], ◌∷◌, inl, inr, refl, ap, sym, ◌∙◌, Option, Some, None, arith, cond}
use Rattle.std.proofs.lemmas.Bool.{cases_Bool}
use Rattle.std.proofs.lemmas.Bool.Decides.{nat_tests}
use Rattle.history.specs.declared.catalogue.Stamp.{Stamp}
use Rattle.history.specs.Transactions.{TxEvents, was_aborted, was_committed, open_of}
use Rattle.history.specs.Catalogue.{CatalogueEvents, TableMade, TableDropped, EntryAdded, EntryEnded, EntryMarked, CheckKept, Stamps, drops, entry_ends, counted_of, IsEntryEnd}
use Rattle.history.specs.History.{History, tx_events, catalogue_events}
use Rattle.history.specs.Legal.{IsLegal}
use Rattle.soundness.specs.Worlds.{view}
use Rattle.soundness.proofs.Worlds.{both_ways, alive, alive_world, split}
use Rattle.soundness.proofs.Held.{clash, guarding, own_here, guard_here}
use Rattle.soundness.proofs.All.{legal_keeps_all}
use Rattle.legal_statements.specs.Laws.{NobodyElseDrops, NobodyElseEnds}
use Rattle.legal_statements.proofs.Holding.{session_runs, owns_of, guards_of}
use Rattle.legal_statements.proofs.Names.{counted_drop}

end_of_counted : (txs : TxEvents) (cats : CatalogueEvents) (n : ℕ) (x : Stamp) (k : ℕ) (s : Stamp) (here a : Bool) → (n == k) ≡ here → cond (here && not a) (Some x) (counted_of txs (entry_ends cats) k) ≡ Some s
    → (counted_of txs (entry_ends cats) k ≡ Some s → IsEntryEnd cats k s.by.number) → IsEntryEnd (EntryEnded n x ∷ cats) k s.by.number
end_of_counted txs cats n x k s true false here is rest =
    let e : n ≡ k = grind (arith, nat_tests, here) in
    let same : x ≡ s = cc in
    inl (e, ap (λ (z : Stamp). z.by.number) same)
end_of_counted txs cats n x k s true true here is rest = inr (rest is)
end_of_counted txs cats n x k s false a here is rest = inr (rest is)

-- an end that counts is an end
counted_end : (txs : TxEvents) (cats : CatalogueEvents) (k : ℕ) (s : Stamp) → counted_of txs (entry_ends cats) k ≡ Some s → IsEntryEnd cats k s.by.number
counted_end txs [] k s is = absurd (cc)
counted_end txs (EntryEnded n x ∷ cats) k s is = end_of_counted txs cats n x k s (n == k) (was_aborted txs x.by.number) refl is (counted_end txs cats k s)
counted_end txs (EntryAdded e ∷ cats) k s is = counted_end txs cats k s is
counted_end txs (TableMade t ∷ cats) k s is = counted_end txs cats k s is
counted_end txs (TableDropped n x ∷ cats) k s is = counted_end txs cats k s is
counted_end txs (EntryMarked n x ∷ cats) k s is = counted_end txs cats k s is
counted_end txs (CheckKept c ∷ cats) k s is = counted_end txs cats k s is

alive_first : (txs : TxEvents) (d : Stamp) (s : Stamp) (here a : Bool) (rest : Option Stamp) → was_aborted txs d.by.number ≡ a → cond (here && not a) (Some d) rest ≡ Some s → (rest ≡ Some s → was_aborted txs s.by.number ≡ false) → was_aborted txs s.by.number ≡ false
alive_first txs d s true false rest a is more = let same : d ≡ s = cc in ap (λ (z : Stamp). was_aborted txs z.by.number) (sym same) ∙ a
alive_first txs d s true true rest a is more = more is
alive_first txs d s false b rest a is more = more is

-- whoever did what counts is not aborted
pub counted_alive : (txs : TxEvents) (ds : Stamps) (k : ℕ) (s : Stamp) → counted_of txs ds k ≡ Some s → was_aborted txs s.by.number ≡ false
counted_alive txs [] k s is = absurd (cc)
counted_alive txs (d ∷ ds) k s is = alive_first txs d.1 s (d.0 == k) (was_aborted txs d.1.by.number) (counted_of txs ds k) refl is (counted_alive txs ds k s)

pub alive_of : (txs : TxEvents) (t : ℕ) → was_aborted txs t ≡ false → alive txs t ≡ true
alive_of txs t live = elim (cases_Bool (was_committed txs t)) [
  | inl y ↦ rw (live, y) refl
  | inr n ↦ rw (live, n) refl
]

-- nothing counts of which each doer leads to a contradiction
pub none_counts : (o : Option Stamp) → ((s : Stamp) → o ≡ Some s → ⊥) → o ≡ None
none_counts None never = refl
none_counts (Some s) never = absurd (never s refl)

pub alive_mine : (h : History) (session t : ℕ) → IsLegal h → open_of (tx_events h) session ≡ Some t → alive (tx_events h) t ≡ true
alive_mine h session t legal own =
    let runs = (session_runs h session t legal own).runs in rw runs refl

pub nobody_else_ends : NobodyElseEnds
nobody_else_ends h session t e legal permitted own has guarded =
    let txs = tx_events h in
    let i = legal_keeps_all h legal permitted in
    let acts = session_runs h session t legal own in
    let world = alive_world txs in
    none_counts (counted_of txs (entry_ends (catalogue_events h)) e.id.number) (λ s is.
    let end = counted_end txs (catalogue_events h) e.id.number s is in
    let live = alive_of txs s.by.number (counted_alive txs (entry_ends (catalogue_events h)) e.id.number s is) in
    elim (split txs (alive txs) t s.by.number world live) [
      | inl mine ↦ both_ways (view txs t s.by.number) mine (has.2 s.by.number end)
      | inr other ↦
          clash h (alive txs) t s.by.number e.parent.number i world acts.runs other.0 other.1
          (guard_here h (alive txs) t e.parent.number world acts (alive_mine h session t legal own) (guards_of h session t e.parent.number legal own guarded))
          (i.open_entries.ended (alive txs) e s.by.number world has.0 end other.0 live)
    ])

pub nobody_else_drops : NobodyElseDrops
nobody_else_drops h session t x legal permitted own has owned =
    let txs = tx_events h in
    let i = legal_keeps_all h legal permitted in
    let acts = session_runs h session t legal own in
    let world = alive_world txs in
    none_counts (counted_of txs (drops (catalogue_events h)) x) (λ s is.
    let drop = counted_drop txs (catalogue_events h) x s is in
    let live = alive_of txs s.by.number (counted_alive txs (drops (catalogue_events h)) x s is) in
    elim (split txs (alive txs) t s.by.number world live) [
      | inl mine ↦ both_ways (view txs t s.by.number) mine (has.2 s.by.number drop)
      | inr other ↦
          clash h (alive txs) t s.by.number x i world acts.runs other.0 other.1
          (guarding h (alive txs) t x (own_here h (alive txs) t x world acts (alive_mine h session t legal own) (owns_of h session t x legal own owned)))
          (guarding h (alive txs) s.by.number x (i.open_entries.dropped (alive txs) x s.by.number world drop other.0 live))
    ])
