-- A partition may be marked pending.
use Rattle.std.proofs.Common.{◌≡◌, ℕ, ◌==◌, ◌&&◌, not, Bool, true, false, [], ◌∷◌, inl, inr, refl, ap, sym, subst, ◌∙◌, Some, arith, cond}
use Rattle.std.proofs.lemmas.Bool.Decides.{nat_tests}
use Rattle.history.specs.declared.catalogue.Entry.{Entry}
use Rattle.history.specs.declared.catalogue.Stamp.{Stamp}
use Rattle.history.specs.Transactions.{TxEvents, open_of, was_aborted}
use Rattle.history.specs.Catalogue.{CatalogueEvents, TableMade, TableDropped, EntryAdded, EntryEnded, EntryMarked, CheckKept, marks, counted_of, IsMark}
use Rattle.history.specs.History.{History, tx_events, catalogue_events}
use Rattle.history.specs.Presence.{is_pending}
use Rattle.history.specs.Legal.{IsLegal}
use Rattle.soundness.specs.Legal.{Has, HasPending, GuardsNow}
use Rattle.soundness.proofs.Worlds.{both_ways, alive, alive_world, split}
use Rattle.soundness.proofs.Held.{clash, guard_here}
use Rattle.soundness.proofs.Sound.{catalogue_sound_of, entry_below}
use Rattle.soundness.proofs.All.{legal_keeps_all}
use Rattle.legal_statements.specs.Laws.{NobodyElseMarks, MarkMayFollow}
use Rattle.legal_statements.proofs.Adding.{present_test, listed_for}
use Rattle.legal_statements.proofs.Holding.{session_runs, guards_of}
use Rattle.legal_statements.proofs.Marks.{pending_for}
use Rattle.legal_statements.proofs.Others.{counted_alive, alive_of, none_counts, alive_mine}
use Rattle.legal_statements.proofs.There.{has_listed}

mark_of_counted : (txs : TxEvents) (cats : CatalogueEvents) (n : ℕ) (x : Stamp) (k : ℕ) (s : Stamp) (here a : Bool) → (n == k) ≡ here → cond (here && not a) (Some x) (counted_of txs (marks cats) k) ≡ Some s
    → (counted_of txs (marks cats) k ≡ Some s → IsMark cats k s.by.number) → IsMark (EntryMarked n x ∷ cats) k s.by.number
mark_of_counted txs cats n x k s true false here is rest =
    let e : n ≡ k = grind (arith, nat_tests, here) in
    let same : x ≡ s = cc in
    inl (e, ap (λ (z : Stamp). z.by.number) same)
mark_of_counted txs cats n x k s true true here is rest = inr (rest is)
mark_of_counted txs cats n x k s false a here is rest = inr (rest is)

-- a mark that counts is a mark
counted_mark : (txs : TxEvents) (cats : CatalogueEvents) (k : ℕ) (s : Stamp) → counted_of txs (marks cats) k ≡ Some s → IsMark cats k s.by.number
counted_mark txs [] k s is = absurd (cc)
counted_mark txs (EntryMarked n x ∷ cats) k s is = mark_of_counted txs cats n x k s (n == k) (was_aborted txs x.by.number) refl is (counted_mark txs cats k s)
counted_mark txs (EntryAdded e ∷ cats) k s is = counted_mark txs cats k s is
counted_mark txs (TableMade t ∷ cats) k s is = counted_mark txs cats k s is
counted_mark txs (TableDropped n x ∷ cats) k s is = counted_mark txs cats k s is
counted_mark txs (EntryEnded n x ∷ cats) k s is = counted_mark txs cats k s is
counted_mark txs (CheckKept c ∷ cats) k s is = counted_mark txs cats k s is

-- who does not have an entry pending by its session's words does not have it so at all
not_pending : (h : History) (session t : ℕ) (e : Entry) → IsLegal h → open_of (tx_events h) session ≡ Some t → Has h t e → is_pending h session e ≡ false → HasPending h t e → ⊥
not_pending h session t e legal own has out pending = both_ways (is_pending h session e) (pending_for h session t e legal own (present_test h session e (listed_for h session t e legal own has)) pending) out

pub nobody_else_marks : NobodyElseMarks
nobody_else_marks h session t e legal permitted own has out guarded =
    let txs = tx_events h in
    let i = legal_keeps_all h legal permitted in
    let acts = session_runs h session t legal own in
    let world = alive_world txs in
    none_counts (counted_of txs (marks (catalogue_events h)) e.id.number) (λ s is.
    let mark = counted_mark txs (catalogue_events h) e.id.number s is in
    let live = alive_of txs s.by.number (counted_alive txs (marks (catalogue_events h)) e.id.number s is) in
    elim (split txs (alive txs) t s.by.number world live) [
      | inl mine ↦ not_pending h session t e legal own has out (s.by.number, mark, mine)
      | inr other ↦
          clash h (alive txs) t s.by.number e.parent.number i world acts.runs other.0 other.1
          (guard_here h (alive txs) t e.parent.number world acts (alive_mine h session t legal own) (guards_of h session t e.parent.number legal own guarded))
          (i.open_entries.marked (alive txs) e s.by.number world has.0 mark other.0 live)
    ])

pub mark_may_follow : MarkMayFollow
mark_may_follow h session e s legal permitted new =
    let t = s.by.number in
    let has = has_listed h session t e legal new.own new.present in
    let i = legal_keeps_all h legal permitted in (
      record {
        legal = (entry_below h e (catalogue_sound_of h legal) has.0, nobody_else_marks h session t e legal permitted new.own has (new.none_pending e new.present refl) new.guarded);
        in_order = new.command;
        permitted = record {
          acts = session_runs h session t legal new.own;
          locked = λ f entry at.
              let same : e ≡ f = i.entries.numbered e f has.0 entry (sym at) in
              subst (λ (z : Entry). GuardsNow h t z.parent.number) same (guards_of h session t e.parent.number legal new.own new.guarded);
          none_beside = λ f g entry at hasg of.
              let same : e ≡ f = i.entries.numbered e f has.0 entry (sym at) in
              let beside : g.parent.number ≡ e.parent.number = of ∙ ap (λ (z : Entry). z.parent.number) (sym same) in
              let listed = listed_for h session t g legal new.own hasg in
              (not_pending h session t g legal new.own hasg (new.none_pending g listed beside), new.no_default g listed beside);
        };
      },
      tt,
    )
