-- A new table may be added: nothing stands below it, and no version is in it.
use Rattle.std.proofs.Common.{◌≡◌, ℕ, zero, suc, ◌+◌, arith, sym, subst, inr}
use Rattle.history.specs.declared.version.Version.{Version}
use Rattle.history.specs.declared.catalogue.Entry.{Entry}
use Rattle.history.specs.History.{History, tx_events, row_events, catalogue_events}
use Rattle.soundness.specs.Versions.{IsVersion}
use Rattle.soundness.specs.Worlds.{HasLeaf}
use Rattle.soundness.specs.Legal.{MayCreate, Below, OwnsNow}
use Rattle.soundness.specs.Laws.{CreateIsAdd}
use Rattle.soundness.proofs.Worlds.{same_refl, view_own}

nothing_below : (h : History) (e : Entry) (n x : ℕ) → MayCreate h e → Below h e.by.number (suc n) e.child.number x → ⊥
nothing_below h e zero x may (g, p, child, rest) = (may.alone g p).0 (sym rest)
nothing_below h e (suc n) x may (g, p, child, rest) = nothing_below h e n g.parent.number may rest

owns_child : (h : History) (e : Entry) → MayCreate h e → OwnsNow h e.by.number e.child.number
owns_child h e may = (e.by.number, same_refl (tx_events h) e.by.number, view_own (tx_events h) e.by.number may.place.acts.runs, inr may.made)

owns_below : (h : History) (e : Entry) → MayCreate h e → (n x : ℕ) → Below h e.by.number n e.child.number x → OwnsNow h e.by.number x
owns_below h e may zero x is = subst (λ z. OwnsNow h e.by.number z) is (owns_child h e may)
owns_below h e may (suc n) x is = absurd (nothing_below h e n x may is)

not_above : (h : History) (e : Entry) → MayCreate h e → (n : ℕ) → Below h e.by.number n e.child.number e.parent.number → ⊥
not_above h e may zero is = may.another (sym is)
not_above h e may (suc n) is = nothing_below h e n e.parent.number may is

shallow : (h : History) (e : Entry) → MayCreate h e → (n m top x : ℕ) → Below h e.by.number n top e.parent.number → Below h e.by.number m e.child.number x → n + m + 1 ≡ 8 → ⊥
shallow h e may n zero top x up low long = may.shallow n top up (omega (arith, long))
shallow h e may n (suc m) top x up low long = nothing_below h e m x may low

no_row : (h : History) (e : Entry) (v : Version) → MayCreate h e → IsVersion (row_events h) v → (n x : ℕ) → HasLeaf (catalogue_events h) x v.leaf → Below h e.by.number n e.child.number x → ⊥
no_row h e v may is zero x at low = may.empty v is (subst (λ z. HasLeaf (catalogue_events h) z v.leaf) (sym low) at)
no_row h e v may is (suc n) x at low = nothing_below h e n x may low

pub create_is_add : CreateIsAdd
create_is_add h e may = record {
  place = may.place;
  child_locked = owns_below h e may;
  no_partition = λ g p. (may.alone g p).1;
  not_above = not_above h e may;
  shallow = shallow h e may;
  scanned = λ v n x is at low judged. absurd (no_row h e v may is n x at low);
  passes = λ v n x is at low judged. absurd (no_row h e v may is n x at low);
}
