use Rattle.std.proofs.Common.{◌≡◌, ◌<◌, None, Some, is_some, refl, arith, length, slice_index_or, nat_eq, false, sym, ap, subst, ◌∙◌}
use Rattle.std.specs.List.{list_any}
use Rattle.std.proofs.lemmas.Grind.{common_steps, elements}
use Rattle.lock_table.specs.Kept.{KeptLocks}
use Rattle.lock_table.specs.Stands.{IsKnown, waiting}
use Rattle.lock_table.proofs.Tables.{waited_kept, has_place}
use Rattle.lock_table.proofs.table.LockTable.begin_wait.Goals as goal

pub unwrap-requires : goal.unwrap-requires
unwrap-requires c =
    let P : KeptLocks → Type 0 = λ k. c.args.session < length k.wants in
    let Q : KeptLocks → Type 0 = λ k. slice_index_or k.wants c.args.session None ≡ None in
    let place = has_place _ c.args.session c.self.invariant.0 (subst P (sym c.self.view_is) c.requires.session) (subst Q (sym c.self.view_is) c.requires.idle) in
    grind (arith, common_steps, place, c.self.invariant.1.0)

pub invariant_of-self : goal.invariant_of-self
invariant_of-self c =
    let P : KeptLocks → Type 0 = λ k. c.args.session < length k.wants in
    let Q : KeptLocks → Type 0 = λ k. slice_index_or k.wants c.args.session None ≡ None in
    let R : KeptLocks → Type 0 = λ k. IsKnown k.tables (Some c.args.want) in
    let kept = waited_kept _ c.args.session c.args.want c.self.invariant.0 (subst P (sym c.self.view_is) c.requires.session) (subst Q (sym c.self.view_is) c.requires.idle) (subst R (sym c.self.view_is) c.requires.known) in
    (rw (c.push.ensures.items, c.unwrap.ensures) kept, (grind (arith, common_steps, c.self.invariant.1.0), c.self.invariant.1.1, c.self.invariant.1.2, c.self.invariant.1.3))

pub returns-clause-kept : goal.returns-clause-kept
returns-clause-kept c = rw (c.push.ensures.items, c.unwrap.ensures) (ap (λ k. waiting k c.args.session c.args.want) c.self.view_is)

pub returns-clause-new : goal.returns-clause-new
returns-clause-new c =
    let Q : KeptLocks → Type 0 = λ k. slice_index_or k.wants c.args.session None ≡ None in
    let new = c.self.invariant.0.each c.args.session ∙ ap is_some (subst Q (sym c.self.view_is) c.requires.idle) in
    let N : KeptLocks → Type 0 = λ k. list_any (nat_eq c.args.session) k.queue ≡ false in
    subst N c.self.view_is new

pub returns-clause-low : goal.returns-clause-low
returns-clause-low c =
    let P : KeptLocks → Type 0 = λ k. c.args.session < length k.wants in
    let lt = subst P (sym c.self.view_is) c.requires.session in
    let few = c.self.invariant.0.few in
    omega arith
