use Rattle.std.proofs.Common.{◌≡◌, ◌<◌, length, arith, sym, subst}
use Rattle.std.proofs.lemmas.Grind.{common_steps}
use Rattle.lock_table.specs.Kept.{KeptLocks}
use Rattle.lock_table.specs.Stands.{IsKnown}
use Rattle.lock_table.proofs.Tables.{known_placed, given_kept}
use Rattle.lock_table.proofs.table.LockTable.give.Goals as goal

pub grant-requires-clause-known : goal.grant-requires-clause-known
grant-requires-clause-known c =
    let R : KeptLocks → Type 0 = λ k. IsKnown k.tables c.args.want in
    known_placed _ _ c.args.want c.self.invariant.1.1 (subst R (sym c.self.view_is) c.requires.known)

pub grant-requires-clause-place : goal.grant-requires-clause-place
grant-requires-clause-place c =
    let R : KeptLocks → Type 0 = λ k. IsKnown k.tables c.args.want in
    known_placed _ _ c.args.want c.self.invariant.1.2 (subst R (sym c.self.view_is) c.requires.known)

pub invariant_of-self : goal.invariant_of-self
invariant_of-self c = (
  given_kept _ _ c.self.invariant.0,
  (
    c.self.invariant.1.0,
    grind (arith, common_steps, c.self.invariant.1.1, c.grant.ensures.room),
    grind (arith, common_steps, c.self.invariant.1.2, c.grant.ensures.places),
    c.grant.ensures.taken,
  ),
)

pub returns-clause-low : goal.returns-clause-low
returns-clause-low c =
    let P : KeptLocks → Type 0 = λ k. c.args.session < length k.wants in
    let lt = subst P (sym c.self.view_is) c.requires.session in
    let few = c.self.invariant.0.few in
    omega arith
