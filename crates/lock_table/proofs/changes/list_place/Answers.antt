use Rattle.std.proofs.Common.{◌≡◌, true, false, arith}
use Rattle.std.proofs.lemmas.Grind.{common_steps}
use Rattle.lock_table.specs.Kept.{is_empty_at}
use Rattle.lock_table.proofs.Taken.{joined_taken, first_taken, roomier, room_for}
use Rattle.lock_table.proofs.changes.list_place.Goals as goal

pub unwrap-requires : goal.unwrap-requires
unwrap-requires c =
    let free : is_empty_at c.args.held.now c.args.place ≡ true = grind (arith, common_steps, c.is_taken.ensures, c.if-not-is_taken.true) in
    let room = room_for c.args.held.now c.args.taken.now.items _ c.args.place c.requires.room free c.requires.taken in
    grind (arith, common_steps, room)

pub returns-then-not-is_taken-clause-taken : goal.returns-then-not-is_taken-clause-taken
returns-then-not-is_taken-clause-taken c = λ new s held.
    let free : is_empty_at c.args.held.now c.args.place ≡ true = grind (arith, common_steps, c.is_taken.ensures, c.if-not-is_taken.true) in
    let more = first_taken c.args.held.now new c.args.taken.now.items _ c.args.place s c.requires.room free held c.requires.taken in
    rw (c.push.ensures.items, c.unwrap.ensures) (roomier new _ _ _ (grind (arith, common_steps)) more)

pub returns-else-not-is_taken-clause-taken : goal.returns-else-not-is_taken-clause-taken
returns-else-not-is_taken-clause-taken c = λ new s held.
    let some : is_empty_at c.args.held.now c.args.place ≡ false = grind (arith, common_steps, c.is_taken.ensures, c.if-not-is_taken.false) in
    joined_taken c.args.held.now new c.args.taken.now.items _ c.args.place s some held c.requires.taken
