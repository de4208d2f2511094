use Rattle.std.proofs.Common.{inl, inr}
use Rattle.ddl_steps.proofs.Locks.{held_at_history}
use Rattle.alter_table.proofs.LeftPlaces.{LeaveLaws, standing, left_step}
use Rattle.alter_table.proofs.detached.leave_place.Goals as goal

pub end_entry-requires : goal.end_entry-requires
end_entry-requires c =
    let laws : LeaveLaws = record { listed = c.listed_is_there.ensures; ends = c.nobody_else_ends.ensures; follow = c.drop_may_follow.ensures } in
    standing laws c.args.stores.now c.args.caller c.in-Some.by c.args.parent c.args.table.number c.requires.may c.in-Some.ensures.is
    (λ h stands. inr (inl (held_at_history c.args.stores.now h c.args.caller.session c.args.parent.number stands c.requires.locked))) c.requires.partition

pub returns : goal.returns
returns c =
    let laws : LeaveLaws = record { listed = c.listed_is_there.ensures; ends = c.nobody_else_ends.ensures; follow = c.drop_may_follow.ensures } in
    left_step laws c.args.stores.now c.args.caller c.in-Some.by c.args.parent c.args.table.number c.requires.may c.in-Some.ensures.is
    (λ h stands. inr (inl (held_at_history c.args.stores.now h c.args.caller.session c.args.parent.number stands c.requires.locked))) c.requires.partition c.end_entry.new.self c.end_entry.ensures.added
