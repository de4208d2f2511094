use Rattle.alter_table.proofs.Guards.{may_change}
use Rattle.alter_table.proofs.Marks.{MarkLaws, unmarked, marked_step}
use Rattle.alter_table.proofs.marking.mark.Goals as goal

pub mark_pending-requires : goal.mark_pending-requires
mark_pending-requires c =
    let laws : MarkLaws = record { listed = c.listed_is_there.ensures; marks = c.nobody_else_marks.ensures; follow = c.mark_may_follow.ensures } in
    let old = c.args.stores.now in
    unmarked laws old c.args.caller c.in-Some.by c.args.parent c.args.table.number c.requires.may c.in-Some.ensures.is (may_change old c.args.caller.session c.args.parent c.requires.guarded) c.requires.markable

pub returns : goal.returns
returns c =
    let laws : MarkLaws = record { listed = c.listed_is_there.ensures; marks = c.nobody_else_marks.ensures; follow = c.mark_may_follow.ensures } in
    let old = c.args.stores.now in
    marked_step laws old c.args.caller c.in-Some.by c.args.parent c.args.table.number c.requires.may c.in-Some.ensures.is (may_change old c.args.caller.session c.args.parent c.requires.guarded) c.requires.markable
    c.mark_pending.new.self c.holders-behind.result c.mark_pending.ensures.added (λ h stands k. c.holders-behind.ensures h stands.all.locks k) c.sessions_are_low.ensures
