use Rattle.std.proofs.Common.{◌+◌, refl}
use Rattle.statement_steps.proofs.Parts.{locks_same, no_memory}
use Rattle.statement_steps.proofs.Steps.{handed_on}
use Rattle.stores.specs.declared.stores.Stores.{Stores}
use Rattle.alter_table.specs.Concurrent.{partition_left}
use Rattle.alter_table.proofs.Guards.{may_change, may_own}
use Rattle.alter_table.proofs.KeptPlaces.{KeepLaws, keepable, endable_behind, kept_step}
use Rattle.alter_table.proofs.leaving.leave_parent.Goals as goal

pub new_check-requires-clause-siblings : goal.new_check-requires-clause-siblings
new_check-requires-clause-siblings c = c.trees_are_together.ensures c.args.stores.now c.requires.may.sound.0 c.args.attempt.now.caller.session c.requires.may.sound.1

pub keep-requires : goal.keep-requires
keep-requires c =
    let laws : KeepLaws = record { leave = record { listed = c.listed_is_there.ensures; ends = c.nobody_else_ends.ensures; follow = c.drop_may_follow.ensures }; keeps = c.legal_keeps_all.ensures; check = c.check_may_follow.ensures } in
    let old = c.args.stores.now in
    keepable laws old c.args.attempt.now.caller c.in-Some.by c.args.parent c.args.table.number c.requires.may c.in-Some.ensures.is (may_change old c.args.attempt.now.caller.session c.args.parent c.requires.guarded) c.requires.partition
    c.requires.pending (may_own old c.args.attempt.now.caller.session c.args.table.number c.requires.owned) c.in_ok-check.check c.in_ok-check.ensures

pub end_entry-requires : goal.end_entry-requires
end_entry-requires c =
    let laws : KeepLaws = record { leave = record { listed = c.listed_is_there.ensures; ends = c.nobody_else_ends.ensures; follow = c.drop_may_follow.ensures }; keeps = c.legal_keeps_all.ensures; check = c.check_may_follow.ensures } in
    let old = c.args.stores.now in
    endable_behind laws old c.args.attempt.now.caller c.in-Some.by c.args.parent c.args.table.number c.requires.may c.in-Some.ensures.is (may_change old c.args.attempt.now.caller.session c.args.parent c.requires.guarded) c.requires.partition
    c.requires.pending (may_own old c.args.attempt.now.caller.session c.args.table.number c.requires.owned) c.in_ok-check.check c.in_ok-check.ensures c.keep.new.catalog c.in_ok-keep.ensures

pub returns : goal.returns
returns c =
    let laws : KeepLaws = record { leave = record { listed = c.listed_is_there.ensures; ends = c.nobody_else_ends.ensures; follow = c.drop_may_follow.ensures }; keeps = c.legal_keeps_all.ensures; check = c.check_may_follow.ensures } in
    let old = c.args.stores.now in
    kept_step laws old c.args.attempt.now.caller c.in-Some.by c.args.parent c.args.table.number c.requires.may c.in-Some.ensures.is (may_change old c.args.attempt.now.caller.session c.args.parent c.requires.guarded) c.requires.partition
    c.requires.pending (may_own old c.args.attempt.now.caller.session c.args.table.number c.requires.owned) c.in_ok-check.check c.in_ok-check.ensures c.keep.new.catalog c.end_entry.new.self c.in_ok-keep.ensures c.end_entry.ensures.added

pub returns-in_err-keep : goal.returns-in_err-keep
returns-in_err-keep c =
    let old = c.args.stores.now in
    let new : Stores = record old { catalog = c.keep.new.catalog } in
    handed_on c.from_residual-in_err-keep.ensures.1 (no_memory (λ (u : Unit {0}). u) old new c.args.attempt.now.caller (c.args.attempt.now.caller.cmd + 1) (partition_left c.args.attempt.now.caller c.args.parent.number c.args.table.number) (locks_same old new c.args.attempt.now.caller.session refl refl))
