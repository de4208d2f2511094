use Rattle.std.proofs.Common.{◌≤◌, ◌∙◌, All, length, sym, subst}
use Rattle.stores.specs.declared.stores.Stores.{Stores}
use Rattle.statement_steps.specs.Asks.{held_at}
use Rattle.statement_steps.specs.Gathered.{found_of}
use Rattle.statement_steps.proofs.Steps.{may_go_on}
use Rattle.change_statement.specs.Changed.{changed, told_by}
use Rattle.change_statement.specs.Changing.{changing, gathered_and_changed}
use Rattle.change_statement.specs.Gathered.{gathered_for}
use Rattle.change_statement.specs.Running.{IsTargetIn}
use Rattle.change_statement.proofs.Commands.{handed_command, may_begin, out_command, run_is_command, stop_command, then_command}
use Rattle.change_statement.proofs.EachRow.{from_there}
use Rattle.change_statement.proofs.statement.begin.Goals as goal

pub gather-requires-clause-may : goal.gather-requires-clause-may
gather-requires-clause-may c = may_go_on _ _ _ _ _ _ c.requires.may c.in_ok-hold_if_repeatable.ensures.step

pub gather-requires-clause-few : goal.gather-requires-clause-few
gather-requires-clause-few c = subst (λ (s : Stores). length s.catalog.tables ≤ 4096) (sym c.hold_if_repeatable.ensures.rest) c.requires.few

pub find-requires-clause-may : goal.find-requires-clause-may
find-requires-clause-may c = may_go_on _ _ _ _ _ _ (may_go_on _ _ _ _ _ _ c.requires.may c.in_ok-hold_if_repeatable.ensures.step) c.in_ok-gathered.ensures.step

pub find-requires-clause-gathered : goal.find-requires-clause-gathered
find-requires-clause-gathered c = c.in_ok-gathered.ensures.found

pub change_rows-requires-clause-may : goal.change_rows-requires-clause-may
change_rows-requires-clause-may c =
    may_begin c.gather.new.stores c.args.attempt.now.caller (found_of c.in_ok-gathered.gathered) (may_go_on _ _ _ _ _ _ (may_go_on _ _ _ _ _ _ c.requires.may c.in_ok-hold_if_repeatable.ensures.step) c.in_ok-gathered.ensures.step) c.requires.next c.in_ok-gathered.ensures.found

pub change_rows-requires-clause-targets : goal.change_rows-requires-clause-targets
change_rows-requires-clause-targets c = subst (All (IsTargetIn c.gather.new.stores.rows (found_of c.in_ok-gathered.gathered))) (sym c.deref.ensures.value) c.in_ok-targets.ensures.there

pub returns-in_err-hold_if_repeatable : goal.returns-in_err-hold_if_repeatable
returns-in_err-hold_if_repeatable c =
    let caller = c.args.attempt.now.caller in
    handed_command c.from_residual.ensures.1
    (stop_command (held_at caller.level caller.session caller.cmd) (λ u. gathered_and_changed c.args.how c.args.attempt.now.names.now c.args.params.now caller c.args.change) c.in_err-hold_if_repeatable.ensures.step)

pub returns-in_err-gathered : goal.returns-in_err-gathered
returns-in_err-gathered c =
    let names = c.args.attempt.now.names.now in
    let caller = c.args.attempt.now.caller in
    handed_command c.from_residual-in_err-gathered.ensures.1
    (then_command (held_at caller.level caller.session caller.cmd) (λ u. gathered_and_changed c.args.how names c.args.params.now caller c.args.change) c.in_ok-hold_if_repeatable.ensures.step
    (stop_command (gathered_for c.args.how names c.args.params.now caller c.args.change) (λ g. changed (changing c.args.change caller g) names caller g) c.in_err-gathered.ensures.step))

pub returns-in_err-targets : goal.returns-in_err-targets
returns-in_err-targets c =
    let caller = c.args.attempt.now.caller in
    then_command (held_at caller.level caller.session caller.cmd) (λ u. gathered_and_changed c.args.how c.args.attempt.now.names.now c.args.params.now caller c.args.change) c.in_ok-hold_if_repeatable.ensures.step
    (out_command c.from_residual-in_err-targets.ensures.1 c.in_ok-gathered.ensures.step)

pub returns : goal.returns
returns c =
    let names = c.args.attempt.now.names.now in
    let caller = c.args.attempt.now.caller in
    let found = found_of c.in_ok-gathered.gathered in
    let mid = c.gather.new.stores in
    let may = may_go_on _ _ _ _ _ _ (may_go_on _ _ _ _ _ _ c.requires.may c.in_ok-hold_if_repeatable.ensures.step) c.in_ok-gathered.ensures.step in
    then_command (held_at caller.level caller.session caller.cmd) (λ u. gathered_and_changed c.args.how names c.args.params.now caller c.args.change) c.in_ok-hold_if_repeatable.ensures.step
    (then_command (gathered_for c.args.how names c.args.params.now caller c.args.change) (λ g. changed (changing c.args.change caller g) names caller g) c.in_ok-gathered.ensures.step
    (run_is_command told_by c.change_rows.result mid c.change_rows.new.stores caller found (changed (changing c.args.change caller found) names caller found) may c.in_ok-gathered.ensures.found
    (from_there (changing c.args.change caller found) names c.change_rows.result mid c.change_rows.new.stores caller found c.deref.result.now (λ h stands. c.deref.ensures.value ∙ c.in_ok-targets.ensures.are h stands) c.change_rows.ensures)))
