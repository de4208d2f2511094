use Rattle.std.proofs.Common.{◌≡◌, false, Some, sym, subst}
use Rattle.pg_values.specs.Sets.{has}
use Rattle.pg_values.specs.declared.session_set.SessionSet.{SessionSet}
use Rattle.history.specs.declared.wait.WaitOn.TheVariants.{Ends}
use Rattle.statement_steps.specs.declared.rest.Rest.TheVariants.{Rows}
use Rattle.statement_steps.specs.Asks.{waited}
use Rattle.statement_steps.specs.Steps.{IsPart}
use Rattle.statement_steps.proofs.Steps.{as_part, may_go_on, stop_part, then_part}
use Rattle.change_statement.specs.Changed.{held_now, waits_for_end}
use Rattle.change_statement.proofs.Pausing.{handed_part, only_others}
use Rattle.change_statement.proofs.waiting.wait_for_end.Goals as goal

pub wait_for_row-requires-clause-may : goal.wait_for_row-requires-clause-may
wait_for_row-requires-clause-may c = may_go_on _ _ _ _ _ _ c.requires.may c.in_ok-hold.ensures.step

pub wait_for_row-requires-clause-others : goal.wait_for_row-requires-clause-others
wait_for_row-requires-clause-others c = subst (λ (s : SessionSet). has s c.args.attempt.now.caller.session ≡ false) (sym c.only.ensures) (only_others c.args.other c.args.attempt.now.caller.session (λ same. c.requires.another (sym same)))

pub returns-in_err-hold : goal.returns-in_err-hold
returns-in_err-hold c =
    handed_part c.from_residual.ensures.1
    (stop_part _ _ _ _ _ _ _ _ (held_now c.args.attempt.now.caller) (λ u. waits_for_end c.args.attempt.now.names.now c.args.attempt.now.caller c.args.other c.args.rest) (as_part _ _ _ _ _ _ _ c.in_err-hold.ensures.step))

pub returns : goal.returns
returns c =
    then_part _ _ _ _ _ _ _ _ _ (held_now c.args.attempt.now.caller) (λ u. waits_for_end c.args.attempt.now.names.now c.args.attempt.now.caller c.args.other c.args.rest) c.in_ok-hold.ensures.step
    (subst (λ (o : SessionSet). IsPart (λ (u : Unit {0}). u) c.wait_for_row.result c.hold.new.stores c.wait_for_row.new.stores c.args.attempt.now.caller c.args.attempt.now.caller.cmd (waited c.args.attempt.now.names.now c.args.attempt.now.caller.session (Ends o) (Some (Rows c.args.rest)))) c.only.ensures c.wait_for_row.ensures.part)
