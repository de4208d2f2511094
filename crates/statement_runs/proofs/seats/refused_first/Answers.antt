use Rattle.std.proofs.Common.{ap, sym, ◌∙◌, Some}
use Rattle.statement_runs.specs.Database.{refused_first}
use Rattle.statement_runs.proofs.Runs.{full_first, none_first}
use Rattle.statement_runs.proofs.seats.refused_first.Goals as goal

pub returns-then-cancelled-clause-is : goal.returns-then-cancelled-clause-is
returns-then-cancelled-clause-is c = ap Some c.statement_cancelled.ensures ∙ ap (λ b. refused_first b c.args.cmd) (sym c.if-cancelled.true)

pub returns-then-cmd-lt-COMMAND_LIMIT-clause-is : goal.returns-then-cmd-lt-COMMAND_LIMIT-clause-is
returns-then-cmd-lt-COMMAND_LIMIT-clause-is c = sym (none_first c.args.cancelled c.args.cmd c.if-cancelled.false c.if-cmd-lt-COMMAND_LIMIT.true)

pub returns-clause-is : goal.returns-clause-is
returns-clause-is c = ap Some c.in_ok-fault.ensures ∙ sym (full_first c.args.cancelled c.args.cmd c.if-cancelled.false c.if-cmd-lt-COMMAND_LIMIT.false)
