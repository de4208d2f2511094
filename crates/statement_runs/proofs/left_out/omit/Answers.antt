use Rattle.statement_runs.proofs.Whole.{omitted_is}
use Rattle.statement_runs.proofs.left_out.omit.Goals as goal

pub returns-in-Ok : goal.returns-in-Ok
returns-in-Ok c left out = omitted_is left c.args.word.now c.in-Ok.fault c.args.stores.now c.args.attempt.now.caller out c.requires c.in-Ok.ensures
