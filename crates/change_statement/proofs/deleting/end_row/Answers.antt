use Rattle.std.proofs.Common.{sym}
use Rattle.row_change.proofs.Successors.{end_keeps}
use Rattle.statement_steps.specs.Gathered.{found_of}
use Rattle.change_statement.proofs.Ended.{ended_run}
use Rattle.change_statement.proofs.deleting.end_row.Goals as goal

pub returns-clause-run : goal.returns-clause-run
returns-clause-run c =
    ended_run c.args.stores.now c.end_version.new.self c.args.caller (found_of c.args.gathered.now) c.args.id c.in-Some.by c.requires.may c.requires.row (sym c.in-Some.ensures.kept) c.end_version.ensures.added

pub returns-clause-keeps : goal.returns-clause-keeps
returns-clause-keeps c = end_keeps c.args.stores.now.rows c.end_version.new.self c.args.id.number _ c.end_version.ensures.kept
