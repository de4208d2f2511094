use Rattle.schedule.specs.Run.{Anything}
use Rattle.script_program.specs.Program.{WorkBegins, WorkEnds}
use Rattle.script_program.specs.Reading.{Whole}
use Rattle.script_program.proofs.Answers.{answer_begins, begins_more}
use Rattle.script_program.proofs.Works.{work_begins, work_begins_anyhow}
use Rattle.step_engine.specs.Run.{rules, opened, refused, HoldsThroughout}
use Rattle.script_ends.proofs.laws.what_was_written_begins_it.Goals as goal

pub returns : goal.returns
returns c words trail text script bytes run is begins =
    let h = c.scripts_have_an_outcome.ensures words trail text script run is in
    let anyhow = begins_more (WorkBegins rules HoldsThroughout opened refused) (WorkBegins rules Anything opened refused) words (work_begins_anyhow rules HoldsThroughout opened refused) (Whole text) bytes begins in
    let more = answer_begins (WorkEnds rules Anything opened refused) words (WorkBegins rules Anything opened refused) (work_begins rules Anything opened refused) (Whole text) bytes h.outcome anyhow h.is in
    record { outcome = h.outcome; is = h.is; rest = more.0; whole = more.1 }
