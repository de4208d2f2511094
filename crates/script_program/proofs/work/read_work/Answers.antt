use Rattle.std.proofs.Common.{Some, ap, map, option_map, string_bytes, sym, ◌∙◌}
use Rattle.script_program.specs.CommandLine.{asked_by}
use Rattle.script_program.specs.Work.{work_of}
use Rattle.script_program.proofs.WorkLaws.{nothing_asked}
use Rattle.script_program.proofs.work.read_work.Goals as goal

pub returns-in-Ok : goal.returns-in-Ok
returns-in-Ok c = ap (option_map work_of) c.in-Ok.ensures ∙ ap Some (sym c.work_of.ensures)

pub returns-in-Err : goal.returns-in-Err
returns-in-Err c = nothing_asked (asked_by (map string_bytes c.args.words.now)) c.in-Err.refused c.in-Err.ensures
