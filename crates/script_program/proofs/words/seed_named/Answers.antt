use Rattle.std.proofs.Common.{◌≡◌, ◌∙◌, ap}
use Rattle.std.specs.Result.{result_ok}
use Rattle.script_program.proofs.WordLaws.{seed_parsed}
use Rattle.script_program.proofs.words.seed_named.Goals as goal

pub returns-in-Ok : goal.returns-in-Ok
returns-in-Ok c = seed_parsed c.args.text.now c.parse.result c.parse.ensures.value.0 ∙ ap result_ok c.in-Ok.is

pub returns-in-Err : goal.returns-in-Err
returns-in-Err c = seed_parsed c.args.text.now c.parse.result c.parse.ensures.value.0 ∙ ap result_ok c.in-Err.is
