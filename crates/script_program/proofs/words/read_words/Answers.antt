use Rattle.std.proofs.Common.{◌≡◌, ◌∙◌, [], map, string_bytes, ap, sym}
use Rattle.clap.specs.Faults.{fault_of, is_simple_and_free}
use Rattle.clap.specs.Matches.{found_of}
use Rattle.clap.specs.Simple.{App, app_of, is_simple, matches_of}
use Rattle.clap.specs.Walk.{rows_of}
use Rattle.script_program.proofs.WordLaws.{by_matches}
use Rattle.script_program.specs.CommandLine.{command_line}
use Rattle.script_program.proofs.words.read_words.Goals as goal

pub returns-in-Ok : goal.returns-in-Ok
returns-in-Ok c =
    let words = map string_bytes c.args.words.now in
    let is : app_of c.in_ok-command_line.field-0 ≡ command_line = c.in_ok-command_line.ensures in
    let found : rows_of (found_of c.in-Ok.matches) ≡ matches_of command_line words =
    (c.in-Ok.ensures.matches (ap is_simple is)).0 ∙ ap (λ (a : App). matches_of a words) is in
    let fine : fault_of command_line words ≡ [] =
    ap (λ (a : App). fault_of a words) (sym is) ∙ c.in-Ok.ensures.kinds (ap is_simple_and_free is) in
    by_matches words (rows_of (found_of c.in-Ok.matches)) c.asked_in.result fine found c.asked_in.ensures
