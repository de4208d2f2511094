use Rattle.std.proofs.Common.{◌≡◌, ◌∙◌, codes, option_map, ap, refl}
use Rattle.std.proofs.lemmas.Result.{err_from_is_err_and}
use Rattle.clap.proofs.WalkLemmas.{first_value-rows, one_text-rows}
use Rattle.clap.specs.Matches.{found_of}
use Rattle.clap.specs.Walk.{first_of, rows_of}
use Rattle.script_program.proofs.WordLaws.{all_read, day_refused, mode_refused, seed_refused}
use Rattle.script_program.specs.CommandLine.{flag_in}
use Rattle.script_program.proofs.words.asked_in.Goals as goal

pub returns-in_err-mode : goal.returns-in_err-mode
returns-in_err-mode c =
    let found = found_of c.args.matches.now in
    let p = err_from_is_err_and c.from_residual.result c.from_residual.ensures.1 in
    let mode_is = c.get_str.ensures ∙ first_value-rows found (codes "mode") in
    rw (p.1, p.2) (mode_refused (rows_of found) _ _ _ mode_is refl refl c.in_err-mode.field-0.0 c.in_err-mode.ensures)

pub returns-in_err-today : goal.returns-in_err-today
returns-in_err-today c =
    let found = found_of c.args.matches.now in
    let p = err_from_is_err_and c.from_residual-in_err-today.result c.from_residual-in_err-today.ensures.1 in
    let mode_is = c.get_str.ensures ∙ first_value-rows found (codes "mode") in
    let today_is = c.get_str-2.ensures ∙ first_value-rows found (codes "today") in
    rw (p.1, p.2) (day_refused (rows_of found) _ _ _ mode_is today_is refl c.in_ok-mode.mode c.in_err-today.field-0.0 c.in_ok-mode.ensures c.in_err-today.ensures)

pub returns-in_err-seed : goal.returns-in_err-seed
returns-in_err-seed c =
    let found = found_of c.args.matches.now in
    let p = err_from_is_err_and c.from_residual-in_err-seed.result c.from_residual-in_err-seed.ensures.1 in
    let mode_is = c.get_str.ensures ∙ first_value-rows found (codes "mode") in
    let today_is = c.get_str-2.ensures ∙ first_value-rows found (codes "today") in
    let seed_is = c.get_str-3.ensures ∙ first_value-rows found (codes "seed") in
    rw (p.1, p.2) (seed_refused (rows_of found) _ _ _ mode_is today_is seed_is c.in_ok-mode.mode c.in_ok-today.today c.in_err-seed.field-0.0 c.in_ok-mode.ensures c.in_ok-today.ensures c.in_err-seed.ensures)

pub returns : goal.returns
returns c =
    let found = found_of c.args.matches.now in
    let mode_is = c.get_str.ensures ∙ first_value-rows found (codes "mode") in
    let today_is = c.get_str-2.ensures ∙ first_value-rows found (codes "today") in
    let seed_is = c.get_str-3.ensures ∙ first_value-rows found (codes "seed") in
    let trail_is = c.is_given-trail.ensures ∙ ap flag_in (one_text-rows found (codes "trail")) in
    all_read (rows_of found) _ _ _ mode_is today_is seed_is c.in_ok-mode.mode c.in_ok-today.today c.is_given-trail.result c.in_ok-seed.seed c.in_ok-mode.ensures c.in_ok-today.ensures trail_is c.in_ok-seed.ensures
