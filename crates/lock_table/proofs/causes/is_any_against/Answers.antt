use Rattle.std.proofs.Common.{sym, ap, ◌∙◌}
use Rattle.history.specs.Waits.{wants_against}
use Rattle.lock_table.proofs.causes.is_any_against.Goals as goal

pub returns-in-Some : goal.returns-in-Some
returns-in-Some c h ws q st = c.is_against.ensures h ws q st ∙ ap (wants_against h c.args.x c.args.table c.args.mode) (sym c.in-Some.is)
