use Rattle.std.proofs.Common.{Some, sym, ap, ◌∙◌}
use Rattle.history.specs.declared.wait.Wanted.{Wanted}
use Rattle.history.specs.Waits.{wants_against}
use Rattle.lock_table.proofs.causes.is_against.Goals as goal

pub returns-in-Lock : goal.returns-in-Lock
returns-in-Lock c h ws q st = c.is_first.ensures h ws q st ∙ ap (λ (w : Wanted). wants_against h c.args.x c.args.table c.args.mode (Some w)) (sym c.in-Lock.is)
