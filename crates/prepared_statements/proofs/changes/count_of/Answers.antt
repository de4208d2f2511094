use Rattle.std.proofs.Common.{sym, ap, ◌∙◌}
use Rattle.sql_binder.specs.Inserts as inserts
use Rattle.sql_binder.proofs.Places.{count_is}
use Rattle.prepared_statements.proofs.changes.count_of.Goals as goal

pub returns : goal.returns
returns c = sym (count_is c.as_slice.result.now) ∙ ap inserts.count_of c.as_slice.ensures
