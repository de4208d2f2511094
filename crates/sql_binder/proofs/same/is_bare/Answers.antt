use Rattle.std.proofs.Common.{arith}
use Rattle.sql_ast.specs.Expressions.{trees}
use Rattle.sql_binder.proofs.Bare.{not_bare}
use Rattle.sql_binder.proofs.same.is_bare.Goals as goal

pub returns-in-len1-up : goal.returns-in-len1-up
returns-in-len1-up c = not_bare c.as_slice.result.now (trees c.args.list.now) (omega (arith, c.in-len1-up.len_at_least)) c.as_slice.ensures
