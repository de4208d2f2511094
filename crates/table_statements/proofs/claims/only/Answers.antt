use Rattle.std.proofs.Common.{◌==◌, ◌||◌, ◌∙◌, ap}
use Rattle.table_statements.proofs.Taken.{only_is}
use Rattle.table_statements.proofs.claims.only.Goals as goal

pub returns : goal.returns
returns c = only_is c.args.session c.with.result (λ k. c.with.ensures k ∙ ap (λ b. (k == c.args.session) || b) (c.empty.ensures.has k))
