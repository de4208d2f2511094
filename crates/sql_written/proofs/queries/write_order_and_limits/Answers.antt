use Rattle.std.proofs.Common.{map}
use Rattle.sql_tokens.specs.declared.kind.TokenKind.TheVariants as kinds
use Rattle.sql_ast.specs.Queries.{key_tree, maybe_tree}
use Rattle.sql_written.proofs.WriteSteps.{on_ok}
use Rattle.sql_written.specs.Queries.{clause, order_marks}
use Rattle.sql_written.proofs.WriteQueries.{three_texts}
use Rattle.sql_written.proofs.queries.write_order_and_limits.Goals as goal

pub returns : goal.returns
returns c =
    on_ok c.write_offset.result
    (λ k. three_texts (order_marks (map key_tree c.args.order.now)) (clause kinds.Limit (maybe_tree c.args.limit.now)) (clause kinds.Offset (maybe_tree c.args.offset.now)) _ _ _ _ c.in_ok-write_order.ensures c.in_ok-write_limit.ensures k) c.write_offset.ensures
