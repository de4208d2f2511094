use Rattle.std.proofs.Common.{◌++◌, List, map}
use Rattle.sql_tokens.specs.declared.kind.TokenKind.TheVariants as kinds
use Rattle.sql_ast.specs.Queries.{item_tree, joined_tree, key_tree, maybe_tree}
use Rattle.sql_ast.specs.declared.select.FromItem.{FromItem}
use Rattle.sql_ast.specs.declared.select.SelectItem.{SelectItem}
use Rattle.sql_ast.specs.declared.select.SortKey.{SortKey}
use Rattle.sql_written.specs.Marks.{text_of}
use Rattle.sql_written.proofs.WriteSteps.{on_ok}
use Rattle.sql_written.specs.Lists.{parts}
use Rattle.sql_written.specs.Queries.{clause, from_marks, item_marks, order_marks}
use Rattle.sql_written.proofs.WriteQueries.{same, select_text}
use Rattle.sql_written.proofs.queries.write_select.Goals as goal

pub returns : goal.returns
returns c =
    let s = c.args.select.now in
    let limits = clause kinds.Limit (maybe_tree s.limit) ++ clause kinds.Offset (maybe_tree s.offset) in
    on_ok c.write_order_and_limits.result
    (select_text (parts item_marks (map item_tree s.items)) (from_marks (map joined_tree s.from)) (clause kinds.Where (maybe_tree s.condition)) (order_marks (map key_tree s.order) ++ limits) _ _ _ _ _ _
    c.in_ok-extend_from_slice.ensures.items
    (same (λ (xs : List SelectItem). text_of (parts item_marks (map item_tree xs))) _ _ _ _ c.as_slice.ensures c.in_ok-write_items.ensures)
    (same (λ (xs : List FromItem). text_of (from_marks (map joined_tree xs))) _ _ _ _ c.as_slice-2.ensures c.in_ok-write_from.ensures)
    c.in_ok-write_where.ensures)
    (on_ok c.write_order_and_limits.result (same (λ (xs : List SortKey). text_of (order_marks (map key_tree xs) ++ limits)) _ _ _ _ c.as_slice-3.ensures) c.write_order_and_limits.ensures)
