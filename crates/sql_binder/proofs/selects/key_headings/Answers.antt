use Rattle.std.proofs.Common.{◌≡◌, map, sym, subst, arith}
use Rattle.std.specs.Prelude.{IfOk}
use Rattle.sql_ast.specs.Queries.{item_tree, key_tree}
use Rattle.sql_binder.specs.Items.{list_headings}
use Rattle.sql_binder.specs.Lent.{heading}
use Rattle.sql_binder.proofs.FirstOutputs.{some_asked}
use Rattle.sql_binder.proofs.selects.key_headings.Goals as goal

pub returns-in-len1-up : goal.returns-in-len1-up
returns-in-len1-up c =
    subst (λ os. IfOk c.output_headings.result (λ hs. map heading hs.items ≡ os))
    (sym (some_asked key_tree c.args.order.now (list_headings c.args.items.now (map item_tree c.args.list.now)) (omega (arith, c.in-len1-up.len_at_least)))) c.output_headings.ensures
