use Rattle.std.proofs.Common.{map, ap, sym, Ok, ◌∙◌}
use Rattle.std.proofs.lemmas.Result.{err_from_is_err_and}
use Rattle.cond_logic.specs.Trees.{cond_tree}
use Rattle.sql_ast.specs.Queries.{item_tree, joined_tree, key_tree, maybe_tree}
use Rattle.cond_logic.specs.Asked.{output_tree, select_meant}
use Rattle.sql_binder.specs.Known.{scope_of, outputs_of}
use Rattle.sql_binder.proofs.Parts.{bound_parts, tail_refused}
use Rattle.sql_binder.proofs.selects.bind_parts.Goals as goal

pub returns-in_err-order : goal.returns-in_err-order
returns-in_err-order c =
    let select = c.args.select.now in
    let p = err_from_is_err_and c.from_residual-in_err-order.result c.from_residual-in_err-order.ensures.1 in
    rw (p.1, p.2)
    (tail_refused c.args.items.now c.args.params.now c.args.session (map item_tree select.items) (map joined_tree select.from) (maybe_tree select.condition) (map key_tree select.order) (maybe_tree select.limit) (maybe_tree select.offset)
    select_meant c.in_err-order.field-0.0 c.names-names.result.now (scope_of c.args.known.now) c.args.counting.now (outputs_of c.args.known.now)
    (map output_tree c.in_ok-outputs.outputs.items, map cond_tree c.in_ok-outputs.conditions.items)
    (c.names-names.ensures ∙ c.requires.scope) c.requires.counting c.in_ok-outputs.ensures c.in_err-order.ensures)

pub returns : goal.returns
returns c =
    let select = c.args.select.now in
    bound_parts c.args.items.now c.args.params.now c.args.session (map item_tree select.items) (map joined_tree select.from) (maybe_tree select.condition) (map key_tree select.order) (maybe_tree select.limit) (maybe_tree select.offset)
    c.names-names.result.now (scope_of c.args.known.now) c.args.counting.now (outputs_of c.args.known.now)
    (map output_tree c.in_ok-outputs.outputs.items, map cond_tree c.in_ok-outputs.conditions.items) (c.in_ok-order.order.items, (c.in_ok-order.limit, c.in_ok-order.offset))
    (c.names-names.ensures ∙ c.requires.scope) c.requires.scope c.requires.counting c.requires.outputs c.in_ok-outputs.ensures c.in_ok-order.ensures
    ∙ ap Ok (sym c.ask_for.ensures)
