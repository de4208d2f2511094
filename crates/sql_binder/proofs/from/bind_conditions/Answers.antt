use Rattle.std.proofs.Common.{◌≡◌, Ok, map, ap, subst}
use Rattle.cond_logic.specs.Trees.{cond_tree}
use Rattle.sql_ast.specs.Expressions.{tree}
use Rattle.sql_ast.specs.Queries.{joined_tree, maybe_tree}
use Rattle.expression_binder.specs.Firsts.{or_first}
use Rattle.expression_binder.specs.Meanings.{constant_faults, meaning}
use Rattle.sql_binder.proofs.Conditions.{made_with}
use Rattle.sql_binder.proofs.from.bind_conditions.Goals as goal

pub returns-in_ok-add-in-Some : goal.returns-in_ok-add-in-Some
returns-in_ok-add-in-Some c =
    let t = tree c.in-Some.e in
    let k = subst (λ s. or_first (constant_faults s t) (meaning s t) ≡ Ok (cond_tree c.in_ok-cond-in-Some.cond)) c.condition_names.ensures c.in_ok-cond-in-Some.ensures in
    made_with c.args.params.now c.args.session c.args.items.now (map joined_tree c.args.tables.now) t (maybe_tree c.args.condition.now) c.in_ok-conds.conds.items _ c.in_ok-cond-in-Some.cond
    (ap maybe_tree c.in-Some.is) c.in_ok-conds.ensures k c.in_ok-add-in-Some.ensures
