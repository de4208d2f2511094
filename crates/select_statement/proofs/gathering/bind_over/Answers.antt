use Rattle.std.proofs.Common.{[], ◌≤◌, arith, map, length, subst, sym}
use Rattle.row_router.specs.Seen.{seen}
use Rattle.sql_ast.specs.Queries.{select_tree}
use Rattle.sql_binder.specs.Selects.{from_of}
use Rattle.cond_logic.specs.Asked.{select_meant}
use Rattle.statement_steps.specs.Steps.{IsStep}
use Rattle.select_statement.specs.Items.{items_of}
use Rattle.statement_steps.proofs.Parts.{out_here}
use Rattle.select_statement.proofs.Whole.{too_many_meant, none_meant}
use Rattle.select_statement.proofs.gathering.bind_over.Goals as goal

pub returns-then-trees-gt4-clause-step : goal.returns-then-trees-gt4-clause-step
returns-then-trees-gt4-clause-step c =
    let many = c.if-trees-gt4.true in
    let each = c.requires.each in
    subst (λ f. IsStep select_meant c.bind.result c.args.stores.now c.args.stores.now c.args.attempt.now.caller c.args.attempt.now.caller.cmd f)
    (sym (too_many_meant c.args.how c.args.params.now c.args.attempt.now.caller (select_tree c.args.select.now) (items_of 0 (from_of (select_tree c.args.select.now)) (map seen c.args.trees.now)) (omega (arith, many, each)))) c.bind.ensures

pub returns-then-trees-gt4-clause-few : goal.returns-then-trees-gt4-clause-few
returns-then-trees-gt4-clause-few c =
    let many = c.if-trees-gt4.true in
    let each = c.requires.each in
    none_meant select_meant c.bind.result c.args.stores.now c.args.how c.args.params.now c.args.attempt.now.caller (select_tree c.args.select.now) [] (λ ask. length c.args.trees.now ≤ 4) (omega (arith, many, each)) c.requires.may c.bind.ensures

pub returns-in_err-items-clause-step : goal.returns-in_err-items-clause-step
returns-in_err-items-clause-step c = out_here c.from_residual.ensures.1
