use Rattle.std.proofs.Common.{◌≡◌, [], drop, sym, ap, ◌∙◌}
use Rattle.ddl_steps.proofs.Levels.{no_columns, none_beside}
use Rattle.ddl_steps.proofs.equal_checks.same_columns.Goals as goal
use Rattle.ddl_steps.specs.Checks.{same_columns}

pub returns-in-None : goal.returns-in-None
returns-in-None c =
    let a = c.args.a.now in
    let i = c.loop-column.column-index in
    let none : c.loop-column.left.now ≡ [] = no_columns c.loop-column.left.now c.in-None.ensures.cases in
    sym (none_beside a i c.loop-column-test.true) ∙ (ap (same_columns (drop i a)) (sym none) ∙ c.loop-column.invariant)
