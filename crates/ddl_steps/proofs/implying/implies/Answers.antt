use Rattle.std.proofs.Common.{sym, ◌∙◌}
use Rattle.ddl_steps.proofs.Levels.{of_same_level}
use Rattle.ddl_steps.proofs.implying.implies.Goals as goal

pub within-requires-clause-fit : goal.within-requires-clause-fit
within-requires-clause-fit c =
    let level = c.args.level.now in
    let k = c.args.check.now in
    c.level_bounds_compare.ensures level c.args.bound.now k.bound c.requires.own (of_same_level level k.level k.bound (sym c.same_level.ensures ∙ c.if-same_level.true) c.requires.other)

pub within-requires-clause-of_kind : goal.within-requires-clause-of_kind
within-requires-clause-of_kind c = c.level_bounds_have_a_kind.ensures.kind c.args.level.now c.args.bound.now c.requires.own
