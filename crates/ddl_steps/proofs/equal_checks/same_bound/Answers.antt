use Rattle.ddl_steps.proofs.equal_checks.same_bound.Goals as goal

pub within-inner-requires-clause-fit : goal.within-inner-requires-clause-fit
within-inner-requires-clause-fit c = let both = c.requires in c.level_bounds_compare.ensures both.0 c.args.b.now c.args.a.now both.2 both.1

pub within-inner-requires-clause-of_kind : goal.within-inner-requires-clause-of_kind
within-inner-requires-clause-of_kind c = let both = c.requires in c.level_bounds_have_a_kind.ensures.kind both.0 c.args.b.now both.2

pub within-outer-requires-clause-fit : goal.within-outer-requires-clause-fit
within-outer-requires-clause-fit c = let both = c.requires in c.level_bounds_compare.ensures both.0 c.args.a.now c.args.b.now both.1 both.2

pub within-outer-requires-clause-of_kind : goal.within-outer-requires-clause-of_kind
within-outer-requires-clause-of_kind c = let both = c.requires in c.level_bounds_have_a_kind.ensures.kind both.0 c.args.a.now both.1
