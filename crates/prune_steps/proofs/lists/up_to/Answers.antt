use Rattle.part_bounds.proofs.Strategies.{lists_have_points}
use Rattle.std.proofs.Common.{arith}
use Rattle.prune_steps.proofs.RunOfLaws.{run_up_to}
use Rattle.prune_steps.proofs.Runs.{at_least, at_most}
use Rattle.prune_steps.proofs.lists.up_to.Goals as goal

pub points_below-requires-clause-level : goal.points_below-requires-clause-level
points_below-requires-clause-level g c = lists_have_points c.args.set.now c.requires.level

pub points_below-requires-clause-there : goal.points_below-requires-clause-there
points_below-requires-clause-there g c = omega (arith, c.requires.fits.single)

pub points_below-requires-clause-fits : goal.points_below-requires-clause-fits
points_below-requires-clause-fits g c = c.requires.fits.fits

pub returns-clause-run : goal.returns-clause-run
returns-clause-run g c = λ op is. run_up_to c.args.set.now (g.Q.Key.values c.args.key.now) c.requires.fits op c.points_below.result is c.points_below.ensures.points

pub returns-clause-counted : goal.returns-clause-counted
returns-clause-counted g c = λ d few. let one = at_least _ _ _ d c.points_below.ensures.later c.points_below.ensures.counted few in omega (arith, one)

pub returns-clause-cost : goal.returns-clause-cost
returns-clause-cost g c = λ d most. let one = at_most _ _ _ d c.points_below.ensures.later c.points_below.ensures.cost most in omega (arith, one)
