use Rattle.part_bounds.proofs.Strategies.{lists_have_points}
use Rattle.std.proofs.Common.{arith}
use Rattle.prune_steps.proofs.RunOfLaws.{run_equal}
use Rattle.prune_steps.proofs.Runs.{twice_at_least, twice_at_most}
use Rattle.prune_steps.proofs.lists.equal_run.Goals as goal

pub points_below-from-requires-clause-level : goal.points_below-from-requires-clause-level
points_below-from-requires-clause-level g c = lists_have_points c.args.set.now c.requires.level

pub points_below-from-requires-clause-there : goal.points_below-from-requires-clause-there
points_below-from-requires-clause-there g c = omega (arith, c.requires.fits.single)

pub points_below-from-requires-clause-fits : goal.points_below-from-requires-clause-fits
points_below-from-requires-clause-fits g c = c.requires.fits.fits

pub points_below-to-requires-clause-level : goal.points_below-to-requires-clause-level
points_below-to-requires-clause-level g c = lists_have_points c.args.set.now c.requires.level

pub points_below-to-requires-clause-there : goal.points_below-to-requires-clause-there
points_below-to-requires-clause-there g c = omega (arith, c.requires.fits.single)

pub points_below-to-requires-clause-fits : goal.points_below-to-requires-clause-fits
points_below-to-requires-clause-fits g c = c.requires.fits.fits

pub returns-clause-run : goal.returns-clause-run
returns-clause-run g c = λ op is. run_equal c.args.set.now (g.Q.Key.values c.args.key.now) c.requires.fits op c.points_below-from.result c.points_below-to.result is c.points_below-from.ensures.points c.points_below-to.ensures.points

pub returns-clause-counted : goal.returns-clause-counted
returns-clause-counted g c = λ d few. twice_at_least _ _ _ _ d c.points_below-from.ensures.later c.points_below-to.ensures.later c.points_below-from.ensures.counted c.points_below-to.ensures.counted few

pub returns-clause-cost : goal.returns-clause-cost
returns-clause-cost g c = λ d most. twice_at_most _ _ _ _ d c.points_below-from.ensures.later c.points_below-to.ensures.later c.points_below-from.ensures.cost c.points_below-to.ensures.cost most
