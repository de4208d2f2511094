use Rattle.std.proofs.Common.{sym, ◌∙◌}
use Rattle.prune_steps.proofs.HashKept.{found_kept, none_kept}
use Rattle.prune_steps.proofs.keeping.keep_key.Goals as goal

pub returns-in-Some-clause-kept : goal.returns-in-Some-clause-kept
returns-in-Some-clause-kept g c = found_kept c.args.set.now (g.Q.Key.values c.args.key.now) _ _ c.in-Some.child c.requires.level.hashes c.stands_in_plain_order.ensures c.at_most_one_accepts.ensures c.requires.small (sym c.in-Some.is ∙ c.find_child.ensures.child) c.fill.ensures c.add_if.ensures

pub returns-in_default-clause-kept : goal.returns-in_default-clause-kept
returns-in_default-clause-kept g c = none_kept c.args.set.now (g.Q.Key.values c.args.key.now) _ c.requires.level.hashes c.requires.small (sym c.in_default.is ∙ c.find_child.ensures.child) c.fill.ensures
