use Rattle.std.proofs.Common.{◌∙◌, ap, map, rules}
use Rattle.std.proofs.lemmas.List.{take_all}
use Rattle.pg_values.specs.Lists.{listed}
use Rattle.statement_steps.specs.Faults as faults
use Rattle.statement_steps.proofs.Known.{none_left, one_more_taken, few_listed}
use Rattle.statement_steps.proofs.faults.names_of.Goals as goal

pub loop-place-init : goal.loop-place-init
loop-place-init c = search rules

pub returns-in-None : goal.returns-in-None
returns-in-None c = c.loop-place.invariant ∙ ap (map (faults.name_of c.args.attempt.now.names.now)) (none_left (listed c.args.cycle) c.loop-place.place (search rules))

pub loop-place-preserved : goal.loop-place-preserved
loop-place-preserved c = one_more_taken (faults.name_of c.args.attempt.now.names.now) (listed c.args.cycle) c.loop-place.place c.in-Some.session c.loop-place.args c.push.new.self (search rules) c.loop-place.invariant (search rules)

pub returns : goal.returns
returns c = c.loop-place.invariant ∙ ap (map (faults.name_of c.args.attempt.now.names.now)) (take_all c.loop-place.place (listed c.args.cycle) (few_listed c.args.cycle c.loop-place.place (search rules)))
