use Rattle.std.proofs.Common.{◌∙◌, drop, sym}
use Rattle.row_change.proofs.Steps.{nothing_given}
use Rattle.row_change.proofs.full_rows.value_for.Goals as goal

pub returns-in-None : goal.returns-in-None
returns-in-None c = sym (nothing_given (drop c.loop-place.place-index c.args.named.now) c.loop-place.rest.now c.args.column c.in-None.ensures.cases) ∙ c.loop-place.invariant
