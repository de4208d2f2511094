use Rattle.std.proofs.Common.{◌∙◌, ap, sym}
use Rattle.select_answer.specs.Keys.{stands_right}
use Rattle.select_answer.proofs.SortedParts.{stands_last}
use Rattle.select_answer.proofs.keys.stands_right.Goals as goal

pub returns-in-Some : goal.returns-in-Some
returns-in-Some c = c.goes_before.ensures ∙ sym (ap (λ l. stands_right c.args.order.now l c.args.behind.now) c.in-Some.ensures.cases.0 ∙ search stands_last)
