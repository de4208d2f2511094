use Rattle.std.proofs.Common.{rules}
use Rattle.std.proofs.lemmas.Fn.{always_returns_same}
use Rattle.select_answer.specs.Keys.{row_less}
use Rattle.select_answer.proofs.Total.{row_weak}
use Rattle.select_answer.proofs.keys.sort_rows.Goals as goal

pub returns-clause-sorted : goal.returns-clause-sorted
returns-clause-sorted c = c.in_ok-sort_by.ensures.sorted (row_less c.args.order.now) (row_weak c.args.order.now) (always_returns_same _ _ _ (λ a r f k. search rules))

pub returns-clause-stable : goal.returns-clause-stable
returns-clause-stable c = c.in_ok-sort_by.ensures.stable (row_less c.args.order.now) (row_weak c.args.order.now) (always_returns_same _ _ _ (λ a r f k. search rules))
