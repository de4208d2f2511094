use Rattle.std.proofs.Common.{◌≡◌, drop}
use Rattle.select_answer.specs.Keys.{keys_order}
use Rattle.select_answer.proofs.keys.cmp_each.Given as goal

abbrev pub invariant-loop-place : goal.invariant-loop-place
invariant-loop-place l = keys_order l.place (drop l.place l.order) l.a l.b ≡ keys_order 0 l.order l.a l.b
