use Rattle.std.proofs.Common.{◌≡◌, ◌==◌, take}
use Rattle.std.specs.List.{list_any}
use Rattle.tx_table.proofs.table.is_listed.Given as goal

-- whether it is among those so far
abbrev pub invariant-loop-t : goal.invariant-loop-t
invariant-loop-t l = l.any ≡ list_any (λ t. t == l.tx) (take l.t-index l.running)
