use Rattle.std.proofs.Common.{◌≡◌, take}
use Rattle.std.specs.List.{list_any}
use Rattle.pg_values.specs.Modes.{same_mode}
use Rattle.pg_values.proofs.lock_mode.LockMode.conflicts.Given as goal

abbrev pub invariant-loop-mode : goal.invariant-loop-mode
invariant-loop-mode l = l.any ≡ list_any (λ m. same_mode m l.other) (take l.mode-index l.mode-items)
