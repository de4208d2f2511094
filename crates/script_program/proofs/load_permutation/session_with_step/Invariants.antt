use Rattle.std.proofs.Common.{◌≡◌, ◌+◌, ◌-◌, ◌%◌, map, nat_lt, slice_index}
use Rattle.std.specs.List.{find, range_with_len}
use Rattle.script_program.specs.LoadScript.{session_with_step}
use Rattle.script_program.proofs.load_permutation.session_with_step.Given as goal

-- it is the first of those that are left
abbrev pub invariant-loop-further : goal.invariant-loop-further
invariant-loop-further l =
    find (λ i. nat_lt (slice_index l.given i) 64) (map (λ k. (l.first + k) % 8) (range_with_len l.further (8 - l.further)))
    ≡ session_with_step l.first l.given
