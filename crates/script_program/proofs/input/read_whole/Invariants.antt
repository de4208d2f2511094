use Rattle.std.proofs.Common.{◌≡◌, ◌≤◌, ◌-◌, vec_len}
use Rattle.std.specs.Io.KnownBytes.{Consumes}
use Rattle.script_program.proofs.input.read_whole.Given as goal

-- the bytes so far came from the source, at most one of them past the limit, and no read has failed
abbrev pub invariant-loop-buffer : goal.invariant-loop-buffer
invariant-loop-buffer g l = record {
  given : Consumes (g.S.Source.left l.initial.source) (g.S.Source.left l.source) l.bytes.items;
  within : vec_len l.bytes ≤ 4194305;
  kept : g.S.Source.faults l.source ≡ g.S.Source.faults l.initial.source;
}

-- each turn takes a byte
abbrev pub decreases-loop-buffer : goal.decreases-loop-buffer
decreases-loop-buffer g l = 4194305 - vec_len l.bytes
