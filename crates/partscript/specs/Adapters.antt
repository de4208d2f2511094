-- How often a stream has failed.
use Rattle.std.specs.Prelude.{ℕ}
use Rattle.partscript.specs.declared.adapters.InputSource.{InputSource}
use Rattle.partscript.specs.declared.adapters.OutputSink.{OutputSink}

abbrev pub read_faults : {R : Type 0} → InputSource R → ℕ
read_faults s = s.faults

abbrev pub write_faults : {W : Type 0} → OutputSink W → ℕ
write_faults s = s.faults
