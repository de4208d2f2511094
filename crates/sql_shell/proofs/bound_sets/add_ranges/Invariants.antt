use Rattle.std.specs.List.{All}
use Rattle.bound_forms.specs.Levels.{IsOfLevel}
use Rattle.sql_shell.proofs.bound_sets.add_ranges.Given as goal

-- the bounds so far
abbrev pub invariant-loop-k : goal.invariant-loop-k
invariant-loop-k l = All (IsOfLevel l.level) l.set
