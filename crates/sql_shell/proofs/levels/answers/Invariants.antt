use Rattle.std.specs.List.{All}
use Rattle.bound_forms.specs.Levels.{IsOfLevel}
use Rattle.sql_shell.proofs.levels.answers.Given as goal

-- the bounds so far
abbrev pub invariant-loop-item : goal.invariant-loop-item
invariant-loop-item l = All (IsOfLevel l.level) l.set
