use Rattle.std.proofs.Common.{◌≡◌, length}
use Rattle.sql_syntax.specs.Setting.{without_zeros}
use Rattle.sql_syntax.proofs.setting.without_zeros.Given as goal

abbrev pub invariant-loop-rest : goal.invariant-loop-rest
invariant-loop-rest l = without_zeros l.rest ≡ without_zeros l.digits

abbrev pub decreases-loop-rest : goal.decreases-loop-rest
decreases-loop-rest l = length l.rest
