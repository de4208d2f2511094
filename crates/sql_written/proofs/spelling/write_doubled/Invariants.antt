use Rattle.std.proofs.Common.{◌≡◌, ◌++◌, drop}
use Rattle.sql_tokens.specs.Written.{doubled}
use Rattle.sql_written.proofs.spelling.write_doubled.Given as goal

abbrev pub invariant-loop-b : goal.invariant-loop-b
invariant-loop-b l = l.out.items ++ doubled l.quote (drop l.b-index l.text) ≡ l.fn.out.items ++ doubled l.quote l.text
