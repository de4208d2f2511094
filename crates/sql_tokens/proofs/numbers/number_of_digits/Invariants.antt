use Rattle.std.proofs.Common.{◌≡◌, ◌≤◌, ◌^◌, drop, min}
use Rattle.sql_tokens.specs.declared.numbers.TheConstants.{NO_BIGINT}
use Rattle.sql_tokens.specs.Numbers.{digits_from}
use Rattle.sql_tokens.proofs.numbers.number_of_digits.Given as goal

abbrev pub invariant-loop-b : goal.invariant-loop-b
invariant-loop-b l = (min NO_BIGINT (digits_from l.n (drop l.b-index l.bytes)) ≡ min NO_BIGINT (digits_from 0 l.bytes)) × (l.n ≤ 2 ^ 63)
