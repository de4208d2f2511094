-- The chains that are written: what stands between their parts, and the level of the place in which a part stands.
use Rattle.std.specs.Prelude.{List}
use Rattle.sql_written.specs.Marks.{Mark}
use Rattle.sql_written.specs.Precedence.{Level, disjunction, conjunction, negation}
use Rattle.sql_written.specs.Written.{and_between, behind_part, or_between}
use Rattle.sql_written.specs.declared.chain.Chain.{Chain}
use Rattle.sql_written.specs.declared.chain.Chain.TheVariants as chains

abbrev pub between : Chain → List Mark
between chains.List = behind_part
between chains.And = and_between
between chains.Or = or_between

abbrev pub place : Chain → Level
place chains.List = disjunction
place chains.And = negation
place chains.Or = conjunction
