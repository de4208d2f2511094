use Rattle.std.proofs.Common.{List, ℕ, Result, Ok, Err}
use Rattle.std.specs.Prelude.{IfOk}
use Rattle.pg_values.specs.declared.fault.Refusal.{Refusal}
use Rattle.pg_values.specs.declared.value.Kind.{Kind}
use Rattle.pg_values.specs.declared.value.Value.{Value}
use Rattle.pg_values.specs.Refusals.{IsAnswer}
use Rattle.value_rules.specs.Reads.{reads}
use Rattle.table_binder.specs.declared.raw_bound.RawValue.TheVariants.{Literal}
use Rattle.bound_forms.specs.Levels.{ComparesWith}
use Rattle.bound_forms.proofs.LevelKeys.{compares}
use Rattle.table_binder.proofs.RawLaws.{value_is}
use Rattle.sql_shell.proofs.keys.value_of.Goals as goal

read_compares : (kind : Kind) (s : List ℕ) (r : Result Value Refusal) → IsAnswer r (reads kind s) → IfOk r (λ v. ComparesWith kind v)
read_compares kind s (Ok v) h = compares kind v (value_is kind (Literal s) v h)
read_compares kind s (Err e) h = tt

pub returns : goal.returns
returns c = read_compares c.args.kind _ c.read_value.result c.read_value.ensures
