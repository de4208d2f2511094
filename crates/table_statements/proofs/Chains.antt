-- The answers of several tests, one after another.
use Rattle.std.proofs.Common.{◌≡◌, ℕ, List, [], ◌∷◌, refl, ap, ◌∙◌, arith, Option, Some, Result, Ok, Err, length}
use native.Mathlib.Nat.{ℕ_set}
use Rattle.pg_values.specs.Refusals.{IsAnswer, or_first}
use Rattle.pg_values.specs.declared.fault.Fault.{Fault}
use Rattle.pg_values.specs.declared.fault.Refusal.{Refusal}
use Rattle.pg_values.specs.declared.fault.Refusal.TheVariants.{Sql, NoMemory}
use Rattle.bound_forms.specs.declared.level.KeyColumn.{KeyColumn}
use Rattle.bound_forms.specs.declared.level.Level.{Level}
use Rattle.pg_values.specs.declared.strategy.Strategy.{Strategy}
use Rattle.pg_values.specs.declared.strategy.Strategy.TheVariants.{Range as ByRange, List as ByList, Hash as ByHash}
use Rattle.bound_forms.specs.declared.partition_bound.Bound.{Bound as MeantBound}
use Rattle.history.specs.declared.catalogue.Column.{Column}
use Rattle.history.specs.History.{History}
use Rattle.part_catalog.specs.Found.{made_at}
use Rattle.part_ddl.specs.Placing.{level_at, place_faults}
use Rattle.part_ddl.specs.Tables.{count_faults}
use Rattle.expression_binder.specs.Firsts.{IsAnswerBy}
use Rattle.sql_ast.specs.Commands.{Bound}
use Rattle.sql_ast.specs.declared.table_definition.ColumnDefinition.{ColumnDefinition}
use Rattle.sql_ast.specs.declared.table_definition.Partitioning.{Partitioning}
use Rattle.table_binder.specs.Bounds.{bound_for}
use Rattle.table_binder.specs.Partitionings.{Key, key_of, bound_key}
use Rattle.table_statements.specs.Partitions.{Place, place_with, placed_bound, partition_place}
use Rattle.ddl_steps.specs.Refused.{next_answer, unless_faults}
use Rattle.table_statements.specs.Seen.{seen_place}
use Rattle.table_statements.specs.declared.partitions.Place.{Place as HeldPlace}
use Rattle.table_statements.specs.Tables.{Plan, level_of, level_with, some_level, level_by, plan_with, columns_and_key, table_plan}
use Rattle.ddl_steps.proofs.Firsts.{past_ok, past_none, none_told}

-- ---- the level of a table

-- there is one proof at most that LIST has one column
one_proof : (s : Strategy) (columns : List KeyColumn) → IsProp (s ≡ ByList → length columns ≡ 1)
one_proof s columns = hlevel ℕ_set

pub level_is : (s : Strategy) (columns : List KeyColumn) (one : s ≡ ByList → length columns ≡ 1) → level_of s columns ≡ Ok (record { strategy = s; columns = columns; one_if_list = one })
level_is ByRange columns one = ap (λ (p : ByRange ≡ ByList → length columns ≡ 1). Ok (record { strategy = ByRange; columns = columns; one_if_list = p })) (one_proof ByRange columns _ one)
level_is ByHash columns one = ap (λ (p : ByHash ≡ ByList → length columns ≡ 1). Ok (record { strategy = ByHash; columns = columns; one_if_list = p })) (one_proof ByHash columns _ one)
level_is ByList [] one = absurd (let e = one refl in omega (arith, e))
level_is ByList (c ∷ []) one = ap (λ (p : ByList ≡ ByList → length (c ∷ []) ≡ 1). Ok (record { strategy = ByList; columns = c ∷ []; one_if_list = p })) (one_proof ByList (c ∷ []) _ one)
level_is ByList (c ∷ (d ∷ cs)) one = absurd (let e = one refl in omega (arith, e))

pub level_told : (columns : List Column) (by : Partitioning) (level : Level) → bound_key columns by ≡ Ok (key_of level) → level_by columns (Some by) ≡ Ok (Some level)
level_told columns by level e =
    ap (λ (a : Result Key Fault). next_answer (next_answer a level_with) some_level) e
    ∙ ap (λ (a : Result Level Fault). next_answer a some_level) (level_is level.strategy level.columns level.one_if_list)

pub level_refused : (columns : List Column) (by : Partitioning) (r : Refusal) → IsAnswerBy {T = Level} key_of (Err r) (bound_key columns by) → IsAnswer {T = Option Level} (Err r) (level_by columns (Some by))
level_refused columns by (Sql f) e = ap (λ (a : Result Key Fault). next_answer (next_answer a level_with) some_level) e
level_refused columns by NoMemory e = tt

-- ---- what a new table has

pub plan_told : (definitions : List ColumnDefinition) (by : Option Partitioning) (columns : Result (List Column) Fault) (cs : List Column) (level : Option Level) → columns ≡ Ok cs → level_by cs by ≡ Ok level
    → next_answer columns (λ columns. next_answer (level_by columns by) (plan_with columns)) ≡ Ok (record { columns = cs; level = level })
plan_told definitions by columns cs level a b =
    ap (λ (x : Result (List Column) Fault). next_answer x (λ columns. next_answer (level_by columns by) (plan_with columns))) a
    ∙ ap (λ (x : Result (Option Level) Fault). next_answer x (plan_with cs)) b

pub plan_few : (h : History) (definitions : List ColumnDefinition) (by : Option Partitioning) (p : Plan) → table_plan h definitions by ≡ Ok p → count_faults h ≡ []
plan_few h definitions by p e = (none_told (count_faults h) (columns_and_key definitions by) p e).0

-- ---- the place of a partition

-- what is left to be told behind each answer
abbrev pub after_bound : History → (s p : ℕ) → Option Partitioning → MeantBound → Result Place Fault
after_bound h s p by bound = next_answer (level_by (made_at h p).columns by) (place_with bound)

abbrev pub after_count : History → (s p : ℕ) → Bound → Option Partitioning → Level → Result Place Fault
after_count h s p b by level = next_answer (placed_bound h s p level b) (after_bound h s p by)

abbrev pub after_level : History → (s p : ℕ) → Bound → Option Partitioning → Level → Result Place Fault
after_level h s p b by level = unless_faults (count_faults h) (after_count h s p b by level)

module _ (r : Result HeldPlace Refusal) (h : History) (s p : ℕ) (b : Bound) (by : Option Partitioning) where
  pub past_level : (level : Level) → level_at h p ≡ Ok level → IsAnswerBy seen_place r (after_level h s p b by level) → IsAnswerBy seen_place r (partition_place h s p b by)
  past_level level e is = past_ok seen_place r (level_at h p) level (after_level h s p b by) e is

  pub past_count : (level : Level) → level_at h p ≡ Ok level → count_faults h ≡ [] → IsAnswerBy seen_place r (after_count h s p b by level) → IsAnswerBy seen_place r (partition_place h s p b by)
  past_count level e few is = past_level level e (past_none seen_place r (count_faults h) (after_count h s p b by level) few is)

  pub past_bound : (level : Level) (bound : MeantBound) → level_at h p ≡ Ok level → count_faults h ≡ [] → bound_for level b ≡ Ok bound → place_faults h s p bound 1 ≡ [] → IsAnswerBy seen_place r (after_bound h s p by bound)
      → IsAnswerBy seen_place r (partition_place h s p b by)
  past_bound level bound e few meant none is =
      let placed : placed_bound h s p level b ≡ Ok bound =
      ap (λ (a : Result MeantBound Fault). next_answer a (λ x. unless_faults (place_faults h s p x 1) (Ok x))) meant ∙ ap (λ (fs : List Fault). unless_faults fs (Ok bound)) none in
      past_count level e few (past_ok seen_place r (placed_bound h s p level b) bound (after_bound h s p by) placed is)

-- the bound is refused, or its place
pub bound_refused : (h : History) (s p : ℕ) (level : Level) (b : Bound) (r : Refusal) → IsAnswer {T = MeantBound} (Err r) (bound_for level b) → IsAnswer {T = MeantBound} (Err r) (placed_bound h s p level b)
bound_refused h s p level b (Sql f) e = ap (λ (a : Result MeantBound Fault). next_answer a (λ x. unless_faults (place_faults h s p x 1) (Ok x))) e
bound_refused h s p level b NoMemory e = tt

first_refused : (fs : List Fault) (bound : MeantBound) (f : Fault) (u : Unit {0}) → or_first fs u ≡ Err f → unless_faults fs (Ok bound) ≡ Err f
first_refused [] bound f u e = absurd (let c = e in cc)
first_refused (g ∷ gs) bound f u e = let same : g ≡ f = (let c = e in cc) in ap Err same

pub place_refused : (h : History) (s p : ℕ) (level : Level) (b : Bound) (bound : MeantBound) (r : Refusal) → bound_for level b ≡ Ok bound → IsAnswer {T = Unit {0}} (Err r) (or_first (place_faults h s p bound 1) tt) → IsAnswer {T = MeantBound} (Err r) (placed_bound h s p level b)
place_refused h s p level b bound (Sql f) meant e =
    ap (λ (a : Result MeantBound Fault). next_answer a (λ x. unless_faults (place_faults h s p x 1) (Ok x))) meant ∙ first_refused (place_faults h s p bound 1) bound f tt e
place_refused h s p level b bound NoMemory meant e = tt
