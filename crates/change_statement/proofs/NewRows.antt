-- A row with the values of settings.
use Rattle.std.proofs.Common.{◌≡◌, ℕ, zero, suc, ◌+◌, ◌<◌, Bool, true, false, List, [], ◌∷◌, length, get_or, drop, map, if◌then◌else◌, refl, sym, ap, subst, ◌∙◌, add-one, drop-cons, Some, None}
use Rattle.std.proofs.Math.ListN.{length-set}
use Rattle.std.specs.Prelude.{ℤ, Result, Ok, Err, slice_set}
use Rattle.pg_values.specs.declared.fault.Fault.{Fault}
use Rattle.pg_values.specs.declared.value.Kind.{Kind}
use Rattle.pg_values.specs.declared.value.Kind.TheVariants.{Int4 as KInt4, Int8 as KInt8, Text as KText, Day as KDay, Truth as KTruth}
use Rattle.pg_values.specs.declared.value.Value.{Value}
use Rattle.pg_values.specs.declared.value.Value.TheVariants.{Null, Int4, Int8, Text, Day, Truth}
use Rattle.value_rules.specs.Assignment.{assigned}
use Rattle.value_rules.specs.Ranges.{or_fault, is_integer}
use Rattle.value_rules.specs.declared.assignment.CoerceFault.{CoerceFault}
use Rattle.value_rules.specs.declared.assignment.CoerceFault.TheVariants.{Kinds, Range}
use Rattle.history.specs.declared.catalogue.Column.{Column}
use Rattle.bound_forms.specs.Levels.{IsOf}
use Rattle.row_router.specs.Trees.{IsRowOf}
use Rattle.cond_logic.specs.Asked.{SettingMeant, setting_meant}
use Rattle.cond_logic.specs.declared.change.Setting.{Setting}
use Rattle.change_statement.specs.NewRows.{kind_at, or_refused, assigned_to, set_value, with_value, set_in}

-- ---- kinds

abbrev Gives : Result Value CoerceFault → Value → Type 0
Gives r w = r ≡ Ok w

same_of : (v w : Value) (kind : Kind) → Gives (Ok v) w → IsOf kind v → IsOf kind w
same_of v w kind e is = let same : v ≡ w = cc in subst (IsOf kind) same is

narrow_of : (n : ℤ) (b : Bool) (w : Value) → or_fault Range (if b then Some (Int4 n) else None) ≡ Ok w → IsOf KInt4 w
narrow_of n true w e = same_of (Int4 n) w KInt4 e (λ some. refl)
narrow_of n false w e = absurd (cc)

-- what is assigned to a column is of its kind
assigned_of : (v w : Value) (kind : Kind) → assigned v kind ≡ Ok w → IsOf kind w
assigned_of Null w kind e = same_of Null w kind e (λ none. absurd (cc))
assigned_of (Int4 n) w KInt4 e = same_of (Int4 n) w KInt4 e (λ some. refl)
assigned_of (Int4 n) w KInt8 e = same_of (Int8 n) w KInt8 e (λ some. refl)
assigned_of (Int4 n) w KText e = absurd (cc)
assigned_of (Int4 n) w KDay e = absurd (cc)
assigned_of (Int4 n) w KTruth e = absurd (cc)
assigned_of (Int8 n) w KInt4 e = narrow_of n (is_integer n) w e
assigned_of (Int8 n) w KInt8 e = same_of (Int8 n) w KInt8 e (λ some. refl)
assigned_of (Int8 n) w KText e = absurd (cc)
assigned_of (Int8 n) w KDay e = absurd (cc)
assigned_of (Int8 n) w KTruth e = absurd (cc)
assigned_of (Text s) w KText e = same_of (Text s) w KText e (λ some. refl)
assigned_of (Text s) w KInt4 e = absurd (cc)
assigned_of (Text s) w KInt8 e = absurd (cc)
assigned_of (Text s) w KDay e = absurd (cc)
assigned_of (Text s) w KTruth e = absurd (cc)
assigned_of (Day d) w KDay e = same_of (Day d) w KDay e (λ some. refl)
assigned_of (Day d) w KInt4 e = absurd (cc)
assigned_of (Day d) w KInt8 e = absurd (cc)
assigned_of (Day d) w KText e = absurd (cc)
assigned_of (Day d) w KTruth e = absurd (cc)
assigned_of (Truth p) w KTruth e = same_of (Truth p) w KTruth e (λ some. refl)
assigned_of (Truth p) w KInt4 e = absurd (cc)
assigned_of (Truth p) w KInt8 e = absurd (cc)
assigned_of (Truth p) w KText e = absurd (cc)
assigned_of (Truth p) w KDay e = absurd (cc)

given_of : (v : Value) (w : Value) (kind : Kind) (r : Result Value CoerceFault) → assigned v kind ≡ r → or_refused v kind r ≡ Ok w → IsOf kind w
given_of v w kind (Ok u) is e = let same : u ≡ w = cc in subst (IsOf kind) same (assigned_of v u kind is)
given_of v w kind (Err Range) is e = absurd (cc)
given_of v w kind (Err Kinds) is e = absurd (cc)

stored_of : (w : Value) (kind : Kind) (r : Result Value Fault) → assigned_to kind r ≡ Ok w → IsOf kind w
stored_of w kind (Ok v) e = given_of v w kind (assigned v kind) refl e
stored_of w kind (Err f) e = absurd (cc)

set_of : (columns : List Column) (row : List Value) (place : ℕ) (w : Value) → IsOf (kind_at columns place) w → IsRowOf columns row → IsRowOf columns (slice_set row place w)
set_of [] [] place w is all = tt
set_of [] (x ∷ xs) place w is all = absurd all
set_of (c ∷ cs) [] place w is all = absurd all
set_of (c ∷ cs) (x ∷ xs) zero w is all = (is, all.1)
set_of (c ∷ cs) (x ∷ xs) (suc place) w is all = (all.0, set_of cs xs place w is all.1)

-- a setting's value leaves the row one of the columns
pub set_fits : (columns : List Column) (was now : List Value) (s : SettingMeant) (w : Value) → set_value columns was s ≡ Ok w → IsRowOf columns now → IsRowOf columns (slice_set now s.column w)
set_fits columns was now s w e all = set_of columns now s.column w (stored_of w (kind_at columns s.column) _ e) all

pub set_long : (row : List Value) (place : ℕ) (w : Value) → length (slice_set row place w) ≡ length row
set_long row place w = simp length-set

-- ---- settings in order

setting_at : {X : Type 0} (xs : List X) (i : ℕ) (x : X) → i < length xs → x ≡ get_or xs i x → drop i xs ≡ x ∷ drop (i + 1) xs
setting_at xs i x less is = rw (add-one i) (drop-cons xs i x less ∙ ap (λ y. y ∷ drop (suc i) xs) (sym is))

set_first : (columns : List Column) (was now : List Value) (ss : List Setting) (i : ℕ) (s : Setting) → i < length ss → s ≡ get_or ss i s → set_in columns was now (map setting_meant (drop i ss)) ≡ with_value (λ v. set_in columns was (slice_set now s.column v) (map setting_meant (drop (i + 1) ss))) (set_value columns was (setting_meant s))
set_first columns was now ss i s less is = ap (λ xs. set_in columns was now (map setting_meant xs)) (setting_at ss i s less is)

pub set_more : (columns : List Column) (was now : List Value) (ss : List Setting) (i : ℕ) (s : Setting) (v : Value) (all : Result (List Value) Fault) → i < length ss → s ≡ get_or ss i s → set_in columns was now (map setting_meant (drop i ss)) ≡ all → set_value columns was (setting_meant s) ≡ Ok v → set_in columns was (slice_set now s.column v) (map setting_meant (drop (i + 1) ss)) ≡ all
set_more columns was now ss i s v all less is told e =
    sym (ap (with_value (λ w. set_in columns was (slice_set now s.column w) (map setting_meant (drop (i + 1) ss)))) e) ∙ sym (set_first columns was now ss i s less is) ∙ told

pub set_refused : (columns : List Column) (was now : List Value) (ss : List Setting) (i : ℕ) (s : Setting) (f : Fault) (all : Result (List Value) Fault) → i < length ss → s ≡ get_or ss i s → set_in columns was now (map setting_meant (drop i ss)) ≡ all → set_value columns was (setting_meant s) ≡ Err f → all ≡ Err f
set_refused columns was now ss i s f all less is told e =
    sym told ∙ set_first columns was now ss i s less is ∙ ap (with_value (λ w. set_in columns was (slice_set now s.column w) (map setting_meant (drop (i + 1) ss)))) e
