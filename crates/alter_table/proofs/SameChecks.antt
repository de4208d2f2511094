-- A CHECK is equal to itself.
use Rattle.std.proofs.Common.{◌≡◌, ◌%◌, true, false, List, [], ◌∷◌, inl, inr, refl, sym, subst, ◌∙◌, eq-eqb, map}
use Rattle.std.specs.List.{Contains, list_any}
use Rattle.std.specs.Ordering.{is_eq, is_le, is_ge}
use Rattle.std.specs.declared.cmp.Ordering.{Ordering}
use Rattle.std.specs.declared.cmp.Ordering.TheVariants.{Less, Equal, Greater}
use Rattle.std.proofs.Math.Nat.{mod_self, mod-eq_of_lt}
use Rattle.std.proofs.lemmas.Bool.{cases_Bool}
use Rattle.pg_values.specs.declared.value.Kind.{Kind}
use Rattle.pg_values.specs.declared.value.Kind.TheVariants as kinds
use Rattle.pg_values.specs.declared.value.Value.{Value}
use Rattle.pg_values.specs.KeyKinds.{order_total}
use Rattle.pg_values.specs.Order.{order}
use Rattle.bound_forms.specs.declared.level.KeyColumn.{KeyColumn}
use Rattle.bound_forms.specs.declared.level.Level.{Level}
use Rattle.pg_values.specs.declared.strategy.Strategy.{Strategy}
use Rattle.pg_values.specs.declared.strategy.Strategy.TheVariants as strategies
use Rattle.bound_forms.specs.declared.partition_bound.Bound.{Bound}
use Rattle.bound_forms.specs.declared.partition_bound.Bound.TheVariants.{Range, List as Listed, Hash, Default}
use Rattle.bound_forms.specs.declared.point.Edge.{Edge}
use Rattle.bound_forms.specs.Accepts.{is_default}
use Rattle.bound_forms.specs.Levels.{IsBoundAt, IsOfLevel}
use Rattle.bound_forms.specs.Listed.{is_same, lists}
use Rattle.bound_forms.specs.Points.{point_order}
use Rattle.bound_forms.specs.Within.{within, lists_all}
use Rattle.bound_forms.proofs.PointOrder.{point_total}
use Rattle.bound_forms.proofs.TotalOrder.{turn}
use Rattle.history.specs.declared.catalogue.Check.{Check}
use Rattle.history.specs.declared.catalogue.KeptCheck.{KeptCheck}
use Rattle.row_router.specs.Histories.{kept_of}
use Rattle.soundness.proofs.Listed.{none_in, cases_in}
use Rattle.ddl_steps.specs.Checks.{same_strategy, same_kind, same_columns, same_level, same_check}

-- ---- levels

strategy_self : (s : Strategy) → same_strategy s s ≡ true
strategy_self strategies.Range = refl
strategy_self strategies.List = refl
strategy_self strategies.Hash = refl

kind_self : (k : Kind) → same_kind k k ≡ true
kind_self kinds.Int4 = refl
kind_self kinds.Int8 = refl
kind_self kinds.Text = refl
kind_self kinds.Day = refl
kind_self kinds.Truth = refl

columns_self : (cs : List KeyColumn) → same_columns cs cs ≡ true
columns_self [] = refl
columns_self (c ∷ cs) = rw (eq-eqb c.position c.position refl, kind_self c.kind) (columns_self cs)

level_self : (l : Level) → same_level l l ≡ true
level_self l = rw (strategy_self l.strategy) (columns_self l.columns)

-- ---- bounds: each one but DEFAULT lies within itself

point_self : (p : List Edge) → (is_le (point_order p p) ≡ true) × (is_ge (point_order p p) ≡ true)
point_self p = by (point_order p p) refl
  where
    by : (r : Ordering) → point_order p p ≡ r → (is_le r ≡ true) × (is_ge r ≡ true)
    by Equal e = (refl, refl)
    by Less e = let back = turn point_total p p Less e in absurd (let c = sym e ∙ back in cc)
    by Greater e = let back = turn point_total p p Greater e in absurd (let c = sym e ∙ back in cc)

value_self : (v : Value) → is_same v v ≡ true
value_self v = by (order v v) refl
  where
    by : (r : Ordering) → order v v ≡ r → is_eq r ≡ true
    by Equal e = refl
    by Less e = let back = turn order_total v v Less e in absurd (let c = sym e ∙ back in cc)
    by Greater e = let back = turn order_total v v Greater e in absurd (let c = sym e ∙ back in cc)

lists_first : (v : Value) (vs : List Value) → lists (v ∷ vs) v ≡ true
lists_first v vs = rw (value_self v) refl

lists_more : (w : Value) (others : List Value) (v : Value) → lists others v ≡ true → lists (w ∷ others) v ≡ true
lists_more w others v is = elim (cases_Bool (is_same w v)) [ inl here ↦ rw here refl | inr past ↦ rw past is ]

all_more : (w : Value) (others values : List Value) → lists_all values others ≡ true → lists_all values (w ∷ others) ≡ true
all_more w others [] all = refl
all_more w others (v ∷ vs) all = elim (cases_Bool (lists others v)) [
  | inl is ↦ let rest : lists_all vs others ≡ true = rw is at all in rw (lists_more w others v is) (all_more w others vs rest)
  | inr out ↦ let none : false ≡ true = rw out at all in absurd (cc)
]

list_self : (values : List Value) → lists_all values values ≡ true
list_self [] = refl
list_self (v ∷ vs) = rw (lists_first v vs) (all_more v vs vs (list_self vs))

within_self : (s : Strategy) (columns : List KeyColumn) (b : Bound) → IsBoundAt s columns b → is_default b ≡ false → within b b ≡ true
within_self s columns (Range l u) of named = rw ((point_self l).0, (point_self u).1) refl
within_self s columns (Listed values) of named = list_self values
within_self strategies.Range columns (Hash m r) of named = absurd of
within_self strategies.List columns (Hash m r) of named = absurd of
within_self strategies.Hash columns (Hash m r) of named = rw (eq-eqb (m % m) 0 (mod_self m)) (eq-eqb (r % m) r (mod-eq_of_lt of.0))
within_self s columns Default of named = absurd (let c = named in cc)

-- ---- CHECKs

check_self : (c : KeptCheck) → IsOfLevel c.level c.bound → is_default c.bound ≡ false → same_check c c ≡ true
check_self c of named =
    let inside = within_self c.level.strategy c.level.columns c.bound of named in
    rw (level_self c.level, inside) refl

-- where none of a table's is the same, none is equal
none_same : (c : KeptCheck) (cs : List Check) (d : Check) → Contains cs d → list_any (λ k. same_check k c) (map kept_of cs) ≡ false → same_check (kept_of d) c ≡ false
none_same c [] d at none = absurd (none_in d at)
none_same c (x ∷ cs) d at none = elim (cases_Bool (same_check (kept_of x) c)) [
  | inl here ↦ let some : true ≡ false = rw here at none in absurd (cc)
  | inr past ↦ elim (cases_in x cs d at) [
    | inl first ↦ subst (λ (y : Check). same_check (kept_of y) c ≡ false) first past
    | inr later ↦ none_same c cs d later (rw past at none)
  ]
]

pub none_equal : (c : KeptCheck) (cs : List Check) (d : Check) → IsOfLevel c.level c.bound → is_default c.bound ≡ false → list_any (λ k. same_check k c) (map kept_of cs) ≡ false → Contains cs d → d.kept ≡ c → ⊥
none_equal c cs d of named none at same =
    let apart : same_check (kept_of d) c ≡ false = none_same c cs d at none in
    let own : same_check c c ≡ false = subst (λ (k : KeptCheck). same_check k c ≡ false) same apart in
    let both : true ≡ false = sym (check_self c of named) ∙ own in
    absurd (cc)
