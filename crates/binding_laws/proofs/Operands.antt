-- Operands without a fault are of their kinds.
use Rattle.std.proofs.Common.{◌≡◌, ℕ, ◌-◌, ◌==◌, nat_le, pos, Bool, true, false, ◌&&◌, ◌||◌, not, List, [], ◌∷◌, ◌++◌, Option, Some, None, is_some, Result, Ok, Err, slice_get, refl, sym, ap, subst, ◌∙◌, codes, if◌then◌else◌}
use Rattle.std.specs.Str.{bytes_eq}
use Rattle.pg_values.specs.declared.fault.Fault.{Fault}
use Rattle.pg_values.specs.declared.value.Kind.{Kind}
use Rattle.pg_values.specs.declared.value.Kind.TheVariants.{Int4 as KInt4, Int8 as KInt8, Text as KText, Day as KDay, Truth as KTruth}
use Rattle.pg_values.specs.declared.value.Value.{Value}
use Rattle.pg_values.specs.declared.value.Value.TheVariants as value
use Rattle.refusals.specs.Refusals.{left_out, no_function}
use Rattle.value_rules.specs.Arithmetic as arithmetic
use Rattle.value_rules.specs.Reads.{reads}
use Rattle.value_rules.specs.declared.operators.ArithFault.{ArithFault}
use Rattle.sql_ast.specs.declared.leaf.Leaf.{Leaf}
use Rattle.sql_ast.specs.declared.leaf.Leaf.TheVariants.{Number, Text, Date, Null, Truth, Parameter, Column, ColumnOf, TableName, TableNameOf}
use Rattle.sql_ast.specs.declared.leaf.Operator.{Operator}
use Rattle.sql_ast.specs.declared.leaf.Operator.TheVariants as op
use Rattle.sql_ast.specs.Expressions.{Tree, Trees, no_more, and_more, leaf, call, call_of_all, negated, binary, in_list, between, is_null, inverted, all_of, any_of}
use Rattle.cond_logic.specs.Scalars.{ScalarTree, column, literal, table_name, computes, cancels}
use Rattle.expression_binder.specs.declared.naming.Hit.{Hit}
use Rattle.expression_binder.specs.declared.naming.Lookup.{Lookup}
use Rattle.expression_binder.specs.declared.naming.Lookup.TheVariants.{Missing, One, Several}
use Rattle.expression_binder.specs.declared.scope.Allowed.{Allowed}
use Rattle.expression_binder.specs.declared.scope.Param.{Param}
use Rattle.expression_binder.specs.declared.typed.Given.{Given}
use Rattle.expression_binder.specs.declared.typed.Given.TheVariants.{Of, Quoted, Nothing}
use Rattle.expression_binder.specs.declared.typed.Typed.{Typed}
use Rattle.expression_binder.specs.Constants.{literal_of, number_value, param_value, found_column, row_table, item_table, arith_of, or_arith, as_literal, operated_by, operated, with_right, with_left, zero_scalar, cancel_of, scalar, first_argument}
use Rattle.expression_binder.specs.Signs.{sign}
use Rattle.expression_binder.specs.Firsts.{unless}
use Rattle.expression_binder.specs.Kinds.{fixed, number_kind, is_arithmetic, kind_made, kind_beside, kind_alone, side_kind, joined, given_by, join_faults, arithmetic_faults}
use Rattle.expression_binder.specs.Operands.{look_up_faults, in_item_faults, param_faults, row_table_faults, item_faults, table_name_faults, look_up_given, param_given, varying, is_pid, is_cancel, is_aggregate, is_session_function, is_session_number, suit, session_call_faults, call_faults, call_typed, star_faults, zero_typed, typed, all_typed, operand_faults, operands_faults}
use Rattle.expression_binder.specs.Scopes.{Item, Scope, look_up, look_up_in, item_called, param}
use Rattle.binding_laws.specs.Fitting.{Lies, IsNumbered, IsOf, ArgumentsFit, HasKind, IsSound}
use Rattle.binding_laws.proofs.Names.{look_up_lies, look_up_in_lies, called_at}
use Rattle.binding_laws.proofs.Values.{computed_is, reads_is, number_is, small_is}

-- ---- lists of faults

pub front_none : (xs ys : List Fault) → xs ++ ys ≡ [] → xs ≡ []
front_none [] ys h = refl
front_none (x ∷ xs) ys h = cc

pub back_none : (xs ys : List Fault) → xs ++ ys ≡ [] → ys ≡ []
back_none [] ys h = h
back_none (x ∷ xs) ys h = cc

pub kept : (t : Bool) (f : Fault) → unless t f ≡ [] → t ≡ true
kept true f h = refl
kept false f h = cc

one_left : {A : Type 0} (xs : List Fault) (f : Fault) → xs ++ f ∷ [] ≡ [] → A
one_left [] f h = cc
one_left (x ∷ xs) f h = cc

-- ---- the kinds of places

-- the kind that an operand has in a place: its own, or that of the place for a string literal
abbrev pub Gives : Given → (place own : Kind) → Type 0
Gives (Of m) j k = k ≡ m
Gives Quoted j k = k ≡ j
Gives Nothing j k = Unit {0}

pub beside_gives : (o : Operator) (other own : Given) → Gives own (kind_beside o other own) (kind_beside o other own)
beside_gives o (Of j) (Of k) = refl
beside_gives o Quoted (Of k) = refl
beside_gives o Nothing (Of k) = refl
beside_gives o (Of j) Quoted = refl
beside_gives o Quoted Quoted = refl
beside_gives o Nothing Quoted = refl
beside_gives o (Of j) Nothing = tt
beside_gives o Quoted Nothing = tt
beside_gives o Nothing Nothing = tt

pub side_gives : (other own : Given) → Gives own (side_kind other own) (side_kind other own)
side_gives other (Of k) = refl
side_gives other Quoted = refl
side_gives other Nothing = tt

pub alone_gives : (own : Given) → Gives own (kind_alone own) (kind_alone own)
alone_gives (Of k) = refl
alone_gives Quoted = refl
alone_gives Nothing = tt

-- ---- results

literal_ok : (items : List Item) (k : Kind) (r : Result Value Fault) (x : ScalarTree) → ((v : Value) → r ≡ Ok v → IsOf v k) → literal_of r ≡ Ok x → HasKind items x k
literal_ok items k (Ok v) x f h = let same : literal v ≡ x = cc in subst (λ y. HasKind items y k) same (f v refl)
literal_ok items k (Err e) x f h = cc

abbrev done : ScalarTree → Result ScalarTree Fault
done y = Ok y

same_ok : (items : List Item) (k : Kind) (y x : ScalarTree) → HasKind items y k → done y ≡ Ok x → HasKind items x k
same_ok items k y x has h = let same : y ≡ x = cc in subst (λ z. HasKind items z k) same has

right_ok : (o : Operator) (x z : ScalarTree) (r : Result ScalarTree Fault) → with_right o x r ≡ Ok z → (y : ScalarTree) × (r ≡ Ok y) × (operated o x y ≡ Ok z)
right_ok o x z (Ok y) h = (y, refl, h)
right_ok o x z (Err f) h = cc

left_ok : (o : Operator) (z : ScalarTree) (l r : Result ScalarTree Fault) → with_left o l r ≡ Ok z → (x : ScalarTree) × (l ≡ Ok x) × (with_right o x r ≡ Ok z)
left_ok o z (Ok x) r h = (x, refl, h)
left_ok o z (Err f) r h = cc

arith_ok : (o : Operator) (z : ScalarTree) (r : Result Value ArithFault) → or_arith o r ≡ Ok z → (u : Value) × (r ≡ Ok u) × (literal u ≡ z)
arith_ok o z (Ok u) h = (u, refl, cc)
arith_ok o z (Err e) h = cc

cancel_ok : (z : ScalarTree) (r : Result ScalarTree Fault) → cancel_of r ≡ Ok z → (y : ScalarTree) × (r ≡ Ok y) × (cancels y ≡ z)
cancel_ok z (Ok y) h = (y, refl, cc)
cancel_ok z (Err f) h = cc

-- ---- arithmetic

some_kind : (o : Option Kind) → is_some o ≡ true → (m : Kind) × (o ≡ Some m)
some_kind None h = cc
some_kind (Some m) h = (m, refl)

-- an operator without a fault is listed for the kinds of its sides
join_listed : (allowed : Allowed) (o : Operator) (x y : Typed) → join_faults allowed o x y ≡ [] → is_some (kind_made o (kind_beside o y.given x.given) (kind_beside o x.given y.given)) ≡ true
join_listed allowed o x y h = by_test (not (is_arithmetic o) || ((x.varies || y.varies) && not allowed.arithmetic)) h
  where
    by_test : (b : Bool) → (if b then left_out (sign o) ∷ [] else arithmetic_faults o x.given y.given) ≡ [] → is_some (kind_made o (kind_beside o y.given x.given) (kind_beside o x.given y.given)) ≡ true
    by_test true q = cc
    by_test false q = kept _ _ q

module _ (items : List Item) (o : Operator) (l r m : Kind) (made : kind_made o l r ≡ Some m) where
  computes_has : (x y z : ScalarTree) → HasKind items x l → HasKind items y r → done (computes (arith_of o) x y) ≡ Ok z → HasKind items z m
  computes_has x y z p q e = same_ok items m (computes (arith_of o) x y) z (o, l, r, refl, made, p, q) e

  pub operated_has : (x y z : ScalarTree) → HasKind items x l → HasKind items y r → operated o x y ≡ Ok z → HasKind items z m
  operated_has (literal v) (literal w) z p q e =
      let a = arith_ok o z (arithmetic.computed (arith_of o) v w) e in
      subst (λ t. HasKind items t m) a.2 (computed_is o v w a.0 l r m made p q a.1)
  operated_has (literal v) (column c) z p q e = computes_has (literal v) (column c) z p q e
  operated_has (literal v) (table_name n) z p q e = computes_has (literal v) (table_name n) z p q e
  operated_has (literal v) (computes a s t) z p q e = computes_has (literal v) (computes a s t) z p q e
  operated_has (literal v) (cancels t) z p q e = computes_has (literal v) (cancels t) z p q e
  operated_has (column c) y z p q e = computes_has (column c) y z p q e
  operated_has (table_name n) y z p q e = computes_has (table_name n) y z p q e
  operated_has (computes a s t) y z p q e = computes_has (computes a s t) y z p q e
  operated_has (cancels t) y z p q e = computes_has (cancels t) y z p q e

-- what is joined is of the kind of its place
joined_has : (items : List Item) (allowed : Allowed) (o : Operator) (tx ty : Typed) (j k : Kind) (x y z : ScalarTree) → join_faults allowed o tx ty ≡ [] → Gives (joined o tx ty).given j k
    → HasKind items x (kind_beside o ty.given tx.given) → HasKind items y (kind_beside o tx.given ty.given) → operated o x y ≡ Ok z → HasKind items z k
joined_has items allowed o tx ty j k x y z none gives p q e =
    let l = kind_beside o ty.given tx.given in
    let r = kind_beside o tx.given ty.given in
    let m = some_kind (kind_made o l r) (join_listed allowed o tx ty none) in
    let is : k ≡ m.0 = subst (λ g. Gives (given_by g) j k) m.1 gives in
    subst (λ c. HasKind items z c) (sym is) (operated_has items o l r m.0 m.1 x y z p q e)

-- ---- leaves

pub param_has : (s : Scope) (n : ℕ) (j k : Kind) → ArgumentsFit s.params → param_faults n (param s.params n) ≡ [] → Gives (param_given (param s.params n)) j k → IsOf (param_value (param s.params n)) k
param_has s n j k fit none gives = by_zero (n == 0) refl none gives
  where
    by_param : (o : Option Param) → slice_get s.params (n - 1) ≡ o → param_faults n o ≡ [] → Gives (param_given o) j k → IsOf (param_value o) k
    by_param None p q t = cc
    by_param (Some a) p q t = subst (λ c. IsOf a.value c) (sym t) (fit (n - 1) a p)

    by_zero : (b : Bool) → (n == 0) ≡ b → param_faults n (if b then None else slice_get s.params (n - 1)) ≡ [] → Gives (param_given (if b then None else slice_get s.params (n - 1))) j k
        → IsOf (param_value (if b then None else slice_get s.params (n - 1))) k
    by_zero true p q t = cc
    by_zero false p q t = by_param (slice_get s.params (n - 1)) refl q t

look_up_has : (items : List Item) (name : List ℕ) (j k : Kind) (x : ScalarTree) (l : Lookup) → ((h : Hit) → l ≡ One h → Lies items h.column h.kind) → look_up_faults name l ≡ [] → Gives (look_up_given l) j k → done (found_column l) ≡ Ok x
    → HasKind items x k
look_up_has items name j k x Missing f none gives e = cc
look_up_has items name j k x (One h) f none gives e = subst (λ c. HasKind items x c) (sym gives) (same_ok items h.kind (column h.column) x (f h refl) e)
look_up_has items name j k x Several f none gives e = cc

in_item_has : (items : List Item) (table name : List ℕ) (o : Option Item) → in_item_faults table name o ≡ [] → look_up_faults name (look_up_in o name) ≡ []
in_item_has items table name None h = cc
in_item_has items table name (Some item) h = h

pub allowed_then : (b : Bool) (fs : List Fault) → table_name_faults b fs ≡ [] → fs ≡ []
allowed_then true fs h = h
allowed_then false fs h = cc

row_table_has : (items : List Item) (k : Kind) (x : ScalarTree) → row_table_faults items ≡ [] → k ≡ KText → done (row_table items) ≡ Ok x → HasKind items x k
row_table_has [] k x none is e = cc
row_table_has (i ∷ []) k x none is e = same_ok (i ∷ []) k (table_name i.number) x ((0, i, refl, refl), is) e
row_table_has (i ∷ j ∷ items) k x none is e = cc

item_table_has : (items : List Item) (table : List ℕ) (k : Kind) (x : ScalarTree) (o : Option Item) → item_called items table ≡ o → item_faults table o ≡ [] → k ≡ KText → done (item_table o) ≡ Ok x → HasKind items x k
item_table_has items table k x None p none is e = cc
item_table_has items table k x (Some i) p none is e = let at = called_at items table i p in same_ok items k (table_name i.number) x ((at.0, i, at.1, refl), is) e

-- ---- calls

suits : (c : Bool) (f : List ℕ) (xs : List Typed) → session_call_faults c f xs ≡ [] → suit f xs ≡ true
suits false f xs h = cc
suits true f xs h = by_test (suit f xs) h
  where
    by_test : (b : Bool) → (if b then [] else no_function f ∷ []) ≡ [] → b ≡ true
    by_test true q = refl
    by_test false q = cc

called : (allowed : Allowed) (f : List ℕ) (xs : List Typed) → call_faults allowed f xs ≡ [] → suit f xs ≡ true
called allowed f xs h = by_tests (is_session_function f) (is_aggregate f) h
  where
    by_tests : (a b : Bool) → (if a then session_call_faults allowed.calls f xs else (if b then left_out f ∷ [] else no_function f ∷ [])) ≡ [] → suit f xs ≡ true
    by_tests true b q = suits allowed.calls f xs q
    by_tests false true q = cc
    by_tests false false q = cc

number_gives : (f : List ℕ) (x : Typed) (xs : List Typed) → is_pid f ≡ false → suit f (x ∷ xs) ≡ true → Gives x.given KInt4 KInt4
number_gives f x [] pid h = by_given x.given (by_pid (is_pid f) pid h)
  where
    by_pid : (b : Bool) → b ≡ false → (if b then false else is_session_number x.given) ≡ true → is_session_number x.given ≡ true
    by_pid true p q = cc
    by_pid false p q = q

    by_given : (g : Given) → is_session_number g ≡ true → Gives g KInt4 KInt4
    by_given (Of KInt4) q = refl
    by_given (Of KInt8) q = cc
    by_given (Of KText) q = cc
    by_given (Of KDay) q = cc
    by_given (Of KTruth) q = cc
    by_given Quoted q = refl
    by_given Nothing q = tt
number_gives f x (y ∷ ys) pid h = cc

-- ---- operands

star_none : {A : Type 0} (f : List ℕ) → star_faults f ≡ [] → A
star_none {A = A} f h = by_test (bytes_eq f (codes "count")) h
  where
    by_test : (b : Bool) → (if b then left_out f ∷ [] else no_function f ∷ []) ≡ [] → A
    by_test true q = cc
    by_test false q = cc

-- a call: its first argument is an integer where it has one
call_has : (s : Scope) → IsSound s → (f : List ℕ) (ts : Trees) (j k : Kind) (x : ScalarTree) → ((y : ScalarTree) → is_pid f ≡ false → operands_faults s ts ≡ [] → suit f (all_typed s ts) ≡ true → first_argument s ts ≡ Ok y → HasKind s.items y KInt4)
    → operand_faults s (call f ts) ≡ [] → Gives (call_typed f).given j k → scalar s j (call f ts) ≡ Ok x → HasKind s.items x k
call_has s sound f ts j k x has none gives e = by_pid (is_pid f) refl gives e
  where
    by_pid : (b : Bool) → is_pid f ≡ b → Gives (if b then fixed (Of KInt4) else varying (Of KTruth)).given j k → (if b then literal_of (number_value s.session) else cancel_of (first_argument s ts)) ≡ Ok x → HasKind s.items x k
    by_pid true p q r = literal_ok s.items k (number_value s.session) x (λ v h. subst (λ c. IsOf v c) (sym q) (small_is s.session v sound.1 h)) r
    by_pid false p q r =
        let y = cancel_ok x (first_argument s ts) r in
        let suited = called s.allowed f (all_typed s ts) (back_none (operands_faults s ts) _ none) in
        subst (λ z. HasKind s.items z k) y.2 (has y.0 p (front_none (operands_faults s ts) _ none) suited y.1, q)

module _ (s : Scope) (sound : IsSound s) where
  mutual
    -- an operand without a fault, in a place that gives it
    pub scalar_has : (t : Tree) (j k : Kind) (x : ScalarTree) → operand_faults s t ≡ [] → Gives (typed s t).given j k → scalar s j t ≡ Ok x → HasKind s.items x k
    scalar_has (leaf (Number n)) j k x none gives e = literal_ok s.items k (number_value n) x (λ v h. subst (λ c. IsOf v c) (sym gives) (number_is n v h)) e
    scalar_has (leaf (Text z)) j k x none gives e = literal_ok s.items k (reads j z) x (λ v h. subst (λ c. IsOf v c) (sym gives) (reads_is j z v h)) e
    scalar_has (leaf (Date z)) j k x none gives e = literal_ok s.items k (reads KDay z) x (λ v h. subst (λ c. IsOf v c) (sym gives) (reads_is KDay z v h)) e
    scalar_has (leaf Null) j k x none gives e = same_ok s.items k (literal value.Null) x tt e
    scalar_has (leaf (Truth b)) j k x none gives e = same_ok s.items k (literal (value.Truth b)) x gives e
    scalar_has (leaf (Parameter n)) j k x none gives e = same_ok s.items k (literal (param_value (param s.params n))) x (param_has s n j k sound.0 none gives) e
    scalar_has (leaf (Column c)) j k x none gives e = look_up_has s.items c j k x (look_up s.items c) (λ h is. look_up_lies s.items c h is) none gives e
    scalar_has (leaf (ColumnOf t c)) j k x none gives e =
        look_up_has s.items c j k x (look_up_in (item_called s.items t) c) (λ h is. look_up_in_lies s.items t c h is) (in_item_has s.items t c (item_called s.items t) none) gives e
    scalar_has (leaf TableName) j k x none gives e = row_table_has s.items k x (allowed_then s.allowed.table_names _ none) gives e
    scalar_has (leaf (TableNameOf t)) j k x none gives e = item_table_has s.items t k x (item_called s.items t) refl (allowed_then s.allowed.table_names _ none) gives e
    scalar_has (call f ts) j k x none gives e = call_has s sound f ts j k x (λ y p a u r. argument_has f ts y p a u r) none gives e
    scalar_has (call_of_all f) j k x none gives e = star_none f none
    scalar_has (negated t) j k x none gives e =
        let g = (typed s t).given in
        let right = scalar s (kind_beside op.Subtract zero_typed.given g) t in
        let l = left_ok op.Subtract x (Ok zero_scalar) right e in
        let zero : zero_scalar ≡ l.0 = cc l.1 in
        let r = right_ok op.Subtract zero_scalar x right (subst (λ z. with_right op.Subtract z right ≡ Ok x) (sym zero) l.2) in
        joined_has s.items s.allowed op.Subtract zero_typed (typed s t) j k zero_scalar r.0 x (back_none (operand_faults s t) _ none) gives refl
        (scalar_has t (kind_beside op.Subtract zero_typed.given g) (kind_beside op.Subtract zero_typed.given g) r.0 (front_none (operand_faults s t) _ none) (beside_gives op.Subtract zero_typed.given g) r.1) r.2
    scalar_has (binary o a b) j k x none gives e =
        let ga = (typed s a).given in
        let gb = (typed s b).given in
        let left = scalar s (kind_beside o gb ga) a in
        let right = scalar s (kind_beside o ga gb) b in
        let l = left_ok o x left right e in
        let r = right_ok o l.0 x right l.2 in
        let behind = back_none (operand_faults s a) _ none in
        joined_has s.items s.allowed o (typed s a) (typed s b) j k l.0 r.0 x (back_none (operand_faults s b) _ behind) gives
        (scalar_has a (kind_beside o gb ga) (kind_beside o gb ga) l.0 (front_none (operand_faults s a) _ none) (beside_gives o gb ga) l.1)
        (scalar_has b (kind_beside o ga gb) (kind_beside o ga gb) r.0 (front_none (operand_faults s b) _ behind) (beside_gives o ga gb) r.1) r.2
    scalar_has (in_list b t ts) j k x none gives e = one_left (operands_faults s ts) _ (back_none (operand_faults s t) _ none)
    scalar_has (between b t u w) j k x none gives e = one_left (operand_faults s w) _ (back_none (operand_faults s u) _ (back_none (operand_faults s t) _ none))
    scalar_has (is_null b t) j k x none gives e = one_left (operand_faults s t) _ none
    scalar_has (inverted t) j k x none gives e = one_left (operand_faults s t) _ none
    scalar_has (all_of ts) j k x none gives e = one_left (operands_faults s ts) _ none
    scalar_has (any_of ts) j k x none gives e = one_left (operands_faults s ts) _ none

    argument_has : (f : List ℕ) (ts : Trees) (y : ScalarTree) → is_pid f ≡ false → operands_faults s ts ≡ [] → suit f (all_typed s ts) ≡ true → first_argument s ts ≡ Ok y → HasKind s.items y KInt4
    argument_has f no_more y pid none suited e = same_ok s.items KInt4 (literal value.Null) y tt e
    argument_has f (and_more t ts) y pid none suited e =
        scalar_has t KInt4 KInt4 y (front_none (operand_faults s t) _ none) (number_gives f (typed s t) (all_typed s ts) pid suited) e
