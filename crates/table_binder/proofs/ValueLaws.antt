-- An expression whose parts have no fault has those of the whole alone.
use Rattle.std.proofs.Common.{◌≡◌, List, [], ◌∷◌, ◌++◌, append_assoc, Result, Ok, Err, refl, sym, ap, subst, ◌∙◌}
use Rattle.pg_values.specs.declared.fault.Fault.{Fault}
use Rattle.pg_values.specs.declared.fault.Refusal.{Refusal}
use Rattle.pg_values.specs.Refusals.{IsAnswer}
use Rattle.sql_ast.specs.Expressions.{Tree, Trees, no_more, and_more, leaf, call, call_of_all, negated, binary, in_list, between, is_null, inverted, all_of, any_of}
use Rattle.expression_binder.specs.Firsts.{or_first}
use Rattle.expression_binder.specs.Kinds.{join_faults, joined}
use Rattle.expression_binder.specs.Operands.{operand_faults, operands_faults, own_faults, typed, zero_typed}
use Rattle.expression_binder.specs.Scopes.{nothing_more}
use Rattle.expression_binder.specs.declared.scope.Allowed.{Allowed}
use Rattle.expression_binder.specs.declared.typed.Typed.{Typed}
use Rattle.sql_ast.specs.declared.leaf.Operator.{Operator}
use Rattle.sql_ast.specs.declared.leaf.Operator.TheVariants as op
use Rattle.expression_binder.specs.Operands as operands
use Rattle.expression_binder.proofs.Checked.{operand_split, negated_decides, binary_decides}
use Rattle.expression_binder.proofs.Firsts.{none_found, here, behind, first_still, value_still, value_of}
use Rattle.table_binder.specs.Values.{no_names, value_faults, values_faults, inner_faults}

none_left : (fs rest : List Fault) → fs ++ rest ≡ [] → fs ≡ []
none_left [] rest h = refl
none_left (f ∷ fs) rest h = cc

none_behind : (fs rest : List Fault) → fs ++ rest ≡ [] → rest ≡ []
none_behind [] rest h = h
none_behind (f ∷ fs) rest h = cc

both_none : (a b fs gs : List Fault) → (a ≡ [] → fs ≡ []) → (b ≡ [] → gs ≡ []) → a ++ b ≡ [] → fs ++ gs ≡ []
both_none a b fs gs f g h = rw (f (none_left a b h), g (none_behind a b h)) refl

value_split : (t : Tree) → value_faults t ≡ inner_faults t ++ operand_faults no_names t
value_split (leaf l) = refl
value_split (call f ts) = refl
value_split (call_of_all f) = refl
value_split (negated e) = refl
value_split (binary o x y) = refl
value_split (in_list b x ts) = sym (append_assoc (value_faults x) (values_faults ts) (operand_faults no_names (in_list b x ts)))
value_split (between b x y z) = sym (append_assoc (value_faults x) (value_faults y ++ value_faults z) (operand_faults no_names (between b x y z)))
value_split (is_null b x) = refl
value_split (inverted e) = refl
value_split (all_of ts) = refl
value_split (any_of ts) = refl

-- without a fault as a value it has none as an operand
value_none : (t : Tree) → value_faults t ≡ [] → operand_faults no_names t ≡ []
value_none t h = none_behind (inner_faults t) (operand_faults no_names t) (sym (value_split t) ∙ h)

values_none : (ts : Trees) → values_faults ts ≡ [] → operands_faults no_names ts ≡ []
values_none no_more h = refl
values_none (and_more t ts) h = both_none (value_faults t) (values_faults ts) (operand_faults no_names t) (operands_faults no_names ts) (value_none t) (values_none ts) h

inner_none : (t : Tree) → inner_faults t ≡ [] → operands.inner_faults no_names t ≡ []
inner_none (leaf l) h = refl
inner_none (call f ts) h = values_none ts h
inner_none (call_of_all f) h = refl
inner_none (negated e) h = value_none e h
inner_none (binary o x y) h = both_none (value_faults x) (value_faults y) (operand_faults no_names x) (operand_faults no_names y) (value_none x) (value_none y) h
inner_none (in_list b x ts) h = both_none (value_faults x) (values_faults ts) (operand_faults no_names x) (operands_faults no_names ts) (value_none x) (values_none ts) h
inner_none (between b x y z) h =
    both_none (value_faults x) (value_faults y ++ value_faults z) (operand_faults no_names x) (operand_faults no_names y ++ operand_faults no_names z) (value_none x)
    (both_none (value_faults y) (value_faults z) (operand_faults no_names y) (operand_faults no_names z) (value_none y) (value_none z)) h
inner_none (is_null b x) h = value_none x h
inner_none (inverted e) h = value_none e h
inner_none (all_of ts) h = values_none ts h
inner_none (any_of ts) h = values_none ts h

-- a fault of a part is the first
pub inner_first : (t : Tree) (v : Typed) (e : Refusal) → IsAnswer {T = Unit {0}} (Err e) (or_first (inner_faults t) tt) → IsAnswer {T = Typed} (Err e) (or_first (value_faults t) v)
inner_first t v e h = subst (λ fs. IsAnswer {T = Typed} (Err e) (or_first fs v)) (sym (value_split t)) (here e (inner_faults t) (operand_faults no_names t) tt v h)

-- and parts that have none leave the whole to decide
own_alone : (t : Tree) (u : Unit {0}) → or_first (inner_faults t) tt ≡ Ok u → value_faults t ≡ own_faults no_names t
own_alone t u p =
    let none : inner_faults t ≡ [] = none_found (inner_faults t) tt u p in
    let whole : operand_faults no_names t ≡ own_faults no_names t = operand_split no_names t ∙ ap (λ (fs : List Fault). fs ++ own_faults no_names t) (inner_none t none) in
    value_split t ∙ ap (λ (fs : List Fault). fs ++ operand_faults no_names t) none ∙ whole

pub own_first : (t : Tree) (v : Typed) (u : Unit {0}) (e : Refusal) → or_first (inner_faults t) tt ≡ Ok u → IsAnswer {T = Unit {0}} (Err e) (or_first (own_faults no_names t) tt)
    → IsAnswer {T = Typed} (Err e) (or_first (value_faults t) v)
own_first t v u e p h = subst (λ fs. IsAnswer {T = Typed} (Err e) (or_first fs v)) (sym (own_alone t u p)) (first_still e (own_faults no_names t) tt v h)

pub own_typed : (t : Tree) (v : Typed) (u w : Unit {0}) → or_first (inner_faults t) tt ≡ Ok u → or_first (own_faults no_names t) tt ≡ Ok w → v ≡ typed no_names t → or_first (value_faults t) (typed no_names t) ≡ Ok v
own_typed t v u w p q e = subst (λ fs. or_first fs (typed no_names t) ≡ Ok v) (sym (own_alone t u p)) (value_still (own_faults no_names t) tt w (typed no_names t) v q e)

-- a side without a fault as a value has its kind as an operand
typed_side : (x : Tree) (v : Typed) → or_first (value_faults x) (typed no_names x) ≡ Ok v → or_first (operand_faults no_names x) (typed no_names x) ≡ Ok v
typed_side x v h =
    let own = value_of (value_faults x) (typed no_names x) v h in
    let none : operand_faults no_names x ≡ [] = value_none x own.0 in
    rw none (ap Ok own.1)

behind_sides : (t : Tree) (r : Result Typed Refusal) → inner_faults t ≡ [] → IsAnswer r (or_first (operand_faults no_names t) (typed no_names t)) → IsAnswer r (or_first (value_faults t) (typed no_names t))
behind_sides t r none h =
    subst (λ fs. IsAnswer r (or_first fs (typed no_names t))) (sym (value_split t)) (behind r (inner_faults t) (operand_faults no_names t) (typed no_names t) none h)

-- behind sides that have none an operator decides
pub value_negated : (x t : Tree) (a : Allowed) (z v : Typed) (r : Result Typed Refusal) → a ≡ nothing_more → z ≡ zero_typed → t ≡ negated x → or_first (value_faults x) (typed no_names x) ≡ Ok v
    → IsAnswer r (or_first (join_faults a op.Subtract z v) (joined op.Subtract z v)) → IsAnswer r (or_first (value_faults t) (typed no_names t))
value_negated x t a z v r p q e h k =
    let own = value_of (value_faults x) (typed no_names x) v h in
    behind_sides t r (ap inner_faults e ∙ own.0) (negated_decides no_names x t a z v r p q e (typed_side x v h) k)

pub value_binary : (o : Operator) (x y t : Tree) (a : Allowed) (v w : Typed) (r : Result Typed Refusal) → a ≡ nothing_more → t ≡ binary o x y → or_first (value_faults x) (typed no_names x) ≡ Ok v
    → or_first (value_faults y) (typed no_names y) ≡ Ok w → IsAnswer r (or_first (join_faults a o v w) (joined o v w)) → IsAnswer r (or_first (value_faults t) (typed no_names t))
value_binary o x y t a v w r p e h i k =
    let left = value_of (value_faults x) (typed no_names x) v h in
    let right = value_of (value_faults y) (typed no_names y) w i in
    let none : value_faults x ++ value_faults y ≡ [] = ap (λ (fs : List Fault). fs ++ value_faults y) left.0 ∙ right.0 in
    behind_sides t r (ap inner_faults e ∙ none) (binary_decides no_names o x y t a v w r p e (typed_side x v h) (typed_side y w i) k)
