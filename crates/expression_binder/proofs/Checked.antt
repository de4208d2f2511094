-- What is checked part by part is checked as a whole.
use Rattle.std.proofs.Common.{◌≡◌, ℕ, List, [], ◌∷◌, ◌++◌, append_assoc, Result, Ok, Err, refl, sym, ap, subst, ◌∙◌, ◌≤◌, length, map, false, arith}
use Rattle.pg_values.specs.declared.fault.Fault.{Fault}
use Rattle.pg_values.specs.declared.fault.Refusal.{Refusal}
use Rattle.pg_values.specs.Refusals.{IsAnswer}
use Rattle.expression_binder.specs.Firsts.{or_first}
use Rattle.sql_ast.specs.declared.expr.Expr.{Expr}
use Rattle.sql_ast.specs.declared.leaf.Operator.{Operator}
use Rattle.sql_ast.specs.declared.leaf.Operator.TheVariants as op
use Rattle.sql_ast.specs.Expressions.{Tree, leaf, call, call_of_all, negated, binary, in_list, between, is_null, inverted, all_of, any_of, tree, listed}
use Rattle.expression_binder.specs.Operands.{suit, all_typed, operand_faults, operands_faults, inner_faults, own_faults, typed, zero_typed}
use Rattle.expression_binder.specs.Kinds.{join_faults, joined}
use Rattle.cond_logic.specs.Trees.{CondTree}
use Rattle.cond_logic.specs.Trees as conds
use Rattle.expression_binder.specs.Meanings.{constant_faults, meaning}
use Rattle.expression_binder.specs.Scopes.{Scope}
use Rattle.expression_binder.specs.declared.scope.Allowed.{Allowed}
use Rattle.expression_binder.specs.declared.typed.Typed.{Typed}
use Rattle.expression_binder.proofs.Firsts.{none_found, here, behind, first_still, value_of}

-- the faults of an operand are those of its parts, and behind them those of the whole
pub operand_split : (s : Scope) (t : Tree) → operand_faults s t ≡ inner_faults s t ++ own_faults s t
operand_split s (leaf l) = refl
operand_split s (call f ts) = refl
operand_split s (call_of_all f) = refl
operand_split s (negated e) = refl
operand_split s (binary o x y) = sym (append_assoc (operand_faults s x) (operand_faults s y) (own_faults s (binary o x y)))
operand_split s (in_list b x ts) = sym (append_assoc (operand_faults s x) (operands_faults s ts) (own_faults s (in_list b x ts)))
operand_split s (between b x y z) =
    let own = own_faults s (between b x y z) in
    sym (append_assoc (operand_faults s x) (operand_faults s y ++ operand_faults s z) own ∙ ap (λ (fs : List Fault). operand_faults s x ++ fs) (append_assoc (operand_faults s y) (operand_faults s z) own))
operand_split s (is_null b x) = refl
operand_split s (inverted e) = refl
operand_split s (all_of ts) = refl
operand_split s (any_of ts) = refl

-- a fault of a part is the first
pub inner_first : (s : Scope) (t : Tree) (v : Typed) (e : Refusal) → IsAnswer {T = Unit {0}} (Err e) (or_first (inner_faults s t) tt) → IsAnswer {T = Typed} (Err e) (or_first (operand_faults s t) v)
inner_first s t v e h = subst (λ fs. IsAnswer {T = Typed} (Err e) (or_first fs v)) (sym (operand_split s t)) (here e (inner_faults s t) (own_faults s t) tt v h)

-- parts that have none leave the whole to decide
pub own_first : (s : Scope) (t : Tree) (v : Typed) (u : Unit {0}) (e : Refusal) → or_first (inner_faults s t) tt ≡ Ok u → IsAnswer {T = Unit {0}} (Err e) (or_first (own_faults s t) tt)
    → IsAnswer {T = Typed} (Err e) (or_first (operand_faults s t) v)
own_first s t v u e p h =
    let own : IsAnswer {T = Typed} (Err e) (or_first (own_faults s t) v) = first_still e (own_faults s t) tt v h in
    subst (λ fs. IsAnswer {T = Typed} (Err e) (or_first fs v)) (sym (operand_split s t)) (behind (Err e) (inner_faults s t) (own_faults s t) v (none_found (inner_faults s t) tt u p) own)

-- behind sides that have none an operator decides
pub negated_decides : (s : Scope) (x t : Tree) (a : Allowed) (z v : Typed) (r : Result Typed Refusal) → a ≡ s.allowed → z ≡ zero_typed → t ≡ negated x → or_first (operand_faults s x) (typed s x) ≡ Ok v
    → IsAnswer r (or_first (join_faults a op.Subtract z v) (joined op.Subtract z v)) → IsAnswer r (or_first (operand_faults s t) (typed s t))
negated_decides s x t a z v r allowed zero e h k =
    let own = value_of (operand_faults s x) (typed s x) v h in
    let faults : operand_faults s (negated x) ≡ join_faults s.allowed op.Subtract zero_typed v =
    ap (λ (fs : List Fault). fs ++ join_faults s.allowed op.Subtract zero_typed (typed s x)) own.0 ∙ ap (λ (u : Typed). join_faults s.allowed op.Subtract zero_typed u) own.1 in
    let kind : typed s (negated x) ≡ joined op.Subtract zero_typed v = ap (λ (u : Typed). joined op.Subtract zero_typed u) own.1 in
    let in_scope : IsAnswer r (or_first (join_faults s.allowed op.Subtract z v) (joined op.Subtract z v)) =
    subst (λ (b : Allowed). IsAnswer r (or_first (join_faults b op.Subtract z v) (joined op.Subtract z v))) allowed k in
    let decided : IsAnswer r (or_first (join_faults s.allowed op.Subtract zero_typed v) (joined op.Subtract zero_typed v)) =
    subst (λ (u : Typed). IsAnswer r (or_first (join_faults s.allowed op.Subtract u v) (joined op.Subtract u v))) zero in_scope in
    let all : operand_faults s t ≡ join_faults s.allowed op.Subtract zero_typed v = ap (operand_faults s) e ∙ faults in
    let whole : typed s t ≡ joined op.Subtract zero_typed v = ap (typed s) e ∙ kind in
    rw (all, whole) decided

pub binary_decides : (s : Scope) (o : Operator) (x y t : Tree) (a : Allowed) (v w : Typed) (r : Result Typed Refusal) → a ≡ s.allowed → t ≡ binary o x y → or_first (operand_faults s x) (typed s x) ≡ Ok v → or_first (operand_faults s y) (typed s y) ≡ Ok w
    → IsAnswer r (or_first (join_faults a o v w) (joined o v w)) → IsAnswer r (or_first (operand_faults s t) (typed s t))
binary_decides s o x y t a v w r allowed e h i k =
    let left = value_of (operand_faults s x) (typed s x) v h in
    let right = value_of (operand_faults s y) (typed s y) w i in
    let faults : operand_faults s (binary o x y) ≡ join_faults s.allowed o v w =
    ap (λ (fs : List Fault). fs ++ (operand_faults s y ++ join_faults s.allowed o (typed s x) (typed s y))) left.0
    ∙ (ap (λ (fs : List Fault). fs ++ join_faults s.allowed o (typed s x) (typed s y)) right.0
    ∙ (ap (λ (u : Typed). join_faults s.allowed o u (typed s y)) left.1 ∙ ap (λ (u : Typed). join_faults s.allowed o v u) right.1)) in
    let kind : typed s (binary o x y) ≡ joined o v w = ap (λ (u : Typed). joined o u (typed s y)) left.1 ∙ ap (λ (u : Typed). joined o v u) right.1 in
    let decided : IsAnswer r (or_first (join_faults s.allowed o v w) (joined o v w)) =
    subst (λ (b : Allowed). IsAnswer r (or_first (join_faults b o v w) (joined o v w))) allowed k in
    let all : operand_faults s t ≡ join_faults s.allowed o v w = ap (operand_faults s) e ∙ faults in
    let whole : typed s t ≡ joined o v w = ap (typed s) e ∙ kind in
    rw (all, whole) decided

pub not_bound : (s : Scope) (t x : Tree) (c made : CondTree) → t ≡ inverted x → or_first (constant_faults s x) (meaning s x) ≡ Ok c → made ≡ conds.inverted c
    → or_first (constant_faults s t) (meaning s t) ≡ Ok made
not_bound s t x c made e h k =
    let p = value_of (constant_faults s x) (meaning s x) c h in
    let all : constant_faults s t ≡ [] = ap (constant_faults s) e ∙ p.0 in
    let m : meaning s t ≡ made = ap (meaning s) e ∙ (ap conds.inverted p.1 ∙ sym k) in
    rw (all, m) refl

-- two arguments suit no function
pub two_suit_none : (f : List ℕ) (s : Scope) (es : List Expr) → 2 ≤ length es → false ≡ suit f (all_typed s (listed (map tree es)))
two_suit_none f s [] h = absurd (omega arith)
two_suit_none f s (x ∷ []) h = absurd (omega arith)
two_suit_none f s (x ∷ y ∷ es) h = refl
