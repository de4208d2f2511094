-- What the places in an operator's operands give, which stand one behind the other.
use Rattle.std.proofs.Common.{Box, Global, ◌≡◌, ℕ, Bool, List, [], ◌++◌, Option, Some, None, refl, sym, ap, subst, ◌∙◌}
use Rattle.pg_values.specs.declared.value.Kind.{Kind}
use Rattle.sql_ast.specs.declared.expr.Expr.{Expr, Leaf, Call, CallOfAll, In, And, Or}
use Rattle.sql_ast.specs.declared.expr.Expr.TheFolds.{fold-roll-Expr}
use Rattle.sql_ast.specs.declared.expr.Expr.TheOpen.{Leaf as leaf-F, Call as call-F, CallOfAll as all-F, In as in-F, And as and-F, Or as or-F}
use Rattle.sql_ast.specs.declared.expr.Expr.TheVariants.{rolls-Leaf, rolls-Call, rolls-CallOfAll, rolls-In, rolls-And, rolls-Or}
use Rattle.sql_ast.specs.declared.expr.ExprList.{ExprList}
use Rattle.sql_ast.specs.declared.leaf.Leaf.{Leaf as OneLeaf}
use Rattle.sql_ast.specs.declared.leaf.Operator.{Operator}
use Rattle.sql_ast.specs.Expressions.{layer, list_layer, tree, trees, Tree, Trees, and_more, leaf, call, call_of_all, binary, in_list, between, all_of, any_of}
use Rattle.expression_binder.specs.declared.typed.Given.{Given}
use Rattle.expression_binder.specs.Scopes.{Scope}
use Rattle.prepared_statements.specs.Firsts.{noted}
use Rattle.prepared_statements.specs.ParameterPlaces.{Place, at, either, own_kind, beside, given, kind_of_any, part, part_places, places}
use Rattle.prepared_statements.proofs.Firsts.{noted_both}
use Rattle.prepared_statements.proofs.Loops.{is_noted}

pub in_is : (b : Bool) (e : Box Expr Global) (list : ExprList) → tree (In b e list) ≡ in_list b (tree e.value) (trees list)
in_is b e list = ap tree (sym (rolls-In b e list)) ∙ fold-roll-Expr Tree Trees layer list_layer (in-F b e list)

pub leaf_is : (l : OneLeaf) → tree (Leaf l) ≡ leaf l
leaf_is l = ap tree (sym (rolls-Leaf l)) ∙ fold-roll-Expr Tree Trees layer list_layer (leaf-F l)

pub call_is : (f : List ℕ) (list : ExprList) → tree (Call f list) ≡ call f (trees list)
call_is f list = ap tree (sym (rolls-Call f list)) ∙ fold-roll-Expr Tree Trees layer list_layer (call-F f list)

pub call_of_all_is : (f : List ℕ) → tree (CallOfAll f) ≡ call_of_all f
call_of_all_is f = ap tree (sym (rolls-CallOfAll f)) ∙ fold-roll-Expr Tree Trees layer list_layer (all-F f)

pub all_is : (list : ExprList) → tree (And list) ≡ all_of (trees list)
all_is list = ap tree (sym (rolls-And list)) ∙ fold-roll-Expr Tree Trees layer list_layer (and-F list)

pub any_is : (list : ExprList) → tree (Or list) ≡ any_of (trees list)
any_is list = ap tree (sym (rolls-Or list)) ∙ fold-roll-Expr Tree Trees layer list_layer (or-F list)

-- an operand that is no leaf gives nothing itself
pub none_at : (o : Option Kind) (t u : Tree) → t ≡ u → ((k : Kind) → at (Some k) u ≡ []) → at o t ≡ []
none_at None t u e nothing = refl
none_at (Some k) t u e nothing = ap (at (Some k)) e ∙ nothing k

-- two lists, one behind the other
both_noted : (xs ys : List Place) (f g h : List (Option Kind)) → g ≡ noted f xs → h ≡ noted g ys → h ≡ noted f (xs ++ ys)
both_noted xs ys f g h a b = b ∙ (ap (λ ks. noted ks ys) a ∙ sym (noted_both f xs ys))

module _ (s : Scope) (gs : List Given) where
  -- an operand at a place of the kind
  abbrev at_place : List (Option Kind) → Option Kind → Tree → List (Option Kind)
  at_place f k t = noted f (part s gs k t)

  abbrev at_places : List (Option Kind) → Option Kind → Trees → List (Option Kind)
  at_places f k ts = noted f (part_places s gs k ts)

  pub binary_noted : (o : Operator) (x y t : Tree) (gx gy : Given) (j k : Option Kind) (f g h : List (Option Kind)) → t ≡ binary o x y → gx ≡ given s gs x → gy ≡ given s gs y →
      j ≡ beside o gy → k ≡ beside o gx → g ≡ at_place f j x → h ≡ at_place g k y → h ≡ noted f (places s gs t)
  binary_noted o x y t gx gy j k f g h e hx hy hj hk ha hb =
      subst (λ u. h ≡ noted f (places s gs u)) (sym e)
      (both_noted (part s gs (beside o (given s gs y)) x) (part s gs (beside o (given s gs x)) y) f g h
      (ha ∙ ap (λ m. at_place f m x) (hj ∙ ap (beside o) hy))
      (hb ∙ ap (λ m. at_place g m y) (hk ∙ ap (beside o) hx)))

  pub in_noted : (q : Bool) (x t : Tree) (ts us vs : Trees) (gx : Given) (j k : Option Kind) (f g h : List (Option Kind)) → t ≡ in_list q x ts → us ≡ ts → vs ≡ ts → j ≡ kind_of_any s gs us → gx ≡ given s gs x →
      k ≡ own_kind gx → g ≡ at_place f j x → h ≡ at_places g k vs → h ≡ noted f (places s gs t)
  in_noted q x t ts us vs gx j k f g h e hu hv hj hx hk ha hb =
      subst (λ u. h ≡ noted f (places s gs u)) (sym e)
      (both_noted (part s gs (kind_of_any s gs ts) x) (part_places s gs (own_kind (given s gs x)) ts) f g h
      (ha ∙ ap (λ m. at_place f m x) (hj ∙ ap (kind_of_any s gs) hu))
      (hb ∙ (ap (λ m. at_places g m vs) (hk ∙ ap own_kind hx) ∙ ap (at_places g (own_kind (given s gs x))) hv)))

  pub between_noted : (q : Bool) (x y z t : Tree) (gx gy gz : Given) (oy oz j k : Option Kind) (f g h i : List (Option Kind)) → t ≡ between q x y z → gx ≡ given s gs x → gy ≡ given s gs y → gz ≡ given s gs z →
      oy ≡ own_kind gy → oz ≡ own_kind gz → j ≡ either oy oz → k ≡ own_kind gx → g ≡ at_place f j x → h ≡ at_place g k y → i ≡ at_place h k z → i ≡ noted f (places s gs t)
  between_noted q x y z t gx gy gz oy oz j k f g h i e hx hy hz hoy hoz hj hk ha hb hd =
      let ends : j ≡ either (own_kind (given s gs y)) (own_kind (given s gs z)) = hj ∙ (ap (λ m. either m oz) (hoy ∙ ap own_kind hy) ∙ ap (λ m. either (own_kind (given s gs y)) m) (hoz ∙ ap own_kind hz)) in
      let own : k ≡ own_kind (given s gs x) = hk ∙ ap own_kind hx in
      subst (λ u. i ≡ noted f (places s gs u)) (sym e)
      (both_noted (part s gs (either (own_kind (given s gs y)) (own_kind (given s gs z))) x) (part s gs (own_kind (given s gs x)) y ++ part s gs (own_kind (given s gs x)) z) f g i
      (ha ∙ ap (λ m. at_place f m x) ends)
      (both_noted (part s gs (own_kind (given s gs x)) y) (part s gs (own_kind (given s gs x)) z) g h i (hb ∙ ap (λ m. at_place g m y) own) (hd ∙ ap (λ m. at_place h m z) own)))

  -- a list of operands, from one of them on
  pub part_passed : (k : Option Kind) (t : Tree) (us ts : Trees) (before after all : List (Option Kind)) → us ≡ and_more t ts → at_places before k us ≡ all → after ≡ at_place before k t → at_places after k ts ≡ all
  part_passed k t us ts before after all e so_far is = is_noted before after (part s gs k t) (part_places s gs k ts) (part_places s gs k us) all (ap (part_places s gs k) e) so_far is
