-- Outputs and conditions of a SELECT.
use Rattle.std.proofs.Common.{◌≡◌, ℕ, zero, suc, ◌+◌, ◌<◌, true, List, [], ◌∷◌, ◌++◌, Option, Some, None, Result, Ok, Err, length, map, take, drop, slice_get, slice_index_or, nat_le, refl, sym, ap, subst, ◌∙◌, arith, append_assoc}
use Rattle.pg_values.specs.declared.fault.Fault.{Fault}
use Rattle.pg_values.specs.declared.value.Kind.{Kind}
use Rattle.pg_values.specs.declared.value.Kind.TheVariants.{Text as KText}
use Rattle.sql_ast.specs.Expressions.{Tree}
use Rattle.sql_ast.specs.Queries.{Item as Listed, all_columns, columns_of, one_column, Joined}
use Rattle.cond_logic.specs.declared.cond.Operand.{Operand}
use Rattle.cond_logic.specs.declared.cond.Operand.TheVariants.{Column, Lit, Param as Argument}
use Rattle.cond_logic.specs.Scalars.{ScalarTree}
use Rattle.cond_logic.specs.Trees.{CondTree, CondTrees, no_more, and_more, all_of, any_of, inverted, compares, null_test, known, listed}
use Rattle.expression_binder.specs.declared.scope.Param.{Param}
use Rattle.expression_binder.specs.declared.scope.ScopeColumn.{ScopeColumn}
use Rattle.expression_binder.specs.Conditions.{cond_faults}
use Rattle.expression_binder.specs.Firsts.{fault_in}
use Rattle.expression_binder.specs.Kinds.{kind_alone}
use Rattle.expression_binder.specs.Meanings.{constant_faults, meaning}
use Rattle.expression_binder.specs.Operands.{operand_faults, typed}
use Rattle.expression_binder.specs.Scopes.{Item, Scope, condition_scope, item_called}
use Rattle.binding_laws.specs.Fitting.{Lies, SideOf, Fits, AllFit, ArgumentsFit, IsSound}
use Rattle.binding_laws.proofs.Conditions.{condition_fits}
use Rattle.binding_laws.proofs.Names.{called_at}
use Rattle.binding_laws.proofs.Operands.{front_none, back_none, alone_gives, scalar_has}
use Rattle.cond_logic.specs.Asked.{OutputTree}
use Rattle.sql_binder.specs.From.{joined_items, start_of, on_condition, on_conditions, all_conditions, condition_faults, condition_constants, condition_meanings}
use Rattle.sql_binder.specs.Items.{listed_faults, list_faults, columns_from, item_outputs, all_outputs, outputs_of, output_scalar, made_output, listed_constants, list_constants, listed_outputs, list_outputs, output_name}
use Rattle.binding_laws.specs.FittingAsks.{OutputsFit}

-- ---- outputs

both_fit : (items : List Item) (os ps : List OutputTree) → OutputsFit items os → OutputsFit items ps → OutputsFit items (os ++ ps)
both_fit items [] ps p q = q
both_fit items (o ∷ os) ps p q = (p.0, both_fit items os ps p.1 q)

-- the column behind those of a front
kind_behind : (front cs : List ScopeColumn) (c : ScopeColumn) → c.kind ≡ slice_index_or (map (λ d. d.kind) (front ++ c ∷ cs)) (length front) KText
kind_behind [] cs c = refl
kind_behind (d ∷ front) cs c = kind_behind front cs c

length_behind : (front cs : List ScopeColumn) (c : ScopeColumn) → length front < length (front ++ c ∷ cs)
length_behind [] cs c = omega arith
length_behind (d ∷ front) cs c = let h = length_behind front cs c in omega (arith, h)

longer : (front : List ScopeColumn) (c : ScopeColumn) → length (front ++ c ∷ []) ≡ length front + 1
longer [] c = refl
longer (d ∷ front) c = let h = longer front c in omega (arith, h)

module _ (items : List Item) (item : Item) (i : ℕ) (at : slice_get items i ≡ Some item) where
  column_lies : (front cs : List ScopeColumn) (c : ScopeColumn) → item.columns ≡ front ++ c ∷ cs → Lies items (record { item = item.number; position = length front }) c.kind
  column_lies front cs c is =
      (i, item, at, (refl, subst (λ ds. length front < length ds) (sym is) (length_behind front cs c), subst (λ ds. c.kind ≡ slice_index_or (map (λ d. d.kind) ds) (length front) KText) (sym is) (kind_behind front cs c)))

  columns_fit : (front cs : List ScopeColumn) (place : ℕ) → place ≡ length front → item.columns ≡ front ++ cs → OutputsFit items (columns_from item place cs)
  columns_fit front [] place p is = tt
  columns_fit front (c ∷ cs) place p is = (
    subst (λ n. Lies items (record { item = item.number; position = n }) c.kind) (sym p) (column_lies front cs c is),
    columns_fit (front ++ c ∷ []) cs (place + 1) (ap (λ n. n + 1) p ∙ sym (longer front c)) (is ∙ sym (append_assoc front (c ∷ []) cs)),
  )

  pub item_fits : OutputsFit items (item_outputs item)
  item_fits = columns_fit [] item.columns 0 refl refl

-- all items of a list that ends a longer one
all_fit_from : (items rest : List Item) → ((i : ℕ) (item : Item) → slice_get rest i ≡ Some item → (j : ℕ) × (slice_get items j ≡ Some item)) → OutputsFit items (all_outputs rest)
all_fit_from items [] there = tt
all_fit_from items (item ∷ rest) there =
    let at = there 0 item refl in
    both_fit items (item_outputs item) (all_outputs rest) (item_fits items item at.0 at.1) (all_fit_from items rest (λ i other h. there (suc i) other h))

module _ (s : Scope) (sound : IsSound s) where
  called_fits : (o : Option Item) (t : List ℕ) → item_called s.items t ≡ o → OutputsFit s.items (outputs_of o)
  called_fits None t h = tt
  called_fits (Some item) t h = let at = called_at s.items t item h in item_fits s.items item at.0 at.1

  made_fits : (t : Tree) (name : List ℕ) → operand_faults s t ≡ [] → fault_in (output_scalar s t) ≡ [] → OutputsFit s.items (made_output name (kind_alone (typed s t).given) (output_scalar s t))
  made_fits t name none e = by_result (output_scalar s t) refl e
    where
      by_result : (r : Result ScalarTree Fault) → output_scalar s t ≡ r → fault_in r ≡ [] → OutputsFit s.items (made_output name (kind_alone (typed s t).given) r)
      by_result (Ok x) p q = (scalar_has s sound t (kind_alone (typed s t).given) (kind_alone (typed s t).given) x none (alone_gives (typed s t).given) p, tt)
      by_result (Err f) p q = cc

  listed_fits : (l : Listed) → listed_faults s l ≡ [] → listed_constants s l ≡ [] → OutputsFit s.items (listed_outputs s l)
  listed_fits all_columns h e = all_fit_from s.items s.items (λ i item at. (i, at))
  listed_fits (columns_of t) h e = called_fits (item_called s.items t) t refl
  listed_fits (one_column o) h e = made_fits o.0 (output_name o.0 o.1) h e

  pub list_fits : (ls : List Listed) → list_faults s ls ≡ [] → list_constants s ls ≡ [] → OutputsFit s.items (list_outputs s ls)
  list_fits [] h e = tt
  list_fits (l ∷ ls) h e =
      both_fit s.items (listed_outputs s l) (list_outputs s ls) (listed_fits l (front_none (listed_faults s l) _ h) (front_none (listed_constants s l) _ e))
      (list_fits ls (back_none (listed_faults s l) _ h) (back_none (listed_constants s l) _ e))

-- ---- conditions

module _ (known_items items : List Item) (params : List Param) (there : (i : ℕ) (item : Item) → slice_get known_items i ≡ Some item → (j : ℕ) × (slice_get items j ≡ Some item)) where
  side_more : (x : Operand) (k : Kind) → SideOf known_items params x k → SideOf items params x k
  side_more (Column c) k h = let at = there h.0 h.1 h.2 in (at.0, h.1, at.1, h.3)
  side_more (Lit v) k h = h
  side_more (Argument i) k h = h

  mutual
    pub fits_more : (c : CondTree) → Fits known_items params c → Fits items params c
    fits_more (all_of cs) h = all_more cs h
    fits_more (any_of cs) h = all_more cs h
    fits_more (inverted c) h = fits_more c h
    fits_more (compares op x y) h = (h.0, h.1, side_more x h.0 h.2, side_more y h.1 h.3, h.4)
    fits_more (null_test x) h = (h.0, side_more x h.0 h.1)
    fits_more (known t) h = tt

    all_more : (cs : CondTrees) → AllFit known_items params cs → AllFit items params cs
    all_more no_more h = tt
    all_more (and_more c cs) h = (fits_more c h.0, all_more cs h.1)

-- an item that an ON may name is one of all
dropped_there : (n : ℕ) (items : List Item) (i : ℕ) (item : Item) → slice_get (drop n items) i ≡ Some item → (j : ℕ) × (slice_get items j ≡ Some item)
dropped_there zero items i item h = (i, h)
dropped_there (suc n) [] i item h = (i, h)
dropped_there (suc n) (x ∷ items) i item h = let at = dropped_there n items i item h in (suc at.0, at.1)

taken_there : (n : ℕ) (items : List Item) (i : ℕ) (item : Item) → slice_get (take n items) i ≡ Some item → slice_get items i ≡ Some item
taken_there zero items i item h = cc
taken_there (suc n) [] i item h = cc
taken_there (suc n) (x ∷ items) zero item h = h
taken_there (suc n) (x ∷ items) (suc i) item h = taken_there n items i item h

joined_there : (items : List Item) (start last i : ℕ) (item : Item) → slice_get (joined_items items start last) i ≡ Some item → (j : ℕ) × (slice_get items j ≡ Some item)
joined_there items start last i item h =
    let at = dropped_there start (take (last + 1) items) i item h in
    (at.0, taken_there (last + 1) items at.0 item at.1)

abbrev AreOf : List Item → List (List Item × Tree) → Type 0
AreOf items [] = Unit {0}
AreOf items (c ∷ cs) = ((i : ℕ) (item : Item) → slice_get c.0 i ≡ Some item → (j : ℕ) × (slice_get items j ≡ Some item)) × AreOf items cs

of_both : (items : List Item) (cs ds : List (List Item × Tree)) → AreOf items cs → AreOf items ds → AreOf items (cs ++ ds)
of_both items [] ds p q = q
of_both items (c ∷ cs) ds p q = (p.0, of_both items cs ds p.1 q)

on_of : (items : List Item) (start place : ℕ) (o : Option Tree) → AreOf items (on_condition items start place o)
on_of items start place None = tt
on_of items start place (Some t) = (λ i item h. joined_there items start place i item h, tt)

ons_of : (items : List Item) (start place : ℕ) (js : List Joined) → AreOf items (on_conditions items start place js)
ons_of items start place [] = tt
ons_of items start place (j ∷ js) = of_both items (on_condition items start place j.1) (on_conditions items (start_of start place j.1) (place + 1) js) (on_of items start place j.1) (ons_of items (start_of start place j.1) (place + 1) js)

all_of_them : (items : List Item) (js : List Joined) (o : Option Tree) → AreOf items (all_conditions items js o)
all_of_them items js None = ons_of items 0 0 js
all_of_them items js (Some t) = of_both items (on_conditions items 0 0 js) ((items, t) ∷ []) (ons_of items 0 0 js) (λ i item h. (i, h), tt)

module _ (items : List Item) (params : List Param) (session : ℕ) (arguments : ArgumentsFit params) (small : nat_le session 2147483647 ≡ true) where
  each_fits : (cs : List (List Item × Tree)) → AreOf items cs → condition_faults params session cs ≡ [] → condition_constants params session cs ≡ [] → AllFit items params (listed (condition_meanings params session cs))
  each_fits [] of h e = tt
  each_fits (c ∷ cs) of h e =
      let s = condition_scope c.0 params session in (
        fits_more c.0 items params of.0 (meaning s c.1) (condition_fits s (arguments, small) c.1 (front_none (cond_faults s c.1) _ h) (front_none (constant_faults s c.1) _ e)),
        each_fits cs of.1 (back_none (cond_faults s c.1) _ h) (back_none (constant_faults s c.1) _ e),
      )

  pub conditions_fit : (js : List Joined) (o : Option Tree) → condition_faults params session (all_conditions items js o) ≡ [] → condition_constants params session (all_conditions items js o) ≡ []
      → AllFit items params (listed (condition_meanings params session (all_conditions items js o)))
  conditions_fit js o h e = each_fits (all_conditions items js o) (all_of_them items js o) h e
