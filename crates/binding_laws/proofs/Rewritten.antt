-- A condition fits as well once it is rewritten.
use Rattle.std.proofs.Common.{◌≡◌, ℕ, List, Option, Some, None, slice_get, refl, sym, subst}
use Rattle.pg_values.specs.declared.value.Kind.{Kind}
use Rattle.pg_values.specs.declared.value.Value.{Value}
use Rattle.cond_logic.specs.declared.cond.Operand.{Operand}
use Rattle.cond_logic.specs.declared.cond.Operand.TheVariants.{Column, Lit, Param as Argument}
use Rattle.cond_logic.specs.Rewriting.{pushed, all_pushed, negation, negations, operand_with, given_or, with_args, all_with_args}
use Rattle.cond_logic.specs.Trees.{CondTree, CondTrees, no_more, and_more, all_of, any_of, inverted, compares, null_test, known}
use Rattle.expression_binder.specs.declared.scope.Param.{Param}
use Rattle.expression_binder.specs.Scopes.{Item}
use Rattle.binding_laws.specs.Fitting.{IsOf, SideOf, Fits, AllFit, ValuesFit, PushedFit, GivenFit}

module _ (items : List Item) (params : List Param) where
  mutual
    pushed_fits : (c : CondTree) → Fits items params c → Fits items params (pushed c)
    pushed_fits (all_of cs) h = all_pushed_fit cs h
    pushed_fits (any_of cs) h = all_pushed_fit cs h
    pushed_fits (inverted c) h = negation_fits c h
    pushed_fits (compares op x y) h = h
    pushed_fits (null_test x) h = h
    pushed_fits (known t) h = tt

    all_pushed_fit : (cs : CondTrees) → AllFit items params cs → AllFit items params (all_pushed cs)
    all_pushed_fit no_more h = tt
    all_pushed_fit (and_more c cs) h = (pushed_fits c h.0, all_pushed_fit cs h.1)

    negation_fits : (c : CondTree) → Fits items params c → Fits items params (negation c)
    negation_fits (all_of cs) h = negations_fit cs h
    negation_fits (any_of cs) h = negations_fit cs h
    negation_fits (inverted c) h = pushed_fits c h
    negation_fits (compares op x y) h = h
    negation_fits (null_test x) h = h
    negation_fits (known t) h = tt

    negations_fit : (cs : CondTrees) → AllFit items params cs → AllFit items params (negations cs)
    negations_fit no_more h = tt
    negations_fit (and_more c cs) h = (negation_fits c h.0, negations_fit cs h.1)

pub pushed_fit : PushedFit
pushed_fit items params c h = (pushed_fits items params c h, negation_fits items params c h)

module _ (items : List Item) (params : List Param) (args : List Value) (suits : ValuesFit params args) where
  given_side : (i : ℕ) (k : Kind) (o : Option Value) → slice_get args i ≡ o → SideOf items params (Argument i) k → SideOf items params (given_or o i) k
  given_side i k None e h = h
  given_side i k (Some v) e h = subst (IsOf v) (sym h.2) (suits i h.0 v h.1 e)

  side_with : (x : Operand) (k : Kind) → SideOf items params x k → SideOf items params (operand_with args x) k
  side_with (Column c) k h = h
  side_with (Lit v) k h = h
  side_with (Argument i) k h = given_side i k (slice_get args i) refl h

  mutual
    fits_with : (c : CondTree) → Fits items params c → Fits items params (with_args args c)
    fits_with (all_of cs) h = all_fit_with cs h
    fits_with (any_of cs) h = all_fit_with cs h
    fits_with (inverted c) h = fits_with c h
    fits_with (compares op x y) h = (h.0, h.1, side_with x h.0 h.2, side_with y h.1 h.3, h.4)
    fits_with (null_test x) h = (h.0, side_with x h.0 h.1)
    fits_with (known t) h = tt

    all_fit_with : (cs : CondTrees) → AllFit items params cs → AllFit items params (all_with_args args cs)
    all_fit_with no_more h = tt
    all_fit_with (and_more c cs) h = (fits_with c h.0, all_fit_with cs h.1)

pub given_fit : GivenFit
given_fit items params args c suits h = fits_with items params args suits c h
