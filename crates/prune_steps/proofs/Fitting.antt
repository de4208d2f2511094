-- Values that a condition gives fit the key columns, and the chain of a comparison behind them.
use Rattle.std.proofs.Common.{◌≡◌, ℕ, zero, suc, ◌+◌, ◌-◌, Bool, true, false, ◌||◌, List, [], ◌∷◌, ◌++◌, length, take, refl, ap, arith, subst, if◌then◌else◌}
use Rattle.std.specs.Prelude.{◌==◌, Option, Some, None, slice_get}
use Rattle.std.proofs.lemmas.Bool.Decides.{nat_tests}
use Rattle.pg_values.specs.declared.value.Value.{Value}
use Rattle.bound_forms.specs.declared.level.KeyColumn.{KeyColumn}
use Rattle.bound_forms.specs.declared.partition_bound.Bound.{Bound}
use Rattle.bound_forms.specs.declared.point.Fill.{Fill}
use Rattle.bound_forms.specs.declared.point.Fill.TheVariants.{Min as WithMin, Max as WithMax}
use Rattle.bound_forms.specs.Points.{end_of, fill_edge}
use Rattle.cond_logic.specs.declared.cond.CompareOp.{CompareOp}
use Rattle.cond_logic.specs.declared.cond.CompareOp.TheVariants.{Eq, Ne, Lt, Le, Gt, Ge}
use Rattle.cond_logic.specs.declared.cond.Operand.{Operand}
use Rattle.cond_logic.specs.Trees.{CondTree, CondTrees, no_more, and_more, all_of, any_of, inverted, compares, null_test, known}
use Rattle.prune_steps.specs.declared.chain.ChainOp.{ChainOp}
use Rattle.prune_steps.specs.declared.chain.ChainOp.TheVariants.{Eq as ChainEq, Lt as ChainLt, Le as ChainLe, Gt as ChainGt, Ge as ChainGe}
use Rattle.prune_steps.specs.Atoms.{Asked, key_of, literal, known_null, suits, Reading, Never, Anything, On, ReadingFits, on_key, or_else, turned, reading, is_one, equal_on, first_of, given, first_given, added, values_before}
use Rattle.prune_steps.specs.Chains.{filled, chain_of}
use Rattle.prune_steps.specs.Kept.{range_keeps}
use Rattle.prune_steps.specs.Runs.{chain_op, ends_of}
use Rattle.prune_steps.proofs.AskLaws.{Suit, suit_more}

-- ---- comparisons fit their columns

on_fits : (columns : List KeyColumn) (op : CompareOp) (key : Option ℕ) (value : Option Value) → ReadingFits columns (on_key columns op key value)
on_fits columns op None value = tt
on_fits columns op (Some j) None = tt
on_fits columns op (Some j) (Some v) = by (suits (slice_get columns j) v) refl
  where
    by : (t : Bool) → suits (slice_get columns j) v ≡ t → ReadingFits columns (if t then On j op v else Anything)
    by true e = e
    by false e = tt

else_fits : (columns : List KeyColumn) (r s : Reading) → ReadingFits columns r → ReadingFits columns s → ReadingFits columns (or_else r s)
else_fits columns Never s h k = tt
else_fits columns Anything s h k = k
else_fits columns (On j op v) s h k = h

pub reading_fits : (a : Asked) (op : CompareOp) (x y : Operand) → ReadingFits a.level.columns (reading a op x y)
reading_fits a op x y = by (known_null (literal x) || known_null (literal y))
  where
    by : (t : Bool) → ReadingFits a.level.columns (if t then Never else or_else (on_key a.level.columns op (key_of a x) (literal y)) (on_key a.level.columns (turned op) (key_of a y) (literal x)))
    by true = tt
    by false = else_fits a.level.columns _ _ (on_fits a.level.columns op (key_of a x) (literal y)) (on_fits a.level.columns (turned op) (key_of a y) (literal x))

-- ---- equalities fit their columns

abbrev Fit : Asked → ℕ → Option Value → Type 0
Fit a j None = Unit {0}
Fit a j (Some v) = suits (slice_get a.level.columns j) v ≡ true

equal_fits : (a : Asked) (r : Reading) (j : ℕ) → ReadingFits a.level.columns r → Fit a j (equal_on r j)
equal_fits a Never j h = tt
equal_fits a Anything j h = tt
equal_fits a (On i Eq v) j h = by (i == j) refl
  where
    by : (t : Bool) → (i == j) ≡ t → Fit a j (if t then Some v else None)
    by true e = let same : i ≡ j = grind (arith, nat_tests, e) in rw same at h
    by false e = tt
equal_fits a (On i Ne v) j h = tt
equal_fits a (On i Lt v) j h = tt
equal_fits a (On i Le v) j h = tt
equal_fits a (On i Gt v) j h = tt
equal_fits a (On i Ge v) j h = tt

first_fits : (a : Asked) (j : ℕ) (v w : Option Value) → Fit a j v → Fit a j w → Fit a j (first_of v w)
first_fits a j (Some v) w h k = h
first_fits a j None w h k = k

mutual
  pub given_fits : (a : Asked) (t : CondTree) (j : ℕ) → Fit a j (given a false t j)
  given_fits a (all_of ts) j = firsts_fit a ts j
  given_fits a (any_of ts) j = by (is_one ts) (firsts_fit a ts j)
    where
      by : (t : Bool) → Fit a j (first_given a false ts j) → Fit a j (if t then first_given a false ts j else None)
      by true h = h
      by false h = tt
  given_fits a (inverted t) j = tt
  given_fits a (compares op x y) j = equal_fits a (reading a op x y) j (reading_fits a op x y)
  given_fits a (null_test x) j = tt
  given_fits a (known t) j = tt

  firsts_fit : (a : Asked) (ts : CondTrees) (j : ℕ) → Fit a j (first_given a false ts j)
  firsts_fit a no_more j = tt
  firsts_fit a (and_more t ts) j = first_fits a j (given a false t j) (first_given a false ts j) (given_fits a t j) (firsts_fit a ts j)

pub pushed_long : (p : List Value) (v : Value) → length (p ++ v ∷ []) ≡ suc (length p)
pushed_long [] v = refl
pushed_long (w ∷ p) v = let ih = pushed_long p v in omega (arith, ih)

-- a prefix has a value for each column before
pub record IsPrefix (a : Asked) (j : ℕ) (p : List Value) : Type 0 where
  pub long : length p ≡ j
  pub suit : Suit a.level.columns p

pub prefix_is : (a : Asked) (t : CondTree) (j : ℕ) (p : List Value) → values_before (given a false t) j ≡ Some p → IsPrefix a j p
prefix_is a t zero p e = let is : p ≡ [] = cc in rw is (record { long = refl; suit = tt })
prefix_is a t (suc j) p e = by (values_before (given a false t) j) refl (given a false t j) refl e (λ q k. prefix_is a t j q k)
  where
    by : (r : Option (List Value)) → values_before (given a false t) j ≡ r → (s : Option Value) → given a false t j ≡ s → added r s ≡ Some p → ((q : List Value) → values_before (given a false t) j ≡ Some q → IsPrefix a j q) → IsPrefix a (suc j) p
    by None er s es k go = cc
    by (Some q) er None es k go = cc
    by (Some q) er (Some v) es k go =
        let before = go q er in
        let fits : suits (slice_get a.level.columns j) v ≡ true = subst (Fit a j) es (given_fits a t j) in
        let is : p ≡ q ++ v ∷ [] = cc in
        let l = before.long in
        let e : length (q ++ v ∷ []) ≡ suc (length q) = pushed_long q v in
        rw is (record { long = omega (arith, e, l); suit = suit_more a.level.columns q v before.suit (rw (before.long) fits) })

-- ---- the chain of a comparison

take_front : (p : List Value) (v : Value) → take (length p) (p ++ v ∷ []) ≡ p
take_front [] v = refl
take_front (w ∷ p) v = ap (λ l. w ∷ l) (take_front p v)

take_whole : (p : List Value) → take (length p) p ≡ p
take_whole [] = refl
take_whole (w ∷ p) = ap (λ l. w ∷ l) (take_whole p)

one_less : (p : List Value) (v : Value) → length (p ++ v ∷ []) - 1 ≡ length p
one_less p v = let e = pushed_long p v in omega (arith, e)

short_end : (w : ℕ) (fill : Fill) (p : List Value) (v : Value) → end_of w (length (p ++ v ∷ []) - 1) fill (p ++ v ∷ []) ≡ filled w p (fill_edge fill)
short_end w fill p v = rw (one_less p v, take_front p v) refl

long_end : (w : ℕ) (fill : Fill) (p : List Value) (v : Value) → end_of w (length (p ++ v ∷ [])) fill (p ++ v ∷ []) ≡ filled w (p ++ v ∷ []) (fill_edge fill)
long_end w fill p v = rw (take_whole (p ++ v ∷ [])) refl

pub ends_are : (w : ℕ) (op : CompareOp) (o : ChainOp) (p : List Value) (v : Value) → chain_op op ≡ Some o → chain_of w op p v ≡ Some (ends_of w o (p ++ v ∷ []))
ends_are w Eq o p v e = let is : o ≡ ChainEq = cc in rw (is, long_end w WithMin p v, long_end w WithMax p v) refl
ends_are w Lt o p v e = let is : o ≡ ChainLt = cc in rw (is, short_end w WithMin p v, long_end w WithMin p v) refl
ends_are w Le o p v e = let is : o ≡ ChainLe = cc in rw (is, short_end w WithMin p v, long_end w WithMax p v) refl
ends_are w Gt o p v e = let is : o ≡ ChainGt = cc in rw (is, long_end w WithMax p v, short_end w WithMax p v) refl
ends_are w Ge o p v e = let is : o ≡ ChainGe = cc in rw (is, long_end w WithMin p v, short_end w WithMax p v) refl
ends_are w Ne o p v e = cc

no_chain : (w : ℕ) (op : CompareOp) (p : List Value) (v : Value) → chain_op op ≡ None → chain_of w op p v ≡ None
no_chain w Ne p v e = refl
no_chain w Eq p v e = cc
no_chain w Lt p v e = cc
no_chain w Le p v e = cc
no_chain w Gt p v e = cc
no_chain w Ge p v e = cc

pub not_a_chain : (bounds : List Bound) (n : ℕ) (p : Option (List Value)) (j : ℕ) (op : CompareOp) (v : Value) (b : Bound) → chain_op op ≡ None → true ≡ range_keeps bounds n p j op v b
not_a_chain bounds n None j op v b none = refl
not_a_chain bounds n (Some p) j op v b none = rw (no_chain (n + 1) op p v none) refl
