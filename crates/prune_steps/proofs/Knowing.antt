-- A condition with what is known in its places.
use Rattle.std.proofs.Common.{◌≡◌, ℕ, Bool, true, false, ◌&&◌, List, [], refl, sym, ap, ◌∙◌, arith}
use Rattle.std.specs.Borrow.{Bor}
use Rattle.std.specs.Prelude.{Option, Some, None, slice_get}
use Rattle.std.specs.Slice.{IsItemAt}
use Rattle.std.proofs.lemmas.Option.{slice_get_past, slice_get-get_or}
use Rattle.pg_values.specs.declared.value.Value.{Value}
use Rattle.bound_forms.specs.declared.partition_bound.Bound.{Bound}
use Rattle.cond_logic.specs.declared.cond.Operand.{Operand}
use Rattle.cond_logic.specs.declared.cond.Operand.TheVariants.{Column, Lit, Param}
use Rattle.cond_logic.specs.Rewriting.{operand_with, with_args, all_with_args, pushed, all_pushed, negation, negations, is_pushed, are_pushed, given_or}
use Rattle.cond_logic.specs.Trees.{CondTree, CondTrees, no_more, and_more, all_of, any_of, inverted, compares, null_test, known}
use Rattle.cond_logic.specs.Tuples.{Places, lent}
use Rattle.cond_logic.proofs.Pushed.{pushed_stands}
use Rattle.prune_steps.specs.declared.asking.Asking.{Asking}
use Rattle.prune_steps.specs.declared.asking.Read.{Read}
use Rattle.prune_steps.specs.declared.asking.Read.TheVariants.{Never as ReadNever, Anything as ReadAnything, On as ReadOn}
use Rattle.prune_steps.specs.Asking.{all_known_in, reading_of}
use Rattle.prune_steps.specs.Atoms.{Asked, key_of, literal, is_one, or_else, Reading}
use Rattle.prune_steps.specs.Beside.{beside, all_beside}
use Rattle.prune_steps.specs.Kept.{kept, whole_keeps}

-- ---- NOT is pushed inwards before or after

mutual
  pub pushed_with : (args : List Value) (t : CondTree) → pushed (with_args args t) ≡ with_args args (pushed t)
  pushed_with args (all_of ts) = ap all_of (all_pushed_with args ts)
  pushed_with args (any_of ts) = ap any_of (all_pushed_with args ts)
  pushed_with args (inverted t) = negated_with args t
  pushed_with args (compares op x y) = refl
  pushed_with args (null_test x) = refl
  pushed_with args (known t) = refl

  all_pushed_with : (args : List Value) (ts : CondTrees) → all_pushed (all_with_args args ts) ≡ all_with_args args (all_pushed ts)
  all_pushed_with args no_more = refl
  all_pushed_with args (and_more t ts) = rw (pushed_with args t, all_pushed_with args ts) refl

  negated_with : (args : List Value) (t : CondTree) → negation (with_args args t) ≡ with_args args (negation t)
  negated_with args (all_of ts) = ap any_of (all_negated_with args ts)
  negated_with args (any_of ts) = ap all_of (all_negated_with args ts)
  negated_with args (inverted t) = pushed_with args t
  negated_with args (compares op x y) = refl
  negated_with args (null_test x) = refl
  negated_with args (known t) = refl

  all_negated_with : (args : List Value) (ts : CondTrees) → negations (all_with_args args ts) ≡ all_with_args args (negations ts)
  all_negated_with args no_more = refl
  all_negated_with args (and_more t ts) = rw (negated_with args t, all_negated_with args ts) refl

mutual
  pub pushed_beside : (n : ℕ) (rows : Places) (t : CondTree) → pushed (beside n rows t) ≡ beside n rows (pushed t)
  pushed_beside n rows (all_of ts) = ap all_of (all_pushed_beside n rows ts)
  pushed_beside n rows (any_of ts) = ap any_of (all_pushed_beside n rows ts)
  pushed_beside n rows (inverted t) = negated_beside n rows t
  pushed_beside n rows (compares op x y) = refl
  pushed_beside n rows (null_test x) = refl
  pushed_beside n rows (known t) = refl

  all_pushed_beside : (n : ℕ) (rows : Places) (ts : CondTrees) → all_pushed (all_beside n rows ts) ≡ all_beside n rows (all_pushed ts)
  all_pushed_beside n rows no_more = refl
  all_pushed_beside n rows (and_more t ts) = rw (pushed_beside n rows t, all_pushed_beside n rows ts) refl

  negated_beside : (n : ℕ) (rows : Places) (t : CondTree) → negation (beside n rows t) ≡ beside n rows (negation t)
  negated_beside n rows (all_of ts) = ap any_of (all_negated_beside n rows ts)
  negated_beside n rows (any_of ts) = ap all_of (all_negated_beside n rows ts)
  negated_beside n rows (inverted t) = pushed_beside n rows t
  negated_beside n rows (compares op x y) = refl
  negated_beside n rows (null_test x) = refl
  negated_beside n rows (known t) = refl

  all_negated_beside : (n : ℕ) (rows : Places) (ts : CondTrees) → negations (all_beside n rows ts) ≡ all_beside n rows (negations ts)
  all_negated_beside n rows no_more = refl
  all_negated_beside n rows (and_more t ts) = rw (negated_beside n rows t, all_negated_beside n rows ts) refl

both : (s t : Bool) → (s && t) ≡ true → (s ≡ true) × (t ≡ true)
both true true e = (refl, refl)
both true false e = cc
both false t e = cc

mutual
  -- it is pushed inwards only once
  pub still_pushed : (t : CondTree) → is_pushed t ≡ true → pushed t ≡ t
  still_pushed (all_of ts) h = ap all_of (all_still_pushed ts h)
  still_pushed (any_of ts) h = ap any_of (all_still_pushed ts h)
  still_pushed (inverted (null_test x)) h = refl
  still_pushed (inverted (all_of ts)) h = cc
  still_pushed (inverted (any_of ts)) h = cc
  still_pushed (inverted (inverted t)) h = cc
  still_pushed (inverted (compares op x y)) h = cc
  still_pushed (inverted (known t)) h = cc
  still_pushed (compares op x y) h = refl
  still_pushed (null_test x) h = refl
  still_pushed (known t) h = refl

  all_still_pushed : (ts : CondTrees) → are_pushed ts ≡ true → all_pushed ts ≡ ts
  all_still_pushed no_more h = refl
  all_still_pushed (and_more t ts) h = let p = both (is_pushed t) (are_pushed ts) h in rw (still_pushed t p.0, all_still_pushed ts p.1) refl

-- and what is known in its places leaves it so
pub known_pushed : (args : List Value) (n : ℕ) (rows : Places) (t : CondTree) → is_pushed t ≡ true → with_args args (beside n rows t) ≡ pushed (with_args args (beside n rows t))
known_pushed args n rows t h =
    ap (λ u. with_args args (beside n rows u)) (sym (still_pushed t h)) ∙ (ap (with_args args) (sym (pushed_beside n rows t)) ∙ sym (pushed_with args (beside n rows t)))

-- a condition keeps the same with NOT pushed inwards before
pub kept_pushed : (a : Asked) (bounds : List Bound) (args : List Value) (n : ℕ) (rows : Places) (t : CondTree) (b : Bound) → kept a bounds args (beside n rows (pushed t)) b ≡ kept a bounds args (beside n rows t) b
kept_pushed a bounds args n rows t b = ap (λ u. whole_keeps a bounds u b) same
  where
    twice : pushed (pushed t) ≡ pushed t
    twice = still_pushed (pushed t) (pushed_stands t)

    same : pushed (with_args args (beside n rows (pushed t))) ≡ pushed (with_args args (beside n rows t))
    same =
        pushed_with args (beside n rows (pushed t))
        ∙ (ap (with_args args) (pushed_beside n rows (pushed t) ∙ (ap (beside n rows) twice ∙ sym (pushed_beside n rows t))) ∙ sym (pushed_with args (beside n rows t)))

-- ---- no arguments

no_argument : (x : Operand) → operand_with [] x ≡ x
no_argument (Column c) = refl
no_argument (Lit v) = refl
no_argument (Param i) = refl

mutual
  pub without_args : (t : CondTree) → with_args [] t ≡ t
  without_args (all_of ts) = ap all_of (all_without_args ts)
  without_args (any_of ts) = ap any_of (all_without_args ts)
  without_args (inverted t) = ap inverted (without_args t)
  without_args (compares op x y) = rw (no_argument x, no_argument y) refl
  without_args (null_test x) = ap null_test (no_argument x)
  without_args (known t) = refl

  all_without_args : (ts : CondTrees) → all_with_args [] ts ≡ ts
  all_without_args no_more = refl
  all_without_args (and_more t ts) = rw (without_args t, all_without_args ts) refl

-- ---- a parameter

pub literal_given : (o : Option Value) (i : ℕ) → literal (given_or o i) ≡ o
literal_given None i = refl
literal_given (Some v) i = refl

-- what a look-up lends
pub lent_item : (xs : List Value) (i : ℕ) (r : Option (Bor Value)) → IsItemAt xs i r → lent r ≡ slice_get xs i
lent_item xs i None h = sym (slice_get_past xs i h.3)
lent_item xs i (Some x) h = ap (λ v. Some v) (h.4 (omega arith) x.now) ∙ sym (slice_get-get_or xs i x.now h.3.0)

pub no_key_given : (a : Asked) (o : Option Value) (i : ℕ) → key_of a (given_or o i) ≡ None
no_key_given a None i = refl
no_key_given a (Some v) i = refl

-- ---- one condition, or several

pub one_known : (g : Asking) (ts : CondTrees) → is_one (all_known_in g ts) ≡ is_one ts
one_known g no_more = refl
one_known g (and_more t no_more) = refl
one_known g (and_more t (and_more u ts)) = refl

-- ---- a reading whose value is lent

pub found_first : (r : Read) (s : Reading) → (r ≡ ReadAnything → ⊥) → reading_of r ≡ or_else (reading_of r) s
found_first ReadNever s h = refl
found_first ReadAnything s h = absurd (h refl)
found_first (ReadOn j op v) s h = refl
