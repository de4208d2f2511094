-- What pruning steps keep with what is known, and what conditions keep with what is known in their places.
use Rattle.std.proofs.Common.{◌≡◌, ℕ, ◌+◌, ◌<◌, ◌≤◌, Bool, true, false, ◌&&◌, List, [], ◌∷◌, ◌++◌, Result, Ok, Err, IfOk, refl, sym, ap, ap₂, ◌∙◌, arith, drop, get_or, length, map, nat_lt, true≢false, if◌then◌else◌}
use Rattle.std.specs.List.{list_all}
use Rattle.std.specs.Prelude.{Option, Some, None, slice_get}
use Rattle.std.proofs.Math.Path.{fun_ext}
use Rattle.std.proofs.lemmas.Bool.Decides.{nat_tests}
use Rattle.std.proofs.lemmas.List.{drop_more}
use Rattle.std.proofs.Math.ListN.{drop_of_length-le}
use Rattle.pg_values.specs.declared.value.Value.{Value}
use Rattle.bound_forms.specs.declared.level.Level.{Level}
use Rattle.bound_forms.specs.declared.partition_bound.Bound.{Bound}
use Rattle.cond_logic.specs.declared.cond.Cond.{Cond}
use Rattle.cond_logic.specs.declared.cond.Operand.{Operand}
use Rattle.cond_logic.specs.declared.cond.Operand.TheVariants.{Column, Lit, Param}
use Rattle.cond_logic.specs.Rewriting.{given_or, operand_with, pushed, with_args, all_with_args}
use Rattle.cond_logic.specs.Trees.{CondTree, CondTrees, cond_tree, no_more, and_more, all_of, any_of, inverted, compares, null_test, known}
use Rattle.cond_logic.specs.Tuples.{Places, Bound as Known, no_rows, place, value_in}
use Rattle.prune_steps.specs.declared.pruning.Pruning.{Pruning}
use Rattle.prune_steps.specs.Atoms.{Asked, asked}
use Rattle.prune_steps.specs.Beside.{operand_beside, beside, all_beside}
use Rattle.prune_steps.specs.Kept.{kept, whole_keeps}
use Rattle.prune_steps.specs.Prunings.{condition_of}
use Rattle.prune_steps.proofs.Knowing.{kept_pushed, without_args}
use Rattle.plan_tree.specs.Asks.{AreStepsOf, keeps_alone, keeps_asked, step_keeps}
use Rattle.plan_tree.specs.declared.asks.Asks.TheVariants.{Started, Beside, StartedBeside}
use Rattle.plan_tree.specs.Kept.{Keeps, keeps_for}

-- ---- no row is known

operand_alone : (rows : Places) (x : Operand) → operand_beside 0 rows x ≡ x
operand_alone rows (Column c) = ap (λ (b : Bool). if b then Lit (value_in (place rows c.item) c.position) else Column c) (none c.item)
  where
    none : (n : ℕ) → nat_lt n 0 ≡ false
    none n = grind (arith, nat_tests)
operand_alone rows (Lit v) = refl
operand_alone rows (Param i) = refl

mutual
  pub alone : (rows : Places) (t : CondTree) → beside 0 rows t ≡ t
  alone rows (all_of ts) = ap all_of (all_alone rows ts)
  alone rows (any_of ts) = ap any_of (all_alone rows ts)
  alone rows (inverted t) = ap inverted (alone rows t)
  alone rows (compares op x y) = rw (operand_alone rows x, operand_alone rows y) refl
  alone rows (null_test x) = ap null_test (operand_alone rows x)
  alone rows (known t) = refl

  all_alone : (rows : Places) (ts : CondTrees) → all_beside 0 rows ts ≡ ts
  all_alone rows no_more = refl
  all_alone rows (and_more t ts) = rw (alone rows t, all_alone rows ts) refl

-- ---- tests of a list

alone_true : (s : Bool) → (s && true) ≡ s
alone_true true = refl
alone_true false = refl

from_left : (r s t : Bool) → ((r && s) && t) ≡ (r && (s && t))
from_left true s t = refl
from_left false s t = refl

pair_up : (r s t u : Bool) → ((r && s) && (t && u)) ≡ ((r && t) && (s && u))
pair_up true true t u = refl
pair_up true false true u = refl
pair_up true false false u = refl
pair_up false s t u = refl

all_both : {X : Type 0} (f g : X → Bool) (xs : List X) → list_all (λ x. f x && g x) xs ≡ (list_all f xs && list_all g xs)
all_both f g [] = refl
all_both f g (x ∷ xs) = ap (λ r. (f x && g x) && r) (all_both f g xs) ∙ pair_up (f x) (g x) (list_all f xs) (list_all g xs)

and_one : {X : Type 0} (f : X → Bool) (xs : List X) (x : X) → list_all f (xs ++ x ∷ []) ≡ (list_all f xs && f x)
and_one f [] x = alone_true (f x)
and_one f (y ∷ xs) x = ap (λ r. f y && r) (and_one f xs x) ∙ sym (from_left (f y) (list_all f xs) (f x))

-- ---- the steps of conditions

-- those of a condition are those of the condition with NOT pushed inwards
one_keeps : (p : Pruning) (item : ℕ) (t : CondTree) → p.item ≡ item → condition_of p ≡ pushed t → (args : List Value) (n : ℕ) (rows : Places) (level : Level) (bounds : List Bound) (b : Bound)
    → step_keeps p args n rows level bounds b ≡ kept (asked item level) bounds args (beside n rows t) b
one_keeps p item t item_is condition_is args n rows level bounds b =
    ap (λ i. kept (asked i level) bounds args (beside n rows (condition_of p)) b) item_is
    ∙ (ap (λ u. kept (asked item level) bounds args (beside n rows u) b) condition_is ∙ kept_pushed (asked item level) bounds args n rows t b)

pub one_step : (p : Pruning) (item : ℕ) (t : CondTree) (ps : List Pruning) → p.item ≡ item → condition_of p ≡ pushed t → ps ≡ p ∷ [] → AreStepsOf ps item (t ∷ [])
one_step p item t ps item_is condition_is is level bounds args n rows b =
    ap (list_all (λ p. step_keeps p args n rows level bounds b)) is ∙ ap (λ r. r && true) (one_keeps p item t item_is condition_is args n rows level bounds b)

-- the steps so far keep, with the conditions that are left, what all conditions keep
abbrev pub StepsSoFar : (item : ℕ) → List Cond → ℕ → List Pruning → Type 0
StepsSoFar item conds i ps = (level : Level) (bounds : List Bound) (args : List Value) (before : ℕ) (rows : Places) (b : Bound)
    → (list_all (λ p. step_keeps p args before rows level bounds b) ps && list_all (λ t. kept (asked item level) bounds args (beside before rows t) b) (map cond_tree (drop i conds)))
    ≡ list_all (λ t. kept (asked item level) bounds args (beside before rows t) b) (map cond_tree conds)

pub one_more : (item : ℕ) (conds : List Cond) (i : ℕ) (ps now : List Pruning) (p : Pruning) (x : Cond) → StepsSoFar item conds i ps → i < length conds → x ≡ get_or conds i x → now ≡ ps ++ p ∷ [] → p.item ≡ item → condition_of p ≡ pushed (cond_tree x)
    → StepsSoFar item conds (i + 1) now
one_more item conds i ps now p x so_far less is put item_is condition_is level bounds args before rows b =
    let mine = λ (q : Pruning). step_keeps q args before rows level bounds b in
    let own = λ (t : CondTree). kept (asked item level) bounds args (beside before rows t) b in
    ap (λ qs. list_all mine qs && list_all own (map cond_tree (drop (i + 1) conds))) put
    ∙ (ap (λ r. r && list_all own (map cond_tree (drop (i + 1) conds))) (and_one mine ps p ∙ ap (λ r. list_all mine ps && r) (one_keeps p item (cond_tree x) item_is condition_is args before rows level bounds b))
    ∙ (from_left (list_all mine ps) (own (cond_tree x)) (list_all own (map cond_tree (drop (i + 1) conds)))
    ∙ (ap (λ cs. list_all mine ps && list_all own (map cond_tree cs)) (sym (drop_more conds i x less ∙ ap (λ c. c ∷ drop (i + 1) conds) (sym is))) ∙ so_far level bounds args before rows b)))

pub all_made : (item : ℕ) (conds : List Cond) (i : ℕ) (ps : List Pruning) → StepsSoFar item conds i ps → length conds ≤ i → AreStepsOf ps item (map cond_tree conds)
all_made item conds i ps so_far past level bounds args before rows b =
    let own = λ (t : CondTree). kept (asked item level) bounds args (beside before rows t) b in
    let none : drop i conds ≡ [] = drop_of_length-le conds past in
    sym (ap (λ cs. list_all (λ p. step_keeps p args before rows level bounds b) ps && list_all own (map cond_tree cs)) none ∙ alone_true _) ∙ so_far level bounds args before rows b

-- ---- nothing is known

all_alone_keep : (rows : Places) (a : Asked) (bounds : List Bound) (b : Bound) (ts : List CondTree) → list_all (λ t. kept a bounds [] (beside 0 rows t) b) ts ≡ list_all (λ t. kept a bounds [] t b) ts
all_alone_keep rows a bounds b [] = refl
all_alone_keep rows a bounds b (t ∷ ts) = ap₂ (λ r s. r && s) (ap (λ u. kept a bounds [] u b) (alone rows t)) (all_alone_keep rows a bounds b ts)

keep_alone : (ps : List Pruning) (item : ℕ) (ts : List CondTree) → AreStepsOf ps item ts → (rows : Places) (level : Level) (bounds : List Bound) (b : Bound)
    → list_all (λ p. step_keeps p [] 0 rows level bounds b) ps ≡ list_all (λ t. kept (asked item level) bounds [] t b) ts
keep_alone ps item ts are rows level bounds b = are level bounds [] 0 rows b ∙ all_alone_keep rows (asked item level) bounds b ts

pub all_alone_is : (ps : List Pruning) (item : ℕ) (ts : List CondTree) → AreStepsOf ps item ts → keeps_alone ps ≡ keeps_for true item ts
all_alone_is ps item ts are = fun_ext λ level. fun_ext λ bounds. fun_ext λ b. keep_alone ps item ts are no_rows level bounds b

-- of a condition, where the session prunes
pub alone_is : (ps : List Pruning) (item : ℕ) (t : CondTree) → AreStepsOf ps item (t ∷ []) → (prunes : Bool) → keeps_alone (if prunes then ps else []) ≡ keeps_for prunes item (t ∷ [])
alone_is ps item t are true = all_alone_is ps item (t ∷ []) are
alone_is ps item t are false = refl

-- where nothing is pruned
pub none_asked : (prunes : Bool) (item : ℕ) (ts : List CondTree) → prunes ≡ false → keeps_alone [] ≡ keeps_for prunes item ts
none_asked true item ts is = absurd (true≢false is)
none_asked false item ts is = refl

pub some_asked : (prunes : Bool) (ps : List Pruning) (item : ℕ) (ts : List CondTree) → prunes ≡ true → AreStepsOf ps item ts → keeps_alone ps ≡ keeps_for prunes item ts
some_asked true ps item ts is are = all_alone_is ps item ts are
some_asked false ps item ts is are = absurd (true≢false (sym is))

-- ---- arguments first, or rows first

operand_both : (args : List Value) (n : ℕ) (rows : Places) (x : Operand) → operand_beside n rows (operand_with args x) ≡ operand_with args (operand_beside n rows x)
operand_both args n rows (Column c) = by (nat_lt c.item n)
  where
    by : (b : Bool) → (if b then Lit (value_in (place rows c.item) c.position) else Column c) ≡ operand_with args (if b then Lit (value_in (place rows c.item) c.position) else Column c)
    by true = refl
    by false = refl
operand_both args n rows (Lit v) = refl
operand_both args n rows (Param i) = by (slice_get args i)
  where
    by : (o : Option Value) → operand_beside n rows (given_or o i) ≡ given_or o i
    by None = refl
    by (Some v) = refl

mutual
  pub with_both : (args : List Value) (n : ℕ) (rows : Places) (t : CondTree) → beside n rows (with_args args t) ≡ with_args args (beside n rows t)
  with_both args n rows (all_of ts) = ap all_of (all_with_both args n rows ts)
  with_both args n rows (any_of ts) = ap any_of (all_with_both args n rows ts)
  with_both args n rows (inverted t) = ap inverted (with_both args n rows t)
  with_both args n rows (compares op x y) = rw (operand_both args n rows x, operand_both args n rows y) refl
  with_both args n rows (null_test x) = ap null_test (operand_both args n rows x)
  with_both args n rows (known t) = refl

  all_with_both : (args : List Value) (n : ℕ) (rows : Places) (ts : CondTrees) → all_beside n rows (all_with_args args ts) ≡ all_with_args args (all_beside n rows ts)
  all_with_both args n rows no_more = refl
  all_with_both args n rows (and_more t ts) = rw (with_both args n rows t, all_with_both args n rows ts) refl

-- what a plan that was started keeps beside a tuple is what its steps keep with the arguments and the rows
pub started_beside : (a : Asked) (bounds : List Bound) (args : List Value) (n : ℕ) (rows : Places) (t : CondTree) (b : Bound) → kept a bounds [] (beside n rows (with_args args t)) b ≡ kept a bounds args (beside n rows t) b
started_beside a bounds args n rows t b = ap (λ u. whole_keeps a bounds (pushed u) b) (without_args (beside n rows (with_args args t)) ∙ with_both args n rows t)

pub started_alone : (a : Asked) (bounds : List Bound) (args : List Value) (t : CondTree) (b : Bound) → kept a bounds [] (with_args args t) b ≡ kept a bounds args t b
started_alone a bounds args t b = ap (λ u. whole_keeps a bounds (pushed u) b) (without_args (with_args args t))

-- ---- values of parameters, and rows

module _ (ps : List Pruning) (item : ℕ) (t : CondTree) (are : AreStepsOf ps item (t ∷ [])) where
  keep_given : (args : List Value) (rows : Places) (level : Level) (bounds : List Bound) (b : Bound) → list_all (λ p. step_keeps p args 0 rows level bounds b) ps ≡ kept (asked item level) bounds [] (with_args args t) b
  keep_given args rows level bounds b =
      are level bounds args 0 rows b ∙ (alone_true _ ∙ (ap (λ u. kept (asked item level) bounds args u b) (alone rows t) ∙ sym (started_alone (asked item level) bounds args t b)))

  keep_rows : (args : List Value) (rows : Places) (level : Level) (bounds : List Bound) (b : Bound) → list_all (λ p. step_keeps p args item rows level bounds b) ps ≡ kept (asked item level) bounds [] (beside item rows (with_args args t)) b
  keep_rows args rows level bounds b = are level bounds args item rows b ∙ (alone_true _ ∙ sym (started_beside (asked item level) bounds args item rows t b))

  keep_first : (level : Level) (bounds : List Bound) (b : Bound) → list_all (λ p. step_keeps p [] 0 no_rows level bounds b) ps ≡ kept (asked item level) bounds [] t b
  keep_first level bounds b = keep_alone ps item (t ∷ []) are no_rows level bounds b ∙ alone_true _

  -- when the plan starts
  pub started_is : (args : List Value) (given : Known) → given.args ≡ args → keeps_asked Started given ps ≡ keeps_for true item (t ∷ with_args args t ∷ [])
  started_is args given is = fun_ext λ level. fun_ext λ bounds. fun_ext λ b.
      all_both (λ p. step_keeps p [] 0 no_rows level bounds b) (λ p. step_keeps p given.args 0 given.rows level bounds b) ps
      ∙ ap₂ (λ r s. r && s) (keep_first level bounds b)
      (ap (λ vs. list_all (λ p. step_keeps p vs 0 given.rows level bounds b) ps) is ∙ (keep_given args given.rows level bounds b ∙ sym (alone_true _)))

  -- beside a tuple, of a plan that was not started
  pub beside_is : (rows : Places) (given : Known) → given.args ≡ [] → given.rows ≡ rows → keeps_asked (Beside item) given ps ≡ keeps_for true item (t ∷ beside item rows t ∷ [])
  beside_is rows given none is = fun_ext λ level. fun_ext λ bounds. fun_ext λ b.
      all_both (λ p. step_keeps p [] 0 no_rows level bounds b) (λ p. step_keeps p given.args item given.rows level bounds b) ps
      ∙ ap₂ (λ r s. r && s) (keep_first level bounds b)
      (ap₂ (λ vs rs. list_all (λ p. step_keeps p vs item rs level bounds b) ps) none is ∙ are level bounds [] item rows b)

  -- and of one that was
  pub started_beside_is : (args : List Value) (rows : Places) (given : Known) → given.args ≡ args → given.rows ≡ rows
      → keeps_asked (StartedBeside item) given ps ≡ keeps_for true item (t ∷ with_args args t ∷ beside item rows (with_args args t) ∷ [])
  started_beside_is args rows given is too = fun_ext λ level. fun_ext λ bounds. fun_ext λ b.
      all_both (λ p. step_keeps p [] 0 no_rows level bounds b) (λ p. step_keeps p given.args 0 given.rows level bounds b && step_keeps p given.args item given.rows level bounds b) ps
      ∙ ap₂ (λ r s. r && s) (keep_first level bounds b)
      (all_both (λ p. step_keeps p given.args 0 given.rows level bounds b) (λ p. step_keeps p given.args item given.rows level bounds b) ps
      ∙ ap₂ (λ r s. r && s)
      (ap (λ vs. list_all (λ p. step_keeps p vs 0 given.rows level bounds b) ps) is ∙ keep_given args given.rows level bounds b)
      (ap₂ (λ vs rs. list_all (λ p. step_keeps p vs item rs level bounds b) ps) is too ∙ (keep_rows args rows level bounds b ∙ sym (alone_true _))))
