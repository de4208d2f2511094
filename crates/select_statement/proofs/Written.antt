-- The plain answer with the values of parameters is that with these values in their places.
use Rattle.std.proofs.Common.{◌≡◌, ℕ, ◌&&◌, List, [], ◌∷◌, map, refl, ap, sym, ◌∙◌, Result, Ok, Err}
use Rattle.pg_values.specs.declared.fault.Fault.{Fault}
use Rattle.pg_values.specs.declared.value.Value.{Value}
use Rattle.cond_logic.specs.Asked.{SelectMeant}
use Rattle.cond_logic.specs.Rewriting.{with_args}
use Rattle.cond_logic.specs.Trees.{CondTree}
use Rattle.cond_logic.specs.Truths.{truth}
use Rattle.plan_tree.specs.Kept.{named_leaves}
use Rattle.plan_tree.specs.Laws.{is_yes}
use Rattle.plan_tree.proofs.Arguments.{given_true}
use Rattle.sql_binder.specs.Values.{with_values}
use Rattle.select_answer.specs.Answer.{answer_of}
use Rattle.select_answer.specs.Course.{Course, Done, RowFor, Went, Stopped, course, go_on, step}
use Rattle.select_answer.specs.Rows.{keyed, projected, with_keys}
use Rattle.select_answer.specs.Tuples.{Tuple, Mark, Gives, given_marks, no_tuple, passes, tuples}
use Rattle.select_answer.proofs.Items.{filter_same}
use Rattle.select_statement.specs.Custom.{PlainWithValues}

-- ---- conditions

module _ (args : List Value) where
  given_passes : (cs : List CondTree) (t : Tuple) → passes [] (map (with_args args) cs) t ≡ passes args cs t
  given_passes [] t = refl
  given_passes (c ∷ cs) t = rw (given_true t.rows args c) (ap (λ b. is_yes (truth t.rows args c) && b) (given_passes cs t))

-- ---- courses

-- where two say the same of each tuple, their courses are the same
module _ (f g : RowFor) (same : (t : Tuple) → f t ≡ g t) where
  step_same : (d : Done) (m : Mark) → step f d m ≡ step g d m
  step_same d m = ap (λ (r : RowFor). step r d m) (λ i t. same t i)

  course_same : (d : Done) (ms : List Mark) → course f d ms ≡ course g d ms
  course_same d [] = refl
  course_same d (m ∷ ms) = ap (λ r. go_on d.reads (λ e. course f e ms) r) (step_same d m) ∙ go (step g d m) (λ e. course_same e ms)
    where
      go : (r : Result Done Fault) → ((e : Done) → course f e ms ≡ course g e ms) → go_on d.reads (λ e. course f e ms) r ≡ go_on d.reads (λ e. course g e ms) r
      go (Ok e) rest = rest e
      go (Err fault) rest = refl

-- ---- what else is asked for stays

module _ (args : List Value) (m : SelectMeant) where
  keys_same : (t : Tuple) (r : Result (List Value) Fault) → with_keys t m r ≡ with_keys t (with_values args m) r
  keys_same t (Ok row) = refl
  keys_same t (Err f) = refl

  keyed_same : (sessions : ℕ) (t : Tuple) → keyed sessions m t ≡ keyed sessions (with_values args m) t
  keyed_same sessions t = keys_same t (projected sessions t m.outputs)

  answer_same : (w : Course) → answer_of m w ≡ answer_of (with_values args m) w
  answer_same (Went d) = refl
  answer_same (Stopped reads f) = refl

pub plain_with : PlainWithValues
plain_with sessions args m rows trees =
    let ts = tuples rows 0 (map named_leaves trees) no_tuple in
    let none : Done = record { reads = []; rows = [] } in
    let w = course (keyed sessions (with_values args m)) none (given_marks (passes args m.conditions) ts) in
    ap (answer_of m) (course_same (keyed sessions m) (keyed sessions (with_values args m)) (keyed_same args m sessions) none (given_marks (passes args m.conditions) ts))
    ∙ answer_same args m w
    ∙ ap (λ (xs : List Tuple). answer_of (with_values args m) (course (keyed sessions (with_values args m)) none (map Gives xs))) (sym (filter_same (passes [] (map (with_args args) m.conditions)) (passes args m.conditions) (given_passes args m.conditions) ts))
