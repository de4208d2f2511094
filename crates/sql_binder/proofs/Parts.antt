-- An answer that is put together of two.
use Rattle.std.proofs.Common.{ℕ, ◌≡◌, List, [], ◌∷◌, ◌++◌, Option, Ok, Err, ap, sym, subst, ◌∙◌}
use Rattle.pg_values.specs.declared.fault.Fault.{Fault}
use Rattle.pg_values.specs.declared.fault.Refusal.{Refusal}
use Rattle.pg_values.specs.declared.fault.Refusal.TheVariants.{Sql, NoMemory}
use Rattle.refusals.specs.Refusals.{negative_limit, negative_offset}
use Rattle.sql_ast.specs.Expressions.{Tree}
use Rattle.sql_ast.specs.Queries.{Item as Listed, Joined, Key, selected}
use Rattle.expression_binder.specs.Firsts.{or_first, fault_in, IsAnswerBy}
use Rattle.expression_binder.specs.Scopes.{Item, Scope}
use Rattle.expression_binder.specs.declared.scope.Param.{Param}
use Rattle.expression_binder.proofs.Firsts.{value_of}
use Rattle.sql_binder.specs.Counts.{count, or_none}
use Rattle.sql_binder.specs.From.{all_conditions, condition_constants, condition_meanings}
use Rattle.sql_binder.specs.Items.{HeadingView, list_constants, list_headings, list_outputs}
use Rattle.sql_binder.specs.KeyNames.{asked_for}
use Rattle.sql_binder.specs.Keys.{keys_constants, sort_keys}
use Rattle.sql_binder.specs.Selects as selects
use Rattle.sql_binder.specs.Selects.{Front, Tail, list_scope, count_scope}
use Rattle.cond_logic.specs.Asked.{SelectMeant}
use Rattle.sql_binder.proofs.FirstOutputs.{sorted_asked}

both_parts : {A B C : Type 0} (f : A → B → C) (xs ys : List Fault) (a c : A) (b d : B) → or_first xs a ≡ Ok c → or_first ys b ≡ Ok d → or_first (xs ++ ys) (f a b) ≡ Ok (f c d)
both_parts f xs ys a c b d p q =
    let m = value_of xs a c p in
    let n = value_of ys b d q in
    ap (λ zs. or_first (zs ++ ys) (f a b)) m.0 ∙ (ap (λ zs. or_first zs (f a b)) n.0 ∙ ap Ok (ap (λ x. f x b) m.1 ∙ ap (f c) n.1))

-- a fault is the same whatever is worked out beside it
refused : {A B : Type 0} (fs : List Fault) (a : A) (b : B) (x : Fault) → or_first fs a ≡ Err x → or_first fs b ≡ Err x
refused [] a b x h = cc
refused (f ∷ fs) a b x h = let same : f ≡ x = cc in ap Err same

abbrev made : Front → Tail → SelectMeant
made front tail = record { outputs = front.0; conditions = front.1; order = tail.0; limit = tail.1.0; offset = tail.1.1 }

module _ (items : List Item) (params : List Param) (session : ℕ) (ls : List Listed) (from : List Joined) (cond : Option Tree) (keys : List Key) (limit offset : Option Tree) where
  abbrev front_faults : Scope → List Fault
  front_faults n = list_constants n ls ++ condition_constants params session (all_conditions items from cond)

  abbrev front_meant : Scope → Front
  front_meant n = (list_outputs n ls, condition_meanings params session (all_conditions items from cond))

  abbrev tail_faults : Scope → List Fault
  tail_faults k = keys_constants keys ++ (fault_in (count negative_limit k limit) ++ fault_in (count negative_offset k offset))

  abbrev tail_meant : Scope → Scope → List HeadingView → Tail
  tail_meant n k names = (sort_keys n names keys, (or_none (count negative_limit k limit), or_none (count negative_offset k offset)))

  pub bound_parts : (n m k : Scope) (names : List HeadingView) (front : Front) (tail : Tail) → n ≡ list_scope items params session → m ≡ list_scope items params session → k ≡ count_scope items params session → names ≡ asked_for keys (list_headings items ls)
      → or_first (front_faults n) (front_meant n) ≡ Ok front → or_first (tail_faults k) (tail_meant m k names) ≡ Ok tail
      → or_first (selects.constant_faults items params session (selected ls from cond keys limit offset)) (selects.meaning items params session (selected ls from cond keys limit offset)) ≡ Ok (made front tail)
  bound_parts n m k names front tail a d b c p q =
      let s = list_scope items params session in
      let j = count_scope items params session in
      let p1 = subst (λ x. or_first (front_faults x) (front_meant x) ≡ Ok front) a p in
      let q1 = subst (λ x. or_first (tail_faults k) (tail_meant x k names) ≡ Ok tail) d q in
      let q2 = subst (λ x. or_first (tail_faults x) (tail_meant s x names) ≡ Ok tail) b q1 in
      let q3 = subst (λ x. or_first (tail_faults j) (tail_meant s j x) ≡ Ok tail) c q2 in
      let q4 = subst (λ x. or_first (tail_faults j) (x, (or_none (count negative_limit j limit), or_none (count negative_offset j offset))) ≡ Ok tail) (sorted_asked s (list_headings items ls) keys) q3 in
      both_parts made (front_faults s) (tail_faults j) (front_meant s) front (tail_meant s j (list_headings items ls)) tail p1 q4

  -- the fault of the tail, where the front has none
  pub tail_refused : {T : Type 0} (g : T → SelectMeant) (e : Refusal) (n m k : Scope) (names : List HeadingView) (front : Front) → n ≡ list_scope items params session → k ≡ count_scope items params session
      → or_first (front_faults n) (front_meant n) ≡ Ok front → IsAnswerBy {T = Tail} {U = Tail} (λ t. t) (Err e) (or_first (tail_faults k) (tail_meant m k names))
      → IsAnswerBy {T = T} {U = SelectMeant} g (Err e) (or_first (selects.constant_faults items params session (selected ls from cond keys limit offset)) (selects.meaning items params session (selected ls from cond keys limit offset)))
  tail_refused g NoMemory n m k names front a b p h = tt
  tail_refused g (Sql x) n m k names front a b p h =
      let all = selects.meaning items params session (selected ls from cond keys limit offset) in
      let none : front_faults (list_scope items params session) ≡ [] = ap front_faults (sym a) ∙ (value_of (front_faults n) (front_meant n) front p).0 in
      ap (λ zs. or_first (zs ++ tail_faults (count_scope items params session)) all) none
      ∙ (ap (λ c. or_first (tail_faults c) all) (sym b) ∙ refused (tail_faults k) (tail_meant m k names) all x h)
