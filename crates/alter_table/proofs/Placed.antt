-- The place of a table that is attached.
use Rattle.std.proofs.Common.{◌≡◌, ℕ, zero, suc, ◌+◌, ◌≤◌, ◌==◌, ◌&&◌, ◌||◌, not, Bool, true, false, List, [], ◌∷◌, ◌++◌, inl, inr, refl, sym, ap, subst, ◌∙◌, arith, Option, Some, None, Result, Ok, Err, length}
use Rattle.std.specs.Prelude.{is_none, nat_le, nat_lt}
use Rattle.std.specs.List.{Contains, list_any}
use Rattle.std.proofs.lemmas.Bool.Decides.{nat_tests}
use Rattle.pg_values.specs.Refusals.{IsAnswer, or_first, unless}
use Rattle.pg_values.specs.declared.fault.Fault.{Fault}
use Rattle.pg_values.specs.declared.fault.Refusal.{Refusal}
use Rattle.pg_values.specs.declared.fault.Refusal.TheVariants.{Sql, NoMemory}
use Rattle.pg_values.specs.declared.ids.TableNo.{TableNo}
use Rattle.pg_values.specs.declared.which.Which.TheVariants.{Partitions, Levels}
use Rattle.refusals.specs.Refusals.{too_many, already_a_partition, is_above}
use Rattle.bound_forms.specs.Levels.{IsOfLevel}
use Rattle.bound_forms.specs.declared.level.Level.{Level}
use Rattle.bound_forms.specs.declared.partition_bound.Bound.{Bound as MeantBound}
use Rattle.history.specs.declared.catalogue.Entry.{Entry}
use Rattle.history.specs.Catalogue.{tables_made}
use Rattle.history.specs.History.{History, catalogue_events}
use Rattle.history.specs.Presence.{entries_present, checks_of}
use Rattle.row_router.specs.declared.path_part.PathPart.{PathPart}
use Rattle.row_router.specs.Histories.{path_of, above, parent_in, part_of, upwards, ddl_tree}
use Rattle.row_router.specs.Trees.{TableTree, LeafTable, LevelTable, height}
use Rattle.soundness.proofs.Listed.{none_in, cases_in}
use Rattle.sql_ast.specs.Commands.{Bound}
use Rattle.table_binder.specs.Bounds.{bound_for}
use Rattle.part_catalog.specs.Answers.{parent_told}
use Rattle.part_catalog.specs.Found.{made_at}
use Rattle.part_catalog.specs.declared.TheConstants.{ENTRY_LIMIT}
use Rattle.part_catalog.specs.Full.{tables_up, tables_above, added}
use Rattle.part_ddl.specs.Below.{tables_from}
use Rattle.part_ddl.specs.Placing.{level_at, partitions_of, pending_name, names_below, bounds_below, bound_faults, place_faults}
use Rattle.expression_binder.specs.Firsts.{IsAnswerBy}
use Rattle.legal_statements.specs.Below.{numbers_from}
use Rattle.ddl_steps.specs.Refused.{next_answer, unless_faults}
use Rattle.ddl_steps.proofs.Below.{from_numbers, unmapped_in}
use Rattle.ddl_steps.proofs.Firsts.{to_answer, past_ok, past_none}
use Rattle.ddl_steps.proofs.Shapes.{takes_bound}
use Rattle.alter_table.specs.AskedOfAttached.{MayBeAttached}
use Rattle.alter_table.specs.Columns.{column_faults}
use Rattle.alter_table.specs.Places.{name_at, stands_above, table_faults, attach_place}
use Rattle.alter_table.proofs.Columned.{columns_of}

-- ---- what a fault that is not there says

unless_true : (b : Bool) (f : Fault) → unless b f ≡ [] → b ≡ true
unless_true true f e = refl
unless_true false f e = absurd (let c = e in cc)

pub both_none : (xs ys : List Fault) → xs ++ ys ≡ [] → (xs ≡ []) × (ys ≡ [])
both_none [] ys e = (refl, e)
both_none (x ∷ xs) ys e = absurd (let c = e in cc)

no_entry_above : (o : Option Entry) → is_none (parent_told o) ≡ true → o ≡ None
no_entry_above None e = refl
no_entry_above (Some x) e = absurd (let c = e in cc)

-- ---- the parent does not stand below the table

rest_false : (a b : Bool) → (a || b) ≡ false → b ≡ false
rest_false true b e = absurd (let c = e in cc)
rest_false false b e = e

not_true : (b : Bool) → not b ≡ true → b ≡ false
not_true true e = absurd (let c = e in cc)
not_true false e = refl

none_is : (p : ℕ) (ts : List TableNo) (x : TableNo) → list_any (λ y. y.number == p) ts ≡ false → Contains ts x → x.number ≡ p → ⊥
none_is p [] x none at same = none_in x at
none_is p (t ∷ ts) x none at same = elim (cases_in t ts x at) [
  | inl here ↦
      let number : t.number ≡ p = ap (λ (z : TableNo). z.number) here ∙ same in
      let hit : (t.number == p) ≡ true = grind (arith, nat_tests, number) in
      let first : list_any (λ (y : TableNo). y.number == p) (t ∷ ts) ≡ true = rw hit refl in
      absurd (let c : true ≡ false = sym first ∙ none in cc)
  | inr later ↦ none_is p ts x (rest_false (t.number == p) (list_any (λ (y : TableNo). y.number == p) ts) none) later same
]

pub not_above : (h : History) (s p t : ℕ) → stands_above h s p t ≡ false → Contains (numbers_from h s t) p → ⊥
not_above h s p t none at =
    let found = unmapped_in (tables_from h s t) p (subst (λ (ns : List ℕ). Contains ns p) (sym (from_numbers h s t)) at) in
    none_is p (tables_from h s t) found.0 none found.1 found.2

-- ---- how many tables stand on the path of the parent

up_long : (n : ℕ) (part : ℕ → PathPart) (up : ℕ → Option Entry) (o : Option ℕ) → length (upwards n part up o) ≡ tables_up n up o
up_long zero part up None = refl
up_long (suc n) part up None = refl
up_long zero part up (Some t) = refl
up_long (suc n) part up (Some t) = let rest = up_long n part up (parent_in (up t)) in omega (arith, rest)

up_short : (n : ℕ) (up : ℕ → Option Entry) (o : Option ℕ) → tables_up n up o ≤ n
up_short zero up None = omega arith
up_short (suc n) up None = omega arith
up_short zero up (Some t) = omega arith
up_short (suc n) up (Some t) = let rest = up_short n up (parent_in (up t)) in omega (arith, rest)

pub path_long : (h : History) (s x : ℕ) → length (path_of h s x) ≡ tables_above (above (entries_present h s)) x
unfolding path_of tables_above
path_long h s x = up_long 8 (part_of (tables_made (catalogue_events h)) (entries_present h s) (checks_of h s)) (above (entries_present h s)) (Some x)

pub path_short : (h : History) (s x : ℕ) → length (path_of h s x) ≤ 8
unfolding path_of
path_short h s x =
    let long = up_long 8 (part_of (tables_made (catalogue_events h)) (entries_present h s) (checks_of h s)) (above (entries_present h s)) (Some x) in
    subst (λ (n : ℕ). n ≤ 8) (sym long) (up_short 8 (above (entries_present h s)) (Some x))

-- ---- the faults of a place for a table that is higher than one

high_tree : (t : TableTree) → 1 ≤ height t
high_tree (LeafTable node leaf) = omega arith
high_tree (LevelTable node level bounds kids) = omega arith

wider_first : (b c : Bool) (lf f : Fault) → (c ≡ true → b ≡ true) → or_first {T = Unit {0}} (unless b lf) tt ≡ Err f → or_first {T = Unit {0}} (unless c lf) tt ≡ Err f
wider_first true c lf f narrower e = absurd (let d = e in cc)
wider_first false false lf f narrower e = e
wider_first false true lf f narrower e = absurd (let d : false ≡ true = narrower refl in cc)

lower_fits : (a n : ℕ) → 1 ≤ n → nat_le (a + n) 8 ≡ true → nat_le (a + 1) 8 ≡ true
lower_fits a n high fits = grind (arith, nat_tests, high, fits)

wider_fault : (xs ys : List Fault) (a n : ℕ) (lf f : Fault) → 1 ≤ n → or_first {T = Unit {0}} (xs ++ (ys ++ unless (nat_le (a + 1) 8) lf)) tt ≡ Err f → or_first {T = Unit {0}} (xs ++ (ys ++ unless (nat_le (a + n) 8) lf)) tt ≡ Err f
wider_fault (x ∷ xs) ys a n lf f high e = e
wider_fault [] (y ∷ ys) a n lf f high e = e
wider_fault [] [] a n lf f high e = wider_first (nat_le (a + 1) 8) (nat_le (a + n) 8) lf f (lower_fits a n high) e

wider_none : (xs ys : List Fault) (a n : ℕ) (lf : Fault) (r : Result (Unit {0}) Refusal) → xs ++ (ys ++ unless (nat_le (a + 1) 8) lf) ≡ [] → IsAnswer r (or_first {T = Unit {0}} (unless (nat_le (a + n) 8) lf) tt) → IsAnswer r (or_first {T = Unit {0}} (xs ++ (ys ++ unless (nat_le (a + n) 8) lf)) tt)
wider_none [] [] a n lf r none is = is
wider_none (x ∷ xs) ys a n lf r none is = absurd (let c = none in cc)
wider_none [] (y ∷ ys) a n lf r none is = absurd (let c = none in cc)

module _ (h : History) (s p : ℕ) (b : MeantBound) (n : ℕ) where
  abbrev first_part : List Fault
  first_part = bound_faults (made_at h p).name (pending_name h s p) (names_below h s p) (bounds_below h s p) b

  abbrev second_part : List Fault
  second_part = unless (nat_lt (length (partitions_of h s p)) 1024 && nat_lt (added h) ENTRY_LIMIT) (too_many Partitions)

  pub wider_refused : (r : Refusal) → 1 ≤ n → IsAnswer {T = Unit {0}} (Err r) (or_first {T = Unit {0}} (place_faults h s p b 1) tt) → IsAnswer {T = Unit {0}} (Err r) (or_first {T = Unit {0}} (place_faults h s p b n) tt)
  wider_refused (Sql f) high e = wider_fault first_part second_part (tables_above (above (entries_present h s)) p) n (too_many Levels) f high e
  wider_refused NoMemory high e = tt

  pub wider_answer : (r : Result (Unit {0}) Refusal) (a : ℕ) → a ≡ tables_above (above (entries_present h s)) p → place_faults h s p b 1 ≡ [] → IsAnswer r (or_first {T = Unit {0}} (unless (nat_le (a + n) 8) (too_many Levels)) tt) → IsAnswer r (or_first {T = Unit {0}} (place_faults h s p b n) tt)
  wider_answer r a is none its =
      wider_none first_part second_part (tables_above (above (entries_present h s)) p) n (too_many Levels) r none (subst (λ (k : ℕ). IsAnswer r (or_first {T = Unit {0}} (unless (nat_le (k + n) 8) (too_many Levels)) tt)) is its)

pub table_high : (h : History) (s t : ℕ) → 1 ≤ height (ddl_tree h s t)
table_high h s t = high_tree (ddl_tree h s t)

-- ---- one answer after another

-- what is left to be told behind each answer
abbrev pub after_bound : History → (s p t : ℕ) → MeantBound → Result MeantBound Fault
after_bound h s p t bound = unless_faults (place_faults h s p bound (height (ddl_tree h s t))) (Ok bound)

abbrev pub after_table : History → (s p t : ℕ) → Bound → Level → Result MeantBound Fault
after_table h s p t b level = next_answer (bound_for level b) (after_bound h s p t)

abbrev pub after_level : History → (s p t : ℕ) → Bound → Level → Result MeantBound Fault
after_level h s p t b level = unless_faults (table_faults h s p t) (after_table h s p t b level)

module _ (r : Result MeantBound Refusal) (h : History) (s p t : ℕ) (b : Bound) where
  pub at_level : IsAnswerBy (λ (x : MeantBound). x) r (next_answer (level_at h p) (after_level h s p t b)) → IsAnswer r (attach_place h s p t b)
  at_level is = to_answer r (attach_place h s p t b) is

  pub past_level : (level : Level) → level_at h p ≡ Ok level → IsAnswerBy (λ (x : MeantBound). x) r (after_level h s p t b level) → IsAnswer r (attach_place h s p t b)
  past_level level e is = at_level (past_ok (λ (x : MeantBound). x) r (level_at h p) level (after_level h s p t b) e is)

  pub past_table : (level : Level) → level_at h p ≡ Ok level → table_faults h s p t ≡ [] → IsAnswerBy (λ (x : MeantBound). x) r (after_table h s p t b level) → IsAnswer r (attach_place h s p t b)
  past_table level e none is = past_level level e (past_none (λ (x : MeantBound). x) r (table_faults h s p t) (after_table h s p t b level) none is)

  pub past_bound : (level : Level) (bound : MeantBound) → level_at h p ≡ Ok level → table_faults h s p t ≡ [] → bound_for level b ≡ Ok bound → IsAnswerBy (λ (x : MeantBound). x) r (after_bound h s p t bound) → IsAnswer r (attach_place h s p t b)
  past_bound level bound e none meant is = past_table level e none (past_ok (λ (x : MeantBound). x) r (bound_for level b) bound (after_bound h s p t) meant is)

-- ---- a table that nothing stands against

pub may_be_attached : (h : History) (s p t : ℕ) (level : Level) (bound : MeantBound) → level_at h p ≡ Ok level → IsOfLevel level bound → table_faults h s p t ≡ [] → place_faults h s p bound (height (ddl_tree h s t)) ≡ [] → MayBeAttached h s p t bound
may_be_attached h s p t level bound is fits none place =
    let first = both_none (unless (is_none (parent_told (above (entries_present h s) t))) (already_a_partition (name_at h t))) (unless (not (stands_above h s p t)) (is_above (name_at h t) (name_at h p)) ++ column_faults (name_at h t) (made_at h p).columns (made_at h t).columns) none in
    let second = both_none (unless (not (stands_above h s p t)) (is_above (name_at h t) (name_at h p))) (column_faults (name_at h t) (made_at h p).columns (made_at h t).columns) first.1 in
    record {
      takes = takes_bound (made_at h p).name (made_at h p).shape level bound is fits;
      columns = columns_of (name_at h t) (made_at h p).columns (made_at h t).columns second.1;
      no_partition = no_entry_above (above (entries_present h s) t) (unless_true (is_none (parent_told (above (entries_present h s) t))) (already_a_partition (name_at h t)) first.0);
      not_above = not_above h s p t (not_true (stands_above h s p t) (unless_true (not (stands_above h s p t)) (is_above (name_at h t) (name_at h p)) second.0));
      place = place;
    }
