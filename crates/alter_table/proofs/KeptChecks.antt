-- The CHECKs that a table keeps are of the levels that they name.
use Rattle.std.proofs.Common.{◌≡◌, true, false, if◌then◌else◌, inl, inr, ap, sym, subst, ◌∙◌, List, Option, Some, None, Result, Ok, Err}
use Rattle.std.specs.List.{list_any}
use Rattle.std.proofs.lemmas.Bool.{cases_Bool}
use Rattle.pg_values.specs.declared.fault.Fault.{Fault}
use Rattle.pg_values.specs.declared.fault.Refusal.{Refusal}
use Rattle.pg_values.specs.declared.fault.Refusal.TheVariants.{Sql}
use Rattle.bound_forms.specs.declared.level.Level.{Level as OneLevel}
use Rattle.history.specs.declared.catalogue.Entry.{Entry}
use Rattle.history.specs.declared.catalogue.KeptCheck.{KeptCheck}
use Rattle.part_ddl.specs.Placing.{IsFault}
use Rattle.alter_table.specs.Kept.{check_told, unless_equal}
use Rattle.ddl_steps.specs.Checks.{same_check}

-- ---- what is told of the partition's place

-- at a level
pub told_no_place : (level : OneLevel) (o : Option Entry) → o ≡ None → None ≡ check_told (Ok level) o
told_no_place level o none = ap (check_told (Ok level)) (sym none)

pub told_place : (level : OneLevel) (o : Option Entry) (e : Entry) (c : KeptCheck) → o ≡ Some e → c ≡ record { level = level; bound = e.bound } → Some c ≡ check_told (Ok level) o
told_place level o e c found is = ap Some is ∙ ap (check_told (Ok level)) (sym found)

-- the parent has a level, or has none
pub told_of_level : (told : Result OneLevel Fault) (level : OneLevel) (o : Option Entry) (c : Option KeptCheck) → told ≡ Ok level → c ≡ check_told (Ok level) o → c ≡ check_told told o
told_of_level told level o c is made = made ∙ ap (λ l. check_told l o) (sym is)

pub told_no_level : (e : Refusal) (f : Fault) (told : Result OneLevel Fault) (o : Option Entry) → e ≡ Sql f → IsFault e told → None ≡ check_told told o
told_no_level e f told o is fault = let none : told ≡ Err f = subst (λ x. IsFault x told) is fault in ap (λ l. check_told l o) (sym none)

-- ---- the new one

-- where none is told, or an equal one is kept, or none is
pub none_new : (kept : List KeptCheck) (o : Option KeptCheck) → None ≡ o → None ≡ unless_equal kept o
none_new kept o none = ap (unless_equal kept) none

pub equal_kept : (kept : List KeptCheck) (o : Option KeptCheck) (c : KeptCheck) → Some c ≡ o → true ≡ list_any (λ k. same_check k c) kept → None ≡ unless_equal kept o
equal_kept kept o c told is = ap (λ b. if b then None else Some c) is ∙ ap (unless_equal kept) told

pub new_told : (kept : List KeptCheck) (o : Option KeptCheck) (c : KeptCheck) → Some c ≡ o → false ≡ list_any (λ k. same_check k c) kept → Some c ≡ unless_equal kept o
new_told kept o c told is = ap (λ b. if b then None else Some c) is ∙ ap (unless_equal kept) told

-- and where one is new, none is equal
pub none_kept : (kept : List KeptCheck) (o : Option KeptCheck) (c : KeptCheck) → unless_equal kept o ≡ Some c → list_any (λ k. same_check k c) kept ≡ false
none_kept kept None c e = absurd (let d = e in cc)
none_kept kept (Some k) c e = elim (cases_Bool (list_any (λ x. same_check x k) kept)) [
  | inl t ↦ let none : None ≡ Some c = rw t at e in absurd (cc)
  | inr f ↦
      let some : Some k ≡ Some c = rw f at e in
      let same : k ≡ c = cc in
      subst (λ (x : KeptCheck). list_any (λ y. same_check y x) kept ≡ false) same f
]
