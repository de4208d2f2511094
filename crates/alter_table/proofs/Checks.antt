-- The CHECK that a table keeps suits it.
use Rattle.std.proofs.Common.{◌≡◌, ℕ, ◌<◌, List, [], ◌∷◌, inl, inr, refl, sym, ap, ◌∙◌, subst, Option, Some, None, Result, Ok, Err, map, length, get_or}
use Rattle.std.specs.List.{All, list_any, slice_get}
use Rattle.std.proofs.lemmas.Bool.{cases_Bool}
use Rattle.pg_values.specs.declared.fault.Fault.{Fault}
use Rattle.pg_values.specs.declared.value.Kind.{Kind}
use Rattle.bound_forms.specs.declared.level.Level.{Level as OneLevel}
use Rattle.bound_forms.specs.Levels.{IsOfLevel}
use Rattle.history.specs.declared.catalogue.Column.{Column}
use Rattle.history.specs.declared.catalogue.Entry.{Entry}
use Rattle.history.specs.declared.catalogue.KeptCheck.{KeptCheck}
use Rattle.history.specs.declared.catalogue.TableShape.TheVariants.{Level}
use Rattle.history.specs.Catalogue.{tables_made}
use Rattle.history.specs.History.{History, catalogue_events}
use Rattle.history.specs.Places.{table_at, LiesIn, KeysLieIn, TakesBound, HasColumnsOf, AreCatalogueSound}
use Rattle.history.specs.Presence.{checks_of}
use Rattle.row_router.specs.Histories.{is_over, kept_of}
use Rattle.row_router.proofs.Suited.{all_keys_lie}
use Rattle.part_catalog.specs.Found.{made_at}
use Rattle.part_ddl.specs.Placing.{level_at, partitions_of}
use Rattle.ddl_steps.proofs.Below.{found_in, below_listed, entry_suits, same_number}
use Rattle.alter_table.specs.Kept.{place_below, check_told, unless_equal, new_check}
use Rattle.ddl_steps.specs.Checks.{same_check}
use Rattle.ddl_steps.proofs.Shapes.{shape_at}

-- ---- what a new CHECK is made of

pub of_told : (kept : List KeptCheck) (o : Option KeptCheck) (c : KeptCheck) → unless_equal kept o ≡ Some c → o ≡ Some c
of_told kept None c e = absurd (let d = e in cc)
of_told kept (Some k) c e = elim (cases_Bool (list_any (λ x. same_check x k) kept)) [
  | inl t ↦ let none : None ≡ Some c = rw t at e in absurd (cc)
  | inr f ↦ rw f at e
]

pub record IsMadeOf (level : Result OneLevel Fault) (place : Option Entry) (c : KeptCheck) : Type 0 where
  pub e : Entry
  pub at_level : level ≡ Ok c.level
  pub found : place ≡ Some e
  pub bound : e.bound ≡ c.bound

pub made_of : (level : Result OneLevel Fault) (place : Option Entry) (c : KeptCheck) → check_told level place ≡ Some c → IsMadeOf level place c
made_of (Err f) place c told = absurd (let d = told in cc)
made_of (Ok level) None c told = absurd (let d = told in cc)
made_of (Ok level) (Some e) c told = record {
  e = e;
  at_level = let d = told in cc;
  found = refl;
  bound = let d = told in cc;
}

-- ---- the level of the parent

kind_of_column : Column → Kind
kind_of_column c = c.kind

same_kinds : (parent child : List Column) → HasColumnsOf parent child → map (λ (c : Column). c.kind) child ≡ map (λ (c : Column). c.kind) parent
same_kinds [] [] h = refl
same_kinds [] (c ∷ child) h = absurd h
same_kinds (p ∷ parent) [] h = absurd h
same_kinds (p ∷ parent) (c ∷ child) h = ap (λ k. k ∷ map (λ (x : Column). x.kind) child) (sym h.0.1) ∙ ap (λ ks. p.kind ∷ ks) (same_kinds parent child h.1)

-- its key columns are columns of the partition too
keys_of_child : (parent child : List Column) (level : OneLevel) → HasColumnsOf parent child → All (LiesIn parent) level.columns → All (LiesIn child) level.columns
keys_of_child parent child level like keys k d lt = ap (λ ks. slice_get ks (get_or level.columns k d).position) (same_kinds parent child like) ∙ keys k d lt

-- ---- the CHECK may be kept

pub told_suits : (h : History) (s p t : ℕ) (c : KeptCheck) → AreCatalogueSound h → check_told (level_at h p) (place_below h s p t) ≡ Some c
    → (t < length (tables_made (catalogue_events h))) × IsOfLevel c.level c.bound × All (LiesIn (table_at (tables_made (catalogue_events h)) t).columns) c.level.columns
told_suits h s p t c sound is =
    let tables = tables_made (catalogue_events h) in
    let m = made_of (level_at h p) (place_below h s p t) c is in
    let e = m.e in
    let at = found_in (is_over t) (partitions_of h s p) e m.found in
    let below = below_listed h s p e at.0 in
    let suits = entry_suits h s e sound below.0 in
    let child : e.child.number ≡ t = same_number e.child.number t at.1 in
    let shape : (table_at tables p).shape ≡ Level c.level = shape_at (made_at h p).name (made_at h p).shape c.level m.at_level in
    let taken : TakesBound (table_at tables p).shape e.bound = subst (λ n. TakesBound (table_at tables n).shape e.bound) below.1 suits.bound in
    let of_level : IsOfLevel c.level e.bound = subst (λ x. TakesBound x e.bound) shape taken in
    let columns : HasColumnsOf (table_at tables p).columns (table_at tables t).columns =
    subst (λ n. HasColumnsOf (table_at tables p).columns (table_at tables n).columns) child (subst (λ n. HasColumnsOf (table_at tables n).columns (table_at tables e.child.number).columns) below.1 suits.columns) in
    let keys : KeysLieIn (table_at tables p).columns (table_at tables p).shape = all_keys_lie h sound p in
    let in_parent : All (LiesIn (table_at tables p).columns) c.level.columns = subst (KeysLieIn (table_at tables p).columns) shape keys in (
      subst (λ n. n < length tables) child suits.child,
      subst (IsOfLevel c.level) m.bound of_level,
      keys_of_child (table_at tables p).columns (table_at tables t).columns c.level columns in_parent,
    )

pub check_suits : (h : History) (s p t : ℕ) (c : KeptCheck) → AreCatalogueSound h → new_check h s p t ≡ Some c
    → (t < length (tables_made (catalogue_events h))) × IsOfLevel c.level c.bound × All (LiesIn (table_at (tables_made (catalogue_events h)) t).columns) c.level.columns
check_suits h s p t c sound is = told_suits h s p t c sound (of_told (map kept_of (checks_of h s t)) (check_told (level_at h p) (place_below h s p t)) c is)
