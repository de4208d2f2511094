-- Columns that match.
use Rattle.std.proofs.Common.{◌≡◌, ℕ, ◌&&◌, ◌||◌, not, Bool, true, false, List, [], ◌∷◌, inl, inr, refl}
use Rattle.std.specs.Prelude.{bytes_eq}
use Rattle.std.proofs.lemmas.Bool.{cases_Bool}
use Rattle.std.proofs.lemmas.Slice.Eq.{bytes_eq-Decides}
use Rattle.refusals.specs.Refusals.{column_does_not_match}
use Rattle.history.specs.declared.catalogue.Column.{Column}
use Rattle.history.specs.Places.{IsColumnOf, HasColumnsOf}
use Rattle.alter_table.specs.Columns.{matches, column_faults}
use Rattle.ddl_steps.specs.Checks.{same_kind}
use Rattle.ddl_steps.proofs.Levels.{kind_is}

both : (a b : Bool) → (a && b) ≡ true → (a ≡ true) × (b ≡ true)
both true b e = (refl, e)
both false b e = absurd (let c = e in cc)

strict_too : (p c : Bool) → (not p || c) ≡ true → p ≡ true → c ≡ true
strict_too true c e is = e
strict_too false c e is = absurd (let d = is in cc)

column_of : (p c : Column) → matches p c ≡ true → IsColumnOf p c
column_of p c e =
    let one = both (bytes_eq p.name c.name) (same_kind p.kind c.kind && (not p.not_null || c.not_null)) e in
    let two = both (same_kind p.kind c.kind) (not p.not_null || c.not_null) one.1 in
    ((bytes_eq-Decides p.name c.name).0 one.0, kind_is p.kind c.kind two.0, strict_too p.not_null c.not_null two.1)

pub columns_of : (t : List ℕ) (ps cs : List Column) → column_faults t ps cs ≡ [] → HasColumnsOf ps cs
columns_of t [] [] e = tt
columns_of t [] (c ∷ cs) e = absurd (let d = e in cc)
columns_of t (p ∷ ps) [] e = absurd (let d = e in cc)
columns_of t (p ∷ ps) (c ∷ cs) e = elim (cases_Bool (matches p c)) [
  | inl y ↦ (column_of p c y, columns_of t ps cs (rw y at e))
  | inr n ↦ absurd (let d : (column_does_not_match p.name t ∷ []) ≡ [] = rw n at e in cc)
]
