-- Rows that agree where no setting names a column have the same keys there.
use Rattle.std.proofs.Common.{◌≡◌, ◌≢◌, ℕ, ◌==◌, ◌||◌, arith, true, false, List, [], ◌∷◌, refl, sym, ap, ◌∙◌, Result, Ok, Err, map, slice_index_or}
use Rattle.std.specs.Prelude.{slice_set}
use Rattle.std.specs.List.{list_any}
use Rattle.std.proofs.lemmas.Bool.{or_parts}
use Rattle.std.proofs.lemmas.Bool.Decides.{nat_tests}
use Rattle.std.proofs.lemmas.List.{get_or-set_other}
use Rattle.pg_values.specs.declared.fault.Fault.{Fault}
use Rattle.pg_values.specs.declared.value.Value.{Value}
use Rattle.pg_values.specs.declared.value.Value.TheVariants.{Null}
use Rattle.bound_forms.specs.declared.level.KeyColumn.{KeyColumn}
use Rattle.bound_forms.specs.Points.{picked}
use Rattle.history.specs.declared.catalogue.Column.{Column}
use Rattle.cond_logic.specs.Asked.{SettingMeant}
use Rattle.soundness.proofs.Worlds.{both_ways}
use Rattle.statement_steps.specs.Gathered.{is_set}
use Rattle.change_statement.specs.NewRows.{set_in, set_value, with_value}
use Rattle.change_statement.specs.Running.{Agree}

set_elsewhere : (row : List Value) (k i : ℕ) (v : Value) → (k == i) ≡ false → slice_index_or (slice_set row k v) i Null ≡ slice_index_or row i Null
set_elsewhere row k i v out =
    let differ : i ≢ k = (λ same. both_ways (k == i) (grind (arith, nat_tests, same)) out) in
    get_or-set_other row k i v Null differ

pub set_agrees : (columns : List Column) (was now : List Value) (settings : List SettingMeant) (new : List Value) → set_in columns was now settings ≡ Ok new → Agree settings now new
set_agrees columns was now [] new is i out = let same : now ≡ new = (let c = is in cc) in ap (λ r. slice_index_or r i Null) (sym same)
set_agrees columns was now (s ∷ ss) new is i out =
    let parts = or_parts (s.column == i) (list_any (λ x. x.column == i) ss) out in
    by (set_value columns was s) is parts.0 parts.1 (λ v e rest. set_agrees columns was (slice_set now s.column v) ss new e i rest)
  where
    by : (r : Result Value Fault) → with_value (λ v. set_in columns was (slice_set now s.column v) ss) r ≡ Ok new → (s.column == i) ≡ false → list_any (λ x. x.column == i) ss ≡ false
        → ((v : Value) → set_in columns was (slice_set now s.column v) ss ≡ Ok new → list_any (λ x. x.column == i) ss ≡ false → slice_index_or new i Null ≡ slice_index_or (slice_set now s.column v) i Null)
        → slice_index_or new i Null ≡ slice_index_or now i Null
    by (Ok v) e first rest go = go v e rest ∙ set_elsewhere now s.column i v first
    by (Err f) e first rest go = absurd (let c = e in cc)

pub same_picks : (settings : List SettingMeant) (was now : List Value) (cs : List KeyColumn) → Agree settings was now → list_any (is_set settings) cs ≡ false → picked now (map (λ c. c.position) cs) ≡ picked was (map (λ c. c.position) cs)
same_picks settings was now [] agree out = refl
same_picks settings was now (c ∷ cs) agree out =
    let parts = or_parts (is_set settings c) (list_any (is_set settings) cs) out in
    rw (agree c.position parts.0, same_picks settings was now cs agree parts.1) refl
