-- What the row store is made to do is what the statement means.
use Rattle.std.proofs.Common.{◌≡◌, ℕ, List, [], ◌∷◌, ◌++◌, refl, ap, ◌∙◌, subst, Result, Ok, Err, find}
use Rattle.pg_values.specs.declared.value.Value.{Value}
use Rattle.pg_values.specs.declared.fault.Fault.{Fault}
use Rattle.pg_values.specs.declared.ids.LeafId.{LeafId}
use Rattle.history.specs.declared.transaction.TxId.{TxId}
use Rattle.history.specs.declared.catalogue.Table.{Table}
use Rattle.history.specs.Rows.{RowBorn}
use Rattle.history.specs.History.{Event, History, RowChange}
use Rattle.row_store.specs.Stands.{newborn}
use Rattle.row_change.specs.declared.target.Target.{Target}
use Rattle.row_change.specs.Storing.{Made as RowsMade, made_by, made_after, all_stored, is_into, leaf_faults, full_faults}
use Rattle.row_change.specs.Placing.{tables_of}
use Rattle.statement_steps.specs.Made.{Made, Halt, Refused, unless_refused}
use Rattle.statement_steps.specs.Steps.{follow}
use Rattle.insert_statement.specs.Born.{born, all_born}

abbrev pub told_as : Result (Unit {0}) Fault → Result (Unit {0}) Halt
told_as (Ok u) = Ok tt
told_as (Err f) = Err (Refused f)

pub record SameMade (a : RowsMade) (b : Made (Unit {0})) : Type 0 where
  pub events : a.events ≡ b.events
  pub told : told_as a.told ≡ b.told

same_next : (fs : List Fault) (v : Event) (h : History) (next : History → RowsMade) (meant : History → Made (Unit {0})) → (tables_of (v ∷ h) ≡ tables_of h) → ((g : History) → tables_of g ≡ tables_of h → SameMade (next g) (meant g))
    → SameMade (let first = made_by fs (v ∷ []) in made_after first.told first.events (next (first.events ++ h))) (follow (λ g. unless_refused fs (v ∷ [])) (λ u. meant) h)
same_next [] v h next meant still same = let s = same (v ∷ h) still in record { events = ap (λ es. es ++ (v ∷ [])) s.events; told = s.told }
same_next (f ∷ fs) v h next meant still same = record { events = refl; told = refl }

pub same_all : (targets : List Target) (by : TxId) (cmd : ℕ) (tables : List Table) (ls : List LeafId) (rs : List (List Value)) (h : History) → tables_of h ≡ tables
    → SameMade (all_stored targets by cmd h ls rs) (all_born by cmd (λ l row. leaf_faults tables (find (is_into l) targets) row) ls rs h)
same_all targets by cmd tables [] rs h is = record { events = refl; told = refl }
same_all targets by cmd tables (l ∷ ls) [] h is = record { events = refl; told = refl }
same_all targets by cmd tables (l ∷ ls) (r ∷ rs) h is =
    subst (λ ts. SameMade (all_stored targets by cmd h (l ∷ ls) (r ∷ rs)) (follow (born by cmd (leaf_faults ts (find (is_into l) targets) r) l r) (λ u. all_born by cmd (λ k row. leaf_faults tables (find (is_into k) targets) row) ls rs) h)) is
    (same_next (leaf_faults (tables_of h) (find (is_into l) targets) r ++ full_faults h r) (RowChange (RowBorn (newborn h l r by cmd))) h (λ g. all_stored targets by cmd g ls rs) (all_born by cmd (λ k row. leaf_faults tables (find (is_into k) targets) row) ls rs)
    refl (λ g same. same_all targets by cmd tables ls rs g (same ∙ is)))
