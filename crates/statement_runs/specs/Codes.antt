-- How the logic tells apart what is kept of a run's sessions.
use Rattle.std.proofs.Common.{◌≡◌, ℕ, Bool, List, ◌⊎◌, inl, inr, refl, Option}
use Rattle.std.specs.Coded.{Coded, code_by, coded×, coded⊎, coded_bool, coded_list, coded_option, coded_ℕ}
use Rattle.stores.specs.declared.stores.Stores.{Stores}
use Rattle.statement_steps.specs.Gathered.{RowsLeft}
use Rattle.statement_steps.specs.declared.rest.Rest.{Rest}
use Rattle.statement_steps.specs.declared.rest.Rest.TheVariants.{Rows, Detach}
use Rattle.statement_steps.specs.declared.rest.RestOfDetach.{RestOfDetach}
use Rattle.statement_runs.specs.Kept.{KeptSeats}

-- what is left to a statement is that of rows, or that of a detach
abbrev parts : Rest → RowsLeft ⊎ RestOfDetach
parts (Rows r) = inl r
parts (Detach d) = inr d

abbrev whole : RowsLeft ⊎ RestOfDetach → Rest
whole (inl r) = Rows r
whole (inr d) = Detach d

pub whole_parts : (r : Rest) → whole (parts r) ≡ r
whole_parts (Rows r) = refl
whole_parts (Detach d) = refl

abbrev pub rest_code : Coded RowsLeft → Coded RestOfDetach → Coded Rest
rest_code rows detach = code_by (RowsLeft ⊎ RestOfDetach) (coded⊎ rows detach) parts whole whole_parts

abbrev pub seats_code : Coded Stores → Coded Rest → Coded KeptSeats
seats_code stores rest =
    code_by (Stores × (List Bool × (List ℕ × (List Bool × (List (Option Rest) × (List Bool × (List ℕ × (Option ℕ × Bool))))))))
    (coded× stores (coded× (coded_list coded_bool) (coded× (coded_list coded_ℕ) (coded× (coded_list coded_bool) (coded× (coded_list (coded_option rest)) (coded× (coded_list coded_bool) (coded× (coded_list coded_ℕ) (coded× (coded_option coded_ℕ) coded_bool))))))))
    (λ k. (k.stores, (k.opened, (k.commands, (k.cancelled, (k.rests, (k.moved, (k.queue, (k.ready, k.whole)))))))))
    (λ p. record {
      stores = p.0;
      opened = p.1.0;
      commands = p.1.1.0;
      cancelled = p.1.1.1.0;
      rests = p.1.1.1.1.0;
      moved = p.1.1.1.1.1.0;
      queue = p.1.1.1.1.1.1.0;
      ready = p.1.1.1.1.1.1.1.0;
      whole = p.1.1.1.1.1.1.1.1;
    })
    (λ k. refl)
