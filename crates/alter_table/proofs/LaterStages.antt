-- The later stages end the statement.
use Rattle.std.proofs.Common.{ℕ, ◌+◌, List, refl, Option, Some, Result, Ok, Err}
use Rattle.history.specs.History.{History}
use Rattle.stores.specs.declared.stores.Stores.{Stores}
use Rattle.statement_steps.specs.Ended.{ended}
use Rattle.statement_steps.specs.declared.caller.Caller.{Caller}
use Rattle.statement_steps.specs.declared.ending.Ending.{Ending}
use Rattle.statement_steps.specs.declared.ending.Ending.TheVariants as endings
use Rattle.statement_steps.specs.declared.rest.Rest.TheVariants.{Detach}
use Rattle.statement_steps.specs.declared.rest.RestOfDetach.{RestOfDetach}
use Rattle.statement_steps.specs.declared.stop.Stop.{Stop}
use Rattle.statement_steps.specs.Steps.{IsStep, going_on}
use Rattle.statement_steps.proofs.Steps.{gives_ok, gives_stop}
use Rattle.alter_table.specs.Concurrent.{behind_nobody, by_rest, later_stages}

pub later_ends : (r : Result (Unit {0}) Stop) (d : RestOfDetach) (old new : Stores) (caller : Caller) (names : List (List ℕ)) (parent name : List ℕ)
    → IsStep (λ (u : Unit {0}). u) r old new caller (caller.cmd + 1) (λ h. going_on (Some (Detach (behind_nobody d))) (later_stages names caller d parent name h))
    → IsStep (λ (e : Ending). e) (ended r) old new caller (caller.cmd + 1) (by_rest names caller (Some d) parent name)
later_ends (Ok u) d old new caller names parent name step =
    gives_ok (λ (v : Unit {0}). v) (λ (e : Ending). e) (λ v. endings.Done) u endings.Done old new caller (caller.cmd + 1) (λ h. going_on (Some (Detach (behind_nobody d))) (later_stages names caller d parent name h)) refl step
later_ends (Err e) d old new caller names parent name step =
    gives_stop (λ (v : Unit {0}). v) (λ (x : Ending). x) (λ v. endings.Done) e old new caller (caller.cmd + 1) (λ h. going_on (Some (Detach (behind_nobody d))) (later_stages names caller d parent name h)) step
