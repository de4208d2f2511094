-- What statements give and read.
use Rattle.std.proofs.Common.{◌≡◌, ℕ, ◌+◌, List, Option, Result, Ok, Err, ap, sym, ◌∙◌, arith}
use Rattle.history.specs.History.{History}
use Rattle.pg_values.specs.declared.fault.Fault.{Fault}
use Rattle.schedule.specs.declared.tally.Tally.{Tally}
use Rattle.stores.specs.declared.stores.Stores.{Stores}
use Rattle.statement_steps.specs.Ended.{ended}
use Rattle.statement_steps.specs.Made.{Made}
use Rattle.statement_steps.specs.Steps.{IsTold}
use Rattle.statement_steps.specs.declared.caller.Caller.{Caller}
use Rattle.statement_steps.specs.declared.rest.Rest.{Rest}
use Rattle.statement_steps.specs.declared.stop.Stop.{Stop}
use Rattle.statement_steps.specs.declared.stop.Stop.TheVariants as stop
use Rattle.change_statement.specs.Running.{IsCommandTold}
use Rattle.statement_runs.specs.Executions.{Execution}
use Rattle.statement_runs.specs.Given.{given, execution_given}
use Rattle.statement_runs.specs.Tallies.{none, summed, added, Grows}
use Rattle.plan_tree.specs.declared.planning.Planning.{Planning}

abbrev so_much : ℕ → ℕ → Tally
so_much a b = record { rows = a; reads = b }

pub nothing_more : (n : Tally) → added n none ≡ n
nothing_more n =
    let rows : summed n.rows 0 ≡ n.rows = omega arith in
    let reads : summed n.reads 0 ≡ n.reads = omega arith in
    ap (λ x. so_much x (summed n.reads 0)) rows ∙ ap (so_much n.rows) reads

-- nothing has come to a tally
pub stays_same : {X : Type 0} (r : Result X Stop) (n : Tally) → Grows r n n none
stays_same (Ok x) n = sym (nothing_more n)
stays_same (Err (stop.Waits rest)) n = sym (nothing_more n)
stays_same (Err (stop.Refused f)) n = sym (nothing_more n)
stays_same (Err stop.NoMemory) n = tt

pub ended_grows : (r : Result (Unit {0}) Stop) (before after more : Tally) → Grows r before after more → Grows (ended r) before after more
ended_grows (Ok u) before after more grows = grows
ended_grows (Err (stop.Waits rest)) before after more grows = grows
ended_grows (Err (stop.Refused f)) before after more grows = grows
ended_grows (Err stop.NoMemory) before after more grows = tt

-- ---- a statement that stops gives nothing

pub halted_gives : {X T : Type 0} (Y : Type 0) (see : X → T) (f : T → Tally) (e : Stop) (new : Stores) (caller : Caller) (k : ℕ) (h : History) (m : Made T) (n : Tally) → IsTold see (Err e) new caller k h m → Grows {X = Y} (Err e) n n (given f m.told)
halted_gives Y see f (stop.Waits rest) new caller k h m n told = sym (nothing_more n) ∙ ap (λ r. added n (given f r)) (sym told.0)
halted_gives Y see f (stop.Refused fault) new caller k h m n told = sym (nothing_more n) ∙ ap (λ r. added n (given f r)) (sym told.0)
halted_gives Y see f stop.NoMemory new caller k h m n told = tt

pub stopped_gives : {X T : Type 0} (Y : Type 0) (see : X → T) (f : T → Tally) (e : Stop) (new : Stores) (caller : Caller) (h : History) (m : Made T) (n : Tally) → IsCommandTold see (Err e) new caller h m → Grows {X = Y} (Err e) n n (given f m.told)
stopped_gives Y see f (stop.Waits rest) new caller h m n told = sym (nothing_more n) ∙ ap (λ r. added n (given f r)) (sym told.0)
stopped_gives Y see f (stop.Refused fault) new caller h m n told = sym (nothing_more n) ∙ ap (λ r. added n (given f r)) (sym told.0)
stopped_gives Y see f stop.NoMemory new caller h m n told = tt

-- ---- nor does an EXECUTE that is refused

pub refused_gives : (how : Planning) (names : List (List ℕ)) (caller : Caller) (rest : Option Rest) (told : Result Execution Fault) (fault : Fault) (h : History) (n : Tally) → told ≡ Err fault
    → n ≡ added n (execution_given how names caller rest told h)
refused_gives how names caller rest told fault h n is = sym (nothing_more n) ∙ ap (λ (r : Result Execution Fault). added n (execution_given how names caller rest r h)) (sym is)
