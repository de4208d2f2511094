-- A statement that has judged the rows (the manual, 13.3).
use Rattle.std.specs.Prelude.{ℕ, List, [], None, Result, Ok, Err}
use Rattle.pg_values.specs.declared.fault.Fault.{Fault}
use Rattle.pg_values.specs.declared.session_set.SessionSet.{SessionSet}
use Rattle.history.specs.declared.wait.WaitOn.TheVariants.{Snapshots}
use Rattle.history.specs.History.{History}
use Rattle.statement_steps.specs.Made.{Made, Refused, halted}
use Rattle.statement_steps.specs.Asks.{waited}
use Rattle.ddl_steps.specs.Scans.{Scan, judged}

-- it is refused, or waits until those snapshots have gone, and then begins anew; it goes on where there are none
abbrev pub waits_for : List (List ℕ) → (session : ℕ) → Result SessionSet Fault → History → Made (Unit {0})
waits_for names s (Ok others) h = waited names s (Snapshots others) None h
waits_for names s (Err f) h = halted [] (Refused f)

abbrev pub scanned : List (List ℕ) → (session : ℕ) → (History → List Scan) → History → Made (Unit {0})
scanned names s scans h = waits_for names s (judged h s (scans h)) h
