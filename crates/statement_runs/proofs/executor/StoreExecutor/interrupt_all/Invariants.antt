use Rattle.std.proofs.Common.{◌≡◌, ◌≤◌, ℕ, false, drop, map}
use Rattle.prepared_statements.specs.Kept.{listed}
use Rattle.statement_runs.specs.Database.{Database, all_cut}
use Rattle.statement_runs.specs.Kept.{StandsFor, waits_in}
use Rattle.statement_runs.specs.Weight.{left}
use Rattle.statement_runs.proofs.executor.StoreExecutor.interrupt_all.Given as goal

abbrev pub invariant-loop-session : goal.invariant-loop-session
invariant-loop-session l = record {
  options : l.self.options ≡ l.fn.self.options;
  prepared : l.self.prepared ≡ l.fn.self.prepared;
  opened : l.self.seats.opened ≡ l.fn.self.seats.opened;
  rests : l.self.seats.rests ≡ l.fn.self.seats.rests;
  stands : (v : Database) → StandsFor l.fn.self.options l.fn.self.seats (map listed l.fn.self.prepared.items) l.fn.self.cut.items l.fn.self.tally v
      → (w : Database) × StandsFor l.self.options l.self.seats (map listed l.self.prepared.items) l.self.cut.items l.self.tally w × (all_cut w (drop l.session-index l.sessions) ≡ all_cut v l.sessions);
  others : (s : ℕ) → waits_in l.fn.self.seats s ≡ false → waits_in l.self.seats s ≡ false;
  lower : left l.self.seats l.self.cut.items ≤ left l.fn.self.seats l.fn.self.cut.items;
}
