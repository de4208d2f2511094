-- A part of a statement as the whole of it, with what it prints.
use Rattle.std.proofs.Common.{◌≡◌, ℕ, ◌+◌, Bool, List, [], ◌++◌, refl, ap, sym, subst, append-nil, Ok, Err, IsErrAnd, Option, Result}
use Rattle.std.proofs.lemmas.Result.{err_from_is_err_and}
use Rattle.pg_values.specs.declared.answer.Answer.{Answer}
use Rattle.pg_values.specs.declared.fault.Fault.{Fault}
use Rattle.pg_values.specs.declared.lock_mode.LockMode.{LockMode}
use Rattle.pg_values.specs.declared.fault.Refusal.{Refusal}
use Rattle.pg_values.specs.declared.fault.Refusal.TheVariants.{Sql}
use Rattle.refusals.specs.Refusals.{left_out}
use Rattle.expression_binder.specs.Firsts.{IsAnswerBy}
use Rattle.sql_ast.specs.Commands.{command_tree}
use Rattle.sql_ast.specs.declared.bound.BoundText.{BoundText}
use Rattle.sql_ast.specs.declared.command.Command.{Command}
use Rattle.sql_ast.specs.declared.command.Command.TheVariants as commands
use Rattle.sql_ast.specs.declared.detachment.Detachment.{Detachment}
use Rattle.sql_ast.specs.declared.locked_table.LockedTable.{LockedTable}
use Rattle.sql_ast.specs.declared.table_definition.ColumnDefinition.{ColumnDefinition}
use Rattle.sql_ast.specs.declared.table_definition.Partitioning.{Partitioning}
use Rattle.history.specs.History.{History}
use Rattle.part_catalog.specs.Stands.{CatalogueStands}
use Rattle.stores.specs.Stand.{Stands}
use Rattle.stores.specs.declared.stores.Stores.{Stores}
use Rattle.prepared_statements.specs.Prepared.{Prepared}
use Rattle.statement_steps.specs.Attempts.{IsAttempt, MayAttempt}
use Rattle.statement_steps.specs.Ended.{Done, Ended, ended, silent_end, told_as}
use Rattle.statement_steps.specs.Made.{Halt, Made, Refused, halted}
use Rattle.statement_steps.specs.declared.caller.Caller.{Caller}
use Rattle.statement_steps.specs.declared.ending.Ending.{Ending}
use Rattle.statement_steps.specs.declared.ending.Ending.TheVariants as endings
use Rattle.statement_steps.specs.declared.rest.Rest.{Rest}
use Rattle.statement_steps.specs.declared.stop.Stop.{Stop}
use Rattle.statement_steps.specs.declared.stop.Stop.TheVariants as stop
use Rattle.statement_steps.specs.Steps.{IsStep, IsTold}
use Rattle.statement_steps.proofs.Numbers.{one_later}
use Rattle.statement_steps.proofs.Parts.{stays, still_on}
use Rattle.change_statement.specs.Running.{IsCommand}
use Rattle.change_statement.proofs.Commands.{goes_anywhere, waits_later}
use Rattle.statement_runs.specs.Attempted.{as_table, command_attempted, nothing, omitted, printed, silent, staged, table, tabled, taken}
use Rattle.statement_runs.specs.LeftOut.{command_word}
use Rattle.statement_runs.specs.Executions.{Execution, command_kept, execution}
use Rattle.statement_runs.specs.Printed.{IsKept, IsStatement}

-- ---- it prints nothing

pub silent_is : (left : Option Rest) → (r : Result (Unit {0}) Stop) (old new : Stores) (caller : Caller) (f : History → Made (Unit {0})) (before : List ℕ) → IsStep (λ (u : Unit {0}). u) r old new caller (caller.cmd + 1) f → IsStatement left (ended r) old new before before caller (silent f)
silent_is left (Ok u) old new caller f before step = record {
  is = λ h stands at go. let t = step.is h stands at in ([], ap (told_as nothing) t.0, sym (append-nil before), t.1);
  keeps = step.keeps;
  waits = step.waits;
}
silent_is left (Err (stop.Waits rest)) old new caller f before step = record {
  is = λ h stands at go. let t = step.is h stands at in (ap (told_as nothing) t.0, refl, waits_later rest new caller h ((f h).events ++ h) t.1, goes_anywhere rest ((f h).events ++ h) caller.session step.waits.1);
  keeps = step.keeps;
  waits = step.waits.0;
}
silent_is left (Err (stop.Refused fault)) old new caller f before step = record {
  is = λ h stands at go. let t = step.is h stands at in (ap (told_as nothing) t.0, refl, t.1);
  keeps = step.keeps;
  waits = step.waits;
}
silent_is left (Err stop.NoMemory) old new caller f before step = record { is = λ h stands at go. tt; keeps = step.keeps; waits = tt }

pub silent_ends : (left : Option Rest) → (r : Result Ending Stop) (done : Result (Unit {0}) Stop) → r ≡ ended done → (old new : Stores) (caller : Caller) (f : History → Made (Unit {0})) (before : List ℕ) → IsStep (λ (u : Unit {0}). u) done old new caller (caller.cmd + 1) f → IsStatement left r old new before before caller (silent f)
silent_ends left r done same old new caller f before step = subst (λ (x : Result Ending Stop). IsStatement left x old new before before caller (silent f)) (sym same) (silent_is left done old new caller f before step)

-- nor does one that may commit what it did first
pub staged_is : (left : Option Rest) → (r : Result Ending Stop) (old new : Stores) (caller : Caller) (f : History → Made Ending) (before : List ℕ) → IsStep (λ (e : Ending). e) r old new caller (caller.cmd + 1) f → IsStatement left r old new before before caller (staged f)
staged_is left (Ok endings.Done) old new caller f before step = record {
  is = λ h stands at go. let t = step.is h stands at in ([], ap (told_as silent_end) t.0, sym (append-nil before), t.1);
  keeps = step.keeps;
  waits = step.waits;
}
staged_is left (Ok (endings.Commits d)) old new caller f before step = record {
  is = λ h stands at go. let t = step.is h stands at in (ap (told_as silent_end) t.0, refl, t.1);
  keeps = step.keeps;
  waits = step.waits;
}
staged_is left (Err (stop.Waits rest)) old new caller f before step = record {
  is = λ h stands at go. let t = step.is h stands at in (ap (told_as silent_end) t.0, refl, waits_later rest new caller h ((f h).events ++ h) t.1, goes_anywhere rest ((f h).events ++ h) caller.session step.waits.1);
  keeps = step.keeps;
  waits = step.waits.0;
}
staged_is left (Err (stop.Refused fault)) old new caller f before step = record {
  is = λ h stands at go. let t = step.is h stands at in (ap (told_as silent_end) t.0, refl, t.1);
  keeps = step.keeps;
  waits = step.waits;
}
staged_is left (Err stop.NoMemory) old new caller f before step = record { is = λ h stands at go. tt; keeps = step.keeps; waits = tt }

-- ---- it prints by what is told

pub printed_is : {X T : Type 0} (left : Option Rest) (view : X → T) (text : History → T → List ℕ) (x : X) (old new : Stores) (caller : Caller) (f : History → Made T) (before after : List ℕ) → ((h : History) → CatalogueStands new.catalog h → after ≡ before ++ text h (view x))
    → IsStep view (Ok x) old new caller (caller.cmd + 1) f → IsStatement left (Ok endings.Done) old new before after caller (printed text f)
printed_is left view text x old new caller f before after prints step = record {
  is = λ h stands at go.
      let t = step.is h stands at in
      let later = (f h).events ++ h in
      (text later (view x), ap (told_as (λ y. Done (text later y))) t.0, prints later t.1.stands.all.catalog, t.1);
  keeps = step.keeps;
  waits = step.waits;
}

pub printed_stops : {X T : Type 0} (left : Option Rest) (view : X → T) (text : History → T → List ℕ) (e : Stop) (old new : Stores) (caller : Caller) (f : History → Made T) (before : List ℕ) → IsStep view (Err e) old new caller (caller.cmd + 1) f → IsStatement left (Err e) old new before before caller (printed text f)
printed_stops left view text (stop.Waits rest) old new caller f before step = record {
  is = λ h stands at go. let t = step.is h stands at in (ap (told_as (λ y. Done (text ((f h).events ++ h) y))) t.0, refl, waits_later rest new caller h ((f h).events ++ h) t.1, goes_anywhere rest ((f h).events ++ h) caller.session step.waits.1);
  keeps = step.keeps;
  waits = step.waits.0;
}
printed_stops left view text (stop.Refused fault) old new caller f before step = record {
  is = λ h stands at go. let t = step.is h stands at in (ap (told_as (λ y. Done (text ((f h).events ++ h) y))) t.0, refl, t.1);
  keeps = step.keeps;
  waits = step.waits;
}
printed_stops left view text stop.NoMemory old new caller f before step = record { is = λ h stands at go. tt; keeps = step.keeps; waits = tt }

-- and so does a statement that may wait in the middle of its run
pub command_is : {X T : Type 0} (left : Option Rest) (view : X → T) (text : History → T → List ℕ) (x : X) (old new : Stores) (caller : Caller) (f : History → Made T) (before after : List ℕ) → ((h : History) → CatalogueStands new.catalog h → after ≡ before ++ text h (view x))
    → IsCommand left view (Ok x) old new caller f → IsStatement left (Ok endings.Done) old new before after caller (printed text f)
command_is left view text x old new caller f before after prints step = record {
  is = λ h stands at go.
      let t = step.is h stands at go in
      let later = (f h).events ++ h in
      (text later (view x), ap (told_as (λ y. Done (text later y))) t.0, prints later t.1.stands.all.catalog, t.1);
  keeps = step.keeps;
  waits = step.waits;
}

pub command_stops : {X T : Type 0} (left : Option Rest) (view : X → T) (text : History → T → List ℕ) (e : Stop) (old new : Stores) (caller : Caller) (f : History → Made T) (before : List ℕ) → IsCommand left view (Err e) old new caller f → IsStatement left (Err e) old new before before caller (printed text f)
command_stops left view text (stop.Waits rest) old new caller f before step = record {
  is = λ h stands at go. let t = step.is h stands at go in (ap (told_as (λ y. Done (text ((f h).events ++ h) y))) t.0, refl, t.1, t.2);
  keeps = step.keeps;
  waits = step.waits;
}
command_stops left view text (stop.Refused fault) old new caller f before step = record {
  is = λ h stands at go. let t = step.is h stands at go in (ap (told_as (λ y. Done (text ((f h).events ++ h) y))) t.0, refl, t.1);
  keeps = step.keeps;
  waits = step.waits;
}
command_stops left view text stop.NoMemory old new caller f before step = record { is = λ h stands at go. tt; keeps = step.keeps; waits = tt }

-- ---- it prints a table

pub tabled_is : (left : Option Rest) → (a : Answer) (old new : Stores) (caller : Caller) (f : History → Made Answer) (before after : List ℕ) → after ≡ before ++ table a → IsStep (λ (x : Answer). x) (Ok a) old new caller (caller.cmd + 1) f → IsStatement left (Ok endings.Done) old new before after caller (tabled f)
tabled_is left a old new caller f before after printed step = record {
  is = λ h stands at go. let t = step.is h stands at in (table a, ap (told_as as_table) t.0, printed, t.1);
  keeps = step.keeps;
  waits = step.waits;
}

pub tabled_stops : (left : Option Rest) → (e : Stop) (old new : Stores) (caller : Caller) (f : History → Made Answer) (before : List ℕ) → IsStep (λ (x : Answer). x) (Err e) old new caller (caller.cmd + 1) f → IsStatement left (Err e) old new before before caller (tabled f)
tabled_stops left (stop.Waits rest) old new caller f before step = record {
  is = λ h stands at go. let t = step.is h stands at in (ap (told_as as_table) t.0, refl, waits_later rest new caller h ((f h).events ++ h) t.1, goes_anywhere rest ((f h).events ++ h) caller.session step.waits.1);
  keeps = step.keeps;
  waits = step.waits.0;
}
tabled_stops left (stop.Refused fault) old new caller f before step = record {
  is = λ h stands at go. let t = step.is h stands at in (ap (told_as as_table) t.0, refl, t.1);
  keeps = step.keeps;
  waits = step.waits;
}
tabled_stops left stop.NoMemory old new caller f before step = record { is = λ h stands at go. tt; keeps = step.keeps; waits = tt }

-- ---- it is left out

abbrev refused_as : Fault → Result Ended Halt
refused_as f = Err (Refused f)

pub omitted_is : (left : Option Rest) (word : List ℕ) (fault : Fault) (stores : Stores) (caller : Caller) (before : List ℕ) → MayAttempt stores caller → fault ≡ left_out word → IsStatement left (Err (stop.Refused fault)) stores stores before before caller (omitted word)
omitted_is left word fault stores caller before may is = record {
  is = λ h stands at go. (ap refused_as (sym is), refl, still_on stores h caller.session (caller.cmd + 1) stands (one_later h caller.session caller.cmd at));
  keeps = stays stores caller.session;
  waits = may.idle;
}

-- as what has no case of its own
pub command_omitted : (names : List (List ℕ)) (caller : Caller) (rest : Option Rest) (ps : List Prepared) (t : Command)
    → ((name : List ℕ) (columns : List ColumnDefinition) (by : Option Partitioning) → t ≡ commands.CreateTable name columns by → ⊥)
    → ((name parent : List ℕ) (bound : BoundText) (by : Option Partitioning) → t ≡ commands.CreatePartition name parent bound by → ⊥)
    → ((if_there : Bool) (tables : List (List ℕ)) → t ≡ commands.DropTables if_there tables → ⊥) → ((parent name : List ℕ) (bound : BoundText) → t ≡ commands.Attach parent name bound → ⊥)
    → ((parent name : List ℕ) (how : Detachment) → t ≡ commands.Detach parent name how → ⊥) → ((tables : List LockedTable) (mode : LockMode) → t ≡ commands.Lock tables mode → ⊥)
    → ((name : List ℕ) → t ≡ commands.Deallocate name → ⊥) → (t ≡ commands.DeallocateAll → ⊥)
    → command_attempted names caller rest ps (command_tree t) ≡ omitted (command_word (command_tree t))
command_omitted names caller rest ps (commands.Begin level) a b c d e f g k = refl
command_omitted names caller rest ps commands.Commit a b c d e f g k = refl
command_omitted names caller rest ps commands.Rollback a b c d e f g k = refl
command_omitted names caller rest ps (commands.Set name value) a b c d e f g k = refl
command_omitted names caller rest ps (commands.Reset name) a b c d e f g k = refl
command_omitted names caller rest ps (commands.CreateTable name columns by) a b c d e f g k = absurd (a name columns by refl)
command_omitted names caller rest ps (commands.CreatePartition name parent bound by) a b c d e f g k = absurd (b name parent bound by refl)
command_omitted names caller rest ps (commands.DropTables if_there tables) a b c d e f g k = absurd (c if_there tables refl)
command_omitted names caller rest ps (commands.Attach parent name bound) a b c d e f g k = absurd (d parent name bound refl)
command_omitted names caller rest ps (commands.Detach parent name how) a b c d e f g k = absurd (e parent name how refl)
command_omitted names caller rest ps (commands.Lock tables mode) a b c d e f g k = absurd (f tables mode refl)
command_omitted names caller rest ps (commands.Deallocate name) a b c d e f g k = absurd (g name refl)
command_omitted names caller rest ps commands.DeallocateAll a b c d e f g k = absurd (k refl)

-- ---- what it means may be told by what stands at its beginning

pub same_statement : (left : Option Rest) (r : Result Ending Stop) (old new : Stores) (caller : Caller) (f g : History → Made Ended) (before after : List ℕ) → ((h : History) → Stands old h → g h ≡ f h)
    → IsStatement left r old new before after caller f → IsStatement left r old new before after caller g
same_statement left r old new caller f g before after same step = record {
  is = λ h stands at go. subst (IsAttempt r new before after caller h) (sym (same h stands)) (step.is h stands at go);
  keeps = step.keeps;
  waits = step.waits;
}

-- what an EXECUTE is refused with is its fault
pub told_fault : (r : Refusal) (f : Fault) (told : Result Execution Fault) → r ≡ Sql f → IsAnswerBy execution (Err r) told → told ≡ Err f
told_fault r f told is answer = subst (λ (x : Refusal). IsAnswerBy execution (Err x) told) is answer

-- refused there
pub refused_is : (left : Option Rest) (fault : Fault) (stores : Stores) (caller : Caller) (f : History → Made Ended) (before : List ℕ) → MayAttempt stores caller → ((h : History) → Stands stores h → f h ≡ halted [] (Refused fault))
    → IsStatement left (Err (stop.Refused fault)) stores stores before before caller f
refused_is left fault stores caller f before may same = record {
  is = λ h stands at go. subst (IsAttempt (Err (stop.Refused fault)) stores before before caller h) (sym (same h stands)) (refl, refl, still_on stores h caller.session (caller.cmd + 1) stands (one_later h caller.session caller.cmd at));
  keeps = stays stores caller.session;
  waits = may.idle;
}

pub no_memory_is : (left : Option Rest) (stores : Stores) (caller : Caller) (f : History → Made Ended) (before : List ℕ) → IsStatement left (Err stop.NoMemory) stores stores before before caller f
no_memory_is left stores caller f before = record { is = λ h stands at go. tt; keeps = stays stores caller.session; waits = tt }

-- ---- what is prepared stays

pub kept_still : (r : Result Ending Stop) (ps : List Prepared) → IsKept r ps ps ps
kept_still (Ok endings.Done) ps = refl
kept_still (Ok (endings.Commits d)) ps = refl
kept_still (Err stop) ps = refl

pub others_keep : (ps : List Prepared) (t : Command) → ((name : List ℕ) → t ≡ commands.Deallocate name → ⊥) → (t ≡ commands.DeallocateAll → ⊥) → command_kept ps (command_tree t) ≡ ps
others_keep ps (commands.Begin level) g k = refl
others_keep ps commands.Commit g k = refl
others_keep ps commands.Rollback g k = refl
others_keep ps (commands.Set name value) g k = refl
others_keep ps (commands.Reset name) g k = refl
others_keep ps (commands.CreateTable name columns by) g k = refl
others_keep ps (commands.CreatePartition name parent bound by) g k = refl
others_keep ps (commands.DropTables if_there tables) g k = refl
others_keep ps (commands.Attach parent name bound) g k = refl
others_keep ps (commands.Detach parent name how) g k = refl
others_keep ps (commands.Lock tables mode) g k = refl
others_keep ps (commands.Deallocate name) g k = absurd (g name refl)
others_keep ps commands.DeallocateAll g k = absurd (k refl)

-- ---- it changes

-- nor where a `?` hands a stop on
pub kept_out : (r : Result (Unit {0}) Stop) (e : Stop) (ps after : List Prepared) → IsErrAnd r (λ s. s ≡ e) → IsKept (ended r) ps ps after
kept_out r e ps after is = let p = err_from_is_err_and r is in subst (λ (x : Result (Unit {0}) Stop). IsKept (ended x) ps ps after) (sym p.1) refl

pub taken_is : (told : Result (List Prepared) Fault) (ps : List Prepared) (stores : Stores) (caller : Caller) → MayAttempt stores caller → told ≡ Ok ps
    → IsStep (λ (u : Unit {0}). u) (Ok tt) stores stores caller (caller.cmd + 1) (taken told)
taken_is told ps stores caller may is = record {
  is = λ h stands at. subst (λ (r : Result (List Prepared) Fault). IsTold (λ (u : Unit {0}). u) (Ok tt) stores caller (caller.cmd + 1) h (taken r h)) (sym is)
      (refl, still_on stores h caller.session (caller.cmd + 1) stands (one_later h caller.session caller.cmd at));
  keeps = stays stores caller.session;
  waits = may.idle;
}
