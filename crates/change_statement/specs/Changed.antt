-- What becomes of the rows of an UPDATE or a DELETE, one after the other (the manual, 13.2.1 Read Committed Isolation Level;
-- 13.2.2 Repeatable Read Isolation Level; 13.3.2 Row-Level Locks).
use Rattle.std.specs.Prelude.{ℕ, ◌+◌, ◌^◌, Bool, true, false, List, [], ◌∷◌, Option, Some, None}
use Rattle.pg_values.specs.declared.value.Value.{Value}
use Rattle.pg_values.specs.declared.fault.Fault.{Fault}
use Rattle.pg_values.specs.declared.ids.LeafId.{LeafId}
use Rattle.pg_values.specs.declared.ids.RowId.{RowId}
use Rattle.pg_values.specs.declared.ids.TableNo.{TableNo}
use Rattle.pg_values.specs.declared.session_set.SessionSet.{SessionSet}
use Rattle.history.specs.declared.wait.WaitOn.TheVariants.{Ends}
use Rattle.history.specs.History.{History}
use Rattle.row_router.specs.Trees.{TableTree}
use Rattle.row_change.specs.Placing.{name_at, tables_of}
use Rattle.row_change.specs.Targets.{holder}
use Rattle.change_statement.specs.Faults.{could_not_serialize, conflict_session}
use Rattle.change_statement.specs.Targets.{targets}
use Rattle.change_statement.specs.Verdicts.{UpdaterMeant, Decision, Changes, PassesBy, WaitsFor, Refuses, decided}
use Rattle.change_statement.specs.declared.verdicts.Conflict.{Conflict}
use Rattle.pg_values.specs.declared.isolation.Isolation.{Isolation}
use Rattle.pg_values.specs.declared.isolation.Isolation.TheVariants.{ReadCommitted, ReadUncommitted, RepeatableRead}
use Rattle.stores.specs.Events.{tx_in, look_of, held}
use Rattle.statement_steps.specs.Ended.{giving}
use Rattle.statement_steps.specs.Made.{Made, Refused, made, halted}
use Rattle.statement_steps.specs.declared.caller.Caller.{Caller}
use Rattle.statement_steps.specs.declared.rest.Rest.{Rest}
use Rattle.statement_steps.specs.declared.rest.Rest.TheVariants.{Rows}
use Rattle.statement_steps.specs.declared.rest.TargetRow.{TargetRow}
use Rattle.statement_steps.specs.Gathered.{Found, RowsLeft}
use Rattle.statement_steps.specs.Asks.{waited}
use Rattle.statement_steps.specs.Faults.{name_of}
use Rattle.statement_steps.specs.Steps.{follow}
use Rattle.change_statement.specs.Standing.{following, left_of, standing}
use Rattle.change_statement.specs.declared.changed_rows.ChangedRows.{ChangedRows}

-- what is made of a version that is changed, of a row with that leaf
abbrev pub Changing : Type 0
Changing = LeafId → RowId → (row : List Value) → History → Made (Unit {0})

-- ---- one row

abbrev pub repeats_at : Isolation → Bool
repeats_at ReadCommitted = false
repeats_at ReadUncommitted = false
repeats_at RepeatableRead = true

-- who changes the rows
abbrev pub updater : Caller → Found → History → UpdaterMeant
updater c g h = record { session = c.session; tx = tx_in h c.session; repeats = repeats_at c.level; condition = g.asked.condition }

-- the session alone
abbrev pub only : ℕ → SessionSet
only s = record { bits = 2 ^ s }

-- the statement waits for the end of the session's transaction
abbrev pub waits_for_end : List (List ℕ) → Caller → (other : ℕ) → RowsLeft → History → Made (Unit {0})
waits_for_end names c other rest = waited names c.session (Ends (only other)) (Some (Rows rest))

-- it holds the snapshot that it reads under from now on, and waits
abbrev pub held_now : Caller → History → Made (Unit {0})
held_now c h = made (held h c.session c.cmd) tt

abbrev pub held_up : List (List ℕ) → Caller → (other : ℕ) → RowsLeft → History → Made (Unit {0})
held_up names c other rest = follow (held_now c) (λ u. waits_for_end names c other rest)

-- under the transaction's next command, by which it goes on
abbrev pub paused : List (List ℕ) → Caller → (other : ℕ) → RowsLeft → History → Made (Unit {0})
paused names c other rest = held_up names (following c) other rest

-- `row of <leaf> was changed by session <s>`, or `moved`, by the names of the leaf's table and of the session
abbrev pub fault_in : List (List ℕ) → TableNo → Conflict → History → Fault
fault_in names table conflict h = could_not_serialize conflict (name_at (tables_of h) table) (name_of names (conflict_session conflict))

abbrev pub conflict_fault : List (List ℕ) → TableTree → LeafId → Conflict → History → Fault
conflict_fault names tree leaf = fault_in names (holder tree leaf)

-- by what is decided; it is told how many rows are changed then
abbrev pub by_decision : Changing → List (List ℕ) → Caller → Found → LeafId → RowsLeft → Decision → History → Made ℕ
by_decision change names c g leaf rest (Changes id row) = follow (change leaf id row) (λ u h. made [] (rest.changed + 1))
by_decision change names c g leaf rest PassesBy = λ h. made [] rest.changed
by_decision change names c g leaf rest (WaitsFor other) = follow (paused names c other rest) (λ u h. made [] rest.changed)
by_decision change names c g leaf rest (Refuses conflict) = λ h. halted [] (Refused (conflict_fault names g.tree leaf conflict h))

abbrev pub one_changed : Changing → List (List ℕ) → Caller → Found → (left : List TargetRow) → TargetRow → (changed : ℕ) → History → Made ℕ
one_changed change names c g ts t n h = by_decision change names c g t.leaf (standing h c g ts n) (decided h (updater c g h) t.id) h

-- ---- row after row: one is finished before the next

-- it is told how many rows are changed, with those before
abbrev pub all_changed : Changing → List (List ℕ) → Caller → Found → List TargetRow → (changed : ℕ) → History → Made ℕ
all_changed change names c g [] n h = made [] n
all_changed change names c g (t ∷ ts) n h = follow (one_changed change names c g (t ∷ ts) t n) (all_changed change names c g ts) h

-- the rows of these leaves that the snapshot sees and that pass
abbrev pub changed_in : List LeafId → Changing → List (List ℕ) → Caller → Found → History → Made ℕ
changed_in ls change names c g h = all_changed change names c g (targets h (look_of h c.session c.cmd) g.asked.condition ls) 0 h

-- of the leaves that are read
abbrev pub changed_from : Changing → List (List ℕ) → Caller → Found → History → Made ℕ
changed_from change names c g h = changed_in g.leaves change names c g h

-- the rows that are left, by what was gathered then, of which nothing is looked up again
abbrev pub changed_on : (Found → Changing) → List (List ℕ) → Caller → RowsLeft → History → Made ℕ
changed_on change names c r h = all_changed (change r.found) names c r.found r.left r.changed h

-- ---- what is told

-- how many rows are changed, and the leaves that were read, in order
pub record Told : Type 0 where
  pub rows : ℕ
  pub reads : List LeafId

abbrev pub told_by : ChangedRows → Told
told_by r = record { rows = r.count; reads = r.reads }

-- each leaf is read once, whether or not the statement has waited meanwhile
abbrev pub told_of : Found → ℕ → Told
told_of g n = record { rows = n; reads = g.leaves }

abbrev pub changed : Changing → List (List ℕ) → Caller → Found → History → Made Told
changed change names c g h = giving (told_of g) (changed_from change names c g h)

-- ---- from the beginning, or from where the statement stood

abbrev pub begun_or_left : {T : Type 0} → (begin : History → Made T) → (on : RowsLeft → History → Made T) → Option RowsLeft → History → Made T
begun_or_left begin on None = begin
begun_or_left begin on (Some r) = on r

abbrev pub changed_by : (Found → Changing) → List (List ℕ) → Caller → Option Rest → (History → Made Told) → History → Made Told
changed_by change names c rest begin h = begun_or_left begin (λ r k. giving (told_of r.found) (changed_on change names c r k)) (left_of h c rest) h
