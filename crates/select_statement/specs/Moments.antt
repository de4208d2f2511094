-- What holds of SELECT at each moment of a run: the leaves that a plan leaves out change no answer (the manual, 5.11.4
-- Partition Pruning).
use Rattle.std.specs.Prelude.{◌≡◌, ◌≤◌, ℕ, ◌-◌, All, List, length, map}
use Rattle.pg_values.specs.declared.value.Value.{Value}
use Rattle.history.specs.History.{History, catalogue_events}
use Rattle.soundness.specs.Worlds.{IsMade}
use Rattle.plan_tree.specs.Laws.{Rows, shown}
use Rattle.plan_tree.specs.declared.planning.Planning.{Planning}
use Rattle.cond_logic.specs.Asked.{SelectMeant}
use Rattle.select_answer.specs.Laws.{answer_over, leaves_among, plainly, plan_reads}
use Rattle.stores.specs.Events.{look_of}
use Rattle.statement_steps.specs.declared.caller.Caller.{Caller}
use Rattle.select_statement.specs.Selected.{trees_for}
use Rattle.select_statement.specs.Laws.{Looks, OneTableIsPlainIn, TablesArePlainIn}

-- the rows that the caller's command is shown
abbrev pub rows_for : Caller → History → Rows
rows_for c h = shown h (look_of h c.session c.cmd)

-- Answer over the leaves of Reads equals Answer over all leaves of the tables' trees, as lists
abbrev pub ReadsArePlainIn : History → Type 0
ReadsArePlainIn h = (how : Planning) (c : Caller) (args : List Value) (m : SelectMeant) (ns : List ℕ) → Looks c h → length ns ≤ 4 → All (IsMade (catalogue_events h)) ns
    → answer_over (c.sessions - 1) args m (rows_for c h) (map (leaves_among (plan_reads how args m (rows_for c h) (trees_for c ns h))) (trees_for c ns h)) ≡ plainly (c.sessions - 1) args m (rows_for c h) (trees_for c ns h)

-- that; a SELECT of one table makes of the history what one makes that scans all leaves; and one of several tables answers
-- what such a one does, unless it makes too many scans
abbrev pub SelectsArePlain : History → Type 0
SelectsArePlain h = ReadsArePlainIn h × OneTableIsPlainIn h × TablesArePlainIn h
