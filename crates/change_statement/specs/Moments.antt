-- What holds of UPDATE and DELETE at each moment of a run: the leaves that they leave out change nothing (the manual, 5.11.4
-- Partition Pruning).
use Rattle.std.specs.Prelude.{◌≡◌, ℕ, List}
use Rattle.pg_values.specs.declared.value.Value.{Value}
use Rattle.history.specs.History.{History, catalogue_events}
use Rattle.plan_tree.specs.declared.planning.Planning.{Planning}
use Rattle.soundness.specs.Worlds.{IsMade}
use Rattle.soundness.specs.Laws.{IsLooking}
use Rattle.cond_logic.specs.Asked.{ChangeMeant}
use Rattle.stores.specs.Events.{look_of}
use Rattle.statement_steps.specs.declared.caller.Caller.{Caller}
use Rattle.change_statement.specs.Changed.{Changing, changed_from}
use Rattle.change_statement.specs.Laws.{gathered_of, plainly_changed}

-- what is gathered of a table is followed by the changes and the answer that would follow over all leaves of its tree
abbrev pub ChangesArePlain : History → Type 0
ChangesArePlain h = (how : Planning) (args : List Value) (change : Changing) (names : List (List ℕ)) (c : Caller) (table : ℕ) (m : ChangeMeant)
    → IsLooking h c.session (look_of h c.session c.cmd) → IsMade (catalogue_events h) table
    → changed_from change names c (gathered_of how c args table m h) h ≡ plainly_changed change names c (gathered_of how c args table m h) h
