-- What an UPDATE or a DELETE makes of a version that it changes, and what it does from its beginning.
use Rattle.std.specs.Prelude.{ℕ, List}
use Rattle.history.specs.History.{History}
use Rattle.plan_tree.specs.declared.planning.Planning.{Planning}
use Rattle.expression_binder.specs.declared.scope.Param.{Param}
use Rattle.statement_steps.specs.Asks.{held_at}
use Rattle.statement_steps.specs.Made.{Made}
use Rattle.statement_steps.specs.Steps.{follow}
use Rattle.statement_steps.specs.declared.caller.Caller.{Caller}
use Rattle.statement_steps.specs.Gathered.{Found}
use Rattle.change_statement.specs.Changed.{Changing, Told, changed}
use Rattle.change_statement.specs.Deleted.{deleting}
use Rattle.change_statement.specs.Gathered.{gathered_for}
use Rattle.change_statement.specs.Updated.{updating}
use Rattle.change_statement.specs.declared.asking.Change.{Change}
use Rattle.change_statement.specs.declared.asking.Change.TheVariants.{Update, Delete}

abbrev pub changing : Change → Caller → Found → Changing
changing (Update u) c g = updating c g
changing (Delete d) c g = deleting c

-- what is gathered is changed
abbrev pub gathered_and_changed : Planning → List (List ℕ) → List Param → Caller → Change → History → Made Told
gathered_and_changed how names params c change = follow (gathered_for how names params c change) (λ g. changed (changing change c g) names c g)

-- a transaction at REPEATABLE READ takes its snapshot before anything waits
abbrev pub begun : Planning → List (List ℕ) → List Param → Caller → Change → History → Made Told
begun how names params c change = follow (held_at c.level c.session c.cmd) (λ u. gathered_and_changed how names params c change)
