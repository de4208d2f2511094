-- What is known of a tree and of a snapshot while the stores are those that they were read from, but for locks.
use Rattle.std.specs.Prelude.{◌<◌, All, List, map}
use Rattle.pg_values.specs.declared.ids.TableNo.{TableNo}
use Rattle.history.specs.Transactions.{IsPast}
use Rattle.history.specs.History.{History, tx_events}
use Rattle.history.specs.Dead.{MayRead}
use Rattle.tx_table.specs.Kept.{KeptSnapshot}
use Rattle.tx_table.specs.Stands.{TableStands, SnapshotStands}
use Rattle.row_router.specs.Trees.{TableTree, leaves}
use Rattle.cond_logic.specs.Tables.{Leaf}
use Rattle.plan_tree.specs.Kept.{id_of}
use Rattle.plan_tree.specs.Prunable.{CanPrune}
use Rattle.stores.specs.Events.{look_of}
use Rattle.stores.specs.Good.{IsGood}
use Rattle.stores.specs.declared.stores.Stores.{Stores}
use Rattle.statement_steps.specs.declared.caller.Caller.{Caller}
use Rattle.statement_steps.specs.Known.{IsKnownTo}
use Rattle.statement_steps.specs.Below.{below}

-- each of its leaves is there
abbrev pub HasLeaves : Stores → TableTree → Type 0
HasLeaves stores tree = All (λ l. l.number < stores.rows.leaves) (leaves tree)

abbrev pub AreThere : Stores → List Leaf → Type 0
AreThere stores ls = All (λ l. l.number < stores.rows.leaves) (map id_of ls)

-- each of its tables may be locked
abbrev pub MayLock : Stores → Caller → TableNo → Type 0
MayLock stores caller t = (t.number < 4096) × IsKnownTo stores caller.session t.number

pub record IsTreeFor (stores : Stores) (caller : Caller) (tree : TableTree) : Type 0 where
  pub locks : All (MayLock stores caller) (below tree)
  pub leaves : HasLeaves stores tree
  pub prunable : CanPrune tree

-- the snapshot is that of the command
pub record IsLookFor (stores : Stores) (caller : Caller) (snap : KeptSnapshot) : Type 0 where
  pub stands : (h : History) → TableStands stores.txs h → SnapshotStands snap (look_of h caller.session caller.cmd)
  pub past : (h : History) → TableStands stores.txs h → IsPast (look_of h caller.session caller.cmd).past (tx_events h)
  pub read : (h : History) → TableStands stores.txs h → IsGood h → MayRead (look_of h caller.session caller.cmd) h
