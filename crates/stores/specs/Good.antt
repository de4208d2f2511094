-- Which histories a run comes to: each event was legal and permitted when it came.
use Rattle.std.specs.Prelude.{◌≡◌, ◌<◌, ℕ, [], ◌∷◌, Option, Some, None}
use Rattle.history.specs.Transactions.{TxEvents, TxCommitted, TxAborted, IsRunning}
use Rattle.history.specs.Snapshots.{held_by}
use Rattle.history.specs.declared.catalogue.Table.{Table}
use Rattle.history.specs.declared.catalogue.TableShape.{TableShape}
use Rattle.history.specs.declared.catalogue.TableShape.TheVariants.{Leaf, Level}
use Rattle.history.specs.Rows.{leaf_count}
use Rattle.history.specs.Catalogue.{TableMade}
use Rattle.history.specs.History.{Event, History, TxChange, CatalogueChange, tx_events, snapshot_events, row_events}
use Rattle.history.specs.Legal.{May, command_of, IsInOrder}
use Rattle.soundness.specs.Legal.{IsPermitted}

-- the command is one of a transaction that runs
abbrev pub IsActing : TxEvents → Option (ℕ × ℕ) → Type 0
IsActing txs None = Unit {0}
IsActing txs (Some c) = IsRunning txs c.0

-- a transaction ends only where its session holds no snapshot
abbrev pub IsReleased : Event → History → Type 0
IsReleased (TxChange (TxCommitted s t)) h = held_by (snapshot_events h) s ≡ None
IsReleased (TxChange (TxAborted s t)) h = held_by (snapshot_events h) s ≡ None
IsReleased _ h = Unit {0}

-- a table is made only where its leaf was added, and where there is room for it
abbrev pub HasLeafOf : TableShape → History → Type 0
HasLeafOf (Leaf leaf) h = leaf.number < leaf_count (row_events h)
HasLeafOf (Level level) h = Unit {0}

pub record HasRoom (t : Table) (h : History) : Type 0 where
  pub leaf : HasLeafOf t.shape h
  pub few : t.id.number < 4096

abbrev pub IsHoused : Event → History → Type 0
IsHoused (CatalogueChange (TableMade t)) h = HasRoom t h
IsHoused _ h = Unit {0}

-- the event may come after the history
pub record MayCome (e : Event) (h : History) : Type 0 where
  pub legal : May e h
  pub in_order : IsInOrder (command_of e) h
  pub permitted : IsPermitted e h
  pub acting : IsActing (tx_events h) (command_of e)
  pub released : IsReleased e h
  pub housed : IsHoused e h

abbrev pub IsGood : History → Type 0
IsGood [] = Unit {0}
IsGood (e ∷ h) = MayCome e h × IsGood h
