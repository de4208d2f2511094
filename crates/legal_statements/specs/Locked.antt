-- What a session has locked for its open transaction (the manual, 13.3.1). A table that the transaction has made needs no
-- lock: nobody else knows it.
use Rattle.std.specs.Prelude.{◌≡◌, ℕ, true, ◌⊎◌, Some}
use Rattle.pg_values.specs.declared.lock_mode.LockMode.TheVariants.{RowExclusive, ShareUpdateExclusive, AccessExclusive}
use Rattle.history.specs.Transactions.{open_of}
use Rattle.history.specs.Locks.{holds}
use Rattle.history.specs.History.{History, tx_events, lock_events, catalogue_events}
use Rattle.soundness.specs.Worlds.{IsMade, table_in}

-- its open transaction made the table
abbrev pub IsOwnTable : History → (session table : ℕ) → Type 0
IsOwnTable h session x = IsMade (catalogue_events h) x × (open_of (tx_events h) session ≡ Some (table_in (catalogue_events h) x).by.number)

-- nobody else may do anything with the table
abbrev pub IsOwned : History → (session table : ℕ) → Type 0
IsOwned h session x = (holds (lock_events h) session x AccessExclusive ≡ true) ⊎ IsOwnTable h session x

-- the session may write its rows
abbrev pub IsWritable : History → (session table : ℕ) → Type 0
IsWritable h session x = (holds (lock_events h) session x RowExclusive ≡ true) ⊎ IsOwned h session x

-- the session may change its partitions
abbrev pub IsGuarded : History → (session table : ℕ) → Type 0
IsGuarded h session x = (holds (lock_events h) session x ShareUpdateExclusive ≡ true) ⊎ IsOwned h session x
