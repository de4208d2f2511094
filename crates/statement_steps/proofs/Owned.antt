-- A transaction that is open is the session's own.
use Rattle.std.proofs.Common.{◌≡◌, ℕ, ap, Option, Some, option_map, unwrap_or}
use Rattle.history.specs.declared.transaction.TxId.{TxId}
use Rattle.history.specs.Transactions.{open_of}
use Rattle.history.specs.History.{History, tx_events}
use Rattle.tx_table.specs.Stands.{TableStands}
use Rattle.stores.specs.Events.{tx_in}
use Rattle.stores.specs.declared.stores.Stores.{Stores}
use Rattle.statement_steps.specs.Owned.{own}

pub own_number : (h : History) (s t : ℕ) → open_of (tx_events h) s ≡ Some t → tx_in h s ≡ t
own_number h s t mine = ap (λ (o : Option ℕ). unwrap_or o 0) mine

pub own_is : (h : History) (s : ℕ) (by : TxId) → option_map (λ (tx : TxId). tx.number) (Some by) ≡ open_of (tx_events h) s → by ≡ own h s
own_is h s by mine = let is : by.number ≡ tx_in h s = ap (λ (o : Option ℕ). unwrap_or o 0) mine in ap (λ n. record { number = n }) is

abbrev pub IsOwn : Stores → (session : ℕ) → TxId → Type 0
IsOwn old s by = (h : History) → TableStands old.txs h → option_map (λ (tx : TxId). tx.number) (Some by) ≡ open_of (tx_events h) s
