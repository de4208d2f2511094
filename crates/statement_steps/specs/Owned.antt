-- By whom, and by which command, a statement does what it does.
use Rattle.std.specs.Prelude.{ℕ}
use Rattle.history.specs.declared.transaction.TxId.{TxId}
use Rattle.history.specs.History.{History}
use Rattle.history.specs.declared.catalogue.Stamp.{Stamp}
use Rattle.stores.specs.Events.{tx_in}
use Rattle.statement_steps.specs.declared.caller.Caller.{Caller}

abbrev pub own : History → (session : ℕ) → TxId
own h s = record { number = tx_in h s }

abbrev pub stamp : Caller → History → Stamp
stamp caller h = record { by = own h caller.session; cmd = caller.cmd }
