-- A table that is there for a transaction was made by nobody else who still runs.
use Rattle.std.proofs.Common.{◌≡◌, ℕ, ◌==◌, ◌&&◌, true, Some, ap, sym, ◌∙◌, arith}
use Rattle.std.proofs.lemmas.Grind.{common_steps}
use Rattle.std.proofs.lemmas.Bool.Decides.{nat_tests}
use Rattle.history.specs.declared.transaction.Fate.TheVariants.{Running}
use Rattle.history.specs.Transactions.{TxEvents, fate}
use Rattle.history.specs.History.{tx_events, catalogue_events}
use Rattle.soundness.specs.Worlds.{same_tx, view, table_in}
use Rattle.legal_statements.specs.Laws.{ThereIsKnown}

-- who runs and counts for the transaction is that transaction
own_running : (txs : TxEvents) (t k : ℕ) → view txs t k ≡ true → fate txs k ≡ Running → k ≡ t
unfolding same_tx
own_running txs t k counts runs =
    let both : ((k == t) && true) ≡ true = rw runs at counts in
    grind (arith, common_steps, nat_tests, both)

pub there_is_known : ThereIsKnown
there_is_known h session t x own there = (there.0, λ runs. own ∙ ap (λ k. Some k) (sym (own_running (tx_events h) t (table_in (catalogue_events h) x).by.number there.1 runs)))
