use Rattle.std.proofs.Common.{◌≡◌, ℕ, ◌&&◌, nat_lt}
use Rattle.pg_values.specs.Sets.{has}
use Rattle.history.specs.History.{History}
use Rattle.tx_table.specs.Stands.{TableStands}
use Rattle.alter_table.specs.Finalized.{is_unseeing}
use Rattle.alter_table.proofs.finalizing.all_unseeing.Given as goal

-- of the sessions so far those whose snapshot does not see it
abbrev pub invariant-loop-other : goal.invariant-loop-other
invariant-loop-other l = (h : History) → TableStands l.txs h → (k : ℕ) → has l.others k ≡ (nat_lt k l.other && is_unseeing h l.session l.by k)
