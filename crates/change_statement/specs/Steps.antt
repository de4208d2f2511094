-- What a look at one version gives.
use Rattle.std.specs.Prelude.{◌≡◌, ℕ, ◌<◌, true, length}
use Rattle.pg_values.specs.declared.ids.RowId.{RowId}
use Rattle.tx_table.specs.Kept.{KeptTable}
use Rattle.tx_table.specs.Stands.{sees_now_by}
use Rattle.row_store.specs.Kept.{KeptRows, stored_at}
use Rattle.change_statement.specs.declared.step.Step.{Step}
use Rattle.change_statement.specs.declared.step.Step.TheVariants.{Done, Follow}
use Rattle.change_statement.specs.Verdicts.{Decision, verdict_told, IfChange, IfWait, MayEnd, MayWaitFor}

-- the version that is followed decides
abbrev pub step_told : (next : RowId → Decision) → Step → Decision
step_told next (Done verdict) = verdict_told verdict
step_told next (Follow new) = next new

-- a later version of the same leaf, whose birth the transaction sees
pub record IsLater (txs : KeptTable) (kept : KeptRows) (tx : ℕ) (id new : RowId) : Type 0 where
  pub later : id.number < new.number
  pub known : new.number < length kept.stored
  pub born : sees_now_by txs tx (stored_at kept.stored new).version.by.number ≡ true
  pub leaf : (stored_at kept.stored new).version.leaf ≡ (stored_at kept.stored id).version.leaf

abbrev pub IsStepFit : KeptTable → KeptRows → (tx session : ℕ) → RowId → Step → Type 0
IsStepFit txs kept tx session id (Done verdict) = IfChange verdict (MayEnd txs kept tx id) × IfWait verdict (MayWaitFor txs session)
IsStepFit txs kept tx session id (Follow new) = IsLater txs kept tx id new
