-- Versions that are followed, and the one that decides.
use Rattle.std.proofs.Common.{◌≡◌, ℕ, zero, suc, ◌+◌, ◌<◌, ◌≤◌, ◌==◌, ◌||◌, Bool, true, false, slice_get, slice_index_or, refl, sym, ap, ◌∙◌, arith}
use Rattle.pg_values.specs.declared.ids.RowId.{RowId}
use Rattle.history.specs.declared.transaction.Fate.TheVariants.{Running}
use Rattle.history.specs.declared.transaction.TxId.{TxId}
use Rattle.history.specs.Transactions.{is_committed}
use Rattle.history.specs.History.{History, versions, next_version, outcome}
use Rattle.tx_table.specs.Kept.{KeptTable}
use Rattle.row_store.specs.declared.newest.Newest.TheVariants.{Replaced}
use Rattle.row_store.specs.Kept.{KeptRows, stored_at}
use Rattle.row_store.specs.Told.{IsToldKnown}
use Rattle.change_statement.specs.declared.verdicts.Verdict.{Verdict}
use Rattle.change_statement.specs.declared.verdicts.Verdict.TheVariants.{Change, Pass, Wait, Refuse}
use Rattle.change_statement.specs.Steps.{IsLater}
use Rattle.change_statement.specs.Verdicts.{UpdaterMeant, Decision, PassesBy, by_outcome, decided, decided_within, is_born, verdict_told, IfChange, MayEnd}

-- a version that replaces another one may be followed
pub later_known : (txs : KeptTable) (kept : KeptRows) (me : ℕ) (id new : RowId) (tx : TxId) → IsToldKnown txs kept id (Replaced tx new) → IsLater txs kept me id new
later_known txs kept me id new tx told =
    let sees : TxId → Bool = λ t. is_committed (slice_index_or txs.fates t.number Running) || (t.number == me) in
    let committed = told.4 in
    record {
      later = told.0;
      known = told.1;
      born = ap sees told.3 ∙ rw committed refl;
      leaf = told.2;
    }

-- so many versions may still be looked at, the one that is looked at among them, and it decides
pub record Decides (h : History) (u : UpdaterMeant) (target : RowId) (count : ℕ) (again : Bool) (version : RowId) : Type 0 where
  pub left : ℕ
  pub enough : count ≤ left + version.number
  pub same : decided_within left h u again version ≡ decided_within (next_version h) h u false target

pub first_decides : (h : History) (u : UpdaterMeant) (target : RowId) (count : ℕ) → count ≡ next_version h → Decides h u target count false target
first_decides h u target count is = record { left = next_version h; enough = omega (arith, is); same = refl }

followed_within : (h : History) (u : UpdaterMeant) (target version new : RowId) (count : ℕ) (again : Bool) → version.number < count → version.number < new.number → ((next : RowId → Decision) → next new ≡ by_outcome next h u again version (outcome h version.number))
    → (left : ℕ) → count ≤ left + version.number → decided_within left h u again version ≡ decided_within (next_version h) h u false target → Decides h u target count true new
followed_within h u target version new count again known later told zero enough same = absurd (omega (arith, known, enough))
followed_within h u target version new count again known later told (suc n) enough same = record { left = n; enough = omega (arith, later, enough); same = told (decided_within n h u true) ∙ same }

pub followed_decides : (h : History) (u : UpdaterMeant) (target version new : RowId) (count : ℕ) (again : Bool) → version.number < count → version.number < new.number → ((next : RowId → Decision) → next new ≡ by_outcome next h u again version (outcome h version.number))
    → Decides h u target count again version → Decides h u target count true new
followed_decides h u target version new count again known later told d = followed_within h u target version new count again known later told d.left d.enough d.same

decided_now : (h : History) (u : UpdaterMeant) (target version : RowId) (count : ℕ) (again : Bool) (v : Verdict) → version.number < count → ((next : RowId → Decision) → verdict_told v ≡ by_outcome next h u again version (outcome h version.number))
    → (left : ℕ) → count ≤ left + version.number → decided_within left h u again version ≡ decided_within (next_version h) h u false target → verdict_told v ≡ decided_within (next_version h) h u false target
decided_now h u target version count again v known told zero enough same = absurd (omega (arith, known, enough))
decided_now h u target version count again v known told (suc n) enough same = told (decided_within n h u true) ∙ same

pub done_decided : (h : History) (u : UpdaterMeant) (target version : RowId) (count : ℕ) (again : Bool) (v : Verdict) → true ≡ is_born h u.tx (slice_get (versions h) target.number) → version.number < count
    → ((next : RowId → Decision) → verdict_told v ≡ by_outcome next h u again version (outcome h version.number)) → Decides h u target count again version → verdict_told v ≡ decided h u target
done_decided h u target version count again v born known told d = let b = sym born in rw b (decided_now h u target version count again v known told d.left d.enough d.same)

pub unborn_decided : (h : History) (u : UpdaterMeant) (target : RowId) → false ≡ is_born h u.tx (slice_get (versions h) target.number) → PassesBy ≡ decided h u target
unborn_decided h u target born = let b = sym born in rw b refl

-- the version that is ended has the leaf of the target
pub ends_for : (txs : KeptTable) (kept : KeptRows) (tx : ℕ) (target version : RowId) (v : Verdict) → (stored_at kept.stored version).version.leaf ≡ (stored_at kept.stored target).version.leaf → IfChange v (MayEnd txs kept tx version) → IfChange v (MayEnd txs kept tx target)
ends_for txs kept tx target version (Change seen) same may = record { known = may.known; standing = may.standing; born = may.born; leaf = may.leaf ∙ same; row = may.row }
ends_for txs kept tx target version Pass same may = tt
ends_for txs kept tx target version (Wait session) same may = tt
ends_for txs kept tx target version (Refuse conflict) same may = tt
