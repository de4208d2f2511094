-- What is left to a statement that waits is left to it still, whatever others do.
use Rattle.std.proofs.Common.{◌≡◌, ℕ, zero, suc, ◌+◌, ◌<◌, List, [], ◌∷◌, ◌++◌, sym, ◌∙◌, subst, arith, Option, Some, None, slice_get}
use Rattle.history.specs.declared.version.Version.{Version}
use Rattle.history.specs.Transactions.{TxBegan, TxCommitted, TxAborted, next_tx, open_of}
use Rattle.history.specs.Rows.{LeafAdded, RowBorn, RowEnded}
use Rattle.history.specs.History.{Event, History, TxChange, SnapshotChange, RowChange, LockChange, CatalogueChange, tx_events, versions}
use Rattle.soundness.proofs.Presence.{all_more}
use Rattle.statement_steps.specs.Attempts.{IsLeft, CanGoOn}
use Rattle.statement_steps.specs.Gathered.{AreLeft, Found, IsTargetAt, RowsLeft}
use Rattle.statement_steps.specs.Waiting.{Since}
use Rattle.statement_steps.specs.declared.rest.Rest.{Rest}
use Rattle.statement_steps.specs.declared.rest.Rest.TheVariants.{Rows, Detach}
use Rattle.statement_steps.specs.declared.rest.TargetRow.{TargetRow}
use Rattle.statement_steps.proofs.Since.{since_on}

-- ---- versions and transactions stay

got_before : (xs ys : List Version) (k : ℕ) (v : Version) → slice_get xs k ≡ Some v → slice_get (xs ++ ys) k ≡ Some v
got_before [] ys k v e = absurd (let c = e in cc)
got_before (x ∷ xs) ys zero v e = e
got_before (x ∷ xs) ys (suc k) v e = got_before xs ys k v e

version_after : (e : Event) (h : History) (k : ℕ) (v : Version) → slice_get (versions h) k ≡ Some v → slice_get (versions (e ∷ h)) k ≡ Some v
version_after (TxChange e) h k v at = at
version_after (SnapshotChange e) h k v at = at
version_after (RowChange (LeafAdded l)) h k v at = at
version_after (RowChange (RowBorn w)) h k v at = got_before (versions h) (w ∷ []) k v at
version_after (RowChange (RowEnded n e)) h k v at = at
version_after (LockChange e) h k v at = at
version_after (CatalogueChange e) h k v at = at

version_stays : (events h : History) (k : ℕ) (v : Version) → slice_get (versions h) k ≡ Some v → slice_get (versions (events ++ h)) k ≡ Some v
version_stays [] h k v at = at
version_stays (e ∷ events) h k v at = version_after e (events ++ h) k v (version_stays events h k v at)

begun_after : (e : Event) (h : History) (t : ℕ) → t < next_tx (tx_events h) → t < next_tx (tx_events (e ∷ h))
begun_after (TxChange (TxBegan s n)) h t lt = omega (arith, lt)
begun_after (TxChange (TxCommitted s n)) h t lt = lt
begun_after (TxChange (TxAborted s n)) h t lt = lt
begun_after (SnapshotChange e) h t lt = lt
begun_after (RowChange e) h t lt = lt
begun_after (LockChange e) h t lt = lt
begun_after (CatalogueChange e) h t lt = lt

begun_stays : (events h : History) (t : ℕ) → t < next_tx (tx_events h) → t < next_tx (tx_events (events ++ h))
begun_stays [] h t lt = lt
begun_stays (e ∷ events) h t lt = begun_after e (events ++ h) t (begun_stays events h t lt)

target_stays : (events h : History) (g : Found) (t : TargetRow) → IsTargetAt h g t → IsTargetAt (events ++ h) g t
target_stays events h g t its = record { version = its.version; there = version_stays events h t.id.number its.version its.there; leaf = its.leaf; among = its.among }

-- ---- what is left

pub are_left_on : (h k : History) (s : ℕ) (r : RowsLeft) → Since s h k → AreLeft h s r → AreLeft k s r
are_left_on h k s r since its = subst (λ x. AreLeft x s r) (sym since.is) (record {
  begun = begun_stays since.events h r.by.number its.begun;
  still = λ own.
      let after : Since s h (since.events ++ h) = subst (Since s h) since.is since in
      let before = its.still (sym after.same ∙ own) in
      record { earlier = before.earlier; gathered = before.gathered; since = since_on s before.earlier h (since.events ++ h) before.since after };
  rows = all_more (IsTargetAt h r.found) (IsTargetAt (since.events ++ h) r.found) r.left (λ t at. target_stays since.events h r.found t at) its.rows;
})

-- the session's own transaction has ended, or another one of it has begun
pub are_left_over : (events h : History) (s : ℕ) (r : RowsLeft) → (open_of (tx_events (events ++ h)) s ≡ Some r.by.number → ⊥) → AreLeft h s r → AreLeft (events ++ h) s r
are_left_over events h s r over its = record {
  begun = begun_stays events h r.by.number its.begun;
  still = λ own. absurd (over own);
  rows = all_more (IsTargetAt h r.found) (IsTargetAt (events ++ h) r.found) r.left (λ t at. target_stays events h r.found t at) its.rows;
}

pub is_left_on : (h k : History) (s : ℕ) (r : Rest) → Since s h k → IsLeft h s r → IsLeft k s r
is_left_on h k s (Rows r) since its = are_left_on h k s r since its
is_left_on h k s (Detach d) since its = tt

pub goes_on_still : (h k : History) (s : ℕ) (rest : Option Rest) → Since s h k → CanGoOn h s rest → CanGoOn k s rest
goes_on_still h k s None since its = tt
goes_on_still h k s (Some r) since its = is_left_on h k s r since its
