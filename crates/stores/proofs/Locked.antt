-- From the invariant of soundness to the lock table.
use Rattle.std.proofs.Common.{◌≡◌, ℕ, ◌∙◌, sym, subst, arith, true, Some, inl, inr}
use Rattle.std.proofs.lemmas.Bool.Decides.{nat_tests}
use Rattle.pg_values.specs.declared.lock_mode.LockMode.{LockMode}
use Rattle.pg_values.specs.declared.lock_mode.LockMode.TheVariants.{RowExclusive, ShareUpdateExclusive, AccessExclusive}
use Rattle.history.specs.declared.transaction.Fate.TheVariants.{Running}
use Rattle.history.specs.Transactions.{TxEvents, open_of, fate}
use Rattle.history.specs.Locks.{holds}
use Rattle.history.specs.History.{History, tx_events, catalogue_events, lock_events}
use Rattle.history.proofs.Open.{open_runs, open_own}
use Rattle.soundness.specs.Worlds.{same_tx, view}
use Rattle.soundness.specs.Parts.{HoldsBy, OwnsBy, WritesBy, GuardsBy, OwnsIn, WritesIn, GuardsIn}
use Rattle.soundness.proofs.Worlds.{view_world, view_own}
use Rattle.soundness.proofs.All.{legal_keeps_all}
use Rattle.stores.specs.declared.stores.Stores.{Stores}
use Rattle.stores.specs.Stand.{Stands}
use Rattle.stores.proofs.Goodness.{legal_of, permitted_of}
use Rattle.stores.specs.LockLaws.{HasLock, Owns, Writes, Guards, ChangesAreLocked}

-- numbers of one transaction are the same
same_is : (txs : TxEvents) (t q : ℕ) → same_tx txs t q ≡ true → q ≡ t
unfolding same_tx
same_is txs t q is = grind (arith, nat_tests)

-- what the session of the transaction holds by the history it has in the lock table
locked : (stores : Stores) (h : History) (s t x : ℕ) (m : LockMode) → Stands stores h → open_of (tx_events h) s ≡ Some t → HoldsBy (tx_events h) (lock_events h) t x m → HasLock stores s x m
locked stores h s t x m stands opened (other, its, held) =
    let sound = stands.all.txs.sound in
    let same : other ≡ s = sym (open_own (tx_events h) other t sound its) ∙ open_own (tx_events h) s t sound opened in
    stands.all.locks.tells.held s x m ∙ subst (λ (r : ℕ). holds (lock_events h) r x m ≡ true) same held

owned : (stores : Stores) (h : History) (s t x : ℕ) → Stands stores h → open_of (tx_events h) s ≡ Some t → OwnsBy (tx_events h) (catalogue_events h) (lock_events h) t x → Owns stores h s t x
owned stores h s t x stands opened (inl held) = inl (locked stores h s t x AccessExclusive stands opened held)
owned stores h s t x stands opened (inr made) = inr made

written : (stores : Stores) (h : History) (s t x : ℕ) → Stands stores h → open_of (tx_events h) s ≡ Some t → WritesBy (tx_events h) (catalogue_events h) (lock_events h) t x → Writes stores h s t x
written stores h s t x stands opened (inl held) = inl (locked stores h s t x RowExclusive stands opened held)
written stores h s t x stands opened (inr owns) = inr (owned stores h s t x stands opened owns)

guarded : (stores : Stores) (h : History) (s t x : ℕ) → Stands stores h → open_of (tx_events h) s ≡ Some t → GuardsBy (tx_events h) (catalogue_events h) (lock_events h) t x → Guards stores h s t x
guarded stores h s t x stands opened (inl held) = inl (locked stores h s t x ShareUpdateExclusive stands opened held)
guarded stores h s t x stands opened (inr owns) = inr (owned stores h s t x stands opened owns)

-- the same of what the transaction has in its own world
owns_in : (stores : Stores) (h : History) (s t x : ℕ) → Stands stores h → open_of (tx_events h) s ≡ Some t → OwnsIn h (view (tx_events h) t) t x → Owns stores h s t x
owns_in stores h s t x stands opened (q, same, counts, by) =
    owned stores h s t x stands opened (subst (λ (k : ℕ). OwnsBy (tx_events h) (catalogue_events h) (lock_events h) k x) (same_is (tx_events h) t q same) by)

writes_in : (stores : Stores) (h : History) (s t x : ℕ) → Stands stores h → open_of (tx_events h) s ≡ Some t → WritesIn h (view (tx_events h) t) t x → Writes stores h s t x
writes_in stores h s t x stands opened (q, same, counts, by) =
    written stores h s t x stands opened (subst (λ (k : ℕ). WritesBy (tx_events h) (catalogue_events h) (lock_events h) k x) (same_is (tx_events h) t q same) by)

guards_in : (stores : Stores) (h : History) (s t x : ℕ) → Stands stores h → open_of (tx_events h) s ≡ Some t → GuardsIn h (view (tx_events h) t) t x → Guards stores h s t x
guards_in stores h s t x stands opened (q, same, counts, by) =
    guarded stores h s t x stands opened (subst (λ (k : ℕ). GuardsBy (tx_events h) (catalogue_events h) (lock_events h) k x) (same_is (tx_events h) t q same) by)

pub changes_are_locked : ChangesAreLocked
changes_are_locked stores h s t stands is =
    let txs = tx_events h in
    let opened : open_of txs s ≡ Some t = sym (stands.all.txs.current s) ∙ is in
    let runs : fate txs t ≡ Running = (open_runs txs s t stands.all.txs.sound opened).runs in
    let own : view txs t t ≡ true = view_own txs t runs in
    let world = view_world txs t in
    let i = legal_keeps_all h (legal_of h stands.good) (permitted_of h stands.good) in
    let runs_too : (k : ℕ) → k ≡ t → fate txs k ≡ Running = λ k same. subst (λ (n : ℕ). fate txs n ≡ Running) (sym same) runs in
    let counts_too : (k : ℕ) → k ≡ t → view txs t k ≡ true = λ k same. subst (λ (n : ℕ). view txs t n ≡ true) (sym same) own in
    record {
      born = λ v x at by leaf. writes_in stores h s t x stands opened (subst (λ (k : ℕ). WritesIn h (view txs t) k x) by (i.open_versions.born (view txs t) v x world at leaf (runs_too v.by.number by) (counts_too v.by.number by)));
      ended = λ v y x at end by leaf. writes_in stores h s t x stands opened (subst (λ (k : ℕ). WritesIn h (view txs t) k x) by (i.open_versions.ended (view txs t) v y x world at leaf end (runs_too y.by.number by) (counts_too y.by.number by)));
      added = λ e at by. guards_in stores h s t e.parent.number stands opened (subst (λ (k : ℕ). GuardsIn h (view txs t) k e.parent.number) by (i.open_entries.added (view txs t) e world at (runs_too e.by.number by) (counts_too e.by.number by)));
      below = λ e n x at by under. owns_in stores h s t x stands opened (subst (λ (k : ℕ). OwnsIn h (view txs t) k x) by (i.open_entries.below (view txs t) e n x world at (runs_too e.by.number by) (counts_too e.by.number by) under));
      parted = λ e at end. guards_in stores h s t e.parent.number stands opened (i.open_entries.ended (view txs t) e t world at end runs own);
      marked = λ e at mark. guards_in stores h s t e.parent.number stands opened (i.open_entries.marked (view txs t) e t world at mark runs own);
      dropped = λ x at. owns_in stores h s t x stands opened (i.open_entries.dropped (view txs t) x t world at runs own);
    }
