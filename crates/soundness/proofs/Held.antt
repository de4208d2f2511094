-- What transactions hold, in a world.
use Rattle.std.proofs.Common.{◌≡◌, ℕ, true, false, inl, inr, refl, ap, sym, subst, ◌∙◌, Some}
use Rattle.pg_values.specs.declared.lock_mode.LockMode.{LockMode}
use Rattle.pg_values.specs.declared.lock_mode.LockMode.TheVariants.{RowExclusive, ShareUpdateExclusive, AccessExclusive}
use Rattle.pg_values.specs.Modes.{conflicts}
use Rattle.history.specs.declared.transaction.Fate.TheVariants.{Running}
use Rattle.history.specs.Transactions.{TxEvents, open_of, fate, IsRunning}
use Rattle.history.specs.Catalogue.{CatalogueEvents}
use Rattle.history.specs.Locks.{LockEvents}
use Rattle.history.specs.History.{History, tx_events, catalogue_events, lock_events}
use Rattle.soundness.specs.Worlds.{World, same_tx, IsWorld, view}
use Rattle.soundness.specs.Parts.{HoldsBy, IsMaker, OwnsBy, WritesBy, GuardsBy, LocksApart, Owns, Writes, Guards, OwnsIn, WritesIn, GuardsIn, InvariantOf}
use Rattle.soundness.proofs.Worlds.{both_ways, same_refl, inside, other_sym, same_false, runs_too}

-- ---- two transactions that run hold no modes that conflict

same_clash : (txs : TxEvents) (q r : ℕ) → q ≡ r → same_tx txs q r ≡ false → ⊥
same_clash txs q r is other = both_ways (same_tx txs q r) (subst (λ z. same_tx txs q z ≡ true) is (same_refl txs q)) other

one_open : (txs : TxEvents) (s q r : ℕ) → open_of txs s ≡ Some q → open_of txs s ≡ Some r → q ≡ r
one_open txs s q r a b = let both : Some q ≡ Some r = sym a ∙ b in cc

holders_clash : (txs : TxEvents) (cats : CatalogueEvents) (locks : LockEvents) (q r x : ℕ) (m n : LockMode) → LocksApart txs cats locks → same_tx txs q r ≡ false → conflicts m n ≡ true → HoldsBy txs locks q x m → HoldsBy txs locks r x n → ⊥
holders_clash txs cats locks q r x m n apart other conflict (s, os, hs) (z, oz, hz) =
    both_ways (conflicts m n) conflict (apart.apart s z x m n (λ same. same_clash txs q r (one_open txs s q r os (ap (open_of txs) same ∙ oz)) other) hs hz)

holder_maker : (txs : TxEvents) (cats : CatalogueEvents) (locks : LockEvents) (q r x : ℕ) (m : LockMode) → LocksApart txs cats locks → fate txs r ≡ Running → same_tx txs q r ≡ false → HoldsBy txs locks q x m → IsMaker cats r x → ⊥
holder_maker txs cats locks q r x m apart runs other (s, os, hs) (made, by) =
    let its = (apart.known s x m hs).1 (ap (fate txs) by ∙ runs) in
    same_clash txs q r (one_open txs s q r os (its ∙ ap (λ z. Some z) by)) other

owner_holder : (txs : TxEvents) (cats : CatalogueEvents) (locks : LockEvents) (q r x : ℕ) (n : LockMode) → LocksApart txs cats locks → fate txs q ≡ Running → same_tx txs q r ≡ false → conflicts AccessExclusive n ≡ true → OwnsBy txs cats locks q x → HoldsBy txs locks r x n → ⊥
owner_holder txs cats locks q r x n apart runs other conflict (inl l) h = holders_clash txs cats locks q r x AccessExclusive n apart other conflict l h
owner_holder txs cats locks q r x n apart runs other conflict (inr made) h = holder_maker txs cats locks r q x n apart runs (other_sym txs q r other) h made

owner_owner : (txs : TxEvents) (cats : CatalogueEvents) (locks : LockEvents) (q r x : ℕ) → LocksApart txs cats locks → fate txs q ≡ Running → fate txs r ≡ Running → same_tx txs q r ≡ false → OwnsBy txs cats locks q x → OwnsBy txs cats locks r x → ⊥
owner_owner txs cats locks q r x apart rq rr other o (inl l) = owner_holder txs cats locks q r x AccessExclusive apart rq other refl o l
owner_owner txs cats locks q r x apart rq rr other (inl l) (inr made) = holder_maker txs cats locks q r x AccessExclusive apart rr other l made
owner_owner txs cats locks q r x apart rq rr other (inr mine) (inr made) = same_clash txs q r (sym mine.1 ∙ made.1) other

owner_writer : (txs : TxEvents) (cats : CatalogueEvents) (locks : LockEvents) (q r x : ℕ) → LocksApart txs cats locks → fate txs q ≡ Running → fate txs r ≡ Running → same_tx txs q r ≡ false → OwnsBy txs cats locks q x → WritesBy txs cats locks r x → ⊥
owner_writer txs cats locks q r x apart rq rr other o (inl l) = owner_holder txs cats locks q r x RowExclusive apart rq other refl o l
owner_writer txs cats locks q r x apart rq rr other o (inr also) = owner_owner txs cats locks q r x apart rq rr other o also

two_guards : (txs : TxEvents) (cats : CatalogueEvents) (locks : LockEvents) (q r x : ℕ) → LocksApart txs cats locks → fate txs q ≡ Running → fate txs r ≡ Running → same_tx txs q r ≡ false → GuardsBy txs cats locks q x → GuardsBy txs cats locks r x → ⊥
two_guards txs cats locks q r x apart rq rr other (inl l) (inl h) = holders_clash txs cats locks q r x ShareUpdateExclusive ShareUpdateExclusive apart other refl l h
two_guards txs cats locks q r x apart rq rr other (inl l) (inr o) = owner_holder txs cats locks r q x ShareUpdateExclusive apart rr (other_sym txs q r other) refl o l
two_guards txs cats locks q r x apart rq rr other (inr o) (inl h) = owner_holder txs cats locks q r x ShareUpdateExclusive apart rq other refl o h
two_guards txs cats locks q r x apart rq rr other (inr o) (inr also) = owner_owner txs cats locks q r x apart rq rr other o also

pub no_write : (txs : TxEvents) (cats : CatalogueEvents) (locks : LockEvents) (w : World) (t u x : ℕ) → LocksApart txs cats locks → IsWorld txs w → fate txs t ≡ Running → fate txs u ≡ Running → same_tx txs t u ≡ false
    → Owns txs cats locks w t x → Writes txs cats locks w u x → ⊥
no_write txs cats locks w t u x apart world rt ru other (q, sq, wq, o) (r, sr, wr, h) =
    owner_writer txs cats locks q r x apart (runs_too txs w t q world rt sq wq) (runs_too txs w u r world ru sr wr) (same_false txs t u q r sq sr other) o h

pub no_guard : (txs : TxEvents) (cats : CatalogueEvents) (locks : LockEvents) (w : World) (t u x : ℕ) → LocksApart txs cats locks → IsWorld txs w → fate txs t ≡ Running → fate txs u ≡ Running → same_tx txs t u ≡ false
    → Guards txs cats locks w t x → Guards txs cats locks w u x → ⊥
no_guard txs cats locks w t u x apart world rt ru other (q, sq, wq, o) (r, sr, wr, h) =
    two_guards txs cats locks q r x apart (runs_too txs w t q world rt sq wq) (runs_too txs w u r world ru sr wr) (same_false txs t u q r sq sr other) o h

pub owns_guards : (txs : TxEvents) (cats : CatalogueEvents) (locks : LockEvents) (w : World) (t x : ℕ) → Owns txs cats locks w t x → Guards txs cats locks w t x
owns_guards txs cats locks w t x (q, s, c, o) = (q, s, c, inr o)

-- what whoever acts holds, it holds in each world that it is in
pub owns_up : (txs : TxEvents) (cats : CatalogueEvents) (locks : LockEvents) (w : World) (t x : ℕ) → IsWorld txs w → IsRunning txs t → w t ≡ true → Owns txs cats locks (view txs t) t x → Owns txs cats locks w t x
owns_up txs cats locks w t x world acts own (q, s, c, o) = (q, s, inside txs w t world acts own q c, o)

pub writes_up : (txs : TxEvents) (cats : CatalogueEvents) (locks : LockEvents) (w : World) (t x : ℕ) → IsWorld txs w → IsRunning txs t → w t ≡ true → Writes txs cats locks (view txs t) t x → Writes txs cats locks w t x
writes_up txs cats locks w t x world acts own (q, s, c, o) = (q, s, inside txs w t world acts own q c, o)

pub guards_up : (txs : TxEvents) (cats : CatalogueEvents) (locks : LockEvents) (w : World) (t x : ℕ) → IsWorld txs w → IsRunning txs t → w t ≡ true → Guards txs cats locks (view txs t) t x → Guards txs cats locks w t x
guards_up txs cats locks w t x world acts own (q, s, c, o) = (q, s, inside txs w t world acts own q c, o)

-- the same of a history

pub clash_write : (h : History) (w : World) (t u x : ℕ) → InvariantOf h → IsWorld (tx_events h) w → fate (tx_events h) t ≡ Running → fate (tx_events h) u ≡ Running → same_tx (tx_events h) t u ≡ false → OwnsIn h w t x → WritesIn h w u x → ⊥
clash_write h w t u x i world rt ru other o v = no_write (tx_events h) (catalogue_events h) (lock_events h) w t u x i.locks_apart world rt ru other o v

pub clash : (h : History) (w : World) (t u x : ℕ) → InvariantOf h → IsWorld (tx_events h) w → fate (tx_events h) t ≡ Running → fate (tx_events h) u ≡ Running → same_tx (tx_events h) t u ≡ false → GuardsIn h w t x → GuardsIn h w u x → ⊥
clash h w t u x i world rt ru other o v = no_guard (tx_events h) (catalogue_events h) (lock_events h) w t u x i.locks_apart world rt ru other o v

pub guarding : (h : History) (w : World) (t x : ℕ) → OwnsIn h w t x → GuardsIn h w t x
guarding h w t x o = owns_guards (tx_events h) (catalogue_events h) (lock_events h) w t x o

pub own_here : (h : History) (w : World) (t x : ℕ) → IsWorld (tx_events h) w → IsRunning (tx_events h) t → w t ≡ true → OwnsIn h (view (tx_events h) t) t x → OwnsIn h w t x
own_here h w t x world acts own o = owns_up (tx_events h) (catalogue_events h) (lock_events h) w t x world acts own o

pub write_here : (h : History) (w : World) (t x : ℕ) → IsWorld (tx_events h) w → IsRunning (tx_events h) t → w t ≡ true → WritesIn h (view (tx_events h) t) t x → WritesIn h w t x
write_here h w t x world acts own o = writes_up (tx_events h) (catalogue_events h) (lock_events h) w t x world acts own o

pub guard_here : (h : History) (w : World) (t x : ℕ) → IsWorld (tx_events h) w → IsRunning (tx_events h) t → w t ≡ true → GuardsIn h (view (tx_events h) t) t x → GuardsIn h w t x
guard_here h w t x world acts own o = guards_up (tx_events h) (catalogue_events h) (lock_events h) w t x world acts own o
