-- Of good histories: they are legal and permitted, and what is held is of who holds it.
use Rattle.std.proofs.Common.{◌≡◌, ℕ, arith, ◌==◌, Bool, true, false, if◌then◌else◌, [], ◌∷◌, refl, sym, ap, ◌∙◌, ◌⊎◌, inl, inr, Option, Some, None}
use Rattle.std.proofs.lemmas.Bool.Decides.{nat_tests}
use Rattle.history.specs.Transactions.{TxEvents, TxBegan, TxCommitted, TxAborted, open_of}
use Rattle.history.specs.Snapshots.{TakenSnapshot, SnapshotHeld, SnapshotDropped, held_by}
use Rattle.history.specs.History.{History, TxChange, SnapshotChange, RowChange, LockChange, CatalogueChange, tx_events, snapshot_events}
use Rattle.history.specs.Legal.{IsNotAfter, IsInOrder, IsLegal}
use Rattle.soundness.specs.Legal.{ArePermitted}
use Rattle.stores.specs.Good.{IsGood}

pub legal_of : (h : History) → IsGood h → IsLegal h
legal_of [] good = tt
legal_of (e ∷ h) good = (good.0.legal, good.0.in_order, legal_of h good.1)

pub permitted_of : (h : History) → IsGood h → ArePermitted h
permitted_of [] good = tt
permitted_of (e ∷ h) good = (good.0.permitted, permitted_of h good.1)

-- ---- an event that names no command stands in order

not_after : (c : Option (ℕ × ℕ)) → IsNotAfter c None
not_after None = tt
not_after (Some (t, m)) = tt

pub none_in_order : (h : History) → IsInOrder None h
none_in_order [] = tt
none_in_order (e ∷ h) = (not_after _, none_in_order h)

-- ---- what is held

none_or_some : (o : Option ℕ) (t : ℕ) → o ≡ None → o ≡ Some t → ⊥
none_or_some o t none some = cc

held_or_none : (o : Option TakenSnapshot) (s : TakenSnapshot) → o ≡ None → o ≡ Some s → ⊥
held_or_none o s none some = cc

-- the one of two that a test picks
picked : {A : Type 0} (b : Bool) (new : Option A) (old : Option A) (x : A) → (if b then new else old) ≡ Some x → ((b ≡ true) × (new ≡ Some x)) ⊎ ((b ≡ false) × (old ≡ Some x))
picked true new old x e = inl (refl, e)
picked false new old x e = inr (refl, e)

pub if_self : {A : Type 0} (s : ℕ) (a b : A) → (if s == s then a else b) ≡ a
if_self s a b = let same : (s == s) ≡ true = grind (arith, nat_tests) in rw same refl

pub same_session : (q r : ℕ) → (q == r) ≡ true → q ≡ r
same_session q r e = grind (arith, nat_tests)

-- a session that has a transaction goes on to have it where another one's begins or ends
still_open : (b : Bool) (new old : Option ℕ) (t : ℕ) → b ≡ false → old ≡ Some t → (if b then new else old) ≡ Some t
still_open true new old t other e = absurd (cc)
still_open false new old t other e = e

ended_held : (txs : TxEvents) (held : ℕ → Option TakenSnapshot) (q r : ℕ) (s : TakenSnapshot) → held q ≡ None → held r ≡ Some s → open_of txs r ≡ Some s.tx → (b : Bool) → (q == r) ≡ b → (if b then None else open_of txs r) ≡ Some s.tx
ended_held txs held q r s free e own true same = absurd (held_or_none (held q) s free (ap held (same_session q r same) ∙ e))
ended_held txs held q r s free e own false other = own

begun_held : (txs : TxEvents) (q r n : ℕ) (s : TakenSnapshot) → open_of txs q ≡ None → open_of txs r ≡ Some s.tx → (b : Bool) → (q == r) ≡ b → (if b then Some n else open_of txs r) ≡ Some s.tx
begun_held txs q r n s free own true same = absurd (none_or_some (open_of txs q) s.tx free (ap (open_of txs) (same_session q r same) ∙ own))
begun_held txs q r n s free own false other = own

new_held : (txs : TxEvents) (q r : ℕ) (x s : TakenSnapshot) → open_of txs q ≡ Some x.tx → (q == r) ≡ true → Some x ≡ Some s → open_of txs r ≡ Some s.tx
new_held txs q r x s own same e =
    let is : x ≡ s = cc in
    let at : r ≡ q = sym (same_session q r same) in
    ap (open_of txs) at ∙ (own ∙ ap (λ (z : TakenSnapshot). Some z.tx) is)

none_picked : (s : TakenSnapshot) → None ≡ Some s → ⊥
none_picked s e = cc

pub held_own : (h : History) (r : ℕ) (s : TakenSnapshot) → IsGood h → held_by (snapshot_events h) r ≡ Some s → open_of (tx_events h) r ≡ Some s.tx
held_own [] r s good e = absurd (none_picked s e)
held_own (TxChange (TxBegan q n) ∷ h) r s good e = begun_held (tx_events h) q r n s good.0.legal.1 (held_own h r s good.1 e) (q == r) refl
held_own (TxChange (TxCommitted q n) ∷ h) r s good e = ended_held (tx_events h) (held_by (snapshot_events h)) q r s good.0.released e (held_own h r s good.1 e) (q == r) refl
held_own (TxChange (TxAborted q n) ∷ h) r s good e = ended_held (tx_events h) (held_by (snapshot_events h)) q r s good.0.released e (held_own h r s good.1 e) (q == r) refl
held_own (SnapshotChange (SnapshotHeld q x) ∷ h) r s good e =
    elim (picked (q == r) (Some x) (held_by (snapshot_events h) r) s e) [
      | inl new ↦ new_held (tx_events h) q r x s good.0.legal.0.own new.0 new.1
      | inr old ↦ held_own h r s good.1 old.1
    ]
held_own (SnapshotChange (SnapshotDropped q) ∷ h) r s good e =
    elim (picked (q == r) None (held_by (snapshot_events h) r) s e) [
      | inl gone ↦ absurd (none_picked s gone.1)
      | inr old ↦ held_own h r s good.1 old.1
    ]
held_own (RowChange e' ∷ h) r s good e = held_own h r s good.1 e
held_own (LockChange e' ∷ h) r s good e = held_own h r s good.1 e
held_own (CatalogueChange e' ∷ h) r s good e = held_own h r s good.1 e
