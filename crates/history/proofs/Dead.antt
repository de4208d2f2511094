-- Dead row versions are unseen, and stay dead.
use Rattle.std.proofs.Common.{◌≡◌, ◌≢◌, ℕ, ◌==◌, ◌&&◌, ◌||◌, not, nat_lt, arith, Bool, true, false, if◌then◌else◌, [], ◌∷◌, inl, inr, refl, ap, sym, ◌∙◌, Option, Some, None}
use Rattle.std.proofs.lemmas.Bool.{cases_Bool}
use Rattle.std.proofs.lemmas.Bool.Decides.{nat_tests}
use Rattle.history.specs.declared.transaction.Fate.{Fate}
use Rattle.history.specs.declared.transaction.Fate.TheVariants.{Running, Aborted}
use Rattle.history.specs.declared.version.Version.{Version}
use Rattle.history.specs.declared.version.End.{End}
use Rattle.history.specs.Transactions.{TxEvents, TxEvent, fate, was_aborted, is_committed, IsSound}
use Rattle.history.specs.Snapshots.{TakenSnapshot, SnapshotHeld, SnapshotDropped, sees, held_by}
use Rattle.history.specs.Rows.{RowEvents, LeafAdded, RowBorn, RowEnded, end_in}
use Rattle.history.specs.History.{History, TxChange, SnapshotChange, RowChange, LockChange, CatalogueChange, tx_events, snapshot_events, row_events, end_of, sees_end, is_seen}
use Rattle.history.specs.RowsSound.{IsEndSound}
use Rattle.history.specs.Legal.{IsTimely, IsHoldSound}
use Rattle.history.specs.Dead.{if_held, is_held_seen, is_over, IsDead, DeadAreUnseen, DeadStayDead}
use Rattle.history.proofs.Open.{open_runs}
use Rattle.history.proofs.Settled.{AbortsStay, aborts_stay, settled, stands_free}

-- ---- what is dead is unseen

or_false : (a : Bool) → (a || false) ≡ a
or_false true = refl
or_false false = refl

or_left : (a b : Bool) → (a || b) ≡ false → a ≡ false
or_left true b e = absurd (cc)
or_left false b e = refl

-- what another transaction did is seen where it is committed
sees_other : (txs : TxEvents) (s : TakenSnapshot) (t c : ℕ) → (t == s.tx) ≡ false → sees txs s t c ≡ is_committed (fate s.past t)
sees_other txs s t c other = ap (λ b. is_committed (fate s.past t) || (b && nat_lt c s.cmd)) other ∙ or_false (is_committed (fate s.past t))

-- who has ended is not who runs
pub ended_other : (txs : TxEvents) (t me : ℕ) → fate txs me ≡ Running → fate txs t ≢ Running → (t == me) ≡ false
ended_other txs t me runs over = elim (cases_Bool (t == me)) [
  | inl same ↦
      let is : t ≡ me = grind (arith, nat_tests, same) in
      absurd (over (ap (fate txs) is ∙ runs))
  | inr other ↦ other
]

pub aborted_over : (txs : TxEvents) (t : ℕ) → was_aborted txs t ≡ true → fate txs t ≡ Aborted
aborted_over txs t was = rw was refl

pub aborted_ended : (f : Fate) → f ≡ Aborted → f ≢ Running
aborted_ended f e r = let both : Aborted ≡ Running = sym e ∙ r in cc

pub committed_ended : (f : Fate) → is_committed f ≡ true → f ≢ Running
committed_ended f e r = let off : false ≡ true = ap is_committed (sym r) ∙ e in cc

-- an end that is committed is one
pub over_is : (txs : TxEvents) (o : Option End) → is_over txs o ≡ true → (e : End) × (o ≡ Some e) × (is_committed (fate txs e.by.number) ≡ true)
over_is txs None over = absurd (cc)
over_is txs (Some e) over = (e, refl, over)

-- the birth of a version that was undone
birth_unseen : (h : History) (r : ℕ) (s : TakenSnapshot) (v : Version) (o : Option TakenSnapshot) → held_by (snapshot_events h) r ≡ o → fate (tx_events h) s.tx ≡ Running → IsTimely o (tx_events h) s → was_aborted (tx_events h) v.by.number ≡ true
    → if_held (λ x. sees (tx_events h) x v.by.number v.cmd) o ≡ false → sees (tx_events h) s v.by.number v.cmd ≡ false
birth_unseen h r s v o is runs timely was none =
    let txs = tx_events h in
    let other = ended_other txs v.by.number s.tx runs (aborted_ended _ (aborted_over txs v.by.number was)) in
    sees_other txs s v.by.number v.cmd other ∙ at o timely none
  where
    now : s.past ≡ tx_events h → is_committed (fate s.past v.by.number) ≡ false
    now e = ap (λ p. is_committed (fate p v.by.number)) e ∙ ap is_committed (aborted_over (tx_events h) v.by.number was)

    at : (o : Option TakenSnapshot) → IsTimely o (tx_events h) s → if_held (λ x. sees (tx_events h) x v.by.number v.cmd) o ≡ false → is_committed (fate s.past v.by.number) ≡ false
    at None timely none = now timely
    at (Some old) (inl e) none = now e
    at (Some old) (inr same) none = ap (λ p. is_committed (fate p v.by.number)) same.0 ∙ or_left (is_committed (fate old.past v.by.number)) _ none

-- a version whose end is committed
end_seen : (h : History) (s : TakenSnapshot) (v : Version) (e : End) (o : Option TakenSnapshot) → fate (tx_events h) s.tx ≡ Running → IsTimely o (tx_events h) s → is_committed (fate (tx_events h) v.by.number) ≡ true → end_of h v.id.number ≡ Some e
    → is_committed (fate (tx_events h) e.by.number) ≡ true → if_held (λ x. is_seen h x v) o ≡ false → is_seen h s v ≡ false
end_seen h s v e o runs timely born is over none = at o timely none
  where
    whole : (x : TakenSnapshot) → x.tx ≡ s.tx → is_seen h x v ≡ (is_committed (fate x.past v.by.number) && not (is_committed (fate x.past e.by.number)))
    whole x own =
        let txs = tx_events h in
        let maker : (v.by.number == x.tx) ≡ false = ap (λ t. v.by.number == t) own ∙ ended_other txs v.by.number s.tx runs (committed_ended _ born) in
        let ender : (e.by.number == x.tx) ≡ false = ap (λ t. e.by.number == t) own ∙ ended_other txs e.by.number s.tx runs (committed_ended _ over) in
        ap (λ o. sees txs x v.by.number v.cmd && not (sees_end txs x o)) is
        ∙ ap (λ b. b && not (sees txs x e.by.number e.cmd)) (sees_other txs x v.by.number v.cmd maker)
        ∙ ap (λ b. is_committed (fate x.past v.by.number) && not b) (sees_other txs x e.by.number e.cmd ender)

    left_out : (b : Bool) → (b && false) ≡ false
    left_out true = refl
    left_out false = refl

    now : s.past ≡ tx_events h → is_seen h s v ≡ false
    now past =
        whole s refl
        ∙ ap (λ b. is_committed (fate s.past v.by.number) && not b) (ap (λ p. is_committed (fate p e.by.number)) past ∙ over)
        ∙ left_out (is_committed (fate s.past v.by.number))

    at : (o : Option TakenSnapshot) → IsTimely o (tx_events h) s → if_held (λ x. is_seen h x v) o ≡ false → is_seen h s v ≡ false
    at None timely none = now timely
    at (Some old) (inl past) none = now past
    at (Some old) (inr same) none =
        whole s refl
        ∙ ap (λ p. is_committed (fate p v.by.number) && not (is_committed (fate p e.by.number))) same.0
        ∙ sym (whole old (sym same.1))
        ∙ none

unseen_by : (h : History) (r : ℕ) (s : TakenSnapshot) (v : Version) → IsSound (tx_events h) → IsHoldSound r s h → IsDead h v → is_seen h s v ≡ false
unseen_by h r s v sound hold dead =
    let runs = (open_runs (tx_events h) r s.tx sound hold.own).runs in
    elim dead [
      | inl undone ↦
          let born = birth_unseen h r s v (held_by (snapshot_events h) r) refl runs hold.timely undone.0 (undone.1 r) in
          ap (λ b. b && not (sees_end (tx_events h) s (end_of h v.id.number))) born
      | inr outdated ↦
          let e = over_is (tx_events h) (end_of h v.id.number) outdated.1 in
          end_seen h s v e.0 (held_by (snapshot_events h) r) runs hold.timely outdated.0 e.1 e.2 (outdated.2 r)
    ]

pub dead_are_unseen : DeadAreUnseen
dead_are_unseen h s v sound may dead = unseen_by h may.0 s v sound may.1 dead

-- nor does one that is held see it
not_held : (h : History) (v : Version) (o : Option TakenSnapshot) → if_held (λ s. sees (tx_events h) s v.by.number v.cmd) o ≡ false → if_held (λ s. is_seen h s v) o ≡ false
not_held h v None none = refl
not_held h v (Some s) none = ap (λ b. b && not (sees_end (tx_events h) s (end_of h v.id.number))) none

pub held_unseen : (h : History) (session : ℕ) (v : Version) → IsDead h v → is_held_seen h session v ≡ false
held_unseen h session v dead = elim dead [
  | inl undone ↦ not_held h v (held_by (snapshot_events h) session) (undone.1 session)
  | inr outdated ↦ outdated.2 session
]

-- ---- it stays dead

held_alike : (f g : TakenSnapshot → Bool) (o : Option TakenSnapshot) → ((s : TakenSnapshot) → g s ≡ f s) → if_held g o ≡ if_held f o
held_alike f g None same = refl
held_alike f g (Some s) same = same s

fate_stays : (e : TxEvent) (txs : TxEvents) (t : ℕ) → IsSound (e ∷ txs) → is_committed (fate txs t) ≡ true → is_committed (fate (e ∷ txs) t) ≡ true
fate_stays e txs t sound holds = ap is_committed (settled (e ∷ []) txs t sound (committed_ended (fate txs t) holds)) ∙ holds

pub lives_committed : (txs : TxEvents) (t : ℕ) → is_committed (fate txs t) ≡ true → was_aborted txs t ≡ false
lives_committed txs t holds = elim (cases_Bool (was_aborted txs t)) [
  | inl was ↦ let off : false ≡ true = ap is_committed (sym (aborted_over txs t was)) ∙ holds in absurd (cc)
  | inr lives ↦ lives
]

-- the end that counts goes on to count where its transaction is not aborted
end_step : (x e : End) (b a c : Bool) (old new : Option End) → (a ≡ true → c ≡ true) → (x ≡ e → c ≡ false) → (old ≡ Some e → new ≡ Some e) → (if b && not a then Some x else old) ≡ Some e → (if b && not c then Some x else new) ≡ Some e
end_step x e true true c old new stay lives rest is = let on = stay refl in rw on (rest is)
end_step x e true false c old new stay lives rest is =
    let same : x ≡ e = cc in
    let off = lives same in
    rw off is
end_step x e false a c old new stay lives rest is = rest is

end_stays : (old new : TxEvents) (rows : RowEvents) (k : ℕ) (e : End) → AbortsStay old new → was_aborted new e.by.number ≡ false → end_in old rows k ≡ Some e → end_in new rows k ≡ Some e
end_stays old new [] k e stay lives is = is
end_stays old new (LeafAdded l ∷ rows) k e stay lives is = end_stays old new rows k e stay lives is
end_stays old new (RowBorn v ∷ rows) k e stay lives is = end_stays old new rows k e stay lives is
end_stays old new (RowEnded id x ∷ rows) k e stay lives is =
    end_step x e (id == k) (was_aborted old x.by.number) (was_aborted new x.by.number) (end_in old rows k) (end_in new rows k) (stay x.by.number) (λ same. ap (λ (y : End). was_aborted new y.by.number) same ∙ lives) (λ q. end_stays old new rows k e stay lives q) is

-- under the events of a transaction
pub dead_after_tx : (e : TxEvent) (h : History) (v : Version) → IsSound (e ∷ tx_events h) → IsDead h v → IsDead (TxChange e ∷ h) v
dead_after_tx e h v sound dead = elim dead [
  | inl undone ↦ inl (aborts_stay e (tx_events h) v.by.number undone.0, undone.1)
  | inr outdated ↦
      let txs = tx_events h in
      let old = over_is txs (end_of h v.id.number) outdated.1 in
      let over : is_committed (fate (e ∷ txs) old.0.by.number) ≡ true = fate_stays e txs old.0.by.number sound old.2 in
      let new : end_of (TxChange e ∷ h) v.id.number ≡ Some old.0 = end_stays txs (e ∷ txs) (row_events h) v.id.number old.0 (aborts_stay e txs) (lives_committed (e ∷ txs) old.0.by.number over) old.1 in
      let same : (s : TakenSnapshot) → is_seen (TxChange e ∷ h) s v ≡ is_seen h s v = λ s.
      ap (λ o. sees txs s v.by.number v.cmd && not (sees_end (e ∷ txs) s o)) new
      ∙ sym (ap (λ o. sees txs s v.by.number v.cmd && not (sees_end txs s o)) old.1) in
      inr (
        fate_stays e txs v.by.number sound outdated.0,
        ap (is_over (e ∷ txs)) new ∙ over,
        λ r. held_alike (λ s. is_seen h s v) (λ s. is_seen (TxChange e ∷ h) s v) (held_by (snapshot_events h) r) same ∙ outdated.2 r,
      )
]

-- once a session holds a snapshot that it may hold, and once it holds none
held_test : (test : TakenSnapshot → Bool) (b : Bool) (s : TakenSnapshot) (o : Option TakenSnapshot) → test s ≡ false → if_held test o ≡ false → if_held test (if b then Some s else o) ≡ false
held_test test true s o new old = new
held_test test false s o new old = old

dropped_test : (test : TakenSnapshot → Bool) (b : Bool) (o : Option TakenSnapshot) → if_held test o ≡ false → if_held test (if b then None else o) ≡ false
dropped_test test true o old = refl
dropped_test test false o old = old

pub dead_after_hold : (r : ℕ) (s : TakenSnapshot) (h : History) (v : Version) → IsSound (tx_events h) → IsHoldSound r s h → IsDead h v → IsDead (SnapshotChange (SnapshotHeld r s) ∷ h) v
dead_after_hold r s h v sound hold dead =
    let runs = (open_runs (tx_events h) r s.tx sound hold.own).runs in
    elim dead [
      | inl undone ↦
          let born = birth_unseen h r s v (held_by (snapshot_events h) r) refl runs hold.timely undone.0 (undone.1 r) in
          inl (undone.0, λ q. held_test (λ x. sees (tx_events h) x v.by.number v.cmd) (r == q) s (held_by (snapshot_events h) q) born (undone.1 q))
      | inr outdated ↦
          let unseen = unseen_by h r s v sound hold (inr outdated) in
          inr (outdated.0, outdated.1, λ q. held_test (λ x. is_seen h x v) (r == q) s (held_by (snapshot_events h) q) unseen (outdated.2 q))
    ]

pub dead_after_drop : (r : ℕ) (h : History) (v : Version) → IsDead h v → IsDead (SnapshotChange (SnapshotDropped r) ∷ h) v
dead_after_drop r h v dead = elim dead [
  | inl undone ↦ inl (undone.0, λ q. dropped_test (λ x. sees (tx_events h) x v.by.number v.cmd) (r == q) (held_by (snapshot_events h) q) (undone.1 q))
  | inr outdated ↦ inr (outdated.0, outdated.1, λ q. dropped_test (λ x. is_seen h x v) (r == q) (held_by (snapshot_events h) q) (outdated.2 q))
]

-- a version whose end is committed does not end anew
pub dead_after_end : (k : ℕ) (x : End) (h : History) (v : Version) → IsEndSound k x h → IsDead h v → IsDead (RowChange (RowEnded k x) ∷ h) v
dead_after_end k x h v sound dead = elim dead [
  | inl undone ↦ inl undone
  | inr outdated ↦
      let old = over_is (tx_events h) (end_of h v.id.number) outdated.1 in
      let other : (k == v.id.number) ≡ false = elim (cases_Bool (k == v.id.number)) [
        | inl same ↦
            let is : k ≡ v.id.number = grind (arith, nat_tests, same) in
            let none : None ≡ Some old.0 = sym (stands_free h k sound.standing) ∙ ap (end_of h) is ∙ old.1 in
            absurd (cc)
        | inr away ↦ away
      ] in
      let new : end_of (RowChange (RowEnded k x) ∷ h) v.id.number ≡ end_of h v.id.number = rw other refl in
      let same : (s : TakenSnapshot) → is_seen (RowChange (RowEnded k x) ∷ h) s v ≡ is_seen h s v = λ s. ap (λ o. sees (tx_events h) s v.by.number v.cmd && not (sees_end (tx_events h) s o)) new in
      inr (
        outdated.0,
        ap (is_over (tx_events h)) new ∙ outdated.1,
        λ r. held_alike (λ s. is_seen h s v) (λ s. is_seen (RowChange (RowEnded k x) ∷ h) s v) (held_by (snapshot_events h) r) same ∙ outdated.2 r,
      )
]

pub dead_stay_dead : DeadStayDead
dead_stay_dead (TxChange e) h v sound may dead = dead_after_tx e h v may dead
dead_stay_dead (SnapshotChange (SnapshotHeld r s)) h v sound may dead = dead_after_hold r s h v sound may.0 dead
dead_stay_dead (SnapshotChange (SnapshotDropped r)) h v sound may dead = dead_after_drop r h v dead
dead_stay_dead (RowChange (LeafAdded l)) h v sound may dead = dead
dead_stay_dead (RowChange (RowBorn w)) h v sound may dead = dead
dead_stay_dead (RowChange (RowEnded k x)) h v sound may dead = dead_after_end k x h v may dead
dead_stay_dead (LockChange e) h v sound may dead = dead
dead_stay_dead (CatalogueChange e) h v sound may dead = dead
