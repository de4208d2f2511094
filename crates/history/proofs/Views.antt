-- What one snapshot sees, and another.
use Rattle.std.proofs.Common.{◌≡◌, ◌≢◌, ℕ, zero, suc, ◌<◌, ◌==◌, ◌&&◌, not, arith, Bool, true, false, List, [], ◌∷◌, ◌++◌, ◌⊎◌, inl, inr, refl, ap, sym, subst, ◌∙◌, Option, Some, None, filter, length, slice_index_or}
use Rattle.std.specs.List.{Contains}
use Rattle.std.proofs.lemmas.Grind.{common_steps}
use Rattle.std.proofs.lemmas.Bool.{cases_Bool}
use Rattle.std.proofs.lemmas.Bool.Decides.{nat_tests}
use Rattle.std.proofs.lemmas.List.Elements.{filter_agree, Contains-append_left}
use Rattle.history.specs.declared.transaction.Fate.{Fate}
use Rattle.history.specs.declared.transaction.Fate.TheVariants.{Running, Committed, Aborted}
use Rattle.history.specs.declared.version.Version.{Version}
use Rattle.history.specs.declared.version.End.{End}
use Rattle.history.specs.Transactions.{TxEvents, TxBegan, TxCommitted, TxAborted, fate, is_committed, IsSound, IsPast}
use Rattle.history.specs.Snapshots.{TakenSnapshot, sees}
use Rattle.history.specs.Rows.{RowBorn}
use Rattle.history.specs.History.{History, RowChange, tx_events, versions, end_of, sees_end, is_seen}
use Rattle.history.specs.Laws.{CommittedStaysSeen, AlikeSeeAlike, SeenBeforeItsEnd}
use Rattle.history.proofs.Settled.{settled_past}

sound_of_past : (later past : TxEvents) → IsSound (later ++ past) → IsSound past
sound_of_past [] past sound = sound
sound_of_past (TxBegan s t ∷ later) past sound = sound_of_past later past sound.2
sound_of_past (TxCommitted s t ∷ later) past sound = sound_of_past later past sound.2
sound_of_past (TxAborted s t ∷ later) past sound = sound_of_past later past sound.2

pub sound_past : (past h : TxEvents) → IsPast past h → IsSound h → IsSound past
sound_past past h (later, e) sound = sound_of_past later past (subst IsSound (sym e) sound)

committed_from : (f : Fate) → is_committed f ≡ true → f ≡ Committed
committed_from Running e = absurd (cc)
committed_from Committed e = refl
committed_from Aborted e = absurd (cc)

committed-not_running : (f : Fate) → f ≡ Committed → f ≢ Running
committed-not_running f e r = let x : Committed ≡ Running = sym e ∙ r in cc

-- what was committed at a place is committed later
pub committed_later : (past h : TxEvents) (t : ℕ) → IsSound h → IsPast past h → fate past t ≡ Committed → fate h t ≡ Committed
committed_later past h t sound past_of e = settled_past h past t sound past_of (committed-not_running _ e) ∙ e

-- versions that were born stay in the list
born_stays : (later earlier : History) (v : Version) → Contains (versions earlier) v → Contains (versions (later ++ earlier)) v
born_stays [] earlier v at = at
born_stays (RowChange (RowBorn w) ∷ later) earlier v at = Contains-append_left (versions (later ++ earlier)) (w ∷ []) v (born_stays later earlier v at)
born_stays (_ ∷ later) earlier v at = born_stays later earlier v at

false≢true : (b : Bool) → b ≡ true → b ≡ false → ⊥
false≢true b p q = cc

Contains-behind : {X : Type 0} (y x : X) (ys : List X) → Contains ys x → Contains (y ∷ ys) x
Contains-behind y x ys (k, lt, at) = (suc k, omega (arith, lt), at)

-- what is listed and passes stays in the filter
passing_stays : {X : Type 0} (p : X → Bool) (xs : List X) (k : ℕ) (x : X) → k < length xs → slice_index_or xs k x ≡ x → p x ≡ true → Contains (filter p xs) x
passing_stays p [] k x lt at e = absurd (omega arith)
passing_stays p (y ∷ ys) zero x lt at e =
    let t : p y ≡ true = ap p at ∙ e in
    rw t (zero, omega arith, at)
passing_stays p (y ∷ ys) (suc k) x lt at e =
    let rest = passing_stays p ys k x (omega (arith, lt)) at e in
    elim (cases_Bool (p y)) [
      | inl t ↦ rw t (Contains-behind y x (filter p ys) rest)
      | inr f ↦ rw f rest
    ]

in_leaf_seen : (h : History) (s : TakenSnapshot) (v : Version) → is_seen h s v ≡ true → ((v.leaf.number == v.leaf.number) && is_seen h s v) ≡ true
in_leaf_seen h s v e = grind (arith, common_steps, nat_tests)

seen_or_ended : (a b : Bool) → a ≡ true → ((a && not b) ≡ true) ⊎ (b ≡ true)
seen_or_ended a true e = inr refl
seen_or_ended a false e = inl (rw e refl)

pub committed_stays_seen : CommittedStaysSeen
committed_stays_seen earlier later s v sound before after at committed =
    let h : History = later ++ earlier in
    let past_sound : IsSound s.past = sound_past s.past (tx_events h) after sound in
    let now : fate s.past v.by.number ≡ Committed = committed_later (tx_events earlier) s.past v.by.number past_sound before committed in
    let born : sees (tx_events h) s v.by.number v.cmd ≡ true = rw now refl in
    elim (seen_or_ended (sees (tx_events h) s v.by.number v.cmd) (sees_end (tx_events h) s (end_of h v.id.number)) born) [
      | inl shown ↦
          let b = born_stays later earlier v at in
          inl (passing_stays (λ w. (w.leaf.number == v.leaf.number) && is_seen h s w) (versions h) b.0 v b.1 b.2 (in_leaf_seen h s v shown))
      | inr over ↦ inr over
    ]

sees_alike : (txs : TxEvents) (a b : TakenSnapshot) → a.tx ≡ b.tx → a.cmd ≡ b.cmd → ((t : ℕ) → is_committed (fate a.past t) ≡ is_committed (fate b.past t)) → (t c : ℕ) → sees txs a t c ≡ sees txs b t c
sees_alike txs a b own number same t c = rw (same t, own, number) refl

ends_alike : (txs : TxEvents) (a b : TakenSnapshot) → ((t c : ℕ) → sees txs a t c ≡ sees txs b t c) → (o : Option End) → sees_end txs a o ≡ sees_end txs b o
ends_alike txs a b same None = refl
ends_alike txs a b same (Some e) = same e.by.number e.cmd

pub alike_see_alike : AlikeSeeAlike
alike_see_alike h leaf a b own number same =
    let alike : (t c : ℕ) → sees (tx_events h) a t c ≡ sees (tx_events h) b t c = sees_alike (tx_events h) a b own number same in
    filter_agree (λ v. (v.leaf.number == leaf) && is_seen h a v) (λ v. (v.leaf.number == leaf) && is_seen h b v)
    (λ v. rw (alike v.by.number v.cmd, ends_alike (tx_events h) a b alike (end_of h v.id.number)) refl) (versions h)

unseen_end : (txs : TxEvents) (s : TakenSnapshot) (a : Bool) (o : Option End) (e : End) → o ≡ Some e → (a && not (sees_end txs s o)) ≡ true → is_committed (fate s.past e.by.number) ≡ false
unseen_end txs s a None e is shown = absurd (cc)
unseen_end txs s a (Some x) e is shown =
    let same : x ≡ e = cc in
    let P : End → Type 0 = λ y. is_committed (fate s.past y.by.number) ≡ false in
    subst P same (grind (arith, common_steps))

pub seen_before_its_end : SeenBeforeItsEnd
seen_before_its_end h v e early late sound before after is shown =
    let late_not : is_committed (fate late.past e.by.number) ≡ false = unseen_end (tx_events h) late (sees (tx_events h) late v.by.number v.cmd) (end_of h v.id.number) e is shown in
    let late_sound : IsSound late.past = sound_past late.past (tx_events h) after sound in
    elim (cases_Bool (is_committed (fate early.past e.by.number))) [
      | inl t ↦
          let c : fate late.past e.by.number ≡ Committed = committed_later early.past late.past e.by.number late_sound before (committed_from _ t) in
          let later_yes : is_committed (fate late.past e.by.number) ≡ true = rw c refl in
          absurd (false≢true _ later_yes late_not)
      | inr f ↦ f
    ]
