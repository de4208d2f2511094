-- A table after an event, and what a snapshot of it tells.
use Rattle.std.proofs.Common.{◌≡◌, ◌≢◌, ℕ, ◌+◌, ◌<◌, ◌≤◌, zero, suc, arith, ap, subst, refl, ◌==◌, ◌&&◌, not, nat_lt, Bool, true, false, if◌then◌else◌, take, ◌⊎◌, inl, inr, Option, Some, None, List, [], ◌∷◌, ◌++◌, length, slice_index_or, slice_set, sym, ◌∙◌, append-nil}
use Rattle.std.specs.List.{list_any}
use Rattle.std.proofs.lemmas.Bool.{cases_lt, cases_Bool, lt-ltb, le-ltb, and_right}
use Rattle.std.proofs.lemmas.Bool.Decides.{nat_tests}
use Rattle.std.proofs.lemmas.Grind.{common_steps, elements}
use Rattle.std.proofs.lemmas.List.{take_more}
use Rattle.history.proofs.Settled.{settled_past}
use Rattle.history.specs.declared.transaction.Fate.{Fate}
use Rattle.history.specs.declared.transaction.Fate.TheVariants.{Running, Committed, Aborted}
use Rattle.history.specs.Transactions.{TxEvents, TxEvent, IsPast, is_committed, fate, open_of, session_of, TxBegan, TxCommitted, TxAborted}
use Rattle.history.specs.Snapshots.{SnapshotEvents, TakenSnapshot, SnapshotHeld, SnapshotDropped, held_by, sees}
use Rattle.history.specs.History.{History, tx_events, snapshot_events, fresh, held_or_fresh}
use Rattle.history.specs.Legal.{IsTimely, IsHoldSound}
use Rattle.tx_table.specs.Kept.{KeptTable, KeptSnapshot, somes, taken_now, given_kept}
use Rattle.tx_table.specs.Stands.{IsKept, OpenIs, TableStands, IsAgain, MayBeHeld, NumberIsSet, StandsFor, SnapshotStands, HeldStands, sees_by, after_end}

-- a session without an open transaction has none after its place was cleared
cleared : (xs : List (Option ℕ)) (s r tx : ℕ) → slice_index_or (slice_set xs s None) r None ≡ Some tx → (r ≢ s) × (slice_index_or xs r None ≡ Some tx)
cleared xs s r tx e = grind (arith, common_steps, elements)

one_of : (a b : ℕ) (o : Option ℕ) → o ≡ Some a → o ≡ Some b → a ≡ b
one_of a b o p q = cc

still_runs : (fs : List Fate) (tx t : ℕ) (f : Fate) → f ≢ Running → t < length fs → slice_index_or (slice_set fs tx f) t Running ≡ Running → (t ≢ tx) × (slice_index_or fs t Running ≡ Running)
still_runs fs tx t f ne lt e = grind (arith, common_steps, elements)

place_kept : (xs : List (Option ℕ)) (s r t : ℕ) → r ≢ s → slice_index_or xs r None ≡ Some t → slice_index_or (slice_set xs s None) r None ≡ Some t
place_kept xs s r t ne e = grind (arith, common_steps, elements)

pub ended_kept : (k : KeptTable) (s tx : ℕ) (f : Fate) → f ≢ Running → IsKept k → slice_index_or k.current s None ≡ Some tx → IsKept (record { owners = k.owners; fates = slice_set k.fates tx f; current = slice_set k.current s None; held = k.held })
ended_kept k s tx f ne kept e = record {
  both = grind (arith, common_steps, kept.both);
  seats = grind (arith, common_steps, kept.seats);
  few = grind (arith, common_steps, kept.few);
  each = λ r t er.
      let c : (r ≢ s) × (slice_index_or k.current r None ≡ Some t) = cleared k.current s r t er in
      let mine : OpenIs k s tx = kept.each s tx e in
      let its : OpenIs k r t = kept.each r t c.1 in
      let other : t ≢ tx = λ q. c.0 (grind (arith, common_steps)) in
      record { known = grind (arith, common_steps); own = its.own; runs = grind (arith, common_steps, elements) };
  all = λ t lt runs.
      let known : t < length k.fates = grind (arith, common_steps) in
      let st : (t ≢ tx) × (slice_index_or k.fates t Running ≡ Running) = still_runs k.fates tx t f ne known runs in
      let at : slice_index_or k.current (slice_index_or k.owners t 0) None ≡ Some t = kept.all t known st.1 in
      let away : slice_index_or k.owners t 0 ≢ s = λ q. st.0 (one_of t tx _ (ap (λ i. slice_index_or k.current i None) (sym q) ∙ at) e) in
      place_kept k.current s _ t away at;
}

-- nothing was opened but the new one
opened : (xs : List (Option ℕ)) (s r n tx : ℕ) → slice_index_or (slice_set xs s (Some n)) r None ≡ Some tx → ((r ≡ s) × (tx ≡ n)) ⊎ (slice_index_or xs r None ≡ Some tx)
opened xs s r n tx e = grind (arith, common_steps, elements)

place_filled : (xs : List (Option ℕ)) (s n : ℕ) → s < length xs → slice_index_or (slice_set xs s (Some n)) s None ≡ Some n
place_filled xs s n lt = grind (arith, common_steps, elements)

place_beside : (xs : List (Option ℕ)) (s r n t : ℕ) → slice_index_or xs s None ≡ None → slice_index_or xs r None ≡ Some t → slice_index_or (slice_set xs s (Some n)) r None ≡ Some t
place_beside xs s r n t free e = grind (arith, common_steps, elements)

owner_behind : (os : List ℕ) (n t : ℕ) → t < length os → slice_index_or (os ++ n ∷ []) t 0 ≡ slice_index_or os t 0
owner_behind os n t lt = grind (arith, common_steps, elements)

owner_last : (os : List ℕ) (n t : ℕ) → t ≡ length os → slice_index_or (os ++ n ∷ []) t 0 ≡ n
owner_last os n t e = grind (arith, common_steps, elements)

fate_behind : (fs : List Fate) (t : ℕ) → slice_index_or (fs ++ Running ∷ []) t Running ≡ slice_index_or fs t Running
fate_behind fs t = grind (arith, common_steps, elements)

pub begun_kept : (k : KeptTable) (s : ℕ) → IsKept k → s < length k.current → slice_index_or k.current s None ≡ None → IsKept (record { owners = k.owners ++ s ∷ []; fates = k.fates ++ Running ∷ []; current = slice_set k.current s (Some (length k.fates)); held = k.held })
begun_kept k s kept lt free = record {
  both = grind (arith, common_steps, kept.both);
  seats = grind (arith, common_steps, kept.seats);
  few = grind (arith, common_steps, kept.few);
  each = λ r t er.
      elim (opened k.current s r (length k.fates) t er) [
        | inl q ↦ record { known = grind (arith, common_steps); own = owner_last k.owners s t (q.1 ∙ sym kept.both) ∙ sym q.0; runs = grind (arith, common_steps, elements) }
        | inr q ↦ let its : OpenIs k r t = kept.each r t q in
            let known : t < length k.owners = omega (arith, its.known, kept.both) in
            record { known = grind (arith, common_steps); own = owner_behind k.owners s t known ∙ its.own; runs = fate_behind k.fates t ∙ its.runs }
      ];
  all = λ t lts runs.
      elim (cases_lt t (length k.fates)) [
        | inl below ↦
            let known : t < length k.owners = omega (arith, below, kept.both) in
            let at : slice_index_or k.current (slice_index_or k.owners t 0) None ≡ Some t = kept.all t below (sym (fate_behind k.fates t) ∙ runs) in
            rw (owner_behind k.owners s t known) (place_beside k.current s _ (length k.fates) t free at)
        | inr above ↦
            let last : t ≡ length k.fates = grind (arith, common_steps) in
            rw (owner_last k.owners s t (last ∙ sym kept.both), last) (place_filled k.current s (length k.fates) lt)
      ];
}

-- a held snapshot is still the one, whatever happens to transactions
pub held_later : (o : Option KeptSnapshot) (p : Option TakenSnapshot) (e : TxEvent) (txs : TxEvents) → HeldStands o p txs → HeldStands o p (e ∷ txs)
held_later None None e txs st = tt
held_later None (Some s) e txs st = absurd st
held_later (Some k) None e txs st = absurd st
held_later (Some k) (Some s) e txs st = (st.0, (e ∷ st.1.0, ap (λ t. e ∷ t) st.1.1))

pub begun_stands : (k : KeptTable) (txs : TxEvents) (snaps : SnapshotEvents) (s tx : ℕ) → tx ≡ length k.fates → length k.owners ≡ length k.fates → s < length k.current → slice_index_or k.current s None ≡ None → StandsFor k txs snaps → StandsFor (record { owners = k.owners ++ s ∷ []; fates = k.fates ++ Running ∷ []; current = slice_set k.current s (Some tx); held = k.held }) (TxBegan s tx ∷ txs) snaps
begun_stands k txs snaps s tx last both lt free st = record {
  sound = (last ∙ st.count, sym (st.current s) ∙ free, st.sound);
  count = grind (arith, common_steps, st.count);
  owners = λ t. grind (arith, common_steps, elements, st.owners t);
  fates = λ t. fate_behind k.fates t ∙ st.fates t;
  current = λ r. grind (arith, common_steps, elements, st.current r);
  held = λ r. held_later _ _ (TxBegan s tx) txs (st.held r);
}

pub committed_stands : (k : KeptTable) (txs : TxEvents) (snaps : SnapshotEvents) (tx : ℕ) → OpenIs k (slice_index_or k.owners tx 0) tx → slice_index_or k.current (slice_index_or k.owners tx 0) None ≡ Some tx → StandsFor k txs snaps → StandsFor (after_end k tx Committed) (TxCommitted (session_of txs tx) tx ∷ txs) snaps
committed_stands k txs snaps tx o at st =
    let s : ℕ = session_of txs tx in
    let own : slice_index_or k.owners tx 0 ≡ s = st.owners tx in
    record {
      sound = (sym (st.fates tx) ∙ o.runs, sym (st.current s) ∙ ap (λ i. slice_index_or k.current i None) (sym own) ∙ at, st.sound);
      count = grind (arith, common_steps, st.count);
      owners = st.owners;
      fates = λ t. grind (arith, common_steps, elements, st.fates t, o.known);
      current = λ r. grind (arith, common_steps, elements, st.current r, own, at);
      held = λ r. held_later _ _ (TxCommitted s tx) txs (st.held r);
    }

pub aborted_stands : (k : KeptTable) (txs : TxEvents) (snaps : SnapshotEvents) (tx : ℕ) → OpenIs k (slice_index_or k.owners tx 0) tx → slice_index_or k.current (slice_index_or k.owners tx 0) None ≡ Some tx → StandsFor k txs snaps → StandsFor (after_end k tx Aborted) (TxAborted (session_of txs tx) tx ∷ txs) snaps
aborted_stands k txs snaps tx o at st =
    let s : ℕ = session_of txs tx in
    let own : slice_index_or k.owners tx 0 ≡ s = st.owners tx in
    record {
      sound = (sym (st.fates tx) ∙ o.runs, sym (st.current s) ∙ ap (λ i. slice_index_or k.current i None) (sym own) ∙ at, st.sound);
      count = grind (arith, common_steps, st.count);
      owners = st.owners;
      fates = λ t. grind (arith, common_steps, elements, st.fates t, o.known);
      current = λ r. grind (arith, common_steps, elements, st.current r, own, at);
      held = λ r. held_later _ _ (TxAborted s tx) txs (st.held r);
    }

-- one place of the held snapshots changed
held_at : (xs : List (Option KeptSnapshot)) (s r : ℕ) (o : Option KeptSnapshot) (p q : Option TakenSnapshot) (txs : TxEvents) → s < length xs → HeldStands o p txs → HeldStands (slice_index_or xs r None) q txs → (b : Bool) → (s == r) ≡ b → HeldStands (slice_index_or (slice_set xs s o) r None) (if b then p else q) txs
held_at xs s r o p q txs lt here there true e =
    let same : slice_index_or (slice_set xs s o) r None ≡ o = grind (arith, common_steps, elements, nat_tests) in
    let P : Option KeptSnapshot → Type 0 = λ x. HeldStands x p txs in
    subst P (sym same) here
held_at xs s r o p q txs lt here there false e =
    let same : slice_index_or (slice_set xs s o) r None ≡ slice_index_or xs r None = grind (arith, common_steps, elements, nat_tests) in
    let P : Option KeptSnapshot → Type 0 = λ x. HeldStands x q txs in
    subst P (sym same) there

pub held_stands : (k : KeptTable) (txs : TxEvents) (snaps : SnapshotEvents) (s : ℕ) (snap : KeptSnapshot) (t : TakenSnapshot) → s < length k.held → IsPast t.past txs → SnapshotStands snap t → StandsFor k txs snaps → StandsFor (record { owners = k.owners; fates = k.fates; current = k.current; held = slice_set k.held s (Some snap) }) txs (SnapshotHeld s t ∷ snaps)
held_stands k txs snaps s snap t lt past at st = record {
  sound = st.sound;
  count = st.count;
  owners = st.owners;
  fates = st.fates;
  current = st.current;
  held = λ r. held_at k.held s r (Some snap) (Some t) (held_by snaps r) txs lt (at, past) (st.held r) (s == r) refl;
}

pub dropped_stands : (k : KeptTable) (txs : TxEvents) (snaps : SnapshotEvents) (s : ℕ) → s < length k.held → StandsFor k txs snaps → StandsFor (record { owners = k.owners; fates = k.fates; current = k.current; held = slice_set k.held s None }) txs (SnapshotDropped s ∷ snaps)
dropped_stands k txs snaps s lt st = record {
  sound = st.sound;
  count = st.count;
  owners = st.owners;
  fates = st.fates;
  current = st.current;
  held = λ r. held_at k.held s r None None (held_by snaps r) txs lt tt (st.held r) (s == r) refl;
}

-- what is listed stands in some place, and the other way round
listed_at : (xs : List (Option ℕ)) (tx : ℕ) → list_any (λ t. t == tx) (somes xs) ≡ true → (s : ℕ) × (slice_index_or xs s None ≡ Some tx)
listed_at [] tx e = absurd (cc)
listed_at (None ∷ xs) tx e = let r = listed_at xs tx e in (suc r.0, r.1)
listed_at (Some n ∷ xs) tx e = elim (cases_Bool (n == tx)) [
  | inl t ↦ let same : n ≡ tx = grind (arith, nat_tests) in (0, ap (λ m. Some m) same)
  | inr f ↦ let e' = rw f at e in let r = listed_at xs tx e' in (suc r.0, r.1)
]

at_listed : (xs : List (Option ℕ)) (s tx : ℕ) → slice_index_or xs s None ≡ Some tx → list_any (λ t. t == tx) (somes xs) ≡ true
at_listed [] s tx e = absurd (cc)
at_listed (None ∷ xs) zero tx e = absurd (cc)
at_listed (None ∷ xs) (suc s) tx e = at_listed xs s tx e
at_listed (Some n ∷ xs) zero tx e = let same : n ≡ tx = cc in grind (arith, common_steps, nat_tests)
at_listed (Some n ∷ xs) (suc s) tx e = grind (arith, common_steps, at_listed xs s tx e)

false≢true : (b : Bool) → b ≡ true → b ≡ false → ⊥
false≢true b p q = cc

is_some_from : (o : Option ℕ) → (n : ℕ) → o ≡ Some n → (m : ℕ) → o ≡ Some m → n ≡ m
is_some_from o n p m q = cc

-- a snapshot taken now stands for one taken now
pub fresh_stands : (k : KeptTable) (txs : TxEvents) (snaps : SnapshotEvents) (s tx : ℕ) → IsKept k → slice_index_or k.current s None ≡ Some tx → StandsFor k txs snaps → SnapshotStands (record { next = length k.fates; running = somes k.current; session = s; tx = tx; cmd = 0 }) (fresh txs s)
fresh_stands k txs snaps s tx kept at st =
    let now : open_of txs s ≡ Some tx = sym (st.current s) ∙ at in
    record {
      own = rw now refl;
      number = refl;
      session = rw now (sym (kept.each s tx at).own ∙ st.owners tx);
      later = λ t le. sym (st.fates t) ∙ grind (arith, common_steps, elements);
      ran = λ t any. let r = listed_at k.current t any in sym (st.fates t) ∙ (kept.each r.0 t r.1).runs;
      ended = λ t lt none runs. false≢true _ (at_listed k.current _ t (kept.all t lt (st.fates t ∙ runs))) none;
    }

-- a command number may be set
pub number_is_set : NumberIsSet
number_is_set snap s cmd st = record { own = st.own; number = refl; session = st.session; later = st.later; ran = st.ran; ended = st.ended }

-- a session may hold what is taken now
timely_now : (o : Option TakenSnapshot) (txs : TxEvents) (s : TakenSnapshot) → s.past ≡ txs → IsTimely o txs s
timely_now None txs s e = e
timely_now (Some old) txs s e = inl e

again : (o : Option KeptSnapshot) (p : Option TakenSnapshot) (txs : TxEvents) (snap : KeptSnapshot) → HeldStands o p txs → IsAgain o snap → (s : TakenSnapshot) × (IsPast s.past txs) × SnapshotStands snap s × (snap.tx ≡ s.tx) × IsTimely p txs s
again None p txs snap st is = absurd is
again (Some k) None txs snap st is = absurd st
again (Some k) (Some t) txs snap st is =
    let s : TakenSnapshot = record { past = t.past; tx = t.tx; cmd = snap.cmd } in
    let P : KeptSnapshot → Type 0 = λ y. SnapshotStands y s in
    let stands : SnapshotStands snap s = subst P (sym is) (number_is_set k t snap.cmd st.0) in
    (s, st.1, stands, stands.own, inr (refl, refl))

pub hold_sound : (k : KeptTable) (h : History) (session : ℕ) (snap : KeptSnapshot) → IsKept k → MayBeHeld k session snap → TableStands k h → (s : TakenSnapshot) × IsPast s.past (tx_events h) × SnapshotStands snap s × IsHoldSound session s h
hold_sound k h session snap kept may st = elim may.timely [
  | inl now ↦
      let txs : TxEvents = tx_events h in
      let s : TakenSnapshot = record { past = txs; tx = snap.tx; cmd = snap.cmd } in
      let open_now : open_of txs session ≡ Some snap.tx = sym (st.current session) ∙ may.own in
      let f = fresh_stands k txs (snapshot_events h) session snap.tx kept may.own st in
      let same : fresh txs session ≡ record { past = txs; tx = snap.tx; cmd = 0 } = rw open_now refl in
      let Q : TakenSnapshot → Type 0 = λ t. SnapshotStands (taken_now k session snap.tx) t in
      let P : KeptSnapshot → Type 0 = λ y. SnapshotStands y s in
      let stands : SnapshotStands snap s = subst P (sym now) (number_is_set (taken_now k session snap.tx) (record { past = txs; tx = snap.tx; cmd = 0 }) snap.cmd (subst Q same f)) in
      (s, ([], refl), stands, record { own = open_now; timely = timely_now (held_by (snapshot_events h) session) txs s refl })
  | inr held ↦
      let a = again _ (held_by (snapshot_events h) session) (tx_events h) snap (st.held session) held in
      (a.0, a.1, a.2, record { own = sym (st.current session) ∙ may.own ∙ ap (λ t. Some t) a.3; timely = a.4 })
]

-- the snapshot that is given, by what is kept
pub given_one : (o : Option KeptSnapshot) (k : KeptTable) (s : ℕ) (x : KeptSnapshot) → o ≡ Some x → x ≡ given_kept o k s
given_one None k s x e = absurd (cc)
given_one (Some y) k s x e = cc

pub given_none : (o : Option KeptSnapshot) (k : KeptTable) (s : ℕ) (x : KeptSnapshot) → o ≡ None → x ≡ given_kept None k s → x ≡ given_kept o k s
given_none None k s x e is = is
given_none (Some y) k s x e is = absurd (cc)

pub given_held : (k : KeptSnapshot) (o : Option KeptSnapshot) (p : Option TakenSnapshot) (txs : TxEvents) (s : ℕ) → o ≡ Some k → HeldStands o p txs → SnapshotStands k (held_or_fresh p txs s)
given_held k None p txs s e st = absurd (cc)
given_held k (Some x) None txs s e st = absurd st
given_held k (Some x) (Some t) txs s e st =
    let same : x ≡ k = cc in
    let P : KeptSnapshot → Type 0 = λ y. SnapshotStands y t in
    subst P same st.0

pub given_fresh : (k : KeptSnapshot) (o : Option KeptSnapshot) (p : Option TakenSnapshot) (txs : TxEvents) (s : ℕ) → o ≡ None → HeldStands o p txs → SnapshotStands k (fresh txs s) → SnapshotStands k (held_or_fresh p txs s)
given_fresh k None None txs s e st f = f
given_fresh k None (Some t) txs s e st f = absurd st
given_fresh k (Some x) p txs s e st f = absurd (cc)

and_true : (b : Bool) → (b && true) ≡ b
and_true true = refl
and_true false = refl

-- a transaction counts as committed where it was so at the snapshot
over_is : (k : KeptTable) (ks : KeptSnapshot) (txs : TxEvents) (snaps : SnapshotEvents) (s : TakenSnapshot) (tx : ℕ) → StandsFor k txs snaps → IsPast s.past txs → SnapshotStands ks s → (is_committed (slice_index_or k.fates tx Running) && (nat_lt tx ks.next && not (list_any (λ t. t == tx) ks.running))) ≡ is_committed (fate s.past tx)
over_is k ks txs snaps s tx st past snap =
    elim (cases_lt tx ks.next) [
      | inr above ↦ let r = snap.later tx above in let n = le-ltb tx ks.next above in rw (r, n) (and_right _ _ refl)
      | inl below ↦
          let n = lt-ltb tx ks.next below in
          elim (cases_Bool (list_any (λ t. t == tx) ks.running)) [
            | inl ran ↦ let r = snap.ran tx ran in rw (r, n, ran) (and_right _ _ refl)
            | inr over ↦
                let r = settled_past txs s.past tx st.sound past (snap.ended tx below over) in
                rw (n, over, st.fates tx, r) (and_true _)
          ]
    ]

-- what is told from what is kept is what the snapshot sees
pub sees_is : (k : KeptTable) (ks : KeptSnapshot) (txs : TxEvents) (snaps : SnapshotEvents) (s : TakenSnapshot) (tx cmd : ℕ) → StandsFor k txs snaps → IsPast s.past txs → SnapshotStands ks s → sees_by k ks tx cmd ≡ sees txs s tx cmd
sees_is k ks txs snaps s tx cmd st past snap = rw (over_is k ks txs snaps s tx st past snap, snap.own, snap.number) refl

-- an open transaction's session has a place
pub some_below : (xs : List (Option ℕ)) (s n : ℕ) → slice_index_or xs s None ≡ Some n → s < length xs
some_below xs s n e = grind (arith, common_steps, elements)

pub held_kept : (k : KeptTable) (s : ℕ) (o : Option KeptSnapshot) → IsKept k → IsKept (record { owners = k.owners; fates = k.fates; current = k.current; held = slice_set k.held s o })
held_kept k s o kept = record {
  both = kept.both;
  seats = grind (arith, common_steps, kept.seats);
  few = kept.few;
  each = λ r t e. let its : OpenIs k r t = kept.each r t e in record { known = its.known; own = its.own; runs = its.runs };
  all = λ t lt runs. kept.all t lt runs;
}

somes-append : (xs ys : List (Option ℕ)) → somes (xs ++ ys) ≡ somes xs ++ somes ys
somes-append [] ys = refl
somes-append (None ∷ xs) ys = somes-append xs ys
somes-append (Some n ∷ xs) ys = ap (λ ns. n ∷ ns) (somes-append xs ys)

pub some_listed : (xs : List (Option ℕ)) (i n : ℕ) → i < length xs → slice_index_or xs i None ≡ Some n → somes (take (i + 1) xs) ≡ somes (take i xs) ++ n ∷ []
some_listed xs i n lt e =
    let one : somes (slice_index_or xs i None ∷ []) ≡ n ∷ [] = rw e refl in
    ap somes (take_more xs i None lt) ∙ somes-append (take i xs) (slice_index_or xs i None ∷ []) ∙ ap (λ ns. somes (take i xs) ++ ns) one

pub none_listed : (xs : List (Option ℕ)) (i : ℕ) → i < length xs → slice_index_or xs i None ≡ None → somes (take (i + 1) xs) ≡ somes (take i xs)
none_listed xs i lt e =
    let none : somes (slice_index_or xs i None ∷ []) ≡ [] = rw e refl in
    ap somes (take_more xs i None lt) ∙ somes-append (take i xs) (slice_index_or xs i None ∷ []) ∙ ap (λ ns. somes (take i xs) ++ ns) none ∙ append-nil (somes (take i xs))

pub none_behind : (xs : List (Option KeptSnapshot)) (s : ℕ) → ((r : ℕ) → slice_index_or xs r None ≡ None) → slice_index_or (xs ++ None ∷ []) s None ≡ None
none_behind xs s none = grind (arith, common_steps, elements, none s)

pub somes_short : (xs : List (Option ℕ)) → length (somes xs) ≤ length xs
somes_short [] = omega arith
somes_short (None ∷ xs) = omega (arith, somes_short xs)
somes_short (Some n ∷ xs) = omega (arith, somes_short xs)
