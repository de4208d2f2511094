-- What a snapshot sees that its session has open or could take, may be shown in its session's world.
use Rattle.std.proofs.Common.{◌≡◌, ℕ, ◌==◌, ◌||◌, ◌&&◌, not, nat_lt, arith, Bool, true, false, inl, inr, refl, ap, sym, subst, ◌∙◌, Option, Some, None}
use Rattle.std.proofs.lemmas.Grind.{common_steps}
use Rattle.std.proofs.lemmas.Bool.{cases_Bool, and_parts}
use Rattle.std.proofs.lemmas.Bool.Decides.{nat_tests}
use Rattle.history.specs.declared.transaction.Fate.TheVariants.{Running, Aborted}
use Rattle.history.specs.declared.version.Version.{Version}
use Rattle.history.specs.declared.version.End.{End}
use Rattle.history.specs.Transactions.{TxEvents, open_of, fate, is_committed, was_aborted, IsSound}
use Rattle.history.specs.Snapshots.{TakenSnapshot, held_by, sees}
use Rattle.history.specs.History.{History, tx_events, snapshot_events, row_events, end_of, sees_end, is_seen, fresh}
use Rattle.history.specs.Presence.{is_own, counts}
use Rattle.history.specs.Legal.{IsLegal}
use Rattle.history.proofs.Open.{open_runs}
use Rattle.soundness.specs.Versions.{IsVersion, IsEnd}
use Rattle.soundness.specs.Worlds.{World, IsWorld}
use Rattle.soundness.specs.Shown.{MayShow, ShowsTo, sees_in}
use Rattle.soundness.specs.Parts.{InvariantOf}
use Rattle.soundness.specs.Laws.{IsLooking}
use Rattle.soundness.proofs.Worlds.{both_ways, committed_of, committed_only, committed_world, committed_part}
use Rattle.soundness.proofs.Sees.{IsOlder, seen_of, counts_in, seen_in}
use Rattle.soundness.proofs.Snaps.{held_new}
use Rattle.soundness.proofs.Sound.{sound_of, older, older_timely, end_counts, taken_of}

-- ---- what counts for a session is a world

own_counts : (txs : TxEvents) (session t : ℕ) → open_of txs session ≡ Some t → counts txs session t ≡ true
own_counts txs session t opened = rw opened (grind (arith, common_steps, nat_tests))

own_out : (txs : TxEvents) (session t : ℕ) (o : Option ℕ) → open_of txs session ≡ o → IsSound txs → fate txs t ≡ Aborted → is_own o t ≡ false
own_out txs session t None at sound is = refl
own_out txs session t (Some u) at sound is = elim (cases_Bool (u == t)) [
  | inr n ↦ n
  | inl y ↦
      let e : u ≡ t = grind (arith, nat_tests, y) in
      let runs : fate txs u ≡ Running = (open_runs txs session u sound at).runs in
      let both : Running ≡ Aborted = sym runs ∙ (ap (fate txs) e ∙ is) in
      absurd (cc)
]

pub counts_world : (txs : TxEvents) (session : ℕ) → IsSound txs → IsWorld txs (counts txs session)
counts_world txs session sound = record {
  committed = λ t is. rw is refl;
  aborted = λ t is. let out : is_own (open_of txs session) t ≡ false = own_out txs session t (open_of txs session) refl sound is in rw (is, out) refl;
}

-- ---- what is seen

pub alive_by : (txs : TxEvents) (t : ℕ) (b : Bool) → (fate txs t ≡ Aborted → b ≡ false) → b ≡ true → was_aborted txs t ≡ false
alive_by txs t b out is = elim (cases_Bool (was_aborted txs t)) [
  | inl y ↦ let e : fate txs t ≡ Aborted = rw y refl in absurd (both_ways b is (out e))
  | inr n ↦ n
]

unseen_end : (txs : TxEvents) (s : TakenSnapshot) (o : Option End) (x : End) → o ≡ Some x → sees_end txs s o ≡ false → sees txs s x.by.number x.cmd ≡ false
unseen_end txs s None x is out = absurd (cc)
unseen_end txs s (Some y) x is out = let e : y ≡ x = cc in ap (λ (z : End). sees txs s z.by.number z.cmd) (sym e) ∙ out

seen_birth : (h : History) (s : TakenSnapshot) (v : Version) → is_seen h s v ≡ true → sees (tx_events h) s v.by.number v.cmd ≡ true
seen_birth h s v is = (and_parts (sees (tx_events h) s v.by.number v.cmd) (not (sees_end (tx_events h) s (end_of h v.id.number))) is).0

-- an end that counts in a world is not seen
no_end_seen : (h : History) (s : TakenSnapshot) (v : Version) (w : World) (x : End) → IsLegal h → IsWorld (tx_events h) w → is_seen h s v ≡ true → IsEnd (row_events h) v.id.number x → w x.by.number ≡ true → sees (tx_events h) s x.by.number x.cmd ≡ false
no_end_seen h s v w x legal world is end counts =
    let none : not (sees_end (tx_events h) s (end_of h v.id.number)) ≡ true = (and_parts (sees (tx_events h) s v.by.number v.cmd) (not (sees_end (tx_events h) s (end_of h v.id.number))) is).1 in
    let no_end : sees_end (tx_events h) s (end_of h v.id.number) ≡ false = grind (arith, common_steps, none) in
    let alive = alive_by (tx_events h) x.by.number (w x.by.number) (world.aborted x.by.number) counts in
    unseen_end (tx_events h) s (end_of h v.id.number) x (end_counts h v.id.number x legal end alive) no_end

shows_to : (h : History) (s : TakenSnapshot) (v : Version) (w : World) → IsLegal h → IsWorld (tx_events h) w → w s.tx ≡ true → IsOlder (tx_events h) s → is_seen h s v ≡ true → (w v.by.number ≡ true) × ShowsTo (tx_events h) (row_events h) w s v
shows_to h s v w legal world own old is =
    let birth = seen_birth h s v is in
    let counts_v = counts_in (tx_events h) w s v.by.number v.cmd world own old birth in (
      counts_v,
      (
        seen_in (tx_events h) w s v.by.number v.cmd counts_v birth,
        λ x end. elim (cases_Bool (sees_in (tx_events h) w s x.by.number x.cmd)) [
          | inr n ↦ n
          | inl y ↦
              let seen : sees (tx_events h) s x.by.number x.cmd ≡ true = seen_of (tx_events h) w s x.by.number x.cmd world y in
              let counts = counts_in (tx_events h) w s x.by.number x.cmd world own old seen in
              absurd (both_ways (sees (tx_events h) s x.by.number x.cmd) seen (no_end_seen h s v w x legal world is end counts))
        ],
      ),
    )

-- a fresh snapshot sees what is committed

no_command : (a b : Bool) (c : ℕ) → (a || (b && nat_lt c 0)) ≡ a
no_command a b c = let out : nat_lt c 0 ≡ false = grind (arith, nat_tests) in rw out (grind (arith, common_steps))

fresh_sees : (txs : TxEvents) (session t c : ℕ) → sees txs (fresh txs session) t c ≡ is_committed (fate txs t)
fresh_sees txs session t c = no_command (is_committed (fate txs t)) (t == (fresh txs session).tx) c

fresh_shows : (h : History) (session : ℕ) (v : Version) (w : World) → IsLegal h → IsWorld (tx_events h) w → is_seen h (fresh (tx_events h) session) v ≡ true → MayShow (tx_events h) (snapshot_events h) (row_events h) w v
fresh_shows h session v w legal world is =
    let s : TakenSnapshot = fresh (tx_events h) session in
    let birth : is_committed (fate (tx_events h) v.by.number) ≡ true = sym (fresh_sees (tx_events h) session v.by.number v.cmd) ∙ seen_birth h s v is in (
      world.committed v.by.number (committed_of (fate (tx_events h) v.by.number) birth),
      inl (
        committed_only (tx_events h),
        committed_world (tx_events h),
        committed_part (tx_events h) w world,
        (
          birth,
          λ x end. elim (cases_Bool (is_committed (fate (tx_events h) x.by.number))) [
            | inr n ↦ n
            | inl y ↦ absurd (both_ways (is_committed (fate (tx_events h) x.by.number)) y (sym (fresh_sees (tx_events h) session x.by.number x.cmd) ∙ no_end_seen h s v (committed_only (tx_events h)) x legal (committed_world (tx_events h)) is end y))
          ],
        ),
      ),
    )

pub looking_shows : (h : History) (session : ℕ) (s : TakenSnapshot) (v : Version) → IsLegal h → InvariantOf h → IsLooking h session s → IsVersion (row_events h) v → is_seen h s v ≡ true → MayShow (tx_events h) (snapshot_events h) (row_events h) (counts (tx_events h) session) v
looking_shows h session s v legal i (inl (at, own)) is seen =
    let k = shows_to h s v (counts (tx_events h) session) legal (counts_world (tx_events h) session (sound_of h legal)) own (older h session s legal at) seen in
    (k.0, inr (session, s, at, k.1))
looking_shows h session s v legal i (inr (inl may)) is seen =
    let world = counts_world (tx_events h) session (sound_of h legal) in
    let taken = taken_of h session s legal may in
    let old = older_timely h session s (held_by (snapshot_events h) session) refl (λ x at. older h session x legal at) taken.timely in
    let k = shows_to h s v (counts (tx_events h) session) legal world (own_counts (tx_events h) session s.tx may.0.own) old seen in
    held_new h session s (counts (tx_events h) session) v (held_by (snapshot_events h) session) refl taken.timely taken i world is k.0 k.1
looking_shows h session s v legal i (inr (inr same)) is seen =
    fresh_shows h session v (counts (tx_events h) session) legal (counts_world (tx_events h) session (sound_of h legal)) (subst (λ (x : TakenSnapshot). is_seen h x v ≡ true) same seen)

-- ---- what such a snapshot sees counts for the session

pub looking_counts : (h : History) (session : ℕ) (s : TakenSnapshot) (t c : ℕ) → IsLegal h → IsLooking h session s → sees (tx_events h) s t c ≡ true → counts (tx_events h) session t ≡ true
looking_counts h session s t c legal (inl (at, own)) seen = counts_in (tx_events h) (counts (tx_events h) session) s t c (counts_world (tx_events h) session (sound_of h legal)) own (older h session s legal at) seen
looking_counts h session s t c legal (inr (inl may)) seen =
    let taken = taken_of h session s legal may in
    let old = older_timely h session s (held_by (snapshot_events h) session) refl (λ x at. older h session x legal at) taken.timely in
    counts_in (tx_events h) (counts (tx_events h) session) s t c (counts_world (tx_events h) session (sound_of h legal)) (own_counts (tx_events h) session s.tx may.0.own) old seen
looking_counts h session s t c legal (inr (inr same)) seen =
    let fresh_seen : sees (tx_events h) (fresh (tx_events h) session) t c ≡ true = subst (λ (x : TakenSnapshot). sees (tx_events h) x t c ≡ true) same seen in
    let done : is_committed (fate (tx_events h) t) ≡ true = sym (fresh_sees (tx_events h) session t c) ∙ fresh_seen in
    rw done refl
