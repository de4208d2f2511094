-- Where a CHECK of the attached table says all that the new place asks, a scan finds nothing.
use Rattle.std.proofs.Common.{◌≡◌, ◌≢◌, ℕ, zero, suc, ◌||◌, ◌&&◌, ◌⊎◌, Bool, true, false, Some, inl, inr, refl, ap, sym, subst, ◌∙◌, map}
use Rattle.std.proofs.lemmas.Bool.{cases_Bool}
use Rattle.bound_forms.specs.Accepts.{accepts}
use Rattle.bound_forms.proofs.WithinLaws.{within_accepts}
use Rattle.history.specs.declared.transaction.Fate.{Fate}
use Rattle.history.specs.declared.transaction.Fate.TheVariants.{Running, Committed, Aborted}
use Rattle.history.specs.declared.version.Version.{Version}
use Rattle.history.specs.declared.catalogue.Entry.{Entry}
use Rattle.history.specs.declared.catalogue.Check.{Check}
use Rattle.history.specs.Transactions.{TxEvents, fate, is_committed, IsRunning}
use Rattle.history.specs.Snapshots.{TakenSnapshot, held_by, sees}
use Rattle.history.specs.Legal.{IsLegal}
use Rattle.history.specs.History.{History, tx_events, snapshot_events, row_events, catalogue_events}
use Rattle.bound_forms.specs.declared.level.KeyColumn.{KeyColumn}
use Rattle.row_router.specs.Trees.{key_of}
use Rattle.bound_forms.specs.Points.{picked}
use Rattle.soundness.specs.Versions.{IsVersion}
use Rattle.soundness.specs.Worlds.{World, IsPart, HasLeaf, key_at, key_in, same_tx, is_running, view}
use Rattle.soundness.specs.Shown.{MayShow, IsLive, IsSeenBy, IsJudged, sees_in}
use Rattle.soundness.specs.Parts.{InvariantOf}
use Rattle.soundness.specs.Legal.{Has, Below, OwnsNow, Takes, MayAdd}
use Rattle.soundness.proofs.Worlds.{both_ways, split, view_world, committed_only, committed_world, committed_part, alive, alive_world}
use Rattle.soundness.proofs.Held.{clash_write, own_here}
use Rattle.soundness.proofs.Sees.{IsOlder, seen_of, counts_in, seen_in}
use Rattle.soundness.proofs.Sound.{older}
use Rattle.soundness.specs.Kept.{Passes, ChecksOf}
use Rattle.soundness.specs.Legal.{HasCheck, Implies, MaySkip}
use Rattle.soundness.proofs.CheckTables.{alive_of}

-- ---- what a scan judges may be shown in the session's world

not_in : (f : Fate) → f ≢ Committed → is_committed f ≡ false
not_in Running out = refl
not_in Aborted out = refl
not_in Committed out = absurd (out refl)

own_out : (f : Fate) (s : Bool) → f ≢ Committed → (f ≡ Running → s ≡ true → ⊥) → (is_committed f || (s && is_running f)) ≡ false
own_out Committed s out mine = absurd (out refl)
own_out Aborted true out mine = refl
own_out Aborted false out mine = refl
own_out Running true out mine = absurd (mine refl refl)
own_out Running false out mine = refl

whole_part : (txs : TxEvents) (w : World) → IsPart txs w w
whole_part txs w = record { within = λ t is. is; whole = λ t k same small large. large }

-- its birth is committed, or its own
born_by : (f : Fate) (s : Bool) → (is_committed f || (s && is_running f)) ≡ true → (f ≡ Committed) ⊎ (s ≡ true)
born_by Committed s is = inl refl
born_by Running true is = inr refl
born_by Running false is = absurd (cc)
born_by Aborted true is = inr refl
born_by Aborted false is = absurd (cc)

live_shows : (h : History) (t : ℕ) (v : Version) → IsLive (tx_events h) (row_events h) t v → MayShow (tx_events h) (snapshot_events h) (row_events h) (view (tx_events h) t) v
live_shows h t v (counts, ends) = elim (born_by (fate (tx_events h) v.by.number) (same_tx (tx_events h) t v.by.number) counts) [
  | inl committed ↦ (
    counts,
    inl (
      committed_only (tx_events h),
      committed_world (tx_events h),
      committed_part (tx_events h) (view (tx_events h) t) (view_world (tx_events h) t),
      (rw committed refl, λ x end. not_in (fate (tx_events h) x.by.number) (ends x end).0),
    ),
  )
  | inr mine ↦ (
    counts,
    inl (
      view (tx_events h) t,
      view_world (tx_events h) t,
      whole_part (tx_events h) (view (tx_events h) t),
      (counts, λ x end. own_out (fate (tx_events h) x.by.number) (same_tx (tx_events h) t x.by.number) (ends x end).0 (λ runs by_t. both_ways (same_tx (tx_events h) t v.by.number) mine ((ends x end).1 runs by_t))),
    ),
  )
]

-- in a leaf that the transaction owns, what an open snapshot sees is committed, or its own
seen_counts : (h : History) (t : ℕ) (v : Version) (x : ℕ) (s : TakenSnapshot) → InvariantOf h → IsRunning (tx_events h) t → HasLeaf (catalogue_events h) x v.leaf → OwnsNow h t x → IsVersion (row_events h) v
    → alive (tx_events h) v.by.number ≡ true → view (tx_events h) t v.by.number ≡ true
seen_counts h t v x s i acts at owns is lives =
    let all = alive_world (tx_events h) in
    elim (split (tx_events h) (alive (tx_events h)) t v.by.number all lives) [
      | inl mine ↦ mine
      | inr other ↦ absurd (clash_write h (alive (tx_events h)) t v.by.number x i all acts.runs other.0 other.1 (own_here h (alive (tx_events h)) t x all acts (alive_of (tx_events h) t acts.runs) owns) (i.open_versions.born (alive (tx_events h)) v x all is at other.0 lives))
    ]

seen_shows : (h : History) (t : ℕ) (v : Version) (x r : ℕ) (s : TakenSnapshot) → InvariantOf h → IsRunning (tx_events h) t → HasLeaf (catalogue_events h) x v.leaf → OwnsNow h t x → IsVersion (row_events h) v
    → held_by (snapshot_events h) r ≡ Some s → fate (tx_events h) s.tx ≡ Running → IsOlder (tx_events h) s → IsSeenBy (tx_events h) (row_events h) s v → MayShow (tx_events h) (snapshot_events h) (row_events h) (view (tx_events h) t) v
seen_shows h t v x r s i acts at owns is held runs old seen =
    let txs = tx_events h in
    let all = alive_world txs in
    let open_s = alive_of txs s.tx runs in
    let counts = seen_counts h t v x s i acts at owns is (counts_in txs (alive txs) s v.by.number v.cmd all open_s old seen.0) in (
      counts,
      inr (
        r,
        s,
        held,
        (
          seen_in txs (view txs t) s v.by.number v.cmd counts seen.0,
          λ y end. elim (cases_Bool (sees_in txs (view txs t) s y.by.number y.cmd)) [
            | inr out ↦ out
            | inl sees_it ↦
                let sees_too = seen_of txs (view txs t) s y.by.number y.cmd (view_world txs t) sees_it in
                absurd (both_ways (sees txs s y.by.number y.cmd) sees_too (seen.1 y end (λ aborted. both_ways (alive txs y.by.number) (counts_in txs (alive txs) s y.by.number y.cmd all open_s old sees_too) (all.aborted y.by.number aborted))))
          ],
        ),
      ),
    )

pub judged_shows : (h : History) (t : ℕ) (v : Version) (x : ℕ) → IsLegal h → InvariantOf h → IsRunning (tx_events h) t → ((r : ℕ) (s : TakenSnapshot) → held_by (snapshot_events h) r ≡ Some s → fate (tx_events h) s.tx ≡ Running)
    → HasLeaf (catalogue_events h) x v.leaf → OwnsNow h t x → IsVersion (row_events h) v → IsJudged (tx_events h) (snapshot_events h) (row_events h) t v → MayShow (tx_events h) (snapshot_events h) (row_events h) (view (tx_events h) t) v
judged_shows h t v x legal i acts looking at owns is (inl live) = live_shows h t v live
judged_shows h t v x legal i acts looking at owns is (inr (r, s, held, seen)) = seen_shows h t v x r s i acts at owns is held (looking r s held) (older h r s legal held) seen

-- ---- nothing above the new parent asks anything

no_more_above : (h : History) (e : Entry) (n top : ℕ) → MaySkip h e → Below h e.by.number (suc n) top e.parent.number → ⊥
no_more_above h e n top may (g, p, child, rest) = may.parent_alone g p child

no_entry_above : (h : History) (e f : Entry) (n : ℕ) → MaySkip h e → Has h e.by.number f → Below h e.by.number n f.child.number e.parent.number → ⊥
no_entry_above h e f zero may has up = may.parent_alone f has up
no_entry_above h e f (suc n) may has up = no_more_above h e n f.child.number may up

no_check_above : (h : History) (e : Entry) (c : Check) (n : ℕ) → MaySkip h e → HasCheck h e.by.number c → Below h e.by.number n c.table.number e.parent.number → ⊥
no_check_above h e c zero may has up = may.parent_unchecked c has up
no_check_above h e c (suc n) may has up = no_more_above h e n c.table.number may up

-- the new bound accepts what is judged in a leaf that the transaction owns
pub implied_accepts : (h : History) (e : Entry) (v : Version) (n x : ℕ) → IsLegal h → InvariantOf h → ChecksOf h → IsRunning (tx_events h) e.by.number → ((r : ℕ) (s : TakenSnapshot) → held_by (snapshot_events h) r ≡ Some s → fate (tx_events h) s.tx ≡ Running)
    → (c : Check) → Implies h e c → OwnsNow h e.by.number x → IsVersion (row_events h) v → HasLeaf (catalogue_events h) x v.leaf → Below h e.by.number n e.child.number x → IsJudged (tx_events h) (snapshot_events h) (row_events h) e.by.number v
    → accepts (key_at (catalogue_events h) e.parent.number v.row) e.bound ≡ true
implied_accepts h e v n x legal i k acts looking c says owns is at way j =
    let t = e.by.number in
    let shows = judged_shows h t v x legal i acts looking at owns is j in
    let down : Below h t n c.table.number x = subst (λ z. Below h t n z x) (sym says.child) way in
    let passes : Passes c v.row = k.checked (view (tx_events h) t) v x (view_world (tx_events h) t) is shows at c n says.kept down in
    let columns : key_of says.level v.row ≡ key_of c.kept.level v.row = ap (λ ks. picked v.row (map (λ (k : KeyColumn). k.position) ks)) says.columns in
    let key : key_at (catalogue_events h) e.parent.number v.row ≡ key_of c.kept.level v.row = ap (λ s. key_in s v.row) says.shape ∙ columns in
    subst (λ z. accepts z e.bound ≡ true) (sym key) (within_accepts c.kept.bound e.bound (key_of c.kept.level v.row) says.inside passes)

takes : (h : History) (e : Entry) (v : Version) (n x : ℕ) → IsLegal h → InvariantOf h → ChecksOf h → MaySkip h e → IsVersion (row_events h) v → HasLeaf (catalogue_events h) x v.leaf → Below h e.by.number n e.child.number x → IsJudged (tx_events h) (snapshot_events h) (row_events h) e.by.number v → Takes h e.by.number e v.row
takes h e v n x legal i k may is at way j = inl (implied_accepts h e v n x legal i k may.place.acts may.looking may.implied.0 may.implied.1 (may.child_locked n x way) is at way j)

pub skip_is_add : (h : History) (e : Entry) → IsLegal h → InvariantOf h → ChecksOf h → MaySkip h e → MayAdd h e
skip_is_add h e legal i k may = record {
  place = may.place;
  child_locked = may.child_locked;
  no_partition = may.no_partition;
  not_above = may.not_above;
  shallow = may.shallow;
  scanned = λ v n x is at way j. (takes h e v n x legal i k may is at way j, λ f m has up. absurd (no_entry_above h e f m may has up));
  passes = λ v n x is at way j c m has up. absurd (no_check_above h e c m may has up);
}
