-- Where no row that a scan judges breaks a test, the scan finds nothing.
use Rattle.std.proofs.Common.{◌≡◌, ◌≢◌, ℕ, zero, suc, ◌==◌, ◌&&◌, ◌||◌, not, arith, Bool, true, false, if◌then◌else◌, List, [], ◌∷◌, ◌⊎◌, Option, Some, None, inl, inr, refl, ap, sym, subst, ◌∙◌, All, filter, find, get_or}
use Rattle.std.specs.List.{Contains, list_any}
use Rattle.std.proofs.lemmas.Grind.{common_steps}
use Rattle.std.proofs.lemmas.Bool.{cases_Bool, and_parts}
use Rattle.std.proofs.lemmas.Bool.Decides.{nat_tests}
use Rattle.std.proofs.lemmas.List.Elements.{All-nil, All-cons, All-head, All-tail, All-append, All-filter, filter_passes}
use Rattle.std.proofs.lemmas.List.Folds.{list_any_none}
use Rattle.pg_values.specs.declared.value.Value.{Value}
use Rattle.pg_values.specs.declared.ids.LeafId.{LeafId}
use Rattle.history.specs.declared.transaction.Fate.{Fate}
use Rattle.history.specs.declared.transaction.Fate.TheVariants.{Running, Committed, Aborted}
use Rattle.history.specs.declared.version.Version.{Version}
use Rattle.history.specs.declared.version.End.{End}
use Rattle.history.specs.Transactions.{TxEvents, open_of, fate, was_aborted, was_committed, is_committed, sees_now, IsRunning}
use Rattle.history.specs.Snapshots.{TakenSnapshot, sees, held_by}
use Rattle.history.specs.Legal.{IsLegal}
use Rattle.history.specs.History.{History, tx_events, snapshot_events, row_events, versions, end_of, sees_end, is_seen}
use Rattle.row_router.specs.Histories.{ddl_tree}
use Rattle.row_router.specs.Trees.{leaves}
use Rattle.soundness.specs.Versions.{IsVersion, IsEnd}
use Rattle.soundness.specs.Worlds.{same_tx, is_running, view}
use Rattle.soundness.specs.Shown.{IsLive, IsSeenBy, IsJudged}
use Rattle.soundness.proofs.Listed.{first_in, later_in}
use Rattle.soundness.proofs.OneLeaf.{all_versions}
use Rattle.soundness.proofs.Sound.{end_counts}
use Rattle.history.specs.Dead.{is_held_seen, sees_if_held}
use Rattle.row_store.specs.Judged.{ends_for, is_live, versions_in, all_versions_in, violators}
use Rattle.legal_statements.specs.Entries.{IsScanned}
use Rattle.legal_statements.specs.Laws.{NothingIsFound}
use Rattle.legal_statements.proofs.Holding.{session_runs}

-- ---- the words of propositions and those of code

not_false : (b : Bool) → not b ≡ true → b ≡ false
not_false true e = absurd (cc)
not_false false e = refl

not_aborted : (txs : TxEvents) (t : ℕ) → fate txs t ≢ Aborted → was_aborted txs t ≡ false
not_aborted txs t other = elim (cases_Bool (was_aborted txs t)) [
  | inr out ↦ out
  | inl gone ↦ let is : fate txs t ≡ Aborted = rw gone refl in absurd (other is)
]

committed_lasts : (txs : TxEvents) (t : ℕ) → fate txs t ≡ Committed → was_aborted txs t ≡ false
committed_lasts txs t is = not_aborted txs t (λ gone. let bad : Committed ≡ Aborted = sym is ∙ gone in cc)

running_lasts : (txs : TxEvents) (t : ℕ) → fate txs t ≡ Running → was_aborted txs t ≡ false
running_lasts txs t is = not_aborted txs t (λ gone. let bad : Running ≡ Aborted = sym is ∙ gone in cc)

-- a birth that the transaction sees now counts in its view
born_in_view : (txs : TxEvents) (t k : ℕ) → fate txs t ≡ Running → sees_now txs t k ≡ true → view txs t k ≡ true
unfolding same_tx
born_in_view txs t k runs sees_it = elim (cases_Bool (is_committed (fate txs k))) [
  | inl good ↦ rw good refl
  | inr out ↦
      let own : (k == t) ≡ true = subst (λ b. (b || (k == t)) ≡ true) out sees_it in
      let same : k ≡ t = grind (arith, nat_tests, own) in
      let lives : is_running (fate txs k) ≡ true = ap (λ n. is_running (fate txs n)) same ∙ ap is_running runs in
      rw (out, own, lives) refl
]

-- the end that counts for a scan is among those that were given
ends_not : (h : History) (t : ℕ) (v : Version) (x : End) → IsLegal h → IsEnd (row_events h) v.id.number x → was_aborted (tx_events h) x.by.number ≡ false → ends_for (tx_events h) t v (end_of h v.id.number) ≡ false
    → (is_committed (fate (tx_events h) x.by.number) || ((x.by.number == t) && (v.by.number == t))) ≡ false
ends_not h t v x legal is lasts none = subst (λ (o : Option End). ends_for (tx_events h) t v o ≡ false) (end_counts h v.id.number x legal is lasts) none

left_false : (a b : Bool) → (a || b) ≡ false → a ≡ false
left_false true b e = absurd (cc)
left_false false b e = refl

right_false : (a b : Bool) → (a || b) ≡ false → b ≡ false
right_false true b e = absurd (cc)
right_false false b e = e

both_false : (a b : Bool) → (a && b) ≡ false → a ≡ true → b ≡ false
both_false true b e is = e
both_false false b e is = absurd (cc)

committed_is : (f : Fate) → f ≡ Committed → is_committed f ≡ true
committed_is f is = ap is_committed is

no_clash : (b : Bool) → b ≡ true → b ≡ false → ⊥
no_clash true is out = cc
no_clash false is out = cc

live_of : (h : History) (t : ℕ) (v : Version) → IsLegal h → fate (tx_events h) t ≡ Running → is_live h t v ≡ true → IsLive (tx_events h) (row_events h) t v
unfolding same_tx
live_of h t v legal runs live =
    let parts = and_parts (sees_now (tx_events h) t v.by.number) (not (ends_for (tx_events h) t v (end_of h v.id.number))) live in
    let none = not_false (ends_for (tx_events h) t v (end_of h v.id.number)) parts.1 in (
      born_in_view (tx_events h) t v.by.number runs parts.0,
      λ x is. (
        λ committed.
            let out = ends_not h t v x legal is (committed_lasts (tx_events h) x.by.number committed) none in
            no_clash (is_committed (fate (tx_events h) x.by.number)) (committed_is (fate (tx_events h) x.by.number) committed) (left_false (is_committed (fate (tx_events h) x.by.number)) ((x.by.number == t) && (v.by.number == t)) out),
        λ going own.
            let out = ends_not h t v x legal is (running_lasts (tx_events h) x.by.number going) none in
            both_false (x.by.number == t) (v.by.number == t) (right_false (is_committed (fate (tx_events h) x.by.number)) ((x.by.number == t) && (v.by.number == t)) out) own,
      ),
    )

seen_by : (h : History) (s : TakenSnapshot) (v : Version) → IsLegal h → is_seen h s v ≡ true → IsSeenBy (tx_events h) (row_events h) s v
seen_by h s v legal shown =
    let parts = and_parts (sees (tx_events h) s v.by.number v.cmd) (not (sees_end (tx_events h) s (end_of h v.id.number))) shown in
    let none = not_false (sees_end (tx_events h) s (end_of h v.id.number)) parts.1 in (
      parts.0,
      λ x is lasts. subst (λ (o : Option End). sees_end (tx_events h) s o ≡ false) (end_counts h v.id.number x legal is (not_aborted (tx_events h) x.by.number lasts)) none,
    )

held_of : (h : History) (r : ℕ) (v : Version) (o : Option TakenSnapshot) → IsLegal h → held_by (snapshot_events h) r ≡ o → sees_if_held h o v ≡ true → (s : TakenSnapshot) × (held_by (snapshot_events h) r ≡ Some s) × IsSeenBy (tx_events h) (row_events h) s v
held_of h r v None legal held shown = absurd (cc)
held_of h r v (Some s) legal held shown = (s, held, seen_by h s v legal shown)

judged_held : (h : History) (t r : ℕ) (v : Version) → IsLegal h → is_held_seen h r v ≡ true → IsJudged (tx_events h) (snapshot_events h) (row_events h) t v
judged_held h t r v legal shown = let s = held_of h r v (held_by (snapshot_events h) r) legal refl shown in inr (r, s.0, s.1, s.2)

-- ---- the versions in a list of leaves

record IsIn (h : History) (ls : List LeafId) (v : Version) : Type 0 where
  version : IsVersion (row_events h) v
  leaf : Contains ls v.leaf

same_leaf : (a b : LeafId) → a.number ≡ b.number → a ≡ b
same_leaf a b is = ap (λ n. record { number = n }) is

one_in : (h : History) (ls : List LeafId) (l : LeafId) → Contains ls l → All (IsIn h ls) (versions_in h l)
one_in h ls l at k d lt =
    let v : Version = get_or (versions_in h l) k d in
    let own : (v.leaf.number == l.number) ≡ true = filter_passes (λ (w : Version). w.leaf.number == l.number) (versions h) k d lt in
    let is = All-filter (λ (w : Version). w.leaf.number == l.number) (IsVersion (row_events h)) (versions h) (all_versions (row_events h)) k d lt in
    let number : v.leaf.number ≡ l.number = grind (arith, nat_tests, own) in
    record { version = is; leaf = subst (λ m. Contains ls m) (sym (same_leaf v.leaf l number)) at }

all_in : (h : History) (all ls : List LeafId) → ((l : LeafId) → Contains ls l → Contains all l) → All (IsIn h all) (all_versions_in h ls)
all_in h all [] to = All-nil (IsIn h all)
all_in h all (l ∷ ls) to = All-append (IsIn h all) (versions_in h l) (all_versions_in h ls) (one_in h all l (to l (first_in l ls))) (all_in h all ls (λ m at. to m (later_in l ls m at)))

-- those that break the test
record IsViolator (h : History) (ls : List LeafId) (breaks : List Value → Bool) (v : Version) : Type 0 where
  within : IsIn h ls v
  broken : breaks v.row ≡ true

all_break : (h : History) (ls : List LeafId) (breaks : List Value → Bool) → All (IsViolator h ls breaks) (violators h ls breaks)
all_break h ls breaks k d lt = record {
  within = All-filter (λ (w : Version). breaks w.row) (IsIn h ls) (all_versions_in h ls) (all_in h ls ls (λ l at. at)) k d lt;
  broken = filter_passes (λ (w : Version). breaks w.row) (all_versions_in h ls) k d lt;
}

-- ---- none of them refuses or is seen

none_found : (p : Version → Bool) (vs : List Version) → All (λ v. p v ≡ false) vs → find p vs ≡ None
none_found p [] all = refl
none_found p (v ∷ vs) all = let out = All-head (λ (w : Version). p w ≡ false) v vs all in rw out (none_found p vs (All-tail (λ (w : Version). p w ≡ false) v vs all))

module _ (h : History) (session t table : ℕ) (breaks : List Value → Bool) (legal : IsLegal h) (runs : fate (tx_events h) t ≡ Running) (passed : (v : Version) → IsScanned h session t table v → breaks v.row ≡ false) where
  not_judged : (v : Version) → IsViolator h (leaves (ddl_tree h session table)) breaks v → IsJudged (tx_events h) (snapshot_events h) (row_events h) t v → ⊥
  not_judged v it judged = no_clash (breaks v.row) it.broken (passed v (record { version = it.within.version; leaf = it.within.leaf; judged = judged }))

  not_seen : (r : ℕ) (v : Version) → IsViolator h (leaves (ddl_tree h session table)) breaks v → is_held_seen h r v ≡ false
  not_seen r v it = elim (cases_Bool (is_held_seen h r v)) [
    | inr out ↦ out
    | inl shown ↦ absurd (not_judged v it (judged_held h t r v legal shown))
  ]

  not_live : (v : Version) → IsViolator h (leaves (ddl_tree h session table)) breaks v → is_live h t v ≡ false
  not_live v it = elim (cases_Bool (is_live h t v)) [
    | inr out ↦ out
    | inl live ↦ absurd (not_judged v it (inl (live_of h t v legal runs live)))
  ]

  found_nothing : find (λ v. is_live h t v || is_held_seen h session v) (violators h (leaves (ddl_tree h session table)) breaks) ≡ None
  found_nothing =
      let vs = violators h (leaves (ddl_tree h session table)) breaks in
      none_found (λ v. is_live h t v || is_held_seen h session v) vs
      (λ k d lt. let v : Version = get_or vs k d in let it = all_break h (leaves (ddl_tree h session table)) breaks k d lt in let a = not_live v it in let b = not_seen session v it in rw (a, b) refl)

  seen_nowhere : (r : ℕ) → (not (r == session) && list_any (is_held_seen h r) (violators h (leaves (ddl_tree h session table)) breaks)) ≡ false
  seen_nowhere r =
      let vs = violators h (leaves (ddl_tree h session table)) breaks in
      let none : list_any (is_held_seen h r) vs ≡ false = list_any_none (is_held_seen h r) vs (λ k d lt. not_seen r (get_or vs k d) (all_break h (leaves (ddl_tree h session table)) breaks k d lt)) in
      rw none (grind (arith, common_steps))

pub nothing_is_found : NothingIsFound
nothing_is_found h session t table breaks legal own passed =
    let runs = (session_runs h session t legal own).runs in
    (found_nothing h session t table breaks legal runs passed, seen_nowhere h session t table breaks legal runs passed)
