-- Where nothing that a scan finds stands against a test, no row that it judges breaks it.
use Rattle.std.proofs.Common.{◌≡◌, ◌≢◌, ℕ, suc, zero, ◌==◌, ◌&&◌, ◌||◌, not, arith, Bool, true, false, if◌then◌else◌, List, [], ◌∷◌, ◌++◌, Option, Some, None, inl, inr, refl, ap, sym, subst, ◌∙◌, filter, find}
use Rattle.std.specs.List.{Contains, list_any}
use Rattle.std.proofs.lemmas.Bool.{cases_Bool, and_parts}
use Rattle.std.proofs.lemmas.Bool.Decides.{nat_tests}
use Rattle.std.proofs.lemmas.List.Elements.{Contains-append_left, Contains-append_right, Contains-push}
use Rattle.pg_values.specs.declared.ids.LeafId.{LeafId}
use Rattle.history.specs.declared.transaction.Fate.{Fate}
use Rattle.history.specs.declared.transaction.Fate.TheVariants.{Running, Committed, Aborted}
use Rattle.history.specs.declared.version.Version.{Version}
use Rattle.history.specs.declared.version.End.{End}
use Rattle.history.specs.Transactions.{TxEvents, fate, was_aborted, was_committed, is_committed, sees_now}
use Rattle.history.specs.Snapshots.{TakenSnapshot, sees, held_by}
use Rattle.history.specs.Rows.{RowEvents, LeafAdded, RowBorn, RowEnded, births, end_in}
use Rattle.history.specs.History.{History, tx_events, snapshot_events, row_events, versions, end_of, sees_end, is_seen}
use Rattle.row_router.specs.Histories.{ddl_tree}
use Rattle.row_router.specs.Trees.{leaves}
use Rattle.soundness.specs.Versions.{IsVersion, IsEnd}
use Rattle.soundness.specs.Worlds.{same_tx, is_running}
use Rattle.soundness.specs.Shown.{IsLive, IsSeenBy}
use Rattle.history.specs.Dead.{is_held_seen}
use Rattle.row_store.specs.Judged.{ends_for, is_live, versions_in, all_versions_in, violators}
use Rattle.legal_statements.specs.Laws.{NoneBreaks}

-- ---- what stands in lists

-- a version that there is stands in the list of all
listed : (rows : RowEvents) (v : Version) → IsVersion rows v → Contains (births rows) v
listed [] v is = absurd is
listed (LeafAdded l ∷ rows) v is = listed rows v is
listed (RowEnded k e ∷ rows) v is = listed rows v is
listed (RowBorn w ∷ rows) v (inl new) = subst (λ z. Contains (births rows ++ w ∷ []) z) new (Contains-push (births rows) w)
listed (RowBorn w ∷ rows) v (inr old) = Contains-append_left (births rows) (w ∷ []) v (listed rows v old)

first : (x : Version) (xs : List Version) → Contains (x ∷ xs) x
first x xs = (0, omega arith, refl)

later : (y : Version) (xs : List Version) (x : Version) → Contains xs x → Contains (y ∷ xs) x
later y xs x (k, lt, at) = (suc k, omega (arith, lt), at)

-- what passes stands in the filtered list
passes : (p : Version → Bool) (xs : List Version) (x : Version) → p x ≡ true → Contains xs x → Contains (filter p xs) x
passes p [] x good (k, lt, at) = absurd (omega arith)
passes p (y ∷ ys) x good (zero, lt, at) = let good_y : p y ≡ true = ap p at ∙ good in rw good_y (subst (λ z. Contains (y ∷ filter p ys) z) at (first y (filter p ys)))
passes p (y ∷ ys) x good (suc k, lt, at) =
    let rest = passes p ys x good (k, omega (arith, lt), at) in
    elim (cases_Bool (p y)) [ inl t ↦ rw t (later y (filter p ys) x rest) | inr f ↦ rw f rest ]

-- a version of one of the leaves stands in the list of these
in_leaves : (h : History) (ls : List LeafId) (v : Version) → Contains ls v.leaf → Contains (versions h) v → Contains (all_versions_in h ls) v
in_leaves h [] v (k, lt, at) is = absurd (omega arith)
in_leaves h (l ∷ ls) v (zero, lt, at) is =
    let own : (v.leaf.number == l.number) ≡ true = rw at (grind (arith, nat_tests)) in
    Contains-append_left (versions_in h l) (all_versions_in h ls) v (passes (λ w. w.leaf.number == l.number) (versions h) v own is)
in_leaves h (l ∷ ls) v (suc k, lt, at) is = Contains-append_right (versions_in h l) (all_versions_in h ls) v (in_leaves h ls v (k, omega (arith, lt), at) is)

-- none of a list passes where the first that does is none
none_found : (p : Version → Bool) (xs : List Version) (x : Version) → find p xs ≡ None → Contains xs x → p x ≡ false
none_found p [] x none (k, lt, at) = absurd (omega arith)
none_found p (y ∷ ys) x none (zero, lt, at) = elim (cases_Bool (p y)) [
  | inl good ↦ let some : find p (y ∷ ys) ≡ Some y = rw good refl in absurd (cc)
  | inr out ↦ subst (λ z. p z ≡ false) at out
]
none_found p (y ∷ ys) x none (suc k, lt, at) = elim (cases_Bool (p y)) [
  | inl good ↦ let some : find p (y ∷ ys) ≡ Some y = rw good refl in absurd (cc)
  | inr out ↦ none_found p ys x (subst (λ c. (if c then Some y else find p ys) ≡ None) out none) (k, omega (arith, lt), at)
]

-- nor where none is any
none_any : (p : Version → Bool) (xs : List Version) (x : Version) → list_any p xs ≡ false → Contains xs x → p x ≡ false
none_any p [] x none (k, lt, at) = absurd (omega arith)
none_any p (y ∷ ys) x none (zero, lt, at) = elim (cases_Bool (p y)) [
  | inl good ↦ let some : list_any p (y ∷ ys) ≡ true = rw good refl in absurd (cc)
  | inr out ↦ subst (λ z. p z ≡ false) at out
]
none_any p (y ∷ ys) x none (suc k, lt, at) = elim (cases_Bool (p y)) [
  | inl good ↦ let some : list_any p (y ∷ ys) ≡ true = rw good refl in absurd (cc)
  | inr out ↦ none_any p ys x (subst (λ c. (c || list_any p ys) ≡ false) out none) (k, omega (arith, lt), at)
]

-- ---- the words of code and those of propositions

not_true : (b : Bool) → not b ≡ true → b ≡ false
not_true true e = absurd (cc)
not_true false e = refl

-- the end that counts is one that was given, by a transaction that is not aborted
counts_is : (txs : TxEvents) (rows : RowEvents) (k : ℕ) (e : End) → end_in txs rows k ≡ Some e → IsEnd rows k e × (was_aborted txs e.by.number ≡ false)
counts_is txs [] k e is = absurd (cc)
counts_is txs (LeafAdded l ∷ rows) k e is = counts_is txs rows k e is
counts_is txs (RowBorn v ∷ rows) k e is = counts_is txs rows k e is
counts_is txs (RowEnded id x ∷ rows) k e is = elim (cases_Bool ((id == k) && not (was_aborted txs x.by.number))) [
  | inl here ↦
      let some : end_in txs (RowEnded id x ∷ rows) k ≡ Some x = rw here refl in
      let same : x ≡ e = cc in
      let b = and_parts (id == k) (not (was_aborted txs x.by.number)) here in
      let lives : was_aborted txs x.by.number ≡ false = not_true (was_aborted txs x.by.number) b.1 in
      (inl (grind (arith, nat_tests, b.0), same), subst (λ (z : End). was_aborted txs z.by.number ≡ false) same lives)
  | inr away ↦
      let rest = counts_is txs rows k e (subst (λ c. (if c then Some x else end_in txs rows k) ≡ Some e) away is) in
      (inr rest.0, rest.1)
]

uncommitted : (f : Fate) → f ≢ Committed → is_committed f ≡ false
uncommitted Running apart = refl
uncommitted Aborted apart = refl
uncommitted Committed apart = absurd (apart refl)

runs : (txs : TxEvents) (t : ℕ) → was_aborted txs t ≡ false → fate txs t ≢ Committed → fate txs t ≡ Running
runs txs t lives apart = elim (cases_Bool (was_committed txs t)) [
  | inl good ↦ let f : fate txs t ≡ Committed = rw (lives, good) refl in absurd (apart f)
  | inr out ↦ rw (lives, out) refl
]

lasts : (txs : TxEvents) (t : ℕ) → was_aborted txs t ≡ false → fate txs t ≢ Aborted
lasts txs t lives = elim (cases_Bool (was_committed txs t)) [
  | inl good ↦ λ same. let f : fate txs t ≡ Committed = rw (lives, good) refl in let bad : Committed ≡ Aborted = sym f ∙ same in cc
  | inr out ↦ λ same. let f : fate txs t ≡ Running = rw (lives, out) refl in let bad : Running ≡ Aborted = sym f ∙ same in cc
]

own_or_committed : (c o r : Bool) → (c || (o && r)) ≡ true → (c || o) ≡ true
own_or_committed true o r e = refl
own_or_committed false true r e = refl
own_or_committed false false r e = absurd (cc)

-- no end counts for the scan
no_end : (h : History) (t : ℕ) (v : Version) (o : Option End) → end_of h v.id.number ≡ o
    → ((x : End) → IsEnd (row_events h) v.id.number x → (fate (tx_events h) x.by.number ≢ Committed) × (fate (tx_events h) x.by.number ≡ Running → (x.by.number == t) ≡ true → (v.by.number == t) ≡ false))
    → ends_for (tx_events h) t v o ≡ false
no_end h t v None e ends = refl
no_end h t v (Some x) e ends =
    let is = counts_is (tx_events h) (row_events h) v.id.number x e in
    let b = ends x is.0 in
    let out : is_committed (fate (tx_events h) x.by.number) ≡ false = uncommitted (fate (tx_events h) x.by.number) b.0 in
    elim (cases_Bool ((x.by.number == t) && (v.by.number == t))) [
      | inr apart ↦ rw (out, apart) refl
      | inl both ↦
          let p = and_parts (x.by.number == t) (v.by.number == t) both in
          let not_own : (v.by.number == t) ≡ false = b.1 (runs (tx_events h) x.by.number is.1 b.0) p.0 in
          let bad : true ≡ false = sym p.1 ∙ not_own in
          absurd (cc)
    ]

live_is : (h : History) (t : ℕ) (v : Version) → IsLive (tx_events h) (row_events h) t v → is_live h t v ≡ true
unfolding same_tx
live_is h t v live =
    let own : sees_now (tx_events h) t v.by.number ≡ true = own_or_committed (is_committed (fate (tx_events h) v.by.number)) (v.by.number == t) (is_running (fate (tx_events h) v.by.number)) live.0 in
    let none : ends_for (tx_events h) t v (end_of h v.id.number) ≡ false = no_end h t v (end_of h v.id.number) refl live.1 in
    rw (own, none) refl

no_end_seen : (h : History) (s : TakenSnapshot) (v : Version) (o : Option End) → end_of h v.id.number ≡ o
    → ((x : End) → IsEnd (row_events h) v.id.number x → fate (tx_events h) x.by.number ≢ Aborted → sees (tx_events h) s x.by.number x.cmd ≡ false)
    → sees_end (tx_events h) s o ≡ false
no_end_seen h s v None e ends = refl
no_end_seen h s v (Some x) e ends =
    let is = counts_is (tx_events h) (row_events h) v.id.number x e in
    ends x is.0 (lasts (tx_events h) x.by.number is.1)

seen_is : (h : History) (s : TakenSnapshot) (v : Version) → IsSeenBy (tx_events h) (row_events h) s v → is_seen h s v ≡ true
seen_is h s v seen =
    let none : sees_end (tx_events h) s (end_of h v.id.number) ≡ false = no_end_seen h s v (end_of h v.id.number) refl seen.1 in
    rw (seen.0, none) refl

held_is : (h : History) (r : ℕ) (s : TakenSnapshot) (v : Version) → held_by (snapshot_events h) r ≡ Some s → IsSeenBy (tx_events h) (row_events h) s v → is_held_seen h r v ≡ true
held_is h r s v held seen = rw held (seen_is h s v seen)

first_false : (a b : Bool) → (a || b) ≡ false → a ≡ false
first_false true b e = absurd (cc)
first_false false b e = refl

second_false : (a b : Bool) → (a || b) ≡ false → b ≡ false
second_false true b e = absurd (cc)
second_false false b e = e

other_false : (a b : Bool) → a ≡ false → (not a && b) ≡ false → b ≡ false
other_false true b e out = absurd (cc)
other_false false b e out = out

pub none_breaks : NoneBreaks
none_breaks h session t table b none nobody v is =
    let ls : List LeafId = leaves (ddl_tree h session table) in
    elim (cases_Bool (b v.row)) [
      | inr holds ↦ holds
      | inl breaks ↦
          let there : Contains (all_versions_in h ls) v = in_leaves h ls v is.leaf (listed (row_events h) v is.version) in
          let one : Contains (violators h ls b) v = passes (λ w. b w.row) (all_versions_in h ls) v breaks there in
          let out : (is_live h t v || is_held_seen h session v) ≡ false = none_found (λ w. is_live h t w || is_held_seen h session w) (violators h ls b) v none one in
          elim is.judged [
            | inl live ↦ let bad : true ≡ false = sym (live_is h t v live) ∙ first_false (is_live h t v) (is_held_seen h session v) out in absurd (cc)
            | inr (r, s, held, seen) ↦
                let sees_it : is_held_seen h r v ≡ true = held_is h r s v held seen in
                elim (cases_Bool (r == session)) [
                  | inl own ↦
                      let same : r ≡ session = grind (arith, nat_tests, own) in
                      let bad : true ≡ false = sym sees_it ∙ ap (λ n. is_held_seen h n v) same ∙ second_false (is_live h t v) (is_held_seen h session v) out in
                      absurd (cc)
                  | inr other ↦
                      let nobody_sees = other_false (r == session) (list_any (is_held_seen h r) (violators h ls b)) other (nobody r) in
                      let bad : true ≡ false = sym sees_it ∙ none_any (is_held_seen h r) (violators h ls b) v nobody_sees one in
                      absurd (cc)
                ]
          ]
    ]
