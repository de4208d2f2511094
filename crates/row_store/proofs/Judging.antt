-- What is judged by what is kept is what the history says.
use Rattle.std.proofs.Common.{◌≡◌, ℕ, ◌+◌, ◌<◌, ◌==◌, ◌&&◌, ◌||◌, not, zero, suc, arith, ap, sym, ◌∙◌, refl, List, [], ◌∷◌, ◌++◌, Option, Some, None, map, filter, true, false, Bool, if◌then◌else◌, inl, inr, length, slice_index_or, subst, take, drop, get_or, find, option_map, nat_lt, ◌≤◌}
use Rattle.std.specs.Option.{option_or}
use Rattle.std.specs.List.{list_any, flat_map, Contains, All}
use Rattle.std.proofs.lemmas.Bool.{cases_Bool}
use Rattle.std.proofs.lemmas.Bool.Decides.{nat_tests}
use Rattle.std.proofs.lemmas.List.{map-append, take_more, append-nil, take-append-drop}
use Rattle.std.proofs.lemmas.List.Elements.{All-head, All-tail, All-weaker}
use Rattle.std.proofs.lemmas.List.Folds.{find-append, list_any-append}
use Rattle.std.proofs.lemmas.List.Concat.{flat_map-append}
use Rattle.pg_values.specs.declared.value.Value.{Value}
use Rattle.pg_values.specs.declared.ids.LeafId.{LeafId}
use Rattle.pg_values.specs.declared.ids.RowId.{RowId}
use Rattle.pg_values.specs.declared.session_set.SessionSet.{SessionSet}
use Rattle.pg_values.specs.Sets.{has}
use Rattle.history.specs.declared.transaction.Fate.TheVariants.{Running, Aborted}
use Rattle.history.specs.declared.version.Version.{Version}
use Rattle.history.specs.declared.version.End.{End}
use Rattle.history.specs.Transactions.{was_aborted, is_committed, fate, sees_now}
use Rattle.history.specs.Snapshots.{held_by}
use Rattle.history.specs.Rows.{counted}
use Rattle.history.specs.History.{History, tx_events, snapshot_events, end_of}
use Rattle.history.specs.Thinned.{Thins}
use Rattle.history.specs.Dead.{is_held_seen, IsDead}
use Rattle.history.proofs.Dead.{held_unseen}
use Rattle.history.proofs.Thinned.{thin_find, thin_any, thin_passed, thin_flat_map}
use Rattle.tx_table.specs.Kept.{KeptTable}
use Rattle.tx_table.specs.Stands.{TableStands, IsOpen, sees_now_by}
use Rattle.row_store.specs.declared.stored.Stored.{Stored}
use Rattle.row_store.specs.declared.judge.Verdict.{Verdict}
use Rattle.row_store.specs.declared.judge.Verdict.TheVariants.{Clean, Violator, Seen}
use Rattle.row_store.specs.Kept.{KeptRows, blank, no_id, version_of, stored_at, listed_in, IsOf, AreListed, AreBelow}
use Rattle.row_store.specs.Stands.{StoreStands, counts}
use Rattle.row_store.specs.Judged.{ends_for, is_live, refusing, seeing, versions_in, all_versions_in, ends_for_by, is_live_by, shows_if_held, is_held_shown, refuses_by, all_listed_in, refusing_by, seeing_by, IsVerdict, IsFound}
use Rattle.row_store.proofs.Held.{counts_running_or_committed, held_is}
use Rattle.row_store.proofs.DeadVersions.{dead_refuses}
use Rattle.row_store.proofs.Changes.{by_runs, ends_told}
use Rattle.row_store.proofs.Shown.{all_below}

-- what stands past the end
abbrev pub no_leaf : LeafId
no_leaf = record { number = 0 }

-- ---- one version

ends_is : (table : KeptTable) (h : History) (me : ℕ) (v : Version) (o : Option End) → TableStands table h → ends_for_by table me v o ≡ ends_for (tx_events h) me v (counted (tx_events h) o)
ends_is table h me v None st = refl
ends_is table h me v (Some e) st = elim (cases_Bool (was_aborted (tx_events h) e.by.number)) [
  | inl was ↦ let f : slice_index_or table.fates e.by.number Running ≡ Aborted = st.fates e.by.number ∙ rw was refl in rw (f, was) refl
  | inr lives ↦
      let c : counts (slice_index_or table.fates e.by.number Running) ≡ true = ap counts (st.fates e.by.number) ∙ rw lives (counts_running_or_committed _) in
      let same : (is_committed (slice_index_or table.fates e.by.number Running) || ((e.by.number == me) && (v.by.number == me))) ≡ (is_committed (fate (tx_events h) e.by.number) || ((e.by.number == me) && (v.by.number == me))) = ap (λ f. is_committed f || ((e.by.number == me) && (v.by.number == me))) (st.fates e.by.number) in
      let out : ends_for (tx_events h) me v (counted (tx_events h) (Some e)) ≡ (is_committed (fate (tx_events h) e.by.number) || ((e.by.number == me) && (v.by.number == me))) = ap (λ b. ends_for (tx_events h) me v (if b then None else Some e)) lives in
      ap (λ b. b && (is_committed (slice_index_or table.fates e.by.number Running) || ((e.by.number == me) && (v.by.number == me)))) c ∙ same ∙ sym out
]

live_is : (table : KeptTable) (h : History) (me : ℕ) (x : Stored) → TableStands table h → counted (tx_events h) x.ended ≡ end_of h x.version.id.number → is_live_by table me x ≡ is_live h me x.version
live_is table h me x st e =
    let born : sees_now_by table me x.version.by.number ≡ sees_now (tx_events h) me x.version.by.number = ap (λ f. is_committed f || (x.version.by.number == me)) (st.fates x.version.by.number) in
    let ends : ends_for_by table me x.version x.ended ≡ ends_for (tx_events h) me x.version (end_of h x.version.id.number) = ends_is table h me x.version x.ended st ∙ ap (ends_for (tx_events h) me x.version) e in
    ap (λ b. b && not (ends_for_by table me x.version x.ended)) born ∙ ap (λ b. sees_now (tx_events h) me x.version.by.number && not b) ends

-- a version that is kept is told of as the history tells of it
abbrev pub IsTold : KeptTable → History → Stored → Type 0
IsTold table h x = ((me : ℕ) → is_live_by table me x ≡ is_live h me x.version) × ((r : ℕ) → is_held_shown table r x ≡ is_held_seen h r x.version)

told : (table : KeptTable) (h : History) (x : Stored) → TableStands table h → counted (tx_events h) x.ended ≡ end_of h x.version.id.number → IsTold table h x
told table h x st e = (λ me. live_is table h me x st e, λ r. held_is table h x (slice_index_or table.held r None) (held_by (snapshot_events h) r) st (st.held r) e)

-- ---- each of a list

abbrev pub Each : (Stored → Type 0) → List Stored → Type 0
Each P [] = Unit {0}
Each P (x ∷ xs) = P x × Each P xs

each_at : (P : Stored → Type 0) (xs : List Stored) → ((k : ℕ) → k < length xs → P (slice_index_or xs k blank)) → Each P xs
each_at P [] all = tt
each_at P (x ∷ xs) all = (all 0 (omega arith), each_at P xs (λ k lt. all (suc k) (omega (arith, lt))))

each_append : (P : Stored → Type 0) (xs ys : List Stored) → Each P xs → Each P ys → Each P (xs ++ ys)
each_append P [] ys a b = b
each_append P (x ∷ xs) ys a b = (a.0, each_append P xs ys a.1 b)

each_get : (P : Stored → Type 0) (xs : List Stored) (k : ℕ) → k < length xs → Each P xs → P (slice_index_or xs k blank)
each_get P [] k lt all = absurd (omega arith)
each_get P (x ∷ xs) zero lt all = all.0
each_get P (x ∷ xs) (suc k) lt all = each_get P xs k (omega (arith, lt)) all.1

each_listed : (P : Stored → Type 0) (V : List Stored) (l : ℕ) (ids : List RowId) → Each P V → All (IsOf V l) ids → Each P (map (stored_at V) ids)
each_listed P V l [] each all = tt
each_listed P V l (i ∷ ids) each all = (each_get P V i.number (All-head (IsOf V l) i ids all).0 each, each_listed P V l ids each (All-tail (IsOf V l) i ids all))

each_leaf : (P : Stored → Type 0) (V : List Stored) (ls : List (List RowId)) (leaves : List LeafId) → AreListed V ls → All (λ leaf. leaf.number < length ls) leaves → Each P V → Each P (all_listed_in V ls leaves)
each_leaf P V ls [] all known each = tt
each_leaf P V ls (l ∷ leaves) all known each =
    let K : LeafId → Type 0 = λ leaf. leaf.number < length ls in
    each_append P (listed_in V ls l.number) (all_listed_in V ls leaves) (each_listed P V l.number (slice_index_or ls l.number []) each (all.lists l.number (All-head K l leaves known))) (each_leaf P V ls leaves all (All-tail K l leaves known) each)

-- the versions that the leaves list are theirs without some that are dead
versions_of : (V : List Stored) (ls : List (List RowId)) (leaves : List LeafId) → map version_of (all_listed_in V ls leaves) ≡ flat_map (λ leaf. map version_of (listed_in V ls leaf.number)) leaves
versions_of V ls [] = refl
versions_of V ls (l ∷ leaves) = map-append version_of (listed_in V ls l.number) (all_listed_in V ls leaves) ∙ ap (λ vs. map version_of (listed_in V ls l.number) ++ vs) (versions_of V ls leaves)

all_thin : (kept : KeptRows) (h : History) (leaves : List LeafId) → All (λ leaf. leaf.number < kept.leaves) leaves → StoreStands kept h → Thins (IsDead h) (all_versions_in h leaves) (map version_of (all_listed_in kept.stored kept.listed leaves))
all_thin kept h leaves known st =
    subst (Thins (IsDead h) (all_versions_in h leaves)) (sym (versions_of kept.stored kept.listed leaves))
    (thin_flat_map (IsDead h) (versions_in h) (λ leaf. map version_of (listed_in kept.stored kept.listed leaf.number)) leaves
    (All-weaker (λ leaf. leaf.number < kept.leaves) (λ leaf. Thins (IsDead h) (versions_in h leaf) (map version_of (listed_in kept.stored kept.listed leaf.number))) (λ leaf lt. st.lists leaf.number lt) leaves known))

-- ---- the first that refuses, and who sees one

find_told : (table : KeptTable) (h : History) (session me : ℕ) (b : List Value → Bool) (xs : List Stored) → Each (IsTold table h) xs
    → find (λ v. is_live h me v || is_held_seen h session v) (filter (λ v. b v.row) (map version_of xs)) ≡ option_map version_of (refusing_by table session me b xs)
find_told table h session me b [] all = refl
find_told table h session me b (x ∷ xs) all =
    let rest = find_told table h session me b xs all.1 in
    let same : refuses_by table session me x ≡ (is_live h me x.version || is_held_seen h session x.version) = ap (λ c. c || is_held_shown table session x) (all.0.0 me) ∙ ap (λ c. is_live h me x.version || c) (all.0.1 session) in
    elim (cases_Bool (b x.version.row)) [
      | inr holds ↦ rw (holds, rest) refl
      | inl breaks ↦ elim (cases_Bool (is_live h me x.version || is_held_seen h session x.version)) [
        | inl against ↦ let kept : refuses_by table session me x ≡ true = same ∙ against in rw (breaks, against, kept) refl
        | inr no_one ↦ let kept : refuses_by table session me x ≡ false = same ∙ no_one in rw (breaks, no_one, kept, rest) refl
      ]
    ]

any_told : (table : KeptTable) (h : History) (r : ℕ) (b : List Value → Bool) (xs : List Stored) → Each (IsTold table h) xs
    → list_any (is_held_seen h r) (filter (λ v. b v.row) (map version_of xs)) ≡ list_any (λ x. b x.version.row && is_held_shown table r x) xs
any_told table h r b [] all = refl
any_told table h r b (x ∷ xs) all =
    let rest = any_told table h r b xs all.1 in
    let same : is_held_shown table r x ≡ is_held_seen h r x.version = all.0.1 r in
    elim (cases_Bool (b x.version.row)) [
      | inr holds ↦ rw (holds, rest) refl
      | inl breaks ↦ rw (breaks, rest, same) refl
    ]

all_told : (table : KeptTable) (kept : KeptRows) (h : History) → ((k : ℕ) → k < length kept.stored → (slice_index_or kept.stored k blank).version.id.number ≡ k) → TableStands table h → StoreStands kept h → Each (IsTold table h) kept.stored
all_told table kept h numbered txs st = each_at (IsTold table h) kept.stored (λ k lt. told table h (slice_index_or kept.stored k blank) txs (ends_told kept h numbered st k lt))

-- what is asked of the leaves of a store
pub record AreAsked (table : KeptTable) (kept : KeptRows) (h : History) (leaves : List LeafId) : Type 0 where
  pub all : AreListed kept.stored kept.listed
  pub count : kept.leaves ≡ length kept.listed
  pub known : All (λ leaf. leaf.number < kept.leaves) leaves
  pub txs : TableStands table h
  pub store : StoreStands kept h

asked_told : (table : KeptTable) (kept : KeptRows) (h : History) (leaves : List LeafId) → AreAsked table kept h leaves → Each (IsTold table h) (all_listed_in kept.stored kept.listed leaves)
asked_told table kept h leaves are =
    let known : All (λ (leaf : LeafId). leaf.number < length kept.listed) leaves = subst (λ n. All (λ (leaf : LeafId). leaf.number < n) leaves) are.count are.known in
    each_leaf (IsTold table h) kept.stored kept.listed leaves are.all known (all_told table kept h are.all.numbered are.txs are.store)

pub refusing_is : (table : KeptTable) (kept : KeptRows) (h : History) (session me : ℕ) (leaves : List LeafId) (b : List Value → Bool) → fate (tx_events h) me ≡ Running → AreAsked table kept h leaves
    → refusing h session me leaves b ≡ option_map version_of (refusing_by table session me b (all_listed_in kept.stored kept.listed leaves))
refusing_is table kept h session me leaves b runs are =
    let P : Version → Bool = λ v. is_live h me v || is_held_seen h session v in
    let R : Version → Bool = λ v. b v.row in
    let listed : List Stored = all_listed_in kept.stored kept.listed leaves in
    let thin = thin_passed (IsDead h) R (all_versions_in h leaves) (map version_of listed) (all_thin kept h leaves are.known are.store) in
    sym (thin_find (IsDead h) P (λ v dead. dead_refuses h session me v runs dead) (filter R (all_versions_in h leaves)) (filter R (map version_of listed)) thin)
    ∙ find_told table h session me b listed (asked_told table kept h leaves are)

pub seeing_is : (table : KeptTable) (kept : KeptRows) (h : History) (session : ℕ) (leaves : List LeafId) (b : List Value → Bool) (r : ℕ) → AreAsked table kept h leaves
    → seeing h session leaves b r ≡ seeing_by table session b (all_listed_in kept.stored kept.listed leaves) r
seeing_is table kept h session leaves b r are =
    let R : Version → Bool = λ v. b v.row in
    let listed : List Stored = all_listed_in kept.stored kept.listed leaves in
    let thin = thin_passed (IsDead h) R (all_versions_in h leaves) (map version_of listed) (all_thin kept h leaves are.known are.store) in
    ap (λ c. not (r == session) && c) (
    sym (thin_any (IsDead h) (is_held_seen h r) (λ v dead. held_unseen h r v dead) (filter R (all_versions_in h leaves)) (filter R (map version_of listed)) thin)
    ∙ any_told table h r b listed (asked_told table kept h leaves are)
    )

-- ---- one more version, or leaf

refusing_none : (p : Stored → Bool) (xs ys : List Stored) → find p xs ≡ None → find p ys ≡ None → find p (xs ++ ys) ≡ None
refusing_none p xs ys a b = find-append p xs ys ∙ ap (λ o. option_or o (find p ys)) a ∙ b

refusing_next : (p : Stored → Bool) (xs ys : List Stored) (x : Stored) → find p xs ≡ None → find p ys ≡ Some x → find p (xs ++ ys) ≡ Some x
refusing_next p xs ys x a b = find-append p xs ys ∙ ap (λ o. option_or o (find p ys)) a ∙ b

refusing_stays : (p : Stored → Bool) (xs ys : List Stored) (x : Stored) → find p xs ≡ Some x → find p (xs ++ ys) ≡ Some x
refusing_stays p xs ys x a = find-append p xs ys ∙ ap (λ o. option_or o (find p ys)) a

either : (n a b : Bool) → (n && (a || b)) ≡ ((n && a) || (n && b))
either true a b = refl
either false a b = refl

pub seeing_both : (table : KeptTable) (session : ℕ) (b : List Value → Bool) (xs ys : List Stored) (r : ℕ) → seeing_by table session b (xs ++ ys) r ≡ (seeing_by table session b xs r || seeing_by table session b ys r)
seeing_both table session b xs ys r =
    ap (λ c. not (r == session) && c) (list_any-append (λ (x : Stored). b x.version.row && is_held_shown table r x) xs ys)
    ∙ either (not (r == session)) (list_any (λ (x : Stored). b x.version.row && is_held_shown table r x) xs) (list_any (λ (x : Stored). b x.version.row && is_held_shown table r x) ys)

-- the versions with one more number
versions_more : (V : List Stored) (ids : List RowId) (i : ℕ) (d : RowId) → i < length ids → map (stored_at V) (take (i + 1) ids) ≡ map (stored_at V) (take i ids) ++ stored_at V (get_or ids i d) ∷ []
versions_more V ids i d lt = ap (map (stored_at V)) (take_more ids i d lt) ∙ map-append (stored_at V) (take i ids) (get_or ids i d ∷ [])

one_none : (p : Stored → Bool) (x : Stored) → p x ≡ false → find p (x ∷ []) ≡ None
one_none p x e = rw e refl

one_some : (p : Stored → Bool) (x : Stored) → p x ≡ true → find p (x ∷ []) ≡ Some x
one_some p x e = rw e refl

or_none : (b : Bool) → (b || false) ≡ b
or_none true = refl
or_none false = refl

-- a version that does not refuse, and who sees it break the test
pub next_passes : (table : KeptTable) (session me : ℕ) (b : List Value → Bool) (V : List Stored) (ids : List RowId) (i : ℕ) (d : RowId) (x : Stored) → i < length ids → x ≡ stored_at V (get_or ids i d)
    → refusing_by table session me b (map (stored_at V) (take i ids)) ≡ None → (b x.version.row && refuses_by table session me x) ≡ false
    → refusing_by table session me b (map (stored_at V) (take (i + 1) ids)) ≡ None
next_passes table session me b V ids i d x lt at before out =
    let p : Stored → Bool = λ y. b y.version.row && refuses_by table session me y in
    let out_at : p (stored_at V (get_or ids i d)) ≡ false = subst (λ y. p y ≡ false) at out in
    ap (find p) (versions_more V ids i d lt) ∙ refusing_none p (map (stored_at V) (take i ids)) (stored_at V (get_or ids i d) ∷ []) before (one_none p (stored_at V (get_or ids i d)) out_at)

pub next_seen : (table : KeptTable) (session : ℕ) (b : List Value → Bool) (V : List Stored) (ids : List RowId) (i : ℕ) (d : RowId) (x : Stored) (old more new : SessionSet) (r : ℕ) → i < length ids → x ≡ stored_at V (get_or ids i d)
    → has old r ≡ seeing_by table session b (map (stored_at V) (take i ids)) r → has more r ≡ (not (r == session) && (b x.version.row && is_held_shown table r x)) → has new r ≡ (has old r || has more r)
    → has new r ≡ seeing_by table session b (map (stored_at V) (take (i + 1) ids)) r
next_seen table session b V ids i d x old more new r lt at before here both =
    let P : Stored → Bool = λ y. not (r == session) && (b y.version.row && is_held_shown table r y) in
    let one : seeing_by table session b (stored_at V (get_or ids i d) ∷ []) r ≡ P (stored_at V (get_or ids i d)) = ap (λ c. not (r == session) && c) (or_none _) in
    both ∙ ap (λ c. c || has more r) before ∙ ap (λ c. seeing_by table session b (map (stored_at V) (take i ids)) r || c) (here ∙ ap P at ∙ sym one)
    ∙ sym (seeing_both table session b (map (stored_at V) (take i ids)) (stored_at V (get_or ids i d) ∷ []) r)
    ∙ ap (λ xs. seeing_by table session b xs r) (sym (versions_more V ids i d lt))

-- a version that refuses is the first of all
pub next_refuses : (table : KeptTable) (session me : ℕ) (b : List Value → Bool) (V : List Stored) (ids : List RowId) (i : ℕ) (d : RowId) (x : Stored) → i < length ids → x ≡ stored_at V (get_or ids i d)
    → refusing_by table session me b (map (stored_at V) (take i ids)) ≡ None → (b x.version.row && refuses_by table session me x) ≡ true
    → refusing_by table session me b (map (stored_at V) ids) ≡ Some x
next_refuses table session me b V ids i d x lt at before against =
    let p : Stored → Bool = λ y. b y.version.row && refuses_by table session me y in
    let yes_at : p (stored_at V (get_or ids i d)) ≡ true = subst (λ y. p y ≡ true) at against in
    let so_far : find p (map (stored_at V) (take (i + 1) ids)) ≡ Some (stored_at V (get_or ids i d)) = ap (find p) (versions_more V ids i d lt) ∙ refusing_next p (map (stored_at V) (take i ids)) (stored_at V (get_or ids i d) ∷ []) (stored_at V (get_or ids i d)) before (one_some p (stored_at V (get_or ids i d)) yes_at) in
    let whole : map (stored_at V) ids ≡ map (stored_at V) (take (i + 1) ids) ++ map (stored_at V) (drop (i + 1) ids) = ap (map (stored_at V)) (sym (take-append-drop (i + 1) ids)) ∙ map-append (stored_at V) (take (i + 1) ids) (drop (i + 1) ids) in
    ap (find p) whole ∙ refusing_stays p _ (map (stored_at V) (drop (i + 1) ids)) _ so_far ∙ ap (λ y. Some y) (sym at)

-- what a leaf lists, read from its list
pub listed_is : (V : List Stored) (ls : List (List RowId)) (leaf : LeafId) (ids : List RowId) → ids ≡ slice_index_or ls leaf.number [] → map (stored_at V) ids ≡ listed_in V ls leaf.number
listed_is V ls leaf ids at = ap (map (stored_at V)) at

listed_more : (V : List Stored) (ls : List (List RowId)) (leaves : List LeafId) (i : ℕ) (d : LeafId) → i < length leaves → all_listed_in V ls (take (i + 1) leaves) ≡ all_listed_in V ls (take i leaves) ++ listed_in V ls (get_or leaves i d).number
listed_more V ls leaves i d lt =
    ap (all_listed_in V ls) (take_more leaves i d lt)
    ∙ flat_map-append (λ (leaf : LeafId). listed_in V ls leaf.number) (take i leaves) (get_or leaves i d ∷ [])
    ∙ ap (λ xs. all_listed_in V ls (take i leaves) ++ xs) (append-nil (listed_in V ls (get_or leaves i d).number))

pub leaf_passes : (table : KeptTable) (session me : ℕ) (b : List Value → Bool) (V xs : List Stored) (ls : List (List RowId)) (leaves : List LeafId) (i : ℕ) (d : LeafId) → i < length leaves → xs ≡ listed_in V ls (get_or leaves i d).number
    → refusing_by table session me b (all_listed_in V ls (take i leaves)) ≡ None → refusing_by table session me b xs ≡ None
    → refusing_by table session me b (all_listed_in V ls (take (i + 1) leaves)) ≡ None
leaf_passes table session me b V xs ls leaves i d lt at before here =
    let p : Stored → Bool = λ y. b y.version.row && refuses_by table session me y in
    ap (find p) (listed_more V ls leaves i d lt) ∙ refusing_none p (all_listed_in V ls (take i leaves)) (listed_in V ls (get_or leaves i d).number) before (ap (find p) (sym at) ∙ here)

pub leaf_seen : (table : KeptTable) (session : ℕ) (b : List Value → Bool) (V xs : List Stored) (ls : List (List RowId)) (leaves : List LeafId) (i : ℕ) (d : LeafId) (old more new : SessionSet) (r : ℕ) → i < length leaves → xs ≡ listed_in V ls (get_or leaves i d).number
    → has old r ≡ seeing_by table session b (all_listed_in V ls (take i leaves)) r → has more r ≡ seeing_by table session b xs r → has new r ≡ (has old r || has more r)
    → has new r ≡ seeing_by table session b (all_listed_in V ls (take (i + 1) leaves)) r
leaf_seen table session b V xs ls leaves i d old more new r lt at before here both =
    both ∙ ap (λ c. c || has more r) before ∙ ap (λ c. seeing_by table session b (all_listed_in V ls (take i leaves)) r || c) (here ∙ ap (λ ys. seeing_by table session b ys r) at)
    ∙ sym (seeing_both table session b (all_listed_in V ls (take i leaves)) (listed_in V ls (get_or leaves i d).number) r)
    ∙ ap (λ ys. seeing_by table session b ys r) (sym (listed_more V ls leaves i d lt))

pub leaf_refuses : (table : KeptTable) (session me : ℕ) (b : List Value → Bool) (V xs : List Stored) (ls : List (List RowId)) (leaves : List LeafId) (i : ℕ) (d : LeafId) (x : Stored) → i < length leaves → xs ≡ listed_in V ls (get_or leaves i d).number
    → refusing_by table session me b (all_listed_in V ls (take i leaves)) ≡ None → refusing_by table session me b xs ≡ Some x
    → refusing_by table session me b (all_listed_in V ls leaves) ≡ Some x
leaf_refuses table session me b V xs ls leaves i d x lt at before here =
    let p : Stored → Bool = λ y. b y.version.row && refuses_by table session me y in
    let so_far : find p (all_listed_in V ls (take (i + 1) leaves)) ≡ Some x = ap (find p) (listed_more V ls leaves i d lt) ∙ refusing_next p (all_listed_in V ls (take i leaves)) (listed_in V ls (get_or leaves i d).number) x before (ap (find p) (sym at) ∙ here) in
    let whole : all_listed_in V ls leaves ≡ all_listed_in V ls (take (i + 1) leaves) ++ all_listed_in V ls (drop (i + 1) leaves) = ap (all_listed_in V ls) (sym (take-append-drop (i + 1) leaves)) ∙ flat_map-append (λ (leaf : LeafId). listed_in V ls leaf.number) (take (i + 1) leaves) (drop (i + 1) leaves) in
    ap (find p) whole ∙ refusing_stays p _ (all_listed_in V ls (drop (i + 1) leaves)) x so_far

leaf_is : (a b : LeafId) → (a.number == b.number) ≡ true → a ≡ b
leaf_is a b e =
    let n : a.number ≡ b.number = grind (arith, nat_tests, e) in
    let made : ℕ → LeafId = λ m. record { number = m } in
    ap made n

version_there : (V : List Stored) (k : ℕ) → k < length V → Contains (map version_of V) (slice_index_or V k blank).version
version_there [] k lt = absurd (omega arith)
version_there (x ∷ xs) zero lt = (0, omega arith, refl)
version_there (x ∷ xs) (suc k) lt = let c = version_there xs k (omega (arith, lt)) in (suc c.0, omega (arith, c.1), c.2)

-- each row that a leaf lists suits
pub leaf_suits : (suits : List Value → Type 0) (V : List Stored) (ls : List (List RowId)) (leaves : List LeafId) (leaf : LeafId) (ids : List RowId) → AreListed V ls → leaf.number < length ls → ids ≡ slice_index_or ls leaf.number [] → Contains leaves leaf
    → ((v : Version) → Contains (map version_of V) v → Contains leaves v.leaf → suits v.row)
    → (k : ℕ) → k < length ids → suits (stored_at V (slice_index_or ids k no_id)).version.row
leaf_suits suits V ls leaves leaf ids all lt at there suited k known =
    let own : All (IsOf V leaf.number) ids = subst (All (IsOf V leaf.number)) (sym at) (all.lists leaf.number lt) in
    let id : RowId = slice_index_or ids k no_id in
    let is : IsOf V leaf.number id = own k no_id known in
    let x : Stored = stored_at V id in
    suited x.version (version_there V id.number is.0) (subst (λ (l : LeafId). Contains leaves l) (sym (leaf_is x.version.leaf leaf is.1)) there)

-- ---- the verdict

-- the row that refuses
pub violator_is : (table : KeptTable) (kept : KeptRows) (h : History) (session me : ℕ) (leaves : List LeafId) (b : List Value → Bool) (x : Stored) → fate (tx_events h) me ≡ Running → AreAsked table kept h leaves
    → refusing_by table session me b (all_listed_in kept.stored kept.listed leaves) ≡ Some x → refusing h session me leaves b ≡ Some x.version
violator_is table kept h session me leaves b x runs are first = refusing_is table kept h session me leaves b runs are ∙ ap (option_map version_of) first

-- what is found where none refuses
pub verdict_is : (table : KeptTable) (kept : KeptRows) (h : History) (session me : ℕ) (leaves : List LeafId) (b : List Value → Bool) (others : SessionSet) (verdict : Verdict) → fate (tx_events h) me ≡ Running → AreAsked table kept h leaves
    → refusing_by table session me b (all_listed_in kept.stored kept.listed leaves) ≡ None → ((r : ℕ) → has others r ≡ seeing_by table session b (all_listed_in kept.stored kept.listed leaves) r) → IsFound others verdict → IsVerdict h session me leaves b verdict
verdict_is table kept h session me leaves b others Clean runs are none seen told_so =
    (refusing_is table kept h session me leaves b runs are ∙ ap (option_map version_of) none, λ r. seeing_is table kept h session leaves b r are ∙ sym (seen r) ∙ told_so r)
verdict_is table kept h session me leaves b others (Violator row) runs are none seen told_so = absurd told_so
verdict_is table kept h session me leaves b others (Seen told) runs are none seen told_so =
    let in_told : (r : ℕ) → has told r ≡ has others r = λ r. ap (λ s. has s r) told_so.0 in (
      refusing_is table kept h session me leaves b runs are ∙ ap (option_map version_of) none,
      λ r. in_told r ∙ seen r ∙ sym (seeing_is table kept h session leaves b r are),
      (told_so.1.0, in_told told_so.1.0 ∙ told_so.1.1),
    )

-- the numbers that a leaf lists are those of versions
pub numbers_below : (V : List Stored) (ls : List (List RowId)) (leaf : LeafId) (ids : List RowId) → AreListed V ls → leaf.number < length ls → ids ≡ slice_index_or ls leaf.number [] → AreBelow ids V
numbers_below V ls leaf ids all lt at = subst (λ x. AreBelow x V) (sym at) (all_below V leaf.number (slice_index_or ls leaf.number []) (all.lists leaf.number lt))

-- the same, by what the code reads
judging_runs : (table : KeptTable) (h : History) (me : ℕ) → IsOpen table me → TableStands table h → fate (tx_events h) me ≡ Running
judging_runs table h me open_me txs = (by_runs table h me open_me txs).runs

asked_by : (table : KeptTable) (V : List Stored) (ls : List (List RowId)) (room : ℕ) (value : KeptRows) (h : History) (leaves : List LeafId) → AreListed V ls → (record { stored = V; leaves = length ls; listed = ls; room = room }) ≡ value → All (λ leaf. leaf.number < value.leaves) leaves → TableStands table h → StoreStands value h
    → AreAsked table (record { stored = V; leaves = length ls; listed = ls; room = room }) h leaves
asked_by table V ls room value h leaves all view known txs st =
    let S : KeptRows → Type 0 = λ k. StoreStands k h in
    let K : KeptRows → Type 0 = λ k. All (λ (leaf : LeafId). leaf.number < k.leaves) leaves in
    record { all = all; count = refl; known = subst K (sym view) known; txs = txs; store = subst S (sym view) st }

pub judged_row : (table : KeptTable) (V W : List Stored) (ls ms : List (List RowId)) (room : ℕ) (value : KeptRows) (h : History) (session me : ℕ) (leaves : List LeafId) (b : List Value → Bool) (x : Stored) → AreListed V ls → (record { stored = V; leaves = length ls; listed = ls; room = room }) ≡ value → W ≡ V → ms ≡ ls → All (λ leaf. leaf.number < value.leaves) leaves → IsOpen table me → TableStands table h → StoreStands value h
    → refusing_by table session me b (all_listed_in W ms leaves) ≡ Some x → refusing h session me leaves b ≡ Some x.version
judged_row table V W ls ms room value h session me leaves b x all view same lists known open_me txs st e =
    let kept : KeptRows = record { stored = V; leaves = length ls; listed = ls; room = room } in
    let read : all_listed_in W ms leaves ≡ all_listed_in V ls leaves = ap (λ ys. all_listed_in ys ms leaves) same ∙ ap (λ ns. all_listed_in V ns leaves) lists in
    violator_is table kept h session me leaves b x (judging_runs table h me open_me txs) (asked_by table V ls room value h leaves all view known txs st) (ap (refusing_by table session me b) (sym read) ∙ e)

pub judged_set : (table : KeptTable) (V W : List Stored) (ls ms : List (List RowId)) (room : ℕ) (value : KeptRows) (h : History) (session me : ℕ) (leaves : List LeafId) (b : List Value → Bool) (others : SessionSet) (verdict : Verdict) → AreListed V ls → (record { stored = V; leaves = length ls; listed = ls; room = room }) ≡ value → W ≡ V → ms ≡ ls → All (λ leaf. leaf.number < value.leaves) leaves → IsOpen table me → TableStands table h → StoreStands value h
    → refusing_by table session me b (all_listed_in W ms leaves) ≡ None → ((r : ℕ) → has others r ≡ seeing_by table session b (all_listed_in W ms leaves) r) → IsFound others verdict → IsVerdict h session me leaves b verdict
judged_set table V W ls ms room value h session me leaves b others verdict all view same lists known open_me txs st none seen told_so =
    let kept : KeptRows = record { stored = V; leaves = length ls; listed = ls; room = room } in
    let read : all_listed_in W ms leaves ≡ all_listed_in V ls leaves = ap (λ ys. all_listed_in ys ms leaves) same ∙ ap (λ ns. all_listed_in V ns leaves) lists in
    verdict_is table kept h session me leaves b others verdict (judging_runs table h me open_me txs) (asked_by table V ls room value h leaves all view known txs st)
    (ap (refusing_by table session me b) (sym read) ∙ none) (λ r. seen r ∙ ap (λ ys. seeing_by table session b ys r) read) told_so

-- ---- the sessions one after the other

not_next : (k r : ℕ) → (k == r) ≡ false → nat_lt k (r + 1) ≡ nat_lt k r
not_next k r e = elim (cases_Bool (nat_lt k r)) [
  | inl t ↦ let more : nat_lt k (r + 1) ≡ true = grind (arith, nat_tests, t) in more ∙ sym t
  | inr f ↦ let less : nat_lt k (r + 1) ≡ false = grind (arith, nat_tests, f, e) in less ∙ sym f
]

pub next_session : (P : ℕ → Bool) (r k : ℕ) (a b n : Bool) → n ≡ (a || b) → a ≡ (nat_lt k r && P k) → b ≡ ((k == r) && P r) → n ≡ (nat_lt k (r + 1) && P k)
next_session P r k a b n en ea eb = elim (cases_Bool (k == r)) [
  | inl e ↦
      let same : k ≡ r = grind (arith, nat_tests, e) in
      let low : nat_lt k r ≡ false = grind (arith, nat_tests) in
      let next : nat_lt k (r + 1) ≡ true = grind (arith, nat_tests) in
      en ∙ ap (λ c. c || b) (ea ∙ ap (λ t. t && P k) low) ∙ (eb ∙ ap (λ t. t && P r) e ∙ ap P (sym same)) ∙ sym (ap (λ t. t && P k) next)
  | inr e ↦
      let same : nat_lt k (r + 1) ≡ nat_lt k r = not_next k r e in
      en ∙ ap (λ c. a || c) (eb ∙ ap (λ t. t && P r) e) ∙ or_none a ∙ ea ∙ ap (λ t. t && P k) (sym same)
]

and_none : (b : Bool) → (b && false) ≡ false
and_none true = refl
and_none false = refl

-- no session past the last one holds a snapshot
pub all_sessions : (table : KeptTable) (session n r k : ℕ) (x : Stored) (b : Bool) → n ≤ r → ((s : ℕ) → n ≤ s → slice_index_or table.held s None ≡ None)
    → b ≡ (nat_lt k r && (not (k == session) && is_held_shown table k x)) → b ≡ (not (k == session) && is_held_shown table k x)
all_sessions table session n r k x b high past e = elim (cases_Bool (nat_lt k r)) [
  | inl below ↦ e ∙ ap (λ c. c && (not (k == session) && is_held_shown table k x)) below
  | inr above ↦
      let far : r ≤ k = grind (arith, nat_tests, above) in
      let none : is_held_shown table k x ≡ false = ap (λ o. shows_if_held table o x) (past k (omega (arith, high, far))) in
      e ∙ ap (λ c. c && (not (k == session) && is_held_shown table k x)) above ∙ sym (ap (λ c. not (k == session) && c) none ∙ and_none (not (k == session)))
]
