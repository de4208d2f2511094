-- What a scan shows is what the snapshot sees.
use Rattle.std.proofs.Common.{◌≡◌, ℕ, ◌<◌, ◌≤◌, ◌==◌, ◌&&◌, not, zero, suc, arith, ap, sym, ◌∙◌, refl, List, [], ◌∷◌, map, filter, true, false, Bool, inl, inr, length, slice_index_or, subst, All}
use Rattle.std.proofs.lemmas.Bool.{cases_Bool}
use Rattle.std.proofs.lemmas.List.{length-map}
use Rattle.std.proofs.lemmas.List.Elements.{All-head, All-tail}
use Rattle.pg_values.specs.declared.value.Value.{Value}
use Rattle.pg_values.specs.declared.ids.RowId.{RowId}
use Rattle.history.specs.declared.version.Version.{Version}
use Rattle.history.specs.Transactions.{IsPast}
use Rattle.history.specs.Snapshots.{TakenSnapshot, sees}
use Rattle.history.specs.Rows.{counted}
use Rattle.history.specs.History.{History, tx_events, versions, end_of, sees_end, is_seen, seen}
use Rattle.history.specs.Dead.{IsDead, MayRead}
use Rattle.history.proofs.Dead.{dead_are_unseen}
use Rattle.history.proofs.Thinned.{thin_filter}
use Rattle.tx_table.specs.Kept.{KeptTable, KeptSnapshot}
use Rattle.tx_table.specs.Stands.{TableStands, SnapshotStands, sees_by}
use Rattle.row_store.specs.declared.stored.Stored.{Stored}
use Rattle.row_store.specs.Kept.{KeptRows, no_id, blank, version_of, stored_at, listed_in, IsOf, AreListed, AreBelow}
use Rattle.row_store.specs.Stands.{StoreStands, born_in, sees_end_by, shows_by, shown_version, shown_stored, rows_left}
use Rattle.row_store.proofs.Listing.{at_leaf}
use Rattle.row_store.proofs.Held.{shows_is}
use Rattle.row_store.proofs.DeadVersions.{read_past}
use Rattle.row_store.proofs.Changes.{ends_told}

pub mapped : (T : Version → Bool) (xs : List Stored) → filter T (map version_of xs) ≡ map version_of (filter (λ x. T x.version) xs)
mapped T [] = refl
mapped T (x ∷ xs) = elim (cases_Bool (T x.version)) [ inl e ↦ rw (e, mapped T xs) refl | inr e ↦ rw (e, mapped T xs) refl ]

twice : (p q : Version → Bool) (vs : List Version) → filter q (filter p vs) ≡ filter (λ v. p v && q v) vs
twice p q [] = refl
twice p q (v ∷ vs) = elim (cases_Bool (p v)) [
  | inl t ↦ elim (cases_Bool (q v)) [ inl u ↦ rw (t, u, twice p q vs) refl | inr u ↦ rw (t, u, twice p q vs) refl ]
  | inr f ↦ rw (f, twice p q vs) refl
]

shown_both : (xs : List Stored) → map shown_stored xs ≡ map shown_version (map version_of xs)
shown_both [] = refl
shown_both (x ∷ xs) = ap (λ r. shown_stored x ∷ r) (shown_both xs)

-- of versions with these numbers those pass that are seen
seen_among : (table : KeptTable) (ks : KeptSnapshot) (kept : KeptRows) (h : History) (s : TakenSnapshot) (l : ℕ) (ids : List RowId) → ((k : ℕ) → k < length kept.stored → (slice_index_or kept.stored k blank).version.id.number ≡ k) → TableStands table h → IsPast s.past (tx_events h) → SnapshotStands ks s → StoreStands kept h → All (IsOf kept.stored l) ids
    → filter (shows_by table ks) (map (stored_at kept.stored) ids) ≡ filter (λ x. is_seen h s x.version) (map (stored_at kept.stored) ids)
seen_among table ks kept h s l [] numbered txs past snap st all = refl
seen_among table ks kept h s l (i ∷ ids) numbered txs past snap st all =
    let x : Stored = stored_at kept.stored i in
    let there = (All-head (IsOf kept.stored l) i ids all).0 in
    let e : counted (tx_events h) x.ended ≡ end_of h x.version.id.number = ends_told kept h numbered st i.number there in
    let same : shows_by table ks x ≡ is_seen h s x.version = shows_is table ks h s x txs past snap ∙ ap (λ o. sees (tx_events h) s x.version.by.number x.version.cmd && not (sees_end (tx_events h) s o)) e in
    let rest = seen_among table ks kept h s l ids numbered txs past snap st (All-tail (IsOf kept.stored l) i ids all) in
    rw (same, rest) refl

-- what a scan of a leaf lends: what is left out is dead, and so it is unseen
pub scan_is : (table : KeptTable) (ks : KeptSnapshot) (kept : KeptRows) (ids : List RowId) (h : History) (leaf : ℕ) (s : TakenSnapshot) → AreListed kept.stored kept.listed → leaf < length kept.listed → leaf < kept.leaves → ids ≡ slice_index_or kept.listed leaf [] → TableStands table h → StoreStands kept h → MayRead s h → SnapshotStands ks s → map shown_stored (filter (shows_by table ks) (map (stored_at kept.stored) ids)) ≡ map shown_version (seen h leaf s)
scan_is table ks kept ids h leaf s all lt known at txs st may snap =
    let T : Version → Bool = is_seen h s in
    let list : List Stored = listed_in kept.stored kept.listed leaf in
    let past = read_past table h s txs may in
    let unseen : (v : Version) → IsDead h v → T v ≡ false = λ v dead. dead_are_unseen h s v txs.sound may dead in
    ap (λ is. map shown_stored (filter (shows_by table ks) (map (stored_at kept.stored) is))) at
    ∙ ap (map shown_stored) (seen_among table ks kept h s leaf (slice_index_or kept.listed leaf []) all.numbered txs past snap st (all.lists leaf lt))
    ∙ shown_both (filter (λ x. T x.version) list)
    ∙ ap (map shown_version) (
    sym (mapped T list)
    ∙ thin_filter (IsDead h) T unseen (born_in h leaf) (map version_of list) (st.lists leaf known)
    ∙ twice (λ v. v.leaf.number == leaf) T (versions h)
    )

-- the same, by what the code reads
pub scan_lends : (table : KeptTable) (ks : KeptSnapshot) (V W : List Stored) (ls : List (List RowId)) (room : ℕ) (value : KeptRows) (ids one : List RowId) (h : History) (leaf : ℕ) (s : TakenSnapshot) → AreListed V ls → (record { stored = V; leaves = length ls; listed = ls; room = room }) ≡ value → W ≡ V → ids ≡ one → one ≡ slice_index_or ls leaf one → leaf < value.leaves → TableStands table h → StoreStands value h → MayRead s h → SnapshotStands ks s → map shown_stored (filter (shows_by table ks) (map (stored_at W) ids)) ≡ map shown_version (seen h leaf s)
scan_lends table ks V W ls room value ids one h leaf s all view same given at known txs st may snap =
    let K : KeptRows → Type 0 = λ k. leaf < k.leaves in
    let S : KeptRows → Type 0 = λ k. StoreStands k h in
    let lt : leaf < length ls = subst K (sym view) known in
    let kept : KeptRows = record { stored = V; leaves = length ls; listed = ls; room = room } in
    ap (λ xs. map shown_stored (filter (shows_by table ks) (map (stored_at xs) ids))) same
    ∙ scan_is table ks kept ids h leaf s all lt lt (given ∙ at_leaf ls leaf one lt at) txs (subst S (sym view) st) may snap

-- numbers of versions of a leaf are those of versions
pub all_below : (xs : List Stored) (l : ℕ) (ids : List RowId) → All (IsOf xs l) ids → AreBelow ids xs
all_below xs l ids all k lt = (all k no_id lt).0

-- the numbers that a leaf lists are those of versions
pub listed_below : (V W : List Stored) (ls : List (List RowId)) (room : ℕ) (value : KeptRows) (ids one : List RowId) (leaf : ℕ) → AreListed V ls → (record { stored = V; leaves = length ls; listed = ls; room = room }) ≡ value → W ≡ V → ids ≡ one → one ≡ slice_index_or ls leaf one → leaf < value.leaves → AreBelow ids W
listed_below V W ls room value ids one leaf all view same given at known =
    let K : KeptRows → Type 0 = λ k. leaf < k.leaves in
    let lt : leaf < length ls = subst K (sym view) known in
    let is : ids ≡ slice_index_or ls leaf [] = given ∙ at_leaf ls leaf one lt at in
    let P : List RowId → Type 0 = λ x. AreBelow x V in
    let Q : List Stored → Type 0 = λ x. AreBelow ids x in
    subst Q (sym same) (subst P (sym is) (all_below V leaf (slice_index_or ls leaf []) (all.lists leaf lt)))

all_cons : (n : ℕ) (r : RowId × List Value) (rs : List (RowId × List Value)) → r.0.number < n → All (λ x. x.0.number < n) rs → All (λ x. x.0.number < n) (r ∷ rs)
all_cons n r rs here rest zero d lt = here
all_cons n r rs here rest (suc k) d lt = rest k d (omega (arith, lt))

all_none : (n : ℕ) → All (λ (x : RowId × List Value). x.0.number < n) []
all_none n k d lt = absurd (omega arith)

rows_known : (table : KeptTable) (ks : KeptSnapshot) (V : List Stored) (ids : List RowId) → ((k : ℕ) → k < length V → (slice_index_or V k blank).version.id.number ≡ k) → AreBelow ids V → All (λ r. r.0.number < length V) (map shown_stored (filter (shows_by table ks) (map (stored_at V) ids)))
rows_known table ks V [] numbered below = all_none (length V)
rows_known table ks V (i ∷ ids) numbered below =
    let here : i.number < length V = below 0 (omega arith) in
    let known : (stored_at V i).version.id.number < length V = rw (numbered i.number here) here in
    let rest = rows_known table ks V ids numbered (λ k lt. below (suc k) (omega (arith, lt))) in
    elim (cases_Bool (shows_by table ks (stored_at V i))) [
      | inl t ↦ rw t (all_cons (length V) (shown_stored (stored_at V i)) _ known rest)
      | inr f ↦ rw f rest
    ]

-- each row that a scan lends has the number of a version
pub lent_known : (table : KeptTable) (ks : KeptSnapshot) (V W : List Stored) (ls : List (List RowId)) (room : ℕ) (value : KeptRows) (ids : List RowId) → AreListed V ls → (record { stored = V; leaves = length ls; listed = ls; room = room }) ≡ value → W ≡ V → AreBelow ids W → All (λ r. r.0.number < length value.stored) (map shown_stored (filter (shows_by table ks) (map (stored_at W) ids)))
lent_known table ks V W ls room value ids all view same below =
    let P : KeptRows → Type 0 = λ k. All (λ r. r.0.number < length k.stored) (map shown_stored (filter (shows_by table ks) (map (stored_at W) ids))) in
    let B : List Stored → Type 0 = λ x. AreBelow ids x in
    let Q : List Stored → Type 0 = λ x. All (λ r. r.0.number < length V) (map shown_stored (filter (shows_by table ks) (map (stored_at x) ids))) in
    subst P view (subst Q (sym same) (rows_known table ks V ids all.numbered (subst B same below)))

pub left_out : (table : KeptTable) (ks : KeptSnapshot) (V : List Stored) (i : RowId) (ids : List RowId) → shows_by table ks (stored_at V i) ≡ false → rows_left table ks V (i ∷ ids) ≡ rows_left table ks V ids
left_out table ks V i ids e = rw e refl

pub left_first : (table : KeptTable) (ks : KeptSnapshot) (V : List Stored) (i : RowId) (ids : List RowId) → shows_by table ks (stored_at V i) ≡ true → rows_left table ks V (i ∷ ids) ≡ shown_stored (stored_at V i) ∷ rows_left table ks V ids
left_first table ks V i ids e = rw e refl

pub first_below : (V : List Stored) (i : RowId) (ids all : List RowId) → all ≡ i ∷ ids → AreBelow all V → i.number < length V
first_below V i ids [] e below = absurd (cc)
first_below V i ids (j ∷ js) e below = let same : j ≡ i = cc in rw (← same) (below 0 (omega arith))

pub rest_below : (V : List Stored) (i : RowId) (ids all : List RowId) → all ≡ i ∷ ids → AreBelow all V → AreBelow ids V
rest_below V i ids [] e below = absurd (cc)
rest_below V i ids (j ∷ js) e below =
    let same : js ≡ ids = cc in
    let P : List RowId → Type 0 = λ x. AreBelow x V in
    subst P same (λ k lt. below (suc k) (omega (arith, lt)))

-- neither a version whose birth is not seen is shown, nor one whose end is seen
pub unseen_birth : (table : KeptTable) (ks : KeptSnapshot) (x : Stored) → sees_by table ks x.version.by.number x.version.cmd ≡ false → shows_by table ks x ≡ false
unseen_birth table ks x unseen = rw unseen refl

pub seen_end : (table : KeptTable) (ks : KeptSnapshot) (x : Stored) → sees_end_by table ks x.ended ≡ true → shows_by table ks x ≡ false
seen_end table ks x ended = elim (cases_Bool (sees_by table ks x.version.by.number x.version.cmd)) [
  | inl seen ↦ rw (seen, ended) refl
  | inr unseen ↦ rw unseen refl
]

-- what is left of a list is no longer than the list
filter_few : {X : Type 0} (p : X → Bool) (xs : List X) → length (filter p xs) ≤ length xs
filter_few p [] = omega arith
filter_few p (x ∷ xs) =
    let few = filter_few p xs in
    elim (cases_Bool (p x)) [
      | inl holds ↦ rw holds (omega (arith, few))
      | inr fails ↦ rw fails (omega (arith, few))
    ]

-- no more rows are left than numbers
pub shown_few : (table : KeptTable) (ks : KeptSnapshot) (stored : List Stored) (ids : List RowId) → length (rows_left table ks stored ids) ≤ length ids
shown_few table ks stored ids =
    omega (arith, length-map (filter (shows_by table ks) (map (stored_at stored) ids)) shown_stored, filter_few (shows_by table ks) (map (stored_at stored) ids), length-map ids (stored_at stored))
