-- A store after an event.
use Rattle.std.proofs.Common.{◌≡◌, ◌≢◌, ℕ, ◌+◌, ◌<◌, ◌==◌, nat_lt, zero, suc, arith, ap, sym, ◌∙◌, refl, subst, List, [], ◌∷◌, ◌++◌, Option, Some, None, is_none, ◌||◌, slice_get, map, true, false, Bool, if◌then◌else◌, inl, inr, length, slice_index_or, slice_set, length-append, append-nil, filter, All, ◌≤◌}
use Rattle.std.proofs.lemmas.Grind.{common_steps, elements}
use Rattle.std.proofs.lemmas.List.{map-append, length-map}
use Rattle.std.proofs.lemmas.Option.{slice_get_within}
use Rattle.std.proofs.lemmas.List.Elements.{filter-append}
use Rattle.std.proofs.lemmas.Bool.{cases_Bool, cases_lt, lt-ltb, ltb-true, and_parts}
use Rattle.std.proofs.lemmas.Bool.Decides.{nat_tests}
use Rattle.pg_values.specs.declared.value.Value.{Value}
use Rattle.pg_values.specs.declared.ids.LeafId.{LeafId}
use Rattle.pg_values.specs.declared.ids.RowId.{RowId}
use Rattle.history.specs.declared.transaction.TxId.{TxId}
use Rattle.history.specs.declared.transaction.Fate.{Fate}
use Rattle.history.specs.declared.transaction.Fate.TheVariants.{Running, Committed, Aborted}
use Rattle.history.specs.declared.version.Version.{Version}
use Rattle.history.specs.declared.version.End.{End}
use Rattle.history.specs.declared.version.Ending.{Ending}
use Rattle.history.specs.declared.version.Ending.TheVariants.{MovedTo, ReplacedBy}
use Rattle.history.specs.Transactions.{TxEvents, fate, was_aborted, is_committed, IsRunning, sees_now}
use Rattle.history.specs.Rows.{LeafAdded, RowBorn, RowEnded, counted}
use Rattle.history.specs.History.{History, RowChange, tx_events, versions, next_version, end_of, stands, Outcome, EndedFor, outcome, outcome_in, outcome_by}
use Rattle.history.specs.RowsSound.{IsEndingKnown, IsEndSound}
use Rattle.history.specs.Thinned.{Thins}
use Rattle.history.specs.Dead.{IsDead}
use Rattle.history.proofs.Dead.{dead_after_end}
use Rattle.history.proofs.Thinned.{thin_none, thin_weaker, thin_append, thin_map, thin_again, thin_all}
use Rattle.history.proofs.Open.{open_runs}
use Rattle.history.proofs.Settled.{end_of-last}
use Rattle.tx_table.specs.Kept.{KeptTable}
use Rattle.tx_table.specs.Stands.{TableStands, IsOpen, sees_now_by}
use Rattle.row_store.specs.declared.stored.Stored.{Stored}
use Rattle.row_store.specs.declared.newest.Newest.{Newest}
use Rattle.row_store.specs.declared.newest.Newest.TheVariants.{Stands, EndedBy, Gone, Moved, Replaced}
use Rattle.row_store.specs.declared.TheConstants.{BYTES_LIMIT}
use Rattle.row_store.specs.Kept.{KeptRows, IsBirth, IsReplacement, IsEndKept, IsOf, AreListed, stored_at, listed_in, blank, version_of, after_birth, after_end}
use Rattle.row_store.specs.Limits.{row_bytes, versions_bytes}
use Rattle.row_store.specs.Dead.{IsDeadAt}
use Rattle.row_store.specs.Stands.{StoreStands, born_in, newborn, outcome_kept, stands_kept}
use Rattle.row_store.specs.Told.{outcome_told, ending_of, IsToldKnown, IsLeafThere}
use Rattle.row_store.proofs.Held.{counts_running_or_committed}
use Rattle.row_store.proofs.DeadVersions.{dead_at_is}
use Rattle.row_store.proofs.Listing.{same_versions, length_set, place_set, place_before, place_past, set_anew, at_leaf, at_before, at_last, pushed_of, born_listed, listed_before, listed_ended}

pub count_is : (kept : KeptRows) (h : History) → StoreStands kept h → length kept.stored ≡ next_version h
count_is kept h st = sym (length-map kept.stored version_of) ∙ ap length st.births

-- a new version has no end
ended_behind : (xs : List Stored) (x : Stored) (k : ℕ) → x.ended ≡ None → (slice_index_or (xs ++ x ∷ []) k blank).ended ≡ (slice_index_or xs k blank).ended
ended_behind [] x zero e = e
ended_behind [] x (suc k) e = refl
ended_behind (y ∷ ys) x zero e = refl
ended_behind (y ∷ ys) x (suc k) e = ended_behind ys x k e

bytes-behind : (vs : List Version) (v : Version) → versions_bytes (vs ++ v ∷ []) ≡ versions_bytes vs + row_bytes v.row
bytes-behind [] v = omega arith
bytes-behind (w ∷ vs) v = omega (arith, bytes-behind vs v)

-- ---- what a leaf lists

-- a version of a leaf stands behind the others of the leaf
born_behind : (h : History) (l : ℕ) (v : Version) → (v.leaf.number == l) ≡ true → born_in (RowChange (RowBorn v) ∷ h) l ≡ born_in h l ++ v ∷ []
born_behind h l v e =
    let one : filter (λ (w : Version). w.leaf.number == l) (v ∷ []) ≡ v ∷ [] = rw e refl in
    filter-append (λ (w : Version). w.leaf.number == l) (versions h) (v ∷ []) ∙ ap (λ vs. born_in h l ++ vs) one

born_elsewhere : (h : History) (l : ℕ) (v : Version) → (v.leaf.number == l) ≡ false → born_in (RowChange (RowBorn v) ∷ h) l ≡ born_in h l
born_elsewhere h l v e =
    let none : filter (λ (w : Version). w.leaf.number == l) (v ∷ []) ≡ [] = rw e refl in
    filter-append (λ (w : Version). w.leaf.number == l) (versions h) (v ∷ []) ∙ ap (λ vs. born_in h l ++ vs) none ∙ append-nil (born_in h l)

-- the end of each version that counts, told from what is kept
pub ends_told : (kept : KeptRows) (h : History) → ((k : ℕ) → k < length kept.stored → (slice_index_or kept.stored k blank).version.id.number ≡ k) → StoreStands kept h → (k : ℕ) → k < length kept.stored → counted (tx_events h) (slice_index_or kept.stored k blank).ended ≡ end_of h (slice_index_or kept.stored k blank).version.id.number
ends_told kept h numbered st k lt = ap (counted (tx_events h)) (st.ends k) ∙ sym (end_of-last h k st.sound) ∙ ap (end_of h) (sym (numbered k lt))

-- its list, with the new version behind the others, and without some that are dead
own_list : (table : KeptTable) (h : History) (xs : List Stored) (x : Stored) (v : Version) (l : ℕ) (ids new : List RowId) → x.version ≡ v → x.version.id.number ≡ length xs → (v.leaf.number == l) ≡ true → TableStands table h
    → ((k : ℕ) → k < length (xs ++ x ∷ []) → counted (tx_events h) (slice_index_or (xs ++ x ∷ []) k blank).ended ≡ end_of h (slice_index_or (xs ++ x ∷ []) k blank).version.id.number)
    → All (IsOf xs l) ids → Thins (IsDead h) (born_in h l) (map version_of (map (stored_at xs) ids)) → Thins (IsDeadAt table (xs ++ x ∷ [])) (ids ++ x.version.id ∷ []) new
    → Thins (IsDead (RowChange (RowBorn v) ∷ h)) (born_in (RowChange (RowBorn v) ∷ h) l) (map version_of (map (stored_at (xs ++ x ∷ [])) new))
own_list table h xs x v l ids new same number here txs ended all before vacuumed =
    let ys : List Stored = xs ++ x ∷ [] in
    let Q : Stored → Type 0 = λ y. IsDead h y.version in
    let listed : List RowId → List Version = λ is. map version_of (map (stored_at ys) is) in
    let last : stored_at ys x.version.id ≡ x = at_last xs x x.version.id.number number in
    let behind : listed (ids ++ x.version.id ∷ []) ≡ map version_of (map (stored_at xs) ids) ++ v ∷ [] =
    ap (map version_of) (map-append (stored_at ys) ids (x.version.id ∷ []))
    ∙ map-append version_of (map (stored_at ys) ids) (stored_at ys x.version.id ∷ [])
    ∙ ap (λ vs. vs ++ (stored_at ys x.version.id).version ∷ []) (listed_before xs x l ids all)
    ∙ ap (λ (w : Version). map version_of (map (stored_at xs) ids) ++ w ∷ []) (ap (λ (y : Stored). y.version) last ∙ same) in
    let grown : Thins (IsDead h) (born_in h l ++ v ∷ []) (listed (ids ++ x.version.id ∷ [])) =
    subst (Thins (IsDead h) (born_in h l ++ v ∷ [])) (sym behind) (thin_append (IsDead h) (born_in h l) (map version_of (map (stored_at xs) ids)) (v ∷ []) (v ∷ []) before (thin_none (IsDead h) (v ∷ []))) in
    let fewer : Thins (IsDead h) (listed (ids ++ x.version.id ∷ [])) (listed new) =
    thin_map Q (IsDead h) version_of (λ y dead. dead) (map (stored_at ys) (ids ++ x.version.id ∷ [])) (map (stored_at ys) new)
    (thin_map (IsDeadAt table ys) Q (stored_at ys) (λ i dead. dead_at_is table h ys i txs ended dead) (ids ++ x.version.id ∷ []) new vacuumed) in
    let both = thin_again (IsDead h) (born_in h l ++ v ∷ []) (listed (ids ++ x.version.id ∷ [])) (listed new) grown fewer in
    subst (λ vs. Thins (IsDead h) vs (listed new)) (sym (born_behind h l v here)) both

-- the lists of the other leaves
other_list : (h : History) (xs : List Stored) (x : Stored) (v : Version) (l : ℕ) (ids : List RowId) → (v.leaf.number == l) ≡ false → All (IsOf xs l) ids → Thins (IsDead h) (born_in h l) (map version_of (map (stored_at xs) ids))
    → Thins (IsDead (RowChange (RowBorn v) ∷ h)) (born_in (RowChange (RowBorn v) ∷ h) l) (map version_of (map (stored_at (xs ++ x ∷ [])) ids))
other_list h xs x v l ids away all before =
    subst (λ vs. Thins (IsDead h) vs (map version_of (map (stored_at (xs ++ x ∷ [])) ids))) (sym (born_elsewhere h l v away))
    (subst (Thins (IsDead h) (born_in h l)) (sym (listed_before xs x l ids all)) before)

-- what a leaf lists after a birth: its numbers with the new one behind the others, without some of dead versions
pub record IsVacuumed (table : KeptTable) (kept : KeptRows) (x : Stored) (new : List RowId) (listed : List (List RowId)) : Type 0 where
  pub all : AreListed kept.stored kept.listed
  pub count : kept.leaves ≡ length kept.listed
  pub set : listed ≡ slice_set kept.listed x.version.leaf.number new
  pub thin : Thins (IsDeadAt table (kept.stored ++ x ∷ [])) (slice_index_or kept.listed x.version.leaf.number [] ++ x.version.id ∷ []) new

past_all : (xs : List Stored) (k : ℕ) → length xs ≤ k → slice_index_or xs k blank ≡ blank
past_all [] k le = refl
past_all (x ∷ xs) zero le = absurd (omega arith)
past_all (x ∷ xs) (suc k) le = past_all xs k (omega (arith, le))

-- a new version has no end
no_end_of : (h : History) (k : ℕ) → (kept : KeptRows) → StoreStands kept h → length kept.stored ≤ k → end_of h k ≡ None
no_end_of h k kept st high = end_of-last h k st.sound ∙ ap (counted (tx_events h)) (sym (st.ends k) ∙ ap (λ (y : Stored). y.ended) (past_all kept.stored k high))

ends_after : (kept : KeptRows) (h : History) (x : Stored) → ((k : ℕ) → k < length kept.stored → (slice_index_or kept.stored k blank).version.id.number ≡ k) → StoreStands kept h → x.ended ≡ None → x.version.id.number ≡ length kept.stored
    → (k : ℕ) → k < length (kept.stored ++ x ∷ []) → counted (tx_events h) (slice_index_or (kept.stored ++ x ∷ []) k blank).ended ≡ end_of h (slice_index_or (kept.stored ++ x ∷ []) k blank).version.id.number
ends_after kept h x numbered st none number k lt = elim (cases_lt k (length kept.stored)) [
  | inl before ↦ rw (at_before kept.stored x k before) (ends_told kept h numbered st k before)
  | inr after ↦
      let last : k ≡ length kept.stored = omega (arith, lt, after, length-append kept.stored (x ∷ [])) in
      rw (at_last kept.stored x k last) (ap (counted (tx_events h)) none ∙ sym (no_end_of h x.version.id.number kept st (omega (arith, number))))
]

lists_go : (table : KeptTable) (kept : KeptRows) (h : History) (x : Stored) (v : Version) (new : List RowId) (listed : List (List RowId)) (m : ℕ) → x.version ≡ v → x.ended ≡ None → x.version.id.number ≡ length kept.stored → x.version.leaf.number < length kept.listed → m < kept.leaves → TableStands table h → StoreStands kept h → IsVacuumed table kept x new listed
    → (b : Bool) → (x.version.leaf.number == m) ≡ b → Thins (IsDead (RowChange (RowBorn v) ∷ h)) (born_in (RowChange (RowBorn v) ∷ h) m) (map version_of (listed_in (kept.stored ++ x ∷ []) listed m))
lists_go table kept h x v new listed m same none number lt known txs st its true e =
    let is : x.version.leaf.number ≡ m = grind (arith, nat_tests) in
    let ys : List Stored = kept.stored ++ x ∷ [] in
    let here : (v.leaf.number == m) ≡ true = ap (λ (w : Version). w.leaf.number == m) (sym same) ∙ e in
    let at : slice_index_or listed m [] ≡ new = ap (λ ls. slice_index_or ls m []) its.set ∙ place_set kept.listed x.version.leaf.number m new lt true e in
    let thin = subst (λ i. Thins (IsDeadAt table ys) (slice_index_or kept.listed i [] ++ x.version.id ∷ []) new) is its.thin in
    let own = own_list table h kept.stored x v m (slice_index_or kept.listed m []) new same number here txs (ends_after kept h x its.all.numbered st none number) (its.all.lists m (omega (arith, known, its.count))) (st.lists m known) thin in
    subst (λ ids. Thins (IsDead (RowChange (RowBorn v) ∷ h)) (born_in (RowChange (RowBorn v) ∷ h) m) (map version_of (map (stored_at ys) ids))) (sym at) own
lists_go table kept h x v new listed m same none number lt known txs st its false e =
    let ys : List Stored = kept.stored ++ x ∷ [] in
    let away : (v.leaf.number == m) ≡ false = ap (λ (w : Version). w.leaf.number == m) (sym same) ∙ e in
    let at : slice_index_or listed m [] ≡ slice_index_or kept.listed m [] = ap (λ ls. slice_index_or ls m []) its.set ∙ place_set kept.listed x.version.leaf.number m new lt false e in
    let own = other_list h kept.stored x v m (slice_index_or kept.listed m []) away (its.all.lists m (omega (arith, known, its.count))) (st.lists m known) in
    subst (λ ids. Thins (IsDead (RowChange (RowBorn v) ∷ h)) (born_in (RowChange (RowBorn v) ∷ h) m) (map version_of (map (stored_at ys) ids))) (sym at) own

-- ---- after a birth

pub born_stands : (table : KeptTable) (kept : KeptRows) (h : History) (leaf : LeafId) (row : List Value) (by : TxId) (cmd room : ℕ) (new : List RowId) (listed : List (List RowId)) → leaf.number < kept.leaves → IsRunning (tx_events h) by.number → room + row_bytes row ≡ kept.room → TableStands table h → StoreStands kept h
    → IsVacuumed table kept (record { version = record { id = record { number = length kept.stored }; leaf = leaf; row = row; by = by; cmd = cmd }; ended = None }) new listed
    → StoreStands (after_birth kept (record { id = record { number = length kept.stored }; leaf = leaf; row = row; by = by; cmd = cmd }) listed room) (RowChange (RowBorn (newborn h leaf row by cmd)) ∷ h)
born_stands table kept h leaf row by cmd room new listed lt runs enough txs st its =
    let n = count_is kept h st in
    let v : Version = newborn h leaf row by cmd in
    let w : Version = record { id = record { number = length kept.stored }; leaf = leaf; row = row; by = by; cmd = cmd } in
    let x : Stored = record { version = w; ended = None } in
    let numbered : ℕ → Version = λ m. record { id = record { number = m }; leaf = leaf; row = row; by = by; cmd = cmd } in
    let same : w ≡ v = ap numbered n in
    let bytes = bytes-behind (versions h) v in
    record {
      sound = (record { number = refl; leaf = rw (← st.leaves) lt; by = runs }, st.sound);
      births = map-append version_of kept.stored _ ∙ ap (λ vs. vs ++ w ∷ []) st.births ∙ ap (λ (x : Version). versions h ++ x ∷ []) same;
      ends = λ k. ended_behind kept.stored _ k refl ∙ st.ends k;
      leaves = st.leaves;
      room = omega (arith, bytes, enough, st.room);
      lists = λ m known. lists_go table kept h x v new listed m same refl refl (omega (arith, lt, its.count)) known txs st its (leaf.number == m) refl;
    }

same_place : (xs : List Stored) (k j : ℕ) (y : Stored) → k < length xs → k ≡ j → slice_index_or (slice_set xs k y) j blank ≡ y
same_place xs k j y lt e = grind (arith, common_steps, elements)

other_place : (xs : List Stored) (k j : ℕ) (y : Stored) → k ≢ j → slice_index_or (slice_set xs k y) j blank ≡ slice_index_or xs j blank
other_place xs k j y ne = grind (arith, common_steps, elements)

ended_at : (xs : List Stored) (k j : ℕ) (y : Stored) → k < length xs → (b : Bool) → (k == j) ≡ b → (slice_index_or (slice_set xs k y) j blank).ended ≡ (if b then y.ended else (slice_index_or xs j blank).ended)
ended_at xs k j y lt true e = ap (λ (x : Stored). x.ended) (same_place xs k j y lt (grind (arith, nat_tests)))
ended_at xs k j y lt false e = ap (λ (x : Stored). x.ended) (other_place xs k j y (grind (arith, nat_tests)))

choose : (b : Bool) (o p q : Option End) → p ≡ q → (if b then o else p) ≡ (if b then o else q)
choose true o p q e = refl
choose false o p q e = e

pub ended_stands : (kept : KeptRows) (h : History) (k : ℕ) (e : End) → k < length kept.stored → IsEndSound k e h → StoreStands kept h → StoreStands (after_end kept k e) (RowChange (RowEnded k e) ∷ h)
ended_stands kept h k e lt sound st = record {
  sound = (sound, st.sound);
  births = same_versions kept.stored k _ lt refl ∙ st.births;
  ends = λ j. ended_at kept.stored k j _ lt (k == j) refl ∙ choose (k == j) (Some e) _ _ (st.ends j);
  leaves = st.leaves;
  room = st.room;
  lists = λ m known.
      let g : History = RowChange (RowEnded k e) ∷ h in
      let ids : List RowId = slice_index_or kept.listed m [] in
      subst (Thins (IsDead g) (born_in h m)) (sym (listed_ended kept.stored k (record { version = (slice_index_or kept.stored k blank).version; ended = Some e }) ids lt refl))
      (thin_weaker (IsDead h) (IsDead g) (λ v dead. dead_after_end k e h v sound dead) (born_in h m) (map version_of (map (stored_at kept.stored) ids)) (st.lists m known));
}

-- who is open runs
pub by_runs : (table : KeptTable) (h : History) (tx : ℕ) → IsOpen table tx → TableStands table h → IsRunning (tx_events h) tx
by_runs table h tx (s, at) st = open_runs (tx_events h) s tx st.sound (sym (st.current s) ∙ at)

sees_now_is : (table : KeptTable) (h : History) (me tx : ℕ) → TableStands table h → sees_now_by table me tx ≡ true → sees_now (tx_events h) me tx ≡ true
sees_now_is table h me tx st e = ap (λ f. is_committed f || (tx == me)) (sym (st.fates tx)) ∙ e

got_at : (xs : List Stored) (k : ℕ) → k < length xs → slice_get (map version_of xs) k ≡ Some (slice_index_or xs k blank).version
got_at [] k lt = absurd (omega arith)
got_at (x ∷ xs) zero lt = refl
got_at (x ∷ xs) (suc k) lt = got_at xs k (omega (arith, lt))

-- an end that the code gives may come
pub end_sound : (table : KeptTable) (kept : KeptRows) (h : History) (k : ℕ) (e : End) → k < length kept.stored → stands h k ≡ true → IsOpen table e.by.number → sees_now_by table e.by.number (slice_index_or kept.stored k blank).version.by.number ≡ true → IsEndingKnown (map version_of kept.stored) kept.leaves k (slice_index_or kept.stored k blank).version e.by e.how → TableStands table h → StoreStands kept h → IsEndSound k e h
end_sound table kept h k e lt standing by seen known txs st =
    let P : List Version → Type 0 = λ vs. slice_get vs k ≡ Some (slice_index_or kept.stored k blank).version in
    let Q : List Version → ℕ → Type 0 = λ vs n. IsEndingKnown vs n k (slice_index_or kept.stored k blank).version e.by e.how in
    let at : P (versions h) = subst P st.births (got_at kept.stored k lt) in
    let there : Q (versions h) kept.leaves = subst (λ vs. Q vs kept.leaves) st.births known in
    record {
      standing = standing;
      version = (slice_index_or kept.stored k blank).version;
      there = at;
      by = by_runs table h e.by.number by txs;
      seen = sees_now_is table h e.by.number _ txs seen;
      known = subst (λ n. Q (versions h) n) st.leaves there;
    }

-- a version that was just born is there, as the one that replaces another one
pub replacing_known : (old new : KeptRows) (k : ℕ) (v : Version) → k < length old.stored → v.leaf ≡ (slice_index_or old.stored k blank).version.leaf → v.id.number ≡ length old.stored → IsBirth old new v → IsEndingKnown (map version_of new.stored) new.leaves k (slice_index_or new.stored k blank).version v.by (ReplacedBy v.id)
replacing_known old new k v lt leaf number (room, birth, bytes) =
    let x : Stored = record { version = v; ended = None } in
    let P : KeptRows → Type 0 = λ y. IsEndingKnown (map version_of y.stored) y.leaves k (slice_index_or y.stored k blank).version v.by (ReplacedBy v.id) in
    let n : length (old.stored ++ x ∷ []) ≡ length old.stored + 1 = length-append old.stored (x ∷ []) in
    let last : slice_index_or (old.stored ++ x ∷ []) v.id.number blank ≡ x = at_last old.stored x v.id.number number in
    let got : slice_get (map version_of (old.stored ++ x ∷ [])) v.id.number ≡ Some v = got_at (old.stored ++ x ∷ []) v.id.number (omega (arith, n, number)) ∙ ap (λ (y : Stored). Some y.version) last in
    let same : v.leaf ≡ (slice_index_or (old.stored ++ x ∷ []) k blank).version.leaf = leaf ∙ ap (λ (y : Stored). y.version.leaf) (sym (at_before old.stored x k lt)) in
    subst P (sym birth) (v, got, omega (arith, lt, number), same, refl)

-- no version is in a leaf that is not there yet
none_born : (h : History) (l : ℕ) (xs : List Stored) (vs : List Version) → map version_of xs ≡ vs → ((k : ℕ) → k < length xs → (slice_index_or xs k blank).version.leaf.number < l) → filter (λ (v : Version). v.leaf.number == l) vs ≡ []
none_born h l [] [] e below = refl
none_born h l [] (v ∷ vs) e below = absurd (cc)
none_born h l (x ∷ xs) [] e below = absurd (cc)
none_born h l (x ∷ xs) (v ∷ vs) e below =
    let first : x.version ≡ v = cc in
    let others : map version_of xs ≡ vs = cc in
    let low : x.version.leaf.number < l = below 0 (omega arith) in
    let away : (x.version.leaf.number == l) ≡ false = grind (arith, nat_tests) in
    let off : (v.leaf.number == l) ≡ false = ap (λ (w : Version). w.leaf.number == l) (sym first) ∙ away in
    rw off (none_born h l xs vs others (λ k lt. below (suc k) (omega (arith, lt))))

pub leaf_stands : (kept : KeptRows) (h : History) → kept.leaves ≡ length kept.listed → AreListed kept.stored kept.listed → StoreStands kept h → StoreStands (record { stored = kept.stored; leaves = kept.leaves + 1; listed = kept.listed ++ [] ∷ []; room = kept.room }) (RowChange (LeafAdded kept.leaves) ∷ h)
leaf_stands kept h count all st = record {
  sound = (st.leaves, st.sound);
  births = st.births;
  ends = st.ends;
  leaves = ap (λ n. n + 1) st.leaves;
  room = st.room;
  lists = λ m known.
      let T : List RowId → Type 0 = λ ids. Thins (IsDead h) (born_in h m) (map version_of (map (stored_at kept.stored) ids)) in
      elim (cases_lt m kept.leaves) [
        | inl before ↦ subst T (sym (place_before kept.listed m)) (st.lists m before)
        | inr after ↦
            let last : m ≡ length kept.listed = omega (arith, known, after, count) in
            let none : born_in h m ≡ [] = none_born h m kept.stored (versions h) st.births (λ k lt. rw last (all.leaf k lt)) in
            let nothing : slice_index_or (kept.listed ++ [] ∷ []) m [] ≡ [] = place_before kept.listed m ∙ place_past kept.listed m last in
            subst T (sym nothing) (subst (λ vs. Thins (IsDead h) vs []) (sym none) tt)
      ];
}

-- by what the code wrote
pub leaf_added : (V : List Stored) (ls : List (List RowId)) (room : ℕ) (value : KeptRows) (h : History) (n m : ℕ) (ms : List (List RowId)) → (record { stored = V; leaves = length ls; listed = ls; room = room }) ≡ value → AreListed V ls → n ≡ length ls → ms ≡ ls ++ [] ∷ [] → m ≡ length ms → StoreStands value h → StoreStands (record { stored = V; leaves = m; listed = ms; room = room }) (RowChange (LeafAdded n) ∷ h)
leaf_added V ls room value h n m ms view all count lists size st =
    let S : KeptRows → Type 0 = λ k. StoreStands k h in
    let kept : KeptRows = record { stored = V; leaves = length ls; listed = ls; room = room } in
    let made : ℕ → List (List RowId) → KeptRows = λ k xs. record { stored = V; leaves = k; listed = xs; room = room } in
    let more : m ≡ length ls + 1 = size ∙ ap length lists ∙ length-append ls ([] ∷ []) in
    let T : KeptRows → ℕ → Type 0 = λ k i. StoreStands k (RowChange (LeafAdded i) ∷ h) in
    let now : T (made (length ls + 1) (ls ++ [] ∷ [])) (length ls) = leaf_stands kept h refl all (subst S (sym view) st) in
    let one : T (made (length ls + 1) (ls ++ [] ∷ [])) n = subst (T (made (length ls + 1) (ls ++ [] ∷ []))) (sym count) now in
    subst (λ k. T k n) (sym (ap (λ i. made i ms) more ∙ ap (made (length ls + 1)) lists)) one

-- what became of a version, by its last end
outcome_go : (txs : TxEvents) (e : End) (b : Bool) → was_aborted txs e.by.number ≡ b → outcome_by (fate txs e.by.number) e ≡ outcome_in txs (if b then None else Some e)
outcome_go txs e true is = rw is refl
outcome_go txs e false is = refl

outcome_counted : (table : KeptTable) (h : History) (o : Option End) → TableStands table h → outcome_kept table o ≡ outcome_in (tx_events h) (counted (tx_events h) o)
outcome_counted table h None st = refl
outcome_counted table h (Some e) st = ap (λ f. outcome_by f e) (st.fates e.by.number) ∙ outcome_go (tx_events h) e (was_aborted (tx_events h) e.by.number) refl

pub outcome_is : (table : KeptTable) (kept : KeptRows) (h : History) (k : ℕ) → TableStands table h → StoreStands kept h → outcome_kept table (slice_index_or kept.stored k blank).ended ≡ outcome h k
outcome_is table kept h k txs st =
    outcome_counted table h (slice_index_or kept.stored k blank).ended txs
    ∙ ap (λ o. outcome_in (tx_events h) (counted (tx_events h) o)) (st.ends k)
    ∙ ap (outcome_in (tx_events h)) (sym (end_of-last h k st.sound))

standing_counted : (table : KeptTable) (h : History) (o : Option End) → TableStands table h → stands_kept table o ≡ is_none (counted (tx_events h) o)
standing_counted table h None st = refl
standing_counted table h (Some e) st = elim (cases_Bool (was_aborted (tx_events h) e.by.number)) [
  | inl was ↦ let f : slice_index_or table.fates e.by.number Running ≡ Aborted = st.fates e.by.number ∙ rw was refl in rw (f, was) refl
  | inr lives ↦ rw (st.fates e.by.number, lives, counts_running_or_committed _) refl
]

pub standing_is : (table : KeptTable) (kept : KeptRows) (h : History) (k : ℕ) → k < length kept.stored → TableStands table h → StoreStands kept h → stands_kept table (slice_index_or kept.stored k blank).ended ≡ stands h k
standing_is table kept h k lt txs st =
    let n = count_is kept h st in
    let known : nat_lt k (next_version h) ≡ true = lt-ltb k (next_version h) (omega (arith, lt, n)) in
    standing_counted table h (slice_index_or kept.stored k blank).ended txs
    ∙ ap (λ o. is_none (counted (tx_events h) o)) (st.ends k)
    ∙ ap (λ (o : Option End). is_none o) (sym (end_of-last h k st.sound))
    ∙ rw known refl

pub new_stands : StoreStands (record { stored = []; leaves = 0; listed = []; room = BYTES_LIMIT }) []
new_stands = record { sound = tt; births = refl; ends = λ k. refl; leaves = refl; room = omega arith; lists = λ m known. absurd (omega (arith, known)) }

-- what stands before a birth stands after it
stands_behind : (h : History) (k : ℕ) (v : Version) → stands h k ≡ true → stands (RowChange (RowBorn v) ∷ h) k ≡ true
stands_behind h k v st =
    let b = and_parts (nat_lt k (next_version h)) (is_none (end_of h k)) st in
    let below = ltb-true k (next_version h) b.0 in
    let more : nat_lt k (length (versions h ++ v ∷ [])) ≡ true = lt-ltb k _ (omega (arith, below, length-append (versions h) (v ∷ []))) in
    rw (more, b.1) refl

pub replaced_stands : (table : KeptTable) (kept middle new : KeptRows) (h : History) (k : ℕ) (leaf : LeafId) (row : List Value) (by : TxId) (cmd : ℕ) → IsBirth kept middle (record { id = record { number = length kept.stored }; leaf = leaf; row = row; by = by; cmd = cmd }) → new ≡ after_end middle k (record { by = by; cmd = cmd; how = ReplacedBy (record { number = length kept.stored }) }) → leaf ≡ (slice_index_or kept.stored k blank).version.leaf → k < length kept.stored → stands h k ≡ true → IsOpen table by.number → sees_now_by table by.number (slice_index_or kept.stored k blank).version.by.number ≡ true → TableStands table h → StoreStands kept h → StoreStands middle (RowChange (RowBorn (newborn h leaf row by cmd)) ∷ h) → StoreStands new (RowChange (RowEnded k (record { by = by; cmd = cmd; how = ReplacedBy (newborn h leaf row by cmd).id })) ∷ RowChange (RowBorn (newborn h leaf row by cmd)) ∷ h)
replaced_stands table kept middle new h k leaf row by cmd birth ended same_leaf known standing open_by seen txs st born =
    let v : Version = newborn h leaf row by cmd in
    let w : Version = record { id = record { number = length kept.stored }; leaf = leaf; row = row; by = by; cmd = cmd } in
    let x : Stored = record { version = w; ended = None } in
    let n = count_is kept h st in
    let stored : middle.stored ≡ kept.stored ++ x ∷ [] = ap (λ (y : KeptRows). y.stored) birth.1 in
    let more : k < length middle.stored = rw stored (omega (arith, known, length-append kept.stored (x ∷ []))) in
    let how : ℕ → End = λ m. record { by = by; cmd = cmd; how = ReplacedBy (record { number = m }) } in
    let e : End = how (next_version h) in
    let same_end : how (length kept.stored) ≡ e = ap how n in
    let at : slice_index_or middle.stored k blank ≡ slice_index_or kept.stored k blank = ap (λ xs. slice_index_or xs k blank) stored ∙ at_before kept.stored x k known in
    let S : Stored → Type 0 = λ y. sees_now_by table by.number y.version.by.number ≡ true in
    let K : End → Type 0 = λ y. IsEndingKnown (map version_of middle.stored) middle.leaves k (slice_index_or middle.stored k blank).version y.by y.how in
    let there : K e = subst K same_end (replacing_known kept middle k w known same_leaf refl birth) in
    let sound : IsEndSound k e (RowChange (RowBorn v) ∷ h) = end_sound table middle (RowChange (RowBorn v) ∷ h) k e more (stands_behind h k v standing) open_by (subst S (sym at) seen) there txs born in
    let over = ended_stands middle (RowChange (RowBorn v) ∷ h) k e more sound born in
    let same : new ≡ after_end middle k e = ended ∙ ap (λ (y : End). after_end middle k y) same_end in
    let T : KeptRows → Type 0 = λ y. StoreStands y (RowChange (RowEnded k e) ∷ RowChange (RowBorn v) ∷ h) in
    subst T (sym same) over

-- a lone element, whatever stands past the end
pub at_any : (xs : List Stored) (k : ℕ) (x : Stored) → k < length xs → x ≡ slice_index_or xs k x → x ≡ slice_index_or xs k blank
at_any [] k x lt e = absurd (omega arith)
at_any (y ∷ ys) zero x lt e = e
at_any (y ∷ ys) (suc k) x lt e = at_any ys k x (omega (arith, lt)) e

pub newest_is : (table : KeptTable) (V : List Stored) (n room : ℕ) (ls : List (List RowId)) (value : KeptRows) (k : ℕ) (x : Stored) (h : History) (o : Outcome) → (record { stored = V; leaves = n; listed = ls; room = room }) ≡ value → k < length value.stored → x ≡ slice_index_or V k x → TableStands table h → StoreStands value h → o ≡ outcome_kept table x.ended → o ≡ outcome h k
newest_is table V n room ls value k x h o view known at txs st told =
    let K : KeptRows → Type 0 = λ y. k < length y.stored in
    let S : KeptRows → Type 0 = λ y. StoreStands y h in
    let kept : KeptRows = record { stored = V; leaves = n; listed = ls; room = room } in
    let same = at_any V k x (subst K (sym view) known) at in
    told ∙ ap (λ (y : Stored). outcome_kept table y.ended) same ∙ outcome_is table kept h k txs (subst S (sym view) st)

pub newest_stands : (table : KeptTable) (V : List Stored) (n room : ℕ) (ls : List (List RowId)) (value : KeptRows) (k : ℕ) (x : Stored) (h : History) (b : Bool) → (record { stored = V; leaves = n; listed = ls; room = room }) ≡ value → k < length value.stored → x ≡ slice_index_or V k x → TableStands table h → StoreStands value h → b ≡ stands_kept table x.ended → b ≡ stands h k
newest_stands table V n room ls value k x h b view known at txs st told =
    let K : KeptRows → Type 0 = λ y. k < length y.stored in
    let S : KeptRows → Type 0 = λ y. StoreStands y h in
    let kept : KeptRows = record { stored = V; leaves = n; listed = ls; room = room } in
    let lt = subst K (sym view) known in
    let same = at_any V k x lt at in
    told ∙ ap (λ (y : Stored). stands_kept table y.ended) same ∙ standing_is table kept h k lt txs (subst S (sym view) st)

-- the lists after a birth, by what the code wrote: the new number was pushed, and then dead ones were left out
record IsPut (table : KeptTable) (V W U : List Stored) (ls ms ns : List (List RowId)) (leaf : ℕ) (x : Stored) (one new : List RowId) : Type 0 where
  versions : W ≡ V ++ x ∷ []
  pushed : ms ≡ slice_set ls leaf (slice_index_or ls leaf [] ++ x.version.id ∷ [])
  lent : one ≡ slice_index_or ms leaf one
  read : U ≡ W
  thin : Thins (IsDeadAt table U) one new
  set : ns ≡ slice_set ms leaf new

put_thin : (table : KeptTable) (V W U : List Stored) (ls ms ns : List (List RowId)) (leaf : ℕ) (x : Stored) (one new : List RowId) → leaf < length ls → IsPut table V W U ls ms ns leaf x one new → Thins (IsDeadAt table (V ++ x ∷ [])) (slice_index_or ls leaf [] ++ x.version.id ∷ []) new
put_thin table V W U ls ms ns leaf x one new lt put =
    let ids : List RowId = slice_index_or ls leaf [] ++ x.version.id ∷ [] in
    let size : length ms ≡ length ls = ap length put.pushed ∙ length_set ls leaf ids in
    let here : (leaf == leaf) ≡ true = grind (arith, common_steps, nat_tests) in
    let at : one ≡ ids = at_leaf ms leaf one (omega (arith, lt, size)) put.lent ∙ ap (λ xs. slice_index_or xs leaf []) put.pushed ∙ place_set ls leaf leaf ids lt true here in
    subst (λ is. Thins (IsDeadAt table (V ++ x ∷ [])) is new) at (subst (λ xs. Thins (IsDeadAt table xs) one new) (put.read ∙ put.versions) put.thin)

put_set : (table : KeptTable) (V W U : List Stored) (ls ms ns : List (List RowId)) (leaf : ℕ) (x : Stored) (one new : List RowId) → IsPut table V W U ls ms ns leaf x one new → ns ≡ slice_set ls leaf new
put_set table V W U ls ms ns leaf x one new put =
    put.set ∙ ap (λ xs. slice_set xs leaf new) put.pushed ∙ set_anew ls leaf (slice_index_or ls leaf [] ++ x.version.id ∷ []) new

pub put_listed : (table : KeptTable) (V W U : List Stored) (ls ms ns : List (List RowId)) (x : Stored) (one new : List RowId) → AreListed V ls → x.version.leaf.number < length ls → x.version.id.number ≡ length V → x.ended ≡ None
    → W ≡ V ++ x ∷ [] → ms ≡ slice_set ls x.version.leaf.number (slice_index_or ls x.version.leaf.number [] ++ x.version.id ∷ []) → one ≡ slice_index_or ms x.version.leaf.number one → U ≡ W → Thins (IsDeadAt table U) one new → ns ≡ slice_set ms x.version.leaf.number new
    → AreListed W ns
put_listed table V W U ls ms ns x one new all lt number none versions pushed lent read thin set =
    let l = x.version.leaf.number in
    let put : IsPut table V W U ls ms ns l x one new = record { versions = versions; pushed = pushed; lent = lent; read = read; thin = thin; set = set } in
    let ys : List Stored = V ++ x ∷ [] in
    let ids : List RowId = slice_index_or ls l [] ++ x.version.id ∷ [] in
    let own = thin_all (IsDeadAt table ys) (IsOf ys l) ids new (put_thin table V W U ls ms ns l x one new lt put) (pushed_of V x (slice_index_or ls l []) number (all.lists l lt)) in
    subst (λ xs. AreListed xs ns) (sym versions) (subst (AreListed ys) (sym (put_set table V W U ls ms ns l x one new put)) (born_listed V ls x new all lt number none own))

-- and the store
pub put_added : (table : KeptTable) (V W U : List Stored) (ls ms ns : List (List RowId)) (room0 room n : ℕ) (value : KeptRows) (h : History) (leaf : LeafId) (row values : List Value) (by : TxId) (cmd : ℕ) (one new : List RowId) → (record { stored = V; leaves = length ls; listed = ls; room = room0 }) ≡ value → AreListed V ls → n ≡ length V
    → W ≡ V ++ (record { version = (record { id = record { number = n }; leaf = leaf; row = row; by = by; cmd = cmd }); ended = None }) ∷ [] → ms ≡ slice_set ls leaf.number (slice_index_or ls leaf.number [] ++ (record { number = n }) ∷ []) → one ≡ slice_index_or ms leaf.number one → U ≡ W → Thins (IsDeadAt table U) one new → ns ≡ slice_set ms leaf.number new
    → leaf.number < value.leaves → IsOpen table by.number → values ≡ row → room + row_bytes values ≡ room0 → TableStands table h → StoreStands value h → StoreStands (record { stored = W; leaves = length ns; listed = ns; room = room }) (RowChange (RowBorn (newborn h leaf row by cmd)) ∷ h)
put_added table V W U ls ms ns room0 room n value h leaf row values by cmd one new view all count versions pushed lent read thin set known open_by same bytes txs st =
    let S : KeptRows → Type 0 = λ y. StoreStands y h in
    let K : KeptRows → Type 0 = λ y. leaf.number < y.leaves in
    let lt : leaf.number < length ls = subst K (sym view) known in
    let kept : KeptRows = record { stored = V; leaves = length ls; listed = ls; room = room0 } in
    let x : ℕ → Stored = λ m. record { version = (record { id = record { number = m }; leaf = leaf; row = row; by = by; cmd = cmd }); ended = None } in
    let put : IsPut table V W U ls ms ns leaf.number (x n) one new = record { versions = versions; pushed = pushed; lent = lent; read = read; thin = thin; set = set } in
    let set_is = put_set table V W U ls ms ns leaf.number (x n) one new put in
    let its : IsVacuumed table kept (x n) new ns = record { all = all; count = refl; set = set_is; thin = put_thin table V W U ls ms ns leaf.number (x n) one new lt put } in
    let made : List Stored → ℕ → KeptRows = λ xs m. record { stored = xs; leaves = m; listed = ns; room = room } in
    let T : KeptRows → Type 0 = λ y. StoreStands y (RowChange (RowBorn (newborn h leaf row by cmd)) ∷ h) in
    let size : length ns ≡ length ls = ap length set_is ∙ length_set ls leaf.number new in
    let enough : room + row_bytes row ≡ room0 = ap (λ (r : List Value). room + row_bytes r) (sym same) ∙ bytes in
    let born : T (made (V ++ x (length V) ∷ []) (length ls)) = born_stands table kept h leaf row by cmd room new ns lt (by_runs table h by.number open_by txs) enough txs (subst S (sym view) st) (subst (λ m. IsVacuumed table kept (x m) new ns) count its) in
    subst T (sym (ap (λ xs. made xs (length ns)) (versions ∙ ap (λ m. V ++ x m ∷ []) count) ∙ ap (made (V ++ x (length V) ∷ [])) size)) born

pub replaced_added : (table : KeptTable) (kept middle new : KeptRows) (h : History) (k m : ℕ) (leaf at : LeafId) (row : List Value) (by : TxId) (cmd : ℕ) → leaf ≡ at → at ≡ (slice_index_or kept.stored k blank).version.leaf → m ≡ length kept.stored → IsBirth kept middle (record { id = record { number = length kept.stored }; leaf = leaf; row = row; by = by; cmd = cmd }) → new ≡ after_end middle k (record { by = by; cmd = cmd; how = ReplacedBy (record { number = m }) }) → k < length kept.stored → stands h k ≡ true → IsOpen table by.number → sees_now_by table by.number (slice_index_or kept.stored k blank).version.by.number ≡ true → TableStands table h → StoreStands kept h → StoreStands middle (RowChange (RowBorn (newborn h leaf row by cmd)) ∷ h) → StoreStands new (RowChange (RowEnded k (record { by = by; cmd = cmd; how = ReplacedBy (newborn h at row by cmd).id })) ∷ RowChange (RowBorn (newborn h at row by cmd)) ∷ h)
replaced_added table kept middle new h k m leaf at row by cmd same here count birth ended known standing open_by seen txs st born =
    let how : ℕ → End = λ i. record { by = by; cmd = cmd; how = ReplacedBy (record { number = i }) } in
    let over : new ≡ after_end middle k (how (length kept.stored)) = ended ∙ ap (λ (x : End). after_end middle k x) (ap how count) in
    let T : LeafId → Type 0 = λ l. StoreStands new (RowChange (RowEnded k (record { by = by; cmd = cmd; how = ReplacedBy (newborn h l row by cmd).id })) ∷ RowChange (RowBorn (newborn h l row by cmd)) ∷ h) in
    subst T same (replaced_stands table kept middle new h k leaf row by cmd birth over (same ∙ here) known standing open_by seen txs st born)

-- an outcome for good tells the last end
ended_for_go : (table : KeptTable) (e : End) (t : ℕ) (how : Ending) (f : Fate) → slice_index_or table.fates e.by.number Running ≡ f → EndedFor t how ≡ outcome_by f e → (slice_index_or table.fates e.by.number Running ≡ Committed) × (e.by.number ≡ t) × (e.how ≡ how)
ended_for_go table e t how Running at is = absurd (cc)
ended_for_go table e t how Committed at is = (at, cc, cc)
ended_for_go table e t how Aborted at is = absurd (cc)

ended_for : (table : KeptTable) (o : Option End) (t : ℕ) (how : Ending) → EndedFor t how ≡ outcome_kept table o → (e : End) × (o ≡ Some e) × (slice_index_or table.fates e.by.number Running ≡ Committed) × (e.by.number ≡ t) × (e.how ≡ how)
ended_for table None t how is = absurd (cc)
ended_for table (Some e) t how is =
    let g = ended_for_go table e t how (slice_index_or table.fates e.by.number Running) refl is in
    (e, refl, g.0, g.1, g.2)

named : (stored : List Stored) (leaves k : ℕ) (v : Version) (o : Option End) (e : End) (how : Ending) → o ≡ Some e → e.how ≡ how → IsEndKept stored leaves k v o → IsEndingKnown (map version_of stored) leaves k v e.by how
named stored leaves k v None e how is same known = absurd (cc)
named stored leaves k v (Some x) e how is same known =
    let one : x ≡ e = cc in
    let P : End → Type 0 = λ y. IsEndingKnown (map version_of stored) leaves k v y.by y.how in
    let Q : Ending → Type 0 = λ y. IsEndingKnown (map version_of stored) leaves k v e.by y in
    subst Q same (subst P one known)

-- what is told of a version is there
pub told_known : (table : KeptTable) (kept : KeptRows) (id : RowId) (o : Option End) (told : Newest) → outcome_told told ≡ outcome_kept table o → IsEndKept kept.stored kept.leaves id.number (stored_at kept.stored id).version o → IsToldKnown table kept id told
told_known table kept id o (Stands row) is known = tt
told_known table kept id o (EndedBy tx) is known = tt
told_known table kept id o (Gone tx) is known = tt
told_known table kept id o (Moved tx leaf) is known =
    let e = ended_for table o tx.number (MovedTo leaf) is in
    named kept.stored kept.leaves id.number (stored_at kept.stored id).version o e.0 (MovedTo leaf) e.1 e.4 known
told_known table kept id o (Replaced tx new) is known =
    let e = ended_for table o tx.number (ReplacedBy new) is in
    let n = named kept.stored kept.leaves id.number (stored_at kept.stored id).version o e.0 (ReplacedBy new) e.1 e.4 known in
    let there : new.number < length kept.stored = omega (arith, slice_get_within (map version_of kept.stored) new.number n.0 n.1, length-map kept.stored version_of) in
    let at : Some (stored_at kept.stored new).version ≡ Some n.0 = sym (got_at kept.stored new.number there) ∙ n.1 in
    let one : (stored_at kept.stored new).version ≡ n.0 = cc in
    let who : ℕ → TxId = λ m. record { number = m } in
    let mine : e.0.by ≡ tx = ap who e.3 in
    (n.2, there, ap (λ (v : Version). v.leaf) one ∙ n.3, ap (λ (v : Version). v.by) one ∙ n.4 ∙ mine, ap (λ m. slice_index_or table.fates m Running) (sym e.3) ∙ e.2)

pub newest_known : (table : KeptTable) (V : List Stored) (n room : ℕ) (value : KeptRows) (ls : List (List RowId)) (id : RowId) (x : Stored) (told : Newest) → (record { stored = V; leaves = n; listed = ls; room = room }) ≡ value → n ≡ length ls → AreListed V ls → id.number < length value.stored → x ≡ slice_index_or V id.number x → outcome_told told ≡ outcome_kept table x.ended → IsToldKnown table value id told
newest_known table V n room value ls id x told view count all known at is =
    let K : KeptRows → Type 0 = λ y. id.number < length y.stored in
    let lt = subst K (sym view) known in
    let same = at_any V id.number x lt at in
    let P : KeptRows → Type 0 = λ y. IsToldKnown table y id told in
    let E : ℕ → Type 0 = λ m. IsEndKept V m id.number (stored_at V id).version (stored_at V id).ended in
    let kept : E n = subst E (sym count) (all.ends id.number lt) in
    subst P view (told_known table (record { stored = V; leaves = n; listed = ls; room = room }) id (stored_at V id).ended told (is ∙ ap (λ (y : Stored). outcome_kept table y.ended) same) kept)

-- the end that the code sets is kept
pub set_known : (V : List Stored) (n room : ℕ) (ls : List (List RowId)) (value : KeptRows) (k : ℕ) (x y : Stored) (e : End) → (record { stored = V; leaves = n; listed = ls; room = room }) ≡ value → y ≡ record { version = x.version; ended = Some e } → x ≡ slice_index_or V k blank → IsEndingKnown (map version_of value.stored) value.leaves k (slice_index_or value.stored k blank).version e.by e.how → IsEndKept V n k y.version y.ended
set_known V n room ls value k x y e view set at known =
    let K : KeptRows → Type 0 = λ r. IsEndingKnown (map version_of r.stored) r.leaves k (slice_index_or r.stored k blank).version e.by e.how in
    let P : Stored → Type 0 = λ z. IsEndKept V n k z.version (Some e) in
    let Q : Stored → Type 0 = λ z. IsEndKept V n k z.version z.ended in
    let kept : P (slice_index_or V k blank) = subst K (sym view) known in
    subst Q (sym set) (subst P (sym at) kept)

pub leaf_known : (vs : List Version) (leaves k : ℕ) (v : Version) (by : TxId) (moved_to : Option LeafId) (how : Ending) → how ≡ ending_of moved_to → IsLeafThere leaves moved_to → IsEndingKnown vs leaves k v by how
leaf_known vs leaves k v by None how is there =
    let P : Ending → Type 0 = λ y. IsEndingKnown vs leaves k v by y in
    subst P (sym is) tt
leaf_known vs leaves k v by (Some leaf) how is there =
    let P : Ending → Type 0 = λ y. IsEndingKnown vs leaves k v by y in
    subst P (sym is) there

-- the version that was put may replace the other one
pub put_known : (old new : KeptRows) (k m : ℕ) (leaf : LeafId) (row : List Value) (by : TxId) (cmd : ℕ) → k < length old.stored → leaf ≡ (slice_index_or old.stored k blank).version.leaf → m ≡ length old.stored → IsBirth old new (record { id = record { number = length old.stored }; leaf = leaf; row = row; by = by; cmd = cmd }) → IsEndingKnown (map version_of new.stored) new.leaves k (slice_index_or new.stored k blank).version by (ReplacedBy (record { number = m }))
put_known old new k m leaf row by cmd lt same count birth =
    let P : ℕ → Type 0 = λ i. IsEndingKnown (map version_of new.stored) new.leaves k (slice_index_or new.stored k blank).version by (ReplacedBy (record { number = i })) in
    subst P (sym count) (replacing_known old new k (record { id = record { number = length old.stored }; leaf = leaf; row = row; by = by; cmd = cmd }) lt same refl birth)

pub replaced_kept : (old middle new : KeptRows) (k m : ℕ) (leaf at : LeafId) (row : List Value) (by : TxId) (cmd : ℕ) → leaf ≡ at → m ≡ length old.stored → IsBirth old middle (record { id = record { number = length old.stored }; leaf = leaf; row = row; by = by; cmd = cmd }) → new ≡ after_end middle k (record { by = by; cmd = cmd; how = ReplacedBy (record { number = m }) }) → IsReplacement old new (record { id = record { number = length old.stored }; leaf = at; row = row; by = by; cmd = cmd }) k (record { by = by; cmd = cmd; how = ReplacedBy (record { number = length old.stored }) })
replaced_kept old middle new k m leaf at row by cmd same count (room, birth, bytes) ended =
    let how : ℕ → End = λ i. record { by = by; cmd = cmd; how = ReplacedBy (record { number = i }) } in
    let v : LeafId → Version = λ l. record { id = record { number = length old.stored }; leaf = l; row = row; by = by; cmd = cmd } in
    let made : KeptRows → KeptRows = λ y. after_end y k (how (length old.stored)) in
    let listed : new.listed ≡ middle.listed = ap (λ (y : KeptRows). y.listed) ended in
    (room, ended ∙ ap (λ (x : End). after_end middle k x) (ap how count) ∙ ap made (birth ∙ ap (λ (y : Version). after_birth old y middle.listed room) (ap v same) ∙ ap (λ ls. after_birth old (v at) ls room) (sym listed)), bytes)
