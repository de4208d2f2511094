-- The lists of leaves, after each change.
use Rattle.std.proofs.Common.{◌≡◌, ℕ, ◌+◌, ◌<◌, ◌≤◌, ◌⊎◌, Option, Some, None, slice_get, ◌==◌, zero, suc, arith, ap, sym, subst, ◌∙◌, refl, List, [], ◌∷◌, ◌++◌, map, true, false, Bool, if◌then◌else◌, inl, inr, All, length, slice_index_or, slice_set, length-append}
use Rattle.std.proofs.lemmas.Grind.{common_steps, elements}
use Rattle.std.proofs.lemmas.List.Elements.{All-nil, All-head, All-tail, All-push, All-weaker}
use Rattle.std.proofs.lemmas.Bool.{cases_lt}
use Rattle.std.proofs.lemmas.Bool.Decides.{nat_tests}
use Rattle.pg_values.specs.declared.ids.RowId.{RowId}
use Rattle.history.specs.declared.transaction.TxId.{TxId}
use Rattle.history.specs.declared.version.Version.{Version}
use Rattle.history.specs.declared.version.End.{End}
use Rattle.history.specs.declared.version.Ending.{Ending}
use Rattle.history.specs.declared.version.Ending.TheVariants.{Deleted, MovedTo, ReplacedBy}
use Rattle.history.specs.RowsSound.{IsEndingKnown}
use Rattle.row_store.specs.declared.stored.Stored.{Stored}
use Rattle.row_store.specs.Kept.{blank, version_of, in_leaf, stored_at, IsOf, IsEndKept, AreListed}

pub at_before : (xs : List Stored) (x : Stored) (k : ℕ) → k < length xs → slice_index_or (xs ++ x ∷ []) k blank ≡ slice_index_or xs k blank
at_before [] x k lt = absurd (omega arith)
at_before (y ∷ ys) x zero lt = refl
at_before (y ∷ ys) x (suc k) lt = at_before ys x k (omega (arith, lt))

pub at_last : (xs : List Stored) (x : Stored) (k : ℕ) → k ≡ length xs → slice_index_or (xs ++ x ∷ []) k blank ≡ x
at_last [] x zero e = refl
at_last [] x (suc k) e = absurd (omega arith)
at_last (y ∷ ys) x zero e = absurd (omega arith)
at_last (y ∷ ys) x (suc k) e = at_last ys x k (omega (arith, e))

pub place_set : (ls : List (List RowId)) (l m : ℕ) (new : List RowId) → l < length ls → (b : Bool) → (l == m) ≡ b → slice_index_or (slice_set ls l new) m [] ≡ (if b then new else slice_index_or ls m [])
place_set ls l m new lt true e = grind (arith, common_steps, elements, nat_tests)
place_set ls l m new lt false e = grind (arith, common_steps, elements, nat_tests)

pub length_set : (ls : List (List RowId)) (l : ℕ) (new : List RowId) → length (slice_set ls l new) ≡ length ls
length_set ls l new = grind (arith, common_steps, elements)

length_behind : (xs : List Stored) (x : Stored) → length (xs ++ x ∷ []) ≡ length xs + 1
length_behind xs x = length-append xs (x ∷ [])

-- a number goes on to be that of a version of the leaf
pub of_more : (xs : List Stored) (x : Stored) (l : ℕ) (id : RowId) → IsOf xs l id → IsOf (xs ++ x ∷ []) l id
of_more xs x l id of = (omega (arith, of.0, length_behind xs x), ap (in_leaf l) (at_before xs x id.number of.0) ∙ of.1)

in_own : (x : Stored) → in_leaf x.version.leaf.number x ≡ true
in_own x = grind (arith, common_steps, nat_tests)

of_last : (xs : List Stored) (x : Stored) → x.version.id.number ≡ length xs → IsOf (xs ++ x ∷ []) x.version.leaf.number x.version.id
of_last xs x id = (omega (arith, id, length_behind xs x), ap (in_leaf x.version.leaf.number) (at_last xs x x.version.id.number id) ∙ in_own x)

-- a version behind the others may be listed behind the others
pub pushed_of : (xs : List Stored) (x : Stored) (ids : List RowId) → x.version.id.number ≡ length xs → All (IsOf xs x.version.leaf.number) ids → All (IsOf (xs ++ x ∷ []) x.version.leaf.number) (ids ++ x.version.id ∷ [])
pushed_of xs x ids id all =
    let l = x.version.leaf.number in
    All-push (IsOf (xs ++ x ∷ []) l) ids x.version.id (All-weaker (IsOf xs l) (IsOf (xs ++ x ∷ []) l) (λ i of. of_more xs x l i of) ids all) (of_last xs x id)

lists_set : (xs ys : List Stored) (ls : List (List RowId)) (l m : ℕ) (new : List RowId) → l < length ls → ((i : RowId) → IsOf xs m i → IsOf ys m i) → All (IsOf xs m) (slice_index_or ls m []) → All (IsOf ys l) new → (b : Bool) → (l == m) ≡ b → All (IsOf ys m) (slice_index_or (slice_set ls l new) m [])
lists_set xs ys ls l m new lt more old all true e =
    let same : l ≡ m = grind (arith, nat_tests) in
    subst (All (IsOf ys m)) (sym (place_set ls l m new lt true e)) (subst (λ i. All (IsOf ys i) new) same all)
lists_set xs ys ls l m new lt more old all false e =
    subst (All (IsOf ys m)) (sym (place_set ls l m new lt false e)) (All-weaker (IsOf xs m) (IsOf ys m) more (slice_index_or ls m []) old)

-- what an end names is there in longer lists too
ending_more : (vs ws : List Version) (m n k : ℕ) (v : Version) (by : TxId) (how : Ending) → ((i : ℕ) (w : Version) → slice_get vs i ≡ Some w → slice_get ws i ≡ Some w) → m ≤ n → IsEndingKnown vs m k v by how → IsEndingKnown ws n k v by how
ending_more vs ws m n k v by Deleted more le known = tt
ending_more vs ws m n k v by (MovedTo leaf) more le known = omega (arith, le, known)
ending_more vs ws m n k v by (ReplacedBy id) more le (w, at, later, leaf, own) = (w, more id.number w at, later, leaf, own)

pub end_more : (xs ys : List Stored) (m n k : ℕ) (v : Version) (o : Option End) → ((i : ℕ) (w : Version) → slice_get (map version_of xs) i ≡ Some w → slice_get (map version_of ys) i ≡ Some w) → m ≤ n → IsEndKept xs m k v o → IsEndKept ys n k v o
end_more xs ys m n k v None more le known = tt
end_more xs ys m n k v (Some e) more le known = ending_more (map version_of xs) (map version_of ys) m n k v e.by e.how more le known

pub got_before : (xs : List Stored) (x : Stored) (i : ℕ) (w : Version) → slice_get (map version_of xs) i ≡ Some w → slice_get (map version_of (xs ++ x ∷ [])) i ≡ Some w
got_before [] x i w e = absurd (cc)
got_before (y ∷ ys) x zero w e = e
got_before (y ∷ ys) x (suc i) w e = got_before ys x i w e

no_end : (xs : List Stored) (n k : ℕ) (v : Version) (o : Option End) → o ≡ None → IsEndKept xs n k v o
no_end xs n k v None e = tt
no_end xs n k v (Some x) e = absurd (cc)

-- the version stands behind the others, and its leaf lists what is its own
pub born_listed : (xs : List Stored) (ls : List (List RowId)) (x : Stored) (new : List RowId) → AreListed xs ls → x.version.leaf.number < length ls → x.version.id.number ≡ length xs → x.ended ≡ None → All (IsOf (xs ++ x ∷ []) x.version.leaf.number) new → AreListed (xs ++ x ∷ []) (slice_set ls x.version.leaf.number new)
born_listed xs ls x new all lt id none own =
    let n = length_set ls x.version.leaf.number new in
    record {
      lists = λ m known. let k : m < length ls = omega (arith, known, n) in lists_set xs (xs ++ x ∷ []) ls x.version.leaf.number m new lt (λ i of. of_more xs x m i of) (all.lists m k) own (x.version.leaf.number == m) refl;
      leaf = λ k known. rw n (elim (cases_lt k (length xs)) [
        | inl before ↦ rw (at_before xs x k before) (all.leaf k before)
        | inr after ↦
            let last : k ≡ length xs = omega (arith, known, after, length_behind xs x) in
            rw (at_last xs x k last) lt
      ]);
      numbered = λ k known. elim (cases_lt k (length xs)) [
        | inl before ↦ rw (at_before xs x k before) (all.numbered k before)
        | inr after ↦
            let last : k ≡ length xs = omega (arith, known, after, length_behind xs x) in
            rw (at_last xs x k last) (id ∙ sym last)
      ];
      ends = λ k known. rw n (elim (cases_lt k (length xs)) [
        | inl before ↦ rw (at_before xs x k before) (end_more xs (xs ++ x ∷ []) (length ls) (length ls) k (slice_index_or xs k blank).version (slice_index_or xs k blank).ended (got_before xs x) (omega arith) (all.ends k before))
        | inr after ↦
            let last : k ≡ length xs = omega (arith, known, after, length_behind xs x) in
            rw (at_last xs x k last) (no_end (xs ++ x ∷ []) (length ls) k x.version x.ended none)
      ]);
    }

-- the versions stay where one is replaced by its own
pub same_versions : (xs : List Stored) (k : ℕ) (y : Stored) → k < length xs → y.version ≡ (slice_index_or xs k blank).version → map version_of (slice_set xs k y) ≡ map version_of xs
same_versions [] k y lt e = absurd (omega arith)
same_versions (z ∷ xs) zero y lt e = ap (λ v. v ∷ map version_of xs) e
same_versions (z ∷ xs) (suc k) y lt e = ap (λ vs. z.version ∷ vs) (same_versions xs k y (omega (arith, lt)) e)

pub version_after : (xs : List Stored) (k j : ℕ) (y : Stored) → k < length xs → y.version ≡ (slice_index_or xs k blank).version → (slice_index_or (slice_set xs k y) j blank).version ≡ (slice_index_or xs j blank).version
version_after [] k j y lt e = absurd (omega arith)
version_after (z ∷ xs) zero zero y lt e = e
version_after (z ∷ xs) zero (suc j) y lt e = refl
version_after (z ∷ xs) (suc k) zero y lt e = refl
version_after (z ∷ xs) (suc k) (suc j) y lt e = version_after xs k j y (omega (arith, lt)) e

length_after : (xs : List Stored) (k : ℕ) (y : Stored) → length (slice_set xs k y) ≡ length xs
length_after xs k y = grind (arith, common_steps, elements)

pub ended_after : (xs : List Stored) (k j : ℕ) (y : Stored) → k < length xs → ((j ≡ k) × (slice_index_or (slice_set xs k y) j blank ≡ y)) ⊎ (slice_index_or (slice_set xs k y) j blank ≡ slice_index_or xs j blank)
ended_after [] k j y lt = absurd (omega arith)
ended_after (z ∷ xs) zero zero y lt = inl (refl, refl)
ended_after (z ∷ xs) zero (suc j) y lt = inr refl
ended_after (z ∷ xs) (suc k) zero y lt = inr refl
ended_after (z ∷ xs) (suc k) (suc j) y lt = elim (ended_after xs k j y (omega (arith, lt))) [ inl q ↦ inl (ap (λ n. suc n) q.0, q.1) | inr q ↦ inr q ]

end_set : (xs : List Stored) (n k j : ℕ) (y : Stored) → k < length xs → y.version ≡ (slice_index_or xs k blank).version → IsEndKept xs n k y.version y.ended → IsEndKept xs n j (slice_index_or xs j blank).version (slice_index_or xs j blank).ended → IsEndKept (slice_set xs k y) n j (slice_index_or (slice_set xs k y) j blank).version (slice_index_or (slice_set xs k y) j blank).ended
end_set xs n k j y lt e new old =
    let same : map version_of (slice_set xs k y) ≡ map version_of xs = same_versions xs k y lt e in
    let more : (i : ℕ) (w : Version) → slice_get (map version_of xs) i ≡ Some w → slice_get (map version_of (slice_set xs k y)) i ≡ Some w = λ i w at. rw same at in
    elim (ended_after xs k j y lt) [
      | inl q ↦ rw (q.1, q.0) (end_more xs (slice_set xs k y) n n k y.version y.ended more (omega arith) new)
      | inr q ↦ rw q (end_more xs (slice_set xs k y) n n j (slice_index_or xs j blank).version (slice_index_or xs j blank).ended more (omega arith) old)
    ]

pub ended_listed : (xs : List Stored) (ls : List (List RowId)) (k : ℕ) (y : Stored) → k < length xs → y.version ≡ (slice_index_or xs k blank).version → IsEndKept xs (length ls) k y.version y.ended → AreListed xs ls → AreListed (slice_set xs k y) ls
ended_listed xs ls k y lt e there all = record {
  lists = λ m known. All-weaker (IsOf xs m) (IsOf (slice_set xs k y) m) (λ i of. (omega (arith, of.0, length_after xs k y), ap (λ (v : Version). v.leaf.number == m) (version_after xs k i.number y lt e) ∙ of.1)) (slice_index_or ls m []) (all.lists m known);
  leaf = λ j known. rw (version_after xs k j y lt e) (all.leaf j (omega (arith, known, length_after xs k y)));
  numbered = λ j known. rw (version_after xs k j y lt e) (all.numbered j (omega (arith, known, length_after xs k y)));
  ends = λ j known. end_set xs (length ls) k j y lt e there (all.ends j (omega (arith, known, length_after xs k y)));
}

pub place_before : (ls : List (List RowId)) (m : ℕ) → slice_index_or (ls ++ [] ∷ []) m [] ≡ slice_index_or ls m []
place_before [] zero = refl
place_before [] (suc m) = refl
place_before (l ∷ ls) zero = refl
place_before (l ∷ ls) (suc m) = place_before ls m

pub place_past : (ls : List (List RowId)) (m : ℕ) → m ≡ length ls → slice_index_or ls m [] ≡ []
place_past [] m e = refl
place_past (l ∷ ls) zero e = absurd (omega arith)
place_past (l ∷ ls) (suc m) e = place_past ls m (omega (arith, e))

pub leaf_listed : (xs : List Stored) (ls : List (List RowId)) → AreListed xs ls → AreListed xs (ls ++ [] ∷ [])
leaf_listed xs ls all = record {
  lists = λ m known. elim (cases_lt m (length ls)) [
    | inl before ↦ subst (All (IsOf xs m)) (sym (place_before ls m)) (all.lists m before)
    | inr after ↦
        let last : m ≡ length ls = omega (arith, known, after, length-append ls ([] ∷ [])) in
        subst (All (IsOf xs m)) (sym (place_before ls m ∙ place_past ls m last)) (All-nil (IsOf xs m))
  ];
  leaf = λ k lt. omega (arith, all.leaf k lt, length-append ls ([] ∷ []));
  numbered = all.numbered;
  ends = λ k lt. end_more xs xs (length ls) (length (ls ++ [] ∷ [])) k (slice_index_or xs k blank).version (slice_index_or xs k blank).ended (λ i w at. at) (omega (arith, length-append ls ([] ∷ []))) (all.ends k lt);
}

pub none_listed : AreListed [] []
none_listed = record { lists = λ l lt. absurd (omega arith); leaf = λ k lt. absurd (omega arith); numbered = λ k lt. absurd (omega arith); ends = λ k lt. absurd (omega arith) }

-- ---- the versions with listed numbers

-- they are the same where one stands behind the others, and where one ended
pub listed_before : (xs : List Stored) (x : Stored) (l : ℕ) (ids : List RowId) → All (IsOf xs l) ids → map version_of (map (stored_at (xs ++ x ∷ [])) ids) ≡ map version_of (map (stored_at xs) ids)
listed_before xs x l [] all = refl
listed_before xs x l (i ∷ ids) all =
    let here = at_before xs x i.number (All-head (IsOf xs l) i ids all).0 in
    let rest = listed_before xs x l ids (All-tail (IsOf xs l) i ids all) in
    ap (λ (y : Stored). y.version ∷ map version_of (map (stored_at (xs ++ x ∷ [])) ids)) here ∙ ap (λ vs. (stored_at xs i).version ∷ vs) rest

pub listed_ended : (xs : List Stored) (k : ℕ) (y : Stored) (ids : List RowId) → k < length xs → y.version ≡ (slice_index_or xs k blank).version → map version_of (map (stored_at (slice_set xs k y)) ids) ≡ map version_of (map (stored_at xs) ids)
listed_ended xs k y [] lt e = refl
listed_ended xs k y (i ∷ ids) lt e =
    ap (λ (v : Version). v ∷ map version_of (map (stored_at (slice_set xs k y)) ids)) (version_after xs k i.number y lt e)
    ∙ ap (λ vs. (stored_at xs i).version ∷ vs) (listed_ended xs k y ids lt e)

-- a lone list, whatever stands past the end
pub at_leaf : (ls : List (List RowId)) (l : ℕ) (one : List RowId) → l < length ls → one ≡ slice_index_or ls l one → one ≡ slice_index_or ls l []
at_leaf [] l one lt e = absurd (omega arith)
at_leaf (x ∷ xs) zero one lt e = e
at_leaf (x ∷ xs) (suc l) one lt e = at_leaf xs l one (omega (arith, lt)) e

-- what is set anew
pub set_anew : (ls : List (List RowId)) (l : ℕ) (old new : List RowId) → slice_set (slice_set ls l old) l new ≡ slice_set ls l new
set_anew [] l old new = refl
set_anew (x ∷ xs) zero old new = refl
set_anew (x ∷ xs) (suc l) old new = ap (λ ys. x ∷ ys) (set_anew xs l old new)
