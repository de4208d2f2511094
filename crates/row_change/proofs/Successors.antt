-- A version that is followed by another one.
use Rattle.std.proofs.Common.{◌≡◌, ◌≢◌, ℕ, zero, suc, ◌+◌, ◌<◌, ◌≤◌, ◌==◌, Bool, true, false, if◌then◌else◌, List, [], ◌∷◌, ◌++◌, refl, ap, sym, ◌∙◌, subst, arith, Option, Some, None, Ok, Err, length, slice_index_or, slice_set}
use Rattle.std.proofs.lemmas.Bool.Decides.{nat_tests}
use Rattle.std.proofs.lemmas.List.{get_or_append_left, length-append}
use Rattle.pg_values.specs.declared.value.Value.{Value}
use Rattle.pg_values.specs.declared.fault.Refusal.{Refusal}
use Rattle.pg_values.specs.declared.fault.Refusal.TheVariants.{Sql, NoMemory}
use Rattle.pg_values.specs.declared.ids.LeafId.{LeafId}
use Rattle.pg_values.specs.declared.ids.RowId.{RowId}
use Rattle.history.specs.declared.transaction.TxId.{TxId}
use Rattle.history.specs.declared.version.Version.{Version}
use Rattle.history.specs.declared.version.End.{End}
use Rattle.history.specs.declared.version.Ending.{Ending}
use Rattle.history.specs.declared.version.Ending.TheVariants.{MovedTo, ReplacedBy}
use Rattle.history.specs.Rows.{RowBorn, RowEnded}
use Rattle.history.specs.History.{History, RowChange, stands}
use Rattle.tx_table.specs.Kept.{KeptTable}
use Rattle.tx_table.specs.Stands.{TableStands, sees_now_by}
use Rattle.row_store.specs.declared.refused.PutCause.{PutCause}
use Rattle.row_store.specs.declared.refused.PutCause.TheVariants.{Full, NoMemory as NoRoom}
use Rattle.row_store.specs.declared.stored.Stored.{Stored}
use Rattle.row_store.specs.Kept.{KeptRows, blank, stored_at, after_birth, after_end, IsBirth, IsReplacement}
use Rattle.row_store.specs.Refused.{IsCause}
use Rattle.row_store.specs.Stands.{StoreStands, newborn, stands_kept}
use Rattle.row_store.proofs.Changes.{standing_is}
use Rattle.row_change.specs.Storing.{IsMade, IsRefusal, full_faults, made_by}
use Rattle.row_change.specs.Succession.{ending_to, follows, KeepsVersions}
use Rattle.row_change.proofs.Full.{is_full_for}

-- ---- there is no room

pub not_made : (r : Refusal) (cause : PutCause) (old new : KeptRows) (h : History) (row : List Value) (events : History) → IsRefusal r cause → IsCause old row cause → new ≡ old → StoreStands old h → IsMade (Err r) new h (made_by (full_faults h row) events)
not_made NoMemory cause old new h row events told is same stands = tt
not_made (Sql f) (Full which) old new h row events told is same stands = is_full_for old new h row events which f stands is told same
not_made (Sql f) NoRoom old new h row events told is same stands = absurd told

-- ---- how the old one ends

pub same_leaf : (a b : LeafId) → a.number ≡ b.number → a ≡ b
same_leaf a b same = let leaf : ℕ → LeafId = λ n. record { number = n } in ap leaf same

same_number : (n : ℕ) → (n == n) ≡ true
same_number n = grind (arith, nat_tests)

other_number : (n m : ℕ) → n ≢ m → (n == m) ≡ false
other_number n m other = grind (arith, nat_tests, other)

stays_here : (leaf : LeafId) (id : RowId) → ending_to leaf leaf id ≡ ReplacedBy id
stays_here leaf id = ap (λ b. if b then ReplacedBy id else MovedTo leaf) (same_number leaf.number)

goes_there : (old new : LeafId) (id : RowId) → old.number ≢ new.number → ending_to old new id ≡ MovedTo new
goes_there old new id other = ap (λ b. if b then ReplacedBy id else MovedTo new) (other_number old.number new.number other)

abbrev ended_as : Version → ℕ → Ending → History → History
ended_as v k how h = RowChange (RowEnded k (record { by = v.by; cmd = v.cmd; how = how })) ∷ RowChange (RowBorn v) ∷ h

-- replaced in its own leaf
pub in_own : (new : KeptRows) (h : History) (own leaf : LeafId) (id : RowId) (row : List Value) (by : TxId) (cmd : ℕ) → own ≡ leaf
    → StoreStands new (RowChange (RowEnded id.number (record { by = by; cmd = cmd; how = ReplacedBy (newborn h own row by cmd).id })) ∷ RowChange (RowBorn (newborn h own row by cmd)) ∷ h)
    → StoreStands new (follows leaf id (newborn h leaf row by cmd) ++ h)
in_own new h own leaf id row by cmd same stands =
    let here = subst (λ l. StoreStands new (ended_as (newborn h l row by cmd) id.number (ReplacedBy (newborn h l row by cmd).id) h)) same stands in
    subst (λ how. StoreStands new (ended_as (newborn h leaf row by cmd) id.number how h)) (sym (stays_here leaf (newborn h leaf row by cmd).id)) here

-- moved to another one
pub in_other : (new : KeptRows) (h : History) (from leaf : LeafId) (id : RowId) (row : List Value) (by : TxId) (cmd : ℕ) → from.number ≢ leaf.number
    → StoreStands new (RowChange (RowEnded id.number (record { by = by; cmd = cmd; how = MovedTo leaf })) ∷ RowChange (RowBorn (newborn h leaf row by cmd)) ∷ h)
    → StoreStands new (follows from id (newborn h leaf row by cmd) ++ h)
in_other new h from leaf id row by cmd other stands =
    subst (λ how. StoreStands new (ended_as (newborn h leaf row by cmd) id.number how h)) (sym (goes_there from leaf (newborn h leaf row by cmd).id other)) stands

-- ---- the versions that were there

version_stays : (xs : List Stored) (k i : ℕ) (y : Stored) → y.version ≡ (slice_index_or xs k blank).version → i < length xs → (slice_index_or (slice_set xs k y) i blank).version ≡ (slice_index_or xs i blank).version
version_stays [] k i y same lt = absurd (omega (arith, lt))
version_stays (x ∷ xs) zero zero y same lt = same
version_stays (x ∷ xs) zero (suc i) y same lt = refl
version_stays (x ∷ xs) (suc k) zero y same lt = refl
version_stays (x ∷ xs) (suc k) (suc i) y same lt = version_stays xs k i y same (omega (arith, lt))

length_set : (xs : List Stored) (k : ℕ) (y : Stored) → length (slice_set xs k y) ≡ length xs
length_set [] k y = refl
length_set (x ∷ xs) zero y = refl
length_set (x ∷ xs) (suc k) y = ap suc (length_set xs k y)

pub born_keeps : (old new : KeptRows) (v : Version) → IsBirth old new v → KeepsVersions old new
born_keeps old new v birth =
    let x : Stored = record { version = v; ended = None } in
    let count : length new.stored ≡ length old.stored + 1 = ap (λ (r : KeptRows). length r.stored) birth.1 ∙ length-append old.stored (x ∷ []) in
    record {
      more = omega (arith, count);
      leaves = ap (λ (r : KeptRows). r.leaves) birth.1;
      same = λ id lt. ap (λ (r : KeptRows). (stored_at r.stored id).version) birth.1 ∙ ap (λ (y : Stored). y.version) (get_or_append_left old.stored (x ∷ []) blank id.number lt);
    }

pub end_keeps : (old new : KeptRows) (k : ℕ) (e : End) → new ≡ after_end old k e → KeepsVersions old new
end_keeps old new k e is =
    let y : Stored = record { version = (slice_index_or old.stored k blank).version; ended = Some e } in
    let count : length new.stored ≡ length old.stored = ap (λ (r : KeptRows). length r.stored) is ∙ length_set old.stored k y in
    record {
      more = omega (arith, count);
      leaves = ap (λ (r : KeptRows). r.leaves) is;
      same = λ id lt. ap (λ (r : KeptRows). (stored_at r.stored id).version) is ∙ version_stays old.stored k id.number y refl lt;
    }

pub keeps_both : (old mid new : KeptRows) → KeepsVersions old mid → KeepsVersions mid new → KeepsVersions old new
keeps_both old mid new first second =
    let a = first.more in
    let b = second.more in
    record {
      more = omega (arith, a, b);
      leaves = second.leaves ∙ first.leaves;
      same = λ id lt. second.same id (omega (arith, a, lt)) ∙ first.same id lt;
    }

pub keeps_all : (old new : KeptRows) → new ≡ old → KeepsVersions old new
keeps_all old new is = subst (λ (r : KeptRows). KeepsVersions old r) (sym is) (record { more = omega arith; leaves = refl; same = λ id lt. refl })

pub replaced_keeps : (old new : KeptRows) (v : Version) (k : ℕ) (e : End) → IsReplacement old new v k e → KeepsVersions old new
replaced_keeps old new v k e is =
    let mid = after_birth old v new.listed is.0 in
    keeps_both old mid new (born_keeps old mid v (is.0, refl, is.2)) (end_keeps mid new k e is.1)

-- ---- what stood stands behind a birth

pub same_stored : (old new : KeptRows) (v : Version) (id : RowId) → IsBirth old new v → id.number < length old.stored → stored_at new.stored id ≡ stored_at old.stored id
same_stored old new v id birth lt =
    ap (λ (r : KeptRows). stored_at r.stored id) birth.1 ∙ get_or_append_left old.stored ((record { version = v; ended = None }) ∷ []) blank id.number lt

pub still_stands : (txs : KeptTable) (old new : KeptRows) (v : Version) (id : RowId) (h : History) → IsBirth old new v → id.number < length old.stored → stands_kept txs (stored_at old.stored id).ended ≡ true → TableStands txs h → StoreStands new h → stands h id.number ≡ true
still_stands txs old new v id h birth lt is txs_stand st =
    let keeps = born_keeps old new v birth in
    let more = keeps.more in
    sym (standing_is txs new h id.number (omega (arith, more, lt)) txs_stand st) ∙ (ap (λ (y : Stored). stands_kept txs y.ended) (same_stored old new v id birth lt) ∙ is)
