-- Room in the store, told of the history.
use Rattle.std.proofs.Common.{◌≡◌, ℕ, ◌+◌, ◌<◌, ◌≤◌, nat_le, Bool, List, [], ◌∷◌, ◌++◌, Ok, Err, length, refl, sym, ap, subst, ◌∙◌, arith, if◌then◌else◌}
use Rattle.std.proofs.lemmas.Bool.{le-leb, lt-leb}
use Rattle.pg_values.specs.declared.value.Value.{Value}
use Rattle.pg_values.specs.declared.fault.Fault.{Fault}
use Rattle.pg_values.specs.declared.fault.Refusal.TheVariants.{Sql}
use Rattle.pg_values.specs.declared.which.Which.{Which}
use Rattle.pg_values.specs.declared.which.Which.TheVariants.{Versions, BytesOfRows}
use Rattle.pg_values.specs.Refusals.{unless}
use Rattle.refusals.specs.Refusals.{too_many}
use Rattle.history.specs.History.{History, Event, versions}
use Rattle.row_store.specs.declared.TheConstants.{VERSION_LIMIT, BYTES_LIMIT}
use Rattle.row_store.specs.Kept.{KeptRows}
use Rattle.row_store.specs.Limits.{row_bytes, versions_bytes}
use Rattle.row_store.specs.Refused.{HasRoom, IsFull, OfVersions, OfBytes}
use Rattle.row_store.specs.Stands.{StoreStands}
use Rattle.row_store.proofs.Changes.{count_is}
use Rattle.row_change.specs.Storing.{full_faults, made_by, IsMade}

bytes_of : History → List Value → ℕ
bytes_of h row = versions_bytes (versions h) + row_bytes row

few : (kept : KeptRows) (h : History) (row : List Value) → StoreStands kept h → length kept.stored < VERSION_LIMIT → full_faults h row ≡ unless (nat_le (versions_bytes (versions h) + row_bytes row) BYTES_LIMIT) (too_many BytesOfRows)
few kept h row st lt =
    let less : length (versions h) < VERSION_LIMIT = subst (λ n. n < VERSION_LIMIT) (count_is kept h st) lt in
    ap (λ (b : Bool). if b then too_many Versions ∷ [] else unless (nat_le (versions_bytes (versions h) + row_bytes row) BYTES_LIMIT) (too_many BytesOfRows)) (lt-leb VERSION_LIMIT (length (versions h)) less)

no_faults : (kept : KeptRows) (h : History) (row : List Value) → StoreStands kept h → HasRoom kept row → full_faults h row ≡ []
no_faults kept h row st room =
    few kept h row st room.0 ∙ ap (λ b. unless b (too_many BytesOfRows)) (le-leb (versions_bytes (versions h) + row_bytes row) BYTES_LIMIT (omega (arith, st.room, room.1)))

its_fault : (kept : KeptRows) (h : History) (row : List Value) (which : Which) → StoreStands kept h → IsFull kept row which → full_faults h row ≡ too_many which ∷ []
its_fault kept h row which st (OfVersions is many) =
    let more : VERSION_LIMIT ≤ length (versions h) = subst (λ n. VERSION_LIMIT ≤ n) (count_is kept h st) many in
    ap (λ (b : Bool). if b then too_many Versions ∷ [] else unless (nat_le (versions_bytes (versions h) + row_bytes row) BYTES_LIMIT) (too_many BytesOfRows)) (le-leb VERSION_LIMIT (length (versions h)) more) ∙ ap (λ w. too_many w ∷ []) (sym is)
its_fault kept h row which st (OfBytes is lt more) =
    few kept h row st lt
    ∙ (ap (λ b. unless b (too_many BytesOfRows)) (lt-leb (versions_bytes (versions h) + row_bytes row) BYTES_LIMIT (omega (arith, st.room, more))) ∙ ap (λ w. too_many w ∷ []) (sym is))

-- any events
pub has_room_for : (kept new : KeptRows) (h : History) (row : List Value) (events : History) → StoreStands kept h → HasRoom kept row → StoreStands new (events ++ h) → IsMade (Ok tt) new h (made_by (full_faults h row) events)
has_room_for kept new h row events st room added =
    subst (λ fs. IsMade (Ok tt) new h (made_by fs events)) (sym (no_faults kept h row st room)) (refl, added)

pub is_full_for : (kept new : KeptRows) (h : History) (row : List Value) (events : History) (which : Which) (f : Fault) → StoreStands kept h → IsFull kept row which → f ≡ too_many which → new ≡ kept → IsMade (Err (Sql f)) new h (made_by (full_faults h row) events)
is_full_for kept new h row events which f st full is same =
    subst (λ fs. IsMade (Err (Sql f)) new h (made_by fs events)) (sym (its_fault kept h row which st full))
    (ap Err (sym is), subst (λ (k : KeptRows). StoreStands k h) (sym same) st)

-- one of them
pub has_room : (kept new : KeptRows) (h : History) (row : List Value) (event : Event) → StoreStands kept h → HasRoom kept row → StoreStands new (event ∷ h) → IsMade (Ok tt) new h (made_by (full_faults h row) (event ∷ []))
has_room kept new h row event = has_room_for kept new h row (event ∷ [])

pub is_full : (kept new : KeptRows) (h : History) (row : List Value) (event : Event) (which : Which) (f : Fault) → StoreStands kept h → IsFull kept row which → f ≡ too_many which → new ≡ kept → IsMade (Err (Sql f)) new h (made_by (full_faults h row) (event ∷ []))
is_full kept new h row event = is_full_for kept new h row (event ∷ [])
