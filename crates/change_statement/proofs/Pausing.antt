-- A statement that waits in the middle of its run.
use Rattle.std.proofs.Common.{◌≡◌, ◌≢◌, ℕ, ◌+◌, ◌<◌, ◌^◌, ◌==◌, ◌||◌, Bool, true, false, if◌then◌else◌, List, [], ◌∷◌, ◌++◌, refl, ap, sym, ◌∙◌, subst, arith, inl, inr, Option, Some, None, Result, Ok, Err, IsErrAnd, All, map, append_assoc, slice_get, slice_index_or, unwrap_or}
use Rattle.std.specs.Int.{bit_at}
use Rattle.std.proofs.lemmas.Bool.{cases_eq, cases_Bool}
use Rattle.std.proofs.lemmas.Bool.Decides.{nat_tests}
use Rattle.std.proofs.lemmas.Grind.{common_steps}
use Rattle.std.proofs.lemmas.Result.{err_from_is_err_and}
use Rattle.std.proofs.lemmas.Nat.Bits.{bit_at-pow_same, bit_at-pow_other, bit_at-lt, same_from_bits}
use Rattle.pg_values.specs.declared.fault.Fault.{Fault}
use Rattle.statement_steps.specs.declared.rest.TargetRow.{TargetRow}
use Rattle.pg_values.specs.Sets.{has, nobody}
use Rattle.pg_values.specs.declared.session_set.SessionSet.{SessionSet}
use Rattle.pg_values.proofs.Bits.{nobody_is}
use Rattle.history.specs.declared.wait.Wanted.{Wanted}
use Rattle.history.specs.declared.wait.Wanted.TheVariants.{Others}
use Rattle.history.specs.declared.wait.WaitOn.TheVariants.{Ends}
use Rattle.history.specs.Waits.{is_cause, waits_with}
use Rattle.history.specs.Locks.{LockEvent, LockEvents}
use Rattle.history.specs.Snapshots.{held_by}
use Rattle.history.specs.Transactions.{next_tx, open_of}
use Rattle.history.specs.declared.transaction.TxId.{TxId}
use Rattle.row_store.specs.Kept.{KeptRows, stored_at}
use Rattle.row_store.specs.Stands.{StoreStands}
use Rattle.soundness.proofs.Presence.{all_more}
use Rattle.legal_statements.proofs.Holding.{session_runs}
use Rattle.history.specs.History.{History, LockChange, lock_events, snapshot_events, tx_events}
use Rattle.lock_table.specs.Asked.{AskedView, AtOnce, WaitsBehind, ClosesCycle, asked, events_of, cycle_or_wait, least_cycle, those}
use Rattle.stores.specs.Events.{held, look_of, tx_in}
use Rattle.stores.specs.Stand.{Stands}
use Rattle.stores.proofs.Goodness.{legal_of}
use Rattle.stores.specs.Numbers.{IsAt}
use Rattle.stores.specs.declared.stores.Stores.{Stores}
use Rattle.stores.proofs.Meanwhile.{looks_keep_numbers}
use Rattle.statement_steps.specs.Made.{Made, Waits, Refused, behind}
use Rattle.statement_steps.specs.Attempts.{IsLeft, WentOn}
use Rattle.statement_steps.specs.declared.caller.Caller.{Caller}
use Rattle.statement_steps.specs.declared.rest.Rest.{Rest}
use Rattle.statement_steps.specs.declared.rest.Rest.TheVariants.{Rows}
use Rattle.statement_steps.specs.Gathered.{AreLeft, Found, IsTargetAt, RowsLeft}
use Rattle.statement_steps.specs.Waiting.{Since}
use Rattle.statement_steps.specs.declared.stop.Stop.{Stop}
use Rattle.statement_steps.specs.declared.stop.Stop.TheVariants as stop
use Rattle.statement_steps.specs.Asks.{told_by, waited}
use Rattle.statement_steps.specs.Steps.{IsTold, IsPart}
use Rattle.statement_steps.proofs.Parts.{own_tx}
use Rattle.statement_steps.proofs.Since.{since_on, since_held, since_locks}
use Rattle.statement_steps.proofs.Lasting.{are_left_on}
use Rattle.change_statement.specs.Changed.{only, held_up, paused}
use Rattle.change_statement.specs.Running.{IsInRun, IsRunTold, IsRun, IsTargetIn, MayRun}
use Rattle.change_statement.specs.Standing.{following, standing}
use Rattle.change_statement.proofs.Ended.{got_at, own_is}

-- ---- the session alone

one_bit : (s k a : ℕ) → a < 2 → (a == 1) ≡ ((k == s) || false) → a ≡ bit_at (2 ^ s) k
one_bit s k a small is = elim (cases_eq k s) [
  | inl same ↦ let one : bit_at (2 ^ s) k ≡ 1 = subst (λ n. bit_at (2 ^ s) n ≡ 1) (sym same) (bit_at-pow_same s) in grind (arith, common_steps, nat_tests, one)
  | inr other ↦ let zero : bit_at (2 ^ s) k ≡ 0 = bit_at-pow_other s k other in grind (arith, common_steps, nat_tests, zero)
]

-- the set is told by whom it has
pub only_is : (s : ℕ) (set : SessionSet) → ((k : ℕ) → has set k ≡ ((k == s) || false)) → set ≡ only s
only_is s set is =
    let bits : set.bits ≡ 2 ^ s = same_from_bits set.bits (2 ^ s) (λ k. one_bit s k (bit_at set.bits k) (bit_at-lt set.bits k) (is k)) in
    let of : ℕ → SessionSet = λ b. record { bits = b } in
    ap of bits

pub only_has : (s : ℕ) → has (only s) s ≡ true
only_has s = ap (λ b. b == 1) (bit_at-pow_same s)

pub only_others : (s k : ℕ) → k ≢ s → has (only s) k ≡ false
only_others s k other = ap (λ b. b == 1) (bit_at-pow_other s k other)

-- ---- it has to wait

-- what is told of no wait
not_told : (names : List (List ℕ)) (rest : Rest) (events : History) (o : Option (List ℕ)) (others : List ℕ) → (told_by names (Some rest) events (cycle_or_wait o others)).told ≡ Ok tt → ⊥
not_told names rest events None others told = cc
not_told names rest events (Some cycle) others told = cc

abbrev if_free : Bool → AskedView → AskedView
if_free b v = if b then AtOnce else v

by_test : (names : List (List ℕ)) (rest : Rest) (s : ℕ) (w : Wanted) (b : Bool) (v : AskedView) → b ≡ false → (told_by names (Some rest) (map LockChange (events_of s w (if_free b v))) (if_free b v)).told ≡ Ok tt → (o : Option (List ℕ)) → (others : List ℕ) → v ≡ cycle_or_wait o others → ⊥
by_test names rest s w b v off told o others is = not_told names rest _ o others (subst (λ x. (told_by names (Some rest) (map LockChange (events_of s w x)) x).told ≡ Ok tt) (ap (λ z. if_free z v) off ∙ is) told)

someone : (h : LockEvents) (s other : ℕ) → other < 128 → nobody (is_cause h s (Others (Ends (only other)))) ≡ false
someone h s other lt = elim (cases_Bool (nobody (is_cause h s (Others (Ends (only other)))))) [
  | inl none ↦ absurd (let off : has (only other) other ≡ false = nobody_is (is_cause h s (Others (Ends (only other)))) other lt none in let on = only_has other in cc)
  | inr some ↦ some
]

has_to_wait : (names : List (List ℕ)) (rest : Rest) (h : History) (s other : ℕ) → other < 128 → (waited names s (Ends (only other)) (Some rest) h).told ≡ Ok tt → ⊥
has_to_wait names rest h s other lt told =
    let w : Wanted = Others (Ends (only other)) in
    let k = lock_events h in
    by_test names rest s w (nobody (is_cause k s w)) (cycle_or_wait (least_cycle (waits_with k s w) s) (those (is_cause k s w))) (someone k s other lt) told (least_cycle (waits_with k s w) s) (those (is_cause k s w)) refl

pub has_to_pause : (names : List (List ℕ)) (caller : Caller) (other : ℕ) (rest : RowsLeft) (h : History) → other < 128 → (held_up names caller other rest h).told ≡ Ok tt → ⊥
has_to_pause names caller other rest h lt told = has_to_wait names (Rows rest) (held h caller.session caller.cmd ++ h) caller.session other lt told

-- a `?` hands on why a part stops
pub handed_part : {X T : Type 0} {view : X → T} {r : Result X Stop} {e : Stop} {old new : Stores} {caller : Caller} {n : ℕ} {f : History → Made T} → IsErrAnd r (λ s. s ≡ e) → IsPart view (Err e) old new caller n f → IsPart view r old new caller n f
handed_part {view = view} {r = r} {old = old} {new = new} {caller = caller} {n = n} {f = f} is part = let p = err_from_is_err_and r is in subst (λ x. IsPart view x old new caller n f) (sym (p.1 ∙ ap Err p.2)) part

-- ---- under the next command

-- it would close a cycle: nothing has happened then
refused_there : (names : List (List ℕ)) (rest : Rest) (s n : ℕ) (w : Wanted) (v : AskedView) (f : Fault) (new : Stores) (events h : History) → (behind events (told_by names (Some rest) (map LockChange (events_of s w v)) v)).told ≡ Err (Refused f) → IsAt (events ++ h) s n
    → WentOn h s (n + 1) [] new ((behind events (told_by names (Some rest) (map LockChange (events_of s w v)) v)).events ++ h) → WentOn h s n [] new ((behind events (told_by names (Some rest) (map LockChange (events_of s w v)) v)).events ++ h)
refused_there names rest s n w AtOnce f new events h told at went = absurd (let c = told in cc)
refused_there names rest s n w (WaitsBehind others) f new events h told at went = absurd (let c = told in cc)
refused_there names rest s n w (ClosesCycle cycle) f new events h told at went = record { stands = went.stands; at = at; others = went.others; since = went.since; queue = went.queue }

waits_there : (names : List (List ℕ)) (rest : Rest) (s : ℕ) (w : Wanted) (v : AskedView) (events : History) → (behind events (told_by names (Some rest) (map LockChange (events_of s w v)) v)).told ≡ Err (Waits None) → ⊥
waits_there names rest s w AtOnce events told = let c = told in cc
waits_there names rest s w (WaitsBehind others) events told = let c = told in cc
waits_there names rest s w (ClosesCycle cycle) events told = let c = told in cc

-- it waits with what was given
waits_given : (names : List (List ℕ)) (rest left : Rest) (s : ℕ) (w : Wanted) (v : AskedView) (events : History) → (behind events (told_by names (Some rest) (map LockChange (events_of s w v)) v)).told ≡ Err (Waits (Some left)) → rest ≡ left
waits_given names rest left s w AtOnce events told = absurd (let c = told in cc)
waits_given names rest left s w (WaitsBehind others) events told = let c = told in cc
waits_given names rest left s w (ClosesCycle cycle) events told = absurd (let c = told in cc)

asked_behind : (s : ℕ) (es : List LockEvent) (events h : History) → Since s h (events ++ h) → Since s h ((map LockChange es ++ events) ++ h)
asked_behind s es events h first = subst (Since s h) (sym (append_assoc (map LockChange es) events h)) (since_on s h (events ++ h) (map LockChange es ++ (events ++ h)) first (since_locks s es (events ++ h)))

asked_since : (names : List (List ℕ)) (rest : Rest) (s : ℕ) (w : Wanted) (v : AskedView) (events h : History) → Since s h (events ++ h) → Since s h ((behind events (told_by names (Some rest) (map LockChange (events_of s w v)) v)).events ++ h)
asked_since names rest s w AtOnce events h first = asked_behind s (events_of s w AtOnce) events h first
asked_since names rest s w (WaitsBehind others) events h first = asked_behind s (events_of s w (WaitsBehind others)) events h first
asked_since names rest s w (ClosesCycle cycle) events h first = asked_behind s (events_of s w (ClosesCycle cycle)) events h first

paused_told : (names : List (List ℕ)) (e : Stop) (new : Stores) (caller : Caller) (g : Found) (other : ℕ) (rest : RowsLeft) (h : History) → AreLeft h caller.session rest → IsAt (held h caller.session (caller.cmd + 1) ++ h) caller.session (caller.cmd + 1)
    → IsTold (λ (u : Unit {0}). u) (Err e) new (following caller) (caller.cmd + 1) h (held_up names (following caller) other rest h) → IsRunTold g (λ (u : Unit {0}). u) (Err e) new caller h (paused names caller other rest h)
paused_told names (stop.Waits None) new caller g other rest h left at told =
    let w : Wanted = Others (Ends (only other)) in
    let events = held h caller.session (caller.cmd + 1) in
    absurd (waits_there names (Rows rest) caller.session w (asked (lock_events (events ++ h)) caller.session w) events told.0)
paused_told names (stop.Waits (Some is)) new caller g other rest h left at told =
    let w : Wanted = Others (Ends (only other)) in
    let s = caller.session in
    let events = held h s (caller.cmd + 1) in
    let v = asked (lock_events (events ++ h)) s w in
    let first = since_held (held_by (snapshot_events h) s) s s (look_of h s (caller.cmd + 1)) h in
    let since = asked_since names (Rows rest) s w v events h first in
    let same = waits_given names (Rows rest) is s w v events told.0 in
    (told.0, told.1, subst (IsLeft ((paused names caller other rest h).events ++ h) s) same (are_left_on h ((paused names caller other rest h).events ++ h) s rest since left))
paused_told names (stop.Refused f) new caller g other rest h left at told =
    let w : Wanted = Others (Ends (only other)) in
    let events = held h caller.session (caller.cmd + 1) in
    (told.0, refused_there names (Rows rest) caller.session (caller.cmd + 1) w (asked (lock_events (events ++ h)) caller.session w) f new events h told.0 at told.1)
paused_told names stop.NoMemory new caller g other rest h left at told = tt

-- ---- where it stands

target_at : (rows : KeptRows) (g : Found) (h : History) (t : TargetRow) → StoreStands rows h → IsTargetIn rows g t → IsTargetAt h g t
target_at rows g h t stands its = record {
  version = (stored_at rows.stored t.id).version;
  there = subst (λ vs. slice_get vs t.id.number ≡ Some (stored_at rows.stored t.id).version) stands.births (got_at rows.stored t.id.number its.there);
  leaf = its.leaf;
  among = its.among;
}

left_now : (stores : Stores) (caller : Caller) (g : Found) (ts : List TargetRow) (n : ℕ) (h : History) → MayRun g stores caller → All (IsTargetIn stores.rows g) ts → Stands stores h → IsInRun g h caller → AreLeft h caller.session (standing h caller g ts n)
left_now stores caller g ts n h may all stands run =
    let mine = own_tx stores (following caller) h may.may stands in
    let number : tx_in h caller.session ≡ mine.0 = ap (λ o. unwrap_or o 0) mine.1 in
    record {
      begun = subst (λ t. t < next_tx (tx_events h)) (sym number) (session_runs h caller.session mine.0 (legal_of h stands.good) mine.1).begun;
      still = λ own. run.still;
      rows = all_more (IsTargetIn stores.rows g) (IsTargetAt h g) ts (λ t its. target_at stores.rows g h t stands.all.rows its) all;
    }

pub paused_run : (names : List (List ℕ)) (e : Stop) (old new : Stores) (caller : Caller) (g : Found) (other : ℕ) (by : TxId) (ts : List TargetRow) (n : ℕ) → MayRun g old caller → All (IsTargetIn old.rows g) ts → slice_index_or old.txs.current caller.session None ≡ Some by.number
    → IsPart (λ (u : Unit {0}). u) (Err e) old new (following caller) (caller.cmd + 1) (held_up names (following caller) other (record { by = by; found = g; left = ts; changed = n }))
    → IsRun g (λ (u : Unit {0}). u) (Err e) old new caller (λ h. paused names caller other (standing h caller g ts n) h)
paused_run names e old new caller g other by ts n may all own part = record {
  is = λ h stands run.
      let mine = own_tx old (following caller) h may.may stands in
      let at = (looks_keep_numbers h caller.session caller.session mine.0 (caller.cmd + 1) (caller.cmd + 1) stands.good run.at mine.1 (λ same. omega arith)).1 in
      let open_in : open_of (tx_events h) caller.session ≡ Some by.number = sym (stands.all.txs.current caller.session) ∙ own in
      let rest : TxId → RowsLeft = λ b. record { by = b; found = g; left = ts; changed = n } in
      let told = subst (λ (b : TxId). IsTold (λ (u : Unit {0}). u) (Err e) new (following caller) (caller.cmd + 1) h (held_up names (following caller) other (rest b) h)) (own_is h caller.session by open_in) (part.is h stands run.at) in
      paused_told names e new caller g other (standing h caller g ts n) h (left_now old caller g ts n h may all stands run) at told;
  keeps = part.keeps;
  waits = part.waits;
}
