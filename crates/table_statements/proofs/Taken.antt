-- A name that another session has given to a table, and the end of its transaction.
use Rattle.std.proofs.Common.{◌≡◌, ◌≢◌, ℕ, zero, suc, ◌<◌, ◌^◌, ◌==◌, ◌&&◌, ◌||◌, not, Bool, true, false, if◌then◌else◌, List, [], ◌∷◌, inl, inr, refl, sym, ap, ◌∙◌, subst, arith, Option, Some, None, Result, Ok, Err, IfOk, length, map, slice_index_or}
use Rattle.std.specs.Int.{bit_at}
use Rattle.std.specs.Str.{bytes_eq}
use Rattle.std.proofs.lemmas.Bool.{cases_eq}
use Rattle.std.proofs.lemmas.Bool.Decides.{nat_tests}
use Rattle.std.proofs.lemmas.Grind.{common_steps}
use Rattle.std.proofs.lemmas.Nat.Bits.{bit_at-pow_same, bit_at-pow_other, bit_at-lt, same_from_bits}
use Rattle.pg_values.specs.Sets.{has, nobody}
use Rattle.pg_values.specs.declared.session_set.SessionSet.{SessionSet}
use Rattle.pg_values.proofs.Bits.{nobody_is}
use Rattle.history.specs.declared.transaction.Fate.{Fate}
use Rattle.history.specs.declared.transaction.Fate.TheVariants.{Running, Committed, Aborted}
use Rattle.history.specs.declared.catalogue.Table.{Table}
use Rattle.history.specs.declared.wait.Wanted.{Wanted}
use Rattle.history.specs.declared.wait.Wanted.TheVariants.{Others}
use Rattle.history.specs.declared.wait.WaitOn.TheVariants.{Ends}
use Rattle.history.specs.Transactions.{next_tx, open_of, session_of, fate, IsSound}
use Rattle.history.specs.Catalogue.{TableMade, TableDropped, EntryAdded, EntryEnded, EntryMarked, CheckKept}
use Rattle.history.specs.History.{History, TxChange, SnapshotChange, RowChange, LockChange, CatalogueChange, tx_events, catalogue_events, lock_events}
use Rattle.history.specs.Presence.{is_own}
use Rattle.history.specs.Waits.{is_cause, waits_with}
use Rattle.soundness.proofs.Made.{made_was, same_table}
use Rattle.lock_table.specs.Asked.{AskedView, AtOnce, WaitsBehind, ClosesCycle, asked, asked_events, cycle_or_wait, least_cycle, those}
use Rattle.part_catalog.specs.Stands.{is_running}
use Rattle.part_catalog.specs.Names.{last_below}
use Rattle.part_catalog.specs.Found.{made_at, table_number, is_made_elsewhere, taken_by}
use Rattle.part_catalog.proofs.Found.{last_is}
use Rattle.stores.specs.Good.{IsGood}
use Rattle.stores.specs.Stand.{Stands}
use Rattle.stores.specs.declared.stores.Stores.{Stores}
use Rattle.statement_steps.specs.Asks.{told_by}
use Rattle.statement_steps.specs.Attempts.{MayAttempt}
use Rattle.statement_steps.specs.Steps.{IsStep}
use Rattle.statement_steps.specs.declared.caller.Caller.{Caller}
use Rattle.statement_steps.specs.declared.stop.Stop.{Stop}
use Rattle.statement_steps.proofs.Open.{running_open, began_before}
use Rattle.table_statements.specs.Claims.{only, waits_for_end}
use Rattle.ddl_steps.proofs.Below.{mapped_to}

-- ---- the session alone

one_bit : (s k a : ℕ) → a < 2 → (a == 1) ≡ ((k == s) || false) → a ≡ bit_at (2 ^ s) k
one_bit s k a small is = elim (cases_eq k s) [
  | inl same ↦ let one : bit_at (2 ^ s) k ≡ 1 = subst (λ n. bit_at (2 ^ s) n ≡ 1) (sym same) (bit_at-pow_same s) in grind (arith, common_steps, nat_tests, one)
  | inr other ↦ let zero : bit_at (2 ^ s) k ≡ 0 = bit_at-pow_other s k other in grind (arith, common_steps, nat_tests, zero)
]

-- the set is told by whom it has
pub only_is : (s : ℕ) (set : SessionSet) → ((k : ℕ) → has set k ≡ ((k == s) || false)) → set ≡ only s
only_is s set is =
    let bits : set.bits ≡ 2 ^ s = same_from_bits set.bits (2 ^ s) (λ k. one_bit s k (bit_at set.bits k) (bit_at-lt set.bits k) (is k)) in
    let of : ℕ → SessionSet = λ b. record { bits = b } in
    ap of bits

only_has : (s : ℕ) → has (only s) s ≡ true
only_has s = ap (λ b. b == 1) (bit_at-pow_same s)

pub only_others : (s k : ℕ) → k ≢ s → has (only s) k ≡ false
only_others s k other = ap (λ b. b == 1) (bit_at-pow_other s k other)

-- ---- it has to wait

at_once : (names : List (List ℕ)) (events : History) (v : AskedView) → (told_by names None events v).told ≡ Ok tt → v ≡ AtOnce
at_once names events AtOnce told = refl
at_once names events (WaitsBehind others) told = absurd (let c = told in cc)
at_once names events (ClosesCycle cycle) told = absurd (let c = told in cc)

free_at_once : (b : Bool) (o : Option (List ℕ)) (others : List ℕ) → (if b then AtOnce else cycle_or_wait o others) ≡ AtOnce → b ≡ true
free_at_once true o others e = refl
free_at_once false None others e = absurd (let c = e in cc)
free_at_once false (Some cycle) others e = absurd (let c = e in cc)

has_to_wait : (names : List (List ℕ)) (h : History) (s other : ℕ) → other < 128 → (waits_for_end names s other h).told ≡ Ok tt → ⊥
has_to_wait names h s other low told =
    let w : Wanted = Others (Ends (only other)) in
    let k = lock_events h in
    let first = at_once names (map LockChange (asked_events k s w)) (asked k s w) told in
    let none = free_at_once (nobody (is_cause k s w)) (least_cycle (waits_with k s w) s) (those (is_cause k s w)) first in
    let off : has (only other) other ≡ false = nobody_is (is_cause k s w) other low none in
    let on = only_has other in
    cc

-- so nothing goes on behind it
pub never_done : (names : List (List ℕ)) (r : Result (Unit {0}) Stop) (old new : Stores) (caller : Caller) (other : ℕ) (P : Unit {0} → Type 0) → MayAttempt old caller → other < 128
    → IsStep (λ (u : Unit {0}). u) r old new caller caller.cmd (waits_for_end names caller.session other) → IfOk r P
never_done names (Ok u) old new caller other P may low step = let s = may.sound in absurd (has_to_wait names s.0 caller.session other low (step.is s.0 s.1 s.2).0)
never_done names (Err e) old new caller other P may low step = tt

-- ---- who made a table has begun

maker_began : (h : History) (k : ℕ) → IsGood h → k < table_number h → (made_at h k).by.number < next_tx (tx_events h)
maker_began [] k good lt = absurd (omega (arith, lt))
maker_began (TxChange e ∷ h) k good lt = began_before e (tx_events h) (made_at h k).by.number (maker_began h k good.1 lt)
maker_began (SnapshotChange e ∷ h) k good lt = maker_began h k good.1 lt
maker_began (RowChange e ∷ h) k good lt = maker_began h k good.1 lt
maker_began (LockChange e ∷ h) k good lt = maker_began h k good.1 lt
maker_began (CatalogueChange (TableMade t) ∷ h) k good lt = elim (made_was t (catalogue_events h) k lt) [
  | inl new ↦ subst (λ (y : Table). y.by.number < next_tx (tx_events h)) new.1 good.0.acting.begun
  | inr old ↦ subst (λ (y : Table). y.by.number < next_tx (tx_events h)) (same_table t (catalogue_events h) k old) (maker_began h k good.1 old)
]
maker_began (CatalogueChange (TableDropped n s) ∷ h) k good lt = maker_began h k good.1 lt
maker_began (CatalogueChange (EntryAdded e) ∷ h) k good lt = maker_began h k good.1 lt
maker_began (CatalogueChange (EntryEnded n s) ∷ h) k good lt = maker_began h k good.1 lt
maker_began (CatalogueChange (EntryMarked n s) ∷ h) k good lt = maker_began h k good.1 lt
maker_began (CatalogueChange (CheckKept c) ∷ h) k good lt = maker_began h k good.1 lt

-- ---- who has taken a name is another session

is_run : (f : Fate) → is_running f ≡ true → f ≡ Running
is_run Running e = refl
is_run Committed e = absurd (let c = e in cc)
is_run Aborted e = absurd (let c = e in cc)

all_pass : (a b c : Bool) → (a && (b && not c)) ≡ true → (b ≡ true) × (c ≡ false)
all_pass true true false e = (refl, refl)
all_pass true true true e = absurd (let c = e in cc)
all_pass true false c e = absurd (let d = e in cc)
all_pass false b c e = absurd (let d = e in cc)

not_own : (t : ℕ) → is_own (Some t) t ≡ false → ⊥
not_own t e = grind (arith, nat_tests, e)

-- it has a transaction that is open, which is not the session's own
taken_open : (h : History) (s : ℕ) (name : List ℕ) (x : ℕ) → IsSound (tx_events h) → IsGood h → taken_by h s name ≡ Some x → (t : ℕ) × (open_of (tx_events h) x ≡ Some t) × (is_own (open_of (tx_events h) s) t ≡ false)
taken_open h s name x sound good is =
    let found = mapped_to (λ (k : ℕ). session_of (tx_events h) (made_at h k).by.number) (last_below (is_made_elsewhere h s name) (table_number h)) x is in
    let at = last_is (is_made_elsewhere h s name) (table_number h) found.0 found.1 in
    let t = (made_at h found.0).by.number in
    let both = all_pass (bytes_eq name (made_at h found.0).name) (is_running (fate (tx_events h) t)) (is_own (open_of (tx_events h) s) t) at.1 in
    let opened = running_open (tx_events h) t sound (maker_began h found.0 good at.0) (is_run (fate (tx_events h) t) both.0) in
    (t, subst (λ (n : ℕ). open_of (tx_events h) n ≡ Some t) found.2 opened, both.1)

pub taken_by_another : (h : History) (s : ℕ) (name : List ℕ) (x : ℕ) → IsSound (tx_events h) → IsGood h → taken_by h s name ≡ Some x → x ≢ s
taken_by_another h s name x sound good is same =
    let it = taken_open h s name x sound good is in
    let own : open_of (tx_events h) s ≡ Some it.0 = subst (λ (n : ℕ). open_of (tx_events h) n ≡ Some it.0) same it.1 in
    not_own it.0 (subst (λ (o : Option ℕ). is_own o it.0 ≡ false) own it.2)

pub taken_is_open : (h : History) (s : ℕ) (name : List ℕ) (x : ℕ) → IsSound (tx_events h) → IsGood h → taken_by h s name ≡ Some x → (t : ℕ) × (open_of (tx_events h) x ≡ Some t)
taken_is_open h s name x sound good is = let it = taken_open h s name x sound good is in (it.0, it.1)

-- a session that has one is one of the run's
within_list : (xs : List (Option ℕ)) (k t : ℕ) → slice_index_or xs k None ≡ Some t → k < length xs
within_list [] k t is = absurd (let c = is in cc)
within_list (x ∷ xs) zero t is = omega arith
within_list (x ∷ xs) (suc k) t is = let rest = within_list xs k t is in omega (arith, rest)

pub is_seat : (stores : Stores) (caller : Caller) (h : History) (x t : ℕ) → MayAttempt stores caller → Stands stores h → open_of (tx_events h) x ≡ Some t → x < 128
is_seat stores caller h x t may stands opened =
    let low = within_list stores.txs.current x t (stands.all.txs.current x ∙ opened) in
    let seats = may.seats in
    let few = may.few in
    omega (arith, low, seats, few)

-- ---- what follows where a part is done

pub if_done : {E : Type 0} (r : Result (Unit {0}) E) (P Q : Unit {0} → Type 0) → ((u : Unit {0}) → P u → Q u) → IfOk r P → IfOk r Q
if_done (Ok u) P Q then_q is = then_q u is
if_done (Err e) P Q then_q is = tt
