-- What is kept tells of the history as it goes on.
use Rattle.std.proofs.Common.{◌≡◌, ◌≢◌, ℕ, zero, suc, ◌<◌, ◌≤◌, Bool, true, false, List, [], ◌∷◌, ◌++◌, refl, ap, sym, ◌∙◌, subst, arith, inl, inr, Option, Some, None, All, IfSome, IsSome, is_some, length, replicate, slice_index_or, slice_set}
use Rattle.std.proofs.lemmas.Grind.{common_steps, elements}
use Rattle.std.proofs.lemmas.Bool.{cases_eq, cases_lt}
use Rattle.std.specs.Prelude.{Vec}
use Rattle.std.specs.Vec.{with_items}
use Rattle.std.proofs.lemmas.List.{length-replicate, get_or-replicate, get_or_past, with_items_is}
use Rattle.std.proofs.lemmas.List.Elements.{All-nil}
use Rattle.std.proofs.lemmas.Bool.Decides.{nat_tests}
use Rattle.history.specs.Transactions.{TxEvent}
use Rattle.history.specs.declared.wait.WaitOn.{WaitOn}
use Rattle.history.specs.declared.wait.Wanted.{Wanted}
use Rattle.history.specs.declared.wait.Wanted.TheVariants.{Others}
use Rattle.history.specs.Snapshots.{SnapshotDropped}
use Rattle.history.specs.Locks.{SnapshotGone, WaitResumed, WaitWithdrawn, wanted, queue}
use Rattle.history.specs.Waits.{ready}
use Rattle.history.specs.History.{Event, History, SnapshotChange, tx_events, lock_events}
use Rattle.lock_table.specs.Stands.{TableStands as LocksStand, IsIdle, OthersWait, names}
use Rattle.schedule.specs.Lists.{without}
use Rattle.stores.specs.Events.{begun, ended, let_go, withdrawn, resumed}
use Rattle.stores.specs.Good.{IsGood}
use Rattle.stores.specs.Numbers.{IsAt}
use Rattle.stores.specs.Stand.{AllStand, Stands, AddsGood, IsSameSize}
use Rattle.stores.specs.declared.stores.Stores.{Stores}
use Rattle.statement_steps.specs.Attempts.{CanGoOn}
use Rattle.statement_steps.proofs.Lasting.{goes_on_still}
use Rattle.statement_runs.proofs.Lasting.{begun_still, ended_still, since_let_go, since_resumed, since_withdrawn}
use Rattle.statement_steps.specs.declared.rest.Rest.{Rest}
use Rattle.statement_runs.specs.Kept.{KeptSeats, AreSeated, AreWaits, TellOf, AreKept, Adds}
use Rattle.statement_steps.proofs.Numbers.{Ends, at_lock, at_dropped, at_begun, at_ended}
use Rattle.statement_runs.proofs.Waiting.{same_rest, given_up_standing, snapshot_standing, resumed_standing, withdrawn_standing}

abbrev pub seats : Stores → List Bool → List ℕ → List Bool → List (Option Rest) → List Bool → List ℕ → Option ℕ → Bool → KeptSeats
seats a b c d l m q r w = record { stores = a; opened = b; commands = c; cancelled = d; rests = l; moved = m; queue = q; ready = r; whole = w }

pub kept_after : (old new : KeptSeats) (events : History → List Event) → AreKept old → AreSeated new → Adds old new events → AreKept new
kept_after old new events kept seated adds = record {
  seated = seated;
  sound = λ w. let whole = sym adds.whole ∙ w in let s = kept.sound whole in (events s.0 ++ s.0, adds.tells whole s.0 s.1);
}

flag_set : (opened : List Bool) (current : List (Option ℕ)) (s : ℕ) (b : Bool) (o : Option ℕ) → s < length opened → length current ≡ length opened → is_some o ≡ b
    → ((r : ℕ) → slice_index_or opened r false ≡ is_some (slice_index_or current r None)) → (r : ℕ) → slice_index_or (slice_set opened s b) r false ≡ is_some (slice_index_or (slice_set current s o) r None)
flag_set opened current s b o lt same is tells r = grind (arith, common_steps, elements, nat_tests, tells r)

number_own : (xs : List ℕ) (s n : ℕ) → s < length xs → slice_index_or (slice_set xs s n) s 0 ≡ n
number_own xs s n lt = grind (arith, common_steps, elements, nat_tests)

number_other : (xs : List ℕ) (s r n : ℕ) → s ≢ r → slice_index_or (slice_set xs s n) r 0 ≡ slice_index_or xs r 0
number_other xs s r n other = grind (arith, common_steps, elements, nat_tests)

flag_other : (xs : List Bool) (s r : ℕ) (b : Bool) → s ≢ r → slice_index_or (slice_set xs s b) r false ≡ slice_index_or xs r false
flag_other xs s r b other = grind (arith, common_steps, elements, nat_tests)

-- ---- who waits for others, and what is left to statements

-- where something was given up, everybody is marked
marked : (wants : List (Option Wanted)) (moved : List Bool) (n r : ℕ) (w : Wanted) → length wants ≡ n → moved ≡ replicate n true → slice_index_or wants r None ≡ Some w → slice_index_or moved r false ≡ false → ⊥
marked wants moved n r w count all is off =
    elim (cases_lt r n) [
      | inl lt ↦ let c : true ≡ false = sym (get_or-replicate n r true false lt) ∙ (ap (λ xs. slice_index_or xs r false) (sym all) ∙ off) in absurd (cc)
      | inr past ↦ let c : None ≡ Some w = sym (get_or_past wants r None (rw count past)) ∙ is in absurd (cc)
    ]

-- so nobody else has to have a cause
pub marked_caused : (e : KeptSeats) (stores : Stores) (moved : List Bool) → AreSeated e → IsSameSize e.stores stores → moved ≡ replicate (length e.moved) true
    → (r : ℕ) (v : WaitOn) → slice_index_or stores.locks.wants r None ≡ Some (Others v) → slice_index_or moved r false ≡ false → (y : ℕ) × (names v y ≡ true)
marked_caused e stores moved seated size all r v is off = absurd (marked stores.locks.wants moved (length e.opened) r (Others v) (size.waits ∙ seated.waits) (all ∙ ap (λ n. replicate n true) seated.moved) is off)

-- one wait has ended
over_caused : (old new : List (Option Wanted)) (s r : ℕ) (v : WaitOn) → slice_index_or new s None ≡ None → (r ≢ s → slice_index_or new r None ≡ slice_index_or old r None) → slice_index_or new r None ≡ Some (Others v)
    → (slice_index_or old r None ≡ Some (Others v) → s ≢ r → (y : ℕ) × (names v y ≡ true)) → (y : ℕ) × (names v y ≡ true)
over_caused old new s r v idle others is before =
    elim (cases_eq s r) [
      | inl same ↦ let c : None ≡ Some (Others v) = sym idle ∙ subst (λ x. slice_index_or new x None ≡ Some (Others v)) (sym same) is in absurd (cc)
      | inr other ↦ before (sym (others (λ same. other (sym same))) ∙ is) other
    ]

-- ---- what happens

-- a transaction begins
pub begun_adds : (e : KeptSeats) (stores : Stores) (s tx : ℕ) → AreSeated e → s < length e.opened
    → ((h : History) → IsGood h → IsAt (begun h s ++ h) s 0)
    → AddsGood e.stores stores (λ h. begun h s) → stores.locks ≡ e.stores.locks → stores.rows ≡ e.stores.rows → stores.txs.current ≡ slice_set e.stores.txs.current s (Some tx)
    → Adds e (seats stores (slice_set e.opened s true) (slice_set e.commands s 0) e.cancelled e.rests e.moved e.queue e.ready e.whole) (λ h. begun h s)
begun_adds e stores s tx seated lt first good locks rows current = record {
  whole = refl;
  tells = λ w h tells. record {
    stands = good h tells.stands;
    opened = λ r. flag_set e.opened e.stores.txs.current s true (Some tx) lt seated.transactions refl tells.opened r ∙ ap (λ c. is_some (slice_index_or c r None)) (sym current);
    numbered = λ r. elim (cases_eq s r) [
      | inl same ↦ subst (λ x. IsAt (begun h s ++ h) x (slice_index_or (slice_set e.commands s 0) x 0)) same (subst (IsAt (begun h s ++ h) s) (sym (number_own e.commands s 0 (rw seated.commands lt))) (first h tells.stands.good))
      | inr other ↦ subst (IsAt (begun h s ++ h) r) (sym (number_other e.commands s r 0 other)) (at_begun h s r (slice_index_or e.commands r 0) other (tells.numbered r))
    ];
    queue = tells.queue;
    ready = λ g stand. tells.ready g (subst (λ l. LocksStand l g) locks stand);
    waits = record {
      caused = λ r v is off. tells.waits.caused r v (ap (λ l. slice_index_or l.wants r None) (sym locks) ∙ is) off;
      going_on = λ r. begun_still s r h (slice_index_or e.rests r None) (tells.waits.going_on r);
      standing = tells.waits.standing;
    };
  };
}

-- a transaction ends
pub ended_adds : (e : KeptSeats) (stores : Stores) (s : ℕ) (ev : History → TxEvent) (moved : List Bool) (q : List ℕ) (next : Option ℕ) → AreSeated e → s < length e.opened
    → ((h : History) (r : ℕ) → Ends (ev h) (tx_events h) r)
    → AddsGood e.stores stores (λ h. ended (ev h) s) → ((h : History) → AllStand e.stores h → stores.txs.current ≡ slice_set e.stores.txs.current s None)
    → stores.rows ≡ e.stores.rows → IsSameSize e.stores stores → moved ≡ replicate (length e.moved) true
    → q ≡ without s e.queue → ((h : History) → LocksStand stores.locks h → next ≡ ready (lock_events h))
    → Adds e (seats stores (slice_set e.opened s false) e.commands e.cancelled e.rests moved q next e.whole) (λ h. ended (ev h) s)
ended_adds e stores s ev moved q next seated lt ends good current rows size all left readies = record {
  whole = refl;
  tells = λ w h tells. record {
    stands = good h tells.stands;
    opened = λ r. flag_set e.opened e.stores.txs.current s false None lt seated.transactions refl tells.opened r ∙ ap (λ c. is_some (slice_index_or c r None)) (sym (current h tells.stands.all));
    numbered = λ r. at_ended (ev h) h s r (slice_index_or e.commands r 0) (ends h r) (tells.numbered r);
    queue = left ∙ ap (without s) tells.queue ∙ same_rest s (queue (lock_events h));
    ready = readies;
    waits = record {
      caused = marked_caused e stores moved seated size all;
      going_on = λ r. ended_still (ev h) s r h (slice_index_or e.rests r None) (ends h r) (tells.waits.going_on r);
      standing = λ r w. tells.waits.standing r (given_up_standing s (lock_events h) r w);
    };
  };
}

-- a snapshot that was held is given up
pub let_go_adds : (e : KeptSeats) (stores : Stores) (s : ℕ) (moved : List Bool) (next : Option ℕ) → AreSeated e → AddsGood e.stores stores (λ h. let_go s) → stores.txs.current ≡ e.stores.txs.current
    → stores.rows ≡ e.stores.rows → IsSameSize e.stores stores → moved ≡ replicate (length e.moved) true → ((h : History) → LocksStand stores.locks h → next ≡ ready (lock_events h))
    → Adds e (seats stores e.opened e.commands e.cancelled e.rests moved e.queue next e.whole) (λ h. let_go s)
let_go_adds e stores s moved next seated good current rows size all readies = record {
  whole = refl;
  tells = λ w h tells. record {
    stands = good h tells.stands;
    opened = λ r. tells.opened r ∙ ap (λ c. is_some (slice_index_or c r None)) (sym current);
    numbered = λ r. at_lock (SnapshotGone s) (SnapshotChange (SnapshotDropped s) ∷ h) r (slice_index_or e.commands r 0) (at_dropped s h r (slice_index_or e.commands r 0) (tells.numbered r));
    queue = tells.queue;
    ready = readies;
    waits = record {
      caused = marked_caused e stores moved seated size all;
      going_on = λ r. goes_on_still h (let_go s ++ h) r (slice_index_or e.rests r None) (since_let_go r s h) (tells.waits.going_on r);
      standing = λ r w. tells.waits.standing r (snapshot_standing s (lock_events h) r w);
    };
  };
}

-- a wait is over
pub resumed_adds : (e : KeptSeats) (stores : Stores) (s : ℕ) (q : List ℕ) (next : Option ℕ) → AddsGood e.stores stores (λ h. resumed s) → stores.txs ≡ e.stores.txs
    → stores.rows ≡ e.stores.rows → IsIdle stores.locks s → OthersWait s e.stores.locks stores.locks
    → q ≡ without s e.queue → ((h : History) → LocksStand stores.locks h → next ≡ ready (lock_events h))
    → Adds e (seats stores e.opened e.commands e.cancelled e.rests (slice_set e.moved s false) q next e.whole) (λ h. resumed s)
resumed_adds e stores s q next good txs rows idle others left readies = record {
  whole = refl;
  tells = λ w h tells. record {
    stands = good h tells.stands;
    opened = λ r. tells.opened r ∙ ap (λ t. is_some (slice_index_or t.current r None)) (sym txs);
    numbered = λ r. at_lock (WaitResumed s) h r (slice_index_or e.commands r 0) (tells.numbered r);
    queue = left ∙ ap (without s) tells.queue ∙ same_rest s (queue (lock_events h));
    ready = readies;
    waits = record {
      caused = λ r v is off. over_caused e.stores.locks.wants stores.locks.wants s r v idle (others r) is (λ was other. tells.waits.caused r v was (sym (flag_other e.moved s r false other) ∙ off));
      going_on = λ r. goes_on_still h (resumed s ++ h) r (slice_index_or e.rests r None) (since_resumed r s h) (tells.waits.going_on r);
      standing = λ r w. tells.waits.standing r (resumed_standing s (lock_events h) r w);
    };
  };
}

withdrawn_apart : (e : KeptSeats) (h : History) (s r : ℕ) → AreWaits e h → is_some (wanted (WaitWithdrawn s ∷ lock_events h) r) ≡ true → slice_index_or (slice_set e.cancelled s true) r false ≡ false
withdrawn_apart e h s r waits w =
    elim (cases_eq s r) [
      | inl same ↦ absurd (grind (arith, common_steps, nat_tests, same, w))
      | inr other ↦ flag_other e.cancelled s r true other ∙ waits.standing r (withdrawn_standing s (lock_events h) r w)
    ]

-- a wait is cancelled
pub withdrawn_adds : (e : KeptSeats) (stores : Stores) (s : ℕ) (q : List ℕ) (next : Option ℕ) → AddsGood e.stores stores (λ h. withdrawn s) → stores.txs ≡ e.stores.txs
    → stores.rows ≡ e.stores.rows → IsIdle stores.locks s → OthersWait s e.stores.locks stores.locks
    → q ≡ without s e.queue → ((h : History) → LocksStand stores.locks h → next ≡ ready (lock_events h))
    → Adds e (seats stores e.opened e.commands (slice_set e.cancelled s true) e.rests e.moved q next e.whole) (λ h. withdrawn s)
withdrawn_adds e stores s q next good txs rows idle others left readies = record {
  whole = refl;
  tells = λ w h tells. record {
    stands = good h tells.stands;
    opened = λ r. tells.opened r ∙ ap (λ t. is_some (slice_index_or t.current r None)) (sym txs);
    numbered = λ r. at_lock (WaitWithdrawn s) h r (slice_index_or e.commands r 0) (tells.numbered r);
    queue = left ∙ ap (without s) tells.queue ∙ same_rest s (queue (lock_events h));
    ready = readies;
    waits = record {
      caused = λ r v is off. over_caused e.stores.locks.wants stores.locks.wants s r v idle (others r) is (λ was other. tells.waits.caused r v was off);
      going_on = λ r. goes_on_still h (withdrawn s ++ h) r (slice_index_or e.rests r None) (since_withdrawn r s h) (tells.waits.going_on r);
      standing = λ r w. withdrawn_apart e h s r tells.waits w;
    };
  };
}

-- there are as many places as before
pub seated_after : (e : KeptSeats) (stores : Stores) (opened : List Bool) (commands : List ℕ) (cancelled : List Bool) (rests : List (Option Rest)) (moved : List Bool) (queue : List ℕ) (next : Option ℕ) (whole : Bool) → AreSeated e
    → length opened ≡ length e.opened → length commands ≡ length e.commands → length cancelled ≡ length e.cancelled → length rests ≡ length e.rests → length moved ≡ length e.moved → IsSameSize e.stores stores
    → All (λ r. r < length e.opened) queue → IfSome next (λ r. r < length e.opened)
    → AreSeated (seats stores opened commands cancelled rests moved queue next whole)
seated_after e stores opened commands cancelled rests moved queue next whole seated o m f l k size all some = record {
  few = rw o seated.few;
  commands = m ∙ (seated.commands ∙ sym o);
  cancelled = f ∙ (seated.cancelled ∙ sym o);
  rests = l ∙ (seated.rests ∙ sym o);
  moved = k ∙ (seated.moved ∙ sym o);
  transactions = size.txs ∙ (seated.transactions ∙ sym o);
  waits = size.waits ∙ (seated.waits ∙ sym o);
  tables = size.tables ∙ seated.tables;
  queue = subst (λ n. All (λ r. r < n) queue) (sym o) all;
  ready = subst (λ n. IfSome next (λ r. r < n)) (sym o) some;
}

pub as_long : {X : Type 0} (xs : List X) (s : ℕ) (x : X) → length (slice_set xs s x) ≡ length xs
as_long xs s x = grind (arith, common_steps, elements)

-- the flags of a vector, all of which were set
pub all_set : {Z : Type 0} (v : Vec Bool Z) (flags seen : List Bool) → flags ≡ replicate (length seen) true → seen ≡ v.items → (with_items v flags).items ≡ replicate (length v.items) true
all_set v flags seen all same = with_items_is v flags (ap length all ∙ (length-replicate (length seen) true ∙ (ap length same ∙ sym v.ok.0))) ∙ (all ∙ ap (λ xs. replicate (length xs) true) same)

pub all_marked : (xs moved : List Bool) → moved ≡ replicate (length xs) true → length moved ≡ length xs
all_marked xs moved all = ap length all ∙ length-replicate (length xs) true

pub known_of : (n : ℕ) (next : Option ℕ) (m : ℕ) → n ≡ m → IfSome next (λ r. r < n) → IfSome next (λ r. r < m)
known_of n next m same some = subst (λ k. IfSome next (λ r. r < k)) same some

-- a session with a transaction, or with none
pub has_one : (o : Option ℕ) → is_some o ≡ true → IsSome o
has_one None e = absurd (cc)
has_one (Some x) e = refl

pub has_none : (o : Option ℕ) → is_some o ≡ false → o ≡ None
has_none None e = refl
has_none (Some x) e = absurd (cc)

-- where memory ran out nothing is told any more
pub broken_adds : (old new : KeptSeats) (events : History → List Event) → old.whole ≡ false → new.whole ≡ old.whole → Adds old new events
broken_adds old new events broken same = record { whole = same; tells = λ w. absurd (let c = sym broken ∙ w in cc) }

pub same_size : (stores : Stores) → IsSameSize stores stores
same_size stores = record { txs = refl; waits = refl; tables = refl }

replicated : {X : Type 0} (x : X) (n s : ℕ) → slice_index_or (replicate n x) s x ≡ x
replicated x zero s = refl
replicated x (suc n) zero = refl
replicated x (suc n) (suc s) = replicated x n s

-- nothing has happened
pub new_tells : (stores : Stores) (n : ℕ) (opened : List Bool) (commands : List ℕ) (cancelled : List Bool) (rests : List (Option Rest)) (moved : List Bool) (q : List ℕ) (next : Option ℕ)
    → opened ≡ replicate n false → rests ≡ replicate n None → q ≡ [] → Stands stores []
    → ((g : History) → LocksStand stores.locks g → next ≡ ready (lock_events g)) → TellOf (seats stores opened commands cancelled rests moved q next true) []
new_tells stores n opened commands cancelled rests moved q next off begun none stands readies = record {
  stands = stands;
  opened = λ s. ap (λ xs. slice_index_or xs s false) off ∙ (replicated false n s ∙ ap is_some (sym (stands.all.txs.current s)));
  numbered = λ s t own. absurd (let c = own in cc);
  queue = none;
  ready = readies;
  waits = record {
    caused = λ s v is off. absurd (let c = sym (stands.all.locks.tells.wants s) ∙ is in cc);
    going_on = λ s. subst (CanGoOn [] s) (sym (ap (λ xs. slice_index_or xs s None) begun ∙ replicated None n s)) tt;
    standing = λ s e. absurd (let c = e in cc);
  };
}

pub new_kept : (stores : Stores) (n : ℕ) (opened : List Bool) (commands : List ℕ) (cancelled : List Bool) (rests : List (Option Rest)) (moved : List Bool) (q : List ℕ) (next : Option ℕ) → n ≤ 65
    → opened ≡ replicate n false → commands ≡ replicate n 0 → cancelled ≡ replicate n false → rests ≡ replicate n None → moved ≡ replicate n false → q ≡ [] → Stands stores []
    → ((g : History) → LocksStand stores.locks g → next ≡ ready (lock_events g)) → IfSome next (λ r. r < length stores.locks.wants)
    → (length stores.txs.current ≡ n) × (length stores.locks.wants ≡ n) → stores.locks.tables ≡ 4096
    → AreKept (seats stores opened commands cancelled rests moved q next true)
new_kept stores n opened commands cancelled rests moved q next few off numbers none begun unmoved empty stands readies known sizes tables =
    let count : length opened ≡ n = ap length off ∙ length-replicate n false in
    record {
      seated = record {
        few = rw count few;
        commands = (ap length numbers ∙ length-replicate n 0) ∙ sym count;
        cancelled = (ap length none ∙ length-replicate n false) ∙ sym count;
        rests = (ap length begun ∙ length-replicate n None) ∙ sym count;
        moved = (ap length unmoved ∙ length-replicate n false) ∙ sym count;
        transactions = sizes.0 ∙ sym count;
        waits = sizes.1 ∙ sym count;
        tables = tables;
        queue = subst (All (λ r. r < length opened)) (sym empty) (All-nil (λ r. r < length opened));
        ready = known_of (length stores.locks.wants) next (length opened) (sizes.1 ∙ sym count) known;
      };
      sound = λ w. ([], new_tells stores n opened commands cancelled rests moved q next off begun empty stands readies);
    }
