-- Less is left to happen when a wait ends.
use Rattle.std.proofs.Common.{◌≡◌, ℕ, ◌+◌, ◌<◌, ◌≤◌, Bool, true, false, List, ◌++◌, refl, ap, sym, ◌∙◌, arith, inl, inr, Option, Some, None, is_some, length, slice_index_or, slice_set}
use Rattle.std.specs.List.{sum_by}
use Rattle.std.proofs.lemmas.Grind.{common_steps}
use Rattle.std.proofs.lemmas.Bool.{and_parts, cases_Bool}
use Rattle.std.proofs.lemmas.Bool.Decides.{nat_tests}
use Rattle.pg_values.specs.declared.ids.TableNo.{TableNo}
use Rattle.pg_values.specs.declared.lock_mode.LockMode.{LockMode}
use Rattle.history.specs.declared.wait.WaitOn.{WaitOn}
use Rattle.history.specs.declared.wait.Wanted.{Wanted}
use Rattle.history.specs.declared.wait.Wanted.TheVariants.{Lock, Others}
use Rattle.history.specs.Locks.{wanted}
use Rattle.history.specs.Waits.{ready}
use Rattle.history.specs.History.{History, lock_events}
use Rattle.lock_table.specs.Stands.{names}
use Rattle.schedule.specs.Lists.{head_of}
use Rattle.stores.specs.Events.{resumed, withdrawn}
use Rattle.stores.specs.Stand.{Stands, AddsGood}
use Rattle.stores.specs.declared.stores.Stores.{Stores}
use Rattle.statement_steps.specs.Attempts.{LocksStay}
use Rattle.statement_runs.specs.Database.{is_ready}
use Rattle.statement_runs.specs.Kept.{KeptSeats, TellOf, AreKept, due_in, waits_in}
use Rattle.statement_runs.specs.Weight.{of_mark, unheld, slack}
use Rattle.statement_steps.specs.declared.rest.Rest.{Rest}
use Rattle.statement_runs.proofs.Steps.{seats}
use Rattle.statement_runs.proofs.Waiting.{lacks_wanted, ready_names, ready_waits, first_waits, got_it, still_holds}
use Rattle.statement_runs.proofs.Weights.{unheld_less, unheld_mono, flag_set_less, mark_cleared}

pub ready_is : (o : Option ℕ) (s : ℕ) → is_ready o s ≡ true → o ≡ Some s
ready_is None s e = absurd (cc)
ready_is (Some r) s e = let same : r ≡ s = grind (arith, common_steps, nat_tests, e) in ap Some same

-- who is due is ready in each history that the locks stand for
pub due_is : (e : KeptSeats) (s : ℕ) → due_in e s ≡ true → (e.whole ≡ true) × (e.ready ≡ Some s)
due_is e s due = let both = and_parts e.whole (is_ready e.ready s) due in (both.0, ready_is e.ready s both.1)

-- nobody loses a lock
still_held : (e : KeptSeats) (stores : Stores) (s : ℕ) (h : History) → TellOf e h → Stands stores (resumed s ++ h) → LocksStay e.stores stores
still_held e stores s h tells new x k n b = new.all.locks.tells.held x k n ∙ still_holds (lock_events h) s x k n (sym (tells.stands.all.locks.tells.held x k n) ∙ b)

-- who waited for a lock has it
lock_lower : (e : KeptSeats) (stores : Stores) (s : ℕ) (t : TableNo) (m : LockMode) (h : History) → TellOf e h → Stands stores (resumed s ++ h) → s < length e.opened → t.number < e.stores.locks.tables → wanted (lock_events h) s ≡ Some (Lock t m)
    → unheld (length e.opened) e.stores.locks.tables stores.locks.held < unheld (length e.opened) e.stores.locks.tables e.stores.locks.held
lock_lower e stores s t m h tells new lt known is =
    let old = tells.stands.all.locks in
    unheld_less (length e.opened) e.stores.locks.tables e.stores.locks.held stores.locks.held s t.number m (still_held e stores s h tells new) lt known
    (old.tells.held s t.number m ∙ lacks_wanted (lock_events h) s t m old.sound is)
    (new.all.locks.tells.held s t.number m ∙ got_it (lock_events h) s t m is)

-- who waited for others goes on since something was given up
others_marked : (e : KeptSeats) (s : ℕ) (v : WaitOn) (h : History) → TellOf e h → ready (lock_events h) ≡ Some s → wanted (lock_events h) s ≡ Some (Others v) → ((y : ℕ) → names v y ≡ true → y < 128) → slice_index_or e.moved s false ≡ true
others_marked e s v h tells is waits low =
    elim (cases_Bool (slice_index_or e.moved s false)) [
      | inl on ↦ on
      | inr off ↦
          let cause = tells.waits.caused s v (tells.stands.all.locks.tells.wants s ∙ waits) off in
          let none = ready_names (lock_events h) s cause.0 v is waits (low cause.0 cause.1) in
          let c : true ≡ false = sym cause.1 ∙ none in
          absurd (cc)
    ]

-- so much less is left: a lock, or a mark
left_lower : (e : KeptSeats) (stores : Stores) (s : ℕ) (w : Option Wanted) (h : History) → TellOf e h → Stands stores (resumed s ++ h) → s < length e.opened → s < length e.moved → ready (lock_events h) ≡ Some s
    → wanted (lock_events h) s ≡ w → ((t : TableNo) (m : LockMode) → w ≡ Some (Lock t m) → t.number < e.stores.locks.tables) → ((v : WaitOn) → w ≡ Some (Others v) → (y : ℕ) → names v y ≡ true → y < 128)
    → unheld (length e.opened) e.stores.locks.tables stores.locks.held + sum_by of_mark (slice_set e.moved s false) < unheld (length e.opened) e.stores.locks.tables e.stores.locks.held + sum_by of_mark e.moved
left_lower e stores s None h tells new lt there is waits known low = absurd (let c : false ≡ true = ap is_some (sym waits) ∙ ready_waits (lock_events h) s is in cc)
left_lower e stores s (Some (Lock t m)) h tells new lt there is waits known low =
    let less = lock_lower e stores s t m h tells new lt (known t m refl) waits in
    let marks = mark_cleared e.moved s there in
    omega (arith, less, marks)
left_lower e stores s (Some (Others v)) h tells new lt there is waits known low =
    let le = unheld_mono (length e.opened) e.stores.locks.tables e.stores.locks.held stores.locks.held (still_held e stores s h tells new) in
    let marks = mark_cleared e.moved s there in
    let one : of_mark (slice_index_or e.moved s false) ≡ 1 = ap of_mark (others_marked e s v h tells is waits (low v refl)) in
    omega (arith, le, marks, one)

pub resumed_lower : (e : KeptSeats) (stores : Stores) (s : ℕ) (q : List ℕ) (next : Option ℕ) → AreKept e → due_in e s ≡ true → s < length e.opened → AddsGood e.stores stores (λ h. resumed s)
    → stores.locks.tables ≡ e.stores.locks.tables → ((t : TableNo) (m : LockMode) → slice_index_or e.stores.locks.wants s None ≡ Some (Lock t m) → t.number < e.stores.locks.tables)
    → ((v : WaitOn) → slice_index_or e.stores.locks.wants s None ≡ Some (Others v) → (y : ℕ) → names v y ≡ true → y < 128)
    → slack (seats stores e.opened e.commands e.cancelled e.rests (slice_set e.moved s false) q next e.whole) < slack e
resumed_lower e stores s q next kept due lt good same known low =
    let both = due_is e s due in
    let sound = kept.sound both.0 in
    let h = sound.0 in
    let tells = sound.1 in
    let is : ready (lock_events h) ≡ Some s = sym (tells.ready h tells.stands.all.locks) ∙ both.1 in
    let less = left_lower e stores s (slice_index_or e.stores.locks.wants s None) h tells (good h tells.stands) lt (rw kept.seated.moved lt) is (sym (tells.stands.all.locks.tells.wants s)) known low in
    let at : unheld (length e.opened) stores.locks.tables stores.locks.held ≡ unheld (length e.opened) e.stores.locks.tables stores.locks.held = ap (λ n. unheld (length e.opened) n stores.locks.held) same in
    omega (arith, less, at)

pub withdrawn_lower : (e : KeptSeats) (stores : Stores) (s : ℕ) (q : List ℕ) (next : Option ℕ) → AreKept e → waits_in e s ≡ true → s < length e.opened → AddsGood e.stores stores (λ h. withdrawn s)
    → stores.locks.tables ≡ e.stores.locks.tables
    → slack (seats stores e.opened e.commands (slice_set e.cancelled s true) e.rests e.moved q next e.whole) < slack e
withdrawn_lower e stores s q next kept waits lt good same =
    let both = and_parts e.whole (is_some (slice_index_or e.stores.locks.wants s None)) waits in
    let sound = kept.sound both.0 in
    let h = sound.0 in
    let tells = sound.1 in
    let old = tells.stands.all.locks in
    let new = (good h tells.stands).all.locks in
    let off = tells.waits.standing s (ap is_some (sym (old.tells.wants s)) ∙ both.1) in
    let low = flag_set_less e.cancelled s (rw kept.seated.cancelled lt) off in
    let le = unheld_mono (length e.opened) e.stores.locks.tables e.stores.locks.held stores.locks.held (λ x k n b. new.tells.held x k n ∙ (sym (old.tells.held x k n) ∙ b)) in
    let at : unheld (length e.opened) stores.locks.tables stores.locks.held ≡ unheld (length e.opened) e.stores.locks.tables stores.locks.held = ap (λ n. unheld (length e.opened) n stores.locks.held) same in
    omega (arith, low, le, at)

-- and not more where nobody loses a lock
pub tried_lower : (e : KeptSeats) (stores : Stores) (commands : List ℕ) (rests : List (Option Rest)) (q : List ℕ) (next : Option ℕ) (w : Bool) → LocksStay e.stores stores → stores.locks.tables ≡ e.stores.locks.tables
    → slack (seats stores e.opened commands e.cancelled rests e.moved q next w) ≤ slack e
tried_lower e stores commands rests q next w stay same =
    let le = unheld_mono (length e.opened) e.stores.locks.tables e.stores.locks.held stores.locks.held stay in
    let at : unheld (length e.opened) stores.locks.tables stores.locks.held ≡ unheld (length e.opened) e.stores.locks.tables stores.locks.held = ap (λ n. unheld (length e.opened) n stores.locks.held) same in
    omega (arith, le, at)

-- who waits the longest waits
pub oldest_waits : (e : KeptSeats) (s : ℕ) → AreKept e → e.whole ≡ true → head_of e.queue ≡ Some s → waits_in e s ≡ true
oldest_waits e s kept whole first =
    let sound = kept.sound whole in
    let tells = sound.1 in
    let w = first_waits (lock_events sound.0) s (ap head_of (sym tells.queue) ∙ first) in
    let at : is_some (slice_index_or e.stores.locks.wants s None) ≡ true = ap is_some (tells.stands.all.locks.tells.wants s) ∙ w in
    rw (whole, at) refl
