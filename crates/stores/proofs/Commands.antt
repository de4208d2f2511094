-- The numbers of a transaction's commands, told from its events.
use Rattle.std.proofs.Common.{◌≡◌, ℕ, ◌≤◌, arith, ◌==◌, if◌then◌else◌, [], ◌∷◌, ◌++◌, refl, sym, ap, ◌∙◌, inl, inr, Option, Some, None, All}
use Rattle.std.proofs.lemmas.List.Elements.{All-nil, All-cons, All-head, All-tail, All-append}
use Rattle.history.specs.Transactions.{TxEvents, TxBegan, TxCommitted, TxAborted, open_of, next_tx}
use Rattle.history.specs.Snapshots.{TakenSnapshot, SnapshotHeld, SnapshotDropped, held_by}
use Rattle.history.specs.Rows.{LeafAdded, RowBorn, RowEnded}
use Rattle.history.specs.Catalogue.{catalogue_command}
use Rattle.history.specs.History.{Event, History, TxChange, SnapshotChange, RowChange, LockChange, CatalogueChange, tx_events, snapshot_events, row_events, held_or_fresh}
use Rattle.history.specs.Dead.{MayRead}
use Rattle.history.specs.Legal.{IsTimely, ChangedBefore, MayHold, command_of, IsNotAfter, IsInOrder}
use Rattle.stores.specs.Events.{begun, look_of, with_command}
use Rattle.stores.specs.Good.{IsActing, IsGood}
use Rattle.stores.specs.Laws.{IsOpenLook}
use Rattle.stores.specs.Numbers.{IsEarlier, IsBefore, IsAt}
use Rattle.stores.proofs.Goodness.{held_own, if_self}

-- ---- a number that has not begun has done nothing

-- the next number rises
next_rises : (e : Event) (h : History) (n : ℕ) → next_tx (tx_events (e ∷ h)) ≤ n → next_tx (tx_events h) ≤ n
next_rises (TxChange (TxBegan s t)) h n le = omega (arith, le)
next_rises (TxChange (TxCommitted s t)) h n le = le
next_rises (TxChange (TxAborted s t)) h n le = le
next_rises (SnapshotChange e) h n le = le
next_rises (RowChange e) h n le = le
next_rises (LockChange e) h n le = le
next_rises (CatalogueChange e) h n le = le

not_yet : (txs : TxEvents) (n cmd : ℕ) (c : Option (ℕ × ℕ)) → IsActing txs c → next_tx txs ≤ n → IsEarlier n cmd c
not_yet txs n cmd None acting le = tt
not_yet txs n cmd (Some c) acting le = λ same. absurd (omega (arith, acting.begun, same, le))

nothing_before : (e : Event) (h : History) (n cmd : ℕ) → IsActing (tx_events h) (command_of e) → next_tx (tx_events h) ≤ n → IsBefore n cmd e
nothing_before (SnapshotChange (SnapshotHeld r s)) h n cmd acting le = λ same. absurd (omega (arith, acting.begun, same, le))
nothing_before (SnapshotChange (SnapshotDropped r)) h n cmd acting le = tt
nothing_before (TxChange e) h n cmd acting le = tt
nothing_before (RowChange e) h n cmd acting le = not_yet (tx_events h) n cmd (command_of (RowChange e)) acting le
nothing_before (LockChange e) h n cmd acting le = tt
nothing_before (CatalogueChange e) h n cmd acting le = not_yet (tx_events h) n cmd (catalogue_command e) acting le

pub nothing_yet : (h : History) (n cmd : ℕ) → IsGood h → next_tx (tx_events h) ≤ n → All (IsBefore n cmd) h
nothing_yet [] n cmd good le = All-nil (IsBefore n cmd)
nothing_yet (e ∷ h) n cmd good le =
    let rest : next_tx (tx_events h) ≤ n = next_rises e h n le in
    All-cons (IsBefore n cmd) e h (nothing_before e h n cmd good.0.acting rest) (nothing_yet h n cmd good.1 rest)

begun_number : (n t : ℕ) (old : Option ℕ) (s : ℕ) → (if s == s then Some n else old) ≡ Some t → n ≡ t
begun_number n t old s e = let is : Some n ≡ Some t = sym (if_self s (Some n) old) ∙ e in cc

pub begins_at_zero : (h : History) (session : ℕ) → IsGood h → IsAt (begun h session ++ h) session 0
begins_at_zero h session good t e =
    let n : ℕ = next_tx (tx_events h) in
    let same : n ≡ t = begun_number n t (open_of (tx_events h) session) session e in
    All-cons (IsBefore t 0) (TxChange (TxBegan session n)) h tt (nothing_yet h t 0 good (omega (arith, same)))

-- ---- later commands

earlier_later : (t cmd next : ℕ) (c : Option (ℕ × ℕ)) → cmd ≤ next → IsEarlier t cmd c → IsEarlier t next c
earlier_later t cmd next None le is = tt
earlier_later t cmd next (Some c) le is = λ same. omega (arith, le, is same)

before_later : (t cmd next : ℕ) (e : Event) → cmd ≤ next → IsBefore t cmd e → IsBefore t next e
before_later t cmd next (SnapshotChange (SnapshotHeld r s)) le is = λ same. omega (arith, le, is same)
before_later t cmd next (SnapshotChange (SnapshotDropped r)) le is = tt
before_later t cmd next (TxChange e) le is = tt
before_later t cmd next (RowChange e) le is = earlier_later t cmd next (command_of (RowChange e)) le is
before_later t cmd next (LockChange e) le is = tt
before_later t cmd next (CatalogueChange e) le is = earlier_later t cmd next (catalogue_command e) le is

all_later : (t cmd next : ℕ) (h : History) → cmd ≤ next → All (IsBefore t cmd) h → All (IsBefore t next) h
all_later t cmd next [] le is = All-nil (IsBefore t next)
all_later t cmd next (e ∷ h) le is = All-cons (IsBefore t next) e h (before_later t cmd next e le (All-head (IsBefore t cmd) e h is)) (all_later t cmd next h le (All-tail (IsBefore t cmd) e h is))

pub goes_on : (events h : History) (session cmd next : ℕ) → cmd ≤ next → IsAt h session cmd → open_of (tx_events (events ++ h)) session ≡ open_of (tx_events h) session
    → ((t : ℕ) → open_of (tx_events h) session ≡ Some t → All (IsBefore t next) events) → IsAt (events ++ h) session next
goes_on events h session cmd next le at same since t e =
    let own : open_of (tx_events h) session ≡ Some t = sym same ∙ e in
    All-append (IsBefore t next) events h (since t own) (all_later t cmd next h le (at t own))

-- ---- what a command may hold and change

earlier_in_order : (t cmd : ℕ) (c : Option (ℕ × ℕ)) → IsEarlier t cmd c → IsNotAfter c (Some (t, cmd))
earlier_in_order t cmd None is = tt
earlier_in_order t cmd (Some (u, m)) is = λ same. omega (arith, is same)

before_in_order : (t cmd : ℕ) (e : Event) → IsBefore t cmd e → IsNotAfter (command_of e) (Some (t, cmd))
before_in_order t cmd (SnapshotChange (SnapshotHeld r s)) is = is
before_in_order t cmd (SnapshotChange (SnapshotDropped r)) is = tt
before_in_order t cmd (TxChange e) is = tt
before_in_order t cmd (RowChange e) is = earlier_in_order t cmd (command_of (RowChange e)) is
before_in_order t cmd (LockChange e) is = tt
before_in_order t cmd (CatalogueChange e) is = earlier_in_order t cmd (catalogue_command e) is

all_in_order : (t cmd : ℕ) (h : History) → All (IsBefore t cmd) h → IsInOrder (Some (t, cmd)) h
all_in_order t cmd [] is = tt
all_in_order t cmd (e ∷ h) is = (before_in_order t cmd e (All-head (IsBefore t cmd) e h is), all_in_order t cmd h (All-tail (IsBefore t cmd) e h is))

pub commands_are_in_order : (h : History) (session t cmd : ℕ) → IsAt h session cmd → open_of (tx_events h) session ≡ Some t → IsInOrder (Some (t, cmd)) h
commands_are_in_order h session t cmd at own = all_in_order t cmd h (at t own)

pub changed_before : (t cmd : ℕ) (h : History) → All (IsBefore t cmd) h → ChangedBefore (row_events h) t cmd
changed_before t cmd [] is = tt
changed_before t cmd (TxChange e ∷ h) is = changed_before t cmd h (All-tail (IsBefore t cmd) (TxChange e) h is)
changed_before t cmd (SnapshotChange e ∷ h) is = changed_before t cmd h (All-tail (IsBefore t cmd) (SnapshotChange e) h is)
changed_before t cmd (LockChange e ∷ h) is = changed_before t cmd h (All-tail (IsBefore t cmd) (LockChange e) h is)
changed_before t cmd (CatalogueChange e ∷ h) is = changed_before t cmd h (All-tail (IsBefore t cmd) (CatalogueChange e) h is)
changed_before t cmd (RowChange (LeafAdded l) ∷ h) is = changed_before t cmd h (All-tail (IsBefore t cmd) (RowChange (LeafAdded l)) h is)
changed_before t cmd (RowChange (RowBorn v) ∷ h) is = (All-head (IsBefore t cmd) (RowChange (RowBorn v)) h is, changed_before t cmd h (All-tail (IsBefore t cmd) (RowChange (RowBorn v)) h is))
changed_before t cmd (RowChange (RowEnded k e) ∷ h) is = (All-head (IsBefore t cmd) (RowChange (RowEnded k e)) h is, changed_before t cmd h (All-tail (IsBefore t cmd) (RowChange (RowEnded k e)) h is))

-- the snapshot of a look is timely, and of the session's transaction
pub timely : (o : Option TakenSnapshot) (txs : TxEvents) (session cmd : ℕ) → IsTimely o txs (with_command cmd (held_or_fresh o txs session))
timely None txs session cmd = refl
timely (Some s) txs session cmd = inr (refl, refl)

own_tx : (txs : TxEvents) (session t : ℕ) (o : Option TakenSnapshot) → open_of txs session ≡ Some t → ((s : TakenSnapshot) → o ≡ Some s → open_of txs session ≡ Some s.tx) → (held_or_fresh o txs session).tx ≡ t
own_tx txs session t None own is = rw own refl
own_tx txs session t (Some s) own is = let e : Some s.tx ≡ Some t = sym (is s refl) ∙ own in cc

pub look_is_own : (h : History) (session t cmd : ℕ) → IsGood h → open_of (tx_events h) session ≡ Some t → (look_of h session cmd).tx ≡ t
look_is_own h session t cmd good own = own_tx (tx_events h) session t (held_by (snapshot_events h) session) own (λ s e. held_own h session s good e)

-- so the session may read under it
pub look_is_read : (h : History) (session t cmd : ℕ) → IsGood h → open_of (tx_events h) session ≡ Some t → MayRead (look_of h session cmd) h
look_is_read h session t cmd good own =
    (session, record { own = own ∙ ap (λ z. Some z) (sym (look_is_own h session t cmd good own)); timely = timely (held_by (snapshot_events h) session) (tx_events h) session cmd })

pub look_may_be_held : (h : History) (session t cmd : ℕ) → IsGood h → IsAt h session cmd → open_of (tx_events h) session ≡ Some t → MayHold (SnapshotHeld session (look_of h session cmd)) h
look_may_be_held h session t cmd good at own =
    let is : (look_of h session cmd).tx ≡ t = look_is_own h session t cmd good own in (
      record { own = own ∙ ap (λ z. Some z) (sym is); timely = timely (held_by (snapshot_events h) session) (tx_events h) session cmd },
      rw is (changed_before t cmd h (at t own)),
    )

pub looks_are_open : (h : History) (session t cmd : ℕ) → IsGood h → IsAt h session cmd → open_of (tx_events h) session ≡ Some t → IsOpenLook h session t (look_of h session cmd)
looks_are_open h session t cmd good at own =
    let may : MayHold (SnapshotHeld session (look_of h session cmd)) h = look_may_be_held h session t cmd good at own in
    record { own = look_is_own h session t cmd good own; may_be_held = may; looking = inr (inl may) }
