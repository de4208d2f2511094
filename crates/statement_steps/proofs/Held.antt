-- What a session holds behind the locks that it asked for.
use Rattle.std.proofs.Common.{◌≡◌, ℕ, ◌==◌, ◌&&◌, ◌||◌, Bool, true, false, List, [], ◌∷◌, ◌++◌, refl, ap, sym, subst, arith, append_assoc, append-nil, Option, Some, None, Result, Ok, Err, All, map}
use Rattle.std.proofs.lemmas.Bool.Decides.{nat_tests}
use Rattle.std.proofs.lemmas.List.Elements.{All-nil, All-cons}
use Rattle.pg_values.specs.Modes.{same_mode, rank}
use Rattle.pg_values.specs.declared.ids.TableNo.{TableNo}
use Rattle.pg_values.specs.declared.lock_mode.LockMode.{LockMode}
use Rattle.history.specs.declared.wait.Wanted.TheVariants.{Lock}
use Rattle.history.specs.Locks.{holds}
use Rattle.history.specs.History.{History, LockChange, lock_events}
use Rattle.lock_table.specs.Asked.{AskedView, AtOnce, WaitsBehind, ClosesCycle, asked, events_of}
use Rattle.statement_steps.specs.Made.{Made, Halt, then_told}
use Rattle.statement_steps.specs.Asks.{told_of, locked, all_locked, meant_or_none, kept_number, number_or}

or_right : (a b : Bool) → b ≡ true → (a || b) ≡ true
or_right true b e = refl
or_right false b e = e

or_left : (a b : Bool) → a ≡ true → (a || b) ≡ true
or_left a b e = subst (λ (z : Bool). (z || b) ≡ true) (sym e) refl

all_three : (a b c : Bool) → a ≡ true → b ≡ true → c ≡ true → (a && (b && c)) ≡ true
all_three a b c e f g = subst (λ (z : Bool). (z && (b && c)) ≡ true) (sym e) (subst (λ (z : Bool). (z && c) ≡ true) (sym f) g)

itself : (n : ℕ) → (n == n) ≡ true
itself n = grind (arith, nat_tests)

-- the history after an answer
abbrev pub after_view : List (List ℕ) → (s t : ℕ) → LockMode → AskedView → History → History
after_view names s t m v h = (told_of names (map LockChange (events_of s (Lock (record { number = t }) m) v)) v).events ++ h

abbrev pub Holds : History → (s t : ℕ) → LockMode → Type 0
Holds h s t m = holds (lock_events h) s t m ≡ true

view_keeps : (names : List (List ℕ)) (s t : ℕ) (m : LockMode) (h : History) (r x : ℕ) (k : LockMode) (v : AskedView) → Holds h r x k → Holds (after_view names s t m v h) r x k
view_keeps names s t m h r x k AtOnce held = or_right _ _ held
view_keeps names s t m h r x k (WaitsBehind others) held = held
view_keeps names s t m h r x k (ClosesCycle cycle) held = held

pub view_gets : (names : List (List ℕ)) (s t : ℕ) (m : LockMode) (h : History) (v : AskedView) → (told_of names (map LockChange (events_of s (Lock (record { number = t }) m) v)) v).told ≡ Ok tt → Holds (after_view names s t m v h) s t m
view_gets names s t m h AtOnce told = or_left _ _ (all_three (s == s) (t == t) (same_mode m m) (itself s) (itself t) (itself (rank m)))
view_gets names s t m h (WaitsBehind others) told = absurd (let c = told in cc)
view_gets names s t m h (ClosesCycle cycle) told = absurd (let c = told in cc)

told_keeps : (r : Result (Unit {0}) Halt) (events h : History) (next : Unit {0} → Made (Unit {0})) (s t : ℕ) (m : LockMode) → Holds (events ++ h) s t m → ((u : Unit {0}) → Holds ((next u).events ++ (events ++ h)) s t m) → Holds ((then_told r events next).events ++ h) s t m
told_keeps (Ok u) events h next s t m held then_held = subst (λ (g : History). Holds g s t m) (sym (append_assoc (next u).events events h)) (then_held u)
told_keeps (Err stop) events h next s t m held then_held = held

all_keep : (names : List (List ℕ)) (s : ℕ) (m : LockMode) (ts : List TableNo) (h : History) (r x : ℕ) (k : LockMode) → Holds h r x k → Holds ((all_locked names s m (map (λ t. t.number) ts) h).events ++ h) r x k
all_keep names s m [] h r x k held = held
all_keep names s m (t ∷ ts) h r x k held =
    let one = locked names s t.number m h in
    let first : Holds (one.events ++ h) r x k = view_keeps names s t.number m h r x k (asked (lock_events h) s (Lock (record { number = t.number }) m)) held in
    told_keeps one.told one.events h (λ u. all_locked names s m (map (λ x. x.number) ts) (one.events ++ h)) r x k first (λ u. all_keep names s m ts (one.events ++ h) r x k first)

abbrev AllHeld : History → (s : ℕ) → LockMode → List TableNo → Type 0
AllHeld h s m ts = All (λ t. Holds h s t.number m) ts

told_gets : (r : Result (Unit {0}) Halt) (events h : History) (next : Unit {0} → Made (Unit {0})) (s : ℕ) (m : LockMode) (ts : List TableNo) → (then_told r events next).told ≡ Ok tt → (r ≡ Ok tt → (next tt).told ≡ Ok tt → AllHeld ((next tt).events ++ (events ++ h)) s m ts)
    → AllHeld ((then_told r events next).events ++ h) s m ts
told_gets (Ok u) events h next s m ts told held = subst (λ (g : History). AllHeld g s m ts) (sym (append_assoc (next u).events events h)) (held refl told)
told_gets (Err stop) events h next s m ts told held = absurd (let c = told in cc)

pub all_got : (names : List (List ℕ)) (s : ℕ) (m : LockMode) (ts : List TableNo) (h : History) → (all_locked names s m (map (λ t. t.number) ts) h).told ≡ Ok tt → AllHeld ((all_locked names s m (map (λ t. t.number) ts) h).events ++ h) s m ts
all_got names s m [] h told = All-nil (λ t. Holds h s t.number m)
all_got names s m (t ∷ ts) h told =
    let one = locked names s t.number m h in
    let rest = all_locked names s m (map (λ x. x.number) ts) (one.events ++ h) in
    told_gets one.told one.events h (λ u. rest) s m (t ∷ ts) told (λ got rest_told.
    let first : Holds (one.events ++ h) s t.number m = view_gets names s t.number m h (asked (lock_events h) s (Lock (record { number = t.number }) m)) got in
    All-cons (λ x. Holds (rest.events ++ (one.events ++ h)) s x.number m) t ts (all_keep names s m ts (one.events ++ h) s t.number m first) (all_got names s m ts (one.events ++ h) rest_told))

number_told : (x n : ℕ) (r : Result (Unit {0}) Halt) → number_or x r ≡ Ok n → (r ≡ Ok tt) × (x ≡ n)
number_told x n (Ok u) e = (refl, let c = e in cc)
number_told x n (Err stop) e = absurd (let c = e in cc)

-- what comes of the name, and the lock behind it
abbrev pub named_by : List (List ℕ) → (s : ℕ) → LockMode → (name : List ℕ) → History → Option ℕ → Made ℕ
named_by names s m name h o = then_told (meant_or_none name o).told (meant_or_none name o).events (λ x. kept_number x (locked names s x m ((meant_or_none name o).events ++ h)))

pub named_held : (names : List (List ℕ)) (s : ℕ) (m : LockMode) (name : List ℕ) (h : History) (o : Option ℕ) (n : ℕ) → (named_by names s m name h o).told ≡ Ok n → Holds ((named_by names s m name h o).events ++ h) s n m
named_held names s m name h None n told = absurd (let c = told in cc)
named_held names s m name h (Some x) n told =
    let one = locked names s x m h in
    let view = asked (lock_events h) s (Lock (record { number = x }) m) in
    let parts = number_told x n one.told told in
    let held : Holds (one.events ++ h) s x m = view_gets names s x m h view parts.0 in
    subst (λ (g : History). Holds (g ++ h) s n m) (sym (append-nil one.events)) (subst (λ (k : ℕ). Holds (one.events ++ h) s k m) parts.1 held)

pub named_means : (names : List (List ℕ)) (s : ℕ) (m : LockMode) (name : List ℕ) (h : History) (o : Option ℕ) (n : ℕ) → (named_by names s m name h o).told ≡ Ok n → o ≡ Some n
named_means names s m name h None n told = absurd (let c = told in cc)
named_means names s m name h (Some x) n told = ap Some (number_told x n (locked names s x m h).told told).1
