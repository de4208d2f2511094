-- What is present in a session's world stands in the lists of the history, and below its parent.
use Rattle.std.proofs.Common.{◌≡◌, ℕ, zero, suc, ◌==◌, ◌&&◌, not, arith, Bool, true, false, if◌then◌else◌, List, [], ◌∷◌, ◌⊎◌, inl, inr, refl, ap, subst, ◌∙◌, Option, Some, None, filter}
use Rattle.std.specs.List.{Contains}
use Rattle.std.proofs.lemmas.Bool.{cases_Bool}
use Rattle.std.proofs.lemmas.Bool.Decides.{nat_tests}
use Rattle.std.proofs.lemmas.List.Elements.{Contains-append_left, Contains-append_right}
use Rattle.bound_forms.specs.Bounds.{comes_after}
use Rattle.history.specs.declared.catalogue.Entry.{Entry}
use Rattle.history.specs.declared.catalogue.Stamp.{Stamp}
use Rattle.history.specs.Transactions.{TxEvents, was_aborted}
use Rattle.history.specs.Catalogue.{CatalogueEvents, TableMade, TableDropped, EntryAdded, EntryEnded, EntryMarked, CheckKept, entries_added, entry_ends, counted_of, IsEntry, IsEntryEnd, marks, IsMark}
use Rattle.history.specs.History.{History, tx_events, catalogue_events}
use Rattle.history.specs.Presence.{counts, stamp_counts, is_present, entries_present, sees_stamp, is_shown, entries_shown}
use Rattle.history.specs.Snapshots.{TakenSnapshot, sees}
use Rattle.row_router.specs.Histories.{placed, all_placed, is_under, children}
use Rattle.soundness.specs.Worlds.{Present, IsPending}

-- ---- lists

pub none_in : {X : Type 0} (x : X) → Contains [] x → ⊥
none_in x (k, lt, at) = omega (arith, lt)

pub first_in : {X : Type 0} (x : X) (xs : List X) → Contains (x ∷ xs) x
first_in x xs = (zero, omega arith, refl)

pub later_in : {X : Type 0} (y : X) (xs : List X) (x : X) → Contains xs x → Contains (y ∷ xs) x
later_in y xs x at = Contains-append_right (y ∷ []) xs x at

-- the first, or a later one
pub cases_in : {X : Type 0} (y : X) (xs : List X) (x : X) → Contains (y ∷ xs) x → (y ≡ x) ⊎ Contains xs x
cases_in y xs x (zero, lt, at) = inl at
cases_in y xs x (suc k, lt, at) = inr (k, omega (arith, lt), at)

pub only_one : {X : Type 0} (x y : X) → Contains (x ∷ []) y → x ≡ y
only_one x y at = elim (cases_in x [] y at) [ inl here ↦ here | inr none ↦ absurd (none_in y none) ]

pub kept_in : {X : Type 0} (p : X → Bool) (xs : List X) (x : X) → Contains xs x → p x ≡ true → Contains (filter p xs) x
kept_in p [] x at is = absurd (none_in x at)
kept_in p (y ∷ xs) x at is = elim (cases_in y xs x at) [
  | inl here ↦ let passes : p y ≡ true = ap p here ∙ is in rw passes (zero, omega arith, here)
  | inr later ↦
      let rest = kept_in p xs x later is in
      elim (cases_Bool (p y)) [ inl t ↦ rw t (later_in y (filter p xs) x rest) | inr f ↦ rw f rest ]
]

-- ---- the entries that are present

entry_listed : (cats : CatalogueEvents) (e : Entry) → IsEntry cats e → Contains (entries_added cats) e
entry_listed [] e is = absurd is
entry_listed (EntryAdded x ∷ cats) e (inl new) = Contains-append_right (entries_added cats) (x ∷ []) e (zero, omega arith, new)
entry_listed (EntryAdded x ∷ cats) e (inr old) = Contains-append_left (entries_added cats) (x ∷ []) e (entry_listed cats e old)
entry_listed (TableMade t ∷ cats) e is = entry_listed cats e is
entry_listed (TableDropped n s ∷ cats) e is = entry_listed cats e is
entry_listed (EntryEnded n s ∷ cats) e is = entry_listed cats e is
entry_listed (EntryMarked n s ∷ cats) e is = entry_listed cats e is
entry_listed (CheckKept c ∷ cats) e is = entry_listed cats e is

end_of_counted : (txs : TxEvents) (cats : CatalogueEvents) (n : ℕ) (x : Stamp) (k : ℕ) (s : Stamp) → (b a : Bool) → (n == k) ≡ b → (if b && not a then Some x else counted_of txs (entry_ends cats) k) ≡ Some s → (counted_of txs (entry_ends cats) k ≡ Some s → IsEntryEnd cats k s.by.number)
    → IsEntryEnd (EntryEnded n x ∷ cats) k s.by.number
end_of_counted txs cats n x k s true false here is rest =
    let e : n ≡ k = grind (arith, nat_tests, here) in
    let same : x ≡ s = cc in
    inl (e, ap (λ (z : Stamp). z.by.number) same)
end_of_counted txs cats n x k s true true here is rest = inr (rest is)
end_of_counted txs cats n x k s false a here is rest = inr (rest is)

counted_end : (txs : TxEvents) (cats : CatalogueEvents) (k : ℕ) (s : Stamp) → counted_of txs (entry_ends cats) k ≡ Some s → IsEntryEnd cats k s.by.number
counted_end txs [] k s is = absurd (cc)
counted_end txs (EntryEnded n x ∷ cats) k s is = end_of_counted txs cats n x k s (n == k) (was_aborted txs x.by.number) refl is (counted_end txs cats k s)
counted_end txs (EntryAdded e ∷ cats) k s is = counted_end txs cats k s is
counted_end txs (TableMade t ∷ cats) k s is = counted_end txs cats k s is
counted_end txs (TableDropped n x ∷ cats) k s is = counted_end txs cats k s is
counted_end txs (EntryMarked n x ∷ cats) k s is = counted_end txs cats k s is
counted_end txs (CheckKept c ∷ cats) k s is = counted_end txs cats k s is

not_ended : (txs : TxEvents) (session : ℕ) (o : Option Stamp) → ((s : Stamp) → o ≡ Some s → counts txs session s.by.number ≡ false) → stamp_counts txs session o ≡ false
not_ended txs session None none = refl
not_ended txs session (Some s) none = none s refl

is_present_of : (h : History) (session : ℕ) (e : Entry) → Present (catalogue_events h) (counts (tx_events h) session) e → is_present h session e ≡ true
is_present_of h session e p =
    let out = not_ended (tx_events h) session (counted_of (tx_events h) (entry_ends (catalogue_events h)) e.id.number) (λ s is. p.2 s.by.number (counted_end (tx_events h) (catalogue_events h) e.id.number s is)) in
    let born : counts (tx_events h) session e.by.number ≡ true = p.1 in
    rw (born, out) refl

pub present_listed : (h : History) (session : ℕ) (e : Entry) → Present (catalogue_events h) (counts (tx_events h) session) e → Contains (entries_present h session) e
present_listed h session e p = kept_in (is_present h session) (entries_added (catalogue_events h)) e (entry_listed (catalogue_events h) e p.0) (is_present_of h session e p)

-- ---- the entries that a snapshot is shown

mark_of_counted : (txs : TxEvents) (cats : CatalogueEvents) (n : ℕ) (x : Stamp) (k : ℕ) (s : Stamp) → (b a : Bool) → (n == k) ≡ b → (if b && not a then Some x else counted_of txs (marks cats) k) ≡ Some s → (counted_of txs (marks cats) k ≡ Some s → IsMark cats k s.by.number)
    → IsMark (EntryMarked n x ∷ cats) k s.by.number
mark_of_counted txs cats n x k s true false here is rest =
    let e : n ≡ k = grind (arith, nat_tests, here) in
    let same : x ≡ s = cc in
    inl (e, ap (λ (z : Stamp). z.by.number) same)
mark_of_counted txs cats n x k s true true here is rest = inr (rest is)
mark_of_counted txs cats n x k s false a here is rest = inr (rest is)

counted_mark : (txs : TxEvents) (cats : CatalogueEvents) (k : ℕ) (s : Stamp) → counted_of txs (marks cats) k ≡ Some s → IsMark cats k s.by.number
counted_mark txs [] k s is = absurd (cc)
counted_mark txs (EntryMarked n x ∷ cats) k s is = mark_of_counted txs cats n x k s (n == k) (was_aborted txs x.by.number) refl is (counted_mark txs cats k s)
counted_mark txs (EntryAdded e ∷ cats) k s is = counted_mark txs cats k s is
counted_mark txs (TableMade t ∷ cats) k s is = counted_mark txs cats k s is
counted_mark txs (TableDropped n x ∷ cats) k s is = counted_mark txs cats k s is
counted_mark txs (EntryEnded n x ∷ cats) k s is = counted_mark txs cats k s is
counted_mark txs (CheckKept c ∷ cats) k s is = counted_mark txs cats k s is

not_seen : (txs : TxEvents) (snap : TakenSnapshot) (o : Option Stamp) → ((s : Stamp) → o ≡ Some s → sees txs snap s.by.number s.cmd ≡ true → ⊥) → sees_stamp txs snap o ≡ false
not_seen txs snap None never = refl
not_seen txs snap (Some s) never = elim (cases_Bool (sees txs snap s.by.number s.cmd)) [ inl y ↦ absurd (never s refl y) | inr n ↦ n ]

-- a present entry that is not pending is shown, to each snapshot whose sight counts for the session
pub shown_listed : (h : History) (session : ℕ) (snap : TakenSnapshot) (e : Entry) → ((t c : ℕ) → sees (tx_events h) snap t c ≡ true → counts (tx_events h) session t ≡ true) → (IsPending (catalogue_events h) (counts (tx_events h) session) e → ⊥)
    → Present (catalogue_events h) (counts (tx_events h) session) e → Contains (entries_shown h session snap) e
shown_listed h session snap e sight settled p =
    let marked = counted_of (tx_events h) (marks (catalogue_events h)) e.id.number in
    let out = not_seen (tx_events h) snap marked (λ s is seen. settled (s.by.number, counted_mark (tx_events h) (catalogue_events h) e.id.number s is, sight s.by.number s.cmd seen)) in
    let present : is_present h session e ≡ true = is_present_of h session e p in
    let shown : is_shown h session snap e ≡ true = rw (present, out) refl in
    kept_in (is_shown h session snap) (entries_added (catalogue_events h)) e (entry_listed (catalogue_events h) e p.0) shown

-- ---- the entries below a table

placed_new : (e : Entry) (xs : List Entry) → Contains (placed e xs) e
placed_new e [] = first_in e []
placed_new e (x ∷ xs) = elim (cases_Bool (comes_after x.bound e.bound)) [
  | inl y ↦ rw y (first_in e (x ∷ xs))
  | inr n ↦ rw n (later_in x (placed e xs) e (placed_new e xs))
]

placed_old : (e : Entry) (xs : List Entry) (f : Entry) → Contains xs f → Contains (placed e xs) f
placed_old e [] f at = absurd (none_in f at)
placed_old e (x ∷ xs) f at = elim (cases_Bool (comes_after x.bound e.bound)) [
  | inl y ↦ rw y (later_in e (x ∷ xs) f at)
  | inr n ↦ elim (cases_in x xs f at) [
    | inl here ↦ rw n (zero, omega arith, here)
    | inr later ↦ rw n (later_in x (placed e xs) f (placed_old e xs f later))
  ]
]

all_placed_old : (done es : List Entry) (f : Entry) → Contains done f → Contains (all_placed done es) f
all_placed_old done [] f at = at
all_placed_old done (e ∷ es) f at = all_placed_old (placed e done) es f (placed_old e done f at)

all_placed_new : (done es : List Entry) (f : Entry) → Contains es f → Contains (all_placed done es) f
all_placed_new done [] f at = absurd (none_in f at)
all_placed_new done (e ∷ es) f at = elim (cases_in e es f at) [
  | inl here ↦ all_placed_old (placed e done) es f (subst (λ (z : Entry). Contains (placed e done) z) here (placed_new e done))
  | inr later ↦ all_placed_new (placed e done) es f later
]

pub child_listed : (entries : List Entry) (t : ℕ) (e : Entry) → Contains entries e → e.parent.number ≡ t → Contains (children entries t) e
child_listed entries t e at under =
    let is : is_under t e ≡ true = grind (arith, nat_tests, under) in
    all_placed_new [] (filter (is_under t) entries) e (kept_in (is_under t) entries e at is)
