-- Events behind two more of the catalogue.
use Rattle.std.proofs.Common.{◌≡◌, ◌≢◌, ◌⊎◌, ℕ, ◌+◌, ◌<◌, ◌≤◌, ◌==◌, ◌&&◌, not, Bool, true, false, List, [], ◌∷◌, ◌++◌, inl, inr, refl, sym, ap, ◌∙◌, arith, map, Option, Some, None, if◌then◌else◌, append_assoc, append-nil}
use Rattle.std.specs.Prelude.{nat_lt}
use Rattle.std.proofs.lemmas.Bool.{cases_Bool}
use Rattle.std.proofs.lemmas.Bool.Decides.{nat_tests}
use Rattle.std.proofs.lemmas.List.{map-append}
use Rattle.history.specs.declared.catalogue.Check.{Check}
use Rattle.history.specs.declared.catalogue.Entry.{Entry}
use Rattle.history.specs.declared.catalogue.Stamp.{Stamp}
use Rattle.history.specs.declared.catalogue.Table.{Table}
use Rattle.history.specs.Transactions.{TxEvents, was_aborted}
use Rattle.history.specs.Catalogue.{CatalogueEvents, TableMade, TableDropped, EntryAdded, EntryEnded, EntryMarked, CheckKept, Stamps, tables_made, entries_added, checks_kept, entry_ends, marks, counted_of}
use Rattle.history.specs.History.{History, TxChange, SnapshotChange, RowChange, LockChange, CatalogueChange, catalogue_events}
use Rattle.history.specs.Places.{AreCatalogueSound}
use Rattle.legal_statements.specs.TakenBack.{number_behind, entry_behind, event_behind}

-- ---- lists of both parts

pub tables_both : (xs ys : CatalogueEvents) → tables_made (xs ++ ys) ≡ tables_made ys ++ tables_made xs
tables_both [] ys = sym (append-nil (tables_made ys))
tables_both (TableMade t ∷ xs) ys = ap (λ (ts : List Table). ts ++ t ∷ []) (tables_both xs ys) ∙ append_assoc (tables_made ys) (tables_made xs) (t ∷ [])
tables_both (TableDropped k s ∷ xs) ys = tables_both xs ys
tables_both (EntryAdded e ∷ xs) ys = tables_both xs ys
tables_both (EntryEnded k s ∷ xs) ys = tables_both xs ys
tables_both (EntryMarked k s ∷ xs) ys = tables_both xs ys
tables_both (CheckKept c ∷ xs) ys = tables_both xs ys

pub entries_both : (xs ys : CatalogueEvents) → entries_added (xs ++ ys) ≡ entries_added ys ++ entries_added xs
entries_both [] ys = sym (append-nil (entries_added ys))
entries_both (EntryAdded e ∷ xs) ys = ap (λ (es : List Entry). es ++ e ∷ []) (entries_both xs ys) ∙ append_assoc (entries_added ys) (entries_added xs) (e ∷ [])
entries_both (TableMade t ∷ xs) ys = entries_both xs ys
entries_both (TableDropped k s ∷ xs) ys = entries_both xs ys
entries_both (EntryEnded k s ∷ xs) ys = entries_both xs ys
entries_both (EntryMarked k s ∷ xs) ys = entries_both xs ys
entries_both (CheckKept c ∷ xs) ys = entries_both xs ys

pub checks_both : (xs ys : CatalogueEvents) → checks_kept (xs ++ ys) ≡ checks_kept ys ++ checks_kept xs
checks_both [] ys = sym (append-nil (checks_kept ys))
checks_both (CheckKept c ∷ xs) ys = ap (λ (cs : List Check). cs ++ c ∷ []) (checks_both xs ys) ∙ append_assoc (checks_kept ys) (checks_kept xs) (c ∷ [])
checks_both (TableMade t ∷ xs) ys = checks_both xs ys
checks_both (TableDropped k s ∷ xs) ys = checks_both xs ys
checks_both (EntryAdded e ∷ xs) ys = checks_both xs ys
checks_both (EntryEnded k s ∷ xs) ys = checks_both xs ys
checks_both (EntryMarked k s ∷ xs) ys = checks_both xs ys

pub ends_both : (xs ys : CatalogueEvents) → entry_ends (xs ++ ys) ≡ entry_ends xs ++ entry_ends ys
ends_both [] ys = refl
ends_both (EntryEnded k s ∷ xs) ys = ap (λ (ds : Stamps). (k, s) ∷ ds) (ends_both xs ys)
ends_both (EntryAdded e ∷ xs) ys = ends_both xs ys
ends_both (TableMade t ∷ xs) ys = ends_both xs ys
ends_both (TableDropped k s ∷ xs) ys = ends_both xs ys
ends_both (EntryMarked k s ∷ xs) ys = ends_both xs ys
ends_both (CheckKept c ∷ xs) ys = ends_both xs ys

pub marks_both : (xs ys : CatalogueEvents) → marks (xs ++ ys) ≡ marks xs ++ marks ys
marks_both [] ys = refl
marks_both (EntryMarked k s ∷ xs) ys = ap (λ (ds : Stamps). (k, s) ∷ ds) (marks_both xs ys)
marks_both (EntryAdded e ∷ xs) ys = marks_both xs ys
marks_both (TableMade t ∷ xs) ys = marks_both xs ys
marks_both (TableDropped k s ∷ xs) ys = marks_both xs ys
marks_both (EntryEnded k s ∷ xs) ys = marks_both xs ys
marks_both (CheckKept c ∷ xs) ys = marks_both xs ys

-- ---- with one entry more before them

abbrev pub stamp_behind : (n : ℕ) → ℕ × Stamp → ℕ × Stamp
stamp_behind n d = (number_behind n d.0, d.1)

pub tables_behind : (n : ℕ) (xs : CatalogueEvents) → tables_made (map (event_behind n) xs) ≡ tables_made xs
tables_behind n [] = refl
tables_behind n (TableMade t ∷ xs) = ap (λ (ts : List Table). ts ++ t ∷ []) (tables_behind n xs)
tables_behind n (TableDropped k s ∷ xs) = tables_behind n xs
tables_behind n (EntryAdded e ∷ xs) = tables_behind n xs
tables_behind n (EntryEnded k s ∷ xs) = tables_behind n xs
tables_behind n (EntryMarked k s ∷ xs) = tables_behind n xs
tables_behind n (CheckKept c ∷ xs) = tables_behind n xs

pub checks_behind : (n : ℕ) (xs : CatalogueEvents) → checks_kept (map (event_behind n) xs) ≡ checks_kept xs
checks_behind n [] = refl
checks_behind n (CheckKept c ∷ xs) = ap (λ (cs : List Check). cs ++ c ∷ []) (checks_behind n xs)
checks_behind n (TableMade t ∷ xs) = checks_behind n xs
checks_behind n (TableDropped k s ∷ xs) = checks_behind n xs
checks_behind n (EntryAdded e ∷ xs) = checks_behind n xs
checks_behind n (EntryEnded k s ∷ xs) = checks_behind n xs
checks_behind n (EntryMarked k s ∷ xs) = checks_behind n xs

pub entries_behind : (n : ℕ) (xs : CatalogueEvents) → entries_added (map (event_behind n) xs) ≡ map (entry_behind n) (entries_added xs)
entries_behind n [] = refl
entries_behind n (EntryAdded e ∷ xs) = ap (λ (es : List Entry). es ++ entry_behind n e ∷ []) (entries_behind n xs) ∙ sym (map-append (entry_behind n) (entries_added xs) (e ∷ []))
entries_behind n (TableMade t ∷ xs) = entries_behind n xs
entries_behind n (TableDropped k s ∷ xs) = entries_behind n xs
entries_behind n (EntryEnded k s ∷ xs) = entries_behind n xs
entries_behind n (EntryMarked k s ∷ xs) = entries_behind n xs
entries_behind n (CheckKept c ∷ xs) = entries_behind n xs

pub ends_behind : (n : ℕ) (xs : CatalogueEvents) → entry_ends (map (event_behind n) xs) ≡ map (stamp_behind n) (entry_ends xs)
ends_behind n [] = refl
ends_behind n (EntryEnded k s ∷ xs) = ap (λ (ds : Stamps). (number_behind n k, s) ∷ ds) (ends_behind n xs)
ends_behind n (EntryAdded e ∷ xs) = ends_behind n xs
ends_behind n (TableMade t ∷ xs) = ends_behind n xs
ends_behind n (TableDropped k s ∷ xs) = ends_behind n xs
ends_behind n (EntryMarked k s ∷ xs) = ends_behind n xs
ends_behind n (CheckKept c ∷ xs) = ends_behind n xs

pub marks_behind : (n : ℕ) (xs : CatalogueEvents) → marks (map (event_behind n) xs) ≡ map (stamp_behind n) (marks xs)
marks_behind n [] = refl
marks_behind n (EntryMarked k s ∷ xs) = ap (λ (ds : Stamps). (number_behind n k, s) ∷ ds) (marks_behind n xs)
marks_behind n (EntryAdded e ∷ xs) = marks_behind n xs
marks_behind n (TableMade t ∷ xs) = marks_behind n xs
marks_behind n (TableDropped k s ∷ xs) = marks_behind n xs
marks_behind n (EntryEnded k s ∷ xs) = marks_behind n xs
marks_behind n (CheckKept c ∷ xs) = marks_behind n xs

-- ---- numbers

pub other_number : (n m : ℕ) → n ≢ m → (n == m) ≡ false
other_number n m other = elim (cases_Bool (n == m)) [
  | inl y ↦ absurd (other (grind (arith, nat_tests, y)))
  | inr f ↦ f
]

pub low_stays : (n k : ℕ) → k < n → number_behind n k ≡ k
low_stays n k lt = let y : nat_lt k n ≡ true = grind (arith, nat_tests, lt) in rw y refl

pub high_goes_on : (n k : ℕ) → n ≤ k → number_behind n k ≡ k + 1
high_goes_on n k le = let y : nat_lt k n ≡ false = grind (arith, nat_tests, le) in rw y refl

-- the number of the one more is free
pub never_that : (n k : ℕ) → number_behind n k ≢ n
never_that n k same = elim (cases_Bool (nat_lt k n)) [
  | inl y ↦
      let lt : k < n = grind (arith, nat_tests, y) in
      let low = low_stays n k lt in
      omega (arith, lt, low, same)
  | inr f ↦
      let le : n ≤ k = grind (arith, nat_tests, f) in
      let high = high_goes_on n k le in
      omega (arith, le, high, same)
]

-- two numbers stay the same, or different
from_there : (n a b : ℕ) → number_behind n a ≡ number_behind n b → a ≡ b
from_there n a b same = elim (cases_Bool (nat_lt a n)) [
  | inl y ↦
      let lt : a < n = grind (arith, nat_tests, y) in
      let low = low_stays n a lt in
      elim (cases_Bool (nat_lt b n)) [
        | inl z ↦ let m : b < n = grind (arith, nat_tests, z) in let other = low_stays n b m in omega (arith, low, other, same)
        | inr z ↦ let m : n ≤ b = grind (arith, nat_tests, z) in let other = high_goes_on n b m in absurd (omega (arith, lt, m, low, other, same))
      ]
  | inr y ↦
      let le : n ≤ a = grind (arith, nat_tests, y) in
      let high = high_goes_on n a le in
      elim (cases_Bool (nat_lt b n)) [
        | inl z ↦ let m : b < n = grind (arith, nat_tests, z) in let other = low_stays n b m in absurd (omega (arith, le, m, high, other, same))
        | inr z ↦ let m : n ≤ b = grind (arith, nat_tests, z) in let other = high_goes_on n b m in omega (arith, high, other, same)
      ]
]

pub itself : (n : ℕ) → (n == n) ≡ true
itself n = grind (arith, nat_tests)

pub same_test : (n a b : ℕ) → (number_behind n a == number_behind n b) ≡ (a == b)
same_test n a b = elim (cases_Bool (a == b)) [
  | inl y ↦ let e : a ≡ b = grind (arith, nat_tests, y) in ap (λ (c : ℕ). number_behind n c == number_behind n b) e ∙ itself (number_behind n b) ∙ sym y
  | inr f ↦ let apart : a ≢ b = grind (arith, nat_tests, f) in other_number (number_behind n a) (number_behind n b) (λ same. apart (from_there n a b same)) ∙ sym f
]

-- the number of an entry in the history with the two events, and in the one without: that of the old one, or of another
abbrev pub Numbers : (n old a b : ℕ) → Type 0
Numbers n old a b = ((a ≡ n) × (b ≡ old)) ⊎ ((a ≡ number_behind n b) × (b ≢ old))

pub numbers_tested : (n old : ℕ) (a b c d : ℕ) → Numbers n old a b → Numbers n old c d → (c == a) ≡ (d == b)
numbers_tested n old a b c d (inl first) (inl second) =
    ap (λ (k : ℕ). k == a) (second.0 ∙ sym first.0) ∙ (itself a ∙ (sym (itself b) ∙ ap (λ (k : ℕ). k == b) (first.1 ∙ sym second.1)))
numbers_tested n old a b c d (inl first) (inr second) =
    other_number c a (λ same. never_that n d (sym second.0 ∙ (same ∙ first.0))) ∙ sym (other_number d b (λ same. second.1 (same ∙ first.1)))
numbers_tested n old a b c d (inr first) (inl second) =
    other_number c a (λ same. never_that n b (sym first.0 ∙ (sym same ∙ second.0))) ∙ sym (other_number d b (λ same. first.1 (sym same ∙ second.1)))
numbers_tested n old a b c d (inr first) (inr second) =
    ap (λ (k : ℕ). k == a) second.0 ∙ (ap (λ (k : ℕ). number_behind n d == k) first.0 ∙ same_test n d b)

-- ---- stamps

abbrev pub newer_or : Option Stamp → Option Stamp → Option Stamp
newer_or (Some s) o = Some s
newer_or None o = o

pub counted_both : (txs : TxEvents) (ds es : Stamps) (k : ℕ) → counted_of txs (ds ++ es) k ≡ newer_or (counted_of txs ds k) (counted_of txs es k)
counted_both txs [] es k = refl
counted_both txs (d ∷ ds) es k = by ((d.0 == k) && not (was_aborted txs d.1.by.number)) (counted_both txs ds es k)
  where
    by : (b : Bool) → counted_of txs (ds ++ es) k ≡ newer_or (counted_of txs ds k) (counted_of txs es k)
        → (if b then Some d.1 else counted_of txs (ds ++ es) k) ≡ newer_or (if b then Some d.1 else counted_of txs ds k) (counted_of txs es k)
    by true rest = refl
    by false rest = rest

pub counted_behind : (txs : TxEvents) (n : ℕ) (ds : Stamps) (k : ℕ) → counted_of txs (map (stamp_behind n) ds) (number_behind n k) ≡ counted_of txs ds k
counted_behind txs n [] k = refl
counted_behind txs n (d ∷ ds) k = by (number_behind n d.0 == number_behind n k) (d.0 == k) (same_test n d.0 k) (was_aborted txs d.1.by.number) (counted_behind txs n ds k)
  where
    by : (a b : Bool) → a ≡ b → (c : Bool) → counted_of txs (map (stamp_behind n) ds) (number_behind n k) ≡ counted_of txs ds k
        → (if a && not c then Some d.1 else counted_of txs (map (stamp_behind n) ds) (number_behind n k)) ≡ (if b && not c then Some d.1 else counted_of txs ds k)
    by true true e true rest = rest
    by true true e false rest = refl
    by false false e c rest = rest
    by true false e c rest = absurd (cc)
    by false true e c rest = absurd (cc)

pub none_of_that : (txs : TxEvents) (n : ℕ) (ds : Stamps) → counted_of txs (map (stamp_behind n) ds) n ≡ None
none_of_that txs n [] = refl
none_of_that txs n (d ∷ ds) = let apart = other_number (number_behind n d.0) n (never_that n d.0) in rw apart (none_of_that txs n ds)

-- a newest one that is not there is in neither part
pub none_newer : (a b : Option Stamp) → newer_or a b ≡ None → a ≡ None
none_newer None b is = refl
none_newer (Some s) b is = absurd (cc)

-- ---- the history up to there

abbrev pub Earlier : CatalogueEvents → Type 0
Earlier until = (h : History) × (catalogue_events h ≡ until) × AreCatalogueSound h

same_rest : {X : Type 0} (x y : X) (xs ys : List X) → x ∷ xs ≡ y ∷ ys → xs ≡ ys
same_rest x y xs ys is = cc

pub earlier : (h : History) (later until : CatalogueEvents) → catalogue_events h ≡ later ++ until → AreCatalogueSound h → Earlier until
earlier h [] until is sound = (h, is, sound)
earlier [] (x ∷ later) until is sound = absurd (cc)
earlier (CatalogueChange e ∷ h) (x ∷ later) until is sound = earlier h later until (same_rest e x (catalogue_events h) (later ++ until) is) sound.1
earlier (TxChange e ∷ h) (x ∷ later) until is sound = earlier h (x ∷ later) until is sound
earlier (SnapshotChange e ∷ h) (x ∷ later) until is sound = earlier h (x ∷ later) until is sound
earlier (RowChange e ∷ h) (x ∷ later) until is sound = earlier h (x ∷ later) until is sound
earlier (LockChange e ∷ h) (x ∷ later) until is sound = earlier h (x ∷ later) until is sound
