-- A partition that ended, and was attached again.
use Rattle.std.proofs.Common.{◌≡◌, ◌≢◌, ℕ, suc, ◌+◌, ◌<◌, ◌≤◌, ◌==◌, ◌&&◌, not, Bool, true, false, List, [], ◌∷◌, ◌++◌, inl, inr, refl, sym, ap, ◌∙◌, subst, arith, filter, All, length, map, append_assoc, Option, Some, None, get_or}
use Rattle.std.specs.List.{Contains, AllPairs}
use Rattle.std.proofs.lemmas.Bool.{cases_Bool, cases_lt}
use Rattle.std.proofs.lemmas.Grind.{common_steps, elements}
use Rattle.std.proofs.lemmas.List.{length-append, get_or-append-add}
use Rattle.std.proofs.lemmas.List.Elements.{All-nil, All-cons, All-head, All-tail, All-contains, filter-append}
use Rattle.bound_forms.specs.declared.partition_bound.Bound.{Bound}
use Rattle.bound_forms.specs.Bounds.{is_filled}
use Rattle.bound_forms.proofs.LevelLaws.{level_filled}
use Rattle.bound_forms.proofs.PlainOrder.{pairs-head, pairs-tail}
use Rattle.history.specs.declared.catalogue.Check.{Check}
use Rattle.history.specs.declared.catalogue.Entry.{Entry}
use Rattle.history.specs.declared.catalogue.Stamp.{Stamp}
use Rattle.history.specs.declared.catalogue.Table.{Table}
use Rattle.history.specs.declared.catalogue.TableShape.{TableShape}
use Rattle.history.specs.declared.catalogue.TableShape.TheVariants.{Leaf, Level}
use Rattle.history.specs.Transactions.{TxEvents, fate, is_committed, was_aborted}
use Rattle.history.specs.Snapshots.{TakenSnapshot, sees}
use Rattle.history.specs.Catalogue.{CatalogueEvents, EntryAdded, EntryEnded, EntryMarked, Stamps, tables_made, entries_added, checks_kept, entry_ends, marks, counted_of}
use Rattle.history.specs.Rows.{RowEvents, births, end_in}
use Rattle.history.specs.declared.version.Version.{Version}
use Rattle.history.specs.History.{History, CatalogueChange, tx_events, row_events, catalogue_events, seen, sees_end}
use Rattle.history.specs.Places.{AreCatalogueSound, TakesBound, table_at}
use Rattle.history.specs.Presence.{counts, stamp_counts, sees_stamp, is_present, entries_present, is_check_of, checks_of}
use Rattle.row_router.specs.Trees.{TableTree}
use Rattle.row_router.specs.Siblings.{AreSiblings, CanStandTogether}
use Rattle.row_router.specs.declared.path_part.Place.{Place}
use Rattle.row_router.specs.declared.path_part.PathPart.{PathPart}
use Rattle.row_router.specs.Histories.{table_of, kept_of, children, above, parent_in, place_among, place_of, part_of, upwards, tree_within, tree_of, path_of}
use Rattle.row_router.proofs.Order.{siblings_kept, all_kept}
use Rattle.row_router.proofs.Suited.{all_suit}
use Rattle.soundness.proofs.Listed.{cases_in, none_in}
use Rattle.legal_statements.specs.TakenBack.{IsBackAgain, number_behind, entry_behind, event_behind}
use Rattle.legal_statements.proofs.Alike.{StandsApart, trees_alike, children_alike, AreLike, like_append, like_trees, like_found, like_place, like_parent, same_upwards, moved_found}
use Rattle.legal_statements.proofs.Behind.{Earlier, earlier, Numbers, numbers_tested, stamp_behind, newer_or, other_number, itself, low_stays, high_goes_on, tables_both, tables_behind, checks_both, checks_behind, entries_both, entries_behind, ends_both, ends_behind, marks_both, marks_behind, counted_both, counted_behind, none_of_that, none_newer}

-- ---- what is present, and passes a test of its mark, of the events alone

abbrev passes_by : (Option Stamp → Bool) → TxEvents → CatalogueEvents → (session : ℕ) → Entry → Bool
passes_by unseen txs cats s x =
    (counts txs s x.by.number && not (stamp_counts txs s (counted_of txs (entry_ends cats) x.id.number))) && unseen (counted_of txs (marks cats) x.id.number)

-- ---- stamps

not_aborted : (txs : TxEvents) (t : ℕ) → is_committed (fate txs t) ≡ true → was_aborted txs t ≡ false
not_aborted txs t is = elim (cases_Bool (was_aborted txs t)) [
  | inl y ↦ absurd (let e : false ≡ true = rw y at is in cc)
  | inr n ↦ n
]

committed_counts : (txs : TxEvents) (s t : ℕ) → is_committed (fate txs t) ≡ true → counts txs s t ≡ true
committed_counts txs s t is = rw is refl

-- no entry that is still to come has ended, nor was it marked
ends_below : (txs : TxEvents) (h : History) (n : ℕ) → AreCatalogueSound h → length (entries_added (catalogue_events h)) ≤ n → counted_of txs (entry_ends (catalogue_events h)) n ≡ None
ends_below txs [] n sound le = refl
ends_below txs (CatalogueChange (EntryAdded e) ∷ h) n sound le = ends_below txs h n sound.1 (let more = length-append (entries_added (catalogue_events h)) (e ∷ []) in omega (arith, le, more))
ends_below txs (CatalogueChange (EntryEnded k s) ∷ h) n sound le =
    let low : k < length (entries_added (catalogue_events h)) = sound.0.0 in
    let other : (k == n) ≡ false = other_number k n (λ same. omega (arith, low, le, same)) in
    rw other (ends_below txs h n sound.1 le)
ends_below txs (CatalogueChange e ∷ h) n sound le = ends_below txs h n sound.1 le
ends_below txs (_ ∷ h) n sound le = ends_below txs h n sound le

marks_below : (txs : TxEvents) (h : History) (n : ℕ) → AreCatalogueSound h → length (entries_added (catalogue_events h)) ≤ n → counted_of txs (marks (catalogue_events h)) n ≡ None
marks_below txs [] n sound le = refl
marks_below txs (CatalogueChange (EntryAdded e) ∷ h) n sound le = marks_below txs h n sound.1 (let more = length-append (entries_added (catalogue_events h)) (e ∷ []) in omega (arith, le, more))
marks_below txs (CatalogueChange (EntryMarked k s) ∷ h) n sound le =
    let low : k < length (entries_added (catalogue_events h)) = sound.0.0 in
    let other : (k == n) ≡ false = other_number k n (λ same. omega (arith, low, le, same)) in
    rw other (marks_below txs h n sound.1 le)
marks_below txs (CatalogueChange e ∷ h) n sound le = marks_below txs h n sound.1 le
marks_below txs (_ ∷ h) n sound le = marks_below txs h n sound le

-- ---- entries stand at their numbers

numbered_more : (es : List Entry) (e d : Entry) (k : ℕ) → e.id.number ≡ length es → ((n : ℕ) → n < length es → (get_or es n d).id.number ≡ n) → k < length (es ++ e ∷ []) → (get_or (es ++ e ∷ []) k d).id.number ≡ k
numbered_more es e d k number old lt = elim (cases_lt k (length es)) [
  | inl before ↦
      let same : get_or (es ++ e ∷ []) k d ≡ get_or es k d = grind (arith, common_steps, elements) in
      ap (λ (x : Entry). x.id.number) same ∙ old k before
  | inr after ↦
      let here : k ≡ length es = grind (arith, common_steps, elements, after, lt) in
      let last : get_or (es ++ e ∷ []) k d ≡ e = grind (arith, common_steps, elements, here) in
      ap (λ (x : Entry). x.id.number) last ∙ number ∙ sym here
]

numbered : (h : History) → AreCatalogueSound h → (d : Entry) (k : ℕ) → k < length (entries_added (catalogue_events h)) → (get_or (entries_added (catalogue_events h)) k d).id.number ≡ k
numbered [] sound d k lt = absurd (omega (arith, lt))
numbered (CatalogueChange (EntryAdded e) ∷ h) sound d k lt = numbered_more (entries_added (catalogue_events h)) e d k sound.0.0 (λ n l. numbered h sound.1 d n l) lt
numbered (CatalogueChange e ∷ h) sound d k lt = numbered h sound.1 d k lt
numbered (_ ∷ h) sound d k lt = numbered h sound d k lt

-- an entry among others, whose numbers are not its own
record Among (es : List Entry) (old : Entry) : Type 0 where
  before : List Entry
  after : List Entry
  is : es ≡ before ++ (old ∷ after)
  others_before : All (λ (x : Entry). x.id.number ≢ old.id.number) before
  others_after : All (λ (x : Entry). x.id.number ≢ old.id.number) after

abbrev AreFrom : (n : ℕ) → List Entry → Type 0
AreFrom n es = (d : Entry) (k : ℕ) → k < length es → (get_or es k d).id.number ≡ n + k

from_tail : (n : ℕ) (y : Entry) (ys : List Entry) → AreFrom n (y ∷ ys) → AreFrom (suc n) ys
from_tail n y ys all d k lt = let one = all d (suc k) (omega (arith, lt)) in omega (arith, one)

among : (n : ℕ) (es : List Entry) (old : Entry) → AreFrom n es → Contains es old → Among es old
among n [] old all at = absurd (none_in old at)
among n (y ∷ ys) old all at = elim (cases_in y ys old at) [
  | inl here ↦
      let first = all y 0 (omega arith) in
      record {
        before = [];
        after = ys;
        is = ap (λ (z : Entry). z ∷ ys) here;
        others_before = All-nil (λ (x : Entry). x.id.number ≢ old.id.number);
        others_after = λ k d lt same. let one = all d (suc k) (omega (arith, lt)) in let own : y.id.number ≡ old.id.number = ap (λ (z : Entry). z.id.number) here in omega (arith, first, one, own, same);
      }
  | inr later ↦
      let rest = among (suc n) ys old (from_tail n y ys all) later in
      let first = all y 0 (omega arith) in
      let place : old.id.number ≡ n + suc later.0 = ap (λ (z : Entry). z.id.number) (sym later.2) ∙ all old (suc later.0) (let l = later.1 in omega (arith, l)) in
      record {
        before = y ∷ rest.before;
        after = rest.after;
        is = ap (λ (zs : List Entry). y ∷ zs) rest.is;
        others_before = All-cons (λ (x : Entry). x.id.number ≢ old.id.number) y rest.before (λ same. omega (arith, first, place, same)) rest.others_before;
        others_after = rest.others_after;
      }
]

-- ---- what is shown with the two events, and without them

same_filter : (p q : Entry → Bool) (xs : List Entry) → All (λ (x : Entry). p x ≡ q x) xs → filter p xs ≡ filter q xs
same_filter p q [] same = refl
same_filter p q (x ∷ xs) same =
    let first = All-head (λ (y : Entry). p y ≡ q y) x xs same in
    let rest = same_filter p q xs (All-tail (λ (y : Entry). p y ≡ q y) x xs same) in
    elim (cases_Bool (q x)) [
      | inl y ↦ let z : p x ≡ true = first ∙ y in rw (y, z) (ap (λ (ys : List Entry). x ∷ ys) rest)
      | inr n ↦ let m : p x ≡ false = first ∙ n in rw (n, m) rest
    ]

both_filters : (p r : Entry → Bool) (xs : List Entry) → filter (λ x. p x && r x) xs ≡ filter r (filter p xs)
both_filters p r [] = refl
both_filters p r (x ∷ xs) = elim (cases_Bool (p x)) [
  | inl y ↦ elim (cases_Bool (r x)) [ inl z ↦ rw (y, z) (ap (λ (ys : List Entry). x ∷ ys) (both_filters p r xs)) | inr n ↦ rw (y, n) (both_filters p r xs) ]
  | inr n ↦ rw n (both_filters p r xs)
]

all_behind : {X : Type 0} (P : X → Type 0) (xs ys : List X) → All P (xs ++ ys) → All P ys
all_behind P [] ys all = all
all_behind P (x ∷ xs) ys all = all_behind P xs ys (All-tail P x (xs ++ ys) all)

pairs_behind : {X : Type 0} (R : X → X → Type 0) (xs ys : List X) → AllPairs R (xs ++ ys) → AllPairs R ys
pairs_behind R [] ys all = all
pairs_behind R (x ∷ xs) ys all = pairs_behind R xs ys (pairs-tail R x (xs ++ ys) all)

filled : (shape : TableShape) (b : Bound) → TakesBound shape b → is_filled b ≡ true
filled (Leaf leaf) b takes = absurd takes
filled (Level level) b takes = level_filled level b takes

all_front : {X : Type 0} (P : X → Type 0) (xs ys : List X) → All P (xs ++ ys) → All P xs
all_front P [] ys all = All-nil P
all_front P (x ∷ xs) ys all = All-cons P x xs (All-head P x (xs ++ ys) all) (all_front P xs ys (All-tail P x (xs ++ ys) all))

mapped_filter : (p q : Entry → Bool) (f : Entry → Entry) (xs : List Entry) → All (λ (x : Entry). q (f x) ≡ p x) xs → filter q (map f xs) ≡ map f (filter p xs)
mapped_filter p q f [] same = refl
mapped_filter p q f (x ∷ xs) same =
    let first = All-head (λ (y : Entry). q (f y) ≡ p y) x xs same in
    let rest = mapped_filter p q f xs (All-tail (λ (y : Entry). q (f y) ≡ p y) x xs same) in
    elim (cases_Bool (p x)) [
      | inl y ↦ let z : q (f x) ≡ true = first ∙ y in rw (y, z) (ap (λ (ys : List Entry). f x ∷ ys) rest)
      | inr n ↦ let m : q (f x) ≡ false = first ∙ n in rw (n, m) rest
    ]

module _ (unseen : Option Stamp → Bool) (passed : unseen None ≡ true) (g h : History) (s : ℕ) (back : IsBackAgain g h) (sound : AreCatalogueSound h) (siblings : AreSiblings (entries_present h s)) where
  abbrev n : ℕ
  n = length (entries_added back.until)

  abbrev first : List Entry
  first = entries_added back.until

  abbrev last : List Entry
  last = entries_added back.later

  -- the catalogue's events without the two, and the two with those before them
  abbrev whole : CatalogueEvents
  whole = back.later ++ back.until

  abbrev two : CatalogueEvents
  two = EntryAdded back.again ∷ (EntryEnded back.old.id.number back.stamp ∷ back.until)

  abbrev more : CatalogueEvents
  more = map (event_behind n) back.later ++ two

  abbrev p : Entry → Bool
  p = passes_by unseen (tx_events h) whole s

  abbrev q : Entry → Bool
  q = passes_by unseen (tx_events h) more s

  -- ---- numbers

  was : Earlier back.until
  was = earlier h back.later back.until back.without sound

  numbers_first : (d : Entry) (k : ℕ) → k < length first → (get_or first k d).id.number ≡ k
  numbers_first d k = subst (λ (cs : CatalogueEvents). k < length (entries_added cs) → (get_or (entries_added cs) k d).id.number ≡ k) was.1 (numbered was.0 was.2 d k)

  entries_whole : entries_added (catalogue_events h) ≡ first ++ last
  entries_whole = ap entries_added back.without ∙ entries_both back.later back.until

  numbers_last : (d : Entry) (j : ℕ) → j < length last → n ≤ (get_or last j d).id.number
  numbers_last d j lt =
      let count = ap length entries_whole ∙ length-append first last in
      let at : (get_or (first ++ last) (n + j) d).id.number ≡ n + j = subst (λ (es : List Entry). (get_or es (n + j) d).id.number ≡ n + j) entries_whole (numbered h sound d (n + j) (omega (arith, count, lt))) in
      let same = ap (λ (x : Entry). x.id.number) (get_or-append-add first last j d) in
      omega (arith, at, same)

  all_low : All (λ (x : Entry). x.id.number < n) first
  all_low k d lt = let at = numbers_first d k lt in omega (arith, at, lt)

  low_old : back.old.id.number < n
  low_old = All-contains (λ (x : Entry). x.id.number < n) first back.old all_low back.there

  none_ended : (k : ℕ) → n ≤ k → counted_of (tx_events h) (entry_ends back.until) k ≡ None
  none_ended k le =
      let count = ap (λ (cs : CatalogueEvents). length (entries_added cs)) was.1 in
      subst (λ (cs : CatalogueEvents). counted_of (tx_events h) (entry_ends cs) k ≡ None) was.1 (ends_below (tx_events h) was.0 k was.2 (omega (arith, count, le)))

  none_marked : (k : ℕ) → n ≤ k → counted_of (tx_events h) (marks back.until) k ≡ None
  none_marked k le =
      let count = ap (λ (cs : CatalogueEvents). length (entries_added cs)) was.1 in
      subst (λ (cs : CatalogueEvents). counted_of (tx_events h) (marks cs) k ≡ None) was.1 (marks_below (tx_events h) was.0 k was.2 (omega (arith, count, le)))

  -- ---- stamps

  ends_more : (k : ℕ) → counted_of (tx_events h) (entry_ends more) k ≡ newer_or (counted_of (tx_events h) (map (stamp_behind n) (entry_ends back.later)) k) (counted_of (tx_events h) (entry_ends two) k)
  ends_more k =
      ap (λ (ds : Stamps). counted_of (tx_events h) ds k) (ends_both (map (event_behind n) back.later) two ∙ ap (λ (ds : Stamps). ds ++ entry_ends two) (ends_behind n back.later))
      ∙ counted_both (tx_events h) (map (stamp_behind n) (entry_ends back.later)) (entry_ends two) k

  marks_more : (k : ℕ) → counted_of (tx_events h) (marks more) k ≡ newer_or (counted_of (tx_events h) (map (stamp_behind n) (marks back.later)) k) (counted_of (tx_events h) (marks back.until) k)
  marks_more k =
      ap (λ (ds : Stamps). counted_of (tx_events h) ds k) (marks_both (map (event_behind n) back.later) two ∙ ap (λ (ds : Stamps). ds ++ marks back.until) (marks_behind n back.later))
      ∙ counted_both (tx_events h) (map (stamp_behind n) (marks back.later)) (marks back.until) k

  ends_whole : (k : ℕ) → counted_of (tx_events h) (entry_ends whole) k ≡ newer_or (counted_of (tx_events h) (entry_ends back.later) k) (counted_of (tx_events h) (entry_ends back.until) k)
  ends_whole k = ap (λ (ds : Stamps). counted_of (tx_events h) ds k) (ends_both back.later back.until) ∙ counted_both (tx_events h) (entry_ends back.later) (entry_ends back.until) k

  marks_whole : (k : ℕ) → counted_of (tx_events h) (marks whole) k ≡ newer_or (counted_of (tx_events h) (marks back.later) k) (counted_of (tx_events h) (marks back.until) k)
  marks_whole k = ap (λ (ds : Stamps). counted_of (tx_events h) ds k) (marks_both back.later back.until) ∙ counted_both (tx_events h) (marks back.later) (marks back.until) k

  two_same : (k : ℕ) → k ≢ back.old.id.number → counted_of (tx_events h) (entry_ends two) (number_behind n k) ≡ counted_of (tx_events h) (entry_ends back.until) k
  two_same k other = elim (cases_lt k n) [
    | inl lt ↦
        let apart = other_number back.old.id.number k (λ same. other (sym same)) in
        let here : counted_of (tx_events h) (entry_ends two) k ≡ counted_of (tx_events h) (entry_ends back.until) k = rw apart refl in
        ap (λ (m : ℕ). counted_of (tx_events h) (entry_ends two) m) (low_stays n k lt) ∙ here
    | inr le ↦
        let low = low_old in
        let apart = other_number back.old.id.number (k + 1) (λ same. omega (arith, low, le, same)) in
        let here : counted_of (tx_events h) (entry_ends two) (k + 1) ≡ None = rw apart (none_ended (k + 1) (omega (arith, le))) in
        ap (λ (m : ℕ). counted_of (tx_events h) (entry_ends two) m) (high_goes_on n k le) ∙ (here ∙ sym (none_ended k le))
  ]

  until_same : (k : ℕ) → counted_of (tx_events h) (marks back.until) (number_behind n k) ≡ counted_of (tx_events h) (marks back.until) k
  until_same k = elim (cases_lt k n) [
    | inl lt ↦ ap (λ (m : ℕ). counted_of (tx_events h) (marks back.until) m) (low_stays n k lt)
    | inr le ↦ ap (λ (m : ℕ). counted_of (tx_events h) (marks back.until) m) (high_goes_on n k le) ∙ (none_marked (k + 1) (omega (arith, le)) ∙ sym (none_marked k le))
  ]

  ends_same : (k : ℕ) → k ≢ back.old.id.number → counted_of (tx_events h) (entry_ends more) (number_behind n k) ≡ counted_of (tx_events h) (entry_ends whole) k
  ends_same k other =
      ends_more (number_behind n k)
      ∙ (ap (λ (o : Option Stamp). newer_or o (counted_of (tx_events h) (entry_ends two) (number_behind n k))) (counted_behind (tx_events h) n (entry_ends back.later) k)
      ∙ (ap (λ (o : Option Stamp). newer_or (counted_of (tx_events h) (entry_ends back.later) k) o) (two_same k other) ∙ sym (ends_whole k)))

  marks_same : (k : ℕ) → counted_of (tx_events h) (marks more) (number_behind n k) ≡ counted_of (tx_events h) (marks whole) k
  marks_same k =
      marks_more (number_behind n k)
      ∙ (ap (λ (o : Option Stamp). newer_or o (counted_of (tx_events h) (marks back.until) (number_behind n k))) (counted_behind (tx_events h) n (marks back.later) k)
      ∙ (ap (λ (o : Option Stamp). newer_or (counted_of (tx_events h) (marks back.later) k) o) (until_same k) ∙ sym (marks_whole k)))

  -- ---- entries

  -- each but the old one is shown with the two as it is without them
  shown_same : (x : Entry) → x.id.number ≢ back.old.id.number → q (entry_behind n x) ≡ p x
  shown_same x other =
      ap (λ (o : Option Stamp). (counts (tx_events h) s x.by.number && not (stamp_counts (tx_events h) s o)) && unseen (counted_of (tx_events h) (marks more) (number_behind n x.id.number))) (ends_same x.id.number other)
      ∙ ap (λ (o : Option Stamp). (counts (tx_events h) s x.by.number && not (stamp_counts (tx_events h) s (counted_of (tx_events h) (entry_ends whole) x.id.number))) && unseen o) (marks_same x.id.number)

  low_same : (x : Entry) → x.id.number < n → x.id.number ≢ back.old.id.number → q x ≡ p x
  low_same x lt other =
      let stays : entry_behind n x ≡ x = ap (λ (k : ℕ). record x { id = record { number = k } }) (low_stays n x.id.number lt) in
      ap q (sym stays) ∙ shown_same x other

  standing : counted_of (tx_events h) (entry_ends whole) back.old.id.number ≡ None
  standing = subst (λ (cs : CatalogueEvents). counted_of (tx_events h) (entry_ends cs) back.old.id.number ≡ None) back.without back.standing

  unmarked : counted_of (tx_events h) (marks whole) back.old.id.number ≡ None
  unmarked = subst (λ (cs : CatalogueEvents). counted_of (tx_events h) (marks cs) back.old.id.number ≡ None) back.without back.unmarked

  old_shown : p back.old ≡ true
  old_shown =
      let born = committed_counts (tx_events h) s back.old.by.number back.committed in
      let stands = standing in
      let plain = unmarked in
      rw (born, stands, plain, passed) refl

  gone : (a b : Bool) → ((a && not true) && b) ≡ false
  gone true b = refl
  gone false b = refl

  old_gone : q back.old ≡ false
  old_gone =
      let ended = committed_counts (tx_events h) s back.stamp.by.number back.detached in
      let none_later = none_newer (counted_of (tx_events h) (entry_ends back.later) back.old.id.number) (counted_of (tx_events h) (entry_ends back.until) back.old.id.number) (sym (ends_whole back.old.id.number) ∙ standing) in
      let none_behind : counted_of (tx_events h) (map (stamp_behind n) (entry_ends back.later)) back.old.id.number ≡ None =
      ap (λ (k : ℕ). counted_of (tx_events h) (map (stamp_behind n) (entry_ends back.later)) k) (sym (low_stays n back.old.id.number low_old)) ∙ (counted_behind (tx_events h) n (entry_ends back.later) back.old.id.number ∙ none_later) in
      let here : counted_of (tx_events h) (entry_ends two) back.old.id.number ≡ Some back.stamp = rw (itself back.old.id.number, not_aborted (tx_events h) back.stamp.by.number back.detached) refl in
      let counted : counted_of (tx_events h) (entry_ends more) back.old.id.number ≡ Some back.stamp =
      ends_more back.old.id.number ∙ (ap (λ (o : Option Stamp). newer_or o (counted_of (tx_events h) (entry_ends two) back.old.id.number)) none_behind ∙ here) in
      ap (λ (o : Option Stamp). (counts (tx_events h) s back.old.by.number && not (stamp_counts (tx_events h) s o)) && unseen (counted_of (tx_events h) (marks more) back.old.id.number)) counted
      ∙ (ap (λ (b : Bool). (counts (tx_events h) s back.old.by.number && not b) && unseen (counted_of (tx_events h) (marks more) back.old.id.number)) ended
      ∙ gone (counts (tx_events h) s back.old.by.number) (unseen (counted_of (tx_events h) (marks more) back.old.id.number)))

  again_shown : q back.again ≡ true
  again_shown =
      let low = low_old in
      let apart = other_number back.old.id.number n (λ same. omega (arith, low, same)) in
      let none_two : counted_of (tx_events h) (entry_ends two) n ≡ None = rw apart (none_ended n (omega arith)) in
      let ends : counted_of (tx_events h) (entry_ends more) back.again.id.number ≡ None =
      ap (λ (k : ℕ). counted_of (tx_events h) (entry_ends more) k) back.number
      ∙ (ends_more n ∙ (ap (λ (o : Option Stamp). newer_or o (counted_of (tx_events h) (entry_ends two) n)) (none_of_that (tx_events h) n (entry_ends back.later)) ∙ none_two)) in
      let plain : counted_of (tx_events h) (marks more) back.again.id.number ≡ None =
      ap (λ (k : ℕ). counted_of (tx_events h) (marks more) k) back.number
      ∙ (marks_more n ∙ (ap (λ (o : Option Stamp). newer_or o (counted_of (tx_events h) (marks back.until) n)) (none_of_that (tx_events h) n (marks back.later)) ∙ none_marked n (omega arith))) in
      let born = committed_counts (tx_events h) s back.again.by.number back.attached in
      rw (born, ends, plain, passed) refl

  -- ---- lists of them

  split : Among first back.old
  split = among 0 first back.old (λ d k lt. let at = numbers_first d k lt in omega (arith, at)) back.there

  abbrev before : List Entry
  before = filter p split.before

  abbrev after : List Entry
  after = filter p split.after

  abbrev rest : List Entry
  rest = filter p last

  shown_without : filter p (entries_added whole) ≡ before ++ (back.old ∷ (after ++ rest))
  shown_without =
      let kept : filter p (back.old ∷ split.after) ≡ back.old ∷ after = rw old_shown refl in
      let here : filter p first ≡ before ++ (back.old ∷ after) = ap (filter p) split.is ∙ (filter-append p split.before (back.old ∷ split.after) ∙ ap (λ (ys : List Entry). before ++ ys) kept) in
      ap (filter p) (entries_both back.later back.until) ∙ (filter-append p first last ∙ (ap (λ (xs : List Entry). xs ++ rest) here ∙ append_assoc before (back.old ∷ after) rest))

  low_split : All (λ (x : Entry). x.id.number < n) (split.before ++ (back.old ∷ split.after))
  low_split = subst (All (λ (x : Entry). x.id.number < n)) split.is all_low

  same_before : filter q split.before ≡ before
  same_before =
      let low = all_front (λ (x : Entry). x.id.number < n) split.before (back.old ∷ split.after) low_split in
      same_filter q p split.before (λ k d lt. low_same (get_or split.before k d) (low k d lt) (split.others_before k d lt))

  same_after : filter q split.after ≡ after
  same_after =
      let low = All-tail (λ (x : Entry). x.id.number < n) back.old split.after (all_behind (λ (x : Entry). x.id.number < n) split.before (back.old ∷ split.after) low_split) in
      same_filter q p split.after (λ k d lt. low_same (get_or split.after k d) (low k d lt) (split.others_after k d lt))

  same_rest_behind : filter q (map (entry_behind n) last) ≡ map (entry_behind n) rest
  same_rest_behind =
      let low = low_old in
      mapped_filter p q (entry_behind n) last (λ k d lt. shown_same (get_or last k d) (let at = numbers_last d k lt in λ same. omega (arith, low, at, same)))

  shown_with : filter q (entries_added more) ≡ ((before ++ after) ++ (back.again ∷ [])) ++ map (entry_behind n) rest
  shown_with =
      let own : filter q (back.again ∷ []) ≡ back.again ∷ [] = rw again_shown refl in
      let dropped : filter q (back.old ∷ split.after) ≡ filter q split.after = rw old_gone refl in
      let here : filter q first ≡ before ++ after =
      ap (filter q) split.is ∙ (filter-append q split.before (back.old ∷ split.after) ∙ (ap (λ (xs : List Entry). xs ++ filter q (back.old ∷ split.after)) same_before ∙ ap (λ (ys : List Entry). before ++ ys) (dropped ∙ same_after))) in
      let front : filter q (first ++ (back.again ∷ [])) ≡ (before ++ after) ++ (back.again ∷ []) =
      filter-append q first (back.again ∷ []) ∙ (ap (λ (xs : List Entry). xs ++ filter q (back.again ∷ [])) here ∙ ap (λ (ys : List Entry). (before ++ after) ++ ys) own) in
      ap (filter q) (entries_both (map (event_behind n) back.later) two ∙ ap (λ (es : List Entry). (first ++ (back.again ∷ [])) ++ es) (entries_behind n back.later))
      ∙ (filter-append q (first ++ (back.again ∷ [])) (map (entry_behind n) last)
      ∙ (ap (λ (xs : List Entry). xs ++ filter q (map (entry_behind n) last)) front ∙ ap (λ (ys : List Entry). ((before ++ after) ++ (back.again ∷ [])) ++ ys) same_rest_behind))

  -- those that are shown stand apart
  shown_siblings : AreSiblings (filter p (entries_added whole))
  shown_siblings =
      let r : Entry → Bool = λ x. unseen (counted_of (tx_events h) (marks (catalogue_events h)) x.id.number) in
      subst (λ (cs : CatalogueEvents). AreSiblings (filter (passes_by unseen (tx_events h) cs s) (entries_added cs))) back.without
      (subst AreSiblings (sym (both_filters (is_present h s) r (entries_added (catalogue_events h)))) (siblings_kept r (entries_present h s) siblings))

  all_filled : All (λ (x : Entry). is_filled x.bound ≡ true) (entries_added (catalogue_events h))
  all_filled k d lt = let x = get_or (entries_added (catalogue_events h)) k d in filled (table_at (tables_made (catalogue_events h)) x.parent.number).shape x.bound (all_suit h sound k d lt).bound

  apart : All (StandsApart back.old) (after ++ rest)
  apart =
      let pairs : AllPairs CanStandTogether (back.old ∷ (after ++ rest)) = pairs_behind CanStandTogether before (back.old ∷ (after ++ rest)) (subst AreSiblings shown_without shown_siblings) in
      let beside = pairs-head CanStandTogether back.old (after ++ rest) pairs in
      let kept : All (λ (x : Entry). is_filled x.bound ≡ true) (filter p (entries_added whole)) =
      all_kept (λ (x : Entry). is_filled x.bound ≡ true) p (entries_added whole) (subst (λ (cs : CatalogueEvents). All (λ (x : Entry). is_filled x.bound ≡ true) (entries_added cs)) back.without all_filled) in
      let here = all_behind (λ (x : Entry). is_filled x.bound ≡ true) before (back.old ∷ (after ++ rest)) (subst (All (λ (x : Entry). is_filled x.bound ≡ true)) shown_without kept) in
      let own = All-head (λ (x : Entry). is_filled x.bound ≡ true) back.old (after ++ rest) here in
      let behind = All-tail (λ (x : Entry). is_filled x.bound ≡ true) back.old (after ++ rest) here in
      λ k d lt parent. let both = beside k d lt parent in (both.1, both.0, own, behind k d lt)

  -- ---- the lists are like each other

  abbrev between : List Entry
  between = ((before ++ after) ++ (back.old ∷ [])) ++ rest

  like_itself : (xs : List Entry) → All (λ (x : Entry). x.id.number < n) xs → All (λ (x : Entry). x.id.number ≢ back.old.id.number) xs → AreLike (Numbers n back.old.id.number) xs xs
  like_itself [] low others = tt
  like_itself (x ∷ xs) low others =
      let here = All-head (λ (y : Entry). y.id.number < n) x xs low in
      let other = All-head (λ (y : Entry). y.id.number ≢ back.old.id.number) x xs others in (
        record { parent = refl; child = refl; bound = refl; number = inr (sym (low_stays n x.id.number here), other) },
        like_itself xs (All-tail (λ (y : Entry). y.id.number < n) x xs low) (All-tail (λ (y : Entry). y.id.number ≢ back.old.id.number) x xs others),
      )

  like_behind : (xs : List Entry) → All (λ (x : Entry). x.id.number ≢ back.old.id.number) xs → AreLike (Numbers n back.old.id.number) (map (entry_behind n) xs) xs
  like_behind [] others = tt
  like_behind (x ∷ xs) others =
      let other = All-head (λ (y : Entry). y.id.number ≢ back.old.id.number) x xs others in (
        record { parent = refl; child = refl; bound = refl; number = inr (refl, other) },
        like_behind xs (All-tail (λ (y : Entry). y.id.number ≢ back.old.id.number) x xs others),
      )

  like_own : AreLike (Numbers n back.old.id.number) (back.again ∷ []) (back.old ∷ [])
  like_own = (record { parent = back.parent; child = back.child; bound = back.bound; number = inl (back.number, refl) }, tt)

  like_moved : AreLike (Numbers n back.old.id.number) (filter q (entries_added more)) between
  like_moved =
      let low_before = all_front (λ (x : Entry). x.id.number < n) split.before (back.old ∷ split.after) low_split in
      let low_after = All-tail (λ (x : Entry). x.id.number < n) back.old split.after (all_behind (λ (x : Entry). x.id.number < n) split.before (back.old ∷ split.after) low_split) in
      let low = low_old in
      let last_others : All (λ (x : Entry). x.id.number ≢ back.old.id.number) last = λ k d lt. let at = numbers_last d k lt in λ same. omega (arith, low, at, same) in
      let first_like =
      like_append (Numbers n back.old.id.number) before before after after
      (like_itself before (all_kept (λ (x : Entry). x.id.number < n) p split.before low_before) (all_kept (λ (x : Entry). x.id.number ≢ back.old.id.number) p split.before split.others_before))
      (like_itself after (all_kept (λ (x : Entry). x.id.number < n) p split.after low_after) (all_kept (λ (x : Entry). x.id.number ≢ back.old.id.number) p split.after split.others_after)) in
      let both = like_append (Numbers n back.old.id.number) (before ++ after) (before ++ after) (back.again ∷ []) (back.old ∷ []) first_like like_own in
      subst (λ (es : List Entry). AreLike (Numbers n back.old.id.number) es between) (sym shown_with)
      (like_append (Numbers n back.old.id.number) ((before ++ after) ++ (back.again ∷ [])) ((before ++ after) ++ (back.old ∷ [])) (map (entry_behind n) rest) rest both
      (like_behind rest (all_kept (λ (x : Entry). x.id.number ≢ back.old.id.number) p last last_others)))

  apart_rest : All (StandsApart back.old) rest
  apart_rest = all_behind (StandsApart back.old) after rest apart

  -- ---- trees

  same_tables : tables_made more ≡ tables_made whole
  same_tables = tables_both (map (event_behind n) back.later) two ∙ (ap (λ (ts : List Table). tables_made back.until ++ ts) (tables_behind n back.later) ∙ sym (tables_both back.later back.until))

  abbrev tree_by : TxEvents → CatalogueEvents → (t : ℕ) → TableTree
  tree_by x cs t = tree_within 7 (tables_made cs) (filter (passes_by unseen x cs s) (entries_added cs)) t t

  between_trees : (tables : List Table) (t : ℕ) → tree_within 7 tables between t t ≡ tree_within 7 tables (filter p (entries_added whole)) t t
  between_trees tables t =
      let tree : List Entry → TableTree = λ es. tree_within 7 tables es t t in
      ap tree (append_assoc (before ++ after) (back.old ∷ []) rest)
      ∙ (sym (trees_alike back.old back.old (before ++ after) rest refl refl refl apart_rest tables 7 t t)
      ∙ (ap (λ (es : List Entry). tree (es ++ (back.old ∷ []))) (append_assoc before after rest)
      ∙ (trees_alike back.old back.old before (after ++ rest) refl refl refl apart tables 7 t t ∙ ap tree (sym shown_without))))

  pub trees_by : (t : ℕ) → tree_by (tx_events g) (catalogue_events g) t ≡ tree_by (tx_events h) (catalogue_events h) t
  trees_by t =
      ap (λ (x : TxEvents). tree_by x (catalogue_events g) t) back.transactions
      ∙ (ap (λ (cs : CatalogueEvents). tree_by (tx_events h) cs t) back.changes
      ∙ (ap (λ (ts : List Table). tree_within 7 ts (filter q (entries_added more)) t t) same_tables
      ∙ (like_trees (Numbers n back.old.id.number) (tables_made whole) (filter q (entries_added more)) between like_moved 7 t t
      ∙ (between_trees (tables_made whole) t ∙ ap (λ (cs : CatalogueEvents). tree_by (tx_events h) cs t) (sym back.without)))))

  -- ---- paths

  same_checks : checks_kept more ≡ checks_kept whole
  same_checks = checks_both (map (event_behind n) back.later) two ∙ (ap (λ (cs : List Check). checks_kept back.until ++ cs) (checks_behind n back.later) ∙ sym (checks_both back.later back.until))

  between_children : (t : ℕ) → children between t ≡ children (filter p (entries_added whole)) t
  between_children t =
      ap (λ (es : List Entry). children es t) (append_assoc (before ++ after) (back.old ∷ []) rest)
      ∙ (sym (children_alike back.old back.old (before ++ after) rest refl refl refl apart_rest refl t)
      ∙ (ap (λ (es : List Entry). children (es ++ (back.old ∷ [])) t) (append_assoc before after rest)
      ∙ (children_alike back.old back.old before (after ++ rest) refl refl refl apart refl t ∙ ap (λ (es : List Entry). children es t) (sym shown_without))))

  between_place : (tables : List Table) (o : Option Entry) → place_of tables between o ≡ place_of tables (filter p (entries_added whole)) o
  between_place tables None = refl
  between_place tables (Some e) = ap (λ (kids : List Entry). place_among kids (table_at tables e.parent.number).shape e) (between_children e.parent.number)

  abbrev path_by : TxEvents → CatalogueEvents → (t : ℕ) → List PathPart
  path_by x cs t =
      upwards 8 (part_of (tables_made cs) (filter (passes_by unseen x cs s) (entries_added cs)) (λ table. filter (is_check_of x s table) (checks_kept cs)))
      (above (filter (passes_by unseen x cs s) (entries_added cs))) (Some t)

  -- where each table is the child of one of the entries at most
  module _ (one : All (λ (x : Entry). x.child.number ≡ back.old.child.number → x.id.number ≡ back.old.id.number) (filter p (entries_added whole))) where
    alone : All (λ (x : Entry). x.child.number ≢ back.old.child.number) after
    alone =
        let all = all_behind (λ (x : Entry). x.child.number ≡ back.old.child.number → x.id.number ≡ back.old.id.number) before (back.old ∷ (after ++ rest)) (subst (All (λ (x : Entry). x.child.number ≡ back.old.child.number → x.id.number ≡ back.old.id.number)) shown_without one) in
        let here = all_front (λ (x : Entry). x.child.number ≡ back.old.child.number → x.id.number ≡ back.old.id.number) after rest (All-tail (λ (x : Entry). x.child.number ≡ back.old.child.number → x.id.number ≡ back.old.id.number) back.old (after ++ rest) all) in
        let others = all_kept (λ (x : Entry). x.id.number ≢ back.old.id.number) p split.after split.others_after in
        λ k d lt same. others k d lt (here k d lt same)

    between_above : (t : ℕ) → above between t ≡ above (filter p (entries_added whole)) t
    between_above t = moved_found t back.old before after rest alone ∙ ap (λ (es : List Entry). above es t) (sym shown_without)

    parts : (t : ℕ) → part_of (tables_made whole) (filter q (entries_added more)) (λ table. filter (is_check_of (tx_events h) s table) (checks_kept whole)) t
        ≡ part_of (tables_made whole) (filter p (entries_added whole)) (λ table. filter (is_check_of (tx_events h) s table) (checks_kept whole)) t
    parts t =
        let made : Option Place → PathPart = λ place. record { table = table_of t; checks = map kept_of (filter (is_check_of (tx_events h) s t) (checks_kept whole)); place = place } in
        ap made
        (like_place (Numbers n back.old.id.number) (numbers_tested n back.old.id.number) (tables_made whole) (filter q (entries_added more)) between like_moved (above (filter q (entries_added more)) t) (above between t) (like_found (Numbers n back.old.id.number) t (filter q (entries_added more)) between like_moved)
        ∙ (between_place (tables_made whole) (above between t) ∙ ap (place_of (tables_made whole) (filter p (entries_added whole))) (between_above t)))

    ups : (t : ℕ) → parent_in (above (filter q (entries_added more)) t) ≡ parent_in (above (filter p (entries_added whole)) t)
    ups t =
        like_parent (Numbers n back.old.id.number) (above (filter q (entries_added more)) t) (above between t) (like_found (Numbers n back.old.id.number) t (filter q (entries_added more)) between like_moved)
        ∙ ap parent_in (between_above t)

    pub paths_by : (t : ℕ) → path_by (tx_events g) (catalogue_events g) t ≡ path_by (tx_events h) (catalogue_events h) t
    paths_by t =
        ap (λ (x : TxEvents). path_by x (catalogue_events g) t) back.transactions
        ∙ (ap (λ (cs : CatalogueEvents). path_by (tx_events h) cs t) back.changes
        ∙ (ap (λ (ts : List Table). upwards 8 (part_of ts (filter q (entries_added more)) (λ table. filter (is_check_of (tx_events h) s table) (checks_kept more))) (above (filter q (entries_added more))) (Some t)) same_tables
        ∙ (ap (λ (cs : List Check). upwards 8 (part_of (tables_made whole) (filter q (entries_added more)) (λ table. filter (is_check_of (tx_events h) s table) cs)) (above (filter q (entries_added more))) (Some t)) same_checks
        ∙ (same_upwards 8 (part_of (tables_made whole) (filter q (entries_added more)) (λ table. filter (is_check_of (tx_events h) s table) (checks_kept whole)))
        (part_of (tables_made whole) (filter p (entries_added whole)) (λ table. filter (is_check_of (tx_events h) s table) (checks_kept whole)))
        (above (filter q (entries_added more))) (above (filter p (entries_added whole))) parts ups (Some t)
        ∙ ap (λ (cs : CatalogueEvents). path_by (tx_events h) cs t) (sym back.without)))))

-- ---- what is shown by a snapshot, and what is present

pub same_trees : (g h : History) (s : ℕ) (snap : TakenSnapshot) → IsBackAgain g h → AreCatalogueSound h → AreSiblings (entries_present h s) → (t : ℕ) → tree_of g s t snap ≡ tree_of h s t snap
unfolding tree_of
same_trees g h s snap back sound siblings t =
    ap (λ (x : TxEvents). tree_within 7 (tables_made (catalogue_events g)) (filter (passes_by (λ o. not (sees_stamp x snap o)) (tx_events g) (catalogue_events g) s) (entries_added (catalogue_events g))) t t) back.transactions
    ∙ trees_by (λ o. not (sees_stamp (tx_events h) snap o)) refl g h s back sound siblings t

-- where marks are not asked for all is as it is present
and_true : (b : Bool) → (b && true) ≡ b
and_true true = refl
and_true false = refl

all_pass : (h : History) (s : ℕ) → filter (passes_by (λ o. true) (tx_events h) (catalogue_events h) s) (entries_added (catalogue_events h)) ≡ entries_present h s
all_pass h s = same_filter (passes_by (λ o. true) (tx_events h) (catalogue_events h) s) (is_present h s) (entries_added (catalogue_events h)) (λ k d lt. and_true (is_present h s (get_or (entries_added (catalogue_events h)) k d)))

pub same_paths : (g h : History) (s : ℕ) (back : IsBackAgain g h) → AreCatalogueSound h → AreSiblings (entries_present h s)
    → All (λ (x : Entry). x.child.number ≡ back.old.child.number → x.id.number ≡ back.old.id.number) (entries_present h s) → (t : ℕ) → path_of g s t ≡ path_of h s t
unfolding path_of
same_paths g h s back sound siblings one t =
    let only : All (λ (x : Entry). x.child.number ≡ back.old.child.number → x.id.number ≡ back.old.id.number) (filter (passes_by (λ o. true) (tx_events h) (back.later ++ back.until) s) (entries_added (back.later ++ back.until))) =
    subst (λ (cs : CatalogueEvents). All (λ (x : Entry). x.child.number ≡ back.old.child.number → x.id.number ≡ back.old.id.number) (filter (passes_by (λ o. true) (tx_events h) cs s) (entries_added cs))) back.without
    (subst (All (λ (x : Entry). x.child.number ≡ back.old.child.number → x.id.number ≡ back.old.id.number)) (sym (all_pass h s)) one) in
    ap (λ (es : List Entry). upwards 8 (part_of (tables_made (catalogue_events g)) es (checks_of g s)) (above es) (Some t)) (sym (all_pass g s))
    ∙ (paths_by (λ o. true) refl g h s back sound siblings only t
    ∙ ap (λ (es : List Entry). upwards 8 (part_of (tables_made (catalogue_events h)) es (checks_of h s)) (above es) (Some t)) (all_pass h s))

-- ---- the rows are the same

pub same_seen : (g h : History) (leaf : ℕ) (s : TakenSnapshot) → IsBackAgain g h → seen g leaf s ≡ seen h leaf s
same_seen g h leaf s back =
    let by : TxEvents → RowEvents → List Version = λ txs rows. filter (λ v. (v.leaf.number == leaf) && (sees txs s v.by.number v.cmd && not (sees_end txs s (end_in txs rows v.id.number)))) (births rows) in
    ap (λ (txs : TxEvents). by txs (row_events g)) back.transactions ∙ ap (λ (rows : RowEvents). by (tx_events h) rows) back.rows
