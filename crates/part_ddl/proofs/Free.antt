-- Where nothing stands against a further partition.
use Rattle.std.proofs.Common.{◌≡◌, ℕ, suc, not, if◌then◌else◌, ◌+◌, ◌<◌, ◌≤◌, ◌==◌, ◌&&◌, ◌++◌, arith, refl, sym, subst, ◌∙◌, Bool, true, false, List, [], ◌∷◌, Option, Some, None, filter, map, length, get_or, inl, inr}
use Rattle.std.specs.Prelude.{nat_lt, nat_le}
use Rattle.std.specs.List.{All, find, position, position_or_len}
use Rattle.std.specs.Option.{option_map}
use Rattle.std.proofs.lemmas.Bool.{cases_Bool, cases_lt}
use Rattle.std.proofs.lemmas.Bool.Decides.{nat_tests}
use Rattle.std.proofs.lemmas.List.Elements.{All-cons, All-head, All-tail, All-nil}
use Rattle.pg_values.specs.declared.fault.Fault.{Fault}
use Rattle.pg_values.specs.declared.which.Which.TheVariants.{Partitions, Levels}
use Rattle.bound_forms.specs.declared.level.Level.{Level as OneLevel}
use Rattle.bound_forms.specs.declared.partition_bound.Bound.{Bound}
use Rattle.bound_forms.specs.declared.partition_bound.Bound.TheVariants.{Range, List as Listed, Hash, Default}
use Rattle.bound_forms.specs.Accepts.{is_default}
use Rattle.bound_forms.specs.Bounds.{comes_after, overlaps, are_siblings, BoundsFit}
use Rattle.pg_values.specs.Refusals.{unless}
use Rattle.refusals.specs.Refusals.{bound_overlaps, second_default, too_many}
use Rattle.bound_forms.specs.Levels.{IsOfLevel}
use Rattle.bound_forms.specs.Moduli.{bad_modulus}
use Rattle.bound_forms.proofs.LevelLaws.{none_tells_fit}
use Rattle.bound_forms.proofs.OverlapLaws.{overlaps_turned}
use Rattle.history.specs.declared.catalogue.Entry.{Entry}
use Rattle.history.specs.declared.catalogue.Table.{Table}
use Rattle.history.specs.declared.catalogue.TableShape.{TableShape}
use Rattle.history.specs.declared.catalogue.TableShape.TheVariants.{Leaf, Level}
use Rattle.history.specs.Catalogue.{tables_made, entries_added}
use Rattle.history.specs.History.{History, catalogue_events}
use Rattle.history.specs.Places.{table_at, TakesBound, Suits, AreCatalogueSound}
use Rattle.history.specs.Presence.{is_present, entries_present}
use Rattle.row_router.specs.Histories.{placed, all_placed, children, bound_of, is_under}
use Rattle.row_router.proofs.Order.{all_children, all_kept, children_of_part, under_children}
use Rattle.row_router.proofs.Suited.{all_suit}
use Rattle.part_catalog.specs.Answers.{is_pending_below, pending_entry}
use Rattle.part_catalog.specs.declared.TheConstants.{ENTRY_LIMIT}
use Rattle.part_catalog.specs.Found.{made_at}
use Rattle.part_catalog.specs.Full.{added}
use Rattle.part_ddl.specs.Placing.{child_name, partitions_of, names_below, bounds_below, fault_at, pending_faults, default_faults, modulus_faults, overlap_faults, bound_faults, room_faults, pending_name, levels_with, place_faults}
use Rattle.part_ddl.proofs.Suiting.{bad_none}
use Rattle.part_ddl.specs.Laws.{PassedHavePlaces}

-- ---- no fault among several

both_empty : (xs ys : List Fault) → xs ++ ys ≡ [] → (xs ≡ []) × (ys ≡ [])
both_empty [] ys e = (refl, e)
both_empty (x ∷ xs) ys e = absurd (cc)

fault_none : (f : List ℕ → Fault) (names : List (List ℕ)) (o : Option ℕ) → fault_at f names o ≡ [] → o ≡ None
fault_none f names None e = refl
fault_none f names (Some i) e = absurd (cc)

unless_none : (b : Bool) (f : Fault) → unless b f ≡ [] → b ≡ true
unless_none true f e = refl
unless_none false f e = absurd (cc)

-- ---- no element that passes

no_place : (n m : ℕ) → (if nat_lt n m then Some n else None) ≡ None → m ≤ n
no_place n m is = elim (cases_lt n m) [
  | inl lt ↦
      let test : nat_lt n m ≡ true = grind (arith, nat_tests) in
      let same : Some n ≡ None = rw test at is in
      absurd (cc)
  | inr ge ↦ omega arith
]

past_all : (p : Bound → Bool) (xs : List Bound) → length xs ≤ position_or_len p xs → All (λ b. p b ≡ false) xs
past_all p [] le = All-nil (λ b. p b ≡ false)
past_all p (x ∷ xs) le = elim (cases_Bool (p x)) [
  | inl y ↦ let less : suc (length xs) ≤ 0 = rw y at le in absurd (omega (arith, less))
  | inr n ↦
      let less : suc (length xs) ≤ 1 + position_or_len p xs = rw n at le in
      All-cons (λ b. p b ≡ false) x xs n (past_all p xs (omega (arith, less)))
]

none_passes : (p : Bound → Bool) (xs : List Bound) → position p xs ≡ None → All (λ b. p b ≡ false) xs
none_passes p xs none = past_all p xs (no_place (position_or_len p xs) (length xs) none)

none_found : (p : Entry → Bool) (xs : List Entry) → find p xs ≡ None → All (λ e. p e ≡ false) xs
none_found p [] none = All-nil (λ e. p e ≡ false)
none_found p (x ∷ xs) none = elim (cases_Bool (p x)) [
  | inl y ↦ let wrong : Some x ≡ None = rw y at none in absurd (cc)
  | inr n ↦ All-cons (λ e. p e ≡ false) x xs n (none_found p xs (rw n at none))
]

none_kept : (p : Entry → Bool) (xs : List Entry) → All (λ e. p e ≡ false) xs → filter p xs ≡ []
none_kept p [] h = refl
none_kept p (x ∷ xs) h =
    let first : p x ≡ false = All-head (λ e. p e ≡ false) x xs h in
    rw first (none_kept p xs (All-tail (λ e. p e ≡ false) x xs h))

-- ---- what no partition is, no entry below the table is

placed_some : (e : Entry) (xs : List Entry) → placed e xs ≡ [] → ⊥
placed_some e [] is = cc
placed_some e (x ∷ xs) is = elim (cases_Bool (comes_after x.bound e.bound)) [
  | inl y ↦ let wrong : e ∷ (x ∷ xs) ≡ [] = rw y at is in cc
  | inr n ↦ let wrong : x ∷ placed e xs ≡ [] = rw n at is in cc
]

none_placed : (done es : List Entry) → all_placed done es ≡ [] → (done ≡ []) × (es ≡ [])
none_placed done [] is = (is, refl)
none_placed done (e ∷ es) is = absurd (placed_some e done (none_placed (placed e done) es is).0)

abbrev Unless : (Entry → Bool) → ℕ → Entry → Type 0
Unless p t e = e.parent.number ≡ t → p e ≡ false

under_none : (p : Entry → Bool) (t : ℕ) (es : List Entry) → filter (is_under t) (filter p es) ≡ [] → All (Unless p t) es
under_none p t [] is = All-nil (Unless p t)
under_none p t (x ∷ xs) is = elim (cases_Bool (p x)) [
  | inl y ↦
      let here : filter (is_under t) (x ∷ filter p xs) ≡ [] = rw y at is in
      elim (cases_Bool (is_under t x)) [
        | inl u ↦ let wrong : x ∷ filter (is_under t) (filter p xs) ≡ [] = rw u at here in absurd (cc)
        | inr v ↦
            let first : Unless p t x = λ same. let at : is_under t x ≡ true = grind (arith, nat_tests, same) in absurd (cc) in
            All-cons (Unless p t) x xs first (under_none p t xs (rw v at here))
      ]
  | inr n ↦ All-cons (Unless p t) x xs (λ same. n) (under_none p t xs (rw n at is))
]

none_under : (p : Entry → Bool) (entries : List Entry) (t : ℕ) → All (λ e. p e ≡ false) (children entries t) → All (Unless p t) entries
none_under p entries t h =
    let none : children (filter p entries) t ≡ [] = sym (children_of_part p entries t) ∙ none_kept p (children entries t) h in
    under_none p t entries (none_placed [] (filter (is_under t) (filter p entries)) none).1

all_mapped : (P : Bound → Type 0) (es : List Entry) → All P (map bound_of es) → All (λ e. P e.bound) es
all_mapped P [] h = All-nil (λ e. P e.bound)
all_mapped P (e ∷ es) h = All-cons (λ x. P x.bound) e es (All-head P e.bound (map bound_of es) h) (all_mapped P es (All-tail P e.bound (map bound_of es) h))

-- ---- the bounds below a level are of the level

abbrev HasParent : ℕ → Entry → Type 0
HasParent t e = e.parent.number ≡ t

of_level : (tables : List Table) (t : ℕ) (level : OneLevel) (es : List Entry) → (table_at tables t).shape ≡ Level level → All (Suits tables) es → All (HasParent t) es → All (IsOfLevel level) (map bound_of es)
of_level tables t level [] shape suits under = All-nil (IsOfLevel level)
of_level tables t level (e ∷ es) shape suits under =
    let here : TakesBound (table_at tables t).shape e.bound = subst (λ n. TakesBound (table_at tables n).shape e.bound) (All-head (HasParent t) e es under) (All-head (Suits tables) e es suits).bound in
    let takes : TakesBound (Level level) e.bound = subst (λ s. TakesBound s e.bound) shape here in
    All-cons (IsOfLevel level) e.bound (map bound_of es) takes (of_level tables t level es shape (All-tail (Suits tables) e es suits) (All-tail (HasParent t) e es under))

-- the level of a table that takes a bound
record TakenAt (shape : TableShape) (b : Bound) : Type 0 where
  level : OneLevel
  is : shape ≡ Level level
  takes : IsOfLevel level b

taken_at : (shape : TableShape) (b : Bound) → TakesBound shape b → TakenAt shape b
taken_at (Leaf leaf) b h = absurd h
taken_at (Level level) b h = record { level = level; is = refl; takes = h }

-- ---- the parts

apart : (h : History) (s t : ℕ) (b : Bound) → overlap_faults (names_below h s t) (bounds_below h s t) b ≡ [] → All (Unless (λ x. overlaps b x.bound) t) (entries_present h s)
apart h s t b none =
    let all = none_passes (overlaps b) (bounds_below h s t) (fault_none bound_overlaps (names_below h s t) (position (overlaps b) (bounds_below h s t)) none) in
    none_under (λ x. overlaps b x.bound) (entries_present h s) t (all_mapped (λ c. overlaps b c ≡ false) (partitions_of h s t) all)

turned : (x b : Bool) → x ≡ true → not x ≡ false
turned true b e = refl
turned false b e = absurd (cc)

turned_back : (x : Bool) → not x ≡ false → x ≡ true
turned_back true e = refl
turned_back false e = absurd (cc)

beside : (h : History) (s t : ℕ) (b : Bound) → AreCatalogueSound h → TakesBound (made_at h t).shape b → modulus_faults (bounds_below h s t) b ≡ [] → All (Unless (λ x. not (are_siblings x.bound b)) t) (entries_present h s)
beside h s t b sound takes none =
    let tables = tables_made (catalogue_events h) in
    let entries = entries_present h s in
    let own = taken_at (made_at h t).shape b takes in
    let suits : All (Suits tables) entries = all_kept (Suits tables) (is_present h s) (entries_added (catalogue_events h)) (all_suit h sound) in
    let bounds : All (IsOfLevel own.level) (bounds_below h s t) = of_level tables t own.level (partitions_of h s t) own.is (all_children (Suits tables) entries t suits) (under_children entries t) in
    let fit : All (λ a. BoundsFit a b) (bounds_below h s t) = none_tells_fit (bad_modulus b (bounds_below h s t)) b (bounds_below h s t) refl (bad_none b (bounds_below h s t) none) own.level own.takes bounds in
    let all : All (λ a. not (are_siblings a b) ≡ false) (bounds_below h s t) = λ k d lt. turned _ true (fit k d lt).0 in
    none_under (λ x. not (are_siblings x.bound b)) entries t (all_mapped (λ a. not (are_siblings a b) ≡ false) (partitions_of h s t) all)

no_name : (h : History) (o : Option Entry) → option_map (child_name h) o ≡ None → o ≡ None
no_name h None e = refl
no_name h (Some x) e = absurd (cc)

no_pending : (parent : List ℕ) (o : Option (List ℕ)) → pending_faults parent o ≡ [] → o ≡ None
no_pending parent None e = refl
no_pending parent (Some p) e = absurd (cc)

abbrev IsNotPending : History → ℕ → ℕ → Entry → Type 0
IsNotPending h s t e = is_pending_below h s t e ≡ false

not_beside : (h : History) (s t : ℕ) (b : Bound) → default_faults (made_at h t).name (pending_name h s t) (names_below h s t) (bounds_below h s t) b ≡ [] → is_default b ≡ true → All (IsNotPending h s t) (entries_added (catalogue_events h))
not_beside h s t (Range l u) none is = absurd (cc)
not_beside h s t (Listed vs) none is = absurd (cc)
not_beside h s t (Hash m r) none is = absurd (cc)
not_beside h s t Default none is =
    let parts = both_empty (fault_at (second_default (made_at h t).name) (names_below h s t) (position is_default (bounds_below h s t))) (pending_faults (made_at h t).name (pending_name h s t)) none in
    none_found (is_pending_below h s t) (entries_added (catalogue_events h)) (no_name h (pending_entry h s t) (no_pending (made_at h t).name (pending_name h s t) parts.1))

-- the room that is left
pub record HasRoom (h : History) (s t height : ℕ) : Type 0 where
  pub partitions : length (partitions_of h s t) < 1024
  pub added : added h < ENTRY_LIMIT
  pub levels : levels_with h s t height ≤ 8

pub room_of : (h : History) (s t height : ℕ) (b : Bound) → place_faults h s t b height ≡ [] → HasRoom h s t height
room_of h s t height b none =
    let whole = both_empty (bound_faults (made_at h t).name (pending_name h s t) (names_below h s t) (bounds_below h s t) b) (room_faults (length (partitions_of h s t)) (added h) (levels_with h s t height)) none in
    let fits = nat_lt (length (partitions_of h s t)) 1024 && nat_lt (added h) ENTRY_LIMIT in
    let rooms = both_empty (unless fits (too_many Partitions)) (unless (nat_le (levels_with h s t height) 8) (too_many Levels)) whole.1 in
    let fit : fits ≡ true = unless_none fits (too_many Partitions) rooms.0 in
    let low : nat_le (levels_with h s t height) 8 ≡ true = unless_none (nat_le (levels_with h s t height) 8) (too_many Levels) rooms.1 in
    record { partitions = grind (arith, nat_tests, fit); added = grind (arith, nat_tests, fit); levels = grind (arith, nat_tests, low) }

pub passed_have_places : PassedHavePlaces
passed_have_places h s height e sound takes none =
    let t = e.parent.number in
    let b = e.bound in
    let room = room_faults (length (partitions_of h s t)) (added h) (levels_with h s t height) in
    let overlap = overlap_faults (names_below h s t) (bounds_below h s t) b in
    let modulus = modulus_faults (bounds_below h s t) b in
    let default = default_faults (made_at h t).name (pending_name h s t) (names_below h s t) (bounds_below h s t) b in
    let whole = both_empty (default ++ (modulus ++ overlap)) room none in
    let first = both_empty default (modulus ++ overlap) whole.0 in
    let second = both_empty modulus overlap first.1 in
    let left = room_of h s t height b none in
    let alone = apart h s t b second.1 in
    let suited = beside h s t b sound takes second.0 in
    record {
      together = λ k d lt same. (overlaps_turned (get_or (entries_present h s) k d).bound b ∙ alone k d lt same, turned_back _ (suited k d lt same));
      no_pending = λ k d lt same pending. elim (cases_Bool (is_default b)) [
        | inl y ↦
            let all : All (IsNotPending h s t) (entries_present h s) = all_kept (IsNotPending h s t) (is_present h s) (entries_added (catalogue_events h)) (not_beside h s t b first.0 y) in
            let at : ((get_or (entries_present h s) k d).parent.number == t) ≡ true = grind (arith, nat_tests, same) in
            let both : is_pending_below h s t (get_or (entries_present h s) k d) ≡ true = rw (at, pending) refl in
            let none_is = all k d lt in
            absurd (cc)
        | inr n ↦ n
      ];
      partitions = left.partitions;
      added = left.added;
      levels = left.levels;
    }
