-- The places at which somebody holds a mode.
use Rattle.std.proofs.Common.{◌≡◌, ◌≢◌, ℕ, ◌+◌, ◌<◌, ◌≤◌, ◌==◌, ◌&&◌, ◌||◌, not, Bool, true, false, List, [], ◌∷◌, ◌++◌, length, take, get_or, slice_index_or, slice_set, filter, nat_eq, inl, inr, refl, sym, ap, ◌∙◌, arith, add-one, length-append, take-suc}
use Rattle.std.specs.List.{list_any}
use Rattle.std.proofs.lemmas.Grind.{common_steps, elements}
use Rattle.std.proofs.lemmas.Bool.{cases_Bool, cases_lt, cases_eq}
use Rattle.std.proofs.lemmas.Bool.Decides.{nat_tests, Decides-eqb}
use Rattle.std.proofs.lemmas.List.{take_all}
use Rattle.std.proofs.lemmas.List.Folds.{list_any-append, list_any_at}
use Rattle.std.proofs.lemmas.List.Quantifiers.{all_pairs_push}
use Rattle.std.proofs.lemmas.List.Kept.{AllPairs-filter}
use Rattle.std.proofs.lemmas.Nat.Bits.{bit_at-zero}
use Rattle.std.proofs.lemmas.Map.Made.{IsDistinct-from_AllPairs}
use Rattle.std.proofs.lemmas.Map.Steps.{length-le_from_distinct_below}
use Rattle.std.proofs.lemmas.Map.Views.{any-filter_same}
use Rattle.pg_values.specs.declared.session_set.SessionSet.{SessionSet}
use Rattle.pg_values.specs.Sets.{has, empty, nobody}
use Rattle.pg_values.proofs.Bits.{nobody_is, somebody_is, nobody_none}
use Rattle.lock_table.specs.Kept.{is_empty_at, AreTaken, IsHeldThere}
use Rattle.lock_table.proofs.Tables.{apart}

-- ---- sets in which somebody is

nobody_same : (p q : ℕ → Bool) → ((s : ℕ) → s < 128 → p s ≡ true → q s ≡ true) → nobody q ≡ true → nobody p ≡ true
nobody_same p q more none = elim (cases_Bool (nobody p)) [
  | inl t ↦ t
  | inr f ↦ absurd (let s = somebody_is p f in let here = more s.0 s.1 s.2 in let gone = nobody_is q s.0 s.1 none in cc)
]

pub somebody_in : (p : ℕ → Bool) (s : ℕ) → s < 128 → p s ≡ true → nobody p ≡ false
somebody_in p s low here = elim (cases_Bool (nobody p)) [
  | inr f ↦ f
  | inl t ↦ absurd (let gone = nobody_is p s low t in cc)
]

pub no_bit : (s : ℕ) → has empty s ≡ false
no_bit s = grind (arith, common_steps, nat_tests, bit_at-zero s)

-- a set that is as it was
same_at : (old new : List SessionSet) (p : ℕ) → slice_index_or new p empty ≡ slice_index_or old p empty → is_empty_at new p ≡ is_empty_at old p
same_at old new p is = ap (λ (z : SessionSet). nobody (λ s. has z s)) is

-- ---- no lock

pub none_taken : (room : ℕ) → AreTaken [] [] room
none_taken room = record {
  apart = λ i j d lt within. absurd (omega arith);
  below = λ p here. absurd cc;
  somebody = λ p here. absurd cc;
  none = λ p gone. nobody_none (λ s. has empty s) no_bit;
}

-- the same sets
pub same_taken : (old new : List SessionSet) (places : List ℕ) (room : ℕ) → ((p : ℕ) → slice_index_or new p empty ≡ slice_index_or old p empty) → AreTaken old places room → AreTaken new places room
same_taken old new places room is t = record {
  apart = t.apart;
  below = t.below;
  somebody = λ p here. same_at old new p (is p) ∙ t.somebody p here;
  none = λ p gone. same_at old new p (is p) ∙ t.none p gone;
}

-- the same places, as they are read
pub as_read : (held : List SessionSet) (places read : List ℕ) (room : ℕ) → read ≡ places → AreTaken held places room → AreTaken held read room
as_read held places read room is t = rw is t

-- ---- one lock more

-- somebody was there already
pub joined_taken : (old new : List SessionSet) (places : List ℕ) (room at s : ℕ) → is_empty_at old at ≡ false → IsHeldThere old new at s → AreTaken old places room → AreTaken new places room
joined_taken old new places room at s taken h t = record {
  apart = t.apart;
  below = t.below;
  somebody = λ p in_places. elim (cases_eq p at) [
    | inl same ↦ rw same (somebody_in (λ x. has (slice_index_or new at empty) x) s h.low h.here)
    | inr other ↦ same_at old new p (h.others p other) ∙ t.somebody p in_places
  ];
  none = λ p not_in. elim (cases_eq p at) [
    | inl same ↦ absurd (let gone = t.none p not_in in let e : is_empty_at old p ≡ false = rw same taken in cc)
    | inr other ↦ same_at old new p (h.others p other) ∙ t.none p not_in
  ];
}

not_listed : (old : List SessionSet) (places : List ℕ) (room at : ℕ) → is_empty_at old at ≡ true → AreTaken old places room → list_any (nat_eq at) places ≡ false
not_listed old places room at free t = elim (cases_Bool (list_any (nat_eq at) places)) [
  | inr f ↦ f
  | inl here ↦ absurd (let s = t.somebody at here in cc)
]

listed_more : (places : List ℕ) (at p : ℕ) → list_any (nat_eq p) (places ++ at ∷ []) ≡ (list_any (nat_eq p) places || nat_eq p at)
listed_more places at p = grind (arith, common_steps, nat_tests, list_any-append (nat_eq p) places (at ∷ []))

-- nobody was there
pub first_taken : (old new : List SessionSet) (places : List ℕ) (room at s : ℕ) → at < room → is_empty_at old at ≡ true → IsHeldThere old new at s → AreTaken old places room → AreTaken new (places ++ at ∷ []) room
first_taken old new places room at s in_room free h t = record {
  apart = all_pairs_push (λ p q. p ≢ q) places at t.apart (apart places at (not_listed old places room at free t));
  below = λ p in_places. elim (cases_eq p at) [
    | inl same ↦ omega (arith, same, in_room)
    | inr other ↦ t.below p (grind (arith, common_steps, nat_tests, listed_more places at p))
  ];
  somebody = λ p in_places. elim (cases_eq p at) [
    | inl same ↦ rw same (somebody_in (λ x. has (slice_index_or new at empty) x) s h.low h.here)
    | inr other ↦ same_at old new p (h.others p other) ∙ t.somebody p (grind (arith, common_steps, nat_tests, listed_more places at p))
  ];
  none = λ p not_in. elim (cases_eq p at) [
    | inl same ↦ absurd (grind (arith, common_steps, nat_tests, listed_more places at p))
    | inr other ↦ same_at old new p (h.others p other) ∙ t.none p (grind (arith, common_steps, nat_tests, listed_more places at p))
  ];
}

-- there is room for its place
pub room_for : (old : List SessionSet) (places : List ℕ) (room at : ℕ) → at < room → is_empty_at old at ≡ true → AreTaken old places room → length places < room
room_for old places room at in_room free t =
    let pairs = all_pairs_push (λ p q. p ≢ q) places at t.apart (apart places at (not_listed old places room at free t)) in
    let most = length-le_from_distinct_below (places ++ at ∷ []) room (IsDistinct-from_AllPairs Decides-eqb _ pairs)
    (λ p in_places. elim (cases_eq p at) [
      | inl same ↦ omega (arith, same, in_room)
      | inr other ↦ t.below p (grind (arith, common_steps, nat_tests, listed_more places at p))
    ]) in
    omega (arith, most, length-append places (at ∷ []))

-- more room
pub roomier : (held : List SessionSet) (places : List ℕ) (room more : ℕ) → room ≤ more → AreTaken held places room → AreTaken held places more
roomier held places room more le t = record {
  apart = t.apart;
  below = λ p here. let lt = t.below p here in omega arith;
  somebody = t.somebody;
  none = t.none;
}

-- ---- the locks of a session are given up

-- the session has left the sets of the first n places
abbrev pub HasLeft : List SessionSet → List SessionSet → List ℕ → ℕ → ℕ → Type 0
HasLeft old new places n session = (p s : ℕ) → has (slice_index_or new p empty) s ≡ (not ((session == s) && list_any (nat_eq p) (take n places)) && has (slice_index_or old p empty) s)

pub left_none : (old : List SessionSet) (places : List ℕ) (session : ℕ) → HasLeft old old places 0 session
left_none old places session p s = grind (arith, common_steps, nat_tests)

-- a place that is taken is one of a set that is there
pub is_there : (held : List SessionSet) (places : List ℕ) (room p : ℕ) → list_any (nat_eq p) places ≡ true → AreTaken held places room → p < length held
is_there held places room p here t = elim (cases_lt p (length held)) [
  | inl lt ↦ lt
  | inr ge ↦ absurd (
      let beyond : slice_index_or held p empty ≡ empty = grind (arith, common_steps, elements) in
      let gone : is_empty_at held p ≡ true = ap (λ (z : SessionSet). nobody (λ s. has z s)) beyond ∙ nobody_none (λ s. has empty s) no_bit in
      let some = t.somebody p here in cc)
]

-- and so is the one of each place of the list
pub place_there : (old now : List SessionSet) (places : List ℕ) (room n p : ℕ) → n < length places → p ≡ get_or places n p → length now ≡ length old → AreTaken old places room → p < length now
place_there old now places room n p lt is same t =
    let test : nat_eq p (get_or places n p) ≡ true = grind (arith, common_steps, nat_tests) in
    let here : p < length old = is_there old places room p (list_any_at (nat_eq p) places n p lt test) t in
    omega (arith, here, same)

-- one place more
pub left_more : (old now new : List SessionSet) (set : SessionSet) (places : List ℕ) (n p session : ℕ) → n < length places → p ≡ get_or places n p → p < length now → new ≡ slice_set now p set
    → ((s : ℕ) → has set s ≡ (not (s == session) && has (slice_index_or now p empty) s)) → HasLeft old now places n session → HasLeft old new places (n + 1) session
left_more old now new set places n p session lt is there done gone left q s =
    let told = left q s in
    let test : list_any (nat_eq q) (take (n + 1) places) ≡ (list_any (nat_eq q) (take n places) || nat_eq q p) = tests in
    elim (cases_eq q p) [
      | inl same ↦
          let here : slice_index_or new q empty ≡ set = grind (arith, common_steps, elements) in
          let g = gone s in
          grind (arith, common_steps, nat_tests, told, test, g, here)
      | inr other ↦
          let there_is : slice_index_or new q empty ≡ slice_index_or now q empty = grind (arith, common_steps, elements) in
          grind (arith, common_steps, nat_tests, told, test, there_is)
    ]
  where
    tests : list_any (nat_eq q) (take (n + 1) places) ≡ (list_any (nat_eq q) (take n places) || nat_eq q p)
    tests =
        let more : take (n + 1) places ≡ take n places ++ p ∷ [] = rw add-one (take-suc places n p lt ∙ ap (λ x. take n places ++ x ∷ []) (sym is)) in
        rw more (listed_more (take n places) p q)

-- after the last place the session is in no set
pub left_all : (old new : List SessionSet) (places : List ℕ) (room session n : ℕ) → session < 128 → length places ≤ n → HasLeft old new places n session → AreTaken old places room
    → (p s : ℕ) → has (slice_index_or new p empty) s ≡ (not (session == s) && has (slice_index_or old p empty) s)
left_all old new places room session n low all left t p s =
    let told : has (slice_index_or new p empty) s ≡ (not ((session == s) && list_any (nat_eq p) places) && has (slice_index_or old p empty) s) = rw (take_all n places all) at (left p s) in
    told ∙ elim (cases_Bool (list_any (nat_eq p) places)) [
      | inl here ↦ grind (arith, common_steps, nat_tests, here)
      | inr gone ↦ elim (cases_lt s 128) [
        | inl lt ↦ let no = nobody_is (λ x. has (slice_index_or old p empty) x) s lt (t.none p gone) in grind (arith, common_steps, nat_tests, no)
        | inr ge ↦ grind (arith, common_steps, nat_tests, gone)
      ]
    ]

-- the places at which somebody is left
pub left_taken : (old new : List SessionSet) (places kept : List ℕ) (room session : ℕ) → ((p s : ℕ) → has (slice_index_or new p empty) s ≡ (not (session == s) && has (slice_index_or old p empty) s))
    → kept ≡ filter (λ p. not (is_empty_at new p)) places → AreTaken old places room → AreTaken new kept room
left_taken old new places kept room session left is t = rw is (record {
  apart = AllPairs-filter (λ p q. p ≢ q) (λ p. not (is_empty_at new p)) places t.apart;
  below = λ p here. t.below p (grind (arith, common_steps, nat_tests, among p));
  somebody = λ p here. grind (arith, common_steps, nat_tests, among p);
  none = λ p gone. elim (cases_Bool (list_any (nat_eq p) places)) [
    | inl listed ↦ grind (arith, common_steps, nat_tests, among p)
    | inr not_listed ↦ nobody_same (λ s. has (slice_index_or new p empty) s) (λ s. has (slice_index_or old p empty) s) (λ s lt here. grind (arith, common_steps, nat_tests, left p s)) (t.none p not_listed)
  ];
})
  where
    among : (p : ℕ) → list_any (nat_eq p) (filter (λ q. not (is_empty_at new q)) places) ≡ (not (is_empty_at new p) && list_any (nat_eq p) places)
    among p = any-filter_same (nat_eq p) (λ q. not (is_empty_at new q)) (not (is_empty_at new p)) (λ q same. let e : p ≡ q = grind (arith, common_steps, nat_tests) in rw e refl) places
