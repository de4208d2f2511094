-- Moduli that suit.
use Rattle.std.proofs.Common.{◌≡◌, ℕ, ◌||◌, ◌+◌, ◌<◌, ◌≤◌, arith, ap, refl, sym, subst, ◌∙◌, Bool, true, false, if◌then◌else◌, List, [], ◌∷◌, Option, Some, None, drop, get_or, length, map}
use Rattle.std.specs.Prelude.{is_some}
use Rattle.std.specs.List.{All, position}
use Rattle.std.proofs.lemmas.List.Elements.{All-cons, All-head, All-tail, All-nil}
use Rattle.std.proofs.lemmas.List.{get_or-map, length-map}
use Rattle.pg_values.specs.KeyKinds.{IsNotNull}
use Rattle.bound_forms.specs.declared.partition_bound.Bound.{Bound}
use Rattle.bound_forms.specs.declared.partition_bound.Bound.TheVariants.{Range, List as Listed, Hash, Default}
use Rattle.bound_forms.specs.Moduli.{bad_modulus, divides, modulus_of, moduli_suit}
use Rattle.bound_forms.specs.Bounds.{is_filled, overlaps, BoundOfKind, BoundsFit, IsInPlainOrder}
use Rattle.bound_forms.specs.Levels.{IsOfLevel}
use Rattle.bound_forms.proofs.LevelLaws.{level_filled, level_fits}
use Rattle.bound_forms.proofs.OverlapLaws.{overlaps_turned}
use Rattle.history.specs.declared.catalogue.Entry.{Entry}
use Rattle.row_router.specs.Histories.{bound_of}
use Rattle.part_ddl.specs.Placing.{modulus_told, modulus_faults, AreOfOneLevel}
use Rattle.part_ddl.proofs.First.{next_at, past_end}

abbrev pub is_hash : Bound → Bool
is_hash (Hash m r) = true
is_hash _ = false

-- a bound without a modulus suits all
suits_any : (a b : Bound) → is_hash b ≡ false → moduli_suit a b ≡ true
suits_any (Range l u) b plain = refl
suits_any (Listed vs) b plain = refl
suits_any Default b plain = refl
suits_any (Hash m r) (Range l u) plain = refl
suits_any (Hash m r) (Listed vs) plain = refl
suits_any (Hash m r) Default plain = refl
suits_any (Hash m r) (Hash n q) plain = absurd (cc)

pub none_bad : (b : Bound) (bounds : List Bound) → is_hash b ≡ false → bad_modulus b bounds ≡ None
none_bad b [] plain = refl
none_bad b (a ∷ bounds) plain = let suits = suits_any a b plain in rw suits (none_bad b bounds plain)

pub none_told : (b : Bound) (o : Option ℕ) → is_hash b ≡ false → modulus_told b o ≡ []
none_told (Range l u) o plain = refl
none_told (Listed vs) o plain = refl
none_told Default o plain = refl
none_told (Hash m r) o plain = absurd (cc)

told_none : (m r : ℕ) (o : Option ℕ) → modulus_told (Hash m r) o ≡ [] → o ≡ None
told_none m r None e = refl
told_none m r (Some n) e = absurd (cc)

pub bad_none : (b : Bound) (bounds : List Bound) → modulus_faults bounds b ≡ [] → bad_modulus b bounds ≡ None
bad_none (Range l u) bounds e = none_bad (Range l u) bounds refl
bad_none (Listed vs) bounds e = none_bad (Listed vs) bounds refl
bad_none Default bounds e = none_bad Default bounds refl
bad_none (Hash m r) bounds e = told_none m r (bad_modulus (Hash m r) bounds) e

pub plain_of : (b : Bound) → ((m r : ℕ) → b ≡ Hash m r → ⊥) → is_hash b ≡ false
plain_of (Range l u) other = refl
plain_of (Listed vs) other = refl
plain_of Default other = refl
plain_of (Hash m r) other = absurd (other m r refl)

-- ---- of two bounds either is asked

or_turned : (a b : Bool) → a || b ≡ b || a
or_turned true true = refl
or_turned true false = refl
or_turned false true = refl
or_turned false false = refl

suit_turned : (a b : Bound) → moduli_suit a b ≡ moduli_suit b a
suit_turned (Hash m r) (Hash n s) = or_turned (divides m n) (divides n m)
suit_turned (Hash m r) (Range l u) = refl
suit_turned (Hash m r) (Listed vs) = refl
suit_turned (Hash m r) Default = refl
suit_turned (Range l u) (Hash n s) = refl
suit_turned (Listed vs) (Hash n s) = refl
suit_turned Default (Hash n s) = refl
suit_turned (Range l u) (Range m v) = refl
suit_turned (Range l u) (Listed vs) = refl
suit_turned (Range l u) Default = refl
suit_turned (Listed vs) (Range l u) = refl
suit_turned (Listed vs) (Listed ws) = refl
suit_turned (Listed vs) Default = refl
suit_turned Default (Range l u) = refl
suit_turned Default (Listed vs) = refl
suit_turned Default Default = refl

-- a bound that some modulus does not suit has one itself
has_none : (a b : Bound) → modulus_of a ≡ None → moduli_suit a b ≡ true
has_none (Hash m r) b none = absurd (cc)
has_none (Range l u) b none = refl
has_none (Listed vs) b none = refl
has_none Default b none = refl

by_test : (t : Bool) (o : Option ℕ) → (o ≡ None → t ≡ true) → (if t then None else o) ≡ None → t ≡ true
by_test true o none is = refl
by_test false o none is = none is

by_other : (t : Bool) (o : Option ℕ) (n : ℕ) → Some n ≡ (if t then None else o) → t ≡ false
by_other true o n is = absurd (cc)
by_other false o n is = refl

-- the only bound of a set suits the other, or does not
pub suits_one : (a b : Bound) (one : List Bound) (r : Option ℕ) → one ≡ a ∷ [] → r ≡ bad_modulus b one → is_some r ≡ false → moduli_suit b a ≡ true
suits_one a b one None is told none = suit_turned b a ∙ by_test (moduli_suit a b) (modulus_of a) (has_none a b) (sym (ap (bad_modulus b) is) ∙ sym told)
suits_one a b one (Some n) is told none = absurd (cc)

pub suits_not : (a b : Bound) (one : List Bound) (r : Option ℕ) → one ≡ a ∷ [] → r ≡ bad_modulus b one → is_some r ≡ true → moduli_suit b a ≡ false
suits_not a b one None is told some = absurd (cc)
suits_not a b one (Some n) is told some = suit_turned b a ∙ by_other (moduli_suit a b) (modulus_of a) n (told ∙ ap (bad_modulus b) is)

-- ---- the moduli of partitions, in a loop

pub bad_here : {A : Type 0} (b : Bound) (f : A → Entry) (xs : List A) (i : ℕ) (x : A) → i < length xs → x ≡ get_or xs i x → moduli_suit (f x).bound b ≡ false → bad_modulus b (map bound_of (map f (drop i xs))) ≡ modulus_of (f x).bound
bad_here b f xs i x lt is test = ap (λ l. bad_modulus b (map bound_of (map f l))) (next_at xs i x lt is) ∙ rw test refl

pub bad_later : {A : Type 0} (b : Bound) (f : A → Entry) (xs : List A) (i : ℕ) (x : A) → i < length xs → x ≡ get_or xs i x → moduli_suit (f x).bound b ≡ true → bad_modulus b (map bound_of (map f (drop i xs))) ≡ bad_modulus b (map bound_of (map f (drop (i + 1) xs)))
bad_later b f xs i x lt is test = ap (λ l. bad_modulus b (map bound_of (map f l))) (next_at xs i x lt is) ∙ rw test refl

pub bad_nowhere : {A : Type 0} (b : Bound) (f : A → Entry) (xs : List A) (i : ℕ) → length xs ≤ i → bad_modulus b (map bound_of (map f (drop i xs))) ≡ None
bad_nowhere b f xs i le = ap (λ l. bad_modulus b (map bound_of (map f l))) (past_end i xs le)

-- ---- the only bound of a set

pub place_one : (q : Bound → Bool) (b : Bound) (t : Bool) → q b ≡ t → position q (b ∷ []) ≡ (if t then Some 0 else None)
place_one q b true is = rw is refl
place_one q b false is = rw is refl

pub overlaps_one : (a b : Bound) (one : List Bound) (r : Option ℕ) (t : Bool) → one ≡ b ∷ [] → r ≡ position (overlaps a) one → is_some r ≡ t → overlaps b a ≡ t
overlaps_one a b one r t is told test =
    overlaps_turned b a ∙ by_place (overlaps a b) (sym test ∙ ap is_some (told ∙ ap (position (overlaps a)) is ∙ place_one (overlaps a) b (overlaps a b) refl))
  where
    by_place : (u : Bool) → t ≡ is_some {T = ℕ} (if u then Some 0 else None) → u ≡ t
    by_place true h = sym h
    by_place false h = sym h

pub one_of_kind : (b : Bound) (bounds : List Bound) → bounds ≡ b ∷ [] → BoundOfKind IsNotNull b → All (BoundOfKind IsNotNull) bounds
one_of_kind b bounds is kind = subst (All (BoundOfKind IsNotNull)) (sym is) (All-cons (BoundOfKind IsNotNull) b [] kind (All-nil (BoundOfKind IsNotNull)))

pub one_in_order : (b : Bound) (bounds : List Bound) → bounds ≡ b ∷ [] → IsInPlainOrder bounds
one_in_order b bounds is = subst IsInPlainOrder (sym is) (record {
  sorted = λ i j d lt le. absurd (omega (arith, lt, le));
  apart = λ i j d lt le. absurd (omega (arith, lt, le));
  siblings = λ i j d lt le. absurd (omega (arith, lt, le));
})

pub one_fits : (b : Bound) (one : List Bound) (a : Bound) → one ≡ b ∷ [] → BoundsFit b a → All (λ x. BoundsFit x a) one
one_fits b one a is fit = subst (All (λ x. BoundsFit x a)) (sym is) (All-cons (λ x. BoundsFit x a) b [] fit (All-nil (λ x. BoundsFit x a)))

-- ---- bounds of one level

pub all_filled : (b : Bound) (es : List Entry) → AreOfOneLevel b (map bound_of es) → All (λ e. is_filled e.bound ≡ true) es
all_filled b es of i d lt =
    let within : i < length (map bound_of es) = omega (arith, lt, length-map es bound_of) in
    let at : get_or (map bound_of es) i d.bound ≡ (get_or es i d).bound = get_or-map bound_of es i d d.bound lt in
    level_filled of.level (get_or es i d).bound (subst (IsOfLevel of.level) at (of.theirs i d.bound within))

pub all_fit : (b : Bound) (es : List Entry) → AreOfOneLevel b (map bound_of es) → bad_modulus b (map bound_of es) ≡ None → All (λ e. BoundsFit b e.bound) es
all_fit b [] of none = All-nil (λ e. BoundsFit b e.bound)
all_fit b (e ∷ es) of none =
    let suits : moduli_suit e.bound b ≡ true = by_rest (moduli_suit e.bound b) (bad_modulus b (map bound_of es)) (modulus_of e.bound) (has_none e.bound b) none in
    let rest : bad_modulus b (map bound_of es) ≡ None = rw suits at none in
    let others : AreOfOneLevel b (map bound_of es) = record { level = of.level; mine = of.mine; theirs = All-tail (IsOfLevel of.level) e.bound (map bound_of es) of.theirs } in
    All-cons (λ x. BoundsFit b x.bound) e es
    (level_fits of.level b e.bound of.mine (All-head (IsOfLevel of.level) e.bound (map bound_of es) of.theirs) (suit_turned b e.bound ∙ suits))
    (all_fit b es others rest)
  where
    by_rest : (t : Bool) (o n : Option ℕ) → (n ≡ None → t ≡ true) → (if t then o else n) ≡ None → t ≡ true
    by_rest true o n hold is = refl
    by_rest false o n hold is = hold is
