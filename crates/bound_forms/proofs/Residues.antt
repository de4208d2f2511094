-- Numbers that leave given remainders, and the walk over a key that is hashed.
use Rattle.std.proofs.Common.{◌≡◌, ◌&&◌, ◌||◌, ◌%◌, ◌==◌, Bool, true, false, ℕ, ◌+◌, ◌<◌, ◌≤◌, List, Some, None, length, get_or, drop, slice_get, refl, sym, ap, ◌∙◌, eq-eqb, add-one}
use Rattle.std.proofs.lemmas.Bool.{eqb-true}
use Rattle.std.proofs.lemmas.Nat.Gcd.{dvd_of_mod-eq-zero}
use Rattle.std.proofs.Math.Nat.{mod-mod_of_dvd, mod-mod, mod-eq_of_lt, mod_self}
use Rattle.std.proofs.Math.Seq.{drop-cons}
use Rattle.std.proofs.lemmas.List.{drop_all}
use Rattle.std.proofs.lemmas.Option.{slice_get_within, get_or_from_slice_get}
use Rattle.pg_values.specs.declared.value.Value.{Value}
use Rattle.pg_values.specs.Hash.{key_hash_from, next_hash}
use Rattle.bound_forms.specs.declared.partition_bound.Bound.TheVariants.{Hash}
use Rattle.bound_forms.specs.declared.partition_bound.Bound.{Bound}
use Rattle.bound_forms.specs.Moduli.{divides, meets, moduli_suit, modulus_of, bad_modulus}
use Rattle.bound_forms.specs.Bounds.{overlaps}
use Rattle.bound_forms.specs.Laws.{OverlapIsSharedResidue}

-- a remainder of a remainder, for a factor
pub rest_of_rest : (m n h : ℕ) → divides m n ≡ true → h % n % m ≡ h % m
rest_of_rest m n h d = mod-mod_of_dvd m h (dvd_of_mod-eq-zero m (eqb-true (n % m) 0 d))

-- the remainders that one number leaves agree
common_meets : (m r n s h : ℕ) → divides m n ≡ true → h % m ≡ r → h % n ≡ s → meets m r n s ≡ true
common_meets m r n s h d a b =
    let agree : s % m ≡ r % m = ap (λ k. k % m) (sym b) ∙ rest_of_rest m n h d ∙ sym (mod-mod h m) ∙ ap (λ k. k % m) a in
    let same : s % m == r % m ≡ true = eq-eqb (s % m) (r % m) agree in
    rw (d, same) refl

or_right : (s : Bool) → s || true ≡ true
or_right true = refl
or_right false = refl

common_overlap : (m r n s h : ℕ) → divides m n || divides n m ≡ true → h % m ≡ r → h % n ≡ s → meets m r n s || meets n s m r ≡ true
common_overlap m r n s h suit a b = by (divides m n) refl (divides n m) refl suit
  where
    by : (x : Bool) → divides m n ≡ x → (y : Bool) → divides n m ≡ y → x || y ≡ true → meets m r n s || meets n s m r ≡ true
    by true d y e f = rw (common_meets m r n s h d a b) refl
    by false d true e f = ap (λ t. meets m r n s || t) (common_meets n s m r h e b a) ∙ or_right (meets m r n s)
    by false d false e f = cc

pub no_common_residue : (m r n s h : ℕ) → divides m n || divides n m ≡ true → meets m r n s || meets n s m r ≡ false → h % m == r ≡ true → h % n == s ≡ false
no_common_residue m r n s h suit apart a = by (h % n == s) refl
  where
    by : (t : Bool) → h % n == s ≡ t → t ≡ false
    by false e = refl
    by true e = sym (common_overlap m r n s h suit (eqb-true (h % m) r a) (eqb-true (h % n) s e)) ∙ apart

-- the remainder of the greater modulus leaves both
met_residue : (m r n s : ℕ) → meets m r n s ≡ true → r < m → s < n → (h : ℕ) × (h % m ≡ r) × (h % n ≡ s)
met_residue m r n s e a b = (s, eqb-true (s % m) (r % m) (second (divides m n) (s % m == r % m) e) ∙ mod-eq_of_lt a, mod-eq_of_lt b)
  where
    second : (x y : Bool) → x && y ≡ true → y ≡ true
    second true y h = h
    second false y h = cc

pub shared_residue : OverlapIsSharedResidue
shared_residue m r n s suit a b = (forth, λ (h, c, d). common_overlap m r n s h suit c d)
  where
    forth : overlaps (Hash m r) (Hash n s) ≡ true → (h : ℕ) × (h % m ≡ r) × (h % n ≡ s)
    forth e = by (meets m r n s) refl e
      where
        by : (t : Bool) → meets m r n s ≡ t → t || meets n s m r ≡ true → (h : ℕ) × (h % m ≡ r) × (h % n ≡ s)
        by true f g = met_residue m r n s f a b
        by false f g = let met = met_residue n s m r g b a in (met.0, met.2, met.1)

-- two equal moduli and remainders agree
pub meets_self : (m r : ℕ) → meets m r m r ≡ true
meets_self m r =
    let d : m % m == 0 ≡ true = eq-eqb (m % m) 0 (mod_self m) in
    let same : r % m == r % m ≡ true = eq-eqb (r % m) (r % m) refl in
    rw (d, same) refl

-- one value of the key more
pub hash_step : (key : List Value) (acc i : ℕ) (v : Value) → slice_get key i ≡ Some v → key_hash_from acc (drop i key) ≡ key_hash_from (next_hash acc v) (drop (i + 1) key)
hash_step key acc i v at_v = rw (drop-cons key i v (slice_get_within key i v at_v), get_or_from_slice_get key i v v at_v, add-one) refl

-- a bound whose modulus does not suit is the first
pub bad_found : (b a : Bound) (bounds : List Bound) (i : ℕ) → i < length bounds → a ≡ get_or bounds i a → moduli_suit a b ≡ false → modulus_of a ≡ bad_modulus b (drop i bounds)
bad_found b a bounds i h is bad = rw (drop-cons bounds i a h, ← is, bad) refl

-- at one that suits the rest decides
pub bad_passed : (b a : Bound) (bounds : List Bound) (i : ℕ) → i < length bounds → a ≡ get_or bounds i a → moduli_suit a b ≡ true → bad_modulus b (drop i bounds) ≡ bad_modulus b (drop (i + 1) bounds)
bad_passed b a bounds i h is suits = rw (drop-cons bounds i a h, ← is, suits, add-one) refl

pub bad_none : (b : Bound) (bounds : List Bound) (i : ℕ) → length bounds ≤ i → None ≡ bad_modulus b (drop i bounds)
bad_none b bounds i h = rw (drop_all i bounds h) refl
