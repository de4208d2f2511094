-- Texts that stay UTF-8: with other ASCII in place of some, and between quotes or out of them.
use Rattle.std.proofs.Common.{cond, eqb-true, ◌≡◌, ℕ, ◌+◌, ◌<◌, Bool, true, false, ◌==◌, List, [], ◌∷◌, ◌++◌, map, length, get_or, refl, sym, subst, arith, append_assoc, length-append}
use Rattle.std.proofs.Math.Seq.{drop-append-add, get_or-append_seam, take-append_seam}
use Rattle.std.proofs.lemmas.Str.{IsCharBoundary-after_ascii, IsCharBoundary-before_ascii, IsUtf8-append, IsUtf8-drop, IsUtf8-from_ascii, IsUtf8-from_is_utf8, IsUtf8-nil, IsUtf8-take, is_utf8-from_IsUtf8}
use Rattle.std.proofs.lemmas.Str.Ascii.{IsAscii-cons, IsAscii-nil}
use Rattle.std.specs.Char.{to_ascii_lowercase}
use Rattle.std.specs.Prelude.{nat_lt}
use Rattle.std.specs.Str.{IsUtf8, is_utf8}
use Rattle.sql_tokens.specs.Written.{doubled, quoted}

one_utf8 : (b : ℕ) → b < 128 → IsUtf8 (b ∷ [])
one_utf8 b h = IsUtf8-from_ascii (b ∷ []) (IsAscii-cons b [] h IsAscii-nil)

-- before and behind a byte of ASCII
beside : (x z : List ℕ) (b : ℕ) → b < 128 → IsUtf8 (x ++ b ∷ z) → IsUtf8 x × IsUtf8 z
beside x z b h u =
    let at : get_or (x ++ b ∷ z) (length x) 0 ≡ b = get_or-append_seam x b z 0 in
    let some : length x < length (x ++ b ∷ z) = omega (arith, length-append x (b ∷ z)) in
    let before = IsUtf8-take (x ++ b ∷ z) (length x) u (IsCharBoundary-before_ascii (x ++ b ∷ z) (length x) some (omega arith)) in
    let after = IsUtf8-drop (x ++ b ∷ z) (length x + 1) u (IsCharBoundary-after_ascii (x ++ b ∷ z) (length x) u some (omega arith)) in
    (subst IsUtf8 (take-append_seam x (b ∷ z)) before, subst IsUtf8 (drop-append-add x (b ∷ z) 1) after)

around : (x z : List ℕ) (b : ℕ) → b < 128 → IsUtf8 x → IsUtf8 z → IsUtf8 (x ++ b ∷ z)
around x z b h u v = IsUtf8-append x (b ∷ z) u (IsUtf8-append (b ∷ []) z (one_utf8 b h) v)

-- small letters
lower_step : (x z : List ℕ) (b : ℕ) (f : Bool) → nat_lt b 128 ≡ f → IsUtf8 (x ++ b ∷ z) → IsUtf8 ((x ++ to_ascii_lowercase b ∷ []) ++ z)
lower_step x z b true h u =
    let low : b < 128 = grind (arith, h) in
    let lower : to_ascii_lowercase b < 128 = grind (arith, low) in
    let p = beside x z b low u in
    subst IsUtf8 (sym (append_assoc x (to_ascii_lowercase b ∷ []) z)) (around x z (to_ascii_lowercase b) lower p.0 p.1)
lower_step x z b false h u =
    let same : to_ascii_lowercase b ≡ b = grind (arith, h) in
    subst (λ c. IsUtf8 ((x ++ c ∷ []) ++ z)) (sym same) (subst IsUtf8 (sym (append_assoc x (b ∷ []) z)) u)

lower_behind : (x z : List ℕ) → IsUtf8 (x ++ z) → IsUtf8 (x ++ map to_ascii_lowercase z)
lower_behind x [] u = u
lower_behind x (b ∷ z) u = subst IsUtf8 (append_assoc x (to_ascii_lowercase b ∷ []) (map to_ascii_lowercase z)) (lower_behind (x ++ to_ascii_lowercase b ∷ []) z (lower_step x z b (nat_lt b 128) refl u))

pub lower_utf8 : (z : List ℕ) → is_utf8 z ≡ true → is_utf8 (map to_ascii_lowercase z) ≡ true
lower_utf8 z u = is_utf8-from_IsUtf8 (map to_ascii_lowercase z) (lower_behind [] z (IsUtf8-from_is_utf8 z u))

-- between quotes
behind_one : (x z w : List ℕ) (b q : ℕ) (f : Bool) → (b == q) ≡ f → q < 128 → ((y : List ℕ) → IsUtf8 (y ++ z) → IsUtf8 (y ++ w)) → IsUtf8 (x ++ b ∷ z) → IsUtf8 (x ++ cond f (q ∷ q ∷ w) (b ∷ w))
behind_one x z w b q true e h on u =
    let p = beside x z q h (subst (λ c. IsUtf8 (x ++ c ∷ z)) (eqb-true b q e) u) in
    let two = IsUtf8-append x (q ∷ q ∷ []) p.0 (around (q ∷ []) [] q h (one_utf8 q h) IsUtf8-nil) in
    subst IsUtf8 (append_assoc x (q ∷ q ∷ []) w) (on (x ++ q ∷ q ∷ []) (IsUtf8-append (x ++ q ∷ q ∷ []) z two p.1))
behind_one x z w b q false e h on u = subst IsUtf8 (append_assoc x (b ∷ []) w) (on (x ++ b ∷ []) (subst IsUtf8 (sym (append_assoc x (b ∷ []) z)) u))

doubled_behind : (q : ℕ) → q < 128 → (x z : List ℕ) → IsUtf8 (x ++ z) → IsUtf8 (x ++ doubled q z)
doubled_behind q h x [] u = u
doubled_behind q h x (b ∷ z) u = behind_one x z (doubled q z) b q (b == q) refl h (λ y v. doubled_behind q h y z v) u

before_one : (x z w : List ℕ) (b q : ℕ) (f : Bool) → (b == q) ≡ f → q < 128 → ((y : List ℕ) → IsUtf8 (y ++ w) → IsUtf8 (y ++ z)) → IsUtf8 (x ++ cond f (q ∷ q ∷ w) (b ∷ w)) → IsUtf8 (x ++ b ∷ z)
before_one x z w b q true e h on u =
    let p = beside x (q ∷ w) q h u in
    let r = beside [] w q h p.1 in
    let v = on (x ++ q ∷ []) (IsUtf8-append (x ++ q ∷ []) w (IsUtf8-append x (q ∷ []) p.0 (one_utf8 q h)) r.1) in
    subst (λ c. IsUtf8 (x ++ c ∷ z)) (sym (eqb-true b q e)) (subst IsUtf8 (append_assoc x (q ∷ []) z) v)
before_one x z w b q false e h on u = subst IsUtf8 (append_assoc x (b ∷ []) z) (on (x ++ b ∷ []) (subst IsUtf8 (sym (append_assoc x (b ∷ []) w)) u))

undoubled_behind : (q : ℕ) → q < 128 → (x z : List ℕ) → IsUtf8 (x ++ doubled q z) → IsUtf8 (x ++ z)
undoubled_behind q h x [] u = u
undoubled_behind q h x (b ∷ z) u = before_one x z (doubled q z) b q (b == q) refl h (λ y v. undoubled_behind q h y z v) u

pub quoted_utf8 : (q : ℕ) (z : List ℕ) → q < 128 → is_utf8 z ≡ true → is_utf8 (quoted q z) ≡ true
quoted_utf8 q z h u =
    let d = doubled_behind q h [] z (IsUtf8-from_is_utf8 z u) in
    is_utf8-from_IsUtf8 (quoted q z) (around [] (doubled q z ++ q ∷ []) q h IsUtf8-nil (around (doubled q z) [] q h d IsUtf8-nil))

pub inside_utf8 : (q : ℕ) (z : List ℕ) → q < 128 → is_utf8 (quoted q z) ≡ true → is_utf8 z ≡ true
inside_utf8 q z h u =
    let v = (beside [] (doubled q z ++ q ∷ []) q h (IsUtf8-from_is_utf8 (quoted q z) u)).1 in
    is_utf8-from_IsUtf8 z (undoubled_behind q h [] z (beside (doubled q z) [] q h v).0)
