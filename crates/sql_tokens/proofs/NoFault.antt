-- No word has the kind of a fault.
use Rattle.std.proofs.Common.{◌≡◌, ℕ, Bool, true, false, not, ◌&&◌, cond, ◌==◌, List, [], ◌∷◌, length, refl}
use Rattle.std.specs.Str.{str_eq_ignore_ascii_case}
use Rattle.sql_tokens.specs.declared.kind.TokenKind.{TokenKind}
use Rattle.sql_tokens.specs.declared.kind.TokenKind.TheVariants.{Fault}
use Rattle.sql_tokens.specs.Words.{is, look_up, word_kind, words_of, two, three, four, five, six, seven, eight, nine, ten, eleven, twelve}

abbrev without_fault : List (List ℕ × TokenKind) → Bool
without_fault [] = true
without_fault (w ∷ ws) = not (is w.1 Fault) && without_fault ws

pick : (f : Bool) (k j : TokenKind) → is k Fault ≡ false → is j Fault ≡ false → is (cond f k j) Fault ≡ false
pick true k j g h = g
pick false k j g h = h

first_of_both : (a b : Bool) → (not a && b) ≡ true → a ≡ false
first_of_both true b h = cc
first_of_both false b h = refl

second_of_both : (a b : Bool) → (not a && b) ≡ true → b ≡ true
second_of_both true b h = cc
second_of_both false b h = h

look_up_sound : (ws : List (List ℕ × TokenKind)) (word : List ℕ) → without_fault ws ≡ true → is (look_up ws word) Fault ≡ false
look_up_sound [] word h = refl
look_up_sound (w ∷ ws) word h =
    pick (str_eq_ignore_ascii_case w.0 word) w.1 (look_up ws word) (first_of_both (is w.1 Fault) (without_fault ws) h) (look_up_sound ws word (second_of_both (is w.1 Fault) (without_fault ws) h))

choose : (b : Bool) (xs ys : List (List ℕ × TokenKind)) → without_fault xs ≡ true → without_fault ys ≡ true → without_fault (cond b xs ys) ≡ true
choose true xs ys h g = h
choose false xs ys h g = g

no_fault_of : (n : ℕ) → without_fault (words_of n) ≡ true
no_fault_of n =
    choose (n == 2) two _ refl
    (choose (n == 3) three _ refl
    (choose (n == 4) four _ refl
    (choose (n == 5) five _ refl
    (choose (n == 6) six _ refl
    (choose (n == 7) seven _ refl
    (choose (n == 8) eight _ refl
    (choose (n == 9) nine _ refl
    (choose (n == 10) ten _ refl
    (choose (n == 11) eleven _ refl
    (choose (n == 12) twelve _ refl refl))))))))))

pub word_kind_sound : (word : List ℕ) → is (word_kind word) Fault ≡ false
unfolding word_kind
word_kind_sound word = look_up_sound (words_of (length word)) word (no_fault_of (length word))
