-- One step of the loop over the pieces of a text.
use Rattle.std.proofs.Common.{◌≡◌, ℕ, zero, suc, ◌+◌, ◌<◌, List, [], ◌∷◌, ◌++◌, length, drop, Some, None, refl, sym, ap, ◌∙◌, append_assoc, append-nil, arith}
use Rattle.sql_tokens.specs.declared.token.Token.{Token}
use Rattle.sql_tokens.specs.Pieces.{next_piece}
use Rattle.sql_tokens.specs.Tokens.{told, taken, behind, tokens_by}

pub step : (n m at : ℕ) (z : List ℕ) → n ≡ suc m → 0 < length z → tokens_by n at z ≡ told at (next_piece z) ++ behind (tokens_by m) at z (taken (next_piece z))
unfolding tokens_by
step n m at [] e h = absurd (omega arith)
step n m at (b ∷ z) e h = rw e refl

pub reads_on : (n m at k : ℕ) (z : List ℕ) (before now : List Token) → n ≡ suc m → 0 < length z → Some k ≡ taken (next_piece z) → now ≡ before ++ told at (next_piece z)
    → now ++ tokens_by m (at + k) (drop k z) ≡ before ++ tokens_by n at z
reads_on n m at k z before now e h t p =
    rw p (append_assoc before (told at (next_piece z)) (tokens_by m (at + k) (drop k z))
    ∙ ap (λ x. before ++ x) (ap (λ o. told at (next_piece z) ++ behind (tokens_by m) at z o) t ∙ sym (step n m at z e h)))

pub stops : (n m at : ℕ) (z : List ℕ) (before now : List Token) → n ≡ suc m → 0 < length z → None ≡ taken (next_piece z) → now ≡ before ++ told at (next_piece z)
    → now ≡ before ++ tokens_by n at z
stops n m at z before now e h t p =
    p ∙ ap (λ x. before ++ x) (sym (append-nil (told at (next_piece z))) ∙ (ap (λ o. told at (next_piece z) ++ behind (tokens_by m) at z o) t ∙ sym (step n m at z e h)))

pub none_left : (n at : ℕ) (z : List ℕ) → length z ≡ 0 → tokens_by n at z ≡ []
unfolding tokens_by
none_left zero at z h = refl
none_left (suc n) at [] h = refl
none_left (suc n) at (b ∷ z) h = absurd (omega arith)

pub no_count : (n at : ℕ) (z : List ℕ) → n ≡ 0 → tokens_by n at z ≡ []
unfolding tokens_by
no_count n at z h = rw h refl

pub ended : (x : List Token) (before all : List Token) → before ++ x ≡ all → x ≡ [] → before ≡ all
ended x before all e h = sym (append-nil before) ∙ (ap (λ y. before ++ y) (sym h) ∙ e)
