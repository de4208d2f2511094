-- Where the tokens of a text stand.
use Rattle.std.proofs.Common.{◌≡◌, ℕ, ◌+◌, ◌<◌, ◌≤◌, false, List, [], ◌∷◌, ◌++◌, length, Some, None, inl, inr, sym, subst, append-nil, ◌∙◌, arith}
use Rattle.sql_tokens.specs.declared.kind.TokenKind.TheVariants.{Fault}
use Rattle.sql_tokens.specs.declared.piece.Piece.{Piece}
use Rattle.sql_tokens.specs.declared.piece.Piece.TheVariants.{Gap, Lexeme, Broken}
use Rattle.sql_tokens.specs.declared.token.Token.{Token}
use Rattle.sql_tokens.specs.Pieces.{IsWithin}
use Rattle.sql_tokens.specs.Tokens.{told, taken, InOrder, ArePlaced}
use Rattle.sql_tokens.specs.Words.{is}

order_longer : (from m n : ℕ) (ts : List Token) → InOrder from m ts → m ≤ n → InOrder from n ts
order_longer from m n [] h g = omega arith
order_longer from m n (t ∷ ts) h g = (h.0, h.1, h.2, order_longer t.end m n ts h.3 g)

order_snoc : (from m : ℕ) (ts : List Token) (t : Token) → InOrder from m ts → m ≤ t.start → t.start < t.end → is t.kind Fault ≡ false → InOrder from t.end (ts ++ t ∷ [])
order_snoc from m [] t h g l k = (omega arith, l, k, omega arith)
order_snoc from m (u ∷ ts) t h g l k = (h.0, h.1, h.2, order_snoc u.end m ts t h.3 g l k)

pub order_on : (at n : ℕ) (z : List ℕ) (p : Piece) (before now : List Token) → IsWithin z p → Some n ≡ taken p → now ≡ before ++ told at p → InOrder 0 at before → InOrder 0 (at + n) now
order_on at n z (Gap m) before now w t e h =
    let q : n ≡ m = cc in
    subst (InOrder 0 (at + n)) (sym (append-nil before) ∙ sym e) (order_longer 0 at (at + n) before h (omega arith))
order_on at n z (Lexeme k m) before now w t e h =
    let q : m ≡ n = cc in
    subst (InOrder 0 (at + n)) (sym e) (subst (λ j. InOrder 0 (at + j) (before ++ told at (Lexeme k m))) q (order_snoc 0 at before (record { kind = k; start = at; end = at + m }) h (omega arith) (omega arith) w.2))
order_on at n z Broken before now w t e h = cc

pub within_taken : (n : ℕ) (z : List ℕ) (p : Piece) → IsWithin z p → Some n ≡ taken p → (0 < n) × (n ≤ length z)
within_taken n z (Gap m) w t = let q : n ≡ m = cc in (omega arith, omega arith)
within_taken n z (Lexeme k m) w t = let q : n ≡ m = cc in (omega arith, omega arith)
within_taken n z Broken w t = cc

pub placed_end : (at end : ℕ) (ts : List Token) → InOrder 0 at ts → at ≤ end → ArePlaced end ts
placed_end at end ts h g = inl (order_longer 0 at end ts h g)

pub placed_fault : (at end : ℕ) (p : Piece) (before now : List Token) → None ≡ taken p → now ≡ before ++ told at p → InOrder 0 at before → at < end → ArePlaced end now
placed_fault at end (Gap m) before now t e h g = cc
placed_fault at end (Lexeme k m) before now t e h g = cc
placed_fault at end Broken before now t e h g = inr (before, at, e, h, g)
