-- One piece more of a text.
use Rattle.std.proofs.Common.{◌≡◌, ◌<◌, ◌≤◌, ℕ, zero, suc, ◌+◌, ◌-◌, List, [], ◌∷◌, ◌++◌, length, take, drop, refl, sym, ap, ◌∙◌, arith, append_assoc}
use Rattle.std.proofs.Common.{Bool, true, false, Some, filter}
use Rattle.std.specs.Str.{IsUtf8, is_utf8}
use Rattle.std.specs.Str.Lossy.{utf8_valid_len}
use Rattle.std.proofs.lemmas.List.{drop_all, append-nil, drop-drop, length-drop, take_all}
use Rattle.std.proofs.lemmas.Str.{is_utf8-from_IsUtf8, IsUtf8-from_is_utf8}
use Rattle.spec_reader.specs.declared.kind.ScriptTokenKind.TheVariants as kinds
use Rattle.spec_reader.specs.declared.piece.Piece.{Piece}
use Rattle.spec_reader.specs.declared.token.Token.{Token}
use Rattle.spec_reader.specs.Pieces.{piece_of}
use Rattle.spec_reader.specs.Tokens.{ends_by, noted, tokens_from, tokens_of}

pub tokens_end : (at : ℕ) → tokens_from 0 at [] ≡ []
unfolding tokens_from
tokens_end at = refl

-- behind a piece
tokens_skip : (n at : ℕ) (text : List ℕ) → tokens_from n at text ≡ tokens_from 0 (at + n) (drop n text)
unfolding tokens_from
tokens_skip zero at text = let e : at ≡ at + 0 = omega arith in ap (λ (x : ℕ). tokens_from 0 x text) e
tokens_skip (suc n) at [] = refl
tokens_skip (suc n) at (b ∷ rest) =
    let e : at + 1 + n ≡ at + suc n = omega arith in
    tokens_skip n (at + 1) rest ∙ ap (λ (x : ℕ). tokens_from 0 x (drop n rest)) e

piece_first : (at b : ℕ) (rest : List ℕ) (p : Piece) → piece_of (b ∷ rest) ≡ p → tokens_from 0 at (b ∷ rest) ≡ noted p.kind at (at + p.len) ++ tokens_from (p.len - 1) (at + 1) rest
unfolding tokens_from
piece_first at b rest p e = ap (λ (q : Piece). noted q.kind at (at + q.len) ++ tokens_from (q.len - 1) (at + 1) rest) e

drop_more : (n b : ℕ) (rest : List ℕ) → 0 < n → drop (n - 1) rest ≡ drop n (b ∷ rest)
drop_more zero b rest h = absurd (omega arith)
drop_more (suc n) b rest h = let e : suc n - 1 ≡ n = omega arith in ap (λ (x : ℕ). drop x rest) e

-- the tokens of a text are that of the piece at its front, and those behind it
pub piece_step : (at : ℕ) (text : List ℕ) (p : Piece) → piece_of text ≡ p → 0 < length text → 0 < p.len →
    tokens_from 0 at text ≡ noted p.kind at (at + p.len) ++ tokens_from 0 (at + p.len) (drop p.len text)
piece_step at [] p e h k = absurd (omega arith)
piece_step at (b ∷ rest) p e h k =
    let same : at + 1 + (p.len - 1) ≡ at + p.len = omega arith in
    piece_first at b rest p e ∙
    ap (λ (x : List Token). noted p.kind at (at + p.len) ++ x)
    (tokens_skip (p.len - 1) (at + 1) rest ∙ (ap (λ (x : ℕ). tokens_from 0 x (drop (p.len - 1) rest)) same ∙ ap (λ (x : List ℕ). tokens_from 0 (at + p.len) x) (drop_more p.len b rest k)))

pub one_more_piece : (list : List Token) (at : ℕ) (text : List ℕ) (p : Piece) → piece_of (take (length text - at) (drop at text)) ≡ p → at < length text → 0 < p.len →
    (list ++ noted p.kind at (at + p.len)) ++ tokens_from 0 (at + p.len) (drop (at + p.len) text) ≡ list ++ tokens_from 0 at (drop at text)
one_more_piece list at text p e h k =
    let some : 0 < length (drop at text) = omega (arith, length-drop at text) in
    let here : piece_of (drop at text) ≡ p = ap (λ (x : List ℕ). piece_of x) (sym (take_all (length text - at) (drop at text) (omega (arith, length-drop at text)))) ∙ e in
    append_assoc list (noted p.kind at (at + p.len)) (tokens_from 0 (at + p.len) (drop (at + p.len) text)) ∙
    ap (λ (x : List Token). list ++ x)
    (ap (λ (x : List ℕ). noted p.kind at (at + p.len) ++ tokens_from 0 (at + p.len) x) (sym (drop-drop p.len at text)) ∙ sym (piece_step at (drop at text) p here some k))

pub no_more_pieces : (list : List Token) (at : ℕ) (text : List ℕ) → length text ≤ at → list ++ tokens_from 0 at (drop at text) ≡ list
no_more_pieces list at text h =
    ap (λ (x : List ℕ). list ++ tokens_from 0 at x) (drop_all at text h) ∙ (ap (λ (x : List Token). list ++ x) (tokens_end at) ∙ append-nil list)

-- texts that are UTF-8, and others
pub tokens_of_utf8 : (text : List ℕ) → IsUtf8 text → tokens_from 0 0 text ≡ tokens_of text
tokens_of_utf8 text h = rw (is_utf8-from_IsUtf8 text h) refl

not_utf8 : (text : List ℕ) (b : Bool) → is_utf8 text ≡ b → (IsUtf8 text → ⊥) → is_utf8 text ≡ false
not_utf8 text true e h = absurd (h (IsUtf8-from_is_utf8 text e))
not_utf8 text false e h = e

pub tokens_of_others : (text : List ℕ) → (IsUtf8 text → ⊥) → filter (ends_by (utf8_valid_len text)) (tokens_from 0 0 text) ++ noted (Some kinds.Fault) (utf8_valid_len text) (length text) ≡ tokens_of text
tokens_of_others text h = rw (not_utf8 text (is_utf8 text) refl h) refl
