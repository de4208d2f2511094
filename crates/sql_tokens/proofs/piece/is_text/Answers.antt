use Rattle.std.proofs.Common.{◌≡◌, Bool, true, false, refl, sym}
use Rattle.std.proofs.lemmas.Str.{IsUtf8-from_ascii, IsUtf8-from_is_utf8, is_utf8-from_IsUtf8}
use Rattle.sql_tokens.proofs.piece.is_text.Goals as goal

false_unless : (b : Bool) → (b ≡ true → ⊥) → false ≡ b
false_unless true h = absurd (h refl)
false_unless false h = refl

pub returns-then-are_few_ascii : goal.returns-then-are_few_ascii
returns-then-are_few_ascii c = sym (is_utf8-from_IsUtf8 _ (IsUtf8-from_ascii _ (c.are_few_ascii.ensures c.if-are_few_ascii.true)))

pub returns-in-Ok : goal.returns-in-Ok
returns-in-Ok c = sym (is_utf8-from_IsUtf8 _ c.in-Ok.ensures.cases.1)

pub returns-in-Err : goal.returns-in-Err
returns-in-Err c = false_unless _ (λ t. c.in-Err.ensures.cases.0 (IsUtf8-from_is_utf8 _ t))
