-- Where a text of tokens is refused.
use Rattle.std.specs.Prelude.{◌≡◌, ℕ, ◌-◌, List, length, Option, slice_get}
use Rattle.grammar.specs.Parses.{FailsAt}
use Rattle.grammar.specs.Reading.{Rule}
use Rattle.grammar.specs.declared.refused.Refused.{Refused}
use Rattle.grammar.specs.declared.refused.Refused.TheVariants as refused

-- the token from which on so many are left, or none at the end
abbrev pub token_at : {T : Type 0} → List T → ℕ → Option T
token_at tokens left = slice_get tokens (length tokens - left)

-- Up to this token, or the end, the tokens begin a text of the rule; with it, or as the whole, none within the limits.
abbrev pub StopsAt : {T A : Type 0} → Rule T A → List T → Option T → Type 0
StopsAt p tokens o = (left : ℕ) × FailsAt p.texts p.texts tokens left × (o ≡ token_at tokens left)

-- the same of a refusal, which counts the tokens that are left
abbrev pub StopsWith : {T A : Type 0} → Rule T A → List T → Refused → Type 0
StopsWith p tokens refused.NoMemory = Unit {0}
StopsWith p tokens (refused.Syntax left) = StopsAt p tokens (token_at tokens left)
StopsWith p tokens (refused.Limit left) = StopsAt p tokens (token_at tokens left)
