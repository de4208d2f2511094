-- How many parentheses a text opens.
use Rattle.std.specs.Prelude.{ℕ, ◌+◌, if◌then◌else◌, List, [], ◌∷◌}
use Rattle.sql_tokens.specs.declared.kind.TokenKind.TheVariants.{OpenParenthesis}
use Rattle.sql_tokens.specs.declared.token.Token.{Token}
use Rattle.sql_tokens.specs.Classes.{a}

abbrev pub opened : List Token → ℕ
opened [] = 0
opened (t ∷ ts) = (if a OpenParenthesis t then 1 else 0) + opened ts
