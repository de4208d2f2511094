-- Classes of tokens, by their kind (4.1 Lexical Structure).
use Rattle.std.specs.Prelude.{Bool}
use Rattle.sql_tokens.specs.Words.{is, is_name}
use Rattle.sql_tokens.specs.declared.kind.TokenKind.{TokenKind}
use Rattle.sql_tokens.specs.declared.token.Token.{Token}

-- a word or a sign
abbrev pub a : TokenKind → Token → Bool
a k t = is t.kind k

-- a name, a quoted name, or a word that is not reserved
abbrev pub a_name : Token → Bool
a_name t = is_name t.kind
