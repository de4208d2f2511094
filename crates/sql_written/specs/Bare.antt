-- Where a name need not stand in quotes: a token without quotes says it (4.1.1 Identifiers and Key Words).
use Rattle.std.specs.Prelude.{◌≡◌, ℕ, true, false, List, [], ◌∷◌, Contains}
use Rattle.grammar.specs.Reading.{Rule}
use Rattle.sql_tokens.specs.Tokens.{tokens_of}
use Rattle.sql_tokens.specs.declared.kind.TokenKind.TheVariants.{QuotedName}
use Rattle.sql_tokens.specs.declared.token.Token.{Token}
use Rattle.sql_tokens.specs.Classes.{a, a_name}
use Rattle.sql_written.specs.Marks.{Mark, mark}

-- a name of the text, without quotes
abbrev pub IsBare : List ℕ → Token → Type 0
IsBare text t = Contains (tokens_of text) t × (a_name t ≡ true) × (a QuotedName t ≡ false)

-- a name that such a token says at a place, by the rule of the place, is written there as that token
abbrev pub BareWhereItMay : {A : Type 0} → (List ℕ → Rule Token A) → (List ℕ → A) → (List ℕ → Mark) → Type 0
BareWhereItMay rule said written = (text name : List ℕ) (t : Token) → IsBare text t → (rule text).texts (t ∷ []) (said name) → written name ≡ mark t.kind name
