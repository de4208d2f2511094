-- The items of a SELECT (VI. SELECT, SELECT List). Without AS every word that may be a name is an alias, and BETWEEN is such
-- a word: behind an expression it is an operator if an operand follows, and else an alias.
use Rattle.std.specs.Prelude.{ℕ, Bool, false, ◌-◌, ◌&&◌, ◌||◌, not, if◌then◌else◌, List, [], ◌∷◌, length, take, drop, Option, Some, None, Ok, Err}
use Rattle.grammar.specs.Reading.{Class, Reading, Rule, Stop, syntax_at, limit_at, one, both_texts, as_value, either, either_texts, optional, begins_in, given, ◌>>=◌}
use Rattle.sql_tokens.specs.Contents.{name_in}
use Rattle.sql_tokens.specs.declared.kind.TokenKind.TheVariants as word
use Rattle.sql_tokens.specs.declared.token.Token.{Token}
use Rattle.sql_expressions.specs.Grammar.{expression}
use Rattle.sql_expressions.specs.Levels.{begins_nested}
use Rattle.sql_ast.specs.Expressions.{Tree}
use Rattle.sql_ast.specs.Queries.{Output, Item, all_columns, columns_of, one_column}
use Rattle.grammar.specs.Words.{◌>>◌, ◌<<◌}
use Rattle.sql_tokens.specs.Classes.{a, a_name}
use Rattle.sql_expressions.specs.Words.{a_literal, is_long_name}
use Rattle.sql_expressions.specs.Lists.{plain_name, name_but}

-- [ [ "AS" ] name ], where no word BETWEEN is too long
abbrev pub maybe_alias : List ℕ → Rule Token (Option (List ℕ))
maybe_alias text = either (a word.As) (as_value Some (a word.As >> plain_name text)) (optional a_name (name_but text word.Between))

-- what an operand of BETWEEN begins with
abbrev pub begins_operand : Class Token
begins_operand t = begins_nested t || (a_name t || a_literal t)

-- The reader of an expression may stop at a word BETWEEN, or directly behind it. Then the tokens before the word may be an
-- expression, and the word its alias.
abbrev pub left_of : Stop → ℕ
left_of (syntax_at n) = n
left_of (limit_at n) = n

-- the same, with n tokens left
abbrev pub stop_at : Stop → ℕ → Stop
stop_at (syntax_at m) n = syntax_at n
stop_at (limit_at m) n = limit_at n

-- an expression that is whole, the word behind it, and what is left
abbrev pub ended : Token → List Token → Reading Token Tree → Option ((Tree × Token) × List Token)
ended t rest (Ok (e, [])) = Some ((e, t), rest)
ended t rest (Ok (e, u ∷ us)) = None
ended t rest (Err stop) = None

abbrev pub ended_by : List ℕ → List Token → List Token → Option ((Tree × Token) × List Token)
ended_by text front [] = None
ended_by text front (t ∷ rest) = if a word.Between t then ended t rest ((expression text).read front) else None

abbrev pub ended_at : List ℕ → ℕ → List Token → Option ((Tree × Token) × List Token)
ended_at text n ts = ended_by text (take n ts) (drop n ts)

-- where the word may stand, if the reader stopped behind n tokens
abbrev pub place_of_word : ℕ → List Token → ℕ
place_of_word n ts = if begins_in (a word.Between) (drop n ts) then n else n - 1

abbrev pub before_word : List ℕ → Stop → Option ((Tree × Token) × List Token) → Reading Token Output
before_word text stop None = Err stop
before_word text stop (Some ((e, t), rest)) = if begins_in begins_operand rest then Err (stop_at stop (length rest)) else given (e, Some (name_in text t)) rest

abbrev pub behind_output : List ℕ → List Token → Reading Token Tree → Reading Token Output
behind_output text ts (Ok (e, rest)) = (maybe_alias text).read rest >>= λ n. given (e, n.0) n.1
behind_output text ts (Err stop) = before_word text stop (ended_at text (place_of_word (length ts - left_of stop) ts) ts)

-- expr [ [ "AS" ] name ]
abbrev pub output : List ℕ → Rule Token Output
output text = record {
  texts = both_texts (expression text).texts (maybe_alias text).texts;
  free = both_texts (expression text).free (maybe_alias text).free;
  read = λ ts. behind_output text ts ((expression text).read ts);
}

-- name "." "*"
abbrev pub starred : List ℕ → Rule Token Item
starred text = as_value columns_of ((plain_name text << a word.Dot) << a word.Star)

-- the three tokens come, and the name is not too long
abbrev pub is_starred : List ℕ → List Token → Bool
is_starred text [] = false
is_starred text (n ∷ []) = false
is_starred text (n ∷ d ∷ []) = false
is_starred text (n ∷ d ∷ s ∷ ts) = (a_name n && not (is_long_name text n)) && (a word.Dot d && a word.Star s)

abbrev pub starred_or_output : List ℕ → Rule Token Item
starred_or_output text = let p = starred text in let q = as_value one_column (output text) in record {
  texts = either_texts p.texts q.texts;
  free = either_texts p.free q.free;
  read = λ ts. if is_starred text ts then p.read ts else q.read ts;
}

-- item = "*" | name "." "*" | expr [ [ "AS" ] name ]
abbrev pub all_of_them : Token → Item
all_of_them t = all_columns

abbrev pub item : List ℕ → Rule Token Item
item text = either (a word.Star) (as_value all_of_them (one (a word.Star))) (starred_or_output text)
