-- Bounds of partitions (VI. SQL Commands: CREATE TABLE).
use Rattle.std.specs.Prelude.{◌≡◌, ℕ, ◌-◌, if◌then◌else◌, List, [], ◌∷◌, length, take, Ok}
use Rattle.grammar.specs.Reading.{Rule, one, as_value, either, ◌>>=◌}
use Rattle.sql_tokens.specs.declared.kind.TokenKind.TheVariants as word
use Rattle.sql_tokens.specs.declared.token.Token.{Token}
use Rattle.sql_expressions.specs.Grammar.{expression}
use Rattle.sql_ast.specs.Expressions.{Tree, listed as list_of_trees}
use Rattle.grammar.specs.Words.{◌>>◌, ◌<<◌, ◌&◌, means}
use Rattle.sql_tokens.specs.Classes.{a}
use Rattle.sql_expressions.specs.Lists.{in_parentheses, commas, number}
use Rattle.sql_ast.specs.Commands.{Edge, min, max, at, Bound, range, listed, hash, other}

-- edge = "MINVALUE" | "MAXVALUE" | expr, where an edge that is one of these words alone is that word
abbrev pub by_text : {A B : Type 0} → (List Token → A → B) → Rule Token A → Rule Token B
by_text {A} f p = record {
  texts = λ ts b. (x : A) × p.texts ts x × (b ≡ f ts x);
  free = λ ts b. (x : A) × p.free ts x × (b ≡ f ts x);
  read = λ ts. p.read ts >>= λ x. Ok (f (take (length ts - length x.1) ts) x.0, x.1);
}

abbrev pub word_or : Token → Tree → Edge
word_or t e = if a word.Minvalue t then min else (if a word.Maxvalue t then max else at e)

abbrev pub edge_of : List Token → Tree → Edge
edge_of [] e = at e
edge_of (t ∷ []) e = word_or t e
edge_of (t ∷ u ∷ ts) e = at e

abbrev pub edge : List ℕ → Rule Token Edge
edge text = by_text edge_of (expression text)

-- bound = "FOR" "VALUES" "FROM" "(" edge { "," edge } ")" "TO" "(" edge { "," edge } ")"
--       | "FOR" "VALUES" "IN" "(" expr { "," expr } ")"
--       | "FOR" "VALUES" "WITH" "(" "MODULUS" number "," "REMAINDER" number ")"
--       | "DEFAULT"
abbrev pub edges : List ℕ → Rule Token (List Edge)
edges text = in_parentheses (commas (edge text))

abbrev pub range_value : List Edge × List Edge → Bound
range_value x = range x.0 x.1

abbrev pub range_bound : List ℕ → Rule Token Bound
range_bound text = as_value range_value (a word.From >> edges text & a word.To >> edges text)

abbrev pub list_value : List Tree → Bound
list_value xs = listed (list_of_trees xs)

abbrev pub list_bound : List ℕ → Rule Token Bound
list_bound text = as_value list_value (a word.In >> in_parentheses (commas (expression text)))

abbrev pub hash_value : ℕ × ℕ → Bound
hash_value x = hash x.0 x.1

abbrev pub hash_bound : List ℕ → Rule Token Bound
hash_bound text = as_value hash_value (a word.With >> a word.OpenParenthesis >> a word.Modulus >> number text & a word.Comma >> a word.Remainder >> number text << a word.CloseParenthesis)

abbrev pub values_bound : List ℕ → Rule Token Bound
values_bound text = either (a word.From) (range_bound text) (either (a word.In) (list_bound text) (hash_bound text))

abbrev pub bound : List ℕ → Rule Token Bound
bound text = either (a word.For) (a word.For >> a word.Values >> values_bound text) (means other (one (a word.Default)))
