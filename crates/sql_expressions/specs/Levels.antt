-- The levels of expressions, from the tightest to the loosest (4.1.6 Operator Precedence). Each level takes the rules
-- of its operands, and says by `room` where one more operator, call or pair of parentheses may stand.
use Rattle.std.specs.Prelude.{ℕ, suc, Bool, true, false, ◌||◌, if◌then◌else◌, List, [], ◌∷◌, ◌++◌, length, max, Err}
use Rattle.grammar.specs.Reading.{Class, Rule, one, nothing, follow, as_value, either, either_texts, begins_in, limit_at}
use Rattle.grammar.specs.Repeats.{second_of, chain_by, always}
use Rattle.sql_tokens.specs.declared.kind.TokenKind.{TokenKind}
use Rattle.sql_tokens.specs.declared.kind.TokenKind.TheVariants as word
use Rattle.sql_tokens.specs.declared.token.Token.{Token}
use Rattle.sql_ast.specs.declared.leaf.Leaf.{Leaf}
use Rattle.sql_ast.specs.declared.leaf.Operator.{Operator}
use Rattle.sql_ast.specs.declared.leaf.Operator.TheVariants as operator
use Rattle.sql_ast.specs.Expressions.{Tree, leaf, call, call_of_all, negated, binary, in_list, between, is_null, inverted, all_of, any_of, listed}
use Rattle.grammar.specs.Words.{◌>>◌, ◌<<◌, ◌&◌}
use Rattle.sql_tokens.specs.Classes.{a, a_name}
use Rattle.sql_expressions.specs.Words.{name, literal, a_literal, column}

-- A tree, and how many operators, calls and pairs of parentheses stand over its deepest leaf.
abbrev pub Deep : Type 0
Deep = Tree × ℕ

-- Trees in order, and the depth of the deepest.
abbrev pub Parts : Type 0
Parts = List Tree × ℕ

-- By a depth: whether one more may stand over it.
abbrev pub Room : Type 0
Room = ℕ → Bool

-- the rules of all levels
pub record Rules : Type 1 where
  pub unary : Rule Token Deep
  pub product : Rule Token Deep
  pub sum : Rule Token Deep
  pub test : Rule Token Deep
  pub negation : Rule Token Deep
  pub conjunction : Rule Token Deep
  pub expression : Rule Token Deep

-- p where a token of c comes, else q; u are the texts of p without limits. With no room only the limits bar p.
abbrev pub room_texts : {A : Type 0} → Bool → (List Token → A → Type 0) → (List Token → A → Type 0) → List Token → A → Type 0
room_texts true p q = either_texts p q
room_texts false p q = q

abbrev pub if_room : {A : Type 0} → Bool → Class Token → (List Token → A → Type 0) → Rule Token A → Rule Token A → Rule Token A
if_room room c u p q = record {
  texts = room_texts room p.texts q.texts;
  free = either_texts u q.free;
  read = λ ts. if begins_in c ts then (if room then p.read ts else Err (limit_at (length ts))) else q.read ts;
}

-- values
abbrev pub flat : Leaf → Deep
flat l = (leaf l, 0)

abbrev pub under : (Tree → Tree) → Deep → Deep
under f x = (f x.0, suc x.1)

abbrev pub deeper : Deep → Deep
deeper x = (x.0, suc x.1)

abbrev pub joined : Operator → Deep → Deep → Deep
joined op x y = (binary op x.0 y.0, suc (max x.1 y.1))

abbrev pub only_part : Deep → Parts
only_part x = (x.0 ∷ [], x.1)

abbrev pub add_part : Parts → Token → Deep → Parts
add_part p sign x = (p.0 ++ x.0 ∷ [], max p.1 x.1)

-- one part is itself
abbrev pub node_of : (List Tree → Tree) → List Tree → ℕ → Deep
node_of f (t ∷ []) d = (t, d)
node_of f [] d = (f [], suc d)
node_of f (t ∷ u ∷ ts) d = (f (t ∷ u ∷ ts), suc d)

-- p { "," p }
abbrev pub list_of : Rule Token Deep → Rule Token Parts
list_of p = chain_by (a word.Comma) always only_part add_part p (λ (x : Parts). p)

-- the first token of an expression
abbrev pub begins_nested : Class Token
begins_nested t = a word.Minus t || a word.OpenParenthesis t

abbrev pub begins_expression : Class Token
begins_expression t = a word.Not t || (begins_nested t || (a_name t || a_literal t))

-- name "(" ( "*" | [ expr { "," expr } ] ")"
abbrev pub all_call : List ℕ → Token → Deep
all_call f t = (call_of_all f, 1)

abbrev pub call_value : List ℕ → Parts → Deep
call_value f p = (call f (listed p.0), suc p.1)

abbrev pub arguments : Rule Token Deep → Rule Token Parts
arguments expr = either begins_expression (list_of expr) (nothing ([], 0))

abbrev pub call_of : Rule Token Deep → List ℕ → Rule Token Deep
call_of expr f =
    a word.OpenParenthesis >> either (a word.Star) (as_value (all_call f) (one (a word.Star))) (as_value (call_value f) (arguments expr)) << a word.CloseParenthesis

-- behind a name: a call, or the rest of a column
abbrev pub behind_name : List ℕ → Room → Rules → Rules → TokenKind × List ℕ → Rule Token Deep
behind_name text room any below x =
    if_room (room 0) (a word.OpenParenthesis) (call_of any.expression x.1).texts (call_of below.expression x.1) (as_value flat (column text x))

abbrev pub named_leaf : List ℕ → Room → Rules → Rules → Rule Token Deep
named_leaf text room any below = as_value second_of (follow (name text) (behind_name text room any below))

-- "-" unary | "(" expr ")"
abbrev pub nested : Rules → Rule Token Deep
nested below =
    either (a word.Minus) (as_value (under negated) (a word.Minus >> below.unary))
    (as_value deeper (a word.OpenParenthesis >> below.expression << a word.CloseParenthesis))

abbrev pub unary : List ℕ → Room → Rules → Rules → Rule Token Deep
unary text room any below =
    if_room (room 0) begins_nested (nested any).texts (nested below)
    (either a_name (named_leaf text room any below) (as_value flat (literal text)))

-- operators of one chain, from the left
abbrev pub is_product : Class Token
is_product t = a word.Star t || (a word.Slash t || a word.Percent t)

abbrev pub is_sum : Class Token
is_sum t = a word.Plus t || a word.Minus t

abbrev pub is_comparison : Class Token
is_comparison t = a word.Equal t || (a word.NotEqual t || (a word.Less t || (a word.LessEqual t || (a word.Greater t || a word.GreaterEqual t))))

abbrev pub operator_of : Token → Operator
operator_of t =
    if a word.Plus t then operator.Add else (if a word.Minus t then operator.Subtract
    else (if a word.Star t then operator.Multiply else (if a word.Slash t then operator.Divide
    else (if a word.Percent t then operator.Remainder else (if a word.Equal t then operator.Equal
    else (if a word.NotEqual t then operator.NotEqual else (if a word.Less t then operator.Less
    else (if a word.LessEqual t then operator.LessEqual else (if a word.Greater t then operator.Greater
    else operator.GreaterEqual)))))))))

abbrev pub join : Deep → Token → Deep → Deep
join x sign y = joined (operator_of sign) x y

abbrev pub itself : Deep → Deep
itself x = x

abbrev pub has_room : Room → Deep → Bool
has_room room x = room x.1

abbrev pub chain : Class Token → Room → Rule Token Deep → Rule Token Deep → Rule Token Deep
chain sign room first right = chain_by sign (has_room room) itself join first (λ (x : Deep). right)

-- sum [ [ "NOT" ] ( "IN" "(" expr { "," expr } ")" | "BETWEEN" sum "AND" sum ) ]
abbrev pub begins_test : Class Token
begins_test t = a word.Not t || (a word.In t || a word.Between t)

abbrev pub in_value : Bool → Deep → Parts → Deep
in_value is_not x p = (in_list is_not x.0 (listed p.0), suc (max x.1 p.1))

abbrev pub between_value : Bool → Deep → Deep × Deep → Deep
between_value is_not x y = (between is_not x.0 y.0.0 y.1.0, suc (max x.1 (max y.0.1 y.1.1)))

abbrev pub in_or_between : Rules → Bool → Deep → Rule Token Deep
in_or_between below is_not x =
    either (a word.In) (as_value (in_value is_not x) (a word.In >> a word.OpenParenthesis >> list_of below.expression << a word.CloseParenthesis))
    (as_value (between_value is_not x) (a word.Between >> below.sum & a word.And >> below.sum))

abbrev pub tested : Rules → Deep → Rule Token Deep
tested below x = either (a word.Not) (a word.Not >> in_or_between below true x) (in_or_between below false x)

abbrev pub maybe_tested : Room → Rules → Rules → Deep → Rule Token Deep
maybe_tested room any below x = if_room (room x.1) begins_test (tested any x).texts (tested below x) (nothing x)

abbrev pub test : Room → Rules → Rules → Rule Token Deep → Rule Token Deep
test room any below sum = as_value second_of (follow sum (maybe_tested room any below))

-- test [ sign test ]
abbrev pub compared_value : Deep → Token × Deep → Deep
compared_value x y = join x y.0 y.1

abbrev pub compared : Rules → Deep → Rule Token Deep
compared below x = as_value (compared_value x) (one is_comparison & below.test)

abbrev pub maybe_compared : Room → Rules → Rules → Deep → Rule Token Deep
maybe_compared room any below x = if_room (room x.1) is_comparison (compared any x).texts (compared below x) (nothing x)

abbrev pub comparison : Room → Rules → Rules → Rule Token Deep → Rule Token Deep
comparison room any below test = as_value second_of (follow test (maybe_compared room any below))

-- comparison { "IS" [ "NOT" ] "NULL" }
abbrev pub said : Bool → Token → Bool
said b t = b

abbrev pub null_or_not : Rule Token Bool
null_or_not = either (a word.Not) (as_value (said true) (a word.Not >> one (a word.Null))) (as_value (said false) (one (a word.Null)))

abbrev pub null_join : Deep → Token → Bool → Deep
null_join x sign is_not = under (is_null is_not) x

abbrev pub nullity : Room → Rule Token Deep → Rule Token Deep
nullity room comparison = chain_by (a word.Is) (has_room room) itself null_join comparison (λ (x : Deep). null_or_not)

-- "NOT" negation | nullity
abbrev pub inverted_by : Rules → Rule Token Deep
inverted_by below = as_value (under inverted) (a word.Not >> below.negation)

abbrev pub negation : Room → Rules → Rules → Rule Token Deep → Rule Token Deep
negation room any below nullity = if_room (room 0) (a word.Not) (inverted_by any).texts (inverted_by below) nullity

-- a chain of ANDs, a chain of ORs: one node however long
abbrev pub parts_room : Room → Parts → Bool
parts_room room p = room p.1

abbrev pub parts : Class Token → Room → Rule Token Deep → Rule Token Deep → Rule Token Parts
parts sign room first right = chain_by sign (parts_room room) only_part add_part first (λ (p : Parts). right)

abbrev pub all_value : Parts → Deep
all_value p = node_of (λ ts. all_of (listed ts)) p.0 p.1

abbrev pub any_value : Parts → Deep
any_value p = node_of (λ ts. any_of (listed ts)) p.0 p.1

abbrev pub conjunction : Room → Rule Token Deep → Rule Token Deep → Rule Token Deep
conjunction room first right = as_value all_value (parts (a word.And) room first right)

abbrev pub disjunction : Room → Rule Token Deep → Rule Token Deep → Rule Token Deep
disjunction room first right = as_value any_value (parts (a word.Or) room first right)
