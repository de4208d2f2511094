-- How the code sees what it reads, and its levels by number.
use Rattle.std.specs.Prelude.{◌≡◌, ◌<◌, ◌≤◌, ◌⊎◌, ℕ, zero, suc, Bool, false, ◌||◌, if◌then◌else◌, nat_lt, List, [], ◌∷◌, ◌++◌, length, map, max}
use Rattle.grammar.specs.Reading.{Class, Reading, Rule, ◌>>=◌, given, begins_in, one}
use Rattle.sql_tokens.specs.declared.kind.TokenKind.{TokenKind}
use Rattle.sql_tokens.specs.declared.kind.TokenKind.TheVariants as word
use Rattle.sql_tokens.specs.declared.token.Token.{Token}
use Rattle.sql_expressions.specs.Levels as level
use Rattle.grammar.specs.Reading.{as_value, nothing}
use Rattle.grammar.specs.Words.{◌>>◌, ◌<<◌, ◌&◌}
use Rattle.grammar.specs.Repeats.{repeats}
use Rattle.sql_expressions.specs.Grammar.{any, below, freed, rules, under_depth}
use Rattle.sql_ast.specs.Expressions.{tree}
use Rattle.sql_expressions.specs.Words.{column, literal}
use Rattle.sql_tokens.specs.Classes.{a}
use Rattle.sql_expressions.specs.declared.deep.Deep.{Deep}
use Rattle.sql_expressions.specs.declared.signs.Joint.{Joint}
use Rattle.sql_expressions.specs.declared.signs.Joint.TheVariants as joints
use Rattle.sql_expressions.specs.declared.deep.Parts.{Parts}
use Rattle.sql_expressions.specs.declared.signs.Level.{Level}
use Rattle.sql_expressions.specs.declared.signs.Level.TheVariants as at_levels
use Rattle.sql_expressions.specs.declared.signs.Behind.{Behind}
use Rattle.sql_expressions.specs.declared.signs.Behind.TheVariants as places
use Rattle.sql_expressions.specs.declared.signs.Chain.{Chain}
use Rattle.sql_expressions.specs.declared.signs.Chain.TheVariants as chains

abbrev pub deep : Deep → level.Deep
deep x = (tree x.expr, x.depth)

abbrev pub parts : Parts → level.Parts
parts p = (map tree p.items.items, p.depth)

-- parts of a chain that may be one node of a depth of at most n: a single part is itself
abbrev pub Fits : ℕ → Parts → Type 0
Fits n p = (p.depth ≤ n) × ((p.depth < n) ⊎ (length p.items.items ≡ 1))

-- one more part
abbrev pub added : level.Parts → level.Deep → level.Parts
added p x = (p.0 ++ x.0 ∷ [], max p.1 x.1)

-- an expression as a list of its own
abbrev pub first_part : Rule Token level.Deep → Rule Token level.Parts
first_part p = as_value level.only_part p

-- a value that is written out, or a parameter
abbrev pub constant : List ℕ → Rule Token level.Deep
constant text = as_value level.flat (literal text)

-- a name that is no function, and a function of all rows
abbrev pub no_call : List ℕ → TokenKind × List ℕ → Rule Token level.Deep
no_call text x = as_value level.flat (column text x)

-- a closing parenthesis behind what stands there
abbrev pub ended : level.Deep → Rule Token level.Deep
ended x = nothing x << a word.CloseParenthesis

-- a list with a closing parenthesis
abbrev pub closed_list : level.Rules → Rule Token level.Parts
closed_list below = level.list_of below.expression << a word.CloseParenthesis

-- "*" and a closing parenthesis
abbrev pub call_of_all : List ℕ → Rule Token level.Deep
call_of_all f = as_value (level.all_call f) (one (a word.Star)) << a word.CloseParenthesis

-- the levels by name
abbrev pub at : Level → level.Rules → Rule Token level.Deep
at at_levels.Unary r = r.unary
at at_levels.Product r = r.product
at at_levels.Sum r = r.sum
at at_levels.Test r = r.test
at at_levels.Negation r = r.negation
at at_levels.Conjunction r = r.conjunction
at at_levels.Expression r = r.expression

-- whether NOT comes, where it may begin an expression of the level
abbrev pub not_comes : Level → List Token → Bool
not_comes at_levels.Unary ts = false
not_comes at_levels.Product ts = false
not_comes at_levels.Sum ts = false
not_comes at_levels.Test ts = false
not_comes at_levels.Negation ts = begins_in (a word.Not) ts
not_comes at_levels.Conjunction ts = begins_in (a word.Not) ts
not_comes at_levels.Expression ts = begins_in (a word.Not) ts

-- chains of operators
abbrev pub sign_of : Chain → Class Token
sign_of chains.Sum = level.is_sum
sign_of chains.Product = level.is_product

abbrev pub operand_level : Chain → Level
operand_level chains.Sum = at_levels.Product
operand_level chains.Product = at_levels.Unary

abbrev pub operand_of : Chain → level.Rules → Rule Token level.Deep
operand_of chain r = at (operand_level chain) r

-- chains of ANDs and of ORs
abbrev pub joint_sign : Joint → Class Token
joint_sign joints.Or = a word.Or
joint_sign joints.And = a word.And

abbrev pub part_level : Joint → Level
part_level joints.Or = at_levels.Conjunction
part_level joints.And = at_levels.Negation

abbrev pub part_of : Joint → level.Rules → Rule Token level.Deep
part_of joint r = at (part_level joint) r

abbrev pub joint_value : Joint → level.Parts → level.Deep
joint_value joints.Or = level.any_value
joint_value joints.And = level.all_value

-- a name, and a call or the rest of a column behind it
abbrev pub named_at : List ℕ → ℕ → Rule Token level.Deep
named_at text n = level.named_leaf text (below n) (any text) (freed text (under_depth text n))

-- what stands behind an operand, with it: signs and operands
abbrev pub more_operands : List ℕ → Chain → ℕ → level.Deep → Rule Token level.Deep
more_operands text chain n x = repeats (sign_of chain) (level.has_room (below n)) level.join (λ _. operand_of chain (under_depth text n)) x

-- IN or BETWEEN
abbrev pub maybe_tested : List ℕ → ℕ → level.Deep → Rule Token level.Deep
maybe_tested text n x = level.maybe_tested (below n) (any text) (freed text (under_depth text n)) x

abbrev pub among : level.Rules → Bool → level.Deep → Rule Token level.Deep
among below is_not x = as_value (level.in_value is_not x) (a word.In >> a word.OpenParenthesis >> level.list_of below.expression << a word.CloseParenthesis)

abbrev pub bounds : level.Rules → Rule Token (level.Deep × level.Deep)
bounds below = a word.Between >> below.sum & a word.And >> below.sum

abbrev pub within_bounds : level.Rules → Bool → level.Deep → Rule Token level.Deep
within_bounds below is_not x = as_value (level.between_value is_not x) (bounds below)

-- a comparison
abbrev pub maybe_compared : List ℕ → ℕ → level.Deep → Rule Token level.Deep
maybe_compared text n x = level.maybe_compared (below n) (any text) (freed text (under_depth text n)) x

-- any number of IS NULL
abbrev pub more_nulls : ℕ → level.Deep → Rule Token level.Deep
more_nulls n x = repeats (a word.Is) (level.has_room (below n)) level.null_join (λ _. level.null_or_not) x

-- ANDs or ORs
abbrev pub more_of_joint : List ℕ → Joint → ℕ → level.Deep → Rule Token level.Deep
more_of_joint text joint n x = as_value (joint_value joint) (repeats (joint_sign joint) (level.parts_room (below n)) level.add_part (λ _. part_of joint (under_depth text n)) (level.only_part x))

-- all of these, from the tightest to the loosest
abbrev pub behind : List ℕ → ℕ → Behind → level.Deep → Rule Token level.Deep
behind text n places.Products x = more_operands text chains.Product n x
behind text n places.Sums x = more_operands text chains.Sum n x
behind text n places.Test x = maybe_tested text n x
behind text n places.Comparison x = maybe_compared text n x
behind text n places.Nulls x = more_nulls n x
behind text n places.Conjunctions x = more_of_joint text joints.And n x
behind text n places.Disjunctions x = more_of_joint text joints.Or n x

-- the tokens with which they begin
abbrev pub behind_sign : Behind → Class Token
behind_sign places.Products = level.is_product
behind_sign places.Sums = level.is_sum
behind_sign places.Test = level.begins_test
behind_sign places.Comparison = level.is_comparison
behind_sign places.Nulls = a word.Is
behind_sign places.Conjunctions = a word.And
behind_sign places.Disjunctions = a word.Or

-- what may stand at none of these places, so that it ends them all
abbrev pub ends_part : Class Token
ends_part t = a word.Comma t || a word.CloseParenthesis t

-- the same by number, and how many of them an expression of a level may have
abbrev pub behind_at : ℕ → Behind
behind_at place =
    if nat_lt place 1 then places.Products else (if nat_lt place 2 then places.Sums
    else (if nat_lt place 3 then places.Test else (if nat_lt place 4 then places.Comparison
    else (if nat_lt place 5 then places.Nulls else (if nat_lt place 6 then places.Conjunctions
    else places.Disjunctions)))))

abbrev pub reach : Level → ℕ
reach at_levels.Unary = 0
reach at_levels.Product = 1
reach at_levels.Sum = 2
reach at_levels.Test = 3
reach at_levels.Negation = 5
reach at_levels.Conjunction = 6
reach at_levels.Expression = 7

-- so many of them behind an operand, from one place on
unfoldable pub climbed : List ℕ → ℕ → ℕ → ℕ → level.Deep → List Token → Reading Token level.Deep
climbed text n place zero x ts = given x ts
climbed text n place (suc count) x ts = (behind text n (behind_at place) x).read ts >>= λ y. climbed text n (suc place) count y.0 y.1
