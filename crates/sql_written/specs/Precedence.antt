-- The levels of expressions by how tightly they bind (4.1.6 Operator Precedence), and the level that each place of an
-- operand needs.
use Rattle.std.specs.Prelude.{ℕ, Bool, nat_lt}
use Rattle.sql_ast.specs.Expressions.{Tree, leaf, call, call_of_all, negated, binary, in_list, between, is_null, inverted, all_of, any_of}
use Rattle.sql_ast.specs.declared.leaf.Operator.{Operator}
use Rattle.sql_ast.specs.declared.leaf.Operator.TheVariants.{Add, Subtract, Multiply, Divide, Remainder}

-- from the loosest to the tightest
pub data Level : Type 0 where
  disjunction : Level
  conjunction : Level
  negation : Level
  nullity : Level
  comparison : Level
  test : Level
  sum : Level
  product : Level
  unary : Level

abbrev pub rank : Level → ℕ
rank disjunction = 0
rank conjunction = 1
rank negation = 2
rank nullity = 3
rank comparison = 4
rank test = 5
rank sum = 6
rank product = 7
rank unary = 8

abbrev pub level_of_operator : Operator → Level
level_of_operator Add = sum
level_of_operator Subtract = sum
level_of_operator Multiply = product
level_of_operator Divide = product
level_of_operator Remainder = product
level_of_operator _ = comparison

abbrev pub level_of : Tree → Level
level_of (leaf l) = unary
level_of (call f ts) = unary
level_of (call_of_all f) = unary
level_of (negated e) = unary
level_of (binary op x y) = level_of_operator op
level_of (in_list b x ts) = test
level_of (between b x from to) = test
level_of (is_null b x) = nullity
level_of (inverted e) = negation
level_of (all_of ts) = conjunction
level_of (any_of ts) = disjunction

-- sums and products group from the left, and comparisons do not chain
abbrev pub left_place : Operator → Level
left_place Add = sum
left_place Subtract = sum
left_place Multiply = product
left_place Divide = product
left_place Remainder = product
left_place _ = test

abbrev pub right_place : Operator → Level
right_place Add = product
right_place Subtract = product
right_place Multiply = unary
right_place Divide = unary
right_place Remainder = unary
right_place _ = test

-- a tree of the second level stands in a place of the first in parentheses alone
abbrev pub is_looser : Level → Level → Bool
is_looser place own = nat_lt (rank own) (rank place)

abbrev pub needs_parentheses : Level → Tree → Bool
needs_parentheses place t = is_looser place (level_of t)
