use Rattle.std.proofs.Common.{◌≡◌, ◌≤◌, ℕ, ◌+◌, ◌-◌, ◌*◌, length}
use Rattle.grammar.specs.Repeats.{always, read_repeats}
use Rattle.sql_tokens.specs.Classes.{a}
use Rattle.sql_tokens.specs.declared.kind.TokenKind.TheVariants as kinds
use Rattle.sql_expressions.specs.Grammar as grammar
use Rattle.sql_expressions.specs.Levels as levels
use Rattle.sql_expressions.specs.Views as views
use Rattle.sql_expressions.proofs.levels.+levels.Given as goal

-- how many calls of one budget come below
abbrev pub decreases-sums::right_operand : goal.decreases-sums::right_operand
decreases-sums::right_operand l = 32 * l.budget

abbrev pub decreases-conjunctions::right_part : goal.decreases-conjunctions::right_part
decreases-conjunctions::right_part l = 32 * l.budget

abbrev pub decreases-comparisons::maybe_tested : goal.decreases-comparisons::maybe_tested
decreases-comparisons::maybe_tested l = 32 * l.budget

abbrev pub decreases-comparisons::maybe_compared : goal.decreases-comparisons::maybe_compared
decreases-comparisons::maybe_compared l = 32 * l.budget

abbrev pub decreases-negations::inverted_first : goal.decreases-negations::inverted_first
decreases-negations::inverted_first l = 32 * l.budget

abbrev pub decreases-operands::named : goal.decreases-operands::named
decreases-operands::named l = 32 * l.budget

abbrev pub decreases-sums::operand_step : goal.decreases-sums::operand_step
decreases-sums::operand_step l = 32 * l.budget + 1

abbrev pub decreases-conjunctions::part_step : goal.decreases-conjunctions::part_step
decreases-conjunctions::part_step l = 32 * l.budget + 1

abbrev pub decreases-operands::unary : goal.decreases-operands::unary
decreases-operands::unary l = 32 * l.budget + 1

abbrev pub decreases-sums::more_operands : goal.decreases-sums::more_operands
decreases-sums::more_operands l = 32 * l.budget + 2

abbrev pub decreases-conjunctions::more_parts : goal.decreases-conjunctions::more_parts
decreases-conjunctions::more_parts l = 32 * l.budget + 2

abbrev pub decreases-conjunctions::joined : goal.decreases-conjunctions::joined
decreases-conjunctions::joined l = 32 * l.budget + 3

abbrev pub decreases-conjunctions::more_of_joint : goal.decreases-conjunctions::more_of_joint
decreases-conjunctions::more_of_joint l = 32 * l.budget + 4

abbrev pub decreases-climbs::grown : goal.decreases-climbs::grown
decreases-climbs::grown l = 32 * l.budget + 5

abbrev pub decreases-climbs::climbed : goal.decreases-climbs::climbed
decreases-climbs::climbed l = 32 * l.budget + 6

abbrev pub decreases-climbs::inverted_level : goal.decreases-climbs::inverted_level
decreases-climbs::inverted_level l = 32 * l.budget + 7

abbrev pub decreases-climbs::at_level : goal.decreases-climbs::at_level
decreases-climbs::at_level l = 32 * l.budget + 8

-- what is read with one less of the depth that is left
abbrev pub decreases-negations::inverted_by : goal.decreases-negations::inverted_by
decreases-negations::inverted_by l = 32 * l.below + 18

abbrev pub decreases-comparisons::compared : goal.decreases-comparisons::compared
decreases-comparisons::compared l = 32 * l.below + 18

abbrev pub decreases-comparisons::within_bounds : goal.decreases-comparisons::within_bounds
decreases-comparisons::within_bounds l = 32 * l.below + 19

abbrev pub decreases-comparisons::bounds : goal.decreases-comparisons::bounds
decreases-comparisons::bounds l = 32 * l.below + 18

abbrev pub decreases-operands::nested : goal.decreases-operands::nested
decreases-operands::nested l = 32 * l.below + 18

abbrev pub decreases-calls::first_item : goal.decreases-calls::first_item
decreases-calls::first_item l = 32 * l.below + 18

abbrev pub decreases-calls::item_step : goal.decreases-calls::item_step
decreases-calls::item_step l = 32 * l.below + 18

abbrev pub decreases-calls::more_items : goal.decreases-calls::more_items
decreases-calls::more_items l = 32 * l.below + 19

abbrev pub decreases-calls::items : goal.decreases-calls::items
decreases-calls::items l = 32 * l.below + 20

abbrev pub decreases-calls::arguments : goal.decreases-calls::arguments
decreases-calls::arguments l = 32 * l.below + 21

abbrev pub decreases-calls::called : goal.decreases-calls::called
decreases-calls::called l = 32 * l.below + 22

abbrev pub decreases-comparisons::closed_items : goal.decreases-comparisons::closed_items
decreases-comparisons::closed_items l = 32 * l.below + 21

abbrev pub decreases-comparisons::among : goal.decreases-comparisons::among
decreases-comparisons::among l = 32 * l.below + 22

abbrev pub decreases-comparisons::in_or_between : goal.decreases-comparisons::in_or_between
decreases-comparisons::in_or_between l = 32 * l.below + 23

abbrev pub decreases-comparisons::tested : goal.decreases-comparisons::tested
decreases-comparisons::tested l = 32 * l.below + 24

-- the rest is read from where the loop stands
abbrev pub invariant-climbs::climbed-loop-place : goal.invariant-climbs::climbed-loop-place
invariant-climbs::climbed-loop-place l = record {
  reads : views.climbed l.text l.budget l.place (views.reach l.fn.level - l.place) (views.deep l.left) l.rest ≡ views.climbed l.text l.budget l.from (views.reach l.fn.level - l.from) (views.deep l.fn.left) l.fn.tokens;
  within : l.left.depth ≤ l.budget;
}

abbrev pub invariant-calls::more_items-loop : goal.invariant-calls::more_items-loop
invariant-calls::more_items-loop l = record {
  reads :
      read_repeats (a kinds.Comma) always levels.add_part (λ _. (grammar.rules l.text l.below).expression.read) (l.end - l.counter) (views.parts l.list) l.rest
      ≡ read_repeats (a kinds.Comma) always levels.add_part (λ _. (grammar.rules l.text l.below).expression.read) (length l.fn.tokens) (views.parts l.fn.list) l.fn.tokens;
  within : l.list.depth ≤ l.below;
}

abbrev pub invariant-sums::more_operands-loop : goal.invariant-sums::more_operands-loop
invariant-sums::more_operands-loop l = record {
  reads :
      read_repeats (views.sign_of l.chain) (levels.has_room (grammar.below l.budget)) levels.join (λ _. (views.operand_of l.chain (grammar.under_depth l.text l.budget)).read) (l.end - l.counter) (views.deep l.left) l.rest
      ≡ read_repeats (views.sign_of l.chain) (levels.has_room (grammar.below l.budget)) levels.join (λ _. (views.operand_of l.chain (grammar.under_depth l.text l.budget)).read) (length l.fn.tokens) (views.deep l.fn.left) l.fn.tokens;
  within : l.left.depth ≤ l.budget;
}

abbrev pub invariant-conjunctions::more_parts-loop : goal.invariant-conjunctions::more_parts-loop
invariant-conjunctions::more_parts-loop l = record {
  reads :
      read_repeats (views.joint_sign l.joint) (levels.parts_room (grammar.below l.budget)) levels.add_part (λ _. (views.part_of l.joint (grammar.under_depth l.text l.budget)).read) (l.end - l.counter) (views.parts l.parts) l.rest
      ≡ read_repeats (views.joint_sign l.joint) (levels.parts_room (grammar.below l.budget)) levels.add_part (λ _. (views.part_of l.joint (grammar.under_depth l.text l.budget)).read) (length l.fn.tokens) (views.parts l.fn.parts) l.fn.tokens;
  within : views.Fits l.budget l.parts;
}
