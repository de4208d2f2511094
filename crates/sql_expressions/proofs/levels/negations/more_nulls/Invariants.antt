use Rattle.std.proofs.Common.{◌≡◌, ◌≤◌, ◌-◌, length}
use Rattle.grammar.specs.Repeats.{read_repeats}
use Rattle.sql_tokens.specs.Classes.{a}
use Rattle.sql_tokens.specs.declared.kind.TokenKind.TheVariants as kinds
use Rattle.sql_expressions.specs.Grammar as grammar
use Rattle.sql_expressions.specs.Levels as levels
use Rattle.sql_expressions.specs.Views as views
use Rattle.sql_expressions.proofs.levels.negations.more_nulls.Given as goal

-- the rest of the chain is read from where the loop stands
abbrev pub invariant-loop : goal.invariant-loop
invariant-loop l = record {
  reads :
      read_repeats (a kinds.Is) (levels.has_room (grammar.below l.budget)) levels.null_join (λ _. levels.null_or_not.read) (l.end - l.counter) (views.deep l.left) l.rest
      ≡ read_repeats (a kinds.Is) (levels.has_room (grammar.below l.budget)) levels.null_join (λ _. levels.null_or_not.read) (length l.fn.tokens) (views.deep l.fn.left) l.fn.tokens;
  within : l.left.depth ≤ l.budget;
}
