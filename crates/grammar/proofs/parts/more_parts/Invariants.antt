use Rattle.std.proofs.Common.{◌≡◌, ◌-◌, length, map}
use Rattle.grammar.specs.Repeats.{always, read_repeats}
use Rattle.grammar.specs.Words as words
use Rattle.grammar.proofs.parts.more_parts.Given as goal

-- the rest of the list is read from where the loop stands
abbrev pub invariant-loop : goal.invariant-loop
invariant-loop g l =
    read_repeats (g.P.Token.Lexeme.a l.sign) always words.snoc (λ _. (g.P.Part.rule l.text).read) (l.end - l.counter) (map g.P.Part.tree l.done.items) l.rest
    ≡ read_repeats (g.P.Token.Lexeme.a l.sign) always words.snoc (λ _. (g.P.Part.rule l.text).read) (length l.fn.tokens) (map g.P.Part.tree l.fn.first.items) l.fn.tokens
