use Rattle.std.proofs.Common.{◌≡◌, ◌-◌, length}
use Rattle.grammar.specs.Example as grammar
use Rattle.grammar.specs.Repeats.{read_repeats}
use Rattle.grammar.proofs.example.more_entries.Given as goal

abbrev pub invariant-loop : goal.invariant-loop
invariant-loop l =
    read_repeats grammar.is_comma grammar.has_room grammar.snoc (λ _. grammar.entry.read) (l.end - l.counter) l.done.items l.rest
    ≡ read_repeats grammar.is_comma grammar.has_room grammar.snoc (λ _. grammar.entry.read) (length l.fn.tokens) l.fn.first.items l.fn.tokens
