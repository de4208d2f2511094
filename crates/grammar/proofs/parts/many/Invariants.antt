use Rattle.std.proofs.Common.{◌≡◌, ◌-◌, length, map}
use Rattle.grammar.specs.Repeats.{read_many}
use Rattle.grammar.specs.Steps.{with_earlier}
use Rattle.grammar.proofs.parts.many.Given as goal

-- the others are read from where the loop stands
abbrev pub invariant-loop : goal.invariant-loop
invariant-loop g l =
    with_earlier (map g.P.Part.tree l.done.items) (read_many g.P.Begun.begins (g.P.Part.rule l.fn.text).read (l.end - l.counter) l.rest)
    ≡ with_earlier (map g.P.Part.tree l.fn.first.items) (read_many g.P.Begun.begins (g.P.Part.rule l.fn.text).read (length l.fn.tokens) l.fn.tokens)
