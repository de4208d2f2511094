use Rattle.std.proofs.Common.{rules}
use Rattle.grammar.proofs.example.entries.Goals as goal

pub returns : goal.returns
returns c = rw c.in_ok-first.ensures (search rules)
