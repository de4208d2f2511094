use Rattle.std.proofs.Common.{◌≡◌, ◌++◌, length, false}
use Rattle.grammar.specs.Quotes.{undoubled}
use Rattle.grammar.proofs.quotes.undoubled.Given as goal

abbrev pub invariant-loop-z : goal.invariant-loop-z
invariant-loop-z l = l.out.items ++ undoubled l.quote l.is_second l.z ≡ undoubled l.quote false l.initial.z

abbrev pub decreases-loop-z : goal.decreases-loop-z
decreases-loop-z l = length l.z
