use Rattle.grammar.proofs.ExampleLaws.{list_law}
use Rattle.grammar.proofs.WholeLaws.{one_value}
use Rattle.grammar.proofs.example.no_list_has_two_values.Goals as goal

pub returns : goal.returns
returns c ts xs ys w v = one_value list_law ts xs ys w (list_law.shape.within ts ys v)
