use Rattle.grammar.proofs.ExampleLaws.{list_law}
use Rattle.grammar.proofs.WholeLaws.{parses}
use Rattle.grammar.proofs.example.parse_entries.Goals as goal

pub returns : goal.returns
returns c = parses (λ v. v.items) c.args.tokens.now _ list_law c.read_all.ensures
