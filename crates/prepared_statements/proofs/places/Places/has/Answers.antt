use Rattle.std.proofs.Common.{◌∙◌}
use Rattle.prepared_statements.proofs.Emptied.{any_taken}
use Rattle.prepared_statements.proofs.places.Places.has.Goals as goal

pub returns : goal.returns
returns c = c.contains.ensures ∙ any_taken c.args.name.now c.args.self.now.places.keys
