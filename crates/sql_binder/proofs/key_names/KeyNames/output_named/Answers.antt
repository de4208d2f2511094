use Rattle.std.proofs.Common.{ap, ◌∙◌}
use Rattle.sql_binder.specs.KeyNames.{found, seen}
use Rattle.sql_binder.proofs.key_names.KeyNames.output_named.Goals as goal

pub returns : goal.returns
returns c = c.found.ensures ∙ (ap (λ o. found (seen o)) c.get.ensures.value ∙ c.args.self.now.are_firsts c.args.name)
