use Rattle.std.proofs.Common.{◌∙◌, refl}
use Rattle.insert_statement.proofs.leaf.target_of.Goals as goal

pub returns : goal.returns
returns c = λ h stand. record { leaf_is = refl; table = refl; path = c.from_vec.ensures ∙ c.in_ok-path.ensures h stand; is_named = refl }
