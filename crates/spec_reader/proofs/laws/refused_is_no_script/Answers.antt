use Rattle.spec_reader.proofs.SpecLaws.{no_script}
use Rattle.spec_reader.proofs.laws.refused_is_no_script.Goals as goal

pub returns : goal.returns
returns c = no_script
