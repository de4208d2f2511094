use Rattle.spec_reader.proofs.SpecLaws.{only_script}
use Rattle.spec_reader.proofs.laws.no_two_scripts.Goals as goal

pub returns : goal.returns
returns c = only_script
