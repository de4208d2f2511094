use Rattle.spec_reader.proofs.SpecLaws.{one_reason}
use Rattle.spec_reader.proofs.laws.refused_for_one_reason.Goals as goal

pub returns : goal.returns
returns c = one_reason
