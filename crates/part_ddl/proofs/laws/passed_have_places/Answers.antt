use Rattle.part_ddl.proofs.Free.{passed_have_places}
use Rattle.part_ddl.proofs.laws.passed_have_places.Goals as goal

pub returns : goal.returns
returns c = passed_have_places
