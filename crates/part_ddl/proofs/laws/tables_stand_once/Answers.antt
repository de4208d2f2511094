use Rattle.part_ddl.proofs.Forest.{tables_stand_once}
use Rattle.part_ddl.proofs.laws.tables_stand_once.Goals as goal

pub returns : goal.returns
returns c = tables_stand_once
