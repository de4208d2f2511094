use Rattle.bound_forms.proofs.LevelLaws.{level_kind}
use Rattle.part_ddl.proofs.Suiting.{all_filled, all_fit}
use Rattle.part_ddl.proofs.placing.check_beside.Goals as goal

pub set_of-requires : goal.set_of-requires
set_of-requires c = level_kind c.requires.level.level c.args.bound.now c.requires.level.mine

pub check_modulus-requires-clause-filled : goal.check_modulus-requires-clause-filled
check_modulus-requires-clause-filled c = all_filled c.args.bound.now _ c.requires.level

pub check_overlap-requires-clause-filled : goal.check_overlap-requires-clause-filled
check_overlap-requires-clause-filled c = all_filled c.args.bound.now _ c.requires.level

pub check_overlap-requires-clause-fit : goal.check_overlap-requires-clause-fit
check_overlap-requires-clause-fit c = all_fit c.args.bound.now _ c.requires.level c.in_ok-check_modulus.ensures.fit

pub check_overlap-requires-clause-kind : goal.check_overlap-requires-clause-kind
check_overlap-requires-clause-kind c = level_kind c.requires.level.level c.args.bound.now c.requires.level.mine
