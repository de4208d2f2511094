use Rattle.sql_shell.proofs.bound_sets.add_checked.Goals as goal

pub add_suiting-requires-clause-fit : goal.add_suiting-requires-clause-fit
add_suiting-requires-clause-fit c = c.modulus_fault.ensures.fit c.in-None.is c.args.level.now c.requires.bound c.requires.set
