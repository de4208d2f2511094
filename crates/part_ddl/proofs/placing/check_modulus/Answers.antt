use Rattle.std.proofs.Common.{◌∙◌, List, ap, map, sym}
use Rattle.pg_values.specs.declared.fault.Fault.{Fault}
use Rattle.pg_values.specs.Refusals.{or_first}
use Rattle.bound_forms.specs.Moduli.{bad_modulus}
use Rattle.row_router.specs.Histories.{bound_of}
use Rattle.part_ddl.proofs.Suiting.{none_bad, none_told, plain_of}
use Rattle.part_ddl.proofs.placing.check_modulus.Goals as goal

pub returns-in-None-clause-fit : goal.returns-in-None-clause-fit
returns-in-None-clause-fit c = sym c.unsuited.ensures ∙ c.in-None.is

pub returns-in_default-clause-answer : goal.returns-in_default-clause-answer
returns-in_default-clause-answer c =
    let bounds = map bound_of (map (λ e. e.now) c.args.partitions.now) in
    ap (λ (fs : List Fault). or_first {T = Unit {0}} fs tt) (none_told c.args.bound.now (bad_modulus c.args.bound.now bounds) (plain_of c.args.bound.now c.in_default.not-Hash))

pub returns-in_default-clause-fit : goal.returns-in_default-clause-fit
returns-in_default-clause-fit c = none_bad c.args.bound.now (map bound_of (map (λ e. e.now) c.args.partitions.now)) (plain_of c.args.bound.now c.in_default.not-Hash)
