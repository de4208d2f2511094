use Rattle.std.proofs.Common.{◌<◌, ◌^◌, inl, inr, arith}
use Rattle.std.proofs.lemmas.Bool.{cases_Bool}
use Rattle.std.proofs.lemmas.Grind.{common_steps}
use Rattle.pg_values.specs.Sets.{has}
use Rattle.pg_values.proofs.Bits.{has_below}
use Rattle.ddl_steps.proofs.low.sessions_are_low.Goals as goal

pub returns : goal.returns
returns c k le =
    let fits : c.args.set.bits < 2 ^ 128 = grind (arith, common_steps) in
    elim (cases_Bool (has c.args.set k)) [ inl t ↦ absurd (let lt : k < 128 = has_below c.args.set.bits k fits t in omega (arith, lt, le)) | inr f ↦ f ]
