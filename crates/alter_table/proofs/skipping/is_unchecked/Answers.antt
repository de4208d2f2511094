use Rattle.std.proofs.Common.{ap, sym, ◌∙◌, ◌==◌, length, List}
use Rattle.history.specs.declared.catalogue.KeptCheck.{KeptCheck}
use Rattle.alter_table.proofs.skipping.is_unchecked.Goals as goal
use Rattle.ddl_steps.proofs.Checks.{first_part, never_empty}

pub returns-in-None : goal.returns-in-None
returns-in-None c = λ h s t is. absurd (never_empty h s t c.args.path.now is (sym c.in-None.ensures.value))

pub returns-in-Some : goal.returns-in-Some
returns-in-Some c = λ h s t is.
    c.is_empty.ensures ∙ ap (λ (cs : List KeptCheck). length cs == 0) (c.as_slice.ensures ∙ first_part h s t c.args.path.now c.in-Some.part.now is (sym c.in-Some.ensures.value))
