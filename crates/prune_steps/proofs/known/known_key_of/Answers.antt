use Rattle.std.proofs.Common.{sym, ap, ◌∙◌}
use Rattle.std.specs.Prelude.{slice_get}
use Rattle.prune_steps.specs.Asking.{asked_by, operand_known}
use Rattle.prune_steps.specs.Atoms.{key_of}
use Rattle.prune_steps.proofs.Knowing.{no_key_given}
use Rattle.prune_steps.proofs.known.known_key_of.Goals as goal

pub returns-in-Param : goal.returns-in-Param
returns-in-Param c =
    let k = c.args.asking.now in
    sym (ap (λ x. key_of (asked_by k) (operand_known k x)) c.in-Param.is ∙ no_key_given (asked_by k) (slice_get k.binding.now.args c.in-Param.field-0) c.in-Param.field-0)
