use Rattle.std.proofs.Common.{sym, ap, subst, ◌∙◌}
use Rattle.std.specs.Prelude.{slice_get}
use Rattle.std.specs.Slice.{IsItemAt}
use Rattle.prune_steps.specs.Asking.{operand_known}
use Rattle.prune_steps.specs.Atoms as spec
use Rattle.prune_steps.proofs.Knowing.{literal_given, lent_item}
use Rattle.prune_steps.proofs.known.literal.Goals as goal

pub returns-in-Param : goal.returns-in-Param
returns-in-Param c =
    let k = c.args.asking.now in
    let i = c.in-Param.place in
    lent_item k.binding.now.args i c.get.result (subst (λ xs. IsItemAt xs i c.get.result) c.args-in-Param.ensures c.get.ensures.lookup)
    ∙ sym (ap (λ x. spec.literal (operand_known k x)) c.in-Param.is ∙ literal_given (slice_get k.binding.now.args i) i)
