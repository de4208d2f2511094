use Rattle.std.proofs.Common.{◌≡◌, ◌∙◌, ap, arith, length, take}
use Rattle.std.proofs.lemmas.Grind.{common_steps}
use Rattle.bound_forms.specs.declared.level.KeyColumn.{KeyColumn}
use Rattle.row_router.proofs.level_key.copy_level.Goals as goal

pub invariant_of-result : goal.invariant_of-result
invariant_of-result c =
    let whole : take c.loop-column.column-index c.as_slice-column-items.result.now ≡ c.as_slice-column-items.result.now = grind (arith, common_steps) in
    let same : c.loop-column.columns ≡ c.args.level.now.columns = c.loop-column.invariant ∙ whole ∙ c.as_slice-column-items.ensures in
    record { one_if_list = λ is. ap (length {A = KeyColumn}) same ∙ c.args.level.now.one_if_list is }
