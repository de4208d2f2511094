use Rattle.std.proofs.Common.{◌≡◌, ◌++◌, drop}
use Rattle.std.specs.Prelude.{codes}
use Rattle.std.specs.List.{flat_map}
use Rattle.refusals.specs.RowTexts as texts
use Rattle.refusals.proofs.row_texts.write_rest.Given as goal

-- what was written so far stands before the rest
abbrev pub invariant-loop-value : goal.invariant-loop-value
invariant-loop-value l = l.out.items ++ flat_map (λ v. codes ", " ++ texts.value_text v) (drop l.value-index l.values) ≡ l.initial.out.items ++ flat_map (λ v. codes ", " ++ texts.value_text v) l.values
