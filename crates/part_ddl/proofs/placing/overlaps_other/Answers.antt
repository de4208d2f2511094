use Rattle.std.proofs.Common.{ap, sym, ◌∙◌}
use Rattle.bound_forms.specs.declared.partition_bound.Bound.TheVariants.{List as Listed}
use Rattle.bound_forms.specs.Bounds.{overlaps}
use Rattle.bound_forms.proofs.OverlapLaws.{overlaps_turned}
use Rattle.part_ddl.proofs.Suiting.{overlaps_one}
use Rattle.part_ddl.proofs.placing.overlaps_other.Goals as goal

pub returns-in-List-List : goal.returns-in-List-List
returns-in-List-List c =
    let b = c.args.bound.now in
    let a = c.args.other.now in
    let values = c.in-List-List.values in
    c.is_shared.ensures ∙ sym (overlaps_turned b a ∙ (ap (λ x. overlaps x b) c.in-List-List.is-1 ∙ ap (overlaps (Listed values)) c.in-List-List.is-0))

pub returns-in_default : goal.returns-in_default
returns-in_default c = sym (overlaps_one c.args.other.now c.args.bound.now c.args.one.now c.overlap_uncounted.result c.is_some.result c.requires.one c.overlap_uncounted.ensures (sym c.is_some.ensures))
