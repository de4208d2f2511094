use Rattle.std.proofs.Common.{◌≡◌, ◌∙◌, ◌<◌, ap, sym, Bor, length, map}
use Rattle.refusals.specs.Refusals.{bound_overlaps}
use Rattle.bound_forms.specs.Bounds.{overlaps}
use Rattle.history.specs.declared.catalogue.Entry.{Entry}
use Rattle.part_ddl.proofs.First.{found_child, overlap_refused, overlap_passed}
use Rattle.part_ddl.proofs.placing.check_overlap.Goals as goal

pub name_of-name-requires : goal.name_of-name-requires
name_of-name-requires c = found_child (λ t. t.number < length c.args.catalog.now.tables) (overlaps c.args.bound.now) _ c.in-Some.other (sym c.in-Some.is ∙ c.overlapping.ensures) c.requires.known

pub returns-in_ok-bound_overlaps-in-Some : goal.returns-in_ok-bound_overlaps-in-Some
returns-in_ok-bound_overlaps-in-Some c = λ h catalog.
    overlap_refused h (map (λ (e : Bor Entry). e.now) c.args.partitions.now) c.args.bound.now c.in-Some.other c.in_ok-bound_overlaps-in-Some.field-0
    (sym c.overlapping.ensures ∙ c.in-Some.is) (c.in_ok-bound_overlaps-in-Some.ensures ∙ ap bound_overlaps (c.name_of-name.ensures h catalog))

pub returns-in-None : goal.returns-in-None
returns-in-None c = λ h catalog.
    overlap_passed h (map (λ (e : Bor Entry). e.now) c.args.partitions.now) c.args.bound.now (sym c.overlapping.ensures ∙ c.in-None.is)
