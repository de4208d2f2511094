use Rattle.std.proofs.Common.{◌∙◌, ap, refl}
use Rattle.std.specs.Ordering.{ordering_then}
use Rattle.std.specs.declared.cmp.Ordering.TheVariants.{Less}
use Rattle.part_bounds.proofs.ListingLaws.{end_zero, end_one, end_more}
use Rattle.part_bounds.proofs.listing.cmp_value_end.Goals as goal

pub returns-then-n-eq0 : goal.returns-then-n-eq0
returns-then-n-eq0 g c = c.cmp_filled.ensures c.args.value.now ∙ end_zero c.args.value.now c.args.fill (g.Q.Key.values c.args.key.now) c.args.n c.if-n-eq0.true

pub returns-then-n-eq1 : goal.returns-then-n-eq1
returns-then-n-eq1 g c =
    c.then.ensures ∙ rw (c.cmp_any-first.ensures, c.cmp_fill.ensures) refl
    ∙ end_one c.args.value.now c.value.result.now c.args.fill (g.Q.Key.values c.args.key.now) c.args.n c.if-n-eq1.true c.value.ensures

pub returns : goal.returns
returns g c =
    c.then-2.ensures ∙ ap (λ r. ordering_then r Less) c.cmp_any-first.ensures
    ∙ end_more c.args.value.now c.value.result.now c.args.fill (g.Q.Key.values c.args.key.now) c.args.n c.if-n-eq0.false c.if-n-eq1.false c.requires c.value.ensures
