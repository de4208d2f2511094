use Rattle.std.proofs.Common.{ℤ, ap, ◌∙◌, [], get_or, w64, to_z, of_z}
use Rattle.std.specs.Prelude.{int_lt}
use Rattle.std.proofs.lemmas.Int.{to_z-of_z}
use Rattle.bound_forms.specs.Points.{end_of}
use Rattle.part_bounds.specs.Stored.{stored, width}
use Rattle.part_bounds.proofs.LeadLaws.{told_before, told_equal, fits_width}
use Rattle.part_bounds.proofs.stored.test_point.Goals as goal

pub returns-then-own-lead-clause-before : goal.returns-then-own-lead-clause-before
returns-then-own-lead-clause-before g c =
    let values = g.Q.Key.values c.args.key.now in
    let fit = fits_width c.args.set.now c.args.n c.args.fill values c.args.i c.requires.fits c.requires.is_point in
    ap (λ (z : ℤ). int_lt z (to_z w64 (of_z w64 c.args.lead))) (to_z-of_z w64 c.args.own c.ranges.own) ∙ ap (int_lt c.args.own) (to_z-of_z w64 c.args.lead c.ranges.lead)
    ∙ told_before (get_or (stored c.args.set.now) c.args.i []) (end_of (width c.args.set.now) c.args.n c.args.fill values) c.args.own c.args.lead c.args.or_equal fit c.requires.own c.requires.lead c.ranges.own c.ranges.lead
    (λ e. c.if-own-lead.true (ap (of_z w64) e))

pub returns-then-own-lead-clause-equal : goal.returns-then-own-lead-clause-equal
returns-then-own-lead-clause-equal g c =
    let values = g.Q.Key.values c.args.key.now in
    let fit = fits_width c.args.set.now c.args.n c.args.fill values c.args.i c.requires.fits c.requires.is_point in
    told_equal (get_or (stored c.args.set.now) c.args.i []) (end_of (width c.args.set.now) c.args.n c.args.fill values) c.args.own c.args.lead fit c.requires.own c.requires.lead c.ranges.own c.ranges.lead
    (λ e. c.if-own-lead.true (ap (of_z w64) e))
