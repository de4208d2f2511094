use Rattle.std.proofs.Common.{◌≡◌, ◌∙◌, ◌+◌, ◌-◌, ◌/◌, ℕ, sym, ap, [], length, get_or, arith, ◌<◌, rules, FitsSigned, w64}
use Rattle.std.proofs.lemmas.Int.{to_z-of_z}
use Rattle.std.proofs.lemmas.List.{get_or_default}
use Rattle.part_bounds.specs.Stored.{stored, width, passes}
use Rattle.part_bounds.specs.Leads.{AreLeads}
use Rattle.bound_forms.specs.Points.{end_of}
use Rattle.part_bounds.proofs.Halves.{begins, goes_up, goes_down, ends, asked_is, cost_is}
use Rattle.part_bounds.proofs.LeadsStand.{leads_long, lead_here, width_some}
use Rattle.part_bounds.proofs.SearchLaws.{falls_stored, tells_none, tells_more}
use Rattle.part_bounds.proofs.Shared.{as_long}
use Rattle.part_bounds.proofs.stored.search_points.Goals as goal

pub loop-low-init : goal.loop-low-init
loop-low-init g c =
    let are : AreLeads c.args.set.now c.set.inside.leads.value.items = rw c.set.view_is at c.set.invariant.4 in
    let long : c.len-high.result ≡ length (stored c.args.set.now) = omega (arith, c.len-high.ensures, as_long _ _ c.deref-leads.ensures, leads_long c.args.set.now c.set.inside.leads.value.items c.requires.level are) in
    record {
      stands = begins (passes c.args.or_equal (end_of (width c.args.set.now) c.args.n c.args.fill (g.Q.Key.values c.args.key.now))) (stored c.args.set.now) _ _ long;
      tells = tells_none (stored c.args.set.now) (end_of (width c.args.set.now) c.args.n c.args.fill (g.Q.Key.values c.args.key.now));
    }

pub index-requires : goal.index-requires
index-requires g c =
    let are : AreLeads c.args.set.now c.set.inside.leads.value.items = rw c.set.view_is at c.set.invariant.4 in
    let within = c.loop-low.invariant.stands.high_in in
    omega (arith, c.loop-low-test.true, within, as_long _ _ c.deref-leads.ensures, leads_long c.args.set.now c.set.inside.leads.value.items c.requires.level are)

pub test_point-tested-requires-clause-is_point : goal.test_point-tested-requires-clause-is_point
test_point-tested-requires-clause-is_point g c = let within = c.loop-low.invariant.stands.high_in in omega (arith, c.loop-low-test.true, within)

pub test_point-tested-requires-clause-own : goal.test_point-tested-requires-clause-own
test_point-tested-requires-clause-own g c =
    let are : AreLeads c.args.set.now c.set.inside.leads.value.items = rw c.set.view_is at c.set.invariant.4 in
    let within = c.loop-low.invariant.stands.high_in in
    let fits : FitsSigned w64 c.index.result.now = search rules in
    let lt : c.loop-low.low + (c.loop-low.high - c.loop-low.low) / 2 < length (stored c.args.set.now) = omega (arith, c.loop-low-test.true, within) in
    to_z-of_z w64 c.index.result.now fits
    ∙ lead_here c.args.set.now c.set.inside.leads.value.items (c.loop-low.low + (c.loop-low.high - c.loop-low.low) / 2) c.index.result.now c.requires.level are lt (rw c.deref-leads.ensures at c.index.ensures)

pub test_point-tested-requires-clause-lead : goal.test_point-tested-requires-clause-lead
test_point-tested-requires-clause-lead g c =
    let within = c.loop-low.invariant.stands.high_in in
    let fits : FitsSigned w64 c.end_lead-lead.result = search rules in
    let some : 0 < length (stored c.args.set.now) = omega (arith, c.loop-low-test.true, within) in
    to_z-of_z w64 c.end_lead-lead.result fits
    ∙ c.end_lead-lead.ensures (width c.args.set.now)
    (width_some (g.K.KeyKind.admits c.set.inside.kind) c.args.set.now c.args.n c.args.fill (g.Q.Key.values c.args.key.now) c.requires.level (rw c.set.view_is at c.set.invariant.0) (rw c.set.view_is at c.set.invariant.1) c.requires.fits some)

pub loop-low-preserved-then-tested : goal.loop-low-preserved-then-tested
loop-low-preserved-then-tested g c =
    let q = end_of (width c.args.set.now) c.args.n c.args.fill (g.Q.Key.values c.args.key.now) in
    let points = stored c.args.set.now in
    let s = c.loop-low.invariant.stands in
    let middle = c.loop-low.low + (c.loop-low.high - c.loop-low.low) / 2 in
    let within = s.high_in in
    let lt : middle < length points = omega (arith, c.loop-low-test.true, within) in
    record {
      stands = goes_up (passes c.args.or_equal q) points c.loop-low.low c.loop-low.high c.args.steps.now c.loop-low.steps c.test_point-tested.new.steps (get_or points middle []) (falls_stored c.args.set.now c.args.or_equal q) s c.loop-low-test.true
          (get_or_default points middle [] (get_or points middle []) lt) (sym c.test_point-tested.ensures.before ∙ c.if-tested.true) c.test_point-tested.ensures.cost;
      tells = tells_more c.args.set.now q middle c.args.or_equal c.test_point-tested.result.equal lt (sym c.test_point-tested.ensures.before ∙ c.if-tested.true) c.test_point-tested.ensures.equal;
    }

pub loop-low-preserved : goal.loop-low-preserved
loop-low-preserved g c =
    let q = end_of (width c.args.set.now) c.args.n c.args.fill (g.Q.Key.values c.args.key.now) in
    let points = stored c.args.set.now in
    let s = c.loop-low.invariant.stands in
    let middle = c.loop-low.low + (c.loop-low.high - c.loop-low.low) / 2 in
    let within = s.high_in in
    let lt : middle < length points = omega (arith, c.loop-low-test.true, within) in
    record {
      stands = goes_down (passes c.args.or_equal q) points c.loop-low.low c.loop-low.high c.args.steps.now c.loop-low.steps c.test_point-tested.new.steps (get_or points middle []) (falls_stored c.args.set.now c.args.or_equal q) s c.loop-low-test.true
          (get_or_default points middle [] (get_or points middle []) lt) (sym c.test_point-tested.ensures.before ∙ c.if-tested.false) c.test_point-tested.ensures.cost;
      tells = c.loop-low.invariant.tells;
    }

pub returns : goal.returns
returns g c =
    let q = end_of (width c.args.set.now) c.args.n c.args.fill (g.Q.Key.values c.args.key.now) in
    let s = c.loop-low.invariant.stands in
    record {
      points = ends (passes c.args.or_equal q) (stored c.args.set.now) _ _ _ _ s c.loop-low-test.false;
      equal = c.loop-low.invariant.tells;
      later = s.counted;
      counted = asked_is (c.loop-low.steps - c.args.steps.now) _ c.loop-low.low c.loop-low.high c.loop-low-test.false s.asked;
      cost = cost_is (c.loop-low.steps - c.args.steps.now) _ s.cost;
    }
