use Rattle.std.proofs.Common.{◌≡◌, ◌++◌, ◌∙◌, [], ◌∷◌, ℤ, ap, rules, FitsSigned, w64}
use Rattle.std.proofs.lemmas.Int.{to_z-of_z}
use Rattle.part_bounds.proofs.LeadsStand.{listed_more, listed_done}
use Rattle.part_bounds.proofs.lead.add_listed.Goals as goal

pub loop-s-preserved : goal.loop-s-preserved
loop-s-preserved c =
    let fits : FitsSigned w64 c.lead_at.result = search rules in
    let put = c.in_ok-push.ensures.items ∙ ap (λ (z : ℤ). c.loop-s.leads.items ++ z ∷ []) (to_z-of_z w64 c.lead_at.result fits) in
    listed_more c.args.bounds.now _ c.loop-s.leads.items c.loop-s.s-index c.args.listings.now _ c.lead_at.result c.push.new.self.items c.loop-s-test.true c.lead_at.ensures put c.loop-s.invariant

pub returns : goal.returns
returns c = listed_done c.args.bounds.now _ _ c.loop-s.s-index c.args.listings.now c.loop-s-test.false c.loop-s.invariant
