use Rattle.std.proofs.Common.{◌∙◌, rules, FitsSigned, w64}
use Rattle.std.proofs.lemmas.Int.{to_z-of_z}
use Rattle.part_bounds.proofs.LeadsStand.{end_valued}
use Rattle.part_bounds.proofs.lead.end_lead.Goals as goal

pub returns-else-n-eq0 : goal.returns-else-n-eq0
returns-else-n-eq0 g c = λ w some.
    let fits : FitsSigned w64 c.value_lead.result = search rules in
    to_z-of_z w64 c.value_lead.result fits
    ∙ end_valued c.args.n c.args.fill (g.Q.Key.values c.args.key.now) c.value.result.now c.value_lead.result c.if-n-eq0.false c.value.ensures c.value_lead.ensures w some
