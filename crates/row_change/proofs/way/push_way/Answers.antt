use Rattle.std.proofs.Common.{◌<◌, ◌++◌, ◌∷◌, [], ◌∙◌, ap, arith, sym, subst, List, map, position, length, append_assoc, append-nil}
use Rattle.pg_values.specs.declared.ids.TableNo.{TableNo}
use Rattle.bound_forms.specs.declared.level.KeyColumn.{KeyColumn}
use Rattle.bound_forms.specs.Points.{picked}
use Rattle.bound_forms.specs.Accepts.{accepts_among, FitsSet}
use Rattle.row_router.specs.Trees.{key_of}
use Rattle.row_router.specs.Seen.{seen, items_of}
use Rattle.row_router.proofs.Levels.{here, chosen, none_chosen, found_within}
use Rattle.row_router.proofs.Costs.{chosen_outcomes, no_outcomes, costs_more}
use Rattle.row_change.specs.Ways.{way_below}
use Rattle.row_change.proofs.Costs.{costs_so_far}
use Rattle.row_change.proofs.Walk.{way_step, way_end}
use Rattle.row_change.proofs.way.push_way.Goals as goal

pub find_child-requires : goal.find_child-requires
find_child-requires g c =
    let h = here c.loop-node.node.now c.args.row.now c.in-Level.level c.in-Level.bounds c.in-Level.children c.in-Level.is c.loop-node.invariant.fits in
    subst (λ (cs : List KeyColumn). FitsSet c.in-Level.bounds (picked c.args.row.now (map (λ x. x.position) cs))) (sym c.as_slice-columns.ensures) h.key

pub at-node-requires : goal.at-node-requires
at-node-requires g c =
    let found = c.in-Some.ensures.child ∙ ap (λ (cs : List KeyColumn). position (accepts_among c.in-Level.bounds (picked c.args.row.now (map (λ x. x.position) cs))) c.in-Level.bounds) c.as_slice-columns.ensures in
    let within = found_within (accepts_among c.in-Level.bounds (key_of c.in-Level.level c.args.row.now)) c.in-Level.bounds c.in-Some.child found in
    let h = here c.loop-node.node.now c.args.row.now c.in-Level.level c.in-Level.bounds c.in-Level.children c.in-Level.is c.loop-node.invariant.fits in
    omega (arith, h.paired, within)

pub loop-node-smaller : goal.loop-node-smaller
loop-node-smaller g c =
    let found = c.in-Some.ensures.child ∙ ap (λ (cs : List KeyColumn). position (accepts_among c.in-Level.bounds (picked c.args.row.now (map (λ x. x.position) cs))) c.in-Level.bounds) c.as_slice-columns.ensures in
    let within = found_within (accepts_among c.in-Level.bounds (key_of c.in-Level.level c.args.row.now)) c.in-Level.bounds c.in-Some.child found in
    (chosen c.loop-node.node.now c.args.row.now c.in-Level.level c.in-Level.bounds c.in-Level.children c.in-Some.child c.at-node.result.now c.in-Level.is c.loop-node.invariant.fits c.stands_in_plain_order.ensures found within c.at-node.ensures).lower

pub loop-node-preserved : goal.loop-node-preserved
loop-node-preserved g c =
    let found = c.in-Some.ensures.child ∙ ap (λ (cs : List KeyColumn). position (accepts_among c.in-Level.bounds (picked c.args.row.now (map (λ x. x.position) cs))) c.in-Level.bounds) c.as_slice-columns.ensures in
    let within = found_within (accepts_among c.in-Level.bounds (key_of c.in-Level.level c.args.row.now)) c.in-Level.bounds c.in-Some.child found in
    let i = c.loop-node.invariant in
    let h = here c.loop-node.node.now c.args.row.now c.in-Level.level c.in-Level.bounds c.in-Level.children c.in-Level.is i.fits in
    let lt : c.in-Some.child < length (items_of c.in-Level.children) = omega (arith, h.paired, within) in
    let x = chosen c.loop-node.node.now c.args.row.now c.in-Level.level c.in-Level.bounds c.in-Level.children c.in-Some.child c.at-node.result.now c.in-Level.is i.fits c.stands_in_plain_order.ensures found within c.at-node.ensures in
    let s = way_step c.loop-node.node.now c.args.row.now c.in-Level.level c.in-Level.bounds c.in-Level.children c.in-Some.child c.at-node.result.now c.in-Level.is found lt c.at-node.ensures in
    let whole = chosen_outcomes c.loop-node.node.now c.args.row.now c.in-Level.level c.in-Level.bounds c.in-Level.children c.in-Some.child c.at-node.result.now c.in-Level.is found lt c.at-node.ensures in
    record {
      fits = x.fits;
      leaf = sym x.way ∙ i.leaf;
      way = ap (λ (ts : List TableNo). ts ++ way_below c.args.row.now (seen c.at-node.result.now)) c.in_ok-push-in-Some.ensures.items
          ∙ (append_assoc c.loop-node.out.items (c.at-node.result.now.node.table ∷ []) (way_below c.args.row.now (seen c.at-node.result.now)) ∙ (ap (λ (ts : List TableNo). c.loop-node.out.items ++ ts) (sym s) ∙ i.way));
      later = omega (arith, i.later, c.in-Some.ensures.later);
      cost = costs_more _ _ _ _ _ _ _ i.later c.in-Some.ensures.later c.in-Some.ensures.cost whole i.cost;
    }

pub returns-in-None-clause-leaf : goal.returns-in-None-clause-leaf
returns-in-None-clause-leaf g c =
    let found = c.in-None.ensures.child ∙ ap (λ (cs : List KeyColumn). position (accepts_among c.in-Level.bounds (picked c.args.row.now (map (λ x. x.position) cs))) c.in-Level.bounds) c.as_slice-columns.ensures in
    let i = c.loop-node.invariant in
    sym (none_chosen c.loop-node.node.now c.args.row.now c.in-Level.level c.in-Level.bounds c.in-Level.children c.in-Level.is i.fits c.stands_in_plain_order.ensures found).0 ∙ i.leaf

pub returns-in-None-clause-tables : goal.returns-in-None-clause-tables
returns-in-None-clause-tables g c =
    let found = c.in-None.ensures.child ∙ ap (λ (cs : List KeyColumn). position (accepts_among c.in-Level.bounds (picked c.args.row.now (map (λ x. x.position) cs))) c.in-Level.bounds) c.as_slice-columns.ensures in
    let i = c.loop-node.invariant in
    let e = way_end c.loop-node.node.now c.args.row.now c.in-Level.level c.in-Level.bounds c.in-Level.children c.in-Level.is found in
    sym (append-nil c.loop-node.out.items) ∙ (ap (λ (ts : List TableNo). c.loop-node.out.items ++ ts) (sym e) ∙ i.way)

pub returns-in_err-push-in-Some-clause-cost : goal.returns-in_err-push-in-Some-clause-cost
returns-in_err-push-in-Some-clause-cost g c =
    let found = c.in-Some.ensures.child ∙ ap (λ (cs : List KeyColumn). position (accepts_among c.in-Level.bounds (picked c.args.row.now (map (λ x. x.position) cs))) c.in-Level.bounds) c.as_slice-columns.ensures in
    let within = found_within (accepts_among c.in-Level.bounds (key_of c.in-Level.level c.args.row.now)) c.in-Level.bounds c.in-Some.child found in
    let i = c.loop-node.invariant in
    let h = here c.loop-node.node.now c.args.row.now c.in-Level.level c.in-Level.bounds c.in-Level.children c.in-Level.is i.fits in
    let inside : c.in-Some.child < length (items_of c.in-Level.children) = omega (arith, within, h.paired) in
    let whole = chosen_outcomes c.loop-node.node.now c.args.row.now c.in-Level.level c.in-Level.bounds c.in-Level.children c.in-Some.child c.at-node.result.now c.in-Level.is found inside c.at-node.ensures in
    costs_so_far _ _ c.args.row.now (seen c.at-node.result.now) (costs_more _ _ _ _ _ _ _ i.later c.in-Some.ensures.later c.in-Some.ensures.cost whole i.cost)

pub returns-in-None-clause-cost : goal.returns-in-None-clause-cost
returns-in-None-clause-cost g c =
    let found = c.in-None.ensures.child ∙ ap (λ (cs : List KeyColumn). position (accepts_among c.in-Level.bounds (picked c.args.row.now (map (λ x. x.position) cs))) c.in-Level.bounds) c.as_slice-columns.ensures in
    let i = c.loop-node.invariant in
    let whole = no_outcomes c.loop-node.node.now c.args.row.now c.in-Level.level c.in-Level.bounds c.in-Level.children c.in-Level.is found in
    let all = costs_more _ _ _ _ _ _ _ i.later c.in-None.ensures.later c.in-None.ensures.cost whole i.cost in
    omega (arith, all)
