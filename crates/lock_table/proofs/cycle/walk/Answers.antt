use Rattle.std.proofs.Common.{◌≡◌, ◌-◌, ◌+◌, ◌<◌, ◌≤◌, true, [], ◌∷◌, ◌++◌, refl, sym, ap, ◌∙◌, arith}
use Rattle.pg_values.specs.Lists.{listed}
use Rattle.lock_table.specs.Graph.{edge, leads}
use Rattle.lock_table.proofs.Chains.{leads_below}
use Rattle.lock_table.proofs.Walks.{begun_first, begun_more, begun_new, begun_last, level_on, level_least, level_none}
use Rattle.lock_table.proofs.cycle.walk.Goals as goal

pub with-list-requires-in-Some-clause-small : goal.with-list-requires-in-Some-clause-small
with-list-requires-in-Some-clause-small c =
    let within = c.loop-left.invariant.within in
    let on : leads c.args.rows.now c.args.s (c.loop-left.left - 1 + 1) c.in-Some.y ≡ true =
    sym (level_on c.args.rows.now c.args.s c.args.count c.loop-left.left c.in-Some.y c.args.levels.now c.nth_set.result c.requires.each c.nth_set.ensures c.loop-left-test.true within) ∙ c.in-Some.ensures.found.1 in
    leads_below c.args.rows.now c.args.s (c.loop-left.left - 1) c.in-Some.y c.requires.few on

pub with-list-requires-in-Some-clause-new : goal.with-list-requires-in-Some-clause-new
with-list-requires-in-Some-clause-new c =
    let within = c.loop-left.invariant.within in
    let n : c.loop-left.left ≡ c.loop-left.left - 1 + 1 = omega arith in
    let on : leads c.args.rows.now c.args.s (c.loop-left.left - 1 + 1) c.in-Some.y ≡ true =
    sym (level_on c.args.rows.now c.args.s c.args.count c.loop-left.left c.in-Some.y c.args.levels.now c.nth_set.result c.requires.each c.nth_set.ensures c.loop-left-test.true within) ∙ c.in-Some.ensures.found.1 in
    begun_new c.args.rows.now c.args.s c.args.count c.loop-left.left (c.loop-left.left - 1) c.loop-left.at c.in-Some.y (listed c.loop-left.list) n c.loop-left.invariant on

pub loop-left-init : goal.loop-left-init
loop-left-init c = begun_first c.args.rows.now c.args.s c.args.count (listed c.with-list.result) (c.with-list.ensures ∙ ap (λ l. l ++ c.args.s ∷ []) c.empty.ensures) c.requires.shortest

pub loop-left-preserved : goal.loop-left-preserved
loop-left-preserved c =
    let within = c.loop-left.invariant.within in
    let n : c.loop-left.left ≡ c.loop-left.left - 1 + 1 = omega arith in
    let on : leads c.args.rows.now c.args.s (c.loop-left.left - 1 + 1) c.in-Some.y ≡ true =
    sym (level_on c.args.rows.now c.args.s c.args.count c.loop-left.left c.in-Some.y c.args.levels.now c.nth_set.result c.requires.each c.nth_set.ensures c.loop-left-test.true within) ∙ c.in-Some.ensures.found.1 in
    begun_more c.args.rows.now c.args.s c.args.count c.loop-left.left (c.loop-left.left - 1) c.loop-left.at c.in-Some.y (listed c.loop-left.list) _ n c.requires.few c.requires.shortest c.loop-left.invariant c.in-Some.ensures.found.0 on
    (λ z lt. level_least c.args.rows.now c.args.s c.args.count c.loop-left.left c.loop-left.at z c.args.levels.now c.nth_set.result c.requires.each c.nth_set.ensures c.loop-left-test.true within (c.in-Some.ensures.found.2 z lt))
    c.with-list-in-Some.ensures

pub returns-in-None : goal.returns-in-None
returns-in-None c = absurd (level_none c.args.rows.now c.args.s c.args.count c.loop-left.left c.loop-left.at c.args.levels.now c.nth_set.result c.requires.each c.nth_set.ensures c.loop-left-test.true c.loop-left.invariant.within c.loop-left.invariant.on (c.in-None.ensures.none refl))

pub returns : goal.returns
returns c =
    let none : c.loop-left.left ≡ 0 = omega arith in
    begun_last c.args.rows.now c.args.s c.args.count c.loop-left.left c.loop-left.at (listed c.loop-left.list) none c.requires.few c.requires.s c.requires.shortest c.loop-left.invariant
