use Rattle.std.proofs.Common.{◌≡◌, ◌+◌, ◌<◌, ◌==◌, ◌||◌, ℕ, Bool, true, false, sym, ap, ◌∙◌, arith}
use Rattle.std.proofs.lemmas.Grind.{common_steps}
use Rattle.std.proofs.lemmas.Bool.Decides.{nat_tests}
use Rattle.pg_values.specs.Sets.{has}
use Rattle.lock_table.specs.Graph.{leads}
use Rattle.lock_table.proofs.Chains.{leads_more, free_of}
use Rattle.lock_table.proofs.Searches.{searched_first, searched_more, found_room, shortest_of}
use Rattle.lock_table.proofs.Walks.{no_cycle_of}
use Rattle.lock_table.proofs.cycle.least_cycle.Goals as goal

alone : (x s : ℕ) (one : ℕ → Bool) → one x ≡ false → ((x == s) || one x) ≡ (x == s)
alone x s one e = grind (arith, common_steps, e)

pub loop-reached-init : goal.loop-reached-init
loop-reached-init c = searched_first c.args.rows.now c.args.s c.with-level.result c.empty-reached.result _ c.no_sets-levels.ensures (λ x. c.with-level.ensures x ∙ alone x c.args.s (has c.empty.result) (c.empty.ensures.has x)) c.empty-reached.ensures.has

pub walk-requires-clause-shortest : goal.walk-requires-clause-shortest
walk-requires-clause-shortest c =
    let g = c.args.rows.now in
    let s = c.args.s in
    let k = c.loop-reached.count in
    let i = c.loop-reached.invariant in
    let is : (x : ℕ) → has c.behind-level.result x ≡ leads g s (k + 1) x = λ x. c.behind-level.ensures (leads g s k) i.is x ∙ sym (leads_more g s k x) in
    shortest_of g s k c.loop-reached.level c.loop-reached.reached c.behind-level.result c.loop-reached.levels i is (sym c.has.ensures.is ∙ c.if-has.true)

pub returns-then-is_within-clause-none : goal.returns-then-is_within-clause-none
returns-then-is_within-clause-none c none =
    let g = c.args.rows.now in
    let s = c.args.s in
    let k = c.loop-reached.count in
    let i = c.loop-reached.invariant in
    let is : (x : ℕ) → has c.behind-level.result x ≡ leads g s (k + 1) x = λ x. c.behind-level.ensures (leads g s k) i.is x ∙ sym (leads_more g s k x) in
    no_cycle_of g s c.requires.few c.requires.s
    (free_of g s k (has c.loop-reached.reached) (λ x e. c.is_within.ensures.all c.if-is_within.true x (is x ∙ e)) i.near i.only i.not_yet)

pub bounds-levels-count : goal.bounds-levels-count
bounds-levels-count c =
    let g = c.args.rows.now in
    let s = c.args.s in
    let k = c.loop-reached.count in
    let i = c.loop-reached.invariant in
    let is : (x : ℕ) → has c.behind-level.result x ≡ leads g s (k + 1) x = λ x. c.behind-level.ensures (leads g s k) i.is x ∙ sym (leads_more g s k x) in
    let out = c.is_within.ensures.some c.if-is_within.false in
    found_room g s k out.0 c.loop-reached.level c.loop-reached.reached c.behind-level.result c.loop-reached.levels c.requires.few i is out.2 out.3

pub loop-reached-smaller : goal.loop-reached-smaller
loop-reached-smaller c =
    let g = c.args.rows.now in
    let s = c.args.s in
    let k = c.loop-reached.count in
    let i = c.loop-reached.invariant in
    let is : (x : ℕ) → has c.behind-level.result x ≡ leads g s (k + 1) x = λ x. c.behind-level.ensures (leads g s k) i.is x ∙ sym (leads_more g s k x) in
    let out = c.is_within.ensures.some c.if-is_within.false in
    let room = found_room g s k out.0 c.loop-reached.level c.loop-reached.reached c.behind-level.result c.loop-reached.levels c.requires.few i is out.2 out.3 in
    omega (arith, room)

pub loop-reached-preserved : goal.loop-reached-preserved
loop-reached-preserved c =
    let g = c.args.rows.now in
    let s = c.args.s in
    let k = c.loop-reached.count in
    let i = c.loop-reached.invariant in
    let is : (x : ℕ) → has c.behind-level.result x ≡ leads g s (k + 1) x = λ x. c.behind-level.ensures (leads g s k) i.is x ∙ sym (leads_more g s k x) in
    let out = c.is_within.ensures.some c.if-is_within.false in
    searched_more g s k out.0 c.loop-reached.level c.loop-reached.reached c.behind-level.result c.union-reached.result c.loop-reached.levels c.requires.few i is c.union-reached.ensures out.2 out.3 (sym c.has.ensures.is ∙ c.if-has.false)
