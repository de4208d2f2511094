use Rattle.prune_steps.proofs.Runs.{even_kept, gap_kept}
use Rattle.prune_steps.proofs.chain.keeps_default.Goals as goal

pub returns-then-start-eq0 : goal.returns-then-start-eq0
returns-then-start-eq0 g c = λ ch e. even_kept c.args.set.now c.args.short ch c.args.start c.args.end e c.if-start-eq0.true

pub returns : goal.returns
returns g c = λ ch e. gap_kept c.args.set.now c.args.short ch c.args.start c.args.end _ c.ranges_stand_in_row.ensures.row e c.if-short.false c.if-start-eq0.false c.has_gap.ensures.some c.has_gap.ensures.none
