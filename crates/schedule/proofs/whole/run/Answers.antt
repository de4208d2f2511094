use Rattle.std.proofs.Common.{rules, ◌≡◌, ◌∙◌}
use Rattle.schedule.specs.Lines.{heading}
use Rattle.schedule.specs.Run.{start}
use Rattle.schedule.proofs.Pieces.{nothing_yet, both}
use Rattle.schedule.proofs.Results.{if_err}
use Rattle.schedule.proofs.Runs.{cut_head, behind_head}
use Rattle.schedule.proofs.whole.run.Goals as goal

pub returns-in_err-head-clause-cut : goal.returns-in_err-head-clause-cut
returns-in_err-head-clause-cut g c = if_err c.from_residual.result _ (λ v st. cut_head _ _ _ _ _ _ (g.met.D.Database.stands_are_good _ v st) (nothing_yet _ _))

pub returns-in_err-engine-clause-cut : goal.returns-in_err-engine-clause-cut
returns-in_err-engine-clause-cut g c = if_err c.from_residual-in_err-engine.result _ (λ v st. cut_head _ _ _ _ _ _ (g.met.D.Database.stands_are_good _ v st) (nothing_yet _ _))

pub returns-in_err-put-clause-cut : goal.returns-in_err-put-clause-cut
returns-in_err-put-clause-cut g c =
    let head : c.deref.result.now ≡ heading (g.D.Database.count c.args.db) = search rules in
    let wrote = rw head at c.in_err-put.ensures.err in
    if_err c.from_residual-in_err-put.result _ (λ v st. cut_head _ _ _ _ _ _ (g.met.D.Database.stands_are_good _ v st) wrote)

pub returns-in_err-run_to_end-clause-cut : goal.returns-in_err-run_to_end-clause-cut
returns-in_err-run_to_end-clause-cut g c =
    let head : c.deref.result.now ≡ heading (g.D.Database.count c.args.db) = search rules in
    let wrote = rw head at c.in_ok-put.ensures.ok in
    if_err c.from_residual-in_err-run_to_end.result _ (λ v st. behind_head _ _ _ _ _ _ _ wrote (c.in_err-run_to_end.ensures.cut _ (c.in_ok-engine.ensures v st)))

pub returns-clause-done : goal.returns-clause-done
returns-clause-done g c v st =
    let head : c.deref.result.now ≡ heading (g.D.Database.count c.args.db) = search rules in
    let wrote = rw head at c.in_ok-put.ensures.ok in
    let p = c.in_ok-run_to_end.ensures.done (start g.D.Database.rules v (g.D.Database.count c.args.db) c.args.permutations.now) (c.in_ok-engine.ensures v st) in
    record {
      lines = p.lines;
      last = p.last;
      runs = p.runs;
      good = p.good;
      written = both _ _ _ _ _ wrote p.written;
      ends = c.into_end.ensures ∙ p.stands.end;
    }
