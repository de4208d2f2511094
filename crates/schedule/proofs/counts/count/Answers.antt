use Rattle.std.proofs.Common.{◌∙◌, sym, subst}
use Rattle.schedule.specs.Run.{start}
use Rattle.schedule.proofs.counts.count.Goals as goal

pub returns : goal.returns
returns g c v st =
    let first = c.in_ok-engine.ensures v st in
    let p = c.in_ok-counts.ensures.counted (start g.D.Database.rules v (g.D.Database.count c.args.db) c.args.permutations.now) first in (
      p.last,
      record {
        lines = p.lines;
        runs = record { reaches = p.reaches; ends = c.in_ok-counts.ensures.ends p.last p.stands };
        good = p.good;
        counts = c.into_counted.ensures.counts ∙ p.counts;
        ends = c.into_counted.ensures.end ∙ p.stands.end;
      },
      subst (λ d. g.D.Database.stands d p.last.db) (sym c.into_counted.ensures.db) p.stands.db,
    )
