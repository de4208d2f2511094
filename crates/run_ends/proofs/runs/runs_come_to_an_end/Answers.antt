use Rattle.run_ends.proofs.Ends.{ends_at_start}
use Rattle.run_ends.proofs.runs.runs_come_to_an_end.Goals as goal

pub returns : goal.returns
returns g c v n a b ps ranked known = ends_at_start g.K.Ranked.rules n (g.K.Ranked.ranks n) (c.lowers.ensures n) v a b ps ranked known
