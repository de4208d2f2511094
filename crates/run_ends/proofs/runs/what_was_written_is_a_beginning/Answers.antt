use Rattle.schedule.specs.Run.{start}
use Rattle.run_ends.proofs.Ends.{ends_at_start, begins}
use Rattle.run_ends.proofs.runs.what_was_written_is_a_beginning.Goals as goal

pub returns : goal.returns
returns g c v n a b ps head before now ranked known part =
    begins g.K.Ranked.rules g.K.Ranked.good (start g.K.Ranked.rules v n ps) head before now (ends_at_start g.K.Ranked.rules n (g.K.Ranked.ranks n) (c.lowers.ensures n) v a b ps ranked known) part
