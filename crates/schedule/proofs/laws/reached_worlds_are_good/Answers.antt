use Rattle.schedule.proofs.Ends.{good_at}
use Rattle.schedule.proofs.laws.reached_worlds_are_good.Goals as goal

pub returns : goal.returns
returns g c w a x runs well b y reaches = good_at g.D.Database.rules g.D.Database.good w a x runs.reaches runs.ends well b y reaches
