use Rattle.schedule.specs.Run.{start}
use Rattle.schedule.proofs.Keeping.{along, first_world}
use Rattle.schedule.proofs.laws.invariant_holds.Goals as goal

pub returns : goal.returns
returns g c v n ps a x holds known reaches =
    let k = c.keeps.ensures n in
    (along g.I.Invariant.rules n g.I.Invariant.holds k (start g.I.Invariant.rules v n ps) a x reaches (first_world g.I.Invariant.rules n g.I.Invariant.holds k v ps holds known)).property
