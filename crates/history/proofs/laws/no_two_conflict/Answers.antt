use Rattle.history.proofs.Holders.{none_conflict}
use Rattle.history.proofs.laws.no_two_conflict.Goals as goal

pub returns : goal.returns
returns c h x y t a b sound = none_conflict h sound x y t a b
