-- Events that may come after a history, one after the other.
use Rattle.std.specs.Prelude.{List, [], ◌∷◌, ◌++◌}
use Rattle.history.specs.History.{Event, History}
use Rattle.history.specs.Legal.{May, command_of, IsInOrder}
use Rattle.soundness.specs.Legal.{IsPermitted}

-- the event is legal and permitted after the history
pub record MayCome (e : Event) (h : History) : Type 0 where
  pub legal : May e h
  pub in_order : IsInOrder (command_of e) h
  pub permitted : IsPermitted e h

-- so is each of the events, the newest of which stands first
abbrev pub MayFollow : List Event → History → Type 0
MayFollow [] h = Unit {0}
MayFollow (e ∷ es) h = MayCome e (es ++ h) × MayFollow es h
