-- The numbers of sessions.
use Rattle.std.specs.Prelude.{◌≡◌, ℕ, ◌<◌, List, true, nat_eq}
use Rattle.std.specs.List.{list_any}

-- each of the numbers is one of a session
abbrev pub AreBelow65 : List ℕ → Type 0
AreBelow65 xs = (q : ℕ) → list_any (nat_eq q) xs ≡ true → q < 65
