-- Entries that are there together (the manual, 5.11.2 Declarative Partitioning; CREATE TABLE, PARTITION OF).
use Rattle.std.specs.Prelude.{◌≡◌, true, false, List}
use Rattle.std.specs.List.{AllPairs}
use Rattle.bound_forms.specs.Bounds.{overlaps, are_siblings}
use Rattle.history.specs.declared.catalogue.Entry.{Entry}

-- below one table the bounds of the two do not overlap, and can stand side by side: of one strategy, where each may be
-- DEFAULT if that strategy has one, and of two moduli one is a factor of the other
abbrev pub CanStandTogether : Entry → Entry → Type 0
CanStandTogether a b = a.parent.number ≡ b.parent.number → (overlaps a.bound b.bound ≡ false) × (are_siblings a.bound b.bound ≡ true)

abbrev pub AreSiblings : List Entry → Type 0
AreSiblings entries = AllPairs CanStandTogether entries
