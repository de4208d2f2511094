-- How many tables a catalogue speaks of (the manual, 5.11.2 Declarative Partitioning).
use Rattle.std.specs.Prelude.{ℕ, ◌+◌, max, [], ◌∷◌}
use Rattle.history.specs.Catalogue.{CatalogueEvents, TableMade, EntryAdded}

-- a number above those of all tables that are made, and of all that an entry names
abbrev pub tables_named : CatalogueEvents → ℕ
tables_named [] = 0
tables_named (TableMade t ∷ c) = tables_named c + 1
tables_named (EntryAdded e ∷ c) = max (tables_named c) (max (e.parent.number + 1) (e.child.number + 1))
tables_named (_ ∷ c) = tables_named c
