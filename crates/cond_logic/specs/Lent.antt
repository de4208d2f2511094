-- Leaves that are lent.
use Rattle.std.specs.Prelude.{ℕ, List, Option, Some, None}
use Rattle.std.specs.Borrow.{Bor}
use Rattle.pg_values.specs.declared.ids.LeafId.{LeafId}
use Rattle.cond_logic.specs.Tables.{Leaf}

abbrev pub lent_leaf : Option (LeafId × Bor (List ℕ)) → Option Leaf
lent_leaf None = None
lent_leaf (Some (id, name)) = Some (record { id = id; name = name.now })
