-- The sessions of a list, in order.
use Rattle.std.specs.Prelude.{ℕ, List, take}
use Rattle.pg_values.specs.declared.session_list.SessionList.{SessionList}

abbrev pub listed : SessionList → List ℕ
listed l = take l.count l.places
