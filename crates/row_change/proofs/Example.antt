-- A leaf that an INSERT names itself: NOT NULL is told first, then the kept CHECK, then the bound.
use Rattle.std.proofs.Common.{◌≡◌, ℕ, true, false, List, [], ◌∷◌, ◌++◌, refl, Some}
use Rattle.std.specs.Prelude.{codes}
use Rattle.pg_values.specs.declared.value.Kind.TheVariants.{Text as KText}
use Rattle.pg_values.specs.declared.value.Value.{Value}
use Rattle.pg_values.specs.declared.value.Value.TheVariants.{Null, Text}
use Rattle.pg_values.specs.declared.fault.Fault.{Fault}
use Rattle.refusals.specs.Refusals.{fault_of}
use Rattle.bound_forms.specs.declared.level.Level.{Level as OneLevel}
use Rattle.pg_values.specs.declared.strategy.Strategy.TheVariants.{Range as ByRange}
use Rattle.bound_forms.specs.declared.partition_bound.Bound.{Bound}
use Rattle.bound_forms.specs.declared.partition_bound.Bound.TheVariants.{Range}
use Rattle.bound_forms.specs.declared.point.Edge.TheVariants.{Min, At}
use Rattle.history.specs.declared.catalogue.Table.{Table}
use Rattle.history.specs.declared.catalogue.TableShape.TheVariants.{Leaf}
use Rattle.row_router.specs.declared.path_part.PathPart.{PathPart}
use Rattle.row_change.specs.declared.target.Target.{Target}
use Rattle.row_change.specs.Placing.{bounds_faults}
use Rattle.row_change.specs.Storing.{target_faults, own_null_faults, check_faults}

abbrev by_a : OneLevel
by_a = record { strategy = ByRange; columns = (record { position = 0; kind = KText }) ∷ []; one_if_list = λ list. refl }

-- FROM (lower) TO (upper)
abbrev between : List ℕ → List ℕ → Bound
between lower upper = Range (At (Text lower) ∷ Min ∷ []) (At (Text upper) ∷ Min ∷ [])

-- p (a text NOT NULL, b text)
abbrev p : Table
p = record {
  id = record { number = 0 };
  name = codes "p";
  columns = (record { name = codes "a"; kind = KText; not_null = true }) ∷ (record { name = codes "b"; kind = KText; not_null = false }) ∷ [];
  shape = Leaf (record { number = 0 });
  by = record { number = 0 };
  cmd = 0;
}

-- FOR VALUES FROM ('c') TO ('m') of a table by RANGE (a), with a CHECK of FROM ('g') TO ('t') that was kept
abbrev path : List PathPart
path = (record {
  table = record { number = 0 };
  checks = (record { level = by_a; bound = between (codes "g") (codes "t") }) ∷ [];
  place = Some (record { level = by_a; bounds = between (codes "c") (codes "m") ∷ []; child = 0 });
}) ∷ []

abbrev null_told : Fault
null_told = fault_of (codes "23502") (codes "a" ∷ codes "p" ∷ [])

abbrev check_told : List ℕ → Fault
check_told row = fault_of (codes "23514") (codes "<t> has a kept CHECK that refuses <row>" ∷ codes "p" ∷ row ∷ [])

abbrev bound_told : List ℕ → Fault
bound_told key = fault_of (codes "23514") (codes "<t> does not accept <key>" ∷ codes "p" ∷ key ∷ [])

abbrev told : List Value → List Fault
told row = own_null_faults (p ∷ []) p.id row ++ (check_faults (p ∷ []) path row ++ bounds_faults (p ∷ []) path row)

-- p is named itself
record IsNamed (target : Target) : Type 0 where
  table : target.table ≡ p.id
  path : target.path ≡ path
  is_named : target.is_named ≡ true

named : (target : Target) (row : List Value) → IsNamed target → target_faults (p ∷ []) target row ≡ told row
named target row n = rw (n.table, n.path, n.is_named) refl

null_row : (target : Target) → IsNamed target → target_faults (p ∷ []) target (Null ∷ Null ∷ []) ≡ null_told ∷ check_told (codes "(null, null)") ∷ bound_told (codes "(null)") ∷ []
null_row target n = named target (Null ∷ Null ∷ []) n

far_row : (target : Target) → IsNamed target → target_faults (p ∷ []) target (Text (codes "z") ∷ Text (codes "b") ∷ []) ≡ check_told (codes "(z, b)") ∷ bound_told (codes "(z)") ∷ []
far_row target n = named target (Text (codes "z") ∷ Text (codes "b") ∷ []) n

checked_row : (target : Target) → IsNamed target → target_faults (p ∷ []) target (Text (codes "d") ∷ Null ∷ []) ≡ check_told (codes "(d, null)") ∷ []
checked_row target n = named target (Text (codes "d") ∷ Null ∷ []) n

outside_row : (target : Target) → IsNamed target → target_faults (p ∷ []) target (Text (codes "p") ∷ Null ∷ []) ≡ bound_told (codes "(p)") ∷ []
outside_row target n = named target (Text (codes "p") ∷ Null ∷ []) n

good_row : (target : Target) → IsNamed target → target_faults (p ∷ []) target (Text (codes "h") ∷ Null ∷ []) ≡ []
good_row target n = named target (Text (codes "h") ∷ Null ∷ []) n
