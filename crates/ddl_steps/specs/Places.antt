-- Which rows may not be in a table that becomes a partition, and in the default partition beside a new one (the manual,
-- ALTER TABLE, ATTACH PARTITION, and 5.11.2).
use Rattle.std.specs.Prelude.{ℕ, Bool, not, ◌||◌, is_some, List, [], ◌∷◌, Option, Some, None}
use Rattle.pg_values.specs.declared.value.Value.{Value}
use Rattle.pg_values.specs.declared.ids.TableNo.{TableNo}
use Rattle.refusals.specs.Refusals.{outside_new_bounds, default_has_row}
use Rattle.bound_forms.specs.declared.partition_bound.Bound.{Bound}
use Rattle.bound_forms.specs.Accepts.{accepts, accepts_among}
use Rattle.history.specs.History.{History, catalogue_events}
use Rattle.row_router.specs.Histories.{ddl_tree, path_of}
use Rattle.row_router.specs.Trees.{leaves}
use Rattle.row_router.specs.declared.path.PathTest.TheVariants.{Bounds, Checks}
use Rattle.row_router.specs.Paths.{refused}
use Rattle.part_catalog.specs.Found.{made_at}
use Rattle.part_ddl.specs.Placing.{bounds_below}
use Rattle.soundness.specs.Worlds.{key_at}
use Rattle.ddl_steps.specs.Scans.{Scan}

-- ---- a table that becomes a partition

-- a place above the parent, or a CHECK that was kept there, refuses the row
abbrev pub is_refused_above : History → (session parent : ℕ) → List Value → Bool
is_refused_above h s p row = is_some (refused Bounds row (path_of h s p)) || is_some (refused Checks row (path_of h s p))

-- the new bound, among those of its siblings, does not accept the row, or it is refused above
abbrev pub breaks_place : History → (session parent : ℕ) → Bound → List Value → Bool
breaks_place h s p b row = not (accepts_among (bounds_below h s p) (key_at (catalogue_events h) p row) b) || is_refused_above h s p row

abbrev pub place_scan : History → (session parent table : ℕ) → Bound → Scan
place_scan h s p t b = record {
  leaves = leaves (ddl_tree h s t);
  breaks = breaks_place h s p b;
  fault = outside_new_bounds (made_at h t).name;
}

-- ---- the default partition beside it

-- the new bound accepts the row
abbrev pub breaks_default : History → (parent : ℕ) → Bound → List Value → Bool
breaks_default h p b row = accepts (key_at (catalogue_events h) p row) b

abbrev pub default_scan : History → (session parent : ℕ) → Bound → (name : List ℕ) → Option TableNo → List Scan
default_scan h s p b name None = []
default_scan h s p b name (Some d) = record {
  leaves = leaves (ddl_tree h s d.number);
  breaks = breaks_default h p b;
  fault = λ row. default_has_row (made_at h d.number).name row name;
} ∷ []
