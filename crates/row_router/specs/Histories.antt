-- The tree of a table and the path above it, for a session at a place of the history (the manual, 13.6, 5.11.2, and
-- ALTER TABLE, DETACH PARTITION).
use Rattle.std.specs.Prelude.{ℕ, zero, suc, ◌==◌, Bool, if◌then◌else◌, List, [], ◌∷◌, Option, Some, None, filter, find, map}
use Rattle.std.specs.List.{position_or_len}
use Rattle.pg_values.specs.declared.ids.TableNo.{TableNo}
use Rattle.bound_forms.specs.declared.partition_bound.Bound.{Bound}
use Rattle.bound_forms.specs.Bounds.{comes_after}
use Rattle.history.specs.declared.catalogue.Table.{Table}
use Rattle.history.specs.declared.catalogue.TableShape.{TableShape}
use Rattle.history.specs.declared.catalogue.TableShape.TheVariants.{Leaf, Level}
use Rattle.history.specs.declared.catalogue.Entry.{Entry}
use Rattle.history.specs.declared.catalogue.Check.{Check}
use Rattle.history.specs.declared.catalogue.KeptCheck.{KeptCheck}
use Rattle.history.specs.Snapshots.{TakenSnapshot}
use Rattle.history.specs.Catalogue.{tables_made}
use Rattle.history.specs.History.{History, catalogue_events}
use Rattle.history.specs.Places.{table_at}
use Rattle.history.specs.Presence.{entries_present, entries_shown, checks_of}
use Rattle.row_router.specs.declared.node.Node.{Node}
use Rattle.row_router.specs.declared.path_part.Place.{Place}
use Rattle.row_router.specs.declared.path_part.PathPart.{PathPart}
use Rattle.row_router.specs.Trees.{TableTree, LeafTable, LevelTable, trees_of}

-- ---- tables by their numbers

abbrev pub table_of : ℕ → TableNo
table_of n = record { number = n }

-- ---- plain order

-- an entry put before the first whose bound comes after its own
abbrev pub placed : Entry → List Entry → List Entry
placed e [] = e ∷ []
placed e (x ∷ xs) = if comes_after x.bound e.bound then e ∷ (x ∷ xs) else x ∷ placed e xs

abbrev pub all_placed : List Entry → List Entry → List Entry
all_placed done [] = done
all_placed done (e ∷ es) = all_placed (placed e done) es

-- the entries below a table, in plain order
abbrev pub is_under : ℕ → Entry → Bool
is_under t e = e.parent.number == t

abbrev pub children : List Entry → ℕ → List Entry
children entries t = all_placed [] (filter (is_under t) entries)

abbrev pub bound_of : Entry → Bound
bound_of e = e.bound

abbrev pub child_of_entry : Entry → ℕ
child_of_entry e = e.child.number

-- ---- trees; a path has at most eight tables, so a tree is at most seven levels deep

-- what a tree of the named table says of a table in it; nothing there depends on the named table
abbrev pub node_at : List Table → (named t : ℕ) → Node
node_at tables named t = record { table = table_of t; name = (table_at tables t).name; columns = (table_at tables t).columns }

abbrev pub grown : TableShape → Node → List Bound → List TableTree → TableTree
grown (Leaf leaf) node bounds kids = LeafTable node leaf
grown (Level level) node bounds kids = LevelTable node level bounds (trees_of kids)

-- a table with these entries below it, so many levels deep
abbrev pub tree_within : ℕ → List Table → List Entry → (named t : ℕ) → TableTree
tree_within zero tables entries named t = grown (table_at tables t).shape (node_at tables named t) [] []
tree_within (suc n) tables entries named t =
    grown (table_at tables t).shape (node_at tables named t) (map bound_of (children entries t)) (map (λ e. tree_within n tables entries named (child_of_entry e)) (children entries t))

-- the tree of a table that a session's statement reads under its snapshot: a pending entry is left out where the
-- snapshot sees its mark
unfoldable pub tree_of : History → (session table : ℕ) → TakenSnapshot → TableTree
tree_of h session table snap = tree_within 7 (tables_made (catalogue_events h)) (entries_shown h session snap) table table

-- the tree that a statement which changes tables works on, with all pending entries
unfoldable pub ddl_tree : History → (session table : ℕ) → TableTree
ddl_tree h session table = tree_within 7 (tables_made (catalogue_events h)) (entries_present h session) table table

-- ---- paths

-- the entry of a table that is a partition
abbrev pub is_over : ℕ → Entry → Bool
is_over t e = e.child.number == t

abbrev pub above : List Entry → ℕ → Option Entry
above entries t = find (is_over t) entries

abbrev pub is_entry : Entry → Entry → Bool
is_entry e x = x.id.number == e.id.number

-- the place of an entry among those below its parent
abbrev pub place_among : List Entry → TableShape → Entry → Option Place
place_among kids (Leaf leaf) e = None
place_among kids (Level level) e = Some (record { level = level; bounds = map bound_of kids; child = position_or_len (is_entry e) kids })

abbrev pub place_of : List Table → List Entry → Option Entry → Option Place
place_of tables entries None = None
place_of tables entries (Some e) = place_among (children entries e.parent.number) (table_at tables e.parent.number).shape e

abbrev pub kept_of : Check → KeptCheck
kept_of c = c.kept

abbrev pub part_of : List Table → List Entry → (ℕ → List Check) → ℕ → PathPart
part_of tables entries checks t = record { table = table_of t; checks = map kept_of (checks t); place = place_of tables entries (above entries t) }

abbrev pub parent_in : Option Entry → Option ℕ
parent_in None = None
parent_in (Some e) = Some e.parent.number

-- a table and those above it, upwards; what is said of each and the entry above it are arguments
abbrev pub upwards : ℕ → (ℕ → PathPart) → (ℕ → Option Entry) → Option ℕ → List PathPart
upwards n part up None = []
upwards zero part up (Some t) = []
upwards (suc n) part up (Some t) = part t ∷ upwards n part up (parent_in (up t))

-- the path of a table for a session, pending entries kept, with the CHECKs that count for it
unfoldable pub path_of : History → (session table : ℕ) → List PathPart
path_of h session table =
    let entries = entries_present h session in
    upwards 8 (part_of (tables_made (catalogue_events h)) entries (checks_of h session)) (above entries) (Some table)
