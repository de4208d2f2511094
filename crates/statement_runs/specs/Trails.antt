-- The trail of a statement: how many rows it gave or changed, and the leaves that it read (partscript's own).
use Rattle.std.specs.Prelude.{ℕ, zero, suc, ◌==◌, nat_lt, Bool, true, false, if◌then◌else◌, List, [], ◌∷◌, ◌++◌, codes, decimal, count_by}
use Rattle.std.specs.List.{flat_map, list_any}
use Rattle.pg_values.specs.declared.ids.LeafId.{LeafId}
use Rattle.history.specs.declared.catalogue.TableShape.{TableShape}
use Rattle.history.specs.declared.catalogue.TableShape.TheVariants.{Leaf, Level}
use Rattle.history.specs.History.{History}
use Rattle.part_catalog.specs.Found.{made_at, table_number}

-- ---- the name of a leaf

abbrev pub is_leaf : LeafId → LeafId → Bool
is_leaf leaf other = other.number == leaf.number

abbrev pub has_leaf : LeafId → TableShape → Bool
has_leaf leaf (Leaf own) = is_leaf leaf own
has_leaf leaf (Level level) = false

-- that of the table that has it, of so many tables
abbrev pub name_below : History → LeafId → ℕ → List ℕ
name_below h leaf zero = []
name_below h leaf (suc n) = if has_leaf leaf (made_at h n).shape then (made_at h n).name else name_below h leaf n

abbrev pub leaf_name : History → LeafId → List ℕ
leaf_name h leaf = name_below h leaf (table_number h)

-- ---- the leaves, in the order of their first read

abbrev pub is_among : List LeafId → LeafId → Bool
is_among leaves leaf = list_any (is_leaf leaf) leaves

-- behind those that were read before, each leaf that is not one of them
abbrev pub noted : (before reads : List LeafId) → List LeafId
noted before [] = before
noted before (leaf ∷ reads) = noted (if is_among before leaf then before else before ++ leaf ∷ []) reads

abbrev pub firsts : List LeafId → List LeafId
firsts reads = noted [] reads

abbrev pub times : List LeafId → LeafId → ℕ
times reads leaf = count_by (is_leaf leaf) reads

-- ---- the line

-- a leaf that was read k > 1 times is <leaf>*<k>
abbrev pub often : ℕ → List ℕ
often n = if nat_lt 1 n then codes "*" ++ decimal n else []

abbrev pub read_text : History → List LeafId → LeafId → List ℕ
read_text h reads leaf = codes " " ++ leaf_name h leaf ++ often (times reads leaf)

abbrev pub reads_text : History → List LeafId → List ℕ
reads_text h [] = codes " -"
reads_text h (leaf ∷ reads) = flat_map (read_text h (leaf ∷ reads)) (firsts (leaf ∷ reads))

abbrev pub trail_line : (word : List ℕ) → (rows : ℕ) → List LeafId → History → List ℕ
trail_line word rows reads h = codes "trail: " ++ word ++ codes " " ++ decimal rows ++ codes " reads" ++ reads_text h reads ++ codes "\n"

-- where it is asked for
abbrev pub trail_text : Bool → (word : List ℕ) → (rows : ℕ) → List LeafId → History → List ℕ
trail_text false word rows reads h = []
trail_text true word rows reads h = trail_line word rows reads h
