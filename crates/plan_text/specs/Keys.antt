-- The text of a sort key in a plan (14.1.1 EXPLAIN Basics; 7.5 Sorting Rows).
use Rattle.std.specs.Prelude.{ℕ, if◌then◌else◌, List, [], ◌∷◌, ◌++◌, Option, Some, None, slice_get, codes}
use Rattle.std.specs.List.{flat_map}
use Rattle.cond_logic.specs.declared.select.SortBy.{SortBy}
use Rattle.cond_logic.specs.declared.select.SortBy.TheVariants as by
use Rattle.cond_logic.specs.declared.select.SortKey.{SortKey}
use Rattle.cond_logic.specs.Asked.{OutputTree}
use Rattle.cond_logic.specs.Scalars.{ScalarTree, column, literal, table_name, computes, cancels}
use Rattle.plan_text.specs.declared.named_item.NamedItem.{NamedItem}
use Rattle.plan_text.specs.Names.{column_name}

-- the column that an output stands for, `tableoid::regclass` as `tableoid`, any other output by its name
abbrev pub output : List NamedItem → (name : List ℕ) → ScalarTree → List ℕ
output ns name (column c) = column_name ns c
output ns name (literal v) = name
output ns name (table_name item) = codes "tableoid"
output ns name (computes op x y) = name
output ns name (cancels x) = name

abbrev pub output_in : List NamedItem → Option OutputTree → List ℕ
output_in ns None = []
output_in ns (Some o) = output ns o.name o.value

abbrev pub sorted_by : List NamedItem → List OutputTree → SortBy → List ℕ
sorted_by ns os (by.Output place) = output_in ns (slice_get os place)
sorted_by ns os (by.Column c) = column_name ns c
sorted_by ns os (by.TableName item) = codes "tableoid"

-- the direction, and where nulls stand, are told where they are not what is taken without a word
abbrev pub direction : SortKey → List ℕ
direction k =
    if k.descending then codes " DESC" ++ (if k.nulls_first then [] else codes " NULLS LAST")
    else (if k.nulls_first then codes " NULLS FIRST" else [])

abbrev pub key : List NamedItem → List OutputTree → SortKey → List ℕ
key ns os k = sorted_by ns os k.by ++ direction k

-- joined by commas
abbrev pub further : List NamedItem → List OutputTree → List SortKey → List ℕ
further ns os = flat_map (λ k. codes ", " ++ key ns os k)

abbrev pub keys : List NamedItem → List OutputTree → List SortKey → List ℕ
keys ns os [] = []
keys ns os (k ∷ ks) = key ns os k ++ further ns os ks
