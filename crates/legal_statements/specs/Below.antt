-- The tables of a tree (the manual, 5.11.2 Declarative Partitioning).
use Rattle.std.specs.Prelude.{◌≢◌, ℕ, List, [], ◌∷◌, ◌++◌, map}
use Rattle.std.specs.List.{AllPairs, Contains}
use Rattle.pg_values.specs.declared.ids.TableNo.{TableNo}
use Rattle.history.specs.History.{History}
use Rattle.row_router.specs.Trees.{TableTree, LeafTable, LevelTable, Trees, End, More}
use Rattle.row_router.specs.Histories.{ddl_tree}
use Rattle.soundness.specs.Legal.{Below}

-- the tables of a tree in plain order, each before those below it
abbrev mutual
  pub tables_in : TableTree → List TableNo
  tables_in (LeafTable node leaf) = node.table ∷ []
  tables_in (LevelTable node level bounds kids) = node.table ∷ all_tables kids

  pub all_tables : Trees → List TableNo
  all_tables End = []
  all_tables (More k ks) = tables_in k ++ all_tables ks

-- by their numbers, a table and all below it that a session has, with all pending partitions
abbrev pub numbers_from : History → (session table : ℕ) → List ℕ
numbers_from h session table = map (λ y. y.number) (tables_in (ddl_tree h session table))

-- these are all tables that stand below the top in so many steps, or none, and no two of them are one
pub record IsWholeTree (h : History) (t top : ℕ) (numbers : List ℕ) : Type 0 where
  pub only : (x : ℕ) → Contains numbers x → (n : ℕ) × Below h t n top x
  pub all : (n x : ℕ) → Below h t n top x → Contains numbers x
  pub once : AllPairs (λ a b. a ≢ b) numbers
