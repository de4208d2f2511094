-- No row that passes is missed (5.11.4 Partition Pruning).
use Rattle.std.specs.Prelude.{◌≡◌, ◌<◌, ℕ, Bool, true, false, List, [], ◌∷◌, map, filter}
use Rattle.std.specs.List.{All, Contains, flat_map, list_all}
use Rattle.pg_values.specs.declared.value.Value.{Value}
use Rattle.pg_values.specs.declared.ids.LeafId.{LeafId}
use Rattle.bound_forms.specs.declared.partition_bound.Bound.{Bound}
use Rattle.bound_forms.specs.Accepts.{accepts_among}
use Rattle.bound_forms.specs.Bounds.{IsInPlainOrder}
use Rattle.history.specs.declared.version.Version.{Version}
use Rattle.history.specs.Snapshots.{TakenSnapshot}
use Rattle.history.specs.History.{History, catalogue_events, seen}
use Rattle.history.specs.Legal.{IsLegal}
use Rattle.row_router.specs.Histories.{tree_of}
use Rattle.row_router.specs.Trees.{TableTree, LeafTable, LevelTable, Trees, End, More, key_of, leaves}
use Rattle.cond_logic.specs.declared.truth.Truth3.{Truth3}
use Rattle.cond_logic.specs.declared.truth.Truth3.TheVariants.{Yes, No, Unknown}
use Rattle.cond_logic.specs.Trees.{CondTree}
use Rattle.cond_logic.specs.Truths.{truth}
use Rattle.cond_logic.specs.Tuples.{Places, put}
use Rattle.soundness.specs.Worlds.{IsMade}
use Rattle.soundness.specs.Legal.{ArePermitted}
use Rattle.soundness.specs.Laws.{IsLooking}
use Rattle.cond_logic.specs.Tables.{Leaf}
use Rattle.plan_tree.specs.Kept.{named_leaves, keeps_for, kept_leaves}
use Rattle.plan_tree.specs.Prunable.{CanPrune}

abbrev pub is_yes : Truth3 → Bool
is_yes Yes = true
is_yes No = false
is_yes Unknown = false

-- a row of the item of that number, beside these rows of the others, with these values of parameters
abbrev pub passes_beside : (args : List Value) → Places → (item : ℕ) → List CondTree → List Value → Bool
passes_beside args beside item ts row = list_all (λ t. is_yes (truth (put beside item row) args t)) ts

-- ---- in trees

-- which rows each leaf has, by its number
abbrev pub Rows : Type 0
Rows = ℕ → List (List Value)

-- each row of a leaf is accepted at each level on the way to it
abbrev mutual
  pub LieRight : Rows → TableTree → Type 0
  LieRight rows (LeafTable node leaf) = Unit {0}
  LieRight rows (LevelTable node level bounds kids) = AllLieRight rows (λ row. accepts_among bounds (key_of level row)) bounds kids

  pub AllLieRight : Rows → (List Value → Bound → Bool) → List Bound → Trees → Type 0
  AllLieRight rows test bs End = Unit {0}
  AllLieRight rows test [] (More k ks) = Unit {0}
  AllLieRight rows test (b ∷ bs) (More k ks) = ((leaf : LeafId) → Contains (leaves k) leaf → All (λ row. test row b ≡ true) (rows leaf.number)) × LieRight rows k × AllLieRight rows test bs ks

-- a leaf's rows that pass, each beside the leaf
abbrev pub passing_in : Rows → (List Value → Bool) → Leaf → List (Leaf × List Value)
passing_in rows test leaf = map (λ row. (leaf, row)) (filter test (rows leaf.id.number))

-- whatever values of parameters come, and rows of the other items stand beside them: the rows of all leaves that pass are those
-- of the kept leaves, in plain order
abbrev pub NoneIsMissed : Type 0
NoneIsMissed = (prunes : Bool) (item : ℕ) (ts : List CondTree) (args : List Value) (beside : Places) (rows : Rows) (tree : TableTree) → item < 4 → CanPrune tree → LieRight rows tree
    → flat_map (passing_in rows (passes_beside args beside item ts)) (named_leaves tree) ≡ flat_map (passing_in rows (passes_beside args beside item ts)) (kept_leaves (keeps_for prunes item ts) tree)

-- ---- in histories

abbrev pub row_of : Version → List Value
row_of v = v.row

abbrev pub shown : History → TakenSnapshot → Rows
shown h s leaf = map row_of (seen h leaf s)

-- each row that a snapshot is shown in a leaf of a tree lies right in it, and each tree can be pruned
abbrev pub ShownLieRight : Type 0
ShownLieRight = (h : History) (session table : ℕ) (s : TakenSnapshot) → IsLegal h → ArePermitted h → IsLooking h session s → IsMade (catalogue_events h) table
    → LieRight (shown h s) (tree_of h session table s)

abbrev pub TreesCanBePruned : Type 0
TreesCanBePruned = (h : History) (session table : ℕ) (s : TakenSnapshot) → IsLegal h → ArePermitted h → IsMade (catalogue_events h) table → CanPrune (tree_of h session table s)

-- at its top the bounds of a tree stand in plain order, and none overlap
abbrev pub StandsInOrder : TableTree → Type 0
StandsInOrder (LeafTable node leaf) = Unit {0}
StandsInOrder (LevelTable node level bounds kids) = IsInPlainOrder bounds

abbrev pub TreesStandInOrder : Type 0
TreesStandInOrder = (h : History) (session table : ℕ) (s : TakenSnapshot) → IsLegal h → ArePermitted h → IsMade (catalogue_events h) table → StandsInOrder (tree_of h session table s)
