-- The scans of a plan are of leaves that its trees show.
use Rattle.std.proofs.Common.{ℕ, ◌+◌, arith, Bool, true, false, if◌then◌else◌, List, [], ◌∷◌, ◌++◌, map, refl}
use Rattle.std.specs.Prelude.{◌&&◌, All, Option, Some, None, filter, option_map}
use Rattle.std.specs.List.{Contains, flat_map}
use Rattle.std.proofs.lemmas.List.Elements.{All-nil, All-append, All-head, All-tail, All-weaker, All-contains_itself, Contains-append_right}
use Rattle.pg_values.specs.declared.ids.LeafId.{LeafId}
use Rattle.pg_values.specs.declared.value.Value.{Value}
use Rattle.history.specs.History.{History, catalogue_events}
use Rattle.history.specs.Snapshots.{TakenSnapshot}
use Rattle.row_router.specs.Histories.{tree_of}
use Rattle.row_router.specs.Trees.{TableTree, leaves}
use Rattle.soundness.specs.Worlds.{IsMade}
use Rattle.legal_statements.specs.ShownPartitions.{TreesAreFresh}
use Rattle.legal_statements.proofs.FreshTrees.{legal_is_fresh}
use Rattle.cond_logic.specs.Tables.{Leaf}
use Rattle.cond_logic.specs.Trees.{CondTree}
use Rattle.plan_tree.specs.Conjuncts.{pool, asked_at, asked_later}
use Rattle.plan_tree.specs.Kept.{id_of, keeps_for}
use Rattle.plan_tree.specs.Parts.{in_partition, partitions}
use Rattle.plan_tree.specs.Plans.{PlannedItem, Planned, Pair, behind, both, both_keep, is_partitionwise, over_partition, pair_at, paired, pairs_of, pairs_over, scanned_items, started_pair, unpaired, keeps_first, is_empty, items_from, plan_for, kept_at_start, pruned_at_start, starts, started_item, started, plan_by}
use Rattle.plan_tree.specs.declared.planning.Planning.{Planning}
use Rattle.plan_tree.proofs.Partitions.{partition_within}
use Rattle.select_answer.proofs.Kept.{leaves_kept}
use Rattle.select_answer.proofs.Marks.{of_ids}
use Rattle.stores.specs.Events.{look_of}
use Rattle.stores.specs.Good.{IsGood}
use Rattle.stores.proofs.Goodness.{legal_of, permitted_of}
use Rattle.select_statement.specs.Selected.{trees_for}
use Rattle.statement_laws.specs.Fresh.{IsShownBelowOne, ScansAreFresh}

module _ (h : History) (session : ℕ) (s : TakenSnapshot) (fresh : TreesAreFresh h) (all : List ℕ) where
  abbrev IsShown : LeafId → Type 0
  IsShown leaf = IsShownBelowOne h session s all leaf

  abbrev tree_for : ℕ → TableTree
  tree_for n = tree_of h session n s

  -- the leaves of the tree of one of the tables
  of_tree : (n : ℕ) → Contains all n → IsMade (catalogue_events h) n → All IsShown (leaves (tree_for n))
  of_tree n one made =
      let ls = leaves (tree_for n) in
      All-weaker (Contains ls) IsShown (λ leaf at. (n, one, fresh session n s leaf made at)) ls (All-contains_itself ls)

  -- those of an item's tree are shown, and those that it keeps
  record OfItem (i : PlannedItem) : Type 0 where
    whole : All IsShown (leaves i.tree)
    kept : All IsShown (map id_of i.leaves)

  abbrev OfItems : List PlannedItem → Type 0
  OfItems [] = Unit {0}
  OfItems (i ∷ is) = OfItem i × OfItems is

  made_items : (how : Planning) (k : ℕ) (cs : List CondTree) (ns : List ℕ) → ((n : ℕ) → Contains ns n → Contains all n) → All (IsMade (catalogue_events h)) ns → OfItems (items_from how k cs (map tree_for ns))
  made_items how k cs [] within made = tt
  made_items how k cs (n ∷ ns) within made =
      let here : Contains (n ∷ ns) n = (0, omega arith, refl) in
      let whole = of_tree n (within n here) (All-head (IsMade (catalogue_events h)) n ns made) in (
        record { whole = whole; kept = leaves_kept IsShown (keeps_first how.prunes k (asked_at k cs)) (tree_for n) whole },
        made_items how (k + 1) (asked_later k cs) ns (λ x at. within x (Contains-append_right (n ∷ []) ns x at)) (All-tail (IsMade (catalogue_events h)) n ns made),
      )

  started_of : (args : List Value) (i : PlannedItem) → OfItem i → OfItem (started_item args i)
  started_of args i its = by (starts i)
    where
      by : (b : Bool) → OfItem (if b then pruned_at_start args i else i)
      by true = record { whole = its.whole; kept = leaves_kept IsShown (keeps_for true i.number (kept_at_start args i)) i.tree its.whole }
      by false = its

  started_items : (args : List Value) (is : List PlannedItem) → OfItems is → OfItems (map (started_item args) is)
  started_items args [] its = tt
  started_items args (i ∷ is) its = (started_of args i its.0, started_items args is its.1)

  -- ---- pairs

  over_of : (how : Planning) (n : ℕ) (i : PlannedItem) → OfItem i → OfItem (over_partition how n i)
  over_of how n i its =
      let whole = partition_within IsShown n i.tree its.whole in
      record { whole = whole; kept = leaves_kept IsShown (keeps_first how.prunes i.number i.conjuncts) (in_partition n i.tree) whole }

  made_pairs : (how : Planning) (l r : PlannedItem) → OfItem l → OfItem r → (ns : List ℕ) → OfItems (flat_map both (filter both_keep (map (pair_at how l r) ns)))
  made_pairs how l r left right [] = tt
  made_pairs how l r left right (n ∷ ns) = by (both_keep (pair_at how l r n)) (made_pairs how l r left right ns)
    where
      later : List Pair
      later = filter both_keep (map (pair_at how l r) ns)

      by : (b : Bool) → OfItems (flat_map both later) → OfItems (flat_map both (if b then pair_at how l r n ∷ later else later))
      by true go = (over_of how n l left, (over_of how n r right, go))
      by false go = go

  made_paired : (how : Planning) (is : List PlannedItem) → OfItems is → OfItems (paired (pairs_of how is))
  made_paired how [] its = tt
  made_paired how (l ∷ []) its = tt
  made_paired how (l ∷ r ∷ is) its = by (how.pairs && is_partitionwise l r)
    where
      by : (b : Bool) → OfItems (paired (if b then Some (pairs_over how l r) else None))
      by true = made_pairs how l r its.0 its.1.0 (partitions l.tree)
      by false = tt

  started_pairs : (args : List Value) (ps : List Pair) → OfItems (flat_map both ps) → OfItems (flat_map both (map (started_pair args) ps))
  started_pairs args [] its = tt
  started_pairs args (p ∷ ps) its = (started_of args p.left its.0, (started_of args p.right its.1.0, started_pairs args ps its.1.1))

  started_paired : (args : List Value) (ps : Option (List Pair)) → OfItems (paired ps) → OfItems (paired (option_map (map (started_pair args)) ps))
  started_paired args None its = tt
  started_paired args (Some ps) its = started_pairs args ps its

  -- ---- what is scanned

  behind_of : {X : Type 0} (ps : Option X) (is : List PlannedItem) → OfItems is → OfItems (behind ps is)
  behind_of None is its = its
  behind_of (Some x) [] its = tt
  behind_of (Some x) (i ∷ []) its = tt
  behind_of (Some x) (i ∷ j ∷ is) its = its.1.1

  append_of : (is js : List PlannedItem) → OfItems is → OfItems js → OfItems (is ++ js)
  append_of [] js its theirs = theirs
  append_of (i ∷ is) js its theirs = (its.0, append_of is js its.1 theirs)

  scanned_of : (p : Planned) → OfItems p.items → OfItems (paired p.pairs) → OfItems (scanned_items p)
  scanned_of p its theirs = append_of (paired p.pairs) (unpaired p) theirs (behind_of p.pairs p.items its)

  plan_items : (how : Planning) (args : List Value) (conditions : List CondTree) (ns : List ℕ) → OfItems (plan_for how conditions (map tree_for ns)).items → OfItems (scanned_items (plan_by how args conditions (map tree_for ns)))
  plan_items how args conditions ns its = by how.is_generic
    where
      plan : Planned
      plan = plan_for how conditions (map tree_for ns)

      theirs : OfItems (paired plan.pairs)
      theirs = made_paired how plan.items its

      by : (b : Bool) → OfItems (scanned_items (if b then started args plan else plan))
      by true = scanned_of (started args plan) (started_items args plan.items its) (started_paired args plan.pairs theirs)
      by false = scanned_of plan its theirs

  of_items : (is : List PlannedItem) → OfItems is → All (λ l. IsShown l.id) (flat_map (λ i. i.leaves) is)
  of_items [] its = All-nil (λ l. IsShown l.id)
  of_items (i ∷ is) its = All-append (λ (l : Leaf). IsShown l.id) i.leaves (flat_map (λ (x : PlannedItem). x.leaves) is) (of_ids IsShown i.leaves its.0.kept) (of_items is its.1)

pub good_scans : (h : History) → IsGood h → ScansAreFresh h
good_scans h good how c args m ns made = by (is_empty plan)
  where
    snap : TakenSnapshot
    snap = look_of h c.session c.cmd

    plan : Planned
    plan = plan_by how args m.conditions (trees_for c ns h)

    fresh : TreesAreFresh h
    fresh = (legal_is_fresh h (legal_of h good) (permitted_of h good)).trees

    by : (b : Bool) → All (λ l. IsShownBelowOne h c.session snap ns l.id) (if b then [] else flat_map (λ i. i.leaves) (scanned_items plan))
    by true = All-nil (λ l. IsShownBelowOne h c.session snap ns l.id)
    by false =
        of_items h c.session snap fresh ns (scanned_items plan)
        (plan_items h c.session snap fresh ns how args m.conditions ns (made_items h c.session snap fresh ns how 0 (pool m.conditions) ns (λ n at. at) made))
