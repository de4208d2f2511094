-- The tables of a tree by their leaves.
use Rattle.std.proofs.Common.{◌≡◌, ℕ, ◌+◌, ◌<◌, ◌==◌, ap, refl, sym, ◌∙◌, if◌then◌else◌, Bool, true, false, List, [], ◌∷◌, Option, Some, None, map, length, drop, get_or, drop-cons, add-one, suc}
use Rattle.std.specs.Prelude.{is_some, option_map}
use Rattle.std.specs.Option.{option_or}
use Rattle.pg_values.specs.declared.ids.LeafId.{LeafId}
use Rattle.pg_values.specs.declared.ids.TableNo.{TableNo}
use Rattle.row_router.specs.declared.node.Node.{Node}
use Rattle.row_router.specs.declared.tree.Tree.{Tree}
use Rattle.row_router.specs.Trees.{TableTree, LeafTable, LevelTable, Trees, End, More, trees_of}
use Rattle.row_router.specs.Seen.{seen}
use Rattle.row_change.specs.Placing.{IsNumbered}
use Rattle.row_change.specs.Targets.{last_table, holder_in, held_by, AreHolders, HasTarget, HasWay}
use Rattle.row_change.specs.declared.target.Target.{Target}
use Rattle.row_change.specs.Ways.{root, way_to, way_to_one, first_way}
use Rattle.row_change.proofs.Targets.{last_is_made}

-- the table that has the leaf among the trees of partitions of the table r
abbrev pub holder_among : TableNo → Trees → LeafId → Option TableNo
holder_among r kids leaf = option_map (last_table r) (way_to_one leaf kids)

first_holder : (r t : TableNo) (way others : Option (List TableNo)) → option_map (last_table r) (first_way t way others) ≡ option_or (option_map (last_table t) way) (option_map (last_table r) others)
first_holder r t None others = refl
first_holder r t (Some tables) others = refl

either : {X : Type 0} (a b c : Option X) → option_or (option_or a b) c ≡ option_or a (option_or b c)
either None b c = refl
either (Some x) b c = refl

-- a leaf has its table
pub own_holder : (node : Node) (own leaf : LeafId) → (if own.number == leaf.number then Some node.table else None) ≡ holder_in (LeafTable node own) leaf
own_holder node own leaf = by_test (own.number == leaf.number)
  where
    by_test : (b : Bool) → (if b then Some node.table else None) ≡ option_map (last_table node.table) (if b then Some [] else None)
    by_test true = refl
    by_test false = refl

-- and a partition more is noted
pub holder_step : (r : TableNo) (kids : List Tree) (i : ℕ) (kid : Tree) (leaf : LeafId) (was now whole : Option TableNo) → i < length kids → kid ≡ get_or kids i kid → now ≡ option_or was (holder_in (seen kid) leaf)
    → option_or was (holder_among r (trees_of (map seen (drop i kids))) leaf) ≡ whole → option_or now (holder_among r (trees_of (map seen (drop (i + 1) kids))) leaf) ≡ whole
holder_step r kids i kid leaf was now whole lt at is so_far =
    let rest = drop (i + 1) kids in
    let front : drop i kids ≡ kid ∷ rest = drop-cons kids i kid lt ∙ (ap (λ k. k ∷ drop (suc i) kids) (sym at) ∙ ap (λ n. kid ∷ drop n kids) (sym (add-one i))) in
    let others = holder_among r (trees_of (map seen rest)) leaf in
    ap (λ o. option_or o others) is
    ∙ (either was (holder_in (seen kid) leaf) others
    ∙ (ap (option_or was) (sym (first_holder r (root (seen kid)) (way_to leaf (seen kid)) (way_to_one leaf (trees_of (map seen rest)))))
    ∙ (ap (λ ks. option_or was (holder_among r (trees_of (map seen ks)) leaf)) (sym front) ∙ so_far)))

-- ---- what is known of a table that has a leaf

pub record HasHolder (tree : TableTree) (leaf : LeafId) (table : TableNo) : Type 0 where
  pub tables : List TableNo
  pub way : way_to leaf tree ≡ Some tables
  pub is : table ≡ last_table (root tree) tables

pub holder_way : (tree : TableTree) (leaf : LeafId) (table : TableNo) → holder_in tree leaf ≡ Some table → HasHolder tree leaf table
holder_way tree leaf table is = by_way (way_to leaf tree) refl is
  where
    by_way : (way : Option (List TableNo)) → way_to leaf tree ≡ way → option_map (last_table (root tree)) way ≡ Some table → HasHolder tree leaf table
    by_way None at is = absurd (cc)
    by_way (Some tables) at is = record { tables = tables; way = at; is = sym (let same : last_table (root tree) tables ≡ table = cc in same) }

pub holder_is_made : (n : ℕ) (holders : List (Option TableNo)) (tree : TableTree) (leaf : LeafId) (table : TableNo) → IsNumbered n tree → AreHolders holders tree → Some table ≡ held_by holders leaf → table.number < n
holder_is_made n holders tree leaf table known are is =
    let has = holder_way tree leaf table (sym (is ∙ are leaf)) in
    last_is_made n tree leaf has.tables table known has.way has.is

-- a leaf to which there is a way has one
pub some_holder : (holders : List (Option TableNo)) (tree : TableTree) (leaf : LeafId) → AreHolders holders tree → None ≡ held_by holders leaf → HasWay tree leaf → ⊥
some_holder holders tree leaf are is way = by_way (way_to leaf tree) way (is ∙ are leaf)
  where
    by_way : (o : Option (List TableNo)) → is_some o ≡ true → None ≡ option_map (last_table (root tree)) o → ⊥
    by_way None way is = absurd (cc)
    by_way (Some tables) way is = absurd (cc)

pub no_holder : (holders : List (Option TableNo)) (tree : TableTree) (targets : List Target) (leaf : LeafId) → AreHolders holders tree → None ≡ held_by holders leaf → HasWay tree leaf → HasTarget targets leaf
no_holder holders tree targets leaf are is way = absurd (some_holder holders tree leaf are is way)
