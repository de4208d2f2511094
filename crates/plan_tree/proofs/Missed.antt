-- No row that passes lies in a leaf that is not kept.
use Rattle.std.proofs.Common.{◌≡◌, arith, ◌&&◌, ℕ, ◌<◌, Bool, true, false, if◌then◌else◌, List, [], ◌∷◌, ◌++◌, length, map, inl, inr, refl, sym, subst, ◌∙◌, zero}
use Rattle.std.specs.Prelude.{filter}
use Rattle.std.specs.List.{All, Contains, flat_map, list_all}
use Rattle.std.proofs.lemmas.Bool.{cases_Bool}
use Rattle.std.proofs.lemmas.Grind.{flat_map-append}
use Rattle.std.proofs.lemmas.List.{map-append}
use Rattle.std.proofs.lemmas.List.Elements.{All-head, All-tail, Contains-append_right}
use Rattle.pg_values.specs.declared.value.Value.{Value}
use Rattle.pg_values.specs.declared.ids.LeafId.{LeafId}
use Rattle.bound_forms.specs.declared.level.Level.{Level}
use Rattle.bound_forms.specs.declared.partition_bound.Bound.{Bound}
use Rattle.bound_forms.specs.declared.partition_bound.Bound.TheVariants.{Default}
use Rattle.bound_forms.specs.Accepts.{accepts_among}
use Rattle.bound_forms.specs.Levels.{IsOfLevel}
use Rattle.row_router.specs.declared.node.Node.{Node}
use Rattle.row_router.specs.Trees.{TableTree, LeafTable, LevelTable, Trees, End, More, count, key_of, leaves, all_leaves}
use Rattle.cond_logic.specs.declared.truth.Truth3.{Truth3}
use Rattle.cond_logic.specs.declared.truth.Truth3.TheVariants.{Yes, No, Unknown}
use Rattle.cond_logic.specs.Rewriting.{pushed, with_args}
use Rattle.cond_logic.specs.Trees.{CondTree}
use Rattle.cond_logic.specs.Truths.{truth}
use Rattle.cond_logic.specs.Tuples.{Places, put}
use Rattle.cond_logic.proofs.Bound.{bound_true}
use Rattle.cond_logic.proofs.Pushed.{pushed_true}
use Rattle.prune_steps.specs.Atoms.{asked}
use Rattle.prune_steps.specs.Kept.{kept}
use Rattle.prune_steps.proofs.Sound.{sound}
use Rattle.cond_logic.specs.Tables.{Leaf}
use Rattle.plan_tree.specs.Kept.{Keeps, id_of, leaf_of, keeps_for, keeps_plain, named_leaves, all_named_leaves, leaves_below, leaves_among, kept_leaves, no_keys}
use Rattle.plan_tree.specs.Laws.{Rows, LieRight, AllLieRight, is_yes, passes_beside, passing_in, NoneIsMissed}
use Rattle.plan_tree.specs.Prunable.{CanPrune, AllCanPrune}

-- ---- the leaves of a tree, by their names and without

pub ids_append : (xs ys : List Leaf) → map id_of (xs ++ ys) ≡ map id_of xs ++ map id_of ys
ids_append xs ys = map-append id_of xs ys

mutual
  pub ids_named : (tree : TableTree) → map id_of (named_leaves tree) ≡ leaves tree
  ids_named (LeafTable node leaf) = refl
  ids_named (LevelTable node level bounds kids) = all_ids_named kids

  all_ids_named : (kids : Trees) → map id_of (all_named_leaves kids) ≡ all_leaves kids
  all_ids_named End = refl
  all_ids_named (More k ks) = ids_append (named_leaves k) (all_named_leaves ks) ∙ rw (ids_named k, all_ids_named ks) refl

-- ---- one row

both_are : (a b : Bool) → (a && b) ≡ true → (a ≡ true) × (b ≡ true)
both_are true b h = (refl, h)
both_are false b h = absurd (cc)

and_true : (a b : Bool) → a ≡ true → b ≡ true → (a && b) ≡ true
and_true true b p q = q
and_true false b p q = absurd (cc)

yes_of : (v : Truth3) → is_yes v ≡ true → v ≡ Yes
yes_of Yes h = refl
yes_of No h = absurd (cc)
yes_of Unknown h = absurd (cc)

-- a row that passes and is accepted is kept by each condition
passing_kept : (item : ℕ) (args : List Value) (beside : Places) (t : CondTree) (level : Level) (bounds : List Bound) (b : Bound) (row : List Value) → item < 4 → IsOfLevel level b → accepts_among bounds (key_of level row) b ≡ true
    → is_yes (truth (put beside item row) args t) ≡ true → kept (asked item level) bounds [] t b ≡ true
passing_kept item args beside t level bounds b row low of acc is =
    let full = put beside item row in
    sound (asked item level) bounds beside args row b low of acc (pushed (with_args [] t)) (pushed_true full args (with_args [] t) ∙ bound_true full [] args t ∙ yes_of (truth full args t) is)

all_kept : (item : ℕ) (args : List Value) (beside : Places) (ts : List CondTree) (level : Level) (bounds : List Bound) (b : Bound) (row : List Value) → item < 4 → IsOfLevel level b → accepts_among bounds (key_of level row) b ≡ true
    → passes_beside args beside item ts row ≡ true → list_all (λ t. kept (asked item level) bounds [] t b) ts ≡ true
all_kept item args beside [] level bounds b row low of acc is = refl
all_kept item args beside (t ∷ ts) level bounds b row low of acc is =
    let p = both_are (is_yes (truth (put beside item row) args t)) (passes_beside args beside item ts row) is in
    and_true (kept (asked item level) bounds [] t b) (list_all (λ t. kept (asked item level) bounds [] t b) ts)
    (passing_kept item args beside t level bounds b row low of acc p.0) (all_kept item args beside ts level bounds b row low of acc p.1)

-- so where a child is not kept, no row that it accepts passes
not_passing : (prunes : Bool) (item : ℕ) (args : List Value) (beside : Places) (ts : List CondTree) (level : Level) (bounds : List Bound) (b : Bound) (row : List Value) → item < 4 → IsOfLevel level b → accepts_among bounds (key_of level row) b ≡ true
    → keeps_for prunes item ts level bounds b ≡ false → passes_beside args beside item ts row ≡ false
not_passing false item args beside ts level bounds b row low of acc out = absurd (cc)
not_passing true item args beside ts level bounds b row low of acc out = elim (cases_Bool (passes_beside args beside item ts row)) [
  | inl is ↦ let in_it = all_kept item args beside ts level bounds b row low of acc is in absurd (cc)
  | inr is ↦ is
]

-- ---- leaves without a row that passes

none_left : (test : List Value → Bool) (rows : List (List Value)) → All (λ row. test row ≡ false) rows → filter test rows ≡ []
none_left test [] all = refl
none_left test (r ∷ rs) all = rw (All-head (λ row. test row ≡ false) r rs all) (none_left test rs (All-tail (λ row. test row ≡ false) r rs all))

none_passing : (rows : Rows) (test : List Value → Bool) (ls : List Leaf) → ((leaf : LeafId) → Contains (map id_of ls) leaf → All (λ row. test row ≡ false) (rows leaf.number)) → flat_map (passing_in rows test) ls ≡ []
none_passing rows test [] none = refl
none_passing rows test (l ∷ ls) none =
    let here = none_left test (rows l.id.number) (none l.id (zero, omega arith, refl)) in
    let rest = none_passing rows test ls (λ leaf at. none leaf (Contains-append_right (l.id ∷ []) (map id_of ls) leaf at)) in
    rw (here, rest) refl

-- ---- trees

-- a row that does not pass in a child that is not kept
abbrev Drops : Keeps → (List Value → Bool) → Type 0
Drops keeps test = (level : Level) (bounds : List Bound) (b : Bound) (row : List Value) → IsOfLevel level b → accepts_among bounds (key_of level row) b ≡ true → keeps level bounds b ≡ false → test row ≡ false

module _ (keeps : Keeps) (test : List Value → Bool) (drops : Drops keeps test) (rows : Rows) where
  -- a child: its leaves are all kept by the levels below, or none of them is kept
  child : (level : Level) (bounds : List Bound) (b : Bound) (k : TableTree) (v : Bool) → keeps level bounds b ≡ v → IsOfLevel level b
      → ((leaf : LeafId) → Contains (leaves k) leaf → All (λ row. accepts_among bounds (key_of level row) b ≡ true) (rows leaf.number))
      → flat_map (passing_in rows test) (named_leaves k) ≡ flat_map (passing_in rows test) (leaves_below keeps k)
      → flat_map (passing_in rows test) (named_leaves k) ≡ flat_map (passing_in rows test) (if v then leaves_below keeps k else [])
  child level bounds b k true is of right same = same
  child level bounds b k false is of right same =
      none_passing rows test (named_leaves k) (λ leaf at i d lt. drops level bounds b _ of (right leaf (subst (λ ls. Contains ls leaf) (ids_named k) at) i d lt) is)

  mutual
    below : (tree : TableTree) → CanPrune tree → LieRight rows tree → flat_map (passing_in rows test) (named_leaves tree) ≡ flat_map (passing_in rows test) (leaves_below keeps tree)
    below (LeafTable node leaf) can lie = refl
    below (LevelTable node level bounds kids) can lie = among level bounds bounds kids can.0 can.2 can.3 lie

    among : (level : Level) (all bs : List Bound) (kids : Trees) → length bs ≡ count kids → All (IsOfLevel level) bs → AllCanPrune kids → AllLieRight rows (λ row. accepts_among all (key_of level row)) bs kids
        → flat_map (passing_in rows test) (all_named_leaves kids) ≡ flat_map (passing_in rows test) (leaves_among keeps (keeps level all) bs kids)
    among level all bs End len of can lie = refl
    among level all [] (More k ks) len of can lie = absurd (omega (arith, len))
    among level all (b ∷ bs) (More k ks) len of can lie =
        let rest = among level all bs ks (omega (arith, len)) (All-tail (IsOfLevel level) b bs of) can.1 lie.2 in
        let here = child level all b k (keeps level all b) refl (All-head (IsOfLevel level) b bs of) lie.0 (below k can.0 lie.1) in
        flat_map-append (passing_in rows test) (named_leaves k) (all_named_leaves ks)
        ∙ rw (here, rest) refl
        ∙ sym (flat_map-append (passing_in rows test) (if keeps level all b then leaves_below keeps k else []) (leaves_among keeps (keeps level all) bs ks))

  plain : (node : Node) (leaf : LeafId) (v : Bool) → keeps_plain keeps ≡ v
      → flat_map (passing_in rows test) (leaf_of node leaf ∷ []) ≡ flat_map (passing_in rows test) (if v then leaf_of node leaf ∷ [] else [])
  plain node leaf true is = refl
  plain node leaf false is = none_passing rows test (leaf_of node leaf ∷ []) (λ l at i d lt. drops no_keys (Default ∷ []) Default _ tt refl is)

  whole : (tree : TableTree) → CanPrune tree → LieRight rows tree → flat_map (passing_in rows test) (named_leaves tree) ≡ flat_map (passing_in rows test) (kept_leaves keeps tree)
  whole (LeafTable node leaf) can lie = plain node leaf (keeps_plain keeps) refl
  whole (LevelTable node level bounds kids) can lie = below (LevelTable node level bounds kids) can lie

pub none_missed : NoneIsMissed
none_missed prunes item ts args beside rows tree low can lie =
    whole (keeps_for prunes item ts) (passes_beside args beside item ts) (λ level bounds b row of acc out. not_passing prunes item args beside ts level bounds b row low of acc out) rows tree can lie
