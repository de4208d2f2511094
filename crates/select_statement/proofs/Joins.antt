-- What the scans of a plan read.
use Rattle.std.proofs.Common.{◌≡◌, ℕ, ◌+◌, ◌<◌, ◌&&◌, arith, Bool, true, false, if◌then◌else◌, List, [], ◌∷◌, ◌++◌, ⊎_elim, length, map, refl, sym, ap, subst, ◌∙◌, append-nil, append_assoc}
use Rattle.std.specs.Prelude.{All, Option, Some, None, filter, option_map}
use Rattle.std.specs.List.{Contains, flat_map}
use Rattle.std.specs.List.Sorted.{IsPermutation}
use Rattle.std.proofs.lemmas.List.{map-append}
use Rattle.std.proofs.lemmas.List.Concat.{flat_map-append}
use Rattle.std.proofs.lemmas.List.Folds.{list_all-append}
use Rattle.std.proofs.lemmas.List.Elements.{All-nil, All-append, All-head, All-tail, All-contains, All-contains_itself, All-weaker, All-map, Contains-append_left, Contains-append_right, Contains-append_cases}
use Rattle.std.proofs.lemmas.List.Sorted.{IsPermutation-refl, IsPermutation-trans, IsPermutation-append, IsPermutation-append_comm, IsPermutation-append_right, All-permutation, Contains-permutation}
use Rattle.pg_values.specs.declared.ids.LeafId.{LeafId}
use Rattle.pg_values.specs.declared.value.Value.{Value}
use Rattle.bound_forms.specs.declared.level.Level.{Level}
use Rattle.bound_forms.specs.declared.partition_bound.Bound.{Bound}
use Rattle.bound_forms.specs.declared.partition_bound.Bound.TheVariants.{Default}
use Rattle.row_router.specs.Trees.{TableTree, LeafTable, LevelTable, Trees, End, More}
use Rattle.cond_logic.specs.Trees.{CondTree}
use Rattle.cond_logic.specs.Tables.{Leaf}
use Rattle.cond_logic.specs.Tuples.{Places}
use Rattle.prune_steps.specs.Atoms.{asked}
use Rattle.prune_steps.specs.Kept.{kept}
use Rattle.plan_tree.specs.Beside.{beside}
use Rattle.plan_tree.specs.Conjuncts.{pool, asked_at, asked_later}
use Rattle.plan_tree.specs.Kept.{Keeps, id_of, keeps_for, leaf_of, no_keys, keeps_plain, leaves_below, leaves_among, kept_leaves}
use Rattle.plan_tree.specs.Laws.{Rows}
use Rattle.plan_tree.specs.Conditions.{all_hold}
use Rattle.plan_tree.specs.JoinKinds.{join_kind}
use Rattle.plan_tree.specs.declared.join_kind.JoinKind.{JoinKind}
use Rattle.plan_tree.specs.declared.join_kind.JoinKind.TheVariants.{NestedLoop, HashJoin}
use Rattle.plan_tree.specs.Parts.{in_partition, partitions}
use Rattle.plan_tree.specs.Plans.{PlannedItem, Planned, Pair, both as items_of, both_keep, behind, paired as paired_items, unpaired, scanned_items, over_partition, pair_at, pairs_of, pairs_over, is_partitionwise, started_pair, asks_again, keeps_first, keeps_beside, is_empty, item_for, items_from, kept_beside, leaves_for, plan_for, pruned_at_start, starts, started_item, started, plan_by}
use Rattle.plan_tree.specs.declared.planning.Planning.{Planning}
use Rattle.select_answer.specs.Tuples.{Tuple, Mark, Reads, Gives, no_tuple, passes, tuples_in, scan_marks, beside_marks, first_marks, read_first, for_each, joined, pair_marks, all_joined, tuples_of, reads_in}
use Rattle.select_answer.specs.Laws.{plan_reads}
use Rattle.select_answer.proofs.Kept.{in_first, in_second}
use Rattle.select_answer.proofs.Plain.{reads_append, given_reads, leaves_first, leaves_reads, leaves_tuples}
use Rattle.select_answer.proofs.Marks.{of_ids, asked_once}
use Rattle.plan_text.specs.Plans.{scanned}
use Rattle.select_statement.specs.Joins.{read_beside, item_reads, joined_with, all_joined_with, items_read, pairs_read, pairs_give, PairsAreReached, scans_read, IsReached, AreReached, JoinsReadTheirScans, ReadsAreScanned, ReachedScansAreRead}

-- ---- lists with the same elements

module _ {X : Type 0} where
  to_front : (xs ys zs : List X) → IsPermutation (xs ++ (ys ++ zs)) (ys ++ (xs ++ zs))
  to_front xs ys zs =
      subst (λ l. IsPermutation l (ys ++ (xs ++ zs))) (append_assoc xs ys zs)
      (subst (IsPermutation ((xs ++ ys) ++ zs)) (append_assoc ys xs zs)
      (IsPermutation-append (xs ++ ys) (ys ++ xs) zs zs (IsPermutation-append_comm xs ys) (IsPermutation-refl zs)))

  paired : (xs us ys vs : List X) → IsPermutation ((xs ++ us) ++ (ys ++ vs)) ((xs ++ ys) ++ (us ++ vs))
  paired xs us ys vs =
      subst (λ l. IsPermutation l ((xs ++ ys) ++ (us ++ vs))) (sym (append_assoc xs us (ys ++ vs)))
      (subst (IsPermutation (xs ++ (us ++ (ys ++ vs)))) (sym (append_assoc xs ys (us ++ vs)))
      (IsPermutation-append_right xs (us ++ (ys ++ vs)) (ys ++ (us ++ vs)) (to_front us ys vs)))

module _ {X Y : Type 0} (f g h : X → List Y) (both : (x : X) → IsPermutation (f x ++ g x) (h x)) where
  of_each : (xs : List X) → IsPermutation (flat_map f xs ++ flat_map g xs) (flat_map h xs)
  of_each [] = IsPermutation-refl []
  of_each (x ∷ xs) =
      IsPermutation-trans _ _ _ (paired (f x) (flat_map f xs) (g x) (flat_map g xs))
      (IsPermutation-append (f x ++ g x) (h x) (flat_map f xs ++ flat_map g xs) (flat_map h xs) (both x) (of_each xs))

flat_of_flat : {X Y Z : Type 0} (f : Y → List Z) (g : X → List Y) (xs : List X) → flat_map f (flat_map g xs) ≡ flat_map (λ x. flat_map f (g x)) xs
flat_of_flat f g [] = refl
flat_of_flat f g (x ∷ xs) = flat_map-append f (g x) (flat_map g xs) ∙ ap (λ l. flat_map f (g x) ++ l) (flat_of_flat f g xs)

-- ---- the leaves that are kept beside a tuple are among those of the item

nothing : {X : Type 0} {P : Type 0} (x : X) → Contains [] x → P
nothing x h = let less = h.1 in absurd (omega (arith, less))

module _ (keeps wide : Keeps) (wider : (level : Level) (bounds : List Bound) (b : Bound) → keeps level bounds b ≡ true → wide level bounds b ≡ true) where
  mutual
    below : (tree : TableTree) (l : Leaf) → Contains (leaves_below keeps tree) l → Contains (leaves_below wide tree) l
    below (LeafTable node leaf) l h = h
    below (LevelTable node level bounds kids) l h = among (keeps level bounds) (wide level bounds) (wider level bounds) bounds kids l h

    among : (test more : Bound → Bool) → ((b : Bound) → test b ≡ true → more b ≡ true) → (bs : List Bound) (kids : Trees) (l : Leaf) → Contains (leaves_among keeps test bs kids) l → Contains (leaves_among wide more bs kids) l
    among test more to bs End l h = h
    among test more to [] (More k ks) l h = h
    among test more to (b ∷ bs) (More k ks) l h =
        ⊎_elim
        (λ here. Contains-append_left (if more b then leaves_below wide k else []) (leaves_among wide more bs ks) l (by (test b) refl (below k l) here))
        (λ there. Contains-append_right (if more b then leaves_below wide k else []) (leaves_among wide more bs ks) l (among test more to bs ks l there))
        (Contains-append_cases (if test b then leaves_below keeps k else []) (leaves_among keeps test bs ks) l h)
      where
        by : (v : Bool) → test b ≡ v → (Contains (leaves_below keeps k) l → Contains (leaves_below wide k) l) → Contains (if v then leaves_below keeps k else []) l → Contains (if more b then leaves_below wide k else []) l
        by true is within here = subst (λ w. Contains (if w then leaves_below wide k else []) l) (sym (to b is)) (within here)
        by false is within here = nothing l here

  kept_within : (tree : TableTree) (l : Leaf) → Contains (kept_leaves keeps tree) l → Contains (kept_leaves wide tree) l
  kept_within (LeafTable node leaf) l h = by (keeps_plain keeps) refl h
    where
      by : (v : Bool) → keeps_plain keeps ≡ v → Contains (if v then leaf_of node leaf ∷ [] else []) l → Contains (if keeps_plain wide then leaf_of node leaf ∷ [] else []) l
      by true is here = subst (λ w. Contains (if w then leaf_of node leaf ∷ [] else []) l) (sym (wider no_keys (Default ∷ []) Default is)) here
      by false is here = nothing l here
  kept_within (LevelTable node level bounds kids) l h = below (LevelTable node level bounds kids) l h

front_true : (a b : Bool) → (a && b) ≡ true → a ≡ true
front_true true b is = refl
front_true false b is = absurd (cc)

-- what more conditions keep, fewer keep
fewer_keep : (n : ℕ) (level : Level) (bounds : List Bound) (b : Bound) (ts more : List CondTree) → keeps_for true n (ts ++ more) level bounds b ≡ true → keeps_for true n ts level bounds b ≡ true
fewer_keep n level bounds b ts more is = front_true (keeps_for true n ts level bounds b) (keeps_for true n more level bounds b) (sym (list_all-append (λ t. kept (asked n level) bounds [] t b) ts more) ∙ is)

-- an item of a plan: where it is asked again, it keeps what its conditions keep, and a Hash Join's is not asked again
record IsPlanned (i : PlannedItem) : Type 0 where
  kept : i.is_asked_again ≡ true → i.leaves ≡ kept_leaves (keeps_for true i.number i.kept_by) i.tree
  once : i.join ≡ HashJoin → i.is_asked_again ≡ false

kept_first : (prunes : Bool) (kind : JoinKind) (n : ℕ) (cs : List CondTree) (tree : TableTree) → asks_again prunes kind n cs ≡ true → kept_leaves (keeps_first prunes n cs) tree ≡ kept_leaves (keeps_for true n (all_hold cs ∷ [])) tree
kept_first true kind n cs tree is = refl
kept_first false NestedLoop n cs tree is = absurd (cc)
kept_first false HashJoin n cs tree is = absurd (cc)

hashed_once : (prunes : Bool) (kind : JoinKind) (n : ℕ) (cs : List CondTree) → kind ≡ HashJoin → asks_again prunes kind n cs ≡ false
hashed_once prunes NestedLoop n cs is = absurd (cc)
hashed_once prunes HashJoin n cs is = refl

item_planned : (how : Planning) (n : ℕ) (cs : List CondTree) (tree : TableTree) → IsPlanned (item_for how n cs tree)
item_planned how n cs tree =
    let kind = join_kind how.hashes n cs in
    record { kept = kept_first how.prunes kind n cs tree; once = hashed_once how.prunes kind n cs }

started_planned : (args : List Value) (i : PlannedItem) → IsPlanned i → IsPlanned (started_item args i)
started_planned args i its = by (starts i)
  where
    by : (b : Bool) → IsPlanned (if b then pruned_at_start args i else i)
    by true = record { kept = λ is. refl; once = its.once }
    by false = its

of_item : (i : PlannedItem) → IsPlanned i → (rows : Places) (l : Leaf) → Contains (leaves_for i rows) l → Contains i.leaves l
of_item i its rows l h = by i.is_asked_again refl h
  where
    by : (v : Bool) → i.is_asked_again ≡ v → Contains (if v then kept_beside i rows else i.leaves) l → Contains i.leaves l
    by true is here =
        let more = beside i.number rows i.asked ∷ [] in
        subst (λ (ls : List Leaf). Contains ls l) (sym (its.kept is))
        (kept_within (keeps_beside i rows) (keeps_for true i.number i.kept_by) (λ level bounds b. fewer_keep i.number level bounds b i.kept_by more) i.tree l here)
    by false is here = here

-- so are those of a plan
abbrev ArePlanned : List PlannedItem → Type 0
ArePlanned [] = Unit {0}
ArePlanned (i ∷ is) = IsPlanned i × ArePlanned is

items_planned : (how : Planning) (n : ℕ) (cs : List CondTree) (trees : List TableTree) → ArePlanned (items_from how n cs trees)
items_planned how n cs [] = tt
items_planned how n cs (tree ∷ trees) = (item_planned how n (asked_at n cs) tree, items_planned how (n + 1) (asked_later n cs) trees)

all_started : (args : List Value) (is : List PlannedItem) → ArePlanned is → ArePlanned (map (started_item args) is)
all_started args [] its = tt
all_started args (i ∷ is) its = (started_planned args i its.0, all_started args is its.1)

all_planned : (how : Planning) (args : List Value) (conditions : List CondTree) (trees : List TableTree) → ArePlanned (plan_by how args conditions trees).items
all_planned how args conditions trees = by how.is_generic
  where
    plan : Planned
    plan = plan_for how conditions trees

    by : (b : Bool) → ArePlanned (if b then started args plan else plan).items
    by true = all_started args plan.items (items_planned how 0 (pool conditions) trees)
    by false = items_planned how 0 (pool conditions) trees

-- ---- joins

-- what is read of marks, each tuple of which is followed: what was read there, and behind each tuple
followed : (next : Tuple → List Mark) (ms : List Mark) → IsPermutation (reads_in ms ++ flat_map (λ t. reads_in (next t)) (tuples_of ms)) (reads_in (for_each next ms))
followed next [] = IsPermutation-refl []
followed next (Reads leaf ∷ ms) = IsPermutation-append_right (leaf ∷ []) _ _ (followed next ms)
followed next (Gives t ∷ ms) =
    let behind = flat_map (λ x. reads_in (next x)) (tuples_of ms) in
    subst (IsPermutation (reads_in ms ++ (reads_in (next t) ++ behind))) (sym (reads_append (next t) (for_each next ms)))
    (IsPermutation-trans _ _ _ (to_front (reads_in ms) (reads_in (next t)) behind)
    (IsPermutation-append_right (reads_in (next t)) (reads_in ms ++ behind) (reads_in (for_each next ms)) (followed next ms)))

-- of tuples alone, what is read behind each
given_followed : (next : Tuple → List Mark) (ts : List Tuple) → flat_map (λ t. reads_in (next t)) ts ≡ reads_in (for_each next (map Gives ts))
given_followed next [] = refl
given_followed next (t ∷ ts) = ap (λ l. reads_in (next t) ++ l) (given_followed next ts) ∙ sym (reads_append (next t) (for_each next (map Gives ts)))

module _ (args : List Value) (rows : Rows) (cs : List CondTree) where
  abbrev loops_reads : List PlannedItem → Tuple → List LeafId
  loops_reads is t = reads_in (joined args rows is cs t)

  -- behind the last item nothing is read
  at_end : (left : List Tuple) → flat_map (loops_reads []) left ≡ []
  at_end [] = refl
  at_end (t ∷ left) = ap (λ l. l ++ flat_map (loops_reads []) left) (given_reads (filter (passes args cs) (t ∷ []))) ∙ at_end left

  module _ (i : PlannedItem) (is : List PlannedItem) where
    abbrev next : Tuple → List Mark
    next = joined args rows is cs

    -- what is read of the item and of those behind it, beside a tuple
    abbrev beside_reads : JoinKind → Tuple → List LeafId
    beside_reads kind t = reads_in (for_each next (beside_marks kind args rows i t))

    abbrev scan_ids : Tuple → List LeafId
    scan_ids t = map id_of (leaves_for i t.rows)

    abbrev gives : Tuple → List Tuple
    gives t = filter (passes args i.conjuncts) (flat_map (tuples_in rows i.number t) (leaves_for i t.rows))

    -- in a Nested Loop
    scanned_one : (t : Tuple) → IsPermutation (scan_ids t ++ flat_map (loops_reads is) (gives t)) (beside_reads NestedLoop t)
    scanned_one t =
        let ls = leaves_for i t.rows in
        subst (λ l. IsPermutation (l ++ flat_map (loops_reads is) (gives t)) (beside_reads NestedLoop t)) (leaves_reads (passes args i.conjuncts) rows i.number t ls)
        (subst (λ (ts : List Tuple). IsPermutation (reads_in (scan_marks args rows i t) ++ flat_map (loops_reads is) ts) (beside_reads NestedLoop t)) (leaves_tuples (passes args i.conjuncts) rows i.number t ls)
        (followed next (scan_marks args rows i t)))

    -- in a Hash Join
    found_one : (t : Tuple) → i.is_asked_again ≡ false → flat_map (loops_reads is) (gives t) ≡ beside_reads HashJoin t
    found_one t once =
        ap (λ (ls : List Leaf). flat_map (loops_reads is) (filter (passes args i.conjuncts) (flat_map (tuples_in rows i.number t) ls))) (asked_once i t.rows once)
        ∙ given_followed next (filter (passes args i.conjuncts) (flat_map (tuples_in rows i.number t) i.leaves))

    found_each : (left : List Tuple) → i.is_asked_again ≡ false → flat_map (loops_reads is) (joined_with args rows i left) ≡ flat_map (beside_reads HashJoin) left
    found_each [] once = refl
    found_each (t ∷ left) once =
        flat_map-append (loops_reads is) (gives t) (joined_with args rows i left)
        ∙ ap (λ l. l ++ flat_map (loops_reads is) (joined_with args rows i left)) (found_one t once)
        ∙ ap (λ l. beside_reads HashJoin t ++ l) (found_each left once)

    -- the item beside all tuples of its left side
    one_join : (kind : JoinKind) → (kind ≡ HashJoin → i.is_asked_again ≡ false) → (left : List Tuple)
        → IsPermutation (item_reads kind i left ++ flat_map (loops_reads is) (joined_with args rows i left)) (reads_in (first_marks kind i) ++ flat_map (beside_reads kind) left)
    one_join NestedLoop once left =
        subst (λ l. IsPermutation (read_beside i left ++ l) (flat_map (beside_reads NestedLoop) left)) (sym (flat_of_flat (loops_reads is) gives left))
        (of_each scan_ids (λ t. flat_map (loops_reads is) (gives t)) (beside_reads NestedLoop) scanned_one left)
    one_join HashJoin once left =
        let found = flat_map (loops_reads is) (joined_with args rows i left) in
        let ids = map id_of i.leaves in
        subst (IsPermutation (ids ++ found)) (ap (λ l. l ++ found) (sym (leaves_first i.leaves)) ∙ ap (λ l. reads_in (first_marks HashJoin i) ++ l) (found_each left (once refl)))
        (IsPermutation-refl (ids ++ found))

  -- items from the left, and behind them the others
  all_joins : (is others : List PlannedItem) → ArePlanned is → (left : List Tuple)
      → IsPermutation (items_read args rows is left ++ flat_map (loops_reads others) (all_joined_with args rows is left)) (reads_in (read_first is) ++ flat_map (loops_reads (is ++ others)) left)
  all_joins [] others its left = IsPermutation-refl (flat_map (loops_reads others) left)
  all_joins (i ∷ is) others its left =
      let more = joined_with args rows i left in
      let own = item_reads i.join i left in
      let later = items_read args rows is more in
      let behind = flat_map (loops_reads others) (all_joined_with args rows is more) in
      let first = reads_in (read_first is) in
      let here = reads_in (first_marks i.join i) in
      let all = flat_map (loops_reads (i ∷ is ++ others)) left in
      let beyond = flat_map (loops_reads (is ++ others)) more in
      subst (λ l. IsPermutation l (reads_in (read_first (i ∷ is)) ++ all)) (sym (append_assoc own later behind))
      (subst (IsPermutation (own ++ (later ++ behind))) (sym (append_assoc first here all) ∙ ap (λ l. l ++ all) (sym (reads_append (read_first is) (first_marks i.join i))))
      (IsPermutation-trans _ _ _ (IsPermutation-append_right own (later ++ behind) (first ++ beyond) (all_joins is others its.1 more))
      (IsPermutation-trans _ _ _ (to_front own first beyond)
      (IsPermutation-append_right first (own ++ beyond) (here ++ all) (one_join i (is ++ others) i.join its.0.once left)))))

  -- behind the last item
  last_joins : (is : List PlannedItem) → ArePlanned is → (left : List Tuple) → IsPermutation (items_read args rows is left) (reads_in (read_first is) ++ flat_map (loops_reads is) left)
  last_joins is its left =
      subst (λ l. IsPermutation l (reads_in (read_first is) ++ flat_map (loops_reads is) left)) (ap (λ l. items_read args rows is left ++ l) (at_end (all_joined_with args rows is left)) ∙ append-nil (items_read args rows is left))
      (subst (λ js. IsPermutation (items_read args rows is left ++ flat_map (loops_reads []) (all_joined_with args rows is left)) (reads_in (read_first is) ++ flat_map (loops_reads js) left)) (append-nil is) (all_joins is [] its left))

  -- ---- pairs

  abbrev PairsPlanned : List Pair → Type 0
  PairsPlanned [] = Unit {0}
  PairsPlanned (p ∷ ps) = ArePlanned (items_of p) × PairsPlanned ps

  one_pair : (is : List PlannedItem) (p : Pair) → ArePlanned (items_of p)
      → IsPermutation (items_read args rows (items_of p) (no_tuple ∷ []) ++ flat_map (loops_reads is) (all_joined_with args rows (items_of p) (no_tuple ∷ []))) (reads_in (pair_marks args rows is cs p))
  one_pair is p its =
      subst (IsPermutation (items_read args rows (items_of p) (no_tuple ∷ []) ++ flat_map (loops_reads is) (all_joined_with args rows (items_of p) (no_tuple ∷ []))))
      (ap (λ l. reads_in (read_first (items_of p)) ++ l) (append-nil (loops_reads (items_of p ++ is) no_tuple)) ∙ sym (reads_append (read_first (items_of p)) (joined args rows (items_of p ++ is) cs no_tuple)))
      (all_joins (items_of p) is its (no_tuple ∷ []))

  all_pairs : (is : List PlannedItem) (ps : List Pair) → PairsPlanned ps
      → IsPermutation (pairs_read args rows (Some ps) ++ flat_map (loops_reads is) (pairs_give args rows (Some ps))) (reads_in (flat_map (pair_marks args rows is cs) ps))
  all_pairs is [] its = IsPermutation-refl []
  all_pairs is (p ∷ ps) its =
      let own = items_read args rows (items_of p) (no_tuple ∷ []) in
      let given = all_joined_with args rows (items_of p) (no_tuple ∷ []) in
      let others = pairs_read args rows (Some ps) in
      let rest = pairs_give args rows (Some ps) in
      subst (λ l. IsPermutation ((own ++ others) ++ l) (reads_in (flat_map (pair_marks args rows is cs) (p ∷ ps)))) (sym (flat_map-append (loops_reads is) given rest))
      (subst (IsPermutation ((own ++ others) ++ (flat_map (loops_reads is) given ++ flat_map (loops_reads is) rest))) (sym (reads_append (pair_marks args rows is cs p) (flat_map (pair_marks args rows is cs) ps)))
      (IsPermutation-trans _ _ _ (paired own others (flat_map (loops_reads is) given) (flat_map (loops_reads is) rest))
      (IsPermutation-append (own ++ flat_map (loops_reads is) given) (reads_in (pair_marks args rows is cs p)) (others ++ flat_map (loops_reads is) rest) (reads_in (flat_map (pair_marks args rows is cs) ps)) (one_pair is p its.0) (all_pairs is ps its.1))))

  abbrev OptionPlanned : Option (List Pair) → Type 0
  OptionPlanned None = Unit {0}
  OptionPlanned (Some ps) = PairsPlanned ps

  whole : (ps : Option (List Pair)) (is : List PlannedItem) → OptionPlanned ps → ArePlanned is
      → IsPermutation (pairs_read args rows ps ++ items_read args rows is (pairs_give args rows ps)) (reads_in (read_first is ++ all_joined args rows ps is cs))
  whole None is their its =
      subst (IsPermutation (items_read args rows is (no_tuple ∷ [])))
      (ap (λ l. reads_in (read_first is) ++ l) (append-nil (loops_reads is no_tuple)) ∙ sym (reads_append (read_first is) (joined args rows is cs no_tuple)))
      (last_joins is its (no_tuple ∷ []))
  whole (Some ps) is their its =
      let read = pairs_read args rows (Some ps) in
      let given = pairs_give args rows (Some ps) in
      let first = reads_in (read_first is) in
      let behind = flat_map (loops_reads is) given in
      subst (IsPermutation (read ++ items_read args rows is given)) (sym (reads_append (read_first is) (flat_map (pair_marks args rows is cs) ps)))
      (IsPermutation-trans _ _ _ (IsPermutation-append_right read (items_read args rows is given) (first ++ behind) (last_joins is its given))
      (IsPermutation-trans _ _ _ (to_front read first behind) (IsPermutation-append_right first (read ++ behind) (reads_in (flat_map (pair_marks args rows is cs) ps)) (all_pairs is ps their))))

-- ---- the pairs of a plan

over_planned : (how : Planning) (n : ℕ) (i : PlannedItem) → IsPlanned (over_partition how n i)
over_planned how n i = let its = item_planned how i.number i.conjuncts (in_partition n i.tree) in record { kept = its.kept; once = its.once }

pairs_planned : (how : Planning) (l r : PlannedItem) (args : List Value) (rows : Rows) (cs : List CondTree) (ns : List ℕ) → PairsPlanned args rows cs (filter both_keep (map (pair_at how l r) ns))
pairs_planned how l r args rows cs [] = tt
pairs_planned how l r args rows cs (n ∷ ns) = by (both_keep (pair_at how l r n)) (pairs_planned how l r args rows cs ns)
  where
    later : List Pair
    later = filter both_keep (map (pair_at how l r) ns)

    by : (b : Bool) → PairsPlanned args rows cs later → PairsPlanned args rows cs (if b then pair_at how l r n ∷ later else later)
    by true go = ((over_planned how n l, (over_planned how n r, tt)), go)
    by false go = go

pairs_started : (given : List Value) (args : List Value) (rows : Rows) (cs : List CondTree) (ps : List Pair) → PairsPlanned args rows cs ps → PairsPlanned args rows cs (map (started_pair given) ps)
pairs_started given args rows cs [] its = tt
pairs_started given args rows cs (p ∷ ps) its = ((started_planned given p.left its.0.0, (started_planned given p.right its.0.1.0, tt)), pairs_started given args rows cs ps its.1)

option_planned : (how : Planning) (args : List Value) (rows : Rows) (cs : List CondTree) (items : List PlannedItem) → OptionPlanned args rows cs (pairs_of how items)
option_planned how args rows cs [] = tt
option_planned how args rows cs (l ∷ []) = tt
option_planned how args rows cs (l ∷ r ∷ is) = by (how.pairs && is_partitionwise l r)
  where
    by : (b : Bool) → OptionPlanned args rows cs (if b then Some (pairs_over how l r) else None)
    by true = pairs_planned how l r args rows cs (partitions l.tree)
    by false = tt

option_started : (given : List Value) (args : List Value) (rows : Rows) (cs : List CondTree) (ps : Option (List Pair)) → OptionPlanned args rows cs ps → OptionPlanned args rows cs (option_map (map (started_pair given)) ps)
option_started given args rows cs None its = tt
option_started given args rows cs (Some ps) its = pairs_started given args rows cs ps its

plan_pairs : (how : Planning) (args : List Value) (rows : Rows) (cs : List CondTree) (conditions : List CondTree) (trees : List TableTree) → OptionPlanned args rows cs (plan_by how args conditions trees).pairs
plan_pairs how args rows cs conditions trees = by how.is_generic
  where
    plan : Planned
    plan = plan_for how conditions trees

    by : (b : Bool) → OptionPlanned args rows cs (if b then started args plan else plan).pairs
    by true = option_started args args rows cs plan.pairs (option_planned how args rows cs plan.items)
    by false = option_planned how args rows cs plan.items

-- the items behind them
behind_planned : {X : Type 0} (ps : Option X) (is : List PlannedItem) → ArePlanned is → ArePlanned (behind ps is)
behind_planned None is its = its
behind_planned (Some x) [] its = tt
behind_planned (Some x) (i ∷ []) its = tt
behind_planned (Some x) (i ∷ j ∷ is) its = its.1.1

pub joins_read : JoinsReadTheirScans
joins_read how args m rows trees = by (is_empty plan)
  where
    plan : Planned
    plan = plan_by how args m.conditions trees

    by : (b : Bool) → IsPermutation (if b then [] else pairs_read args rows plan.pairs ++ items_read args rows (unpaired plan) (pairs_give args rows plan.pairs)) (reads_in (if b then [] else read_first (unpaired plan) ++ all_joined args rows plan.pairs (unpaired plan) plan.at_last))
    by true = IsPermutation-refl []
    by false =
        whole args rows plan.at_last plan.pairs (unpaired plan) (plan_pairs how args rows plan.at_last m.conditions trees)
        (behind_planned plan.pairs plan.items (all_planned how args m.conditions trees))

-- ---- what holds of the leaves under the scans holds of those that are read

module _ (P : LeafId → Type 0) where
  -- of the leaves of an item, and those that are kept beside a tuple
  of_kept : (ls kept : List Leaf) → ((l : Leaf) → Contains kept l → Contains ls l) → All P (map id_of ls) → All P (map id_of kept)
  of_kept ls kept within h =
      let each : All (λ (l : Leaf). P l.id) ls = of_ids P ls h in
      All-map P id_of kept (All-weaker (Contains kept) (λ (l : Leaf). P l.id) (λ l at. All-contains (λ (x : Leaf). P x.id) ls l each (within l at)) kept (All-contains_itself kept))

  of_beside : (i : PlannedItem) → IsPlanned i → (left : List Tuple) → All P (map id_of i.leaves) → All P (read_beside i left)
  of_beside i its [] h = All-nil P
  of_beside i its (t ∷ left) h =
      All-append P (map id_of (leaves_for i t.rows)) (read_beside i left)
      (of_kept i.leaves (leaves_for i t.rows) (of_item i its t.rows) h)
      (of_beside i its left h)

  of_join : (kind : JoinKind) (i : PlannedItem) → IsPlanned i → (left : List Tuple) → All P (map id_of i.leaves) → All P (item_reads kind i left)
  of_join NestedLoop i its left h = of_beside i its left h
  of_join HashJoin i its left h = h

  of_items : (args : List Value) (rows : Rows) (is : List PlannedItem) → ArePlanned is → (left : List Tuple) → All P (map id_of (flat_map (λ i. i.leaves) is)) → All P (items_read args rows is left)
  of_items args rows [] its left h = All-nil P
  of_items args rows (i ∷ is) its left h =
      let others = flat_map (λ (x : PlannedItem). x.leaves) is in
      let parts = subst (All P) (map-append id_of i.leaves others) h in
      All-append P (item_reads i.join i left) (items_read args rows is (joined_with args rows i left))
      (of_join i.join i its.0 left (in_first P (map id_of i.leaves) (map id_of others) parts))
      (of_items args rows is its.1 (joined_with args rows i left) (in_second P (map id_of i.leaves) (map id_of others) parts))

-- the leaves of some items and those of others
leaves_append : (is js : List PlannedItem) → map id_of (flat_map (λ (i : PlannedItem). i.leaves) (is ++ js)) ≡ map id_of (flat_map (λ (i : PlannedItem). i.leaves) is) ++ map id_of (flat_map (λ (i : PlannedItem). i.leaves) js)
leaves_append is js =
    ap (map id_of) (flat_map-append (λ (i : PlannedItem). i.leaves) is js) ∙ map-append id_of (flat_map (λ (i : PlannedItem). i.leaves) is) (flat_map (λ (i : PlannedItem). i.leaves) js)

module _ (P : LeafId → Type 0) (args : List Value) (rows : Rows) (cs : List CondTree) where
  of_pairs : (ps : List Pair) → PairsPlanned args rows cs ps → All P (map id_of (flat_map (λ i. i.leaves) (flat_map items_of ps))) → All P (pairs_read args rows (Some ps))
  of_pairs [] its h = All-nil P
  of_pairs (p ∷ ps) its h =
      let own = map id_of (flat_map (λ (i : PlannedItem). i.leaves) (items_of p)) in
      let others = map id_of (flat_map (λ (i : PlannedItem). i.leaves) (flat_map items_of ps)) in
      let parts = subst (All P) (leaves_append (items_of p) (flat_map items_of ps)) h in
      All-append P (items_read args rows (items_of p) (no_tuple ∷ [])) (pairs_read args rows (Some ps))
      (of_items P args rows (items_of p) its.0 (no_tuple ∷ []) (in_first P own others parts)) (of_pairs ps its.1 (in_second P own others parts))

  of_option : (ps : Option (List Pair)) → OptionPlanned args rows cs ps → All P (map id_of (flat_map (λ i. i.leaves) (paired_items ps))) → All P (pairs_read args rows ps)
  of_option None its h = All-nil P
  of_option (Some ps) its h = of_pairs ps its h

pub are_scanned : ReadsAreScanned
are_scanned how args m rows trees = All-permutation (Contains (map id_of (scanned plan))) (scans_read args rows plan) _ (joins_read how args m rows trees) (by (is_empty plan))
  where
    plan : Planned
    plan = plan_by how args m.conditions trees

    by : (b : Bool) → All (Contains (map id_of (if b then [] else flat_map (λ i. i.leaves) (scanned_items plan)))) (if b then [] else pairs_read args rows plan.pairs ++ items_read args rows (unpaired plan) (pairs_give args rows plan.pairs))
    by true = All-nil (Contains [])
    by false =
        let P = Contains (map id_of (flat_map (λ (i : PlannedItem). i.leaves) (scanned_items plan))) in
        let own = map id_of (flat_map (λ (i : PlannedItem). i.leaves) (paired_items plan.pairs)) in
        let others = map id_of (flat_map (λ (i : PlannedItem). i.leaves) (unpaired plan)) in
        let parts = subst (All P) (leaves_append (paired_items plan.pairs) (unpaired plan)) (All-contains_itself (map id_of (flat_map (λ (i : PlannedItem). i.leaves) (scanned_items plan)))) in
        All-append P (pairs_read args rows plan.pairs) (items_read args rows (unpaired plan) (pairs_give args rows plan.pairs))
        (of_option P args rows plan.at_last plan.pairs (plan_pairs how args rows plan.at_last m.conditions trees) (in_first P own others parts))
        (of_items P args rows (unpaired plan) (behind_planned plan.pairs plan.items (all_planned how args m.conditions trees)) (pairs_give args rows plan.pairs) (in_second P own others parts))

-- ---- scans that are reached

module _ (args : List Value) (rows : Rows) where
  beside_reached : (i : PlannedItem) (left : List Tuple) → 0 < length left → i.is_asked_again ≡ false → All (Contains (read_beside i left)) (map id_of i.leaves)
  beside_reached i [] some once = absurd (omega (arith, some))
  beside_reached i (t ∷ left) some once =
      let same : map id_of (leaves_for i t.rows) ≡ map id_of i.leaves = ap (map id_of) (asked_once i t.rows once) in
      let ids = map id_of i.leaves in
      All-weaker (Contains ids) (Contains (read_beside i (t ∷ left)))
      (λ x at. Contains-append_left (map id_of (leaves_for i t.rows)) (read_beside i left) x (subst (λ l. Contains l x) (sym same) at))
      ids (All-contains_itself ids)

  item_reached : (kind : JoinKind) (i : PlannedItem) (left : List Tuple) → IsReached kind i left → All (Contains (item_reads kind i left)) (map id_of i.leaves)
  item_reached NestedLoop i left h = beside_reached i left h.0 h.1
  item_reached HashJoin i left h = All-contains_itself (map id_of i.leaves)

  reached : (is : List PlannedItem) (left : List Tuple) → AreReached args rows is left → All (Contains (items_read args rows is left)) (map id_of (flat_map (λ i. i.leaves) is))
  reached [] left h = All-nil (Contains [])
  reached (i ∷ is) left h =
      let own = item_reads i.join i left in
      let more = items_read args rows is (joined_with args rows i left) in
      let others = flat_map (λ i. i.leaves) is in
      subst (All (Contains (own ++ more))) (sym (map-append id_of i.leaves others))
      (All-append (Contains (own ++ more)) (map id_of i.leaves) (map id_of others)
      (All-weaker (Contains own) (Contains (own ++ more)) (λ x at. Contains-append_left own more x at) (map id_of i.leaves) (item_reached i.join i left h.0))
      (All-weaker (Contains more) (Contains (own ++ more)) (λ x at. Contains-append_right own more x at) (map id_of others) (reached is (joined_with args rows i left) h.1)))

  pairs_reached : (ps : List Pair) → All (λ p. AreReached args rows (items_of p) (no_tuple ∷ [])) ps → All (Contains (pairs_read args rows (Some ps))) (map id_of (flat_map (λ i. i.leaves) (flat_map items_of ps)))
  pairs_reached [] h = All-nil (Contains [])
  pairs_reached (p ∷ ps) h =
      let Reached = λ (q : Pair). AreReached args rows (items_of q) (no_tuple ∷ []) in
      let own = items_read args rows (items_of p) (no_tuple ∷ []) in
      let more = pairs_read args rows (Some ps) in
      let first = map id_of (flat_map (λ (i : PlannedItem). i.leaves) (items_of p)) in
      let others = map id_of (flat_map (λ (i : PlannedItem). i.leaves) (flat_map items_of ps)) in
      subst (All (Contains (own ++ more))) (sym (leaves_append (items_of p) (flat_map items_of ps)))
      (All-append (Contains (own ++ more)) first others
      (All-weaker (Contains own) (Contains (own ++ more)) (λ x at. Contains-append_left own more x at) first (reached (items_of p) (no_tuple ∷ []) (All-head Reached p ps h)))
      (All-weaker (Contains more) (Contains (own ++ more)) (λ x at. Contains-append_right own more x at) others (pairs_reached ps (All-tail Reached p ps h))))

  option_reached : (ps : Option (List Pair)) → PairsAreReached args rows ps → All (Contains (pairs_read args rows ps)) (map id_of (flat_map (λ i. i.leaves) (paired_items ps)))
  option_reached None h = All-nil (Contains [])
  option_reached (Some ps) h = pairs_reached ps h

pub are_read : ReachedScansAreRead
are_read how args m rows trees h =
    All-weaker (Contains (scans_read args rows plan)) (Contains (plan_reads how args m rows trees)) (λ x at. Contains-permutation (scans_read args rows plan) _ x (joins_read how args m rows trees) at) (map id_of (scanned plan)) (by (is_empty plan))
  where
    plan : Planned
    plan = plan_by how args m.conditions trees

    by : (b : Bool) → All (Contains (if b then [] else pairs_read args rows plan.pairs ++ items_read args rows (unpaired plan) (pairs_give args rows plan.pairs))) (map id_of (if b then [] else flat_map (λ i. i.leaves) (scanned_items plan)))
    by true = All-nil (Contains [])
    by false =
        let read = pairs_read args rows plan.pairs in
        let more = items_read args rows (unpaired plan) (pairs_give args rows plan.pairs) in
        let own = map id_of (flat_map (λ (i : PlannedItem). i.leaves) (paired_items plan.pairs)) in
        let others = map id_of (flat_map (λ (i : PlannedItem). i.leaves) (unpaired plan)) in
        subst (All (Contains (read ++ more))) (sym (leaves_append (paired_items plan.pairs) (unpaired plan)))
        (All-append (Contains (read ++ more)) own others
        (All-weaker (Contains read) (Contains (read ++ more)) (λ x at. Contains-append_left read more x at) own (option_reached args rows plan.pairs h.0))
        (All-weaker (Contains more) (Contains (read ++ more)) (λ x at. Contains-append_right read more x at) others (reached args rows (unpaired plan) (pairs_give args rows plan.pairs) h.1)))
