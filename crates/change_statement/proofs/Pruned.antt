-- The targets in the leaves that a statement reads are those in all leaves.
use Rattle.std.proofs.Common.{◌≡◌, ◌≤◌, ◌+◌, ◌&&◌, arith, Bool, true, false, if◌then◌else◌, List, [], ◌∷◌, ◌++◌, length, map, refl, sym, ap, ◌∙◌, append_assoc, length-append, subst}
use Rattle.std.specs.Prelude.{Option, Some, None, filter}
use Rattle.std.specs.List.{flat_map}
use Rattle.std.proofs.lemmas.List.{length-map}
use Rattle.pg_values.specs.declared.value.Value.{Value}
use Rattle.bound_forms.specs.declared.partition_bound.Bound.{Bound}
use Rattle.history.specs.declared.version.Version.{Version}
use Rattle.history.specs.Snapshots.{TakenSnapshot}
use Rattle.history.specs.History.{History, seen}
use Rattle.row_router.specs.Histories.{tree_of}
use Rattle.row_router.specs.Trees.{TableTree, LeafTable, LevelTable, Trees, End, More, leaves}
use Rattle.cond_logic.specs.declared.truth.Truth3.{Truth3}
use Rattle.cond_logic.specs.declared.truth.Truth3.TheVariants.{Yes, No, Unknown}
use Rattle.cond_logic.specs.Rewriting.{with_args}
use Rattle.cond_logic.specs.Trees.{CondTree}
use Rattle.cond_logic.specs.Truths.{truth}
use Rattle.cond_logic.specs.Tuples.{no_rows, put}
use Rattle.cond_logic.specs.Tables.{Leaf}
use Rattle.plan_tree.specs.Kept.{Keeps, keeps_for as keeps_for_all, id_of, leaf_of, named_leaves, all_named_leaves, keeps_plain, leaves_below, leaves_among, kept_leaves}
use Rattle.plan_tree.specs.Laws.{is_yes, passes_beside, passing_in, row_of, shown, NoneIsMissed, ShownLieRight, TreesCanBePruned}
use Rattle.plan_tree.proofs.Arguments.{given_true}
use Rattle.plan_tree.proofs.Missed.{ids_named}
use Rattle.plan_tree.proofs.Truths.{args_true}
use Rattle.change_statement.specs.Targets as targets_spec
use Rattle.change_statement.specs.Targets.{takes, target_of, targets, targets_in}
use Rattle.statement_steps.specs.declared.rest.TargetRow.{TargetRow}
use Rattle.sql_binder.specs.Values.{condition_with}
use Rattle.change_statement.specs.Kept.{condition_or_all, keeps_for, keeps_started, keeps_with, leaves_read}
use Rattle.stores.specs.Events.{look_of}
use Rattle.change_statement.specs.Changed.{all_changed}
use Rattle.change_statement.specs.Laws.{KeptHaveAllTargets, PrunedChangesArePlain, gathered_of}
use Rattle.change_statement.proofs.Started.{asked_condition}

-- ---- lists of lists

flat_append : {X Y : Type 0} (f : X → List Y) (xs ys : List X) → flat_map f (xs ++ ys) ≡ flat_map f xs ++ flat_map f ys
flat_append f [] ys = refl
flat_append f (x ∷ xs) ys = ap (λ l. f x ++ l) (flat_append f xs ys) ∙ sym (append_assoc (f x) (flat_map f xs) (flat_map f ys))

flat_length : {X Y : Type 0} (f : X → List Y) (xs ys : List X) → length (flat_map f (xs ++ ys)) ≡ length (flat_map f xs) + length (flat_map f ys)
flat_length f xs ys = ap length (flat_append f xs ys) ∙ length-append (flat_map f xs) (flat_map f ys)

flat_through : {X Y Z : Type 0} (f : Y → List Z) (g : X → Y) (xs : List X) → flat_map f (map g xs) ≡ flat_map (λ x. f (g x)) xs
flat_through f g [] = refl
flat_through f g (x ∷ xs) = ap (λ l. f (g x) ++ l) (flat_through f g xs)

-- ---- kept leaves are some of all: where all have no more passing rows than these, all have no more targets

module _ (f : Leaf → List (Leaf × List Value)) (g : Leaf → List TargetRow) (none : (l : Leaf) → length (f l) ≡ 0 → g l ≡ []) where
  -- so it is of those of the leaves
  record Rest (some all : List Leaf) : Type 0 where
    pub fewer : length (flat_map f some) ≤ length (flat_map f all)
    pub same : length (flat_map f some) ≡ length (flat_map f all) → flat_map g some ≡ flat_map g all

  none_of : (ls : List Leaf) → length (flat_map f ls) ≡ 0 → flat_map g ls ≡ []
  none_of [] e = refl
  none_of (l ∷ ls) e =
      let count = length-append (f l) (flat_map f ls) in
      rw (none l (omega (arith, count, e)), none_of ls (omega (arith, count, e))) refl

  all_of : (ls : List Leaf) → Rest ls ls
  all_of ls = record { fewer = omega arith; same = λ e. refl }

  left_out : (ls : List Leaf) → Rest [] ls
  left_out ls = record { fewer = omega arith; same = λ e. sym (none_of ls (sym e)) }

  both : (xs ys us vs : List Leaf) → Rest xs us → Rest ys vs → Rest (xs ++ ys) (us ++ vs)
  both xs ys us vs first second =
      let some = flat_length f xs ys in
      let all = flat_length f us vs in
      let a = first.fewer in
      let b = second.fewer in
      record {
        fewer = omega (arith, some, all, a, b);
        same = λ e.
            flat_append g xs ys
            ∙ ap (λ l. l ++ flat_map g ys) (first.same (omega (arith, some, all, a, b, e)))
            ∙ ap (λ l. flat_map g us ++ l) (second.same (omega (arith, some, all, a, b, e)))
            ∙ sym (flat_append g us vs);
      }

  if_kept : (v : Bool) (some all : List Leaf) → Rest some all → Rest (if v then some else []) all
  if_kept true some all rest = rest
  if_kept false some all rest = left_out all

  module _ (keeps : Keeps) where
    mutual
      below_rest : (tree : TableTree) → Rest (leaves_below keeps tree) (named_leaves tree)
      below_rest (LeafTable node leaf) = all_of (leaf_of node leaf ∷ [])
      below_rest (LevelTable node level bounds kids) = among_rest (keeps level bounds) bounds kids

      among_rest : (test : Bound → Bool) (bs : List Bound) (kids : Trees) → Rest (leaves_among keeps test bs kids) (all_named_leaves kids)
      among_rest test bs End = all_of []
      among_rest test [] (More k ks) = left_out (all_named_leaves (More k ks))
      among_rest test (b ∷ bs) (More k ks) =
          both (if test b then leaves_below keeps k else []) (leaves_among keeps test bs ks) (named_leaves k) (all_named_leaves ks)
          (if_kept (test b) (leaves_below keeps k) (named_leaves k) (below_rest k)) (among_rest test bs ks)

    kept_rest : (tree : TableTree) → Rest (kept_leaves keeps tree) (named_leaves tree)
    kept_rest (LeafTable node leaf) = if_kept (keeps_plain keeps) (leaf_of node leaf ∷ []) (leaf_of node leaf ∷ []) (all_of (leaf_of node leaf ∷ []))
    kept_rest (LevelTable node level bounds kids) = below_rest (LevelTable node level bounds kids)

-- ---- a leaf in which no row passes has no target

module _ (test : List Value → Bool) (condition : Option CondTree) (same : (row : List Value) → test row ≡ takes condition row) where
  none_taken : (vs : List Version) → length (filter test (map row_of vs)) ≡ 0 → filter (λ v. takes condition v.row) vs ≡ []
  none_taken [] e = refl
  none_taken (v ∷ vs) e = by (test v.row) (takes condition v.row) (same v.row) e (none_taken vs)
    where
      by : (a b : Bool) → a ≡ b
          → length (if a then v.row ∷ filter test (map row_of vs) else filter test (map row_of vs)) ≡ 0
          → (length (filter test (map row_of vs)) ≡ 0 → filter (λ w. takes condition w.row) vs ≡ [])
          → (if b then v ∷ filter (λ w. takes condition w.row) vs else filter (λ w. takes condition w.row) vs) ≡ []
      by true b is k go = absurd (omega (arith, k))
      by false false is k go = go k
      by false true is k go = cc

  module _ (h : History) (s : TakenSnapshot) where
    abbrev found_in : Leaf → List TargetRow
    found_in leaf = targets_in h s condition leaf.id

    abbrev pairs_in : Leaf → List (Leaf × List Value)
    pairs_in leaf = passing_in (shown h s) test leaf

    none_found : (leaf : Leaf) → length (pairs_in leaf) ≡ 0 → found_in leaf ≡ []
    none_found leaf e =
        let rows = filter test (shown h s leaf.id.number) in
        let pair : List Value → Leaf × List Value = λ row. (leaf, row) in
        ap (map target_of) (none_taken (seen h leaf.id.number s) (sym (length-map rows pair) ∙ e))

    -- so over leaves
    found_over : (ls : List Leaf) → targets h s condition (map id_of ls) ≡ flat_map found_in ls
    found_over ls = flat_through (targets_in h s condition) id_of ls

    -- where the kept leaves miss no row that passes, they miss no target
    targets_kept : (keeps : Keeps) (tree : TableTree) → flat_map pairs_in (named_leaves tree) ≡ flat_map pairs_in (kept_leaves keeps tree) → targets h s condition (leaves_read keeps tree) ≡ targets h s condition (leaves tree)
    targets_kept keeps tree all =
        let rest = kept_rest pairs_in found_in none_found keeps tree in
        found_over (kept_leaves keeps tree)
        ∙ rest.same (ap length (sym all))
        ∙ sym (found_over (named_leaves tree))
        ∙ ap (targets h s condition) (ids_named tree)

-- ---- the rows that pass are those that the condition takes

same_yes : (v : Truth3) → (is_yes v && true) ≡ targets_spec.is_yes v
same_yes Yes = refl
same_yes No = refl
same_yes Unknown = refl

-- of the only item
same_test : (condition : Option CondTree) (row : List Value) → passes_beside [] no_rows 0 (condition_or_all condition ∷ []) row ≡ takes condition row
same_test None row = refl
same_test (Some c) row = same_yes (truth (put no_rows 0 row) [] c)

-- by two conditions that are equally true
same_both : (a b v : Truth3) → a ≡ v → b ≡ v → (is_yes a && (is_yes b && true)) ≡ targets_spec.is_yes v
same_both a b v first second = ap (λ x. is_yes x && (is_yes b && true)) first ∙ ap (λ x. is_yes v && (is_yes x && true)) second ∙ twice v
  where
    twice : (x : Truth3) → (is_yes x && (is_yes x && true)) ≡ targets_spec.is_yes x
    twice Yes = refl
    twice No = refl
    twice Unknown = refl

-- and by the condition with values in the places of its parameters too
same_start : (args : List Value) (condition : Option CondTree) (row : List Value) → passes_beside args no_rows 0 (condition_or_all condition ∷ with_args args (condition_or_all condition) ∷ []) row ≡ takes (condition_with args condition) row
same_start args None row = refl
same_start args (Some c) row =
    let rows = put no_rows 0 row in
    let alone = given_true rows args c in
    same_both (truth rows args c) (truth rows args (with_args args c)) (truth rows [] (with_args args c)) (sym alone) (args_true rows args c ∙ sym alone)

-- ---- so of a statement

pub all_targets_kept : NoneIsMissed → ShownLieRight → TreesCanBePruned → KeptHaveAllTargets
all_targets_kept missed right can how args condition h session table s legal permitted looking made = by how.is_generic
  where
    tree : TableTree
    tree = tree_of h session table s

    none : (ts : List CondTree) (values : List Value) → flat_map (passing_in (shown h s) (passes_beside values no_rows 0 ts)) (named_leaves tree) ≡ flat_map (passing_in (shown h s) (passes_beside values no_rows 0 ts)) (kept_leaves (keeps_for_all how.prunes 0 ts) tree)
    none ts values = missed how.prunes 0 ts values no_rows (shown h s) tree (omega arith) (can h session table s legal permitted made) (right h session table s legal permitted looking made)

    by : (v : Bool) → targets h s (if v then condition_with args condition else condition) (leaves_read (if v then keeps_with how.prunes args (condition_or_all condition) else keeps_for how.prunes condition) tree) ≡ targets h s (if v then condition_with args condition else condition) (leaves tree)
    by true =
        let c = condition_or_all condition in
        let ts = c ∷ with_args args c ∷ [] in
        targets_kept (passes_beside args no_rows 0 ts) (condition_with args condition) (same_start args condition) h s (keeps_for_all how.prunes 0 ts) tree (none ts args)
    by false =
        let ts = condition_or_all condition ∷ [] in
        targets_kept (passes_beside [] no_rows 0 ts) condition (same_test condition) h s (keeps_for_all how.prunes 0 ts) tree (none ts [])

pub pruned_plain : NoneIsMissed → ShownLieRight → TreesCanBePruned → PrunedChangesArePlain
pruned_plain missed right can how args change names c table m h legal permitted looking made =
    let s = look_of h c.session c.cmd in
    let tree = tree_of h c.session table s in
    ap (λ ts. all_changed change names c (gathered_of how c args table m h) ts 0 h)
    (subst (λ x. targets h s x (leaves_read (keeps_started how args m.condition) tree) ≡ targets h s x (leaves tree)) (sym (asked_condition how args m))
    (all_targets_kept missed right can how args m.condition h c.session table s legal permitted looking made))
