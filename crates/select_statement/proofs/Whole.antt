-- The parts of a SELECT, one after another.
use Rattle.std.proofs.Common.{◌≡◌, ℕ, suc, ◌+◌, ◌<◌, ◌≤◌, Bool, true, false, if◌then◌else◌, arith, List, [], ◌∷◌, ◌++◌, refl, ap, sym, subst, ◌∙◌, append_assoc, drop, Result, Ok, Err, IfOk, All, map, length}
use Rattle.std.specs.Prelude.{◌&&◌, Option, Some, None, filter, nat_le}
use Rattle.std.specs.List.{flat_map, slice_index_or}
use Rattle.std.proofs.lemmas.Bool.Decides.{nat_tests}
use Rattle.std.proofs.lemmas.List.{length-map, map-append, drop_more}
use Rattle.std.proofs.lemmas.List.Elements.{All-nil, All-cons, All-head, All-tail, All-append}
use Rattle.pg_values.specs.declared.fault.Fault.{Fault}
use Rattle.pg_values.specs.declared.ids.TableNo.{TableNo}
use Rattle.pg_values.specs.declared.value.Value.{Value}
use Rattle.pg_values.specs.declared.which.Which.TheVariants.{TablesInFrom}
use Rattle.refusals.specs.Refusals.{too_many}
use Rattle.history.specs.Transactions.{IsPast}
use Rattle.history.specs.Snapshots.{TakenSnapshot}
use Rattle.history.specs.History.{History, tx_events}
use Rattle.tx_table.specs.Kept.{KeptSnapshot}
use Rattle.tx_table.specs.Stands.{SnapshotStands}
use Rattle.row_router.specs.Trees.{TableTree}
use Rattle.row_router.specs.Histories.{tree_of}
use Rattle.cond_logic.specs.Trees.{CondTree}
use Rattle.plan_tree.specs.Kept.{kept_tables}
use Rattle.plan_tree.specs.Laws.{TreesCanBePruned}
use Rattle.cond_logic.specs.Asked.{SelectMeant}
use Rattle.plan_tree.specs.Prunable.{CanPrune}
use Rattle.soundness.proofs.Presence.{all_more}
use Rattle.sql_ast.specs.Queries.{SelectTree, selected as selects}
use Rattle.expression_binder.specs.declared.scope.Param.{Param}
use Rattle.expression_binder.specs.Firsts.{or_first, unless}
use Rattle.expression_binder.specs.Scopes.{Item}
use Rattle.sql_binder.specs.From.{item_name, twice_faults}
use Rattle.sql_binder.specs.Selects.{bound_select, from_of, name_faults, constant_faults, meaning}
use Rattle.sql_binder.specs.Values.{custom_select, if_bound, values_of, with_values}
use Rattle.plan_tree.specs.Conjuncts.{pool, asked_at, asked_later}
use Rattle.plan_tree.specs.Parts.{partitions}
use Rattle.plan_tree.specs.Plans.{PlannedItem, Planned, Pair, all_items, both, both_keep, is_partitionwise, over_partition, pair_at, paired, pairs_of, pairs_over, keeps_first, item_for, items_from, plan_for, is_empty, plan_tables, started_item, started, started_by, plan_by, CanRead}
use Rattle.plan_tree.specs.declared.planning.Planning.{Planning}
use Rattle.plan_tree.proofs.Partitions.{partition_prunes}
use Rattle.select_answer.proofs.Kept.{plan_read as read_by}
use Rattle.stores.specs.Events.{look_of}
use Rattle.stores.specs.Laws.{LeavesAreHoused}
use Rattle.stores.specs.Stand.{AllStand, Stands, IsSound}
use Rattle.stores.specs.declared.stores.Stores.{Stores}
use Rattle.statement_steps.specs.Made.{Made, Refused}
use Rattle.statement_steps.specs.Attempts.{MayAttempt}
use Rattle.statement_steps.specs.declared.caller.Caller.{Caller}
use Rattle.statement_steps.specs.declared.stop.Stop.{Stop}
use Rattle.statement_steps.specs.Known.{IsKnownTo}
use Rattle.statement_steps.specs.Steps.{IsStep}
use Rattle.statement_steps.specs.Below.{number_of}
use Rattle.select_statement.specs.Lent.{HasLeaves, MayLock, IsTreeFor, IsLookFor}
use Rattle.select_statement.specs.Selected.{outcome, asked_by, meant, trees_for}
use Rattle.select_statement.proofs.Kept.{tables_kept}
use Rattle.select_statement.proofs.Known.{tree_for}

-- ---- the tables under the named ones

abbrev IsLow : TableNo → Type 0
IsLow t = t.number < 4096

pub all_low : (stores : Stores) (caller : Caller) (tables : List TableNo) → All (MayLock stores caller) tables → All (λ t. t.number < 4096) tables
all_low stores caller tables all = all_more (MayLock stores caller) IsLow tables (λ t may. may.0) all

abbrev IsKnownHere : Stores → Caller → TableNo → Type 0
IsKnownHere stores caller t = IsKnownTo stores caller.session t.number

pub all_known : (stores : Stores) (caller : Caller) (tables : List TableNo) → All (MayLock stores caller) tables → All (λ t. IsKnownTo stores caller.session t.number) tables
all_known stores caller tables all = all_more (MayLock stores caller) (IsKnownHere stores caller) tables (λ t may. may.1) all

-- ---- what a plan reads and locks

-- the trees of a statement
abbrev AreTreesFor : Stores → Caller → List TableTree → Type 0
AreTreesFor stores caller [] = Unit {0}
AreTreesFor stores caller (t ∷ ts) = IsTreeFor stores caller t × AreTreesFor stores caller ts

trees_for_all : {X : Type 0} (stores : Stores) (caller : Caller) (f : X → TableTree) (xs : List X) → All (λ x. IsTreeFor stores caller (f x)) xs → AreTreesFor stores caller (map f xs)
trees_for_all stores caller f [] all = tt
trees_for_all stores caller f (x ∷ xs) all = (All-head (λ x. IsTreeFor stores caller (f x)) x xs all, trees_for_all stores caller f xs (All-tail (λ x. IsTreeFor stores caller (f x)) x xs all))

pub can_prune_all : {X : Type 0} (stores : Stores) (caller : Caller) (f : X → TableTree) (xs : List X) → All (λ x. IsTreeFor stores caller (f x)) xs → All (λ x. CanPrune (f x)) xs
can_prune_all stores caller f xs all = all_more (λ x. IsTreeFor stores caller (f x)) (λ x. CanPrune (f x)) xs (λ x its. its.prunable) all

items_locked : (stores : Stores) (caller : Caller) (how : Planning) (n : ℕ) (cs : List CondTree) (trees : List TableTree) → AreTreesFor stores caller trees → All (MayLock stores caller) (flat_map (λ i. i.tables) (items_from how n cs trees))
items_locked stores caller how n cs [] its = All-nil (MayLock stores caller)
items_locked stores caller how n cs (t ∷ ts) its =
    All-append (MayLock stores caller) (kept_tables (keeps_first how.prunes n (asked_at n cs)) t) (flat_map (λ i. i.tables) (items_from how (n + 1) (asked_later n cs) ts))
    (tables_kept (MayLock stores caller) (keeps_first how.prunes n (asked_at n cs)) t its.0.locks) (items_locked stores caller how (n + 1) (asked_later n cs) ts its.1)

-- the trees of its items can be pruned
abbrev Prunes : PlannedItem → Type 0
Prunes i = CanPrune i.tree

items_prunable : (stores : Stores) (caller : Caller) (how : Planning) (n : ℕ) (cs : List CondTree) (trees : List TableTree) → AreTreesFor stores caller trees → All (λ (i : PlannedItem). CanPrune i.tree) (items_from how n cs trees)
items_prunable stores caller how n cs [] its = All-nil (λ (i : PlannedItem). CanPrune i.tree)
items_prunable stores caller how n cs (t ∷ ts) its =
    All-cons (λ (i : PlannedItem). CanPrune i.tree) (item_for how n (asked_at n cs) t) (items_from how (n + 1) (asked_later n cs) ts) its.0.prunable (items_prunable stores caller how (n + 1) (asked_later n cs) ts its.1)

-- also those of the partitions that are joined by themselves
pairs_prunable : (how : Planning) (l r : PlannedItem) → Prunes l → Prunes r → (ns : List ℕ) → All Prunes (flat_map both (filter both_keep (map (pair_at how l r) ns)))
pairs_prunable how l r left right [] = All-nil Prunes
pairs_prunable how l r left right (n ∷ ns) = by (both_keep (pair_at how l r n)) (pairs_prunable how l r left right ns)
  where
    later : List Pair
    later = filter both_keep (map (pair_at how l r) ns)

    by : (b : Bool) → All Prunes (flat_map both later) → All Prunes (flat_map both (if b then pair_at how l r n ∷ later else later))
    by true go =
        All-cons Prunes (over_partition how n l) (over_partition how n r ∷ flat_map both later) (partition_prunes n l.tree left)
        (All-cons Prunes (over_partition how n r) (flat_map both later) (partition_prunes n r.tree right) go)
    by false go = go

paired_prunable : (how : Planning) (items : List PlannedItem) → All Prunes items → All Prunes (paired (pairs_of how items))
paired_prunable how [] can = All-nil Prunes
paired_prunable how (l ∷ []) can = All-nil Prunes
paired_prunable how (l ∷ r ∷ is) can = by (how.pairs && is_partitionwise l r)
  where
    by : (b : Bool) → All Prunes (paired (if b then Some (pairs_over how l r) else None))
    by true = pairs_prunable how l r (All-head Prunes l (r ∷ is) can) (All-head Prunes r is (All-tail Prunes l (r ∷ is) can)) (partitions l.tree)
    by false = All-nil Prunes

none_or : (stores : Stores) (caller : Caller) (b : Bool) (tables : List TableNo) → All (MayLock stores caller) tables → All (MayLock stores caller) (if b then [] else tables)
none_or stores caller true tables all = All-nil (MayLock stores caller)
none_or stores caller false tables all = all

module _ {X : Type 0} (stores : Stores) (caller : Caller) (conditions : List CondTree) (f : X → TableTree) (xs : List X) (its : All (λ x. IsTreeFor stores caller (f x)) xs) where
  -- once it is started
  pub plan_read : (how : Planning) (args : List Value) (plan : Planned) → plan ≡ plan_by how args conditions (map f xs) → All (CanRead stores.rows.leaves) (all_items plan)
  plan_read how args plan is =
      read_by f stores.rows.leaves how args conditions xs plan (can_prune_all stores caller f xs its) (all_more (λ x. IsTreeFor stores caller (f x)) (λ x. HasLeaves stores (f x)) xs (λ x t. t.leaves) its) is

  -- before that
  pub plan_prunable : (how : Planning) (plan : Planned) → plan ≡ plan_for how conditions (map f xs) → All Prunes (all_items plan)
  plan_prunable how plan is =
      let items = items_from how 0 (pool conditions) (map f xs) in
      let can = items_prunable stores caller how 0 (pool conditions) (map f xs) (trees_for_all stores caller f xs its) in
      subst (λ (p : Planned). All Prunes (all_items p)) (sym is) (All-append Prunes items (paired (pairs_of how items)) can (paired_prunable how items can))

  pub plan_locked : (how : Planning) (plan : Planned) → plan ≡ plan_for how conditions (map f xs) → All (MayLock stores caller) (plan_tables plan)
  plan_locked how plan is =
      subst (λ p. All (MayLock stores caller) (plan_tables p)) (sym is)
      (none_or stores caller (is_empty (plan_for how conditions (map f xs))) (flat_map (λ i. i.tables) (items_from how 0 (pool conditions) (map f xs))) (items_locked stores caller how 0 (pool conditions) (map f xs) (trees_for_all stores caller f xs its)))

-- a plan has an item for each tree
as_many_items : (how : Planning) (n : ℕ) (cs : List CondTree) (trees : List TableTree) → length (items_from how n cs trees) ≡ length trees
as_many_items how n cs [] = refl
as_many_items how n cs (t ∷ ts) = ap suc (as_many_items how (n + 1) (asked_later n cs) ts)

-- also once it is started
as_many_started : (how : Planning) (args : List Value) (p : Planned) → length (started_by how args p).items ≡ length p.items
as_many_started how args p = by how.is_generic
  where
    by : (b : Bool) → length (if b then started args p else p).items ≡ length p.items
    by true = length-map p.items (started_item args)
    by false = refl

pub as_planned : {X : Type 0} (f : X → TableTree) (how : Planning) (args : List Value) (conditions : List CondTree) (xs : List X) (plan : Planned) → plan ≡ plan_by how args conditions (map f xs) → length xs ≤ 4 → length plan.items ≤ 4
as_planned f how args conditions xs plan is few =
    let same = ap (λ (p : Planned). length p.items) is in
    let begun = as_many_started how args (plan_for how conditions (map f xs)) in
    let each = as_many_items how 0 (pool conditions) (map f xs) in
    let n = length-map xs f in
    omega (arith, same, begun, each, n, few)

-- locks leave it as it was
pub reads_stay : (old new : Stores) (items : List PlannedItem) → new ≡ record old { locks = new.locks } → All (CanRead old.rows.leaves) items → All (CanRead new.rows.leaves) items
reads_stay old new items rest all = subst (λ (x : Stores). All (CanRead x.rows.leaves) items) (sym rest) all

-- ---- the trees of the named tables

pub is_sound : (stores : Stores) (caller : Caller) → MayAttempt stores caller → IsSound stores
is_sound stores caller may = record { h = may.sound.0; stands = may.sound.1 }

-- it is the tree that the command's snapshot shows
abbrev pub IsTreeOf : Stores → Caller → (table : ℕ) → TableTree → Type 0
IsTreeOf stores caller n tree = (h : History) → Stands stores h → tree ≡ tree_of h caller.session n (look_of h caller.session caller.cmd)

pub tree_read : (stores : Stores) (caller : Caller) (n : ℕ) (tree : TableTree) (snap : KeptSnapshot) → IsLookFor stores caller snap
    → ((h : History) (s : TakenSnapshot) → AllStand stores h → IsPast s.past (tx_events h) → SnapshotStands snap s → tree ≡ tree_of h caller.session n s) → IsTreeOf stores caller n tree
tree_read stores caller n tree snap look read h stands = read h (look_of h caller.session caller.cmd) stands.all (look.past h stands.all.txs) (look.stands h stands.all.txs)

pub read_for : LeavesAreHoused → TreesCanBePruned → (stores : Stores) (caller : Caller) (n : ℕ) (tree : TableTree) → MayAttempt stores caller → length stores.catalog.tables ≤ 4096 → IsKnownTo stores caller.session n → IsTreeOf stores caller n tree → IsTreeFor stores caller tree
read_for housed prunable stores caller n tree may few known is =
    let h = may.sound.0 in
    let stands = may.sound.1 in
    subst (IsTreeFor stores caller) (sym (is h stands)) (tree_for housed prunable stores caller h n (look_of h caller.session caller.cmd) stands few known)

-- one tree more
pub one_tree : {X : Type 0} (f : X → TableTree) (caller : Caller) (tables : List TableNo) (i : ℕ) (d : TableNo) (before now : List X) (x : X) (h : History) (all : List TableTree) → i < length tables → now ≡ before ++ x ∷ []
    → f x ≡ tree_of h caller.session (slice_index_or tables i d).number (look_of h caller.session caller.cmd) → map f before ++ trees_for caller (map number_of (drop i tables)) h ≡ all → map f now ++ trees_for caller (map number_of (drop (i + 1) tables)) h ≡ all
one_tree f caller tables i d before now x h all less more is told =
    let rest = trees_for caller (map number_of (drop (i + 1) tables)) h in
    ap (λ xs. map f xs ++ rest) more ∙ ap (λ l. l ++ rest) (map-append f before (x ∷ [])) ∙ append_assoc (map f before) (f x ∷ []) rest
    ∙ ap (λ y. map f before ++ (y ∷ rest)) is ∙ ap (λ ts. map f before ++ trees_for caller (map number_of ts) h) (sym (drop_more tables i d less)) ∙ told

-- there are as many as tables
pub as_many : {X : Type 0} (stores : Stores) (caller : Caller) (f : X → TableTree) (xs : List X) (tables : List TableNo) → MayAttempt stores caller → ((h : History) → Stands stores h → map f xs ≡ trees_for caller (map number_of tables) h) → length xs ≡ length tables
as_many stores caller f xs tables may are =
    let h = may.sound.0 in
    let same = ap length (are h may.sound.1) in
    let n = length-map xs f in
    let k = length-map (map number_of tables) (λ (t : ℕ). tree_of h caller.session t (look_of h caller.session caller.cmd)) in
    let m = length-map tables number_of in
    omega (arith, same, n, k, m)

-- ---- by how many items stand in FROM

-- the binder refuses too many, whatever they stand for
too_many_bound : (params : List Param) (session : ℕ) (t : SelectTree) (items : List Item) → 4 < length (from_of t) → bound_select items params session t ≡ Err (too_many TablesInFrom)
too_many_bound params session (selects ls from cond keys limit offset) items many = by (nat_le (length from) 4) (grind (arith, nat_tests, many))
  where
    -- by whether there are few enough
    by : (b : Bool) → b ≡ false
        → or_first ((unless b (too_many TablesInFrom) ++ twice_faults [] (map item_name from))
        ++ (name_faults items params session (selects ls from cond keys limit offset) ++ constant_faults items params session (selects ls from cond keys limit offset)))
        (meaning items params session (selects ls from cond keys limit offset)) ≡ Err (too_many TablesInFrom)
    by true e = absurd (cc)
    by false e = refl

too_many_asked : (how : Planning) (params : List Param) (session : ℕ) (t : SelectTree) (items : List Item) → 4 < length (from_of t) → asked_by how items params session t ≡ Err (too_many TablesInFrom)
too_many_asked how params session t items many = by how.is_generic
  where
    by : (b : Bool) → (if b then bound_select items params session t else custom_select items params session t) ≡ Err (too_many TablesInFrom)
    by true = too_many_bound params session t items many
    by false = ap (if_bound (with_values (values_of params))) (too_many_bound params session t items many)

pub too_many_meant : (how : Planning) (params : List Param) (caller : Caller) (t : SelectTree) (items : List Item) → 4 < length (from_of t) → meant how params caller t items ≡ meant how params caller t []
too_many_meant how params caller t items many = ap {B = History → Made SelectMeant} (λ r h. outcome r) (too_many_asked how params caller.session t items many ∙ sym (too_many_asked how params caller.session t [] many))

pub too_many_told : (how : Planning) (params : List Param) (caller : Caller) (t : SelectTree) (items : List Item) (h : History) → 4 < length (from_of t) → (meant how params caller t items h).told ≡ Err (Refused (too_many TablesInFrom))
too_many_told how params caller t items h many = ap (λ (r : Result SelectMeant Fault). (outcome r).told) (too_many_asked how params caller.session t items many)

-- so of too many nothing is meant
pub none_meant : {X : Type 0} (view : X → SelectMeant) (r : Result X Stop) (stores : Stores) (how : Planning) (params : List Param) (caller : Caller) (t : SelectTree) (items : List Item) (P : X → Type 0) → 4 < length (from_of t) → MayAttempt stores caller
    → IsStep view r stores stores caller caller.cmd (meant how params caller t items) → IfOk r P
none_meant view (Ok x) stores how params caller t items P many may step =
    let h = may.sound.0 in
    let told = (step.is h may.sound.1 may.sound.2).0 in
    let refused = too_many_told how params caller t items h many in
    let both : Err (Refused (too_many TablesInFrom)) ≡ Ok (view x) = sym refused ∙ told in
    absurd (cc)
none_meant view (Err e) stores how params caller t items P many may step = tt
