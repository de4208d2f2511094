-- A SELECT by its plan is one that scans all leaves.
use Rattle.std.proofs.Common.{◌≡◌, ℕ, ◌-◌, ◌≤◌, ◌==◌, ◌&&◌, ◌||◌, arith, subst, append-nil, Bool, true, false, if◌then◌else◌, List, [], ◌∷◌, ◌++◌, inl, inr, refl, ap, sym, ◌∙◌, length, map}
use Rattle.std.specs.Prelude.{None, Result, Ok, Err}
use Rattle.std.proofs.lemmas.List.{length-append, length-map, map-append}
use Rattle.std.proofs.lemmas.List.Elements.{All-cons, All-nil}
use Rattle.pg_values.specs.declared.fault.Fault.{Fault}
use Rattle.pg_values.specs.declared.value.Value.{Value}
use Rattle.pg_values.specs.declared.lock_mode.LockMode.{LockMode}
use Rattle.pg_values.specs.declared.lock_mode.LockMode.TheVariants.{AccessShare}
use Rattle.bound_forms.specs.declared.partition_bound.Bound.{Bound}
use Rattle.history.specs.Catalogue.{tables_made, TableMade, TableDropped, EntryAdded, EntryEnded, EntryMarked, CheckKept}
use Rattle.history.specs.Locks.{LockEvent}
use Rattle.history.specs.History.{History, TxChange, SnapshotChange, RowChange, CatalogueChange, LockChange, catalogue_events, lock_events}
use Rattle.history.specs.declared.wait.Wanted.TheVariants.{Lock}
use Rattle.row_store.specs.declared.TheConstants.{SCAN_LIMIT}
use Rattle.row_router.specs.Histories.{tree_of}
use Rattle.row_router.specs.Trees.{TableTree, LeafTable, LevelTable, Trees, End, More, leaves, all_leaves}
use Rattle.soundness.specs.Worlds.{IsMade}
use Rattle.cond_logic.specs.Tables.{Leaf}
use Rattle.cond_logic.specs.Trees.{CondTree}
use Rattle.plan_tree.specs.Kept.{Keeps, id_of, keeps_for, leaf_of, keeps_plain, leaves_below, leaves_among, kept_leaves}
use Rattle.plan_tree.specs.Laws.{Rows, shown}
use Rattle.lock_table.specs.Asked.{AskedView, AtOnce, WaitsBehind, ClosesCycle, asked, asked_events}
use Rattle.sql_binder.specs.Selects.{from_of}
use Rattle.cond_logic.specs.Asked.{SelectMeant}
use Rattle.plan_tree.specs.Conjuncts.{pool, lies_within, asked_at, asked_later}
use Rattle.plan_tree.specs.Plans.{Planned, PlannedItem, keeps_first, is_joined, asks_again, is_none, item_for, plan_for, plan_tables, kept_at_start, pruned_at_start, starts, started_item, started, plan_by}
use Rattle.plan_tree.specs.JoinKinds.{join_kind}
use Rattle.plan_tree.specs.declared.join_kind.JoinKind.{JoinKind}
use Rattle.plan_tree.specs.declared.join_kind.JoinKind.TheVariants.{NestedLoop, HashJoin}
use Rattle.plan_tree.specs.declared.planning.Planning.{Planning}
use Rattle.select_answer.specs.Answer.{answer_of, select_course}
use Rattle.select_answer.specs.Course.{reads_of}
use Rattle.select_answer.specs.Tuples.{marks, reads_in}
use Rattle.select_answer.specs.Laws.{OneItemIsReadOnce, PrunedIsPlain, plainly, plan_reads}
use Rattle.stores.specs.Events.{look_of}
use Rattle.stores.specs.Good.{IsGood}
use Rattle.stores.specs.Laws.{GoodIsLegal}
use Rattle.statement_steps.specs.Ended.{giving}
use Rattle.statement_steps.specs.Made.{Made, Halt, behind, then_told, and_then}
use Rattle.statement_steps.specs.declared.caller.Caller.{Caller}
use Rattle.statement_steps.specs.Asks.{told_of, locked, all_locked}
use Rattle.plan_text.specs.Plans.{scanned}
use Rattle.statement_steps.specs.Below.{number_of}
use Rattle.select_statement.specs.Explained.{OneTableReadsItsScans}
use Rattle.select_statement.specs.Items.{items_of}
use Rattle.select_statement.specs.Moments.{rows_for}
use Rattle.select_statement.specs.Selected.{told_of as course_told, with_reads, outcome, answered, asked_by, by_plan, locked_below, trees_for, values_by}
use Rattle.select_statement.specs.Plain.{answer_in, answered_plainly, locked_plainly}
use Rattle.select_statement.proofs.Giving.{answer_alone, giving_then}
use Rattle.select_statement.specs.Laws.{LeavesAreFew, OneTableIsPlain, TablesArePlain, Looks}

-- ---- a plan over one tree reads no more leaves than the tree has

module _ (keeps : Keeps) where
  mutual
    below_few : (t : TableTree) → length (leaves_below keeps t) ≤ length (leaves t)
    below_few (LeafTable node leaf) = omega arith
    below_few (LevelTable node level bounds kids) = among_few (keeps level bounds) bounds kids

    among_few : (test : Bound → Bool) (bs : List Bound) (ks : Trees) → length (leaves_among keeps test bs ks) ≤ length (all_leaves ks)
    among_few test bs End = omega arith
    among_few test [] (More k ks) = omega arith
    among_few test (b ∷ bs) (More k ks) = by (test b) (below_few k) (among_few test bs ks)
      where
        by : (v : Bool) → length (leaves_below keeps k) ≤ length (leaves k) → length (leaves_among keeps test bs ks) ≤ length (all_leaves ks)
            → length ((if v then leaves_below keeps k else []) ++ leaves_among keeps test bs ks) ≤ length (leaves k ++ all_leaves ks)
        by true first rest =
            let some = length-append (leaves_below keeps k) (leaves_among keeps test bs ks) in
            let all = length-append (leaves k) (all_leaves ks) in
            omega (arith, first, rest, some, all)
        by false first rest = let all = length-append (leaves k) (all_leaves ks) in omega (arith, rest, all)

  kept_few : (t : TableTree) → length (kept_leaves keeps t) ≤ length (leaves t)
  kept_few (LeafTable node leaf) = by (keeps_plain keeps)
    where
      by : (v : Bool) → length (if v then leaf_of node leaf ∷ [] else []) ≤ 1
      by true = omega arith
      by false = omega arith
  kept_few (LevelTable node level bounds kids) = below_few (LevelTable node level bounds kids)

-- no conjunct joins the first item with those before
none_joined : (cs : List CondTree) → is_joined 0 (asked_at 0 cs) ≡ false
none_joined [] = refl
none_joined (c ∷ cs) = by (lies_within 0 0 c) refl (none_joined cs)
  where
    by : (v : Bool) → lies_within 0 0 c ≡ v → is_joined 0 (asked_at 0 cs) ≡ false → is_joined 0 (if v then c ∷ asked_at 0 cs else asked_at 0 cs) ≡ false
    by true is go = rw is go
    by false is go = go

and_false : (a b : Bool) → b ≡ false → (a && b) ≡ false
and_false true b is = is
and_false false b is = refl

-- of a plan over one tree, made or started: its leaves are read once, and they are few
pub record IsOne (tree : TableTree) (i : PlannedItem) : Type 0 where
  pub once : i.is_asked_again ≡ false
  pub few : length i.leaves ≤ length (leaves tree)

not_again : (prunes : Bool) (k : JoinKind) (cs : List CondTree) → asks_again prunes k 0 (asked_at 0 cs) ≡ false
not_again prunes NestedLoop cs = and_false prunes (is_joined 0 (asked_at 0 cs)) (none_joined cs)
not_again prunes HashJoin cs = refl

one_made : (how : Planning) (cs : List CondTree) (tree : TableTree) → IsOne tree (item_for how 0 (asked_at 0 cs) tree)
one_made how cs tree = record { once = not_again how.prunes (join_kind how.hashes 0 (asked_at 0 cs)) cs; few = kept_few (keeps_first how.prunes 0 (asked_at 0 cs)) tree }

one_started : (args : List Value) (i : PlannedItem) → IsOne i.tree i → IsOne i.tree (started_item args i)
one_started args i one = by (starts i)
  where
    by : (b : Bool) → IsOne i.tree (if b then pruned_at_start args i else i)
    by true = record { once = one.once; few = kept_few (keeps_for true i.number (kept_at_start args i)) i.tree }
    by false = one

few_of : OneItemIsReadOnce → (args : List Value) (rows : Rows) (tree : TableTree) (i : PlannedItem) (at_last : List CondTree) → IsOne tree i → length (reads_in (marks args rows (record { items = i ∷ []; pairs = None; at_last = at_last }))) ≤ length (leaves tree)
few_of once args rows tree i at_last one =
    let count = ap length (once args rows i at_last one.once) ∙ length-map i.leaves id_of in
    let few = one.few in
    omega (arith, count, few)

few_reads : OneItemIsReadOnce → (how : Planning) (args : List Value) (m : SelectMeant) (rows : Rows) (tree : TableTree) → length (plan_reads how args m rows (tree ∷ [])) ≤ length (leaves tree)
few_reads once how args m rows tree = by how.is_generic
  where
    cs : List CondTree
    cs = pool m.conditions

    item : PlannedItem
    item = item_for how 0 (asked_at 0 cs) tree

    by : (b : Bool) → length (reads_in (marks args rows (if b then started args (plan_for how m.conditions (tree ∷ [])) else plan_for how m.conditions (tree ∷ [])))) ≤ length (leaves tree)
    by true = few_of once args rows tree (started_item args item) (asked_later 0 cs) (one_started args item (one_made how cs tree))
    by false = few_of once args rows tree item (asked_later 0 cs) (one_made how cs tree)

-- ---- there are not too many tables

few_made : (h : History) → IsGood h → length (tables_made (catalogue_events h)) ≤ 4096
few_made [] good = omega arith
few_made (TxChange e ∷ h) good = few_made h good.1
few_made (SnapshotChange e ∷ h) good = few_made h good.1
few_made (LockChange e ∷ h) good = few_made h good.1
few_made (RowChange e ∷ h) good = few_made h good.1
few_made (CatalogueChange (TableMade t) ∷ h) good =
    let next = good.0.legal.0 in
    let few = good.0.housed.few in
    let more = length-append (tables_made (catalogue_events h)) (t ∷ []) in
    omega (arith, next, few, more)
few_made (CatalogueChange (TableDropped k s) ∷ h) good = few_made h good.1
few_made (CatalogueChange (EntryAdded e) ∷ h) good = few_made h good.1
few_made (CatalogueChange (EntryEnded k s) ∷ h) good = few_made h good.1
few_made (CatalogueChange (EntryMarked k s) ∷ h) good = few_made h good.1
few_made (CatalogueChange (CheckKept c) ∷ h) good = few_made h good.1

-- ---- the answer

plain_answer : (sessions : ℕ) (args : List Value) (m : SelectMeant) (rows : Rows) (plan : Planned) → giving answer_in (outcome (course_told m (select_course sessions args m rows plan []))) ≡ outcome (answer_of m (select_course sessions args m rows plan []))
plain_answer sessions args m rows plan = let w = select_course sessions args m rows plan [] in answer_alone (reads_of w) (answer_of m w)

pub tables_plain : GoodIsLegal → PrunedIsPlain → TablesArePlain
tables_plain lawful pruned h good how c args m ns looks low made =
    let legal = lawful h good in
    elim (pruned how (c.sessions - 1) args m [] h c.session ns (look_of h c.session c.cmd) legal.0 legal.1 looks low made) [
      | inl same ↦ inl (plain_answer (c.sessions - 1) args m (rows_for c h) (plan_by how args m.conditions (trees_for c ns h)) ∙ ap outcome same)
      | inr full ↦
          let many = full.0 in
          let w = select_course (c.sessions - 1) args m (rows_for c h) (plan_by how args m.conditions (trees_for c ns h)) [] in
          inr (omega (arith, many), ap outcome (ap (with_reads (reads_of w)) full.1))
    ]

one_plain : GoodIsLegal → LeavesAreFew → OneItemIsReadOnce → PrunedIsPlain → (how : Planning) (c : Caller) (args : List Value) (m : SelectMeant) (table : ℕ) (h : History) → IsGood h → Looks c h → IsMade (catalogue_events h) table
    → giving answer_in (answered c args m (plan_by how args m.conditions (trees_for c (table ∷ []) h)) h) ≡ answered_plainly c args m (trees_for c (table ∷ []) h) h
one_plain lawful small once pruned how c args m table h good looks made =
    let legal = lawful h good in
    let snap = look_of h c.session c.cmd in
    let tree = tree_of h c.session table snap in
    let all = All-cons (IsMade (catalogue_events h)) table [] made (All-nil (IsMade (catalogue_events h))) in
    elim (pruned how (c.sessions - 1) args m [] h c.session (table ∷ []) snap legal.0 legal.1 looks (omega arith) all) [
      | inl same ↦ plain_answer (c.sessions - 1) args m (rows_for c h) (plan_by how args m.conditions (trees_for c (table ∷ []) h)) ∙ ap outcome same
      | inr full ↦
          let many = full.0 in
          let few = few_reads once how args m (shown h snap) tree in
          let some = small h c.session table snap legal.0 legal.1 made in
          let tables = few_made h good in
          let limit : SCAN_LIMIT ≡ 1000000 = refl in
          absurd (omega (arith, many, few, some, tables, limit))
    ]

-- ---- locks change nothing of what is shown

pub locks_show : (h : History) (s cmd : ℕ) (ls : List LockEvent) → shown (map LockChange ls ++ h) (look_of (map LockChange ls ++ h) s cmd) ≡ shown h (look_of h s cmd)
locks_show h s cmd [] = refl
locks_show h s cmd (l ∷ ls) = locks_show h s cmd ls

-- the events are those of locks alone
abbrev pub AreLocks : {T : Type 0} → Made T → Type 0
AreLocks m = (ls : List LockEvent) × (m.events ≡ map LockChange ls)

told_locks : (names : List (List ℕ)) (ls : List LockEvent) (v : AskedView) → AreLocks (told_of names (map LockChange ls) v)
told_locks names ls AtOnce = (ls, refl)
told_locks names ls (WaitsBehind others) = (ls, refl)
told_locks names ls (ClosesCycle cycle) = (ls, refl)

pub locked_locks : (names : List (List ℕ)) (s t : ℕ) (mode : LockMode) (h : History) → AreLocks (locked names s t mode h)
locked_locks names s t mode h = told_locks names (asked_events (lock_events h) s (Lock (record { number = t }) mode)) (asked (lock_events h) s (Lock (record { number = t }) mode))

pub both_locks : {T U : Type 0} (m : Made T) (next : T → Made U) → AreLocks m → ((x : T) → AreLocks (next x)) → AreLocks (and_then m next)
both_locks {T = T} {U = U} m next first rest = by m.told
  where
    by : (r : Result T Halt) → AreLocks {T = U} (then_told r m.events next)
    by (Ok x) =
        let later = rest x in
        (later.0 ++ first.0, ap (λ (es : History). es ++ m.events) later.1 ∙ ap (λ (es : History). map LockChange later.0 ++ es) first.1 ∙ sym (map-append LockChange later.0 first.0))
    by (Err stop) = first

pub all_locks : (names : List (List ℕ)) (s : ℕ) (mode : LockMode) (ts : List ℕ) (h : History) → AreLocks (all_locked names s mode ts h)
all_locks names s mode [] h = ([], refl)
all_locks names s mode (t ∷ ts) h = both_locks (locked names s t mode h) (λ u. all_locked names s mode ts ((locked names s t mode h).events ++ h)) (locked_locks names s t mode h) (λ u. all_locks names s mode ts ((locked names s t mode h).events ++ h))

pub same_then : {T U : Type 0} (m : Made T) (f g : T → Made U) → ((x : T) → f x ≡ g x) → and_then m f ≡ and_then m g
same_then {T = T} m f g same = by m.told
  where
    by : (r : Result T Halt) → then_told r m.events f ≡ then_told r m.events g
    by (Ok x) = ap (behind m.events) (same x)
    by (Err stop) = refl

-- ---- the statement

pub by_plan_plain : (how : Planning) (names : List (List ℕ)) (c : Caller) (args : List Value) (m : SelectMeant) (trees : List TableTree) (h : History)
    → giving answer_in (answered c args m (plan_by how args m.conditions trees) h) ≡ answered_plainly c args m trees h → giving answer_in (by_plan how names c args m (plan_for how m.conditions trees) h) ≡ locked_plainly how names c args trees m h
by_plan_plain how names c args m trees h same =
    let plan = plan_for how m.conditions trees in
    let run = plan_by how args m.conditions trees in
    let locks = locked_below names c (plan_tables plan) h in
    let its = all_locks names c.session AccessShare (map number_of (plan_tables plan)) h in
    let rows : shown (locks.events ++ h) (look_of (locks.events ++ h) c.session c.cmd) ≡ shown h (look_of h c.session c.cmd) =
    ap (λ (es : History). shown (es ++ h) (look_of (es ++ h) c.session c.cmd)) its.1 ∙ locks_show h c.session c.cmd its.0 in
    giving_then answer_in locks (λ u. answered c args m run (locks.events ++ h))
    ∙ same_then locks (λ u. giving answer_in (answered c args m run (locks.events ++ h))) (λ u. answered_plainly c args m trees (locks.events ++ h)) (λ u.
    ap (λ (r : Rows). giving answer_in (outcome (course_told m (select_course (c.sessions - 1) args m r run [])))) rows ∙ same
    ∙ sym (ap (λ (r : Rows). outcome (plainly (c.sessions - 1) args m r trees)) rows))

pub one_table_plain : GoodIsLegal → LeavesAreFew → OneItemIsReadOnce → PrunedIsPlain → OneTableIsPlain
one_table_plain lawful small once pruned h good how names params c t table looks made = by (asked_by how (items_of 0 (from_of t) trees) params c.session t)
  where
    trees : List TableTree
    trees = trees_for c (table ∷ []) h

    args : List Value
    args = values_by how params

    by : (r : Result SelectMeant Fault) → giving answer_in (and_then (outcome r) (λ m. by_plan how names c args m (plan_for how m.conditions trees) ((outcome r).events ++ h))) ≡ and_then (outcome r) (λ m. locked_plainly how names c args trees m ((outcome r).events ++ h))
    by (Ok m) = ap (behind []) (by_plan_plain how names c args m trees h (one_plain lawful small once pruned how c args m table h good looks made))
    by (Err f) = refl

-- ---- the scans of a plan

scans_of_one : (i : PlannedItem) (at_last : List CondTree) → i.leaves ≡ scanned (record { items = i ∷ []; pairs = None; at_last = at_last })
scans_of_one i at_last = by i.leaves refl
  where
    -- whether nothing was kept or all was removed
    none : (b : Bool) (ls : List Leaf) → ls ≡ [] → ls ≡ (if b || false then [] else ls ++ [])
    none true ls is = is
    none false ls is = sym (append-nil ls)

    by : (ls : List Leaf) → i.leaves ≡ ls → i.leaves ≡ (if (is_none i.leaves && i.removed == 0) || false then [] else i.leaves ++ [])
    by [] is = subst (λ (xs : List Leaf). xs ≡ (if (is_none xs && i.removed == 0) || false then [] else xs ++ [])) (sym is) (none (i.removed == 0) [] refl)
    by (l ∷ ls) is = subst (λ (xs : List Leaf). xs ≡ (if (is_none xs && i.removed == 0) || false then [] else xs ++ [])) (sym is) (sym (append-nil (l ∷ ls)))

pub reads_its_scans : OneItemIsReadOnce → OneTableReadsItsScans
reads_its_scans once how args m rows tree = by how.is_generic
  where
    cs : List CondTree
    cs = pool m.conditions

    item : PlannedItem
    item = item_for how 0 (asked_at 0 cs) tree

    one : (i : PlannedItem) → IsOne tree i → reads_in (marks args rows (record { items = i ∷ []; pairs = None; at_last = asked_later 0 cs })) ≡ map id_of (scanned (record { items = i ∷ []; pairs = None; at_last = asked_later 0 cs }))
    one i is = once args rows i (asked_later 0 cs) is.once ∙ ap (map id_of) (scans_of_one i (asked_later 0 cs))

    by : (b : Bool) → reads_in (marks args rows (if b then started args (plan_for how m.conditions (tree ∷ [])) else plan_for how m.conditions (tree ∷ [])))
        ≡ map id_of (scanned (if b then started args (plan_for how m.conditions (tree ∷ [])) else plan_for how m.conditions (tree ∷ [])))
    by true = one (started_item args item) (one_started args item (one_made how cs tree))
    by false = one item (one_made how cs tree)
