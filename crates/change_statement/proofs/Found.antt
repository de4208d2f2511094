-- What is gathered: names that are bound, locks, and the tree of the named table.
use Rattle.std.proofs.Common.{◌≡◌, ℕ, ◌<◌, Bool, true, false, if◌then◌else◌, List, [], ◌∷◌, ap, sym, ◌∙◌, subst, Option, Result, Ok, Err, All, arith, length, map, ◌≤◌}
use Rattle.std.specs.List.{Contains}
use Rattle.std.proofs.lemmas.List.Elements.{All-cons, All-head}
use Rattle.pg_values.specs.declared.fault.Fault.{Fault}
use Rattle.pg_values.specs.declared.fault.Refusal.{Refusal}
use Rattle.pg_values.specs.declared.fault.Refusal.TheVariants.{Sql, NoMemory}
use Rattle.pg_values.specs.declared.ids.LeafId.{LeafId}
use Rattle.pg_values.specs.declared.ids.TableNo.{TableNo}
use Rattle.pg_values.specs.declared.lock_mode.LockMode.TheVariants.{RowExclusive}
use Rattle.pg_values.specs.declared.value.Value.{Value}
use Rattle.history.specs.declared.catalogue.Column.{Column}
use Rattle.history.specs.Catalogue.{tables_made}
use Rattle.history.specs.History.{History, catalogue_events}
use Rattle.row_router.specs.declared.path_part.PathPart.{PathPart}
use Rattle.row_router.specs.Histories.{path_of}
use Rattle.row_router.specs.Trees.{TableTree, leaves}
use Rattle.cond_logic.specs.Tables.{Leaf}
use Rattle.plan_tree.specs.Kept.{Keeps, id_of, kept_leaves, kept_tables}
use Rattle.plan_tree.specs.declared.planning.Planning.{Planning}
use Rattle.part_catalog.specs.Found.{made_at}
use Rattle.part_catalog.specs.Stands.{CatalogueStands}
use Rattle.sql_ast.specs.Expressions.{Tree}
use Rattle.sql_ast.specs.Queries.{Setting}
use Rattle.sql_ast.specs.declared.named_table.NamedTable.{NamedTable}
use Rattle.expression_binder.specs.Firsts.{IsAnswerBy}
use Rattle.expression_binder.specs.declared.scope.Param.{Param}
use Rattle.plan_tree.specs.Laws.{TreesCanBePruned}
use Rattle.plan_tree.specs.Prunable.{CanPrune}
use Rattle.cond_logic.specs.Asked.{ChangeMeant, SettingMeant, change_meant}
use Rattle.cond_logic.specs.declared.change.ChangeAsk.{ChangeAsk}
use Rattle.row_change.specs.Ways.{AllTables, root}
use Rattle.soundness.specs.Worlds.{HasLeaf}
use Rattle.soundness.proofs.Listed.{none_in}
use Rattle.soundness.proofs.Presence.{all_more}
use Rattle.legal_statements.specs.Below.{tables_in}
use Rattle.legal_statements.specs.Locked.{IsWritable}
use Rattle.stores.specs.Events.{look_of}
use Rattle.stores.specs.Stand.{Stands}
use Rattle.stores.specs.declared.stores.Stores.{Stores}
use Rattle.stores.proofs.Goodness.{legal_of, permitted_of}
use Rattle.statement_steps.specs.Attempts.{MayAttempt}
use Rattle.statement_steps.specs.declared.caller.Caller.{Caller}
use Rattle.statement_steps.specs.declared.stop.Stop.{Stop}
use Rattle.statement_steps.specs.Asks.{named}
use Rattle.statement_steps.specs.Faults.{stop_of}
use Rattle.statement_steps.specs.Known.{IsKnownTo}
use Rattle.statement_steps.specs.Steps.{IsStep}
use Rattle.statement_steps.proofs.Parts.{nothing_done, refused_here, no_memory, stays}
use Rattle.statement_steps.specs.Below.{below}
use Rattle.statement_steps.proofs.Steps.{goes, moved, same_step}
use Rattle.row_change.proofs.Trees.{Are, IsHome, tree_root}
use Rattle.row_change.specs.Laws.{IsMade}
use Rattle.change_statement.specs.Gathered.{asked_by, asked_with, condition_of, found_by, gathered_for, item_of, meant, locked_all, over, of_table, settings_of, table_named}
use Rattle.change_statement.specs.declared.asking.Change.{Change}
use Rattle.statement_steps.specs.Gathered.{Found, found_of, sets_key}
use Rattle.change_statement.specs.Kept.{if_some, keeps_for, keeps_started, leaves_read, moves, tables_locked}
use Rattle.change_statement.specs.Running.{IsGathered, MayWriteIn}
use Rattle.statement_steps.specs.declared.gathered.Gathered.{Gathered}
use Rattle.statement_steps.specs.Rights.{MayWrite, MayLock, IsReadOf}
use Rattle.statement_steps.proofs.Rights.{may_write, tables_kept}
use Rattle.statement_steps.specs.Made.{answered}
use Rattle.change_statement.proofs.Homes.{all_kept, all_under, home_of, kept_home, kept_in, root_and_below}
use Rattle.change_statement.proofs.Kept.{Stay, each_of, home_written, homes_of, writable_moves}
use Rattle.change_statement.proofs.Started.{asked_settings, kept_more, started_less}
use Rattle.change_statement.proofs.TreeLocks.{tree_locks}

-- ---- names and kinds

-- the columns are those of the table
abbrev pub AreColumns : Stores → TableNo → List Column → Type 0
AreColumns stores t columns = (h : History) → CatalogueStands stores.catalog h → columns ≡ (made_at h t.number).columns

abbrev Bound : Planning → List Column → List Param → Caller → NamedTable → List Setting → Option Tree → Result ChangeMeant Fault
Bound how columns params c table settings condition = asked_by how (item_of table columns) params c.session settings condition

pub bound_done : (how : Planning) (ask : ChangeAsk) (stores : Stores) (c : Caller) (t : TableNo) (columns : List Column) (params : List Param) (table : NamedTable) (settings : List Setting) (condition : Option Tree) → MayAttempt stores c → AreColumns stores t columns
    → Bound how columns params c table settings condition ≡ Ok (change_meant ask) → IsStep change_meant (Ok ask) stores stores c c.cmd (meant how params c table settings condition t.number)
bound_done how ask stores c t columns params table settings condition may are is =
    nothing_done change_meant ask stores c (meant how params c table settings condition t.number) may (λ h stands. ap answered (ap (λ cs. Bound how cs params c table settings condition) (sym (are h stands.all.catalog)) ∙ is))

pub bound_refused : (how : Planning) (r : Refusal) (stores : Stores) (c : Caller) (t : TableNo) (columns : List Column) (params : List Param) (table : NamedTable) (settings : List Setting) (condition : Option Tree) → MayAttempt stores c → AreColumns stores t columns
    → IsAnswerBy change_meant (Err r) (Bound how columns params c table settings condition) → IsStep change_meant (Err (stop_of r)) stores stores c c.cmd (meant how params c table settings condition t.number)
bound_refused how (Sql f) stores c t columns params table settings condition may are is =
    refused_here change_meant f stores c c.cmd (meant how params c table settings condition t.number) may (λ h stands. ap answered (ap (λ cs. Bound how cs params c table settings condition) (sym (are h stands.all.catalog)) ∙ is))
bound_refused how NoMemory stores c t columns params table settings condition may are is = no_memory change_meant stores stores c c.cmd (meant how params c table settings condition t.number) (stays stores c.session)

-- ---- the tables under the named one

either_may : (P : TableNo → Type 0) (keeps : Keeps) (tree : TableTree) (v : Bool) → AllTables P tree → All P (if v then below tree else kept_tables keeps tree)
either_may P keeps tree true all = all_under P tree all
either_may P keeps tree false all = all_kept P keeps tree all

-- each that is needed may be locked
pub needed : (stores : Stores) (c : Caller) (prunes : Bool) (t : TableNo) (tree : TableTree) (path : List PathPart) (m : ChangeMeant) (tables : List TableNo) → tables ≡ tables_locked (keeps_for prunes m.condition) m.settings tree
    → MayAttempt stores c → length stores.catalog.tables ≤ 4096 → IsKnownTo stores c.session t.number → IsReadOf stores.txs stores.catalog c t tree path → All (MayLock stores c.session) tables
needed stores c prunes t tree path m tables are may few known read =
    let P = MayLock stores c.session in
    let keeps = keeps_for prunes m.condition in
    subst (All P) (sym are) (either_may P keeps tree (moves keeps m.settings tree) (tree_locks stores c t tree path may few known read))

pub all_low : (stores : Stores) (s : ℕ) (tables : List TableNo) → All (MayLock stores s) tables → All (λ t. t.number < 4096) tables
all_low stores s tables all = all_more (MayLock stores s) (λ (t : TableNo). t.number < 4096) tables (λ t may. may.0) all

pub all_known : (stores : Stores) (s : ℕ) (tables : List TableNo) → All (MayLock stores s) tables → All (λ t. IsKnownTo stores s t.number) tables
all_known stores s tables all = all_more (MayLock stores s) (λ (t : TableNo). IsKnownTo stores s t.number) tables (λ t may. may.1) all

-- ---- what the session may write then

-- locks change nothing of a tree that is read
read_stays : (old new : Stores) (c : Caller) (t : TableNo) (tree : TableTree) (path : List PathPart) → new ≡ record old { locks = new.locks } → IsReadOf old.txs old.catalog c t tree path → IsReadOf new.txs new.catalog c t tree path
read_stays old new c t tree path rest read = subst (λ (s : Stores). IsReadOf s.txs s.catalog c t tree path) (sym rest) read

known_stays : (old new : Stores) (s x : ℕ) → new ≡ record old { locks = new.locks } → IsKnownTo old s x → IsKnownTo new s x
known_stays old new s x rest its = subst (λ y. IsKnownTo y s x) (sym rest) (record { made = its.made; own = its.own })

-- the tree is that of the table
top_is : (stores : Stores) (c : Caller) (t : TableNo) (tree : TableTree) (path : List PathPart) (h : History) → Stands stores h → IsReadOf stores.txs stores.catalog c t tree path → root tree ≡ t
top_is stores c t tree path h stands read = ap root (read.is_tree h stands.all.txs stands.all.catalog) ∙ tree_root h c.session t.number (look_of h c.session c.cmd)

-- where all tables of the tree may be written, all leaves may
all_written : (stores : Stores) (h : History) (s : ℕ) (tree : TableTree) (leaf : LeafId) (x : ℕ) → Stands stores h → Are (IsMade h) (IsHome (tables_made (catalogue_events h))) tree → IsWritable h s (root tree).number → All (λ t. IsWritable h s t.number) (below tree)
    → Contains (leaves tree) leaf → HasLeaf (catalogue_events h) x leaf → IsWritable h s x
all_written stores h s tree leaf x stands homes top under at has =
    home_written stores h s (tables_in tree) leaf x stands (home_of (IsMade h) (IsHome (tables_made (catalogue_events h))) tree leaf homes.tables homes.home at) (root_and_below (λ (t : TableNo). IsWritable h s t.number) tree top under) has

-- where those are locked that lead to kept leaves, these may
kept_written : (stores : Stores) (h : History) (s : ℕ) (keeps : Keeps) (tree : TableTree) (leaf : LeafId) (x : ℕ) (v : Bool) → Stands stores h → Are (IsMade h) (IsHome (tables_made (catalogue_events h))) tree → IsWritable h s (root tree).number
    → All (λ t. IsWritable h s t.number) (if v then below tree else kept_tables keeps tree) → Contains (leaves_read keeps tree) leaf → HasLeaf (catalogue_events h) x leaf → IsWritable h s x
kept_written stores h s keeps tree leaf x true stands homes top under at has = all_written stores h s tree leaf x stands homes top under (kept_in keeps tree leaf at) has
kept_written stores h s keeps tree leaf x false stands homes top under at has =
    home_written stores h s (root tree ∷ kept_tables keeps tree) leaf x stands (kept_home (IsMade h) (IsHome (tables_made (catalogue_events h))) keeps tree leaf homes.tables homes.home at)
    (All-cons (λ (t : TableNo). IsWritable h s t.number) (root tree) (kept_tables keeps tree) top under) has

under_all : (P : TableNo → Type 0) (keeps : Keeps) (tree : TableTree) (v : Bool) → v ≡ true → All P (if v then below tree else kept_tables keeps tree) → All P (below tree)
under_all P keeps tree true on all = all
under_all P keeps tree false on all = absurd (cc)

some_kept : (xs : List Leaf) (b : Bool) (leaf : LeafId) → Contains (map id_of xs) leaf → if_some xs b ≡ false → b ≡ false
some_kept [] b leaf at out = absurd (none_in leaf at)
some_kept (x ∷ xs) b leaf at out = out

pub gathered_now : (names : List (List ℕ)) (old new : Stores) (c : Caller) (how : Planning) (args : List Value) (t : TableNo) (tree : TableTree) (path : List PathPart) (m : ChangeMeant) (tables : List TableNo) → tables ≡ tables_locked (keeps_for how.prunes m.condition) m.settings tree
    → MayAttempt old c → IsKnownTo old c.session t.number → IsReadOf old.txs old.catalog c t tree path → MayWrite old c.session (t ∷ [])
    → IsStep (λ (u : Unit {0}). u) (Ok tt) old new c c.cmd (locked_all names c tables) → new ≡ record old { locks = new.locks } → IsGathered new c (found_by how args t tree path m)
gathered_now names old new c how args t tree path m tables are may known read top step rest =
    let keeps = keeps_for how.prunes m.condition in
    let starts = keeps_started how args m.condition in
    let s = may.sound in
    let P : History → TableNo → Type 0 = λ h x. IsWritable h c.session x.number in
    let stay : Stay old new = record { locks = step.keeps.locks; current = step.keeps.transactions; catalog = ap (λ (x : Stores). x.catalog) rest } in
    let named_is : P s.0 t = All-head (P s.0) t [] (top s.0 s.1) in
    let first : P s.0 (root tree) = subst (P s.0) (sym (top_is old c t tree path s.0 s.1 read)) named_is in
    let at_top : (h : History) → Stands new h → P h (root tree) = λ h stands. writable_moves old new s.0 h c.session (root tree).number stay s.1 stands first in
    let under : (h : History) → Stands new h → All (P h) (if moves keeps m.settings tree then below tree else kept_tables keeps tree) = λ h stands. subst (All (P h)) are (may_write names old new c tables may step h stands) in
    let there = known_stays old new c.session t.number rest known in
    let reads = read_stays old new c t tree path rest read in
    let kept : (leaf : LeafId) → Contains (leaves_read starts tree) leaf → Contains (leaves_read keeps tree) leaf = λ leaf at. kept_more starts keeps (started_less how args m.condition) tree leaf at in
    record {
      known = there;
      read = reads;
      among = each_of (Contains (leaves tree)) (leaves_read starts tree) (λ leaf at. kept_in starts tree leaf at);
      writes = each_of (MayWriteIn new c.session) (leaves_read starts tree) (λ leaf at h stands x has.
          kept_written new h c.session keeps tree leaf x (moves keeps m.settings tree) stands (homes_of new c t tree path h stands there reads) (at_top h stands) (under h stands) (kept leaf at) has);
      moves = λ on. each_of (MayWriteIn new c.session) (leaves tree) (λ leaf at h stands x has.
          all_written new h c.session tree leaf x stands (homes_of new c t tree path h stands there reads) (at_top h stands) (under_all (P h) keeps tree (moves keeps m.settings tree) on (under h stands)) at has);
      stays = λ still leaf at. ap (λ ss. sets_key ss tree) (asked_settings how args m) ∙ some_kept (kept_leaves keeps tree) (sets_key m.settings tree) leaf (kept leaf at) still;
    }

-- what is made of it
pub found_as : (how : Planning) (args given : List Value) (t : TableNo) (tree : TableTree) (path : List PathPart) (m asked : ChangeMeant) (ls : List LeafId) (b : Bool) → given ≡ args → asked ≡ asked_with how args m
    → ls ≡ leaves_read (keeps_started how given m.condition) tree → b ≡ moves (keeps_for how.prunes m.condition) m.settings tree
    → found_by how args t tree path m ≡ record { table = t; tree = tree; path = path; asked = asked; leaves = ls; moves = b }
found_as how args given t tree path m asked ls b same put are is =
    let f : ChangeMeant → List LeafId → Bool → Found = λ x xs v. record { table = t; tree = tree; path = path; asked = x; leaves = xs; moves = v } in
    let read : List Value → List LeafId = λ vs. leaves_read (keeps_started how vs m.condition) tree in
    let v = moves (keeps_for how.prunes m.condition) m.settings tree in
    ap (λ x. f x (read args) v) (sym put) ∙ ap (λ xs. f asked xs v) (sym (are ∙ ap read same)) ∙ ap (f asked ls) (sym is)

-- ---- the tree of the named table

pub read_prunable : TreesCanBePruned → (stores : Stores) (c : Caller) (t : TableNo) (tree : TableTree) (path : List PathPart) → MayAttempt stores c → IsKnownTo stores c.session t.number → IsReadOf stores.txs stores.catalog c t tree path → CanPrune tree
read_prunable can stores c t tree path may there read =
    let h = may.sound.0 in
    let stands = may.sound.1 in
    let kept = tables_kept stores.catalog h stands.all.catalog in
    let known = there.made in
    subst CanPrune (sym (read.is_tree h stands.all.txs stands.all.catalog)) (can h c.session t.number (look_of h c.session c.cmd) (legal_of h stands.good) (permitted_of h stands.good) (omega (arith, kept, known)))

read_step : (how : Planning) (names : List (List ℕ)) (params : List Param) (c : Caller) (table : NamedTable) (settings : List Setting) (condition : Option Tree) (r : Result Gathered Stop) (old new : Stores) (t : TableNo) (tree : TableTree) (path : List PathPart) → IsReadOf old.txs old.catalog c t tree path
    → IsStep found_of r old new c c.cmd (over how names params c table settings condition t.number tree path) → IsStep found_of r old new c c.cmd (of_table how names params c table settings condition t.number)
read_step how names params c table settings condition r old new t tree path read step =
    same_step found_of r old new c c.cmd (of_table how names params c table settings condition t.number) (over how names params c table settings condition t.number tree path)
    (λ h stands. ap (λ x. over how names params c table settings condition t.number x (path_of h c.session t.number) h) (sym (read.is_tree h stands.all.txs stands.all.catalog))
    ∙ ap (λ p. over how names params c table settings condition t.number tree p h) (sym (read.is_path h stands.all.txs stands.all.catalog))) step

-- the named table is found and locked, its tree and its path are read: so far it has come
pub gathers : {r : Result Gathered Stop} {old mid new : Stores} {t : TableNo} {tree : TableTree} {path : List PathPart} {name : List ℕ} (how : Planning) (names : List (List ℕ)) (params : List Param) (c : Caller) (change : Change) → name ≡ (table_named change).name
    → IsStep (λ (t : TableNo). t.number) (Ok t) old mid c c.cmd (named names c.session RowExclusive name) → IsReadOf mid.txs mid.catalog c t tree path
    → IsStep found_of r mid new c c.cmd (over how names params c (table_named change) (settings_of change) (condition_of change) t.number tree path) → IsStep found_of r old new c c.cmd (gathered_for how names params c change)
gathers {r = r} {mid = mid} {new = new} {t = t} {tree = tree} {path = path} how names params c change is finds read rest =
    let table = table_named change in
    goes (named names c.session RowExclusive table.name) (of_table how names params c table (settings_of change) (condition_of change)) (moved (named names c.session RowExclusive) _ _ is finds)
    (read_step how names params c table (settings_of change) (condition_of change) r mid new t tree path read rest)

pub rest_same : (start mid new : Stores) → mid ≡ record start { locks = mid.locks } → new ≡ record mid { locks = new.locks } → new ≡ record start { locks = new.locks }
rest_same start mid new first second = let f : Stores → Stores = λ s. record s { locks = new.locks } in second ∙ ap f first
