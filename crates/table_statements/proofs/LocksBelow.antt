-- Who may ask for a table may ask for those under it.
use Rattle.std.proofs.Common.{◌≡◌, ℕ, zero, suc, ◌<◌, ◌≤◌, List, [], ◌∷◌, ◌++◌, refl, sym, ap, ◌∙◌, subst, arith, Some, All, map, length, slice_index_or}
use Rattle.std.proofs.lemmas.List.Elements.{All-nil, All-cons, All-head, All-tail, Contains-get_or}
use Rattle.pg_values.specs.declared.ids.TableNo.{TableNo}
use Rattle.history.specs.Transactions.{open_of}
use Rattle.history.specs.History.{History, tx_events}
use Rattle.row_router.specs.Trees.{TableTree, LeafTable, LevelTable, Trees, End, More}
use Rattle.row_router.specs.Histories.{ddl_tree}
use Rattle.soundness.specs.Legal.{HasTable, Below}
use Rattle.soundness.specs.Worlds.{view}
use Rattle.soundness.proofs.All.{legal_keeps_all}
use Rattle.soundness.proofs.Worlds.{view_world}
use Rattle.part_ddl.specs.Below as ddl
use Rattle.part_ddl.specs.Below.{tables_under}
use Rattle.part_ddl.proofs.Making.{table_count}
use Rattle.legal_statements.specs.Below as lawful
use Rattle.legal_statements.specs.Below.{numbers_from}
use Rattle.legal_statements.proofs.Known.{there_is_known}
use Rattle.legal_statements.proofs.Trees.{tree_is_whole}
use Rattle.stores.specs.Stand.{Stands}
use Rattle.stores.specs.declared.stores.Stores.{Stores}
use Rattle.stores.proofs.Goodness.{legal_of, permitted_of}
use Rattle.statement_steps.specs.Attempts.{MayAttempt}
use Rattle.statement_steps.specs.declared.caller.Caller.{Caller}
use Rattle.statement_steps.specs.Known.{IsKnownTo}
use Rattle.statement_steps.proofs.Parts.{own_tx, known_by}

-- ---- the tables of a tree

mutual
  same_tables : (t : TableTree) → ddl.tables_in t ≡ lawful.tables_in t
  same_tables (LeafTable node leaf) = refl
  same_tables (LevelTable node level bounds kids) = ap (λ (ts : List TableNo). node.table ∷ ts) (same_all kids)

  same_all : (ks : Trees) → ddl.all_tables ks ≡ lawful.all_tables ks
  same_all End = refl
  same_all (More k ks) = ap (λ (ts : List TableNo). ts ++ ddl.all_tables ks) (same_tables k) ∙ ap (λ (ts : List TableNo). lawful.tables_in k ++ ts) (same_all ks)

-- what all are, those below the topmost one are
below_top : (P : TableNo → Type 0) (t : TableTree) → All P (ddl.tables_in t) → All P (ddl.below_top t)
below_top P (LeafTable node leaf) all = All-nil P
below_top P (LevelTable node level bounds kids) all = All-tail P node.table (ddl.all_tables kids) all

by_numbers : (P : ℕ → Type 0) (ts : List TableNo) → All P (map (λ (t : TableNo). t.number) ts) → All (λ (t : TableNo). P t.number) ts
by_numbers P [] all = All-nil (λ (t : TableNo). P t.number)
by_numbers P (t ∷ ts) all =
    let numbers = map (λ (x : TableNo). x.number) ts in
    All-cons (λ (x : TableNo). P x.number) t ts (All-head P t.number numbers all) (by_numbers P ts (All-tail P t.number numbers all))

-- ---- what the session knows

known_there : (stores : Stores) (h : History) (s t x : ℕ) → Stands stores h → open_of (tx_events h) s ≡ Some t → HasTable h t x → IsKnownTo stores s x
known_there stores h s t x stands own there =
    let known = there_is_known h s t x own there in
    let made = known.0 in
    let count = table_count stores.catalog h stands.all.catalog in
    known_by stores h s x stands (omega (arith, made, count)) known

known_below : (stores : Stores) (h : History) (s t n top x : ℕ) → Stands stores h → open_of (tx_events h) s ≡ Some t → IsKnownTo stores s top → Below h t n top x → IsKnownTo stores s x
known_below stores h s t zero top x stands own known low = subst (IsKnownTo stores s) low known
known_below stores h s t (suc n) top x stands own known (e, present, child, rest) =
    let siblings = (legal_keeps_all h (legal_of h stands.good) (permitted_of h stands.good)).siblings (view (tx_events h) t) (view_world (tx_events h) t) in
    known_there stores h s t x stands own (subst (HasTable h t) child (siblings.there e present).1)

numbers_known : (stores : Stores) (caller : Caller) (h : History) (top : ℕ) → MayAttempt stores caller → Stands stores h → IsKnownTo stores caller.session top → All (IsKnownTo stores caller.session) (numbers_from h caller.session top)
numbers_known stores caller h top may stands known k d lt =
    let s = caller.session in
    let own = own_tx stores caller h may stands in
    let numbers = numbers_from h s top in
    let low = (tree_is_whole h s own.0 top (legal_of h stands.good) (permitted_of h stands.good) own.1).only (slice_index_or numbers k d) (Contains-get_or numbers k d lt) in
    known_below stores h s own.0 low.0 top (slice_index_or numbers k d) stands own.1 known low.1

pub under_known : (stores : Stores) (caller : Caller) (h : History) (top : ℕ) → MayAttempt stores caller → Stands stores h → IsKnownTo stores caller.session top → All (λ t. IsKnownTo stores caller.session t.number) (tables_under h caller.session top)
under_known stores caller h top may stands known =
    let s = caller.session in
    let tree = ddl_tree h s top in
    below_top (λ t. IsKnownTo stores s t.number) tree
    (subst (λ (ts : List TableNo). All (λ t. IsKnownTo stores s t.number) ts) (sym (same_tables tree)) (by_numbers (IsKnownTo stores s) (lawful.tables_in tree) (numbers_known stores caller h top may stands known)))

pub all_low : (stores : Stores) (s : ℕ) (tables : List TableNo) → length stores.catalog.tables ≤ 4096 → All (λ t. IsKnownTo stores s t.number) tables → All (λ t. t.number < 4096) tables
all_low stores s tables few all k d lt = let made = (all k d lt).made in omega (arith, made, few)
