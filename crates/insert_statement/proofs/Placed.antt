-- What may be asked of rows below a partitioned table, and of the targets of their leaves.
use Rattle.std.proofs.Common.{ℕ, ◌<◌, List, sym, subst, arith, All, length, slice_index_or}
use Rattle.pg_values.specs.declared.value.Value.{Value}
use Rattle.history.specs.Catalogue.{tables_made}
use Rattle.history.specs.History.{History, catalogue_events}
use Rattle.row_router.specs.declared.path_part.PathPart.{PathPart}
use Rattle.row_router.specs.Histories.{tree_of, path_of}
use Rattle.row_router.specs.Trees.{TableTree}
use Rattle.row_change.specs.declared.target.Target.{Target}
use Rattle.row_change.specs.Placing.{CanBePlaced, IsNumbered, IsPartNumbered}
use Rattle.row_change.specs.Storing.{FitsTargets, IsTargetNumbered}
use Rattle.row_change.specs.Targets.{IsTargetOf}
use Rattle.row_change.proofs.Fit.{rows_can_be_placed}
use Rattle.row_change.proofs.Made.{paths_are_made, trees_are_made}
use Rattle.row_change.proofs.Targets.{targets_fit}
use Rattle.row_change.proofs.Told.{one_numbered}
use Rattle.soundness.proofs.OneLeaf.{sessions_have_siblings}
use Rattle.stores.specs.Events.{look_of}
use Rattle.stores.specs.Stand.{Stands}
use Rattle.stores.specs.declared.stores.Stores.{Stores}
use Rattle.stores.proofs.Goodness.{legal_of, permitted_of}
use Rattle.statement_steps.specs.declared.caller.Caller.{Caller}
use Rattle.statement_steps.proofs.Rights.{tables_kept}
use Rattle.insert_statement.specs.Asked.{IsTreeFor}

-- the rows may be asked of the tree and the path, whose tables are there
pub record Takes (n : ℕ) (tree : TableTree) (path : List PathPart) (rows : List (List Value)) : Type 0 where
  pub fits : All (CanBePlaced tree path) rows
  pub above : All (IsPartNumbered n) path
  pub known : IsNumbered n tree

pub takes : (stores : Stores) (caller : Caller) (tree : TableTree) (path : List PathPart) (rows : List (List Value)) (h : History) → Stands stores h → IsTreeFor stores.txs stores.catalog caller tree path rows → Takes (length stores.catalog.tables) tree path rows
takes stores caller tree path rows h stands it =
    let s = caller.session in
    let look = look_of h s caller.cmd in
    let sound = stands.all.catalog.sound in
    let siblings = sessions_have_siblings h s (legal_of h stands.good) (permitted_of h stands.good) in
    let same = tables_kept stores.catalog h stands.all.catalog in
    let known = it.known in
    let made : it.table.number < length (tables_made (catalogue_events h)) = omega (arith, same, known) in
    let t = it.read.is_tree h stands.all.txs stands.all.catalog in
    let p = it.read.is_path h stands.all.txs stands.all.catalog in
    record {
      fits = λ i d lt. subst (λ tr. CanBePlaced tr path (slice_index_or rows i d)) (sym t)
          (subst (λ pa. CanBePlaced (tree_of h s it.table.number look) pa (slice_index_or rows i d)) (sym p)
          (rows_can_be_placed h s it.table look (slice_index_or rows i d) sound siblings (it.rows_of h stands.all.catalog i d lt)));
      above = subst (λ pa. All (IsPartNumbered (length stores.catalog.tables)) pa) (sym p) (subst (λ n. All (IsPartNumbered n) (path_of h s it.table.number)) (sym same) (paths_are_made h s it.table sound made));
      known = subst (λ tr. IsNumbered (length stores.catalog.tables) tr) (sym t) (subst (λ n. IsNumbered n (tree_of h s it.table.number look)) (sym same) (trees_are_made h s it.table look sound made).0);
    }

-- ---- the targets of their leaves

pub record TargetsTake (n : ℕ) (targets : List Target) (rows : List (List Value)) : Type 0 where
  pub fits : All (FitsTargets targets) rows
  pub numbered : All (IsTargetNumbered n) targets

pub targets_take : (stores : Stores) (caller : Caller) (tree : TableTree) (path : List PathPart) (rows : List (List Value)) (targets : List Target) (h : History) → Stands stores h → IsTreeFor stores.txs stores.catalog caller tree path rows → All (IsTargetOf h caller.session tree) targets
    → TargetsTake (length stores.catalog.tables) targets rows
targets_take stores caller tree path rows targets h stands it are =
    let s = caller.session in
    let look = look_of h s caller.cmd in
    let sound = stands.all.catalog.sound in
    let siblings = sessions_have_siblings h s (legal_of h stands.good) (permitted_of h stands.good) in
    let same = tables_kept stores.catalog h stands.all.catalog in
    let known = (takes stores caller tree path rows h stands it).known in
    let t = it.read.is_tree h stands.all.txs stands.all.catalog in
    record {
      fits = λ i d lt j e within. (targets_fit h s it.table look (slice_index_or rows i d) (slice_index_or targets j e) sound siblings (it.rows_of h stands.all.catalog i d lt) (subst (λ tr. IsTargetOf h s tr (slice_index_or targets j e)) t (are j e within))).0;
      numbered = λ j e within. one_numbered h s (length stores.catalog.tables) tree (slice_index_or targets j e) same sound known (are j e within);
    }
