-- All tables of a tree that is read may be locked.
use Rattle.std.proofs.Common.{◌<◌, ◌≤◌, List, sym, subst, arith, length}
use Rattle.pg_values.specs.declared.ids.TableNo.{TableNo}
use Rattle.row_router.specs.declared.path_part.PathPart.{PathPart}
use Rattle.row_router.specs.Trees.{TableTree}
use Rattle.row_change.specs.Ways.{AllTables}
use Rattle.row_change.proofs.Trees.{tree_are}
use Rattle.stores.specs.Events.{look_of}
use Rattle.stores.specs.declared.stores.Stores.{Stores}
use Rattle.statement_steps.specs.Attempts.{MayAttempt}
use Rattle.statement_steps.specs.declared.caller.Caller.{Caller}
use Rattle.statement_steps.specs.Known.{IsKnownTo}
use Rattle.statement_steps.specs.Rights.{IsReadOf, MayLock}
use Rattle.statement_steps.proofs.Rights.{shown_locks}

-- all tables of a tree that is read
pub tree_locks : (stores : Stores) (caller : Caller) (table : TableNo) (tree : TableTree) (path : List PathPart) → MayAttempt stores caller → length stores.catalog.tables ≤ 4096 → IsKnownTo stores caller.session table.number → IsReadOf stores.txs stores.catalog caller table tree path
    → AllTables (MayLock stores caller.session) tree
tree_locks stores caller table tree path may few known read =
    let h = may.sound.0 in
    let stands = may.sound.1 in
    let s = caller.session in
    let look = look_of h s caller.cmd in
    let made : table.number < length stores.catalog.tables = known.made in
    let low : table.number < 4096 = omega (arith, made, few) in
    let here : MayLock stores s table = (low, known) in
    subst (AllTables (MayLock stores s)) (sym (read.is_tree h stands.all.txs stands.all.catalog)) (tree_are h s table.number look (MayLock stores s) (shown_locks stores caller h look may stands few) here).tables
