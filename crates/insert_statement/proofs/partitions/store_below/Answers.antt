use Rattle.std.proofs.Common.{◌≡◌, ◌≤◌, ◌+◌, length, subst, sym}
use Rattle.bound_forms.specs.declared.level.Level.{Level as OneLevel}
use Rattle.history.specs.declared.catalogue.TableShape.TheVariants.{Level}
use Rattle.history.specs.History.{History}
use Rattle.part_catalog.specs.Found.{made_at}
use Rattle.part_catalog.specs.Stands.{CatalogueStands}
use Rattle.stores.specs.declared.stores.Stores.{Stores}
use Rattle.statement_steps.specs.Attempts.{MayAttempt}
use Rattle.statement_steps.specs.Known.{IsKnownTo}
use Rattle.row_router.specs.Seen.{seen}
use Rattle.statement_steps.specs.Rights.{IsReadOf}
use Rattle.statement_steps.specs.Steps.{IsStep}
use Rattle.statement_steps.proofs.Parts.{out_here}
use Rattle.insert_statement.specs.Inserted.{into_partitions}
use Rattle.row_change.specs.Laws.{AreRowsOf}
use Rattle.insert_statement.proofs.partitions.store_below.Goals as goal

pub kept_tree_and_path-requires-clause-known : goal.kept_tree_and_path-requires-clause-known
kept_tree_and_path-requires-clause-known c = c.requires.there.made

pub store_by_tree-requires-clause-may : goal.store_by_tree-requires-clause-may
store_by_tree-requires-clause-may c = subst (λ (s : Stores). MayAttempt s c.args.attempt.now.caller) (sym c.kept_tree_and_path.ensures.same) c.requires.may

pub store_by_tree-requires-clause-there : goal.store_by_tree-requires-clause-there
store_by_tree-requires-clause-there c = subst (λ (s : Stores). IsKnownTo s c.args.attempt.now.caller.session c.args.table.number) (sym c.kept_tree_and_path.ensures.same) c.requires.there

pub store_by_tree-requires-clause-few : goal.store_by_tree-requires-clause-few
store_by_tree-requires-clause-few c = subst (λ (s : Stores). length s.catalog.tables ≤ 4096) (sym c.kept_tree_and_path.ensures.same) c.requires.few

pub store_by_tree-requires-clause-level : goal.store_by_tree-requires-clause-level
store_by_tree-requires-clause-level c = subst (λ (s : Stores). (h : History) → CatalogueStands s.catalog h → (level : OneLevel) × ((made_at h c.args.table.number).shape ≡ Level level)) (sym c.kept_tree_and_path.ensures.same) c.requires.level

pub store_by_tree-requires-clause-rows : goal.store_by_tree-requires-clause-rows
store_by_tree-requires-clause-rows c = subst (λ (s : Stores). AreRowsOf s.catalog c.args.table c.args.rows.items) (sym c.kept_tree_and_path.ensures.same) c.requires.rows

pub store_by_tree-requires-clause-read : goal.store_by_tree-requires-clause-read
store_by_tree-requires-clause-read c = subst (λ (s : Stores). IsReadOf s.txs s.catalog c.args.attempt.now.caller c.args.table (seen c.in_ok-tree.tree) c.in_ok-tree.path.items) (sym c.kept_tree_and_path.ensures.same) c.in_ok-tree.ensures.read

pub returns-in_err-tree : goal.returns-in_err-tree
returns-in_err-tree c =
    subst (λ (s : Stores). IsStep (λ u. u) c.from_residual.result c.args.stores.now s c.args.attempt.now.caller (c.args.attempt.now.caller.cmd + 1) (into_partitions c.args.attempt.now.names.now c.args.attempt.now.caller c.args.table.number c.args.rows.items)) (sym c.kept_tree_and_path.ensures.same) (out_here c.from_residual.ensures.1)

pub returns : goal.returns
returns c =
    subst (λ (s : Stores). IsStep (λ u. u) c.store_by_tree.result s c.store_by_tree.new.stores c.args.attempt.now.caller (c.args.attempt.now.caller.cmd + 1) (into_partitions c.args.attempt.now.names.now c.args.attempt.now.caller c.args.table.number c.args.rows.items)) c.kept_tree_and_path.ensures.same c.store_by_tree.ensures
