use Rattle.std.proofs.Common.{◌∙◌}
use Rattle.row_router.specs.Seen.{seen}
use Rattle.sql_ast.specs.Commands.{bound_tree}
use Rattle.ddl_steps.specs.Waited.{scanned}
use Rattle.ddl_steps.specs.Locks.{default_locked}
use Rattle.statement_steps.proofs.Parts.{out_here}
use Rattle.statement_steps.proofs.Steps.{goes, handed_on, may_go_on, stops}
use Rattle.ddl_steps.proofs.Beside.{still_default}
use Rattle.ddl_steps.proofs.Locks.{still_named}
use Rattle.alter_table.specs.Attached as attached
use Rattle.alter_table.specs.Attached.{scans}
use Rattle.alter_table.proofs.LeftOut.{found_clean, judged_now, own_never}
use Rattle.alter_table.proofs.AttachLocks.{still_guarded, still_family, still_placed, still_sees}
use Rattle.alter_table.proofs.attached.attach_below.Goals as goal

pub ddl_tree-requires-clause-known : goal.ddl_tree-requires-clause-known
ddl_tree-requires-clause-known c = c.requires.parent.made

pub ddl_tree-requires-clause-siblings : goal.ddl_tree-requires-clause-siblings
ddl_tree-requires-clause-siblings c = c.trees_are_together.ensures c.args.stores.now c.requires.may.sound.0 c.args.attempt.now.caller.session c.requires.may.sound.1

pub path-requires-clause-known : goal.path-requires-clause-known
path-requires-clause-known c = c.requires.parent.made

pub path-requires-clause-siblings : goal.path-requires-clause-siblings
path-requires-clause-siblings c = c.trees_are_together.ensures c.args.stores.now c.requires.may.sound.0 c.args.attempt.now.caller.session c.requires.may.sound.1

pub ddl_tree-requires-2-clause-known : goal.ddl_tree-requires-2-clause-known
ddl_tree-requires-2-clause-known c = c.requires.table.made

pub ddl_tree-requires-2-clause-siblings : goal.ddl_tree-requires-2-clause-siblings
ddl_tree-requires-2-clause-siblings c = c.trees_are_together.ensures c.args.stores.now c.requires.may.sound.0 c.args.attempt.now.caller.session c.requires.may.sound.1

pub lock_default-requires-clause-known : goal.lock_default-requires-clause-known
lock_default-requires-clause-known c = c.requires.parent.made

pub place_found-requires-clause-may : goal.place_found-requires-clause-may
place_found-requires-clause-may c = may_go_on _ _ _ _ _ _ c.requires.may c.in_ok-lock_default.ensures.step

pub place_found-requires-clause-parent : goal.place_found-requires-clause-parent
place_found-requires-clause-parent c = (still_guarded c.args.stores.now c.lock_default.new.stores c.args.attempt.now.caller.session c.lock_default.ensures.rest c.args.parent.number c.in_ok-lock_default.ensures.step.keeps.locks c.requires.parent).made

pub place_found-requires-clause-table : goal.place_found-requires-clause-table
place_found-requires-clause-table c = (still_named c.args.stores.now c.lock_default.new.stores c.args.attempt.now.caller.session c.args.table.number c.lock_default.ensures.rest c.in_ok-lock_default.ensures.step.keeps.locks c.requires.table).made

pub place_found-requires-clause-path : goal.place_found-requires-clause-path
place_found-requires-clause-path c =
    (still_sees c.args.stores.now c.lock_default.new.stores c.args.attempt.now.caller.session c.lock_default.ensures.rest c.args.parent.number c.args.table.number (seen c.in_ok-tree.tree) (seen c.in_ok-own.own) c.deref.result.now c.args.tables.now
    (record { parent_tree = c.in_ok-tree.ensures; parent_path = λ h txs catalog. c.deref.ensures.value ∙ c.in_ok-path.ensures h txs catalog; table_tree = c.in_ok-own.ensures; table_family = c.requires.tables })).parent_path

pub place_found-requires-clause-own : goal.place_found-requires-clause-own
place_found-requires-clause-own c =
    (still_sees c.args.stores.now c.lock_default.new.stores c.args.attempt.now.caller.session c.lock_default.ensures.rest c.args.parent.number c.args.table.number (seen c.in_ok-tree.tree) (seen c.in_ok-own.own) c.deref.result.now c.args.tables.now
    (record { parent_tree = c.in_ok-tree.ensures; parent_path = λ h txs catalog. c.deref.ensures.value ∙ c.in_ok-path.ensures h txs catalog; table_tree = c.in_ok-own.ensures; table_family = c.requires.tables })).table_tree

pub place_found-requires-clause-tables : goal.place_found-requires-clause-tables
place_found-requires-clause-tables c =
    (still_sees c.args.stores.now c.lock_default.new.stores c.args.attempt.now.caller.session c.lock_default.ensures.rest c.args.parent.number c.args.table.number (seen c.in_ok-tree.tree) (seen c.in_ok-own.own) c.deref.result.now c.args.tables.now
    (record { parent_tree = c.in_ok-tree.ensures; parent_path = λ h txs catalog. c.deref.ensures.value ∙ c.in_ok-path.ensures h txs catalog; table_tree = c.in_ok-own.ensures; table_family = c.requires.tables })).table_family

pub judge_rows-judged-requires-clause-may : goal.judge_rows-judged-requires-clause-may
judge_rows-judged-requires-clause-may c = may_go_on _ _ _ _ _ _ c.requires.may c.in_ok-lock_default.ensures.step

pub judge_rows-judged-requires-clause-parent : goal.judge_rows-judged-requires-clause-parent
judge_rows-judged-requires-clause-parent c = (still_guarded c.args.stores.now c.lock_default.new.stores c.args.attempt.now.caller.session c.lock_default.ensures.rest c.args.parent.number c.in_ok-lock_default.ensures.step.keeps.locks c.requires.parent).made

pub judge_rows-judged-requires-clause-table : goal.judge_rows-judged-requires-clause-table
judge_rows-judged-requires-clause-table c = (still_named c.args.stores.now c.lock_default.new.stores c.args.attempt.now.caller.session c.args.table.number c.lock_default.ensures.rest c.in_ok-lock_default.ensures.step.keeps.locks c.requires.table).made

pub judge_rows-judged-requires-clause-tree : goal.judge_rows-judged-requires-clause-tree
judge_rows-judged-requires-clause-tree c =
    (still_sees c.args.stores.now c.lock_default.new.stores c.args.attempt.now.caller.session c.lock_default.ensures.rest c.args.parent.number c.args.table.number (seen c.in_ok-tree.tree) (seen c.in_ok-own.own) c.deref-2.result.now c.args.tables.now
    (record { parent_tree = c.in_ok-tree.ensures; parent_path = λ h txs catalog. c.deref-2.ensures.value ∙ c.in_ok-path.ensures h txs catalog; table_tree = c.in_ok-own.ensures; table_family = c.requires.tables })).parent_tree

pub judge_rows-judged-requires-clause-path : goal.judge_rows-judged-requires-clause-path
judge_rows-judged-requires-clause-path c =
    (still_sees c.args.stores.now c.lock_default.new.stores c.args.attempt.now.caller.session c.lock_default.ensures.rest c.args.parent.number c.args.table.number (seen c.in_ok-tree.tree) (seen c.in_ok-own.own) c.deref-2.result.now c.args.tables.now
    (record { parent_tree = c.in_ok-tree.ensures; parent_path = λ h txs catalog. c.deref-2.ensures.value ∙ c.in_ok-path.ensures h txs catalog; table_tree = c.in_ok-own.ensures; table_family = c.requires.tables })).parent_path

pub judge_rows-judged-requires-clause-place : goal.judge_rows-judged-requires-clause-place
judge_rows-judged-requires-clause-place c = c.in_ok-bound.ensures.place

pub wait_for_snapshots-requires-clause-may : goal.wait_for_snapshots-requires-clause-may
wait_for_snapshots-requires-clause-may c = may_go_on _ _ _ _ _ _ c.requires.may c.in_ok-lock_default.ensures.step

pub wait_for_snapshots-requires-clause-others : goal.wait_for_snapshots-requires-clause-others
wait_for_snapshots-requires-clause-others c =
    own_never c.args.attempt.now.caller.session c.args.table.number c.judge_rows-judged.result c.lock_default.new.stores c.args.attempt.now.caller (may_go_on _ _ _ _ _ _ c.requires.may c.in_ok-lock_default.ensures.step)
    (still_family c.args.stores.now c.lock_default.new.stores c.args.attempt.now.caller.session c.lock_default.ensures.rest c.args.table.number c.in_ok-lock_default.ensures.step.keeps.locks c.requires.family) (scans c.args.attempt.now.caller.session c.args.parent.number c.args.table.number c.in_ok-bound.bound) c.judge_rows-judged.ensures.all

pub add_entry-requires-clause-may : goal.add_entry-requires-clause-may
add_entry-requires-clause-may c =
    may_go_on _ _ _ _ _ _ (may_go_on _ _ _ _ _ _ c.requires.may c.in_ok-lock_default.ensures.step) (c.in_ok-wait_for_snapshots.ensures.step (scans c.args.attempt.now.caller.session c.args.parent.number c.args.table.number c.in_ok-bound.bound) (λ h stands. c.judge_rows-judged.ensures.answer h (judged_now c.lock_default.new.stores c.args.attempt.now.caller.session c.args.table.number h stands (still_family c.args.stores.now c.lock_default.new.stores c.args.attempt.now.caller.session c.lock_default.ensures.rest c.args.table.number c.in_ok-lock_default.ensures.step.keeps.locks c.requires.family))))

pub add_entry-requires-clause-locked : goal.add_entry-requires-clause-locked
add_entry-requires-clause-locked c =
    let stay = (c.in_ok-wait_for_snapshots.ensures.step (scans c.args.attempt.now.caller.session c.args.parent.number c.args.table.number c.in_ok-bound.bound) (λ h stands. c.judge_rows-judged.ensures.answer h (judged_now c.lock_default.new.stores c.args.attempt.now.caller.session c.args.table.number h stands (still_family c.args.stores.now c.lock_default.new.stores c.args.attempt.now.caller.session c.lock_default.ensures.rest c.args.table.number c.in_ok-lock_default.ensures.step.keeps.locks c.requires.family)))).keeps.locks in
    record {
      guarded = still_guarded c.lock_default.new.stores c.wait_for_snapshots.new.stores c.args.attempt.now.caller.session c.wait_for_snapshots.ensures.rest c.args.parent.number stay (still_guarded c.args.stores.now c.lock_default.new.stores c.args.attempt.now.caller.session c.lock_default.ensures.rest c.args.parent.number c.in_ok-lock_default.ensures.step.keeps.locks c.requires.parent);
      locked = still_named c.lock_default.new.stores c.wait_for_snapshots.new.stores c.args.attempt.now.caller.session c.args.table.number c.wait_for_snapshots.ensures.rest stay (still_named c.args.stores.now c.lock_default.new.stores c.args.attempt.now.caller.session c.args.table.number c.lock_default.ensures.rest c.in_ok-lock_default.ensures.step.keeps.locks c.requires.table);
      family = still_family c.lock_default.new.stores c.wait_for_snapshots.new.stores c.args.attempt.now.caller.session c.wait_for_snapshots.ensures.rest c.args.table.number stay (still_family c.args.stores.now c.lock_default.new.stores c.args.attempt.now.caller.session c.lock_default.ensures.rest c.args.table.number c.in_ok-lock_default.ensures.step.keeps.locks c.requires.family);
      default = still_default c.lock_default.new.stores c.wait_for_snapshots.new.stores c.args.attempt.now.caller.session c.args.parent.number c.wait_for_snapshots.ensures.rest stay c.in_ok-lock_default.ensures.locked;
    }

pub add_entry-requires-clause-place : goal.add_entry-requires-clause-place
add_entry-requires-clause-place c = still_placed c.lock_default.new.stores c.wait_for_snapshots.new.stores c.args.attempt.now.caller.session c.wait_for_snapshots.ensures.rest c.args.parent.number c.args.table.number c.in_ok-bound.bound c.in_ok-bound.ensures.place

pub add_entry-requires-clause-clean : goal.add_entry-requires-clause-clean
add_entry-requires-clause-clean c =
    found_clean c.args.attempt.now.caller.session c.args.table.number c.judge_rows-judged.result c.lock_default.new.stores c.wait_for_snapshots.new.stores c.wait_for_snapshots.ensures.rest (scans c.args.attempt.now.caller.session c.args.parent.number c.args.table.number c.in_ok-bound.bound) c.judge_rows-judged.ensures.answer c.judge_rows-judged.ensures.all c.in_ok-wait_for_snapshots.ensures.none

pub returns-in_err-tree : goal.returns-in_err-tree
returns-in_err-tree c = out_here c.from_residual.ensures.1

pub returns-in_err-path : goal.returns-in_err-path
returns-in_err-path c = out_here c.from_residual-in_err-path.ensures.1

pub returns-in_err-own : goal.returns-in_err-own
returns-in_err-own c = out_here c.from_residual-in_err-own.ensures.1

pub returns-in_err-lock_default : goal.returns-in_err-lock_default
returns-in_err-lock_default c =
    let names = c.args.attempt.now.names.now in
    let caller = c.args.attempt.now.caller in
    let s = c.args.attempt.now.caller.session in
    let p = c.args.parent.number in
    let t = c.args.table.number in
    let b = bound_tree c.args.bound.now in
    handed_on c.from_residual-in_err-lock_default.ensures.1
    (stops (default_locked names s p) (λ u. attached.placed_and_added names caller p t b) c.in_err-lock_default.ensures.step)

pub returns-in_err-bound : goal.returns-in_err-bound
returns-in_err-bound c =
    let names = c.args.attempt.now.names.now in
    let caller = c.args.attempt.now.caller in
    let s = c.args.attempt.now.caller.session in
    let p = c.args.parent.number in
    let t = c.args.table.number in
    let b = bound_tree c.args.bound.now in
    handed_on c.from_residual-in_err-bound.ensures.1
    (goes (default_locked names s p) (λ u. attached.placed_and_added names caller p t b) c.in_ok-lock_default.ensures.step
    (stops (attached.place_found s p t b) (λ x. attached.scanned_and_added names caller p t x) c.in_err-bound.ensures.step))

pub returns-in_err-wait_for_snapshots : goal.returns-in_err-wait_for_snapshots
returns-in_err-wait_for_snapshots c =
    let names = c.args.attempt.now.names.now in
    let caller = c.args.attempt.now.caller in
    let s = c.args.attempt.now.caller.session in
    let p = c.args.parent.number in
    let t = c.args.table.number in
    let b = bound_tree c.args.bound.now in
    let bound = c.in_ok-bound.bound in
    handed_on c.from_residual-in_err-wait_for_snapshots.ensures.1
    (goes (default_locked names s p) (λ u. attached.placed_and_added names caller p t b) c.in_ok-lock_default.ensures.step
    (goes (attached.place_found s p t b) (λ x. attached.scanned_and_added names caller p t x) c.in_ok-bound.ensures.step
    (stops (scanned names s (scans s p t bound)) (λ u. attached.entry_added caller p t bound) (c.in_err-wait_for_snapshots.ensures.step (scans s p t bound) (λ h stands. c.judge_rows-judged.ensures.answer h (judged_now c.lock_default.new.stores c.args.attempt.now.caller.session c.args.table.number h stands (still_family c.args.stores.now c.lock_default.new.stores c.args.attempt.now.caller.session c.lock_default.ensures.rest c.args.table.number c.in_ok-lock_default.ensures.step.keeps.locks c.requires.family)))))))

pub returns : goal.returns
returns c =
    let names = c.args.attempt.now.names.now in
    let caller = c.args.attempt.now.caller in
    let s = c.args.attempt.now.caller.session in
    let p = c.args.parent.number in
    let t = c.args.table.number in
    let b = bound_tree c.args.bound.now in
    let bound = c.in_ok-bound.bound in
    goes (default_locked names s p) (λ u. attached.placed_and_added names caller p t b) c.in_ok-lock_default.ensures.step
    (goes (attached.place_found s p t b) (λ x. attached.scanned_and_added names caller p t x) c.in_ok-bound.ensures.step
    (goes (scanned names s (scans s p t bound)) (λ u. attached.entry_added caller p t bound) (c.in_ok-wait_for_snapshots.ensures.step (scans c.args.attempt.now.caller.session c.args.parent.number c.args.table.number c.in_ok-bound.bound) (λ h stands. c.judge_rows-judged.ensures.answer h (judged_now c.lock_default.new.stores c.args.attempt.now.caller.session c.args.table.number h stands (still_family c.args.stores.now c.lock_default.new.stores c.args.attempt.now.caller.session c.lock_default.ensures.rest c.args.table.number c.in_ok-lock_default.ensures.step.keeps.locks c.requires.family))))
    c.add_entry.ensures))
