use Rattle.std.proofs.Common.{◌≤◌, All, List, length, map, sym, subst}
use Rattle.pg_values.specs.declared.ids.TableNo.{TableNo}
use Rattle.stores.specs.declared.stores.Stores.{Stores}
use Rattle.statement_steps.specs.Asks.{held_at}
use Rattle.statement_steps.proofs.Steps.{goes, handed_on, may_go_on, moved, stops}
use Rattle.table_statements.specs.Asked.{MayDropTable}
use Rattle.table_statements.specs.Drops.{dropped_all, found_all, locked_and_dropped}
use Rattle.table_statements.proofs.drops.drop_tables.Goals as goal

pub lock_all_to_drop-requires-clause-may : goal.lock_all_to_drop-requires-clause-may
lock_all_to_drop-requires-clause-may c = may_go_on _ _ _ _ _ _ c.requires.may c.in_ok-hold_if_repeatable.ensures.step

pub lock_all_to_drop-requires-clause-few : goal.lock_all_to_drop-requires-clause-few
lock_all_to_drop-requires-clause-few c = subst (λ (s : Stores). length s.catalog.tables ≤ 4096) (sym c.hold_if_repeatable.ensures.rest) c.requires.few

pub drop_all-requires-clause-may : goal.drop_all-requires-clause-may
drop_all-requires-clause-may c = may_go_on _ _ _ _ _ _ (may_go_on _ _ _ _ _ _ c.requires.may c.in_ok-hold_if_repeatable.ensures.step) c.in_ok-found.ensures.step

pub drop_all-requires-clause-drops : goal.drop_all-requires-clause-drops
drop_all-requires-clause-drops c = subst (λ (ts : List TableNo). All (MayDropTable c.lock_all_to_drop.new.stores c.args.attempt.now.caller.session) ts) (sym c.deref.ensures.value) c.in_ok-found.ensures.drop

pub returns-in_err-found : goal.returns-in_err-found
returns-in_err-found c =
    let names = c.args.attempt.now.names.now in
    let caller = c.args.attempt.now.caller in
    handed_on c.from_residual-in_err-found.ensures.1
    (goes (held_at caller.level caller.session caller.cmd) (λ u. locked_and_dropped names caller c.args.if_there c.args.tables.now) c.in_ok-hold_if_repeatable.ensures.step
    (stops (found_all names caller.session c.args.if_there c.args.tables.now) (dropped_all caller) c.in_err-found.ensures.step))

pub returns : goal.returns
returns c =
    let names = c.args.attempt.now.names.now in
    let caller = c.args.attempt.now.caller in
    goes (held_at caller.level caller.session caller.cmd) (λ u. locked_and_dropped names caller c.args.if_there c.args.tables.now) c.in_ok-hold_if_repeatable.ensures.step
    (goes (found_all names caller.session c.args.if_there c.args.tables.now) (dropped_all caller) c.in_ok-found.ensures.step
    (moved (λ (ts : List TableNo). dropped_all caller (map (λ t. t.number) ts)) _ _ c.deref.ensures.value c.drop_all.ensures))
