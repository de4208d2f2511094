use Rattle.std.proofs.Common.{◌≡◌, ◌∷◌, [], List, rules, sym, subst}
use Rattle.std.proofs.lemmas.List.{nil_from_length}
use Rattle.pg_values.specs.declared.ids.TableNo.{TableNo}
use Rattle.sql_ast.specs.declared.locked_table.LockedTable.{LockedTable}
use Rattle.statement_steps.proofs.Parts.{no_memory}
use Rattle.statement_steps.proofs.Steps.{goes_on, handed_on}
use Rattle.table_statements.specs.Locked.{all_named}
use Rattle.table_statements.specs.SeenLocks.{numbers}
use Rattle.table_statements.proofs.Finding.{IsLeft, all_left, one_less, stops_there, all_found, rest_same}
use Rattle.table_statements.proofs.named.lock_all.Goals as goal
use Rattle.table_statements.proofs.named.lock_all.Goals.{In-Some, In_default}

pub loop-table-init : goal.loop-table-init
loop-table-init c =
    subst (λ (ts : List TableNo). IsLeft c.args.stores.now c.args.stores.now c.args.attempt.now.caller c.args.attempt.now.names.now c.args.mode c.args.tables.now c.args.tables.now ts) (sym c.new-whole.ensures.items)
    (all_left c.args.stores.now c.args.attempt.now.caller c.args.attempt.now.names.now c.args.mode c.args.tables.now c.requires.may c.requires.few)

-- what is left begins with the table
at_table : (c : In-Some) → IsLeft c.args.stores.now c.loop-table.stores c.args.attempt.now.caller c.args.attempt.now.names.now c.args.mode c.args.tables.now (c.in-Some.table.now ∷ c.in-Some.others.now) c.loop-table.whole.items
at_table c =
    let all : c.loop-table.left.now ≡ c.in-Some.table.now ∷ c.in-Some.others.now = search rules in
    subst (λ (xs : List LockedTable). IsLeft c.args.stores.now c.loop-table.stores c.args.attempt.now.caller c.args.attempt.now.names.now c.args.mode c.args.tables.now xs c.loop-table.whole.items) all c.loop-table.invariant

pub lock_one-requires-clause-may : goal.lock_one-requires-clause-may
lock_one-requires-clause-may c = c.loop-table.invariant.may

pub lock_one-requires-clause-few : goal.lock_one-requires-clause-few
lock_one-requires-clause-few c = c.loop-table.invariant.few

pub loop-table-preserved : goal.loop-table-preserved
loop-table-preserved c =
    subst (λ (ts : List TableNo). IsLeft c.args.stores.now c.lock_one.new.stores c.args.attempt.now.caller c.args.attempt.now.names.now c.args.mode c.args.tables.now c.in-Some.others.now ts) (sym c.in_ok-push_if_some.ensures)
    (one_less c.args.stores.now c.loop-table.stores c.lock_one.new.stores c.args.attempt.now.caller c.args.attempt.now.names.now c.args.mode c.args.tables.now c.in-Some.table.now c.in-Some.others.now c.loop-table.whole.items c.in_ok-found.found
    (at_table (goal.at.loop-table-preserved c).In-Some) c.in_ok-found.ensures.step c.in_ok-found.ensures.known c.lock_one.ensures.rest)

pub returns-in_err-push_if_some-clause-step : goal.returns-in_err-push_if_some-clause-step
returns-in_err-push_if_some-clause-step c =
    handed_on c.from_residual-in_err-push_if_some.ensures.1 (no_memory numbers c.args.stores.now c.lock_one.new.stores c.args.attempt.now.caller c.args.attempt.now.caller.cmd (all_named c.args.attempt.now.names.now c.args.attempt.now.caller.session c.args.mode c.args.tables.now)
    (goes_on c.args.stores.now c.loop-table.stores c.lock_one.new.stores c.args.attempt.now.caller.session c.loop-table.invariant.keeps c.lock_one.ensures.step.keeps))

pub returns-in_err-found-clause-step : goal.returns-in_err-found-clause-step
returns-in_err-found-clause-step c =
    handed_on c.from_residual.ensures.1 (stops_there c.args.stores.now c.loop-table.stores c.lock_one.new.stores c.args.attempt.now.caller c.args.attempt.now.names.now c.args.mode c.args.tables.now c.in-Some.table.now c.in-Some.others.now c.loop-table.whole.items c.in_err-found.field-0.0
    (at_table (goal.at.returns-in_err-found-clause-step c).In-Some) c.in_err-found.ensures.step)

-- the locks alone are changed
pub returns-in_err-push_if_some-clause-rest : goal.returns-in_err-push_if_some-clause-rest
returns-in_err-push_if_some-clause-rest c = rest_same c.args.stores.now c.loop-table.stores c.lock_one.new.stores c.loop-table.invariant.rest c.lock_one.ensures.rest

pub returns-in_err-found-clause-rest : goal.returns-in_err-found-clause-rest
returns-in_err-found-clause-rest c = rest_same c.args.stores.now c.loop-table.stores c.lock_one.new.stores c.loop-table.invariant.rest c.lock_one.ensures.rest

-- nothing is left
at_end : (c : In_default) → IsLeft c.args.stores.now c.loop-table.stores c.args.attempt.now.caller c.args.attempt.now.names.now c.args.mode c.args.tables.now [] c.loop-table.whole.items
at_end c =
    let none : c.loop-table.left.now ≡ [] = nil_from_length c.loop-table.left.now c.in_default.ensures.cases in
    subst (λ (xs : List LockedTable). IsLeft c.args.stores.now c.loop-table.stores c.args.attempt.now.caller c.args.attempt.now.names.now c.args.mode c.args.tables.now xs c.loop-table.whole.items) none c.loop-table.invariant

pub returns-clause-step : goal.returns-clause-step
returns-clause-step c = all_found c.args.stores.now c.loop-table.stores c.args.attempt.now.caller c.args.attempt.now.names.now c.args.mode c.args.tables.now c.loop-table.whole (at_end (goal.at.returns-clause-step c).In_default)

pub returns-clause-known : goal.returns-clause-known
returns-clause-known c = c.loop-table.invariant.known

pub returns-clause-rest : goal.returns-clause-rest
returns-clause-rest c = c.loop-table.invariant.rest
