use Rattle.std.proofs.Common.{◌≡◌, ◌∷◌, [], List, ℕ, rules, sym, subst}
use Rattle.pg_values.specs.declared.ids.TableNo.{TableNo}
use Rattle.statement_steps.proofs.Parts.{no_memory}
use Rattle.statement_steps.proofs.Steps.{goes_on, handed_on, moved}
use Rattle.table_statements.specs.Asked.{numbers}
use Rattle.table_statements.specs.Drops.{found_one, found_all}
use Rattle.table_statements.proofs.Left.{IsLeft, all_left, one_less, stops_there, all_found, no_names}
use Rattle.table_statements.proofs.drops.lock_all_to_drop.Goals as goal
use Rattle.table_statements.proofs.drops.lock_all_to_drop.Goals.{In-Some, In_default}

pub loop-name-init : goal.loop-name-init
loop-name-init c =
    subst (λ (ts : List TableNo). IsLeft c.args.stores.now c.args.stores.now c.args.attempt.now.caller c.args.attempt.now.names.now c.args.if_there c.args.tables.now c.args.tables.now ts) (sym c.new-found.ensures.items)
    (all_left c.args.stores.now c.args.attempt.now.caller c.args.attempt.now.names.now c.args.if_there c.args.tables.now c.requires.may c.requires.few)

-- what is left begins with the name
at_name : (c : In-Some) → IsLeft c.args.stores.now c.loop-name.stores c.args.attempt.now.caller c.args.attempt.now.names.now c.args.if_there c.args.tables.now (c.in-Some.name.now ∷ c.in-Some.others.now) c.loop-name.found.items
at_name c =
    let whole : c.loop-name.left.now ≡ c.in-Some.name.now ∷ c.in-Some.others.now = search rules in
    subst (λ (ns : List (List ℕ)). IsLeft c.args.stores.now c.loop-name.stores c.args.attempt.now.caller c.args.attempt.now.names.now c.args.if_there c.args.tables.now ns c.loop-name.found.items) whole c.loop-name.invariant

pub lock_if_there-requires-clause-may : goal.lock_if_there-requires-clause-may
lock_if_there-requires-clause-may c = c.loop-name.invariant.may

pub lock_if_there-requires-clause-few : goal.lock_if_there-requires-clause-few
lock_if_there-requires-clause-few c = c.loop-name.invariant.few

pub loop-name-preserved : goal.loop-name-preserved
loop-name-preserved c =
    let left = at_name (goal.at.loop-name-preserved c).In-Some in
    let step = moved (found_one c.args.attempt.now.names.now c.args.attempt.now.caller.session c.args.if_there) _ _ c.as_bytes.ensures c.in_ok-table.ensures.step in
    subst (λ (ts : List TableNo). IsLeft c.args.stores.now c.lock_if_there.new.stores c.args.attempt.now.caller c.args.attempt.now.names.now c.args.if_there c.args.tables.now c.in-Some.others.now ts) (sym c.in_ok-push_if_some.ensures)
    (one_less c.args.stores.now c.loop-name.stores c.lock_if_there.new.stores c.args.attempt.now.caller c.args.attempt.now.names.now c.args.if_there c.args.tables.now c.in-Some.name.now c.in-Some.others.now c.loop-name.found.items c.in_ok-table.table
    left step c.lock_if_there.ensures.rest c.in_ok-table.ensures.drop)

pub returns-in_err-push_if_some-clause-step : goal.returns-in_err-push_if_some-clause-step
returns-in_err-push_if_some-clause-step c =
    handed_on c.from_residual-in_err-push_if_some.ensures.1 (no_memory numbers c.args.stores.now c.lock_if_there.new.stores c.args.attempt.now.caller c.args.attempt.now.caller.cmd (found_all c.args.attempt.now.names.now c.args.attempt.now.caller.session c.args.if_there c.args.tables.now)
    (goes_on c.args.stores.now c.loop-name.stores c.lock_if_there.new.stores c.args.attempt.now.caller.session c.loop-name.invariant.keeps c.lock_if_there.ensures.step.keeps))

pub returns-in_err-table-clause-step : goal.returns-in_err-table-clause-step
returns-in_err-table-clause-step c =
    let left = at_name (goal.at.returns-in_err-table-clause-step c).In-Some in
    let step = moved (found_one c.args.attempt.now.names.now c.args.attempt.now.caller.session c.args.if_there) _ _ c.as_bytes.ensures c.in_err-table.ensures.step in
    handed_on c.from_residual.ensures.1 (stops_there c.args.stores.now c.loop-name.stores c.lock_if_there.new.stores c.args.attempt.now.caller c.args.attempt.now.names.now c.args.if_there c.args.tables.now c.in-Some.name.now c.in-Some.others.now c.loop-name.found.items c.in_err-table.field-0.0 left step)

-- nothing is left
at_end : (c : In_default) → IsLeft c.args.stores.now c.loop-name.stores c.args.attempt.now.caller c.args.attempt.now.names.now c.args.if_there c.args.tables.now [] c.loop-name.found.items
at_end c =
    let none : c.loop-name.left.now ≡ [] = no_names c.loop-name.left.now c.in_default.ensures.cases in
    subst (λ (ns : List (List ℕ)). IsLeft c.args.stores.now c.loop-name.stores c.args.attempt.now.caller c.args.attempt.now.names.now c.args.if_there c.args.tables.now ns c.loop-name.found.items) none c.loop-name.invariant

pub returns-clause-step : goal.returns-clause-step
returns-clause-step c = all_found c.args.stores.now c.loop-name.stores c.args.attempt.now.caller c.args.attempt.now.names.now c.args.if_there c.args.tables.now c.loop-name.found (at_end (goal.at.returns-clause-step c).In_default)

pub returns-clause-drop : goal.returns-clause-drop
returns-clause-drop c = c.loop-name.invariant.drop
