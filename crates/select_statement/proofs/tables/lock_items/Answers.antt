use Rattle.std.proofs.Common.{rules, ◌≡◌, ◌∷◌, ◌++◌, [], ap, arith, length, map, refl, subst, Ok, Err}
use Rattle.std.proofs.lemmas.List.{length-map, nil_from_length}
use Rattle.pg_values.specs.declared.ids.TableNo.{TableNo}
use Rattle.pg_values.specs.declared.lock_mode.LockMode.TheVariants.{AccessShare}
use Rattle.sql_ast.specs.Queries.{joined_tree}
use Rattle.statement_steps.specs.Asks.{named}
use Rattle.statement_steps.specs.Steps.{IsStep}
use Rattle.statement_steps.proofs.Steps.{handed_on}
use Rattle.select_statement.proofs.Naming.{AreNamed, numbers, none_named, one_named, stops_naming, runs_out, all_named, rest_same}
use Rattle.select_statement.proofs.tables.lock_items.Goals as goal

pub loop-item-init : goal.loop-item-init
loop-item-init c = none_named numbers c.args.stores.now c.args.attempt.now.caller c.args.attempt.now.names.now (map joined_tree c.args.items.now) _ c.new-tables.ensures.items c.requires.may c.requires.few

pub lock_named-requires-clause-may : goal.lock_named-requires-clause-may
lock_named-requires-clause-may c = c.loop-item.invariant.may

pub lock_named-requires-clause-few : goal.lock_named-requires-clause-few
lock_named-requires-clause-few c = c.loop-item.invariant.few

pub loop-item-preserved : goal.loop-item-preserved
loop-item-preserved c =
    let whole : c.loop-item.left.now ≡ c.in-Some.item.now ∷ c.in-Some.others.now = search rules in
    let more : c.push.new.self.items ≡ c.loop-item.tables.items ++ c.in_ok-table.table ∷ [] = search rules in
    one_named numbers c.args.stores.now c.loop-item.stores c.lock_named.new.stores c.args.attempt.now.caller c.args.attempt.now.names.now (map joined_tree c.args.items.now) c.loop-item.tables.items c.push.new.self.items (joined_tree c.in-Some.item.now) (map joined_tree c.in-Some.others.now) c.in_ok-table.table
    (subst (λ left. AreNamed numbers c.args.stores.now c.loop-item.stores c.args.attempt.now.caller c.args.attempt.now.names.now (map joined_tree c.args.items.now) c.loop-item.tables.items (map joined_tree left)) whole c.loop-item.invariant)
    (subst (λ name. IsStep (λ (t : TableNo). t.number) (Ok c.in_ok-table.table) c.loop-item.stores c.lock_named.new.stores c.args.attempt.now.caller c.args.attempt.now.caller.cmd (named c.args.attempt.now.names.now c.args.attempt.now.caller.session AccessShare name)) c.as_bytes-name.ensures c.in_ok-table.ensures.step)
    c.in_ok-table.ensures.known c.lock_named.ensures.rest more

pub returns-in_err-push-clause-step : goal.returns-in_err-push-clause-step
returns-in_err-push-clause-step c =
    let whole : c.loop-item.left.now ≡ c.in-Some.item.now ∷ c.in-Some.others.now = search rules in
    handed_on c.from_residual-in_err-push.ensures.1 (runs_out numbers c.args.stores.now c.loop-item.stores c.lock_named.new.stores c.args.attempt.now.caller c.args.attempt.now.names.now (map joined_tree c.args.items.now) c.loop-item.tables.items (joined_tree c.in-Some.item.now) (map joined_tree c.in-Some.others.now) c.in_ok-table.table
    (subst (λ left. AreNamed numbers c.args.stores.now c.loop-item.stores c.args.attempt.now.caller c.args.attempt.now.names.now (map joined_tree c.args.items.now) c.loop-item.tables.items (map joined_tree left)) whole c.loop-item.invariant)
    (subst (λ name. IsStep (λ (t : TableNo). t.number) (Ok c.in_ok-table.table) c.loop-item.stores c.lock_named.new.stores c.args.attempt.now.caller c.args.attempt.now.caller.cmd (named c.args.attempt.now.names.now c.args.attempt.now.caller.session AccessShare name)) c.as_bytes-name.ensures c.in_ok-table.ensures.step))

pub returns-in_err-push-clause-rest : goal.returns-in_err-push-clause-rest
returns-in_err-push-clause-rest c = rest_same c.args.stores.now c.loop-item.stores c.lock_named.new.stores c.loop-item.invariant.rest c.lock_named.ensures.rest

pub returns-in_err-table-clause-step : goal.returns-in_err-table-clause-step
returns-in_err-table-clause-step c =
    let whole : c.loop-item.left.now ≡ c.in-Some.item.now ∷ c.in-Some.others.now = search rules in
    handed_on c.from_residual.ensures.1 (stops_naming numbers c.args.stores.now c.loop-item.stores c.lock_named.new.stores c.args.attempt.now.caller c.args.attempt.now.names.now (map joined_tree c.args.items.now) c.loop-item.tables.items (joined_tree c.in-Some.item.now) (map joined_tree c.in-Some.others.now) c.in_err-table.field-0.0
    (subst (λ left. AreNamed numbers c.args.stores.now c.loop-item.stores c.args.attempt.now.caller c.args.attempt.now.names.now (map joined_tree c.args.items.now) c.loop-item.tables.items (map joined_tree left)) whole c.loop-item.invariant)
    (subst (λ name. IsStep (λ (t : TableNo). t.number) (Err c.in_err-table.field-0.0) c.loop-item.stores c.lock_named.new.stores c.args.attempt.now.caller c.args.attempt.now.caller.cmd (named c.args.attempt.now.names.now c.args.attempt.now.caller.session AccessShare name)) c.as_bytes-name.ensures c.in_err-table.ensures.step))

pub returns-in_err-table-clause-rest : goal.returns-in_err-table-clause-rest
returns-in_err-table-clause-rest c = rest_same c.args.stores.now c.loop-item.stores c.lock_named.new.stores c.loop-item.invariant.rest c.lock_named.ensures.rest

pub returns-clause-step : goal.returns-clause-step
returns-clause-step c =
    let none : c.loop-item.left.now ≡ [] = nil_from_length c.loop-item.left.now c.in_default.ensures.cases in
    all_named numbers c.args.stores.now c.loop-item.stores c.args.attempt.now.caller c.args.attempt.now.names.now (map joined_tree c.args.items.now) c.loop-item.tables.items c.loop-item.tables
    (subst (λ left. AreNamed numbers c.args.stores.now c.loop-item.stores c.args.attempt.now.caller c.args.attempt.now.names.now (map joined_tree c.args.items.now) c.loop-item.tables.items (map joined_tree left)) none c.loop-item.invariant) refl

pub returns-clause-known : goal.returns-clause-known
returns-clause-known c = c.loop-item.invariant.known

pub returns-clause-count : goal.returns-clause-count
returns-clause-count c =
    let none : c.loop-item.left.now ≡ [] = nil_from_length c.loop-item.left.now c.in_default.ensures.cases in
    let count = c.loop-item.invariant.count in
    let left = length-map c.loop-item.left.now joined_tree in
    let zero = ap length none in
    let items = length-map c.args.items.now joined_tree in
    omega (arith, count, left, zero, items)

pub returns-clause-rest : goal.returns-clause-rest
returns-clause-rest c = c.loop-item.invariant.rest
