use Rattle.std.proofs.Common.{rules, ◌≡◌, ◌∷◌, [], false, subst, sym, arith}
use Rattle.std.proofs.lemmas.Grind.{common_steps}
use Rattle.statement_steps.proofs.Left.{IsLeft, all_left, one_less, stops_there, none_left, no_length}
use Rattle.statement_steps.proofs.Steps.{handed_on}
use Rattle.statement_steps.proofs.locking.lock_tables.Goals as goal

pub loop-table-init : goal.loop-table-init
loop-table-init c = all_left c.args.stores.now c.args.attempt.now.caller c.args.attempt.now.names.now c.args.mode c.args.tables.now c.requires.may c.requires.there c.requires.known

pub returns-in_err-lock_table-clause-step : goal.returns-in_err-lock_table-clause-step
returns-in_err-lock_table-clause-step c =
    let whole : c.loop-table.left.now ≡ c.in-Some.table.now ∷ c.in-Some.others.now = search rules in
    let same : c.take_unopposed.new.stores ≡ c.loop-table.stores = c.take_unopposed.ensures.same (grind (arith, common_steps, c.if-not-take_unopposed.true)) in
    handed_on c.from_residual.ensures.1 (stops_there c.args.stores.now c.take_unopposed.new.stores c.lock_table.new.stores c.args.attempt.now.caller c.args.attempt.now.names.now c.args.mode c.args.tables.now c.in-Some.table.now c.in-Some.others.now c.in_err-lock_table.field-0.0
    (rw same (subst (IsLeft c.args.stores.now c.loop-table.stores c.args.attempt.now.caller c.args.attempt.now.names.now c.args.mode c.args.tables.now) whole c.loop-table.invariant)) c.in_err-lock_table.ensures.step)

pub loop-table-preserved-in_ok-lock_table : goal.loop-table-preserved-in_ok-lock_table
loop-table-preserved-in_ok-lock_table c =
    let whole : c.loop-table.left.now ≡ c.in-Some.table.now ∷ c.in-Some.others.now = search rules in
    let same : c.take_unopposed.new.stores ≡ c.loop-table.stores = c.take_unopposed.ensures.same (grind (arith, common_steps, c.if-not-take_unopposed.true)) in
    one_less c.args.stores.now c.take_unopposed.new.stores c.lock_table.new.stores c.args.attempt.now.caller c.args.attempt.now.names.now c.args.mode c.args.tables.now c.in-Some.table.now c.in-Some.others.now
    (rw same (subst (IsLeft c.args.stores.now c.loop-table.stores c.args.attempt.now.caller c.args.attempt.now.names.now c.args.mode c.args.tables.now) whole c.loop-table.invariant)) c.in_ok-lock_table.ensures.step c.lock_table.ensures.rest

pub loop-table-preserved : goal.loop-table-preserved
loop-table-preserved c =
    let whole : c.loop-table.left.now ≡ c.in-Some.table.now ∷ c.in-Some.others.now = search rules in
    one_less c.args.stores.now c.loop-table.stores c.take_unopposed.new.stores c.args.attempt.now.caller c.args.attempt.now.names.now c.args.mode c.args.tables.now c.in-Some.table.now c.in-Some.others.now
    (subst (IsLeft c.args.stores.now c.loop-table.stores c.args.attempt.now.caller c.args.attempt.now.names.now c.args.mode c.args.tables.now) whole c.loop-table.invariant)
    (c.take_unopposed.ensures.step (grind (arith, common_steps, c.if-not-take_unopposed.false)) c.args.attempt.now.names.now) c.take_unopposed.ensures.rest

pub returns-clause-step : goal.returns-clause-step
returns-clause-step c =
    let none : c.loop-table.left.now ≡ [] = no_length c.loop-table.left.now c.in_default.ensures.cases in
    none_left c.args.stores.now c.loop-table.stores c.args.attempt.now.caller c.args.attempt.now.names.now c.args.mode c.args.tables.now
    (subst (IsLeft c.args.stores.now c.loop-table.stores c.args.attempt.now.caller c.args.attempt.now.names.now c.args.mode c.args.tables.now) none c.loop-table.invariant)
