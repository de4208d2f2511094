use Rattle.std.proofs.Common.{rules, ◌≡◌, ◌∷◌, [], subst}
use Rattle.std.proofs.lemmas.List.{nil_from_length}
use Rattle.table_statements.proofs.Locking.{IsLeft, all_left, next_known, one_less, stops_there, none_left}
use Rattle.statement_steps.proofs.Steps.{handed_on}
use Rattle.table_statements.proofs.under.lock_all_below.Goals as goal
use Rattle.table_statements.proofs.under.lock_all_below.Goals.{In-Some}

pub loop-table-init : goal.loop-table-init
loop-table-init c = all_left c.args.stores.now c.args.attempt.now.caller c.args.attempt.now.names.now c.args.mode c.args.tables.now c.requires.may c.requires.few c.requires.known

-- what is left begins with the table
at_table : (c : In-Some) → IsLeft c.args.stores.now c.loop-table.stores c.args.attempt.now.caller c.args.attempt.now.names.now c.args.mode c.args.tables.now (c.in-Some.table.now ∷ c.in-Some.others.now)
at_table c =
    let all : c.loop-table.left.now ≡ c.in-Some.table.now ∷ c.in-Some.others.now = search rules in
    subst (IsLeft c.args.stores.now c.loop-table.stores c.args.attempt.now.caller c.args.attempt.now.names.now c.args.mode c.args.tables.now) all c.loop-table.invariant

pub lock_below-requires-clause-may : goal.lock_below-requires-clause-may
lock_below-requires-clause-may c = c.loop-table.invariant.may

pub lock_below-requires-clause-few : goal.lock_below-requires-clause-few
lock_below-requires-clause-few c = c.loop-table.invariant.few

pub lock_below-requires-clause-known : goal.lock_below-requires-clause-known
lock_below-requires-clause-known c =
    next_known c.args.stores.now c.loop-table.stores c.args.attempt.now.caller c.args.attempt.now.names.now c.args.mode c.args.tables.now c.in-Some.table.now c.in-Some.others.now (at_table (goal.at.lock_below-requires-clause-known c).In-Some)

pub returns-in_err-lock_below : goal.returns-in_err-lock_below
returns-in_err-lock_below c =
    handed_on c.from_residual.ensures.1 (stops_there c.args.stores.now c.loop-table.stores c.lock_below.new.stores c.args.attempt.now.caller c.args.attempt.now.names.now c.args.mode c.args.tables.now c.in-Some.table.now c.in-Some.others.now c.in_err-lock_below.field-0.0
    (at_table (goal.at.returns-in_err-lock_below c).In-Some) c.in_err-lock_below.ensures.step)

pub loop-table-preserved : goal.loop-table-preserved
loop-table-preserved c =
    one_less c.args.stores.now c.loop-table.stores c.lock_below.new.stores c.args.attempt.now.caller c.args.attempt.now.names.now c.args.mode c.args.tables.now c.in-Some.table.now c.in-Some.others.now
    (at_table (goal.at.loop-table-preserved c).In-Some) c.in_ok-lock_below.ensures.step c.lock_below.ensures.rest

pub returns : goal.returns
returns c =
    let none : c.loop-table.left.now ≡ [] = nil_from_length c.loop-table.left.now c.in_default.ensures.cases in
    none_left c.args.stores.now c.loop-table.stores c.args.attempt.now.caller c.args.attempt.now.names.now c.args.mode c.args.tables.now
    (subst (IsLeft c.args.stores.now c.loop-table.stores c.args.attempt.now.caller c.args.attempt.now.names.now c.args.mode c.args.tables.now) none c.loop-table.invariant)
