use Rattle.std.proofs.Common.{◌≡◌, ◌∷◌, [], List, rules, subst}
use Rattle.pg_values.specs.declared.ids.TableNo.{TableNo}
use Rattle.statement_steps.proofs.Steps.{handed_on}
use Rattle.table_statements.proofs.Left.{IsGoneSoFar, none_gone, may_go, one_gone, gone_out, all_gone, no_tables}
use Rattle.table_statements.proofs.drops.drop_all.Goals as goal
use Rattle.table_statements.proofs.drops.drop_all.Goals.{In-Some-split_first}

pub loop-table-init : goal.loop-table-init
loop-table-init c = none_gone c.args.stores.now c.args.attempt.now.caller c.in-Some.by c.args.tables.now c.requires.may c.in-Some.ensures.is c.requires.drops

-- what is left begins with the table
at_table : (c : In-Some-split_first) → IsGoneSoFar c.args.stores.now c.loop-table.stores c.args.attempt.now.caller c.in-Some.by c.args.tables.now (c.in-Some-split_first.table.now ∷ c.in-Some-split_first.others.now)
at_table c =
    let whole : c.loop-table.left.now ≡ c.in-Some-split_first.table.now ∷ c.in-Some-split_first.others.now = search rules in
    subst (λ (ts : List TableNo). IsGoneSoFar c.args.stores.now c.loop-table.stores c.args.attempt.now.caller c.in-Some.by c.args.tables.now ts) whole c.loop-table.invariant

pub drop_one-requires : goal.drop_one-requires
drop_one-requires c =
    may_go c.args.stores.now c.loop-table.stores c.args.attempt.now.caller c.in-Some.by c.args.tables.now c.in-Some-split_first.table.now c.in-Some-split_first.others.now (at_table (goal.at.drop_one-requires c).In-Some-split_first)

pub loop-table-preserved : goal.loop-table-preserved
loop-table-preserved c =
    one_gone c.tree_is_whole.ensures c.args.stores.now c.loop-table.stores c.drop_one.new.stores c.args.attempt.now.caller c.in-Some.by c.args.tables.now c.in-Some-split_first.table.now c.in-Some-split_first.others.now
    (at_table (goal.at.loop-table-preserved c).In-Some-split_first) c.drop_one.ensures.rest c.in_ok-drop_one.ensures.ok

pub returns-in_err-drop_one : goal.returns-in_err-drop_one
returns-in_err-drop_one c = handed_on c.from_residual.ensures.1 (gone_out c.args.stores.now c.loop-table.stores c.drop_one.new.stores c.args.attempt.now.caller c.in-Some.by c.args.tables.now c.loop-table.left.now c.loop-table.invariant c.drop_one.ensures.rest)

pub returns : goal.returns
returns c =
    let none : c.loop-table.left.now ≡ [] = no_tables c.loop-table.left.now c.in_default-split_first.ensures.cases in
    all_gone c.args.stores.now c.loop-table.stores c.args.attempt.now.caller c.in-Some.by c.args.tables.now
    (subst (λ (ts : List TableNo). IsGoneSoFar c.args.stores.now c.loop-table.stores c.args.attempt.now.caller c.in-Some.by c.args.tables.now ts) none c.loop-table.invariant)
