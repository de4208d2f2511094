use Rattle.std.proofs.Common.{◌∙◌, sym, arith}
use Rattle.statement_steps.specs.Known.{IsKnownTo}
use Rattle.alter_table.proofs.Defaults.{default_known}
use Rattle.alter_table.proofs.detached.lock_default.Goals as goal
use Rattle.alter_table.proofs.detached.lock_default.Goals.{In-Some}

pub default_of-requires-clause-siblings : goal.default_of-requires-clause-siblings
default_of-requires-clause-siblings c = c.trees_are_together.ensures c.args.stores.now c.requires.may.sound.0 c.args.attempt.now.caller.session c.requires.may.sound.1

-- the session may ask for the default partition
known : (c : In-Some) → IsKnownTo c.args.stores.now c.args.attempt.now.caller.session c.in-Some.default.number
known c =
    let h = c.requires.may.sound.0 in
    let stands = c.requires.may.sound.1 in
    default_known c.listed_is_there.ensures c.there_is_known.ensures c.args.stores.now c.args.attempt.now.caller h c.args.parent.number c.in-Some.default c.requires.may stands (sym (c.default_of.ensures h stands.all.txs stands.all.catalog) ∙ c.in-Some.is)

pub lock_table-requires-clause-known : goal.lock_table-requires-clause-known
lock_table-requires-clause-known c =
    let made = (known (goal.at.lock_table-requires-clause-known c).In-Some).made in
    let few = c.requires.few in
    omega (arith, made, few)

pub lock_table-requires-clause-there : goal.lock_table-requires-clause-there
lock_table-requires-clause-there c = known (goal.at.lock_table-requires-clause-there c).In-Some
