use Rattle.std.proofs.Common.{◌≡◌, sym, ◌∙◌, length}
use Rattle.history.specs.declared.version.Ending.TheVariants.{ReplacedBy}
use Rattle.row_store.specs.Kept.{stored_at}
use Rattle.row_store.specs.Stands.{newborn}
use Rattle.row_store.proofs.Changes.{standing_is}
use Rattle.row_change.specs.Succession.{follows}
use Rattle.row_change.proofs.Full.{has_room_for}
use Rattle.row_change.proofs.Successors.{in_own, not_made, replaced_keeps, keeps_all}
use Rattle.row_change.proofs.succession.replace_row.Goals as goal

pub replace-requires-clause-standing : goal.replace-requires-clause-standing
replace-requires-clause-standing c h txs store =
    sym (standing_is c.args.txs.now c.args.store.now h c.args.id.number c.requires.known txs store) ∙ c.requires.standing

pub returns-in-Ok-clause-made : goal.returns-in-Ok-clause-made
returns-in-Ok-clause-made c h txs store =
    let a = c.args in
    has_room_for a.store.now c.replace.new.self h a.row (follows a.leaf a.id (newborn h a.leaf a.row a.by a.cmd)) store c.in-Ok.ensures.cause
    (in_own c.replace.new.self h (stored_at a.store.now.stored a.id).version.leaf a.leaf a.id a.row a.by a.cmd c.requires.own (c.in-Ok.ensures.added h txs store))

pub returns-in-Ok-clause-keeps : goal.returns-in-Ok-clause-keeps
returns-in-Ok-clause-keeps c =
    let a = c.args in
    let next = length a.store.now.stored in
    replaced_keeps a.store.now c.replace.new.self (record { id = record { number = next }; leaf = (stored_at a.store.now.stored a.id).version.leaf; row = a.row; by = a.by; cmd = a.cmd }) a.id.number
    (record { by = a.by; cmd = a.cmd; how = ReplacedBy (record { number = next }) }) c.in-Ok.ensures.kept

pub returns-in-Err-clause-made : goal.returns-in-Err-clause-made
returns-in-Err-clause-made c h txs store =
    let a = c.args in
    not_made c.refused.result c.in-Err.back.cause a.store.now c.replace.new.self h a.row (follows a.leaf a.id (newborn h a.leaf a.row a.by a.cmd)) c.refused.ensures c.in-Err.ensures.cause c.in-Err.ensures.err.1 store

pub returns-in-Err-clause-keeps : goal.returns-in-Err-clause-keeps
returns-in-Err-clause-keeps c = keeps_all c.args.store.now c.replace.new.self c.in-Err.ensures.err.1
