use Rattle.std.proofs.Common.{◌≡◌, ◌<◌, ◌∷◌, sym, ◌∙◌, subst, true, length, arith}
use Rattle.history.specs.declared.version.Ending.TheVariants.{MovedTo}
use Rattle.history.specs.declared.version.Version.{Version}
use Rattle.history.specs.Rows.{RowBorn}
use Rattle.history.specs.History.{RowChange}
use Rattle.tx_table.specs.Stands.{sees_now_by}
use Rattle.row_store.specs.Stands.{newborn}
use Rattle.row_change.specs.Succession.{follows}
use Rattle.row_change.proofs.Full.{has_room_for}
use Rattle.row_change.proofs.Successors.{in_other, not_made, born_keeps, end_keeps, keeps_both, keeps_all, still_stands}
use Rattle.row_change.proofs.succession.move_row.Goals as goal

pub end_version-requires-clause-known : goal.end_version-requires-clause-known
end_version-requires-clause-known c =
    let keeps = born_keeps c.args.store.now c.put.new.self (record { id = record { number = length c.args.store.now.stored }; leaf = c.args.leaf; row = c.args.row; by = c.args.by; cmd = c.args.cmd }) c.in-Ok.ensures.kept in
    let more = keeps.more in
    let known = c.requires.known in
    omega (arith, more, known)

pub end_version-requires-clause-standing : goal.end_version-requires-clause-standing
end_version-requires-clause-standing c h txs store =
    still_stands c.args.txs.now c.args.store.now c.put.new.self (record { id = record { number = length c.args.store.now.stored }; leaf = c.args.leaf; row = c.args.row; by = c.args.by; cmd = c.args.cmd }) c.args.id h c.in-Ok.ensures.kept c.requires.known c.requires.standing txs store

pub end_version-requires-clause-seen : goal.end_version-requires-clause-seen
end_version-requires-clause-seen c =
    let keeps = born_keeps c.args.store.now c.put.new.self (record { id = record { number = length c.args.store.now.stored }; leaf = c.args.leaf; row = c.args.row; by = c.args.by; cmd = c.args.cmd }) c.in-Ok.ensures.kept in
    subst (λ (v : Version). sees_now_by c.args.txs.now c.args.by.number v.by.number ≡ true) (sym (keeps.same c.args.id c.requires.known)) c.requires.seen

pub end_version-requires-clause-there : goal.end_version-requires-clause-there
end_version-requires-clause-there c =
    let keeps = born_keeps c.args.store.now c.put.new.self (record { id = record { number = length c.args.store.now.stored }; leaf = c.args.leaf; row = c.args.row; by = c.args.by; cmd = c.args.cmd }) c.in-Ok.ensures.kept in
    subst (λ n. c.args.leaf.number < n) (sym keeps.leaves) c.requires.leaf

pub returns-in-Ok-clause-made : goal.returns-in-Ok-clause-made
returns-in-Ok-clause-made c h txs store =
    let a = c.args in
    has_room_for a.store.now c.end_version.new.self h a.row (follows a.from a.id (newborn h a.leaf a.row a.by a.cmd)) store c.in-Ok.ensures.cause
    (in_other c.end_version.new.self h a.from a.leaf a.id a.row a.by a.cmd c.requires.other (c.end_version.ensures.added (RowChange (RowBorn (newborn h a.leaf a.row a.by a.cmd)) ∷ h) txs (c.in-Ok.ensures.added h txs store)))

pub returns-in-Ok-clause-keeps : goal.returns-in-Ok-clause-keeps
returns-in-Ok-clause-keeps c =
    let a = c.args in
    keeps_both a.store.now c.put.new.self c.end_version.new.self (born_keeps a.store.now c.put.new.self (record { id = record { number = length a.store.now.stored }; leaf = a.leaf; row = a.row; by = a.by; cmd = a.cmd }) c.in-Ok.ensures.kept)
    (end_keeps c.put.new.self c.end_version.new.self a.id.number (record { by = a.by; cmd = a.cmd; how = MovedTo a.leaf }) c.end_version.ensures.kept)

pub returns-in-Err-clause-made : goal.returns-in-Err-clause-made
returns-in-Err-clause-made c h txs store =
    let a = c.args in
    not_made c.refused.result c.in-Err.back.cause a.store.now c.put.new.self h a.row (follows a.from a.id (newborn h a.leaf a.row a.by a.cmd)) c.refused.ensures c.in-Err.ensures.cause c.in-Err.ensures.err.1 store

pub returns-in-Err-clause-keeps : goal.returns-in-Err-clause-keeps
returns-in-Err-clause-keeps c = keeps_all c.args.store.now c.put.new.self c.in-Err.ensures.err.1
