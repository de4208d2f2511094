use Rattle.std.proofs.Common.{sym, ◌∙◌}
use Rattle.std.proofs.lemmas.Result.{on_ok_weaker}
use Rattle.table_statements.proofs.Dropping.{DropLaws, may_drop, goes}
use Rattle.table_statements.proofs.drops.drop_one.Goals as goal

pub drop_table-requires-clause-free : goal.drop_table-requires-clause-free
drop_table-requires-clause-free c =
    let laws : DropLaws = record { named = c.named_is_there.ensures; whole = c.tree_is_whole.ensures; follow = c.table_drop_may_follow.ensures; go = c.locked_tables_may_go.ensures } in
    may_drop laws c.args.stores.now c.args.attempt.now.caller c.args.table.number c.args.by c.requires
    (sym (c.is_left.ensures c.requires.h c.requires.stands.all.txs c.requires.stands.all.catalog) ∙ c.if-not-is_left.false)

pub returns-clause-ok : goal.returns-clause-ok
returns-clause-ok c =
    let laws : DropLaws = record { named = c.named_is_there.ensures; whole = c.tree_is_whole.ensures; follow = c.table_drop_may_follow.ensures; go = c.locked_tables_may_go.ensures } in
    on_ok_weaker c.drop_table.result (goes laws c.args.stores.now c.drop_table.new.catalog c.args.attempt.now.caller c.args.table.number c.args.by c.is_left.result c.is_left.ensures c.if-not-is_left.false) c.drop_table.ensures.ok
