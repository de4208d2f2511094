use Rattle.std.proofs.Common.{sym, ap, ◌∙◌}
use Rattle.sessions.proofs.Answered.{refused_by}
use Rattle.sessions.proofs.Whole.{transactions_stay, begins_block, begins_broken, block_points, broken_points, weight_of_block}
use Rattle.sessions.proofs.database.SessionsDatabase.begin.Goals as goal

pub invariant_of-self-clause-alike : goal.invariant_of-self-clause-alike
invariant_of-self-clause-alike g c =
    c.args.self.now.alike ∙ sym (transactions_stay c.args.self.now.sessions.items c.args.session c.index_mut.result.now c.take_block.new.self c.index_mut.ensures.value (ap (λ z. z.phase) c.take_block.ensures))

pub invariant_of-self-in-Err-Sql-clause-alike : goal.invariant_of-self-in-Err-Sql-clause-alike
invariant_of-self-in-Err-Sql-clause-alike g c =
    c.args.self.now.alike ∙ sym (transactions_stay c.args.self.now.sessions.items c.args.session c.index_mut-in-Err-Sql.result.now c.take_broken.new.self c.index_mut-in-Err-Sql.ensures.value (ap (λ z. z.phase) c.take_broken.ensures))

pub returns-in-Ok-clause-stands : goal.returns-in-Ok-clause-stands
returns-in-Ok-clause-stands g c v st =
    begins_block g.E.Executor.stands g.E.Executor.tree _ _ _ _ _ v _ _ _ c.requires.known c.index_mut.ensures.value c.take_block.ensures c.in-Ok.ensures.is st

pub returns-in-Ok-clause-weight : goal.returns-in-Ok-clause-weight
returns-in-Ok-clause-weight g c =
    weight_of_block _ _ _ g.E.Executor.tree (g.E.Executor.has_committed c.args.self.now.executor) _ _ _ _ c.requires.known c.index_mut.ensures.value (block_points c.index_mut.result.now _ _ _ _ c.take_block.ensures c.in-Ok.ensures.few)

pub returns-in-Err-Sql-clause-stands : goal.returns-in-Err-Sql-clause-stands
returns-in-Err-Sql-clause-stands g c v st =
    begins_broken g.E.Executor.stands g.E.Executor.tree _ _ _ _ _ v _ _ _ c.requires.known c.index_mut-in-Err-Sql.ensures.value c.take_broken.ensures (refused_by _ _ _ c.in-Err-Sql.field-0-is c.in-Err-Sql.ensures.is) st

pub returns-in-Err-Sql-clause-weight : goal.returns-in-Err-Sql-clause-weight
returns-in-Err-Sql-clause-weight g c =
    weight_of_block _ _ _ g.E.Executor.tree (g.E.Executor.has_committed c.args.self.now.executor) _ _ _ _ c.requires.known c.index_mut-in-Err-Sql.ensures.value (broken_points c.index_mut-in-Err-Sql.result.now _ _ _ g.E.Executor.most_statements c.take_broken.ensures)
