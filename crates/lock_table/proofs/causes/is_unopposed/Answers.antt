use Rattle.std.proofs.Common.{◌≡◌, ◌==◌, true, [], sym, ◌∙◌, subst, length}
use Rattle.history.specs.Locks.{holds_against, queue}
use Rattle.lock_table.proofs.Queues.{no_length, nobody_stands}
use Rattle.lock_table.proofs.causes.is_unopposed.Goals as goal

pub returns-then-is_empty-clause-is : goal.returns-then-is_empty-clause-is
returns-then-is_empty-clause-is c h ws told =
    let idle : (length (queue h) == 0) ≡ true = subst (λ q. (length q == 0) ≡ true) told.queue (sym c.is_empty.ensures ∙ c.if-is_empty.true) in
    rw idle (c.is_empty-then-is_empty.ensures.is (λ y. holds_against h y c.args.table c.args.mode) (c.against.ensures h ws c.args.queue.now told))

pub returns-then-is_empty-clause-none : goal.returns-then-is_empty-clause-none
returns-then-is_empty-clause-none c t h ws told x y =
    let idle : queue h ≡ [] = no_length (queue h) (subst (λ q. (length q == 0) ≡ true) told.queue (sym c.is_empty.ensures ∙ c.if-is_empty.true)) in
    nobody_stands h x c.args.table y c.args.mode idle (sym (c.against.ensures h ws c.args.queue.now told y) ∙ c.is_empty-then-is_empty.ensures.none t y)
