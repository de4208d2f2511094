use Rattle.std.proofs.Common.{◌≡◌, List, ℕ, sym, ap, subst, ◌∙◌}
use Rattle.pg_values.specs.declared.session_set.SessionSet.{SessionSet}
use Rattle.history.specs.Locks.{holds_one_of}
use Rattle.history.specs.History.{lock_events}
use Rattle.lock_table.specs.Kept.{KeptLocks}
use Rattle.lock_table.specs.Stands.{TableStands, Tells}
use Rattle.lock_table.proofs.table.LockTable.holders.Goals as goal

pub returns : goal.returns
returns c h st y =
    let S : KeptLocks → Type 0 = λ k. TableStands k h in
    let told = (subst S (sym c.self.view_is) st).tells in
    let T : List SessionSet → Type 0 = λ l. Tells l c.self.inside.wants.items c.self.inside.queue.items (lock_events h) in
    c.holding.ensures (lock_events h) c.self.inside.wants.items c.self.inside.queue.items (subst T (sym c.deref.ensures.value) told) y ∙ ap (holds_one_of (lock_events h) y c.args.table.number) c.every.ensures
