use Rattle.std.proofs.Common.{◌≡◌, List, Option, ℕ, sym, ap, subst, ◌∙◌}
use Rattle.history.specs.Locks.{LockEvents}
use Rattle.history.specs.Waits.{waits_for}
use Rattle.lock_table.specs.Graph.{edge}
use Rattle.lock_table.specs.Kept.{KeptLocks}
use Rattle.lock_table.specs.Stands.{Tells}
use Rattle.lock_table.proofs.Told.{tells_at, found_told, none_told}
use Rattle.lock_table.proofs.table.LockTable.cycle_through.Goals as goal

pub returns-clause-found : goal.returns-clause-found
returns-clause-found c =
    found_told c.least_cycle.result c.rows_of-rows.result c.args.session c.args.self.now.held c.args.self.now.wants c.args.self.now.queue
    (λ h told. c.rows_of-rows.ensures.is h (tells_at _ _ _ _ _ _ h (c.deref.ensures.value ∙ ap (λ (k : KeptLocks). k.held) c.self.view_is) (c.deref-2.ensures.value ∙ ap (λ (k : KeptLocks). k.wants) c.self.view_is) (c.deref-3.ensures.value ∙ ap (λ (k : KeptLocks). k.queue) c.self.view_is) told))
    c.least_cycle.ensures.found

pub returns-clause-none : goal.returns-clause-none
returns-clause-none c none h told =
    none_told c.rows_of-rows.result c.args.session h
    (c.rows_of-rows.ensures.is h (tells_at _ _ _ _ _ _ h (c.deref.ensures.value ∙ ap (λ (k : KeptLocks). k.held) c.self.view_is) (c.deref-2.ensures.value ∙ ap (λ (k : KeptLocks). k.wants) c.self.view_is) (c.deref-3.ensures.value ∙ ap (λ (k : KeptLocks). k.queue) c.self.view_is) told))
    (c.least_cycle.ensures.none none)
