use Rattle.std.proofs.Common.{ap, ◌∙◌, refl}
use Rattle.lock_table.specs.Kept.{KeptLocks}
use Rattle.lock_table.proofs.Told.{tells_at}
use Rattle.lock_table.proofs.table.LockTable.is_unopposed.Goals as goal

pub returns-clause-is : goal.returns-clause-is
returns-clause-is c h told =
    c.is_unopposed.ensures.is h c.args.self.now.wants (tells_at _ _ _ _ _ _ h (c.deref.ensures.value ∙ ap (λ (k : KeptLocks). k.held) c.self.view_is) refl (c.deref-2.ensures.value ∙ ap (λ (k : KeptLocks). k.queue) c.self.view_is) told)

pub returns-clause-none : goal.returns-clause-none
returns-clause-none c t h told =
    c.is_unopposed.ensures.none t h c.args.self.now.wants (tells_at _ _ _ _ _ _ h (c.deref.ensures.value ∙ ap (λ (k : KeptLocks). k.held) c.self.view_is) refl (c.deref-2.ensures.value ∙ ap (λ (k : KeptLocks). k.queue) c.self.view_is) told)
