use Rattle.std.proofs.Common.{◌≡◌, ◌<◌, length, slice_index_or, None, ap, subst, sym, ◌∙◌}
use Rattle.history.specs.History.{lock_events}
use Rattle.history.specs.Locks.{is_lock}
use Rattle.lock_table.specs.Stands.{over}
use Rattle.lock_table.proofs.Tables.{resumed_stands}
use Rattle.lock_table.proofs.table.LockTable.resume.Goals as goal

pub returns-clause-added : goal.returns-clause-added
returns-clause-added c h st =
    rw (c.end_wait.ensures, c.give.ensures.same)
    (resumed_stands c.args.self.now c.give.new.self.held (lock_events h) c.args.session c.requires.session (c.requires.ready h st)
    (λ x t m. rw (← c.wanted-want.ensures.kept) (c.give.ensures.holds x t m)) st)
