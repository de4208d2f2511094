use Rattle.std.proofs.Common.{◌<◌, false, refl, ap, length, ◌∙◌, subst, slice_set, sym}
use Rattle.std.specs.Vec.{with_items}
use Rattle.history.specs.Transactions.{TxAborted}
use Rattle.history.specs.History.{tx_events}
use Rattle.stores.specs.Events.{tx_in, aborted}
use Rattle.statement_runs.specs.Kept.{KeptSeats, Adds}
use Rattle.statement_runs.specs.contracts.seats.Seats.{the_view}
use Rattle.statement_steps.proofs.Numbers.{ends_abort}
use Rattle.statement_runs.proofs.Steps.{seats, kept_after, seated_after, ended_adds, as_long, all_set, all_marked, known_of}
use Rattle.statement_runs.proofs.seats.Seats.abort.Goals as goal

abbrev after : goal.After-self-3-1 → KeptSeats
after c = seats c.abort.new.self (slice_set c.self.inside.opened.items c.args.session false) c.self.inside.commands.items c.self.inside.cancelled.items c.self.inside.rests.items (with_items c.self.inside.moved c.mark_all.new.flags).items c.leave.new.held.items c.ready-self-inside.result c.self.inside.whole

adds : (c : goal.After-self-3-1) → Adds (the_view c.self.inside) (after c) (λ h. aborted h c.args.session)
adds c = ended_adds (the_view c.self.inside) c.abort.new.self c.args.session (λ h. TxAborted c.args.session (tx_in h c.args.session)) (with_items c.self.inside.moved c.mark_all.new.flags).items c.leave.new.held.items c.ready-self-inside.result c.self.invariant.seated
    (subst (λ v. c.args.session < length v.opened) (sym c.self.view_is) c.requires.known)
    (λ h r. ends_abort (tx_events h) c.args.session (tx_in h c.args.session) r)
    c.abort.ensures.good c.abort.ensures.open (ap (λ v. v.rows) c.abort.ensures.rest) c.abort.ensures.size (all_set c.self.inside.moved c.mark_all.new.flags c.deref_mut.result.now c.mark_all.ensures c.deref_mut.ensures.value) c.leave.ensures.is c.ready-self-inside.ensures.is

pub invariant_of-self-2 : goal.invariant_of-self-2
invariant_of-self-2 c = kept_after (the_view c.self.inside) (after c) (λ h. aborted h c.args.session) c.self.invariant
    (seated_after (the_view c.self.inside) c.abort.new.self _ _ _ _ _ _ _ _ c.self.invariant.seated (as_long _ _ _) refl refl refl (all_marked c.self.inside.moved.items (with_items c.self.inside.moved c.mark_all.new.flags).items (all_set c.self.inside.moved c.mark_all.new.flags c.deref_mut.result.now c.mark_all.ensures c.deref_mut.ensures.value)) c.abort.ensures.size
    (c.leave.ensures.known (length c.self.inside.opened.items) c.self.invariant.seated.queue)
    (known_of (length c.abort.new.self.locks.wants) c.ready-self-inside.result (length c.self.inside.opened.items) (c.abort.ensures.size.waits ∙ c.self.invariant.seated.waits) c.ready-self-inside.ensures.known))
    (adds c)

pub returns-clause-adds : goal.returns-clause-adds
returns-clause-adds c = subst (λ v. Adds v (after c) (λ h. aborted h c.args.session)) c.self.view_is (adds c)
