use Rattle.std.proofs.Common.{◌<◌, true, refl, ap, length, subst, slice_set, sym}
use Rattle.stores.specs.Events.{begun}
use Rattle.stores.proofs.Commands.{begins_at_zero}
use Rattle.statement_runs.specs.Kept.{KeptSeats, Adds}
use Rattle.statement_runs.specs.contracts.seats.Seats.{the_view}
use Rattle.statement_runs.proofs.Steps.{seats, kept_after, seated_after, begun_adds, as_long}
use Rattle.statement_runs.proofs.seats.Seats.begin.Goals as goal

abbrev after : goal.After-self-2-1 → KeptSeats
after c = seats c.begin.new.self (slice_set c.self.inside.opened.items c.args.session true) (slice_set c.self.inside.commands.items c.args.session 0) c.self.inside.cancelled.items c.self.inside.rests.items c.self.inside.moved.items c.self.inside.queue.items c.self.inside.ready c.self.inside.whole

adds : (c : goal.After-self-2-1) → Adds (the_view c.self.inside) (after c) (λ h. begun h c.args.session)
adds c = begun_adds (the_view c.self.inside) c.begin.new.self c.args.session c.in_ok-begin.field-0.number c.self.invariant.seated
    (subst (λ v. c.args.session < length v.opened) (sym c.self.view_is) c.requires.known)
    (λ h good. begins_at_zero h c.args.session good)
    c.in_ok-begin.ensures.good (ap (λ v. v.locks) c.in_ok-begin.ensures.rest) (ap (λ v. v.rows) c.in_ok-begin.ensures.rest) c.in_ok-begin.ensures.open

pub invariant_of-self-2 : goal.invariant_of-self-2
invariant_of-self-2 c = kept_after (the_view c.self.inside) (after c) (λ h. begun h c.args.session) c.self.invariant
    (seated_after (the_view c.self.inside) c.begin.new.self _ _ _ _ _ _ _ _ c.self.invariant.seated (as_long _ _ _) (as_long _ _ _) refl refl refl c.in_ok-begin.ensures.size c.self.invariant.seated.queue c.self.invariant.seated.ready)
    (adds c)

pub returns-clause-adds : goal.returns-clause-adds
returns-clause-adds c = subst (λ v. Adds v (after c) (λ h. begun h c.args.session)) c.self.view_is (adds c)
