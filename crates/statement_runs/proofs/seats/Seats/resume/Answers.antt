use Rattle.std.proofs.Common.{◌≡◌, ◌<◌, true, false, refl, ap, length, ◌∙◌, subst, slice_set, sym, IfSome}
use Rattle.stores.specs.Events.{resumed}
use Rattle.statement_runs.specs.Kept.{KeptSeats, Adds, AreSessions, due_in}
use Rattle.statement_runs.specs.Weight.{slack}
use Rattle.statement_runs.specs.contracts.seats.Seats.{the_view}
use Rattle.statement_runs.proofs.Lower.{due_is, resumed_lower}
use Rattle.statement_runs.proofs.Steps.{seats, kept_after, seated_after, resumed_adds, as_long, known_of}
use Rattle.statement_runs.proofs.seats.Seats.resume.Goals as goal

abbrev after : goal.After-self-2-1 → KeptSeats
after c = seats c.resume.new.self c.self.inside.opened.items c.self.inside.commands.items c.self.inside.cancelled.items c.self.inside.rests.items (slice_set c.self.inside.moved.items c.args.session false) c.leave.new.held.items c.ready-self-inside.result c.self.inside.whole

adds : (c : goal.After-self-2-1) → Adds (the_view c.self.inside) (after c) (λ h. resumed c.args.session)
adds c = resumed_adds (the_view c.self.inside) c.resume.new.self c.args.session c.leave.new.held.items c.ready-self-inside.result
    c.resume.ensures.good (ap (λ v. v.txs) c.resume.ensures.rest) (ap (λ v. v.rows) c.resume.ensures.rest) c.resume.ensures.idle c.resume.ensures.others c.leave.ensures.is c.ready-self-inside.ensures.is

pub invariant_of-self : goal.invariant_of-self
invariant_of-self c = kept_after (the_view c.self.inside) (after c) (λ h. resumed c.args.session) c.self.invariant
    (seated_after (the_view c.self.inside) c.resume.new.self _ _ _ _ _ _ _ _ c.self.invariant.seated refl refl refl refl (as_long _ _ _) c.resume.ensures.size
    (c.leave.ensures.known (length c.self.inside.opened.items) c.self.invariant.seated.queue)
    (known_of (length c.resume.new.self.locks.wants) c.ready-self-inside.result (length c.self.inside.opened.items) (c.resume.ensures.size.waits ∙ c.self.invariant.seated.waits) c.ready-self-inside.ensures.known))
    (adds c)

pub returns-clause-adds : goal.returns-clause-adds
returns-clause-adds c = subst (λ v. Adds v (after c) (λ h. resumed c.args.session)) c.self.view_is (adds c)

pub returns-clause-lower : goal.returns-clause-lower
returns-clause-lower c = subst (λ v. slack (after c) < slack v) c.self.view_is
    (resumed_lower (the_view c.self.inside) c.resume.new.self c.args.session c.leave.new.held.items c.ready-self-inside.result c.self.invariant
    (subst (λ v. due_in v c.args.session ≡ true) (sym c.self.view_is) c.requires.due)
    (subst (λ v. c.args.session < length v.opened) (sym c.self.view_is) c.requires.known)
    c.resume.ensures.good c.resume.ensures.size.tables (λ t m is. c.wanted.ensures.known t m (c.wanted.ensures.kept ∙ is)) (λ v is. subst (λ o. IfSome o AreSessions) (c.wanted.ensures.kept ∙ is) c.named_are_sessions.ensures))

pub resume-requires-clause-ready : goal.resume-requires-clause-ready
resume-requires-clause-ready c h stand =
    let due = due_is (the_view c.self.inside) c.args.session (subst (λ v. due_in v c.args.session ≡ true) (sym c.self.view_is) c.requires.due) in
    let sound = c.self.invariant.sound due.0 in
    sym (sound.1.ready h stand) ∙ due.1
