use Rattle.std.proofs.Common.{◌≡◌, ◌<◌, ℕ, true, false, refl, ap, length, ◌∙◌, subst, slice_set, sym}
use Rattle.stores.specs.Events.{withdrawn}
use Rattle.statement_runs.specs.Kept.{KeptSeats, Adds, waits_in}
use Rattle.statement_runs.specs.Weight.{slack}
use Rattle.statement_runs.specs.contracts.seats.Seats.{the_view}
use Rattle.statement_runs.proofs.Cuts.{withdrawn_idle}
use Rattle.statement_runs.proofs.Lower.{withdrawn_lower}
use Rattle.statement_runs.proofs.Steps.{seats, kept_after, seated_after, withdrawn_adds, as_long, known_of}
use Rattle.statement_runs.proofs.seats.Seats.cancel.Goals as goal

abbrev after : goal.After-self-2-1 → KeptSeats
after c = seats c.withdraw.new.self c.self.inside.opened.items c.self.inside.commands.items (slice_set c.self.inside.cancelled.items c.args.session true) c.self.inside.rests.items c.self.inside.moved.items c.leave.new.held.items c.ready-self-inside.result c.self.inside.whole

adds : (c : goal.After-self-2-1) → Adds (the_view c.self.inside) (after c) (λ h. withdrawn c.args.session)
adds c = withdrawn_adds (the_view c.self.inside) c.withdraw.new.self c.args.session c.leave.new.held.items c.ready-self-inside.result
    c.withdraw.ensures.good (ap (λ v. v.txs) c.withdraw.ensures.rest) (ap (λ v. v.rows) c.withdraw.ensures.rest) c.withdraw.ensures.idle c.withdraw.ensures.others c.leave.ensures.is c.ready-self-inside.ensures.is

pub invariant_of-self : goal.invariant_of-self
invariant_of-self c = kept_after (the_view c.self.inside) (after c) (λ h. withdrawn c.args.session) c.self.invariant
    (seated_after (the_view c.self.inside) c.withdraw.new.self _ _ _ _ _ _ _ _ c.self.invariant.seated refl refl (as_long _ _ _) refl refl c.withdraw.ensures.size
    (c.leave.ensures.known (length c.self.inside.opened.items) c.self.invariant.seated.queue)
    (known_of (length c.withdraw.new.self.locks.wants) c.ready-self-inside.result (length c.self.inside.opened.items) (c.withdraw.ensures.size.waits ∙ c.self.invariant.seated.waits) c.ready-self-inside.ensures.known))
    (adds c)

pub returns-clause-adds : goal.returns-clause-adds
returns-clause-adds c = subst (λ v. Adds v (after c) (λ h. withdrawn c.args.session)) c.self.view_is (adds c)

pub returns-clause-lower : goal.returns-clause-lower
returns-clause-lower c = subst (λ v. slack (after c) < slack v) c.self.view_is
    (withdrawn_lower (the_view c.self.inside) c.withdraw.new.self c.args.session c.leave.new.held.items c.ready-self-inside.result c.self.invariant
    (subst (λ v. waits_in v c.args.session ≡ true) (sym c.self.view_is) c.requires.waiting)
    (subst (λ v. c.args.session < length v.opened) (sym c.self.view_is) c.requires.known)
    c.withdraw.ensures.good c.withdraw.ensures.size.tables)

pub returns-clause-others : goal.returns-clause-others
returns-clause-others c = subst (λ v. (s : ℕ) → waits_in v s ≡ false → waits_in (after c) s ≡ false) c.self.view_is
    (λ r is. withdrawn_idle c.self.inside.whole c.self.inside.stores.locks.wants c.withdraw.new.self.locks.wants c.args.session r c.withdraw.ensures.idle c.withdraw.ensures.others is)
