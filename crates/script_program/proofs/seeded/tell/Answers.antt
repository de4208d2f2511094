use Rattle.std.proofs.Common.{◌≡◌, [], inl, inr, refl, ap, sym, subst}
use Rattle.schedule.specs.declared.run_end.RunEnd.{RunEnd}
use Rattle.schedule.specs.declared.run_end.RunEnd.TheVariants as ends
use Rattle.script_program.specs.Outcomes.{Outcome, AtOnce, Ends, Stopped}
use Rattle.script_program.specs.Seeded.{told_of}
use Rattle.script_program.proofs.Endings.{always, nothing, nothing_of, refused, told_on_out}
use Rattle.script_program.proofs.seeded.tell.Goals as goal

pub returns-in-Ok : goal.returns-in-Ok
returns-in-Ok g c =
    let o = told_of g.D.Database.rules c.args.script.now c.args.seed c.args.counts c.args.tally ends.All in
    rw c.in-All.is
    (told_on_out g.K.Sink g.E.Sink (λ x. x ≡ o) (AtOnce (λ x. x ≡ o)) _ _ _ _ _ o refl (inr (o, refl, refl)) refl refl
    (rw c.in-Ok.ensures at (rw c.deref.ensures.value at c.answer.ensures)) (nothing g.E.Sink _))

pub returns-in-Err : goal.returns-in-Err
returns-in-Err g c = Stopped [] (inl refl) refl (nothing_of g.K.Sink _ []) (nothing g.E.Sink _)

pub returns-in-SetupFailed : goal.returns-in-SetupFailed
returns-in-SetupFailed g c =
    let o = told_of g.D.Database.rules c.args.script.now c.args.seed c.args.counts c.args.tally (ends.SetupFailed c.in-SetupFailed.session c.in-SetupFailed.fault) in
    rw c.in-SetupFailed.is
    (refused g.K.Sink g.E.Sink (λ x. x ≡ o) (AtOnce (λ x. x ≡ o)) _ _ _ _ _ c.setup_line.result (λ line. line.items) o (always c.setup_line.result _ refl) (inl refl) refl (nothing g.K.Sink _)
    (rw c.as_slice-sessions.ensures at c.setup_line.ensures) c.refuse.ensures)

pub returns-in-TeardownFailed : goal.returns-in-TeardownFailed
returns-in-TeardownFailed g c =
    let o = told_of g.D.Database.rules c.args.script.now c.args.seed c.args.counts c.args.tally (ends.TeardownFailed c.in-TeardownFailed.fault) in
    rw c.in-TeardownFailed.is
    (refused g.K.Sink g.E.Sink (λ x. x ≡ o) (AtOnce (λ x. x ≡ o)) _ _ _ _ _ c.teardown_line.result (λ line. line.items) o (always c.teardown_line.result _ refl) (inl refl) refl (nothing g.K.Sink _)
    c.teardown_line.ensures c.refuse-in-TeardownFailed.ensures)
