use Rattle.std.proofs.Common.{◌∙◌, sym, ap, map}
use Rattle.prepared_statements.specs.Kept.{listed}
use Rattle.statement_runs.specs.Database.{is_ready}
use Rattle.statement_runs.specs.Kept.{interrupted_in}
use Rattle.statement_runs.proofs.Cuts.{cut_resumes, wait_resumes, resume_lower}
use Rattle.statement_runs.proofs.Once.{same_rests}
use Rattle.statement_runs.proofs.executor.StoreExecutorExecutor.resume.Goals as goal

pub returns-then-is_ready-clause-stands : goal.returns-then-is_ready-clause-stands
returns-then-is_ready-clause-stands c = λ v stands.
    cut_resumes c.args.self.now.options c.args.self.now.seats (map listed c.args.self.now.prepared.items) c.args.self.now.cut.items c.leave.new.held.items c.args.self.now.tally v c.args.session
    (ap (λ xs. is_ready (interrupted_in c.args.self.now.seats xs) c.args.session) (sym c.deref.ensures.value) ∙ (ap (λ o. is_ready o c.args.session) (sym c.first_cancelled-first.ensures.is) ∙ (sym c.is_ready.ensures ∙ c.if-is_ready.true)))
    c.leave.ensures.is stands

pub returns-then-is_ready-clause-lowers : goal.returns-then-is_ready-clause-lowers
returns-then-is_ready-clause-lowers c =
    resume_lower c.args.self.now.seats c.args.self.now.cut.items c.leave.new.held.items c.args.session c.requires.known
    (ap (λ xs. is_ready (interrupted_in c.args.self.now.seats xs) c.args.session) (sym c.deref.ensures.value) ∙ (ap (λ o. is_ready o c.args.session) (sym c.first_cancelled-first.ensures.is) ∙ (sym c.is_ready.ensures ∙ c.if-is_ready.true)))
    c.leave.ensures.is

pub returns-clause-stands : goal.returns-clause-stands
returns-clause-stands c = λ v stands.
    wait_resumes c.args.self.now.options c.args.self.now.seats c.resume.new.self (map listed c.args.self.now.prepared.items) c.args.self.now.cut.items c.args.self.now.tally v c.args.session
    (ap (λ xs. is_ready (interrupted_in c.args.self.now.seats xs) c.args.session) (sym c.deref.ensures.value) ∙ (ap (λ o. is_ready o c.args.session) (sym c.first_cancelled-first.ensures.is) ∙ (sym c.is_ready.ensures ∙ c.if-is_ready.false)))
    c.resume.ensures.adds c.resume.ensures.opened c.resume.ensures.commands c.resume.ensures.cancelled c.resume.ensures.rests stands

pub returns-clause-committed : goal.returns-clause-committed
returns-clause-committed c = same_rests c.args.self.now.seats.rests c.resume.new.self.rests c.resume.ensures.rests
