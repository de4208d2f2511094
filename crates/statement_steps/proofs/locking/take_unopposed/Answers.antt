use Rattle.std.proofs.Common.{◌≡◌, ap, ◌∙◌, slice_index_or, None}
use Rattle.history.specs.declared.wait.Wanted.TheVariants.{Lock}
use Rattle.lock_table.specs.declared.asked.Asked.TheVariants.{Granted}
use Rattle.lock_table.proofs.AnswersTold.{answer_told, history_told}
use Rattle.statement_steps.proofs.Parts.{has_asked, known_in, granted_step}
use Rattle.statement_steps.proofs.locking.take_unopposed.Goals as goal

pub returns-clause-step : goal.returns-clause-step
returns-clause-step c taken names =
    granted_step names c.args.stores.now c.take_unopposed.new.self c.args.caller (Lock c.args.table c.args.mode) None c.requires.may
    (has_asked c.args.stores.now c.take_unopposed.new.self c.args.caller (Lock c.args.table c.args.mode) Granted c.requires.may
    (λ h stands. c.take_unopposed.ensures.good taken h stands (known_in c.args.stores.now h c.args.caller.session c.args.table.number stands c.requires.there))
    (c.take_unopposed.ensures.answer taken) (λ h s w sound low is. answer_told Granted h s w tt sound low is) (λ h s w sound low is. history_told Granted h s w tt sound low is)
    (ap (λ ws. slice_index_or ws c.args.caller.session None) c.take_unopposed.ensures.waits ∙ c.requires.may.idle)
    (λ s other. ap (λ ws. slice_index_or ws s None) c.take_unopposed.ensures.waits)
    c.take_unopposed.ensures.size c.take_unopposed.ensures.rest)
