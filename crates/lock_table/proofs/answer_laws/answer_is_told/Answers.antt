use Rattle.lock_table.proofs.AnswersTold.{answer_told, history_told, events_told}
use Rattle.lock_table.proofs.answer_laws.answer_is_told.Goals as goal

pub returns-clause-view : goal.returns-clause-view
returns-clause-view c h s w sound low is = answer_told c.args.answer.now h s w c.names_sessions.ensures sound low is

pub returns-clause-history : goal.returns-clause-history
returns-clause-history c h s w sound low is = history_told c.args.answer.now h s w c.names_sessions.ensures sound low is

pub returns-clause-events : goal.returns-clause-events
returns-clause-events c h s w sound low is = events_told c.args.answer.now h s w c.names_sessions.ensures sound low is
