use Rattle.std.proofs.Common.{Some, option_copied, sym, ap, ◌∙◌}
use Rattle.prepared_statements.proofs.Emptied.{statement_at, find_taken}
use Rattle.prepared_statements.proofs.places.Places.find.Goals as goal

pub returns-in_err-statement : goal.returns-in_err-statement
returns-in_err-statement c = ap option_copied c.from_residual.ensures ∙ (ap statement_at c.in_err-statement.ensures.key ∙ sym (find_taken c.args.name.now c.args.self.now.places.keys))

pub returns-in-Taken : goal.returns-in-Taken
returns-in-Taken c = ap statement_at (ap Some (sym c.in-Taken.is) ∙ c.in_ok-statement.ensures.key) ∙ sym (find_taken c.args.name.now c.args.self.now.places.keys)

pub returns-in-Empty : goal.returns-in-Empty
returns-in-Empty c = ap statement_at (ap Some (sym c.in-Empty.is) ∙ c.in_ok-statement.ensures.key) ∙ sym (find_taken c.args.name.now c.args.self.now.places.keys)
