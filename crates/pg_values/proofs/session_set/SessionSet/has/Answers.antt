use Rattle.std.proofs.Common.{sym, ◌∙◌}
use Rattle.pg_values.proofs.Listing.{sessions_has}
use Rattle.pg_values.proofs.session_set.SessionSet.has.Goals as goal

pub returns-clause-listed : goal.returns-clause-listed
returns-clause-listed c = λ h. c.has_bit.ensures ∙ sym (sessions_has c.args.session c.args.self.now h)
