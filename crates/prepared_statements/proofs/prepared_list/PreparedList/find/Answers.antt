use Rattle.std.proofs.Common.{Err, sym, ap, ◌∙◌}
use Rattle.prepared_statements.specs.Taken.{taken}
use Rattle.prepared_statements.proofs.Listed.{is_found, not_found}
use Rattle.prepared_statements.proofs.prepared_list.PreparedList.find.Goals as goal

pub returns-in-Some : goal.returns-in-Some
returns-in-Some c = is_found c.args.name.now (taken c.args.self.now.statements.places.keys) c.in-Some.statement.now c.in-Some.ensures

pub returns-in_ok-no_prepared_statement-in-None : goal.returns-in_ok-no_prepared_statement-in-None
returns-in_ok-no_prepared_statement-in-None c = not_found c.args.name.now (taken c.args.self.now.statements.places.keys) c.in-None.ensures ∙ ap Err (sym c.in_ok-no_prepared_statement-in-None.ensures)
