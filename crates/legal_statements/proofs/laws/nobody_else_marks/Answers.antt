use Rattle.legal_statements.proofs.Marking.{nobody_else_marks}
use Rattle.legal_statements.proofs.laws.nobody_else_marks.Goals as goal

pub returns : goal.returns
returns c = nobody_else_marks
