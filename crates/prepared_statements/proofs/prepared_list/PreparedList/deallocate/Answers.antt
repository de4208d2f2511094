use Rattle.std.proofs.Common.{Err, sym, ap, ◌∙◌}
use Rattle.prepared_statements.specs.Taken.{taken}
use Rattle.prepared_statements.proofs.Listed.{is_deallocated, not_deallocated}
use Rattle.prepared_statements.proofs.prepared_list.PreparedList.deallocate.Goals as goal

pub returns-then-branch-clause-answer : goal.returns-then-branch-clause-answer
returns-then-branch-clause-answer c =
    is_deallocated c.args.name.now (taken c.args.self.now.statements.places.keys) (taken c.remove.new.self.places.keys) (sym c.if-branch.true ∙ c.in_ok-remove.ensures.found) c.in_ok-remove.ensures.left

pub returns-clause-answer : goal.returns-clause-answer
returns-clause-answer c =
    not_deallocated c.args.name.now (taken c.args.self.now.statements.places.keys) (sym c.if-branch.false ∙ c.in_ok-remove.ensures.found)
    ∙ ap Err (sym c.in_ok-no_prepared_statement.ensures)
