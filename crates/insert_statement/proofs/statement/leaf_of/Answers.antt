use Rattle.std.proofs.Common.{sym, ap, ◌∙◌}
use Rattle.history.specs.declared.catalogue.Table.{Table}
use Rattle.insert_statement.proofs.statement.leaf_of.Goals as goal

pub returns-in-Level-clause-level : goal.returns-in-Level-clause-level
returns-in-Level-clause-level c = λ none h stands. (c.in-Level.field-0, ap (λ (t : Table). t.shape) (sym (c.table.ensures h stands)) ∙ c.in-Level.is)
