use Rattle.std.proofs.Common.{List, [], ◌∷◌, ◌++◌, if◌then◌else◌, ap, ◌∙◌}
use Rattle.std.specs.List.{list_any}
use Rattle.prepared_statements.specs.declared.prepared_statement.PreparedStatement.{PreparedStatement}
use Rattle.prepared_statements.specs.Names.{has_name}
use Rattle.prepared_statements.specs.Taken.{taken}
use Rattle.prepared_statements.proofs.Emptied.{taken_more, numbered_added}
use Rattle.prepared_statements.proofs.places.Places.add.Goals as goal

pub invariant_of-self : goal.invariant_of-self
invariant_of-self c = record {
  numbered = numbered_added c.insert.result c.args.statement c.take_out_empty.new.self.places.keys c.insert.new.self.keys c.insert.ensures.keys c.insert.ensures.err c.take_out_empty.new.self.numbered;
}

pub returns-clause-added : goal.returns-clause-added
returns-clause-added c =
    ap taken c.in_ok-_is_new.ensures.keys
    ∙ taken_more c.args.statement c.take_out_empty.new.self.places.keys
    ∙ ap (λ (l : List PreparedStatement). if list_any (has_name c.args.statement.name) l then l else l ++ c.args.statement ∷ []) c.take_out_empty.ensures
