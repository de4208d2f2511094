use Rattle.std.proofs.Common.{sym, ◌∙◌}
use Rattle.prepared_statements.specs.Taken.{taken}
use Rattle.prepared_statements.proofs.Emptied.{any_taken, none_removed, emptied}
use Rattle.prepared_statements.proofs.places.Places.remove.Goals as goal

pub returns-in_default-clause-found : goal.returns-in_default-clause-found
returns-in_default-clause-found c = c.in_default.ensures.found ∙ any_taken c.args.name.now c.args.self.now.places.keys

pub returns-in_default-clause-left : goal.returns-in_default-clause-left
returns-in_default-clause-left c =
    none_removed c.args.name.now (taken c.args.self.now.places.keys) (sym (c.in_default.ensures.found ∙ any_taken c.args.name.now c.args.self.now.places.keys))

pub invariant_of-self-2 : goal.invariant_of-self-2
invariant_of-self-2 c = record {
  numbered = (emptied c.args.name.now c.in-Some.number c.args.self.now.places.keys c.insert.new.self.keys c.swap_remove_index-statement.new.self.keys c.swap_remove_index-statement.result
      c.in-Some.ensures.index c.in-Some.ensures.within c.args.self.now.numbered c.in_ok-_is_new.ensures.keys c.swap_remove_index-statement.ensures.key c.swap_remove_index-statement.ensures.keys).1;
}

pub returns-clause-found : goal.returns-clause-found
returns-clause-found c = c.in-Some.ensures.found ∙ any_taken c.args.name.now c.args.self.now.places.keys

pub returns-clause-left : goal.returns-clause-left
returns-clause-left c =
    (emptied c.args.name.now c.in-Some.number c.args.self.now.places.keys c.insert.new.self.keys c.swap_remove_index-statement.new.self.keys c.swap_remove_index-statement.result
    c.in-Some.ensures.index c.in-Some.ensures.within c.args.self.now.numbered c.in_ok-_is_new.ensures.keys c.swap_remove_index-statement.ensures.key c.swap_remove_index-statement.ensures.keys).0
