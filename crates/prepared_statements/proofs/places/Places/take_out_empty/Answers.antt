use Rattle.std.proofs.Common.{rules, ap, ◌∙◌}
use Rattle.std.proofs.lemmas.Fn.{filter_same}
use Rattle.prepared_statements.specs.Taken.{is_taken, taken, are_numbered}
use Rattle.prepared_statements.proofs.Emptied.{all_taken, all_numbered}
use Rattle.prepared_statements.proofs.places.Places.take_out_empty.Goals as goal

pub invariant_of-self : goal.invariant_of-self
invariant_of-self c = record {
  numbered = ap (are_numbered 0) (filter_same _ is_taken _ (λ x b f' k. search rules) _ _ c.retain.ensures.filtered) ∙ all_numbered 0 c.args.self.now.places.keys;
}

pub returns : goal.returns
returns c = ap taken (filter_same _ is_taken _ (λ x b f' k. search rules) _ _ c.retain.ensures.filtered) ∙ all_taken c.args.self.now.places.keys
