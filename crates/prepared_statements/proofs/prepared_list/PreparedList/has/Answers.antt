use Rattle.std.proofs.Common.{sym, ◌∙◌}
use Rattle.prepared_statements.proofs.Listed.{any_seen}
use Rattle.prepared_statements.specs.Taken.{taken}
use Rattle.prepared_statements.proofs.prepared_list.PreparedList.has.Goals as goal

pub returns : goal.returns
returns c = c.has.ensures ∙ sym (any_seen c.args.name.now (taken c.args.self.now.statements.places.keys))
