use Rattle.std.proofs.Common.{map, ap, ◌∙◌}
use Rattle.prepared_statements.specs.Kept.{seen}
use Rattle.prepared_statements.specs.Taken.{taken}
use Rattle.prepared_statements.proofs.Listed.{more_seen}
use Rattle.prepared_statements.proofs.prepared_list.PreparedList.add.Goals as goal

pub returns-clause-added : goal.returns-clause-added
returns-clause-added c = ap (map seen) c.in_ok-add.ensures.added ∙ more_seen c.args.statement (taken c.args.self.now.statements.places.keys)
