use Rattle.prune_steps.proofs.AskLaws.{asks_hash}
use Rattle.prune_steps.proofs.KeepLaws.{set_met}
use Rattle.prune_steps.proofs.keeping.meet_accepting.Goals as goal

pub keep_key-requires-clause-level : goal.keep_key-requires-clause-level
keep_key-requires-clause-level g c = asks_hash c.args.asking.now.level.now c.args.set.now _ c.requires.by_hash c.requires.level

pub returns-clause-kept : goal.returns-clause-kept
returns-clause-kept g c = set_met _ _ c.keep_key.new.kept c.meet.new.self _ c.requires.small c.keep_key.ensures.kept c.meet.ensures
