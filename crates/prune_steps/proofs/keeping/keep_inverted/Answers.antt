use Rattle.prune_steps.proofs.KeepLaws.{inverted_kept}
use Rattle.prune_steps.proofs.keeping.keep_inverted.Goals as goal

pub returns-in-IsNull : goal.returns-in-IsNull
returns-in-IsNull g c = inverted_kept c.args.asking.now c.args.set.now c.args.inner.now c.in-IsNull.x c.known_key_of-key.result c.keep_values.new.kept c.in-IsNull.is c.known_key_of-key.ensures c.keep_values.ensures
