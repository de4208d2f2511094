use Rattle.prune_steps.proofs.KeepLaws.{list_asked}
use Rattle.prune_steps.proofs.keeping.keep_by_value.Goals as goal

pub keep_listed-requires-clause-level : goal.keep_listed-requires-clause-level
keep_listed-requires-clause-level g c = (list_asked c.args.asking.now.level.now c.args.j c.args.value.now c.args.set.now c.requires.by_list c.requires.level c.requires.fits).lists

pub keep_listed-requires-clause-fits : goal.keep_listed-requires-clause-fits
keep_listed-requires-clause-fits g c = (list_asked c.args.asking.now.level.now c.args.j c.args.value.now c.args.set.now c.requires.by_list c.requires.level c.requires.fits).value
