use Rattle.row_router.proofs.Keys.{key_value}
use Rattle.row_router.proofs.level_key.LevelKeyKey.value.Goals as goal

pub returns : goal.returns
returns c = key_value c.args.self.now.row.now c.args.self.now.columns.now c.args.i _ c.value.result.now c.requires c.value.ensures
