use Rattle.table_binder.proofs.ListedLaws.{put_once}
use Rattle.table_binder.proofs.raw_value.add_once.Goals as goal

pub returns : goal.returns
returns c = put_once c.args.once.now.keys _ _ c.in_ok-_is_new.ensures.keys
