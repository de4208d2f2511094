use Rattle.change_statement.proofs.Started.{put_apart}
use Rattle.change_statement.proofs.gathering.put_apart.Goals as goal

pub returns : goal.returns
returns c = put_apart c.args.how c.args.params.now c.apart.result.now c.args.ask c.put_change_values.result c.apart.ensures c.put_change_values.ensures.values c.put_change_values.ensures.same
