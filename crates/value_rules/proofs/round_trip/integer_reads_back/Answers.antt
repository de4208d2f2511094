use Rattle.value_rules.proofs.RoundTrip.{reads-integer}
use Rattle.value_rules.proofs.round_trip.integer_reads_back.Goals as goal

pub returns : goal.returns
returns c = reads-integer c.args.n c.ranges.n
