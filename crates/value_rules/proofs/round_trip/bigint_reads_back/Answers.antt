use Rattle.value_rules.proofs.RoundTrip.{reads-bigint}
use Rattle.value_rules.proofs.round_trip.bigint_reads_back.Goals as goal

pub returns : goal.returns
returns c = reads-bigint c.args.n c.ranges.n
