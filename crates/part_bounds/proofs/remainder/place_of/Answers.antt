use Rattle.std.proofs.Common.{rules}
use Rattle.std.proofs.lemmas.List.Sorted.{IsPartitionPoint-from_clause}
use Rattle.part_bounds.specs.Remainders.{stands_before}
use Rattle.part_bounds.proofs.RemainderLaws.{before_falls, point_splits}
use Rattle.part_bounds.proofs.remainder.place_of.Goals as goal

pub returns : goal.returns
returns c =
    point_splits (stands_before c.args.modulus c.args.remainder) c.args.bounds.now c.partition_point.result c.partition_point.ensures.bound
    (IsPartitionPoint-from_clause (stands_before c.args.modulus c.args.remainder) c.args.bounds.now c.partition_point.result c.partition_point.ensures.partitioned
    (before_falls c.args.bounds.now c.args.modulus c.args.remainder c.requires.hashes c.requires.ordered) (λ a r f k. search rules))
