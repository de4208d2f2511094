use Rattle.statement_steps.proofs.Steps.{handed_on}
use Rattle.table_statements.proofs.Placing.{PartitionLaws, may_make, partition_step, partition_not_made}
use Rattle.table_statements.proofs.partitions.make_placed.Goals as goal

pub make_partition-requires : goal.make_partition-requires
make_partition-requires c =
    may_make c.sessions_have_siblings.ensures c.args.stores.now c.args.attempt.now.caller c.args.parent.number c.args.place.bound c.args.place.level c.in-Some.by c.requires.may c.in-Some.ensures.is c.requires.parent c.requires.placed

pub returns : goal.returns
returns c =
    let laws : PartitionLaws = record {
      tables = record { leaf = c.new_leaf_may_follow.ensures; level = c.new_level_may_follow.ensures; housed = c.leaves_are_housed.ensures };
      partition = c.new_partition_may_follow.ensures;
      passed = c.passed_have_places.ensures;
      named = c.named_is_there.ensures;
      siblings = c.sessions_have_siblings.ensures;
      none = c.none_breaks.ensures;
    } in
    partition_step laws c.args.stores.now c.make_partition.new.rows c.make_partition.new.catalog c.args.attempt.now.caller c.args.name c.args.parent.number c.args.place.bound c.args.place.level c.in-Some.by c.in_ok-make_partition.field-0
    c.requires.may c.requires.parent c.requires.default c.requires.clean c.requires.free c.requires.placed c.in-Some.ensures.is c.in_ok-make_partition.ensures

pub returns-in_err-make_partition : goal.returns-in_err-make_partition
returns-in_err-make_partition c =
    handed_on c.from_residual.ensures.1 (partition_not_made c.args.stores.now c.make_partition.new.rows c.make_partition.new.catalog c.args.attempt.now.caller c.args.name c.args.parent.number c.args.place.bound c.args.place.level c.in-Some.by c.in_err-make_partition.field-0.0 c.requires.may c.requires.free c.in_err-make_partition.ensures)
