use Rattle.std.proofs.Common.{refl}
use Rattle.row_change.proofs.TablesByLeaf.{holder_way}
use Rattle.row_change.proofs.leaves_below.target_of.Goals as goal

pub returns-clause-target : goal.returns-clause-target
returns-clause-target c tree h is txs catalogue =
    let has = holder_way tree c.args.leaf c.args.table is in
    record {
      tables = has.tables;
      way = has.way;
      table = has.is;
      path = rw c.from_vec.ensures (c.in_ok-path.ensures h txs catalogue);
      is_named = refl;
    }
