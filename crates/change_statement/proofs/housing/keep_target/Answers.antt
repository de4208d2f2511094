use Rattle.std.proofs.Common.{◌∙◌, sym, length}
use Rattle.row_change.proofs.TablesByLeaf.{holder_is_made, some_holder}
use Rattle.statement_steps.specs.Gathered.{found_of}
use Rattle.change_statement.proofs.EachRow.{tables_low}
use Rattle.change_statement.proofs.Renewed.{into_own}
use Rattle.change_statement.proofs.housing.keep_target.Goals as goal

pub unreachable-requires : goal.unreachable-requires
unreachable-requires c = some_holder c.args.housing.now.holders (found_of c.args.gathered.now).tree c.args.leaf c.requires.housing.holders (sym c.in_default.is ∙ c.of.ensures) c.requires.way

pub target_of-requires-clause-known : goal.target_of-requires-clause-known
target_of-requires-clause-known c =
    let g = found_of c.args.gathered.now in
    holder_is_made (length c.args.stores.now.catalog.tables) c.args.housing.now.holders g.tree c.args.leaf c.in-Some.table (tables_low c.args.stores.now c.args.attempt.now.caller g c.requires.may) c.requires.housing.holders c.in-Some.ensures

pub returns-clause-housing : goal.returns-clause-housing
returns-clause-housing c = record {
  holders = c.requires.housing.holders;
  last = λ h txs catalogue. c.in_ok-target.ensures.target (found_of c.args.gathered.now).tree h (sym (c.in-Some.ensures ∙ c.requires.housing.holders c.args.leaf)) txs catalogue;
}

pub returns-clause-kept : goal.returns-clause-kept
returns-clause-kept c = into_own c.in_ok-target.target c.args.leaf c.in_ok-target.ensures.leaf
