use Rattle.std.proofs.Common.{◌≡◌, List, map, ap, ◌∙◌, subst}
use Rattle.pg_values.specs.Refusals.{IsAnswer}
use Rattle.history.specs.declared.catalogue.Table.{Table}
use Rattle.cond_logic.specs.Asked.{change_meant, setting_meant}
use Rattle.change_statement.specs.NewRows.{new_row}
use Rattle.change_statement.proofs.Renewed.{renewed_of}
use Rattle.change_statement.proofs.updating.renew.Goals as goal

pub returns-clause-is : goal.returns-clause-is
returns-clause-is c h stands =
    let g = c.args.gathered.now in
    let row = c.args.row.now in
    let columns = c.as_slice-columns.ensures ∙ ap (λ (t : Table). t.columns) (c.table.ensures h stands) in
    subst (λ cs. IsAnswer c.new_row.result (new_row cs (change_meant g.ask).settings row)) columns
    (subst (λ ss. IsAnswer c.new_row.result (new_row c.as_slice-columns.result.now (map setting_meant ss) row)) c.as_slice.ensures c.new_row.ensures.is)

pub returns-clause-of : goal.returns-clause-of
returns-clause-of c =
    renewed_of c.new_row.result c.args.catalog.now c.args.gathered.now.table c.as_slice-columns.result.now c.args.row.now (λ h stands. c.as_slice-columns.ensures ∙ ap (λ (t : Table). t.columns) (c.table.ensures h stands)) c.requires.of c.new_row.ensures.columns
