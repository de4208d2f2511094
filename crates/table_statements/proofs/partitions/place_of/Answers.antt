use Rattle.std.proofs.Common.{◌≡◌, ◌∙◌, List, Option, Ok, Err, refl, ap, subst}
use Rattle.std.proofs.lemmas.Result.{err_from_is_err_and}
use Rattle.pg_values.specs.Refusals.{IsAnswer}
use Rattle.bound_forms.specs.declared.level.Level.{Level}
use Rattle.history.specs.declared.catalogue.Column.{Column}
use Rattle.history.specs.declared.catalogue.Table.{Table}
use Rattle.part_catalog.specs.Found.{made_at}
use Rattle.part_ddl.specs.Placing.{level_at, place_faults}
use Rattle.part_ddl.specs.Tables.{KeysFit, count_faults}
use Rattle.sql_ast.specs.Commands.{bound_tree}
use Rattle.table_statements.specs.Partitions.{place_with, placed_bound}
use Rattle.table_statements.specs.Seen.{seen_place}
use Rattle.table_statements.specs.Tables.{level_by}
use Rattle.table_statements.proofs.Chains.{after_bound, after_count, after_level, past_level, past_count, past_bound, bound_refused, place_refused}
use Rattle.ddl_steps.proofs.Firsts.{past_ok, stops_at, stops_first, none_first, fault_answer}
use Rattle.ddl_steps.proofs.Shapes.{takes_bound}
use Rattle.table_statements.proofs.partitions.place_of.Goals as goal

pub returns-in_err-above-clause-answer : goal.returns-in_err-above-clause-answer
returns-in_err-above-clause-answer c = let p = err_from_is_err_and c.from_residual.result c.from_residual.ensures.1 in λ h txs catalog.
    rw (p.1, p.2) (stops_at seen_place c.in_err-above.field-0.0 (level_at h c.args.parent.number) (after_level h c.args.session c.args.parent.number (bound_tree c.args.bound.now) c.args.by.now) (fault_answer c.in_err-above.field-0.0 (level_at h c.args.parent.number) (c.in_err-above.ensures h catalog)))

pub returns-in_err-check_count-clause-answer : goal.returns-in_err-check_count-clause-answer
returns-in_err-check_count-clause-answer c = let p = err_from_is_err_and c.from_residual-in_err-check_count.result c.from_residual-in_err-check_count.ensures.1 in λ h txs catalog.
    rw (p.1, p.2) (past_level (Err c.in_err-check_count.field-0.0) h c.args.session c.args.parent.number (bound_tree c.args.bound.now) c.args.by.now c.in_ok-above.above.now (c.in_ok-above.ensures h catalog)
    (stops_first seen_place c.in_err-check_count.field-0.0 (count_faults h) (after_count h c.args.session c.args.parent.number (bound_tree c.args.bound.now) c.args.by.now c.in_ok-above.above.now) tt (c.in_err-check_count.ensures h catalog)))

pub returns-in_err-bound-clause-answer : goal.returns-in_err-bound-clause-answer
returns-in_err-bound-clause-answer c = let p = err_from_is_err_and c.from_residual-in_err-bound.result c.from_residual-in_err-bound.ensures.1 in λ h txs catalog.
    rw (p.1, p.2) (past_count (Err c.in_err-bound.field-0.0) h c.args.session c.args.parent.number (bound_tree c.args.bound.now) c.args.by.now c.in_ok-above.above.now (c.in_ok-above.ensures h catalog) (none_first (count_faults h) tt (c.in_ok-check_count.ensures h catalog))
    (stops_at seen_place c.in_err-bound.field-0.0 (placed_bound h c.args.session c.args.parent.number c.in_ok-above.above.now (bound_tree c.args.bound.now)) (after_bound h c.args.session c.args.parent.number c.args.by.now) (bound_refused h c.args.session c.args.parent.number c.in_ok-above.above.now (bound_tree c.args.bound.now) c.in_err-bound.field-0.0 c.in_err-bound.ensures.answer)))

pub returns-in_err-check_place-clause-answer : goal.returns-in_err-check_place-clause-answer
returns-in_err-check_place-clause-answer c = let p = err_from_is_err_and c.from_residual-in_err-check_place.result c.from_residual-in_err-check_place.ensures.1 in λ h txs catalog.
    rw (p.1, p.2) (past_count (Err c.in_err-check_place.field-0.0) h c.args.session c.args.parent.number (bound_tree c.args.bound.now) c.args.by.now c.in_ok-above.above.now (c.in_ok-above.ensures h catalog) (none_first (count_faults h) tt (c.in_ok-check_count.ensures h catalog))
    (stops_at seen_place c.in_err-check_place.field-0.0 (placed_bound h c.args.session c.args.parent.number c.in_ok-above.above.now (bound_tree c.args.bound.now)) (after_bound h c.args.session c.args.parent.number c.args.by.now)
    (place_refused h c.args.session c.args.parent.number c.in_ok-above.above.now (bound_tree c.args.bound.now) c.in_ok-bound.bound c.in_err-check_place.field-0.0 c.in_ok-bound.ensures.answer (c.in_err-check_place.ensures h txs catalog))))

pub returns-in_err-level-clause-answer : goal.returns-in_err-level-clause-answer
returns-in_err-level-clause-answer c = let p = err_from_is_err_and c.from_residual-in_err-level.result c.from_residual-in_err-level.ensures.1 in λ h txs catalog.
    rw (p.1, p.2) (past_bound (Err c.in_err-level.field-0.0) h c.args.session c.args.parent.number (bound_tree c.args.bound.now) c.args.by.now c.in_ok-above.above.now c.in_ok-bound.bound (c.in_ok-above.ensures h catalog) (none_first (count_faults h) tt (c.in_ok-check_count.ensures h catalog)) c.in_ok-bound.ensures.answer (none_first (place_faults h c.args.session c.args.parent.number c.in_ok-bound.bound 1) tt (c.in_ok-check_place.ensures h txs catalog))
    (stops_at seen_place c.in_err-level.field-0.0 (level_by (made_at h c.args.parent.number).columns c.args.by.now) (place_with c.in_ok-bound.bound)
    (subst (λ (cs : List Column). IsAnswer {T = Option Level} (Err c.in_err-level.field-0.0) (level_by cs c.args.by.now)) (c.as_slice.ensures ∙ ap (λ (t : Table). t.columns) (c.table.ensures h catalog)) c.in_err-level.ensures.answer)))

pub returns-clause-answer : goal.returns-clause-answer
returns-clause-answer c = λ h txs catalog.
    past_bound (Ok (record { bound = c.in_ok-bound.bound; level = c.in_ok-level.level })) h c.args.session c.args.parent.number (bound_tree c.args.bound.now) c.args.by.now c.in_ok-above.above.now c.in_ok-bound.bound (c.in_ok-above.ensures h catalog) (none_first (count_faults h) tt (c.in_ok-check_count.ensures h catalog)) c.in_ok-bound.ensures.answer (none_first (place_faults h c.args.session c.args.parent.number c.in_ok-bound.bound 1) tt (c.in_ok-check_place.ensures h txs catalog))
    (past_ok seen_place (Ok (record { bound = c.in_ok-bound.bound; level = c.in_ok-level.level })) (level_by (made_at h c.args.parent.number).columns c.args.by.now) c.in_ok-level.level (place_with c.in_ok-bound.bound) (subst (λ (cs : List Column). level_by cs c.args.by.now ≡ Ok c.in_ok-level.level) (c.as_slice.ensures ∙ ap (λ (t : Table). t.columns) (c.table.ensures h catalog)) c.in_ok-level.ensures.answer)
    refl)

pub returns-clause-few : goal.returns-clause-few
returns-clause-few c = λ h catalog. none_first (count_faults h) tt (c.in_ok-check_count.ensures h catalog)

pub returns-clause-may : goal.returns-clause-may
returns-clause-may c = λ h txs catalog. record {
  takes = takes_bound (made_at h c.args.parent.number).name (made_at h c.args.parent.number).shape c.in_ok-above.above.now c.in_ok-bound.bound (c.in_ok-above.ensures h catalog) c.in_ok-bound.ensures.of_level;
  place = (none_first (place_faults h c.args.session c.args.parent.number c.in_ok-bound.bound 1) tt (c.in_ok-check_place.ensures h txs catalog));
  keys = subst (λ (cs : List Column). KeysFit cs c.in_ok-level.level) (c.as_slice.ensures ∙ ap (λ (t : Table). t.columns) (c.table.ensures h catalog)) c.in_ok-level.ensures.fit;
}

pub check_place-requires-clause-takes : goal.check_place-requires-clause-takes
check_place-requires-clause-takes c = λ h catalog. takes_bound (made_at h c.args.parent.number).name (made_at h c.args.parent.number).shape c.in_ok-above.above.now c.in_ok-bound.bound (c.in_ok-above.ensures h catalog) c.in_ok-bound.ensures.of_level
