use Rattle.std.proofs.Common.{◌≡◌, ◌∙◌, ◌+◌, ℕ, [], Result, Ok, Err, refl, ap, subst, arith, length}
use Rattle.std.specs.Prelude.{nat_le}
use Rattle.std.proofs.lemmas.Result.{err_from_is_err_and}
use Rattle.pg_values.specs.declared.which.Which.TheVariants.{Levels}
use Rattle.pg_values.specs.Refusals.{IsAnswer, or_first, unless}
use Rattle.pg_values.specs.declared.fault.Refusal.{Refusal}
use Rattle.refusals.specs.Refusals.{too_many}
use Rattle.bound_forms.specs.declared.partition_bound.Bound.{Bound}
use Rattle.history.specs.History.{History}
use Rattle.row_router.specs.Histories.{ddl_tree, path_of}
use Rattle.row_router.specs.Seen.{seen}
use Rattle.row_router.specs.Trees.{TableTree, height}
use Rattle.sql_ast.specs.Commands.{bound_tree}
use Rattle.table_binder.specs.Bounds.{bound_for}
use Rattle.part_catalog.specs.Found.{made_at}
use Rattle.part_ddl.specs.Placing.{level_at, place_faults}
use Rattle.ddl_steps.proofs.Firsts.{past_none, stops_at, stops_first, none_first, fault_answer}
use Rattle.ddl_steps.proofs.Shapes.{takes_bound}
use Rattle.alter_table.specs.Places.{table_faults}
use Rattle.alter_table.proofs.Placed.{path_long, path_short, table_high, wider_refused, wider_answer, after_bound, after_table, after_level, at_level, past_level, past_table, past_bound, may_be_attached}
use Rattle.alter_table.proofs.attach_checks.place_of.Goals as goal

-- what the test of the levels says of the whole place
levels_answer : (h : History) (s p t above_it : ℕ) (b : Bound) (own : TableTree) (r : Result (Unit {0}) Refusal) → above_it ≡ length (path_of h s p) → own ≡ ddl_tree h s t → place_faults h s p b 1 ≡ [] → IsAnswer r (or_first {T = Unit {0}} (unless (nat_le (above_it + height own) 8) (too_many Levels)) tt)
    → IsAnswer r (or_first {T = Unit {0}} (place_faults h s p b (height (ddl_tree h s t))) tt)
levels_answer h s p t above_it b own r long same none its =
    wider_answer h s p b (height (ddl_tree h s t)) r above_it (long ∙ path_long h s p) none
    (subst (λ (x : TableTree). IsAnswer r (or_first {T = Unit {0}} (unless (nat_le (above_it + height x) 8) (too_many Levels)) tt)) same its)

pub check_levels-requires : goal.check_levels-requires
check_levels-requires c =
    let both = c.requires.siblings in
    let short = path_short both.h c.args.session c.args.parent.number in
    let same = c.requires.path both.h both.txs both.catalogue in
    let count = ap length same in
    omega (arith, short, count)

pub check_place-requires-clause-takes : goal.check_place-requires-clause-takes
check_place-requires-clause-takes c = λ h catalog. takes_bound (made_at h c.args.parent.number).name (made_at h c.args.parent.number).shape c.in_ok-level.level.now c.in_ok-bound.bound (c.in_ok-level.ensures h catalog) c.in_ok-bound.ensures.of_level

pub check_table-requires-clause-tables : goal.check_table-requires-clause-tables
check_table-requires-clause-tables c = c.requires.tables

pub returns-in_err-level-clause-answer : goal.returns-in_err-level-clause-answer
returns-in_err-level-clause-answer c = let p = err_from_is_err_and c.from_residual.result c.from_residual.ensures.1 in λ h txs catalog.
    rw (p.1, p.2) (at_level (Err c.in_err-level.field-0.0) h c.args.session c.args.parent.number c.args.table.number (bound_tree c.args.bound.now) (stops_at (λ (x : Bound). x) c.in_err-level.field-0.0 (level_at h c.args.parent.number) (after_level h c.args.session c.args.parent.number c.args.table.number (bound_tree c.args.bound.now)) (fault_answer c.in_err-level.field-0.0 (level_at h c.args.parent.number) (c.in_err-level.ensures h catalog))))

pub returns-in_err-check_table-clause-answer : goal.returns-in_err-check_table-clause-answer
returns-in_err-check_table-clause-answer c = let p = err_from_is_err_and c.from_residual-in_err-check_table.result c.from_residual-in_err-check_table.ensures.1 in λ h txs catalog.
    rw (p.1, p.2) (past_level (Err c.in_err-check_table.field-0.0) h c.args.session c.args.parent.number c.args.table.number (bound_tree c.args.bound.now) c.in_ok-level.level.now (c.in_ok-level.ensures h catalog) (stops_first (λ (x : Bound). x) c.in_err-check_table.field-0.0 (table_faults h c.args.session c.args.parent.number c.args.table.number) (after_table h c.args.session c.args.parent.number c.args.table.number (bound_tree c.args.bound.now) c.in_ok-level.level.now) tt (c.in_err-check_table.ensures h txs catalog)))

pub returns-in_err-bound-clause-answer : goal.returns-in_err-bound-clause-answer
returns-in_err-bound-clause-answer c = let p = err_from_is_err_and c.from_residual-in_err-bound.result c.from_residual-in_err-bound.ensures.1 in λ h txs catalog.
    rw (p.1, p.2) (past_table (Err c.in_err-bound.field-0.0) h c.args.session c.args.parent.number c.args.table.number (bound_tree c.args.bound.now) c.in_ok-level.level.now (c.in_ok-level.ensures h catalog) (none_first (table_faults h c.args.session c.args.parent.number c.args.table.number) tt (c.in_ok-check_table.ensures h txs catalog)) (stops_at (λ (x : Bound). x) c.in_err-bound.field-0.0 (bound_for c.in_ok-level.level.now (bound_tree c.args.bound.now)) (after_bound h c.args.session c.args.parent.number c.args.table.number) c.in_err-bound.ensures.answer))

pub returns-in_err-check_place-clause-answer : goal.returns-in_err-check_place-clause-answer
returns-in_err-check_place-clause-answer c = let p = err_from_is_err_and c.from_residual-in_err-check_place.result c.from_residual-in_err-check_place.ensures.1 in λ h txs catalog.
    rw (p.1, p.2) (past_bound (Err c.in_err-check_place.field-0.0) h c.args.session c.args.parent.number c.args.table.number (bound_tree c.args.bound.now) c.in_ok-level.level.now c.in_ok-bound.bound (c.in_ok-level.ensures h catalog) (none_first (table_faults h c.args.session c.args.parent.number c.args.table.number) tt (c.in_ok-check_table.ensures h txs catalog)) c.in_ok-bound.ensures.answer
    (stops_first (λ (x : Bound). x) c.in_err-check_place.field-0.0 (place_faults h c.args.session c.args.parent.number c.in_ok-bound.bound (height (ddl_tree h c.args.session c.args.table.number))) (Ok c.in_ok-bound.bound) tt
    (wider_refused h c.args.session c.args.parent.number c.in_ok-bound.bound (height (ddl_tree h c.args.session c.args.table.number)) c.in_err-check_place.field-0.0 (table_high h c.args.session c.args.table.number) (c.in_err-check_place.ensures h txs catalog))))

pub returns-in_err-check_levels-clause-answer : goal.returns-in_err-check_levels-clause-answer
returns-in_err-check_levels-clause-answer c = let p = err_from_is_err_and c.from_residual-in_err-check_levels.result c.from_residual-in_err-check_levels.ensures.1 in λ h txs catalog.
    let long = ap length (c.requires.path h txs catalog) in
    rw (p.1, p.2) (past_bound (Err c.in_err-check_levels.field-0.0) h c.args.session c.args.parent.number c.args.table.number (bound_tree c.args.bound.now) c.in_ok-level.level.now c.in_ok-bound.bound (c.in_ok-level.ensures h catalog) (none_first (table_faults h c.args.session c.args.parent.number c.args.table.number) tt (c.in_ok-check_table.ensures h txs catalog)) c.in_ok-bound.ensures.answer
    (stops_first (λ (x : Bound). x) c.in_err-check_levels.field-0.0 (place_faults h c.args.session c.args.parent.number c.in_ok-bound.bound (height (ddl_tree h c.args.session c.args.table.number))) (Ok c.in_ok-bound.bound) tt
    (levels_answer h c.args.session c.args.parent.number c.args.table.number (length c.args.path.now) c.in_ok-bound.bound (seen c.args.own.now) (Err c.in_err-check_levels.field-0.0) long (c.requires.own h txs catalog) (none_first (place_faults h c.args.session c.args.parent.number c.in_ok-bound.bound 1) tt (c.in_ok-check_place.ensures h txs catalog)) c.in_err-check_levels.ensures)))

pub returns-clause-answer : goal.returns-clause-answer
returns-clause-answer c = λ h txs catalog.
    let long = ap length (c.requires.path h txs catalog) in
    let place = none_first (place_faults h c.args.session c.args.parent.number c.in_ok-bound.bound (height (ddl_tree h c.args.session c.args.table.number))) tt (levels_answer h c.args.session c.args.parent.number c.args.table.number (length c.args.path.now) c.in_ok-bound.bound (seen c.args.own.now) (Ok tt) long (c.requires.own h txs catalog) (none_first (place_faults h c.args.session c.args.parent.number c.in_ok-bound.bound 1) tt (c.in_ok-check_place.ensures h txs catalog)) c.in_ok-check_levels.ensures) in
    past_bound (Ok c.in_ok-bound.bound) h c.args.session c.args.parent.number c.args.table.number (bound_tree c.args.bound.now) c.in_ok-level.level.now c.in_ok-bound.bound (c.in_ok-level.ensures h catalog) (none_first (table_faults h c.args.session c.args.parent.number c.args.table.number) tt (c.in_ok-check_table.ensures h txs catalog)) c.in_ok-bound.ensures.answer
    (past_none (λ (x : Bound). x) (Ok c.in_ok-bound.bound) (place_faults h c.args.session c.args.parent.number c.in_ok-bound.bound (height (ddl_tree h c.args.session c.args.table.number))) (Ok c.in_ok-bound.bound) place refl)

pub returns-clause-place : goal.returns-clause-place
returns-clause-place c = λ h txs catalog.
    let long = ap length (c.requires.path h txs catalog) in
    let place = none_first (place_faults h c.args.session c.args.parent.number c.in_ok-bound.bound (height (ddl_tree h c.args.session c.args.table.number))) tt (levels_answer h c.args.session c.args.parent.number c.args.table.number (length c.args.path.now) c.in_ok-bound.bound (seen c.args.own.now) (Ok tt) long (c.requires.own h txs catalog) (none_first (place_faults h c.args.session c.args.parent.number c.in_ok-bound.bound 1) tt (c.in_ok-check_place.ensures h txs catalog)) c.in_ok-check_levels.ensures) in
    may_be_attached h c.args.session c.args.parent.number c.args.table.number c.in_ok-level.level.now c.in_ok-bound.bound (c.in_ok-level.ensures h catalog) c.in_ok-bound.ensures.of_level (none_first (table_faults h c.args.session c.args.parent.number c.args.table.number) tt (c.in_ok-check_table.ensures h txs catalog)) place
