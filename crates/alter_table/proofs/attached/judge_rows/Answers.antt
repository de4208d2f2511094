use Rattle.std.proofs.Common.{List, ℕ, Ok, Err, ◌≡◌, subst}
use Rattle.std.proofs.lemmas.Result.{err_from_is_err_and}
use Rattle.pg_values.specs.Sets.{has}
use Rattle.pg_values.specs.declared.session_set.SessionSet.{SessionSet}
use Rattle.pg_values.specs.Refusals.{IsAnswer}
use Rattle.part_ddl.specs.Below.{default_of}
use Rattle.ddl_steps.specs.Places.{place_scan, default_scan}
use Rattle.ddl_steps.specs.Scans.{judged, watches}
use Rattle.alter_table.specs.Places.{name_at}
use Rattle.alter_table.proofs.Scanned.{first_refuses, others_refuse, nobody_refuses, both_watch, takes_always}
use Rattle.alter_table.proofs.attached.judge_rows.Goals as goal

pub judge_default-requires-clause-takes : goal.judge_default-requires-clause-takes
judge_default-requires-clause-takes c = takes_always c.args.stores.now c.args.attempt.now.caller c.args.parent.number c.args.table.number c.args.bound.now c.requires.may c.requires.place

pub returns-in_err-of_table-clause-answer : goal.returns-in_err-of_table-clause-answer
returns-in_err-of_table-clause-answer c = let p = err_from_is_err_and c.from_residual.result c.from_residual.ensures.1 in λ h it.
    rw (p.1, p.2) (first_refuses h c.args.attempt.now.caller.session (place_scan h c.args.attempt.now.caller.session c.args.parent.number c.args.table.number c.args.bound.now) (default_scan h c.args.attempt.now.caller.session c.args.parent.number c.args.bound.now (name_at h c.args.table.number) (default_of h c.args.attempt.now.caller.session c.args.parent.number)) c.in_err-of_table.field-0.0 (c.in_err-of_table.ensures.answer h it))

pub returns-in_err-of_default-clause-answer : goal.returns-in_err-of_default-clause-answer
returns-in_err-of_default-clause-answer c = let p = err_from_is_err_and c.from_residual-in_err-of_default.result c.from_residual-in_err-of_default.ensures.1 in λ h it.
    rw (p.1, p.2) (others_refuse h c.args.attempt.now.caller.session (place_scan h c.args.attempt.now.caller.session c.args.parent.number c.args.table.number c.args.bound.now) (default_scan h c.args.attempt.now.caller.session c.args.parent.number c.args.bound.now (name_at h c.args.table.number) (default_of h c.args.attempt.now.caller.session c.args.parent.number)) c.in_ok-of_table.of_table c.in_err-of_default.field-0.0 (c.in_ok-of_table.ensures.answer h it)
    (subst (λ (n : List ℕ). IsAnswer {T = SessionSet} (Err c.in_err-of_default.field-0.0) (judged h c.args.attempt.now.caller.session (default_scan h c.args.attempt.now.caller.session c.args.parent.number c.args.bound.now n (default_of h c.args.attempt.now.caller.session c.args.parent.number)))) (c.name_of-name.ensures h it.tells.catalog) (c.in_err-of_default.ensures.answer h it.tells)))

pub returns-clause-answer : goal.returns-clause-answer
returns-clause-answer c = λ h it.
    nobody_refuses h c.args.attempt.now.caller.session (place_scan h c.args.attempt.now.caller.session c.args.parent.number c.args.table.number c.args.bound.now) (default_scan h c.args.attempt.now.caller.session c.args.parent.number c.args.bound.now (name_at h c.args.table.number) (default_of h c.args.attempt.now.caller.session c.args.parent.number)) c.in_ok-of_table.of_table c.in_ok-of_default.of_default c.union-others.result (c.in_ok-of_table.ensures.answer h it)
    (subst (λ (n : List ℕ). judged h c.args.attempt.now.caller.session (default_scan h c.args.attempt.now.caller.session c.args.parent.number c.args.bound.now n (default_of h c.args.attempt.now.caller.session c.args.parent.number)) ≡ Ok c.in_ok-of_default.of_default) (c.name_of-name.ensures h it.tells.catalog) (c.in_ok-of_default.ensures.answer h it.tells)) (c.in_ok-of_table.ensures.all h it)
    (subst (λ (n : List ℕ). (r : ℕ) → has c.in_ok-of_default.of_default r ≡ watches h c.args.attempt.now.caller.session (default_scan h c.args.attempt.now.caller.session c.args.parent.number c.args.bound.now n (default_of h c.args.attempt.now.caller.session c.args.parent.number)) r) (c.name_of-name.ensures h it.tells.catalog) (c.in_ok-of_default.ensures.all h it.tells)) c.union-others.ensures c.sessions_are_low.ensures

pub returns-clause-all : goal.returns-clause-all
returns-clause-all c = λ h it.
    both_watch h c.args.attempt.now.caller.session (place_scan h c.args.attempt.now.caller.session c.args.parent.number c.args.table.number c.args.bound.now) (default_scan h c.args.attempt.now.caller.session c.args.parent.number c.args.bound.now (name_at h c.args.table.number) (default_of h c.args.attempt.now.caller.session c.args.parent.number)) c.in_ok-of_table.of_table c.in_ok-of_default.of_default c.union-others.result (c.in_ok-of_table.ensures.all h it)
    (subst (λ (n : List ℕ). (r : ℕ) → has c.in_ok-of_default.of_default r ≡ watches h c.args.attempt.now.caller.session (default_scan h c.args.attempt.now.caller.session c.args.parent.number c.args.bound.now n (default_of h c.args.attempt.now.caller.session c.args.parent.number)) r) (c.name_of-name.ensures h it.tells.catalog) (c.in_ok-of_default.ensures.all h it.tells)) c.union-others.ensures
