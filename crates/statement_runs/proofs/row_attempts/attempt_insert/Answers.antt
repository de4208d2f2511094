use Rattle.std.proofs.Common.{◌≡◌, ◌++◌, ◌∙◌, ℕ, [], ap, codes, length, map, sym}
use Rattle.std.proofs.lemmas.List.{length-map}
use Rattle.sql_ast.specs.Expressions.{trees}
use Rattle.insert_statement.specs.Inserted.{inserted}
use Rattle.statement_runs.specs.Attempted.{inserted_text}
use Rattle.statement_runs.specs.Trails.{trail_text}
use Rattle.statement_runs.proofs.Whole.{printed_is, printed_stops}
use Rattle.statement_runs.proofs.row_attempts.attempt_insert.Goals as goal

pub returns-in-Ok-write_trail : goal.returns-in-Ok-write_trail
returns-in-Ok-write_trail c left =
    let s = c.args.statement.now in
    let count : length c.as_slice.result.now ≡ length (map trees s.rows) = ap length c.as_slice.ensures ∙ sym (length-map s.rows trees) in
    printed_is left (λ (u : Unit {0}). u) (inserted_text c.args.trailed (length (map trees s.rows))) tt c.args.stores.now c.insert.new.stores c.args.attempt.now.caller (inserted c.args.attempt.now.names.now c.args.params.now c.args.attempt.now.caller s.table s.columns (map trees s.rows)) c.args.out.now.items c.write_trail.new.out.items
    (λ h stands. c.in-Ok-write_trail.ensures h stands ∙ ap (λ (n : ℕ). c.args.out.now.items ++ trail_text c.args.trailed (codes "INSERT") n [] h) count) c.in-Ok.ensures

pub returns-in-Err : goal.returns-in-Err
returns-in-Err c left =
    let s = c.args.statement.now in
    printed_stops left (λ (u : Unit {0}). u) (inserted_text c.args.trailed (length (map trees s.rows))) c.in-Err.stop c.args.stores.now c.insert.new.stores c.args.attempt.now.caller (inserted c.args.attempt.now.names.now c.args.params.now c.args.attempt.now.caller s.table s.columns (map trees s.rows)) c.args.out.now.items c.in-Err.ensures
