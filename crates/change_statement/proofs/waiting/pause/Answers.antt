use Rattle.std.proofs.Common.{◌+◌, Err, List, ap, arith, sym, ◌∙◌, subst, length}
use Rattle.statement_steps.specs.Gathered.{CanBeCounted, RowsLeft, found_of}
use Rattle.statement_steps.specs.Steps.{IsPart}
use Rattle.statement_steps.specs.declared.rest.TargetRow.{TargetRow}
use Rattle.statement_steps.proofs.Parts.{stays}
use Rattle.change_statement.specs.Changed.{held_up}
use Rattle.change_statement.specs.Standing.{following}
use Rattle.change_statement.proofs.Pausing.{has_to_pause, paused_run}
use Rattle.change_statement.proofs.Runs.{no_memory_run}
use Rattle.change_statement.proofs.waiting.pause.Goals as goal

pub overflow_add-cmd : goal.overflow_add-cmd
overflow_add-cmd c = let next = c.requires.may.next in omega (arith, next)

pub wait_for_end-requires-clause-may : goal.wait_for_end-requires-clause-may
wait_for_end-requires-clause-may c = c.requires.may.may

pub unreachable-requires-in-Ok-wait_for_end : goal.unreachable-requires-in-Ok-wait_for_end
unreachable-requires-in-Ok-wait_for_end c =
    let s = c.requires.may.may.sound in
    has_to_pause c.args.attempt.now.names.now (following c.args.attempt.now.caller) c.args.other c.new-rest.result s.0 c.requires.known (c.in-Ok-wait_for_end.ensures.is s.0 s.1 s.2).0

pub new-rest-requires : goal.new-rest-requires
new-rest-requires c = subst (λ (ts : List TargetRow). CanBeCounted c.args.changed (length ts)) (sym c.in-Ok.ensures) c.requires.few

pub returns : goal.returns
returns c =
    let g = found_of c.args.gathered in
    let left : List TargetRow → RowsLeft = λ ts. record { by = c.in-Some.by; found = g; left = ts; changed = c.args.changed } in
    let is = c.new-rest.ensures ∙ ap left c.in-Ok.ensures in
    paused_run c.args.attempt.now.names.now c.in-Err.stop c.args.stores.now c.wait_for_end.new.stores c.args.attempt.now.caller g c.args.other c.in-Some.by c.args.left.now c.args.changed c.requires.may c.requires.left (sym c.in-Some.ensures.kept)
    (subst (λ r. IsPart (λ (u : Unit {0}). u) (Err c.in-Err.stop) c.args.stores.now c.wait_for_end.new.stores (following c.args.attempt.now.caller) (c.args.attempt.now.caller.cmd + 1) (held_up c.args.attempt.now.names.now (following c.args.attempt.now.caller) c.args.other r)) is c.in-Err.ensures)
