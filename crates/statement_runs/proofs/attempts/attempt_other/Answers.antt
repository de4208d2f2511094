use Rattle.std.proofs.Common.{List, [], ℕ, Result, Ok, sym, subst}
use Rattle.history.specs.History.{History}
use Rattle.sql_ast.specs.Commands.{command_tree}
use Rattle.sql_ast.specs.declared.command.Command.{Command}
use Rattle.statement_steps.specs.Ended.{Ended, ended}
use Rattle.statement_steps.specs.Made.{Made}
use Rattle.statement_steps.specs.declared.ending.Ending.{Ending}
use Rattle.statement_steps.specs.declared.stop.Stop.{Stop}
use Rattle.prepared_statements.specs.Kept.{listed}
use Rattle.prepared_statements.specs.Prepared.{deallocated}
use Rattle.statement_runs.specs.Attempted.{command_attempted, listing, omitted}
use Rattle.statement_runs.specs.Executions.{command_kept, listed_after}
use Rattle.statement_runs.specs.Printed.{IsKept, IsStatement}
use Rattle.statement_runs.proofs.Whole.{command_omitted, kept_still, others_keep, silent_ends}
use Rattle.statement_runs.proofs.attempts.attempt_other.Goals as goal

pub returns-in-Lock-clause-is : goal.returns-in-Lock-clause-is
returns-in-Lock-clause-is c rest out =
    subst (λ (x : Command). IsStatement rest c.attempt_lock.result c.args.stores.now c.attempt_lock.new.stores out out c.args.attempt.now.caller (command_attempted c.args.attempt.now.names.now c.args.attempt.now.caller rest (listed c.args.prepared.now) (command_tree x))) (sym c.in-Lock.is) (c.attempt_lock.ensures rest (listed c.args.prepared.now) out)

pub returns-in-Deallocate-clause-is : goal.returns-in-Deallocate-clause-is
returns-in-Deallocate-clause-is c rest out =
    let ps = listed c.args.prepared.now in
    let old = c.args.stores.now in
    let new = c.attempt_deallocate.new.stores in
    let n = c.in-Deallocate.name in
    let is = silent_ends rest c.ended.result c.attempt_deallocate.result c.ended.ensures old new c.args.attempt.now.caller (listing c.args.attempt.now.caller (deallocated ps n)) out c.attempt_deallocate.ensures.is in
    subst (λ (x : Command). IsStatement rest c.ended.result old new out out c.args.attempt.now.caller (command_attempted c.args.attempt.now.names.now c.args.attempt.now.caller rest ps (command_tree x))) (sym c.in-Deallocate.is) is

pub returns-in-DeallocateAll-clause-is : goal.returns-in-DeallocateAll-clause-is
returns-in-DeallocateAll-clause-is c rest out =
    let ps = listed c.args.prepared.now in
    let old = c.args.stores.now in
    let new = c.attempt_deallocate_all.new.stores in
    let is = silent_ends rest c.ended-in-DeallocateAll.result c.attempt_deallocate_all.result c.ended-in-DeallocateAll.ensures old new c.args.attempt.now.caller (listing c.args.attempt.now.caller (Ok [])) out c.attempt_deallocate_all.ensures.is in
    subst (λ (x : Command). IsStatement rest c.ended-in-DeallocateAll.result old new out out c.args.attempt.now.caller (command_attempted c.args.attempt.now.names.now c.args.attempt.now.caller rest ps (command_tree x))) (sym c.in-DeallocateAll.is) is

pub returns-in_default-clause-is : goal.returns-in_default-clause-is
returns-in_default-clause-is c rest out =
    let s = c.args.stores.now in
    let i = c.in_default in
    let m = c.requires.made in
    let a = c.requires.altered in
    subst (λ (r : Result Ending Stop). IsStatement rest r s s out out c.args.attempt.now.caller (command_attempted c.args.attempt.now.names.now c.args.attempt.now.caller rest (listed c.args.prepared.now) (command_tree c.args.command.now))) (sym c.ended-in_default.ensures)
    (subst (λ (f : History → Made Ended). IsStatement rest (ended c.omit.result) s s out out c.args.attempt.now.caller f) (sym (command_omitted c.args.attempt.now.names.now c.args.attempt.now.caller rest (listed c.args.prepared.now) c.args.command.now m.0 m.1 m.2 a.0 a.1 i.not-Lock i.not-Deallocate i.not-DeallocateAll))
    (subst (λ (w : List ℕ). IsStatement rest (ended c.omit.result) s s out out c.args.attempt.now.caller (omitted w)) c.command_word.ensures (c.omit.ensures rest out)))

-- ---- what is prepared

pub returns-in-Lock-clause-kept : goal.returns-in-Lock-clause-kept
returns-in-Lock-clause-kept c =
    let ps = listed c.args.prepared.now in
    subst (λ (x : Command). IsKept c.attempt_lock.result ps ps (command_kept ps (command_tree x))) (sym c.in-Lock.is) (kept_still c.attempt_lock.result ps)

pub returns-in-Deallocate-clause-kept : goal.returns-in-Deallocate-clause-kept
returns-in-Deallocate-clause-kept c =
    let ps = listed c.args.prepared.now in
    let new = listed c.attempt_deallocate.new.prepared in
    subst (λ (x : Command). IsKept c.ended.result ps new (command_kept ps (command_tree x))) (sym c.in-Deallocate.is)
    (subst (λ (r : Result Ending Stop). IsKept r ps new (listed_after ps (deallocated ps c.in-Deallocate.name))) (sym c.ended.ensures) c.attempt_deallocate.ensures.kept)

pub returns-in-DeallocateAll-clause-kept : goal.returns-in-DeallocateAll-clause-kept
returns-in-DeallocateAll-clause-kept c =
    let ps = listed c.args.prepared.now in
    let new = listed c.attempt_deallocate_all.new.prepared in
    subst (λ (x : Command). IsKept c.ended-in-DeallocateAll.result ps new (command_kept ps (command_tree x))) (sym c.in-DeallocateAll.is)
    (subst (λ (r : Result Ending Stop). IsKept r ps new []) (sym c.ended-in-DeallocateAll.ensures) c.attempt_deallocate_all.ensures.kept)

pub returns-in_default-clause-kept : goal.returns-in_default-clause-kept
returns-in_default-clause-kept c =
    let ps = listed c.args.prepared.now in
    subst (IsKept c.ended-in_default.result ps ps) (sym (others_keep ps c.args.command.now c.in_default.not-Deallocate c.in_default.not-DeallocateAll)) (kept_still c.ended-in_default.result ps)
