use Rattle.std.proofs.Common.{◌≢◌, ◌+◌, arith, refl, sym, ◌∙◌, subst, Ok, Err}
use Rattle.row_change.proofs.Successors.{keeps_all}
use Rattle.statement_steps.specs.Gathered.{found_of}
use Rattle.statement_steps.specs.Faults.{stop_of}
use Rattle.change_statement.specs.Verdicts.{updater_meant, Changes, PassesBy, WaitsFor, Refuses}
use Rattle.change_statement.specs.Changing.{changing}
use Rattle.change_statement.specs.Running.{IsRun}
use Rattle.change_statement.specs.declared.asking.Change.{Change}
use Rattle.change_statement.proofs.EachRow.{decided_is, handed_turn, is_changed, is_seat, is_stopped, is_passed, is_refused, is_out, may_end_in, tables_low}
use Rattle.change_statement.proofs.Renewed.{updated_run, faulty_run, known_table, read_of}
use Rattle.change_statement.proofs.Stays.{agrees}
use Rattle.change_statement.proofs.rows.change_row.Goals as goal

pub end_row-requires-clause-row : goal.end_row-requires-clause-row
end_row-requires-clause-row c =
    may_end_in c.args.stores.now c.args.attempt.now.caller (found_of c.args.gathered.now) c.args.target c.updater-updater.result.tx.number c.in-Change.seen c.requires.target c.updater-updater.ensures.own c.in-Change.ensures.change

pub renew-requires-clause-of : goal.renew-requires-clause-of
renew-requires-clause-of c =
    let g = found_of c.args.gathered.now in
    let seen = c.in-Change.seen in
    read_of c.args.stores.now c.args.attempt.now.caller g seen.id seen.row.now c.requires.may (may_end_in c.args.stores.now c.args.attempt.now.caller g c.args.target c.updater-updater.result.tx.number seen c.requires.target c.updater-updater.ensures.own c.in-Change.ensures.change) c.in-Change.ensures.change.row

pub renew-requires-clause-known : goal.renew-requires-clause-known
renew-requires-clause-known c = known_table c.args.stores.now c.args.attempt.now.caller (found_of c.args.gathered.now) c.requires.may

pub store-requires-clause-version : goal.store-requires-clause-version
store-requires-clause-version c =
    may_end_in c.args.stores.now c.args.attempt.now.caller (found_of c.args.gathered.now) c.args.target c.updater-updater.result.tx.number c.in-Change.seen c.requires.target c.updater-updater.ensures.own c.in-Change.ensures.change

pub store-requires-clause-of : goal.store-requires-clause-of
store-requires-clause-of c = c.in_ok-row-in-Update.ensures.of

pub store-requires-clause-own : goal.store-requires-clause-own
store-requires-clause-own c = c.in-Change.ensures.change.leaf ∙ c.requires.target.leaf

pub store-requires-clause-keys : goal.store-requires-clause-keys
store-requires-clause-keys c =
    agrees c.args.stores.now c.args.attempt.now.caller (found_of c.args.gathered.now) c.args.target.id c.updater-updater.result.tx.number c.in-Change.seen c.in_ok-row-in-Update.row c.requires.may c.in-Change.ensures.change
    (λ h stands. c.in_ok-row-in-Update.ensures.is h stands.all.catalog)

pub conflict_fault-requires : goal.conflict_fault-requires
conflict_fault-requires c = tables_low c.args.stores.now c.args.attempt.now.caller (found_of c.args.gathered.now) c.requires.may

pub returns-in-Delete-clause-turn : goal.returns-in-Delete-clause-turn
returns-in-Delete-clause-turn c =
    let g = found_of c.args.gathered.now in (
      is_changed (changing c.args.change c.args.attempt.now.caller g) c.args.attempt.now.names.now c.args.stores.now c.end_row.new.stores c.args.attempt.now.caller g c.args.target c.args.changed (c.args.changed + 1) c.in-Change.seen.id c.in-Change.seen.row.now refl c.requires.may
          (decided_is c.args.stores.now c.args.attempt.now.caller g c.args.target (updater_meant c.updater-updater.result) (Changes c.in-Change.seen.id c.in-Change.seen.row.now) c.updater-updater.ensures.is c.in-Change.ensures.is)
          (subst (λ (ch : Change). IsRun g (λ (u : Unit {0}). u) (Ok tt) c.args.stores.now c.end_row.new.stores c.args.attempt.now.caller (changing ch c.args.attempt.now.caller g c.args.target.leaf c.in-Change.seen.id c.in-Change.seen.row.now)) (sym c.in-Delete.is) c.end_row.ensures.run),
      c.end_row.ensures.rest,
      c.end_row.ensures.keeps,
      omega arith,
    )

pub returns-in_ok-store-in-Update-clause-turn : goal.returns-in_ok-store-in-Update-clause-turn
returns-in_ok-store-in-Update-clause-turn c =
    let g = found_of c.args.gathered.now in
    let seen = c.in-Change.seen in (
      is_changed (changing c.args.change c.args.attempt.now.caller g) c.args.attempt.now.names.now c.args.stores.now c.store.new.stores c.args.attempt.now.caller g c.args.target c.args.changed (c.args.changed + 1) seen.id seen.row.now refl c.requires.may
          (decided_is c.args.stores.now c.args.attempt.now.caller g c.args.target (updater_meant c.updater-updater.result) (Changes seen.id seen.row.now) c.updater-updater.ensures.is c.in-Change.ensures.is)
          (subst (λ (ch : Change). IsRun g (λ (u : Unit {0}). u) (Ok tt) c.args.stores.now c.store.new.stores c.args.attempt.now.caller (changing ch c.args.attempt.now.caller g c.args.target.leaf seen.id seen.row.now)) (sym c.in-Update.is)
          (updated_run c.in_ok-row-in-Update.row (Ok tt) c.args.stores.now c.store.new.stores c.args.attempt.now.caller g c.args.target.leaf seen.id seen.row.now c.requires.may c.in_ok-row-in-Update.ensures.is c.in_ok-store-in-Update.ensures.run)),
      c.store.ensures.rest,
      c.store.ensures.keeps,
      omega arith,
    )

pub returns-in_err-store-in-Update-clause-turn : goal.returns-in_err-store-in-Update-clause-turn
returns-in_err-store-in-Update-clause-turn c =
    let g = found_of c.args.gathered.now in
    let seen = c.in-Change.seen in
    handed_turn (changing c.args.change c.args.attempt.now.caller g) c.args.attempt.now.names.now _ _ c.args.stores.now c.store.new.stores c.args.attempt.now.caller g c.args.target c.args.changed c.from_residual-in_err-store-in-Update.ensures.1
    (is_stopped (changing c.args.change c.args.attempt.now.caller g) c.args.attempt.now.names.now c.in_err-store-in-Update.field-0.0 c.args.stores.now c.store.new.stores c.args.attempt.now.caller g c.args.target c.args.changed seen.id seen.row.now
    (decided_is c.args.stores.now c.args.attempt.now.caller g c.args.target (updater_meant c.updater-updater.result) (Changes seen.id seen.row.now) c.updater-updater.ensures.is c.in-Change.ensures.is)
    (subst (λ (ch : Change). IsRun g (λ (u : Unit {0}). u) (Err c.in_err-store-in-Update.field-0.0) c.args.stores.now c.store.new.stores c.args.attempt.now.caller (changing ch c.args.attempt.now.caller g c.args.target.leaf seen.id seen.row.now)) (sym c.in-Update.is)
    (updated_run c.in_ok-row-in-Update.row (Err c.in_err-store-in-Update.field-0.0) c.args.stores.now c.store.new.stores c.args.attempt.now.caller g c.args.target.leaf seen.id seen.row.now c.requires.may c.in_ok-row-in-Update.ensures.is c.in_err-store-in-Update.ensures.run)))

pub returns-in_err-row-in-Update-clause-turn : goal.returns-in_err-row-in-Update-clause-turn
returns-in_err-row-in-Update-clause-turn c =
    let g = found_of c.args.gathered.now in
    let seen = c.in-Change.seen in
    let e = stop_of c.in_err-row-in-Update.field-0.0 in
    handed_turn (changing c.args.change c.args.attempt.now.caller g) c.args.attempt.now.names.now _ _ c.args.stores.now c.args.stores.now c.args.attempt.now.caller g c.args.target c.args.changed c.from_residual.ensures.1
    (is_stopped (changing c.args.change c.args.attempt.now.caller g) c.args.attempt.now.names.now e c.args.stores.now c.args.stores.now c.args.attempt.now.caller g c.args.target c.args.changed seen.id seen.row.now
    (decided_is c.args.stores.now c.args.attempt.now.caller g c.args.target (updater_meant c.updater-updater.result) (Changes seen.id seen.row.now) c.updater-updater.ensures.is c.in-Change.ensures.is)
    (subst (λ (ch : Change). IsRun g (λ (u : Unit {0}). u) (Err e) c.args.stores.now c.args.stores.now c.args.attempt.now.caller (changing ch c.args.attempt.now.caller g c.args.target.leaf seen.id seen.row.now)) (sym c.in-Update.is)
    (faulty_run c.in_err-row-in-Update.field-0.0 c.args.stores.now c.args.attempt.now.caller g c.args.target.leaf seen.id seen.row.now c.requires.may c.in_err-row-in-Update.ensures.is)))

pub returns-in-Pass-clause-turn : goal.returns-in-Pass-clause-turn
returns-in-Pass-clause-turn c =
    let g = found_of c.args.gathered.now in (
      is_passed (changing c.args.change c.args.attempt.now.caller g) c.args.attempt.now.names.now c.args.stores.now c.args.attempt.now.caller g c.args.target c.args.changed c.requires.may
          (decided_is c.args.stores.now c.args.attempt.now.caller g c.args.target (updater_meant c.updater-updater.result) PassesBy c.updater-updater.ensures.is c.in-Pass.ensures.is),
      refl,
      keeps_all c.args.stores.now.rows c.args.stores.now.rows refl,
      omega arith,
    )

pub returns-in-Wait-clause-turn : goal.returns-in-Wait-clause-turn
returns-in-Wait-clause-turn c =
    let g = found_of c.args.gathered.now in (
      refl,
      decided_is c.args.stores.now c.args.attempt.now.caller g c.args.target (updater_meant c.updater-updater.result) (WaitsFor c.in-Wait.other) c.updater-updater.ensures.is c.in-Wait.ensures.is,
      subst (λ s. c.in-Wait.other ≢ s) c.updater-updater.ensures.session c.in-Wait.ensures.wait.another,
      is_seat c.args.stores.now c.args.attempt.now.caller (found_of c.args.gathered.now) c.in-Wait.other c.requires.may c.in-Wait.ensures.wait.known,
    )

pub returns-in_ok-fault-in-Refuse-clause-turn : goal.returns-in_ok-fault-in-Refuse-clause-turn
returns-in_ok-fault-in-Refuse-clause-turn c =
    let g = found_of c.args.gathered.now in
    is_refused (changing c.args.change c.args.attempt.now.caller g) c.args.attempt.now.names.now c.args.stores.now c.args.attempt.now.caller g c.args.target c.args.changed c.in-Refuse.conflict c.in_ok-fault-in-Refuse.fault c.in_ok-fault-in-Refuse.ensures c.requires.may
    (decided_is c.args.stores.now c.args.attempt.now.caller g c.args.target (updater_meant c.updater-updater.result) (Refuses c.in-Refuse.conflict) c.updater-updater.ensures.is c.in-Refuse.ensures.is)

pub returns-in_err-fault-in-Refuse-clause-turn : goal.returns-in_err-fault-in-Refuse-clause-turn
returns-in_err-fault-in-Refuse-clause-turn c =
    let g = found_of c.args.gathered.now in
    handed_turn (changing c.args.change c.args.attempt.now.caller g) c.args.attempt.now.names.now _ _ c.args.stores.now c.args.stores.now c.args.attempt.now.caller g c.args.target c.args.changed c.from_residual-in_err-fault-in-Refuse.ensures.1
    (is_out (changing c.args.change c.args.attempt.now.caller g) c.args.attempt.now.names.now c.args.stores.now c.args.attempt.now.caller g c.args.target c.args.changed)
