use Rattle.std.proofs.Common.{Ok, Err, sym, ◌∙◌}
use Rattle.row_store.proofs.Changes.{standing_is}
use Rattle.statement_steps.specs.Gathered.{found_of}
use Rattle.change_statement.proofs.Births.{placed_among, succeeded_run}
use Rattle.change_statement.proofs.Runs.{handed_run}
use Rattle.change_statement.proofs.updating.succeed.Goals as goal

pub succeed_row-requires-clause-standing : goal.succeed_row-requires-clause-standing
succeed_row-requires-clause-standing c =
    let h = c.requires.may.sound.0 in
    let stands = c.requires.may.sound.1 in
    standing_is c.args.stores.now.txs c.args.stores.now.rows h c.args.id.number c.requires.version.known stands.all.txs stands.all.rows ∙ c.requires.version.standing h stands.all.txs stands.all.rows

pub succeed_row-requires-clause-leaf : goal.succeed_row-requires-clause-leaf
succeed_row-requires-clause-leaf c =
    placed_among c.args.stores.now c.args.attempt.now.caller (found_of c.args.gathered.now) c.args.id c.args.from c.args.leaf c.args.row c.requires.may c.requires.version c.requires.own c.requires.placed

pub returns-clause-run : goal.returns-clause-run
returns-clause-run c =
    succeeded_run (Ok tt) c.args.stores.now c.succeed_row.new.store c.args.attempt.now.caller (found_of c.args.gathered.now) c.args.from c.args.id c.args.leaf c.args.row c.in-Some.by c.requires.may c.requires.version c.requires.own c.requires.keys c.requires.of c.requires.placed c.requires.taken
    (sym c.in-Some.ensures.kept) (λ h txs store. c.in_ok-succeed_row.ensures.made h txs store)

pub returns-in_err-succeed_row-clause-run : goal.returns-in_err-succeed_row-clause-run
returns-in_err-succeed_row-clause-run c =
    handed_run c.from_residual.ensures.1
    (succeeded_run (Err c.in_err-succeed_row.field-0.0) c.args.stores.now c.succeed_row.new.store c.args.attempt.now.caller (found_of c.args.gathered.now) c.args.from c.args.id c.args.leaf c.args.row c.in-Some.by c.requires.may c.requires.version c.requires.own c.requires.keys c.requires.of c.requires.placed c.requires.taken
    (sym c.in-Some.ensures.kept) (λ h txs store. c.in_err-succeed_row.ensures.made h txs store))
