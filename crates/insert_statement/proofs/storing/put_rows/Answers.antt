use Rattle.std.proofs.Common.{sym}
use Rattle.statement_steps.proofs.Steps.{handed_on}
use Rattle.insert_statement.proofs.Stored.{put_ok, put_refused}
use Rattle.insert_statement.proofs.storing.put_rows.Goals as goal

pub store_rows-requires-clause-fits : goal.store_rows-requires-clause-fits
store_rows-requires-clause-fits c = c.requires.rows.fits

pub store_rows-requires-clause-targets : goal.store_rows-requires-clause-targets
store_rows-requires-clause-targets c = c.requires.rows.numbered

pub store_rows-requires-clause-leaves : goal.store_rows-requires-clause-leaves
store_rows-requires-clause-leaves c = c.requires.rows.known

pub store_rows-requires-clause-told : goal.store_rows-requires-clause-told
store_rows-requires-clause-told c = c.requires.rows.told

pub store_rows-requires-clause-runs : goal.store_rows-requires-clause-runs
store_rows-requires-clause-runs c = (c.args.attempt.now.caller.session, sym c.in-Some.ensures.kept)

pub returns : goal.returns
returns c =
    put_ok c.args.stores.now c.store_rows.new.store c.args.attempt.now.caller c.args.targets.now c.args.leaves.now c.args.rows.items c.requires.may
    (record { by = c.in-Some.by; own = c.in-Some.ensures.is; may = c.requires.rows.may; made = c.in_ok-store_rows.ensures.made })

pub returns-in_err-store_rows : goal.returns-in_err-store_rows
returns-in_err-store_rows c =
    handed_on c.from_residual.ensures.1 (put_refused c.args.stores.now c.store_rows.new.store c.args.attempt.now.caller c.args.targets.now c.args.leaves.now c.args.rows.items c.in_err-store_rows.field-0.0 c.requires.may
    (record { by = c.in-Some.by; own = c.in-Some.ensures.is; may = c.requires.rows.may; made = c.in_err-store_rows.ensures.made }))
