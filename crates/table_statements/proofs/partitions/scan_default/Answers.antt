use Rattle.part_ddl.specs.Below.{default_of}
use Rattle.ddl_steps.specs.Places.{default_scan}
use Rattle.ddl_steps.proofs.Cleaning.{found_clean, own_never}
use Rattle.table_statements.proofs.partitions.scan_default.Goals as goal

pub wait_for_snapshots-requires-clause-others : goal.wait_for_snapshots-requires-clause-others
wait_for_snapshots-requires-clause-others c =
    own_never c.args.attempt.now.caller.session c.judge_beside-judged.result c.args.stores.now c.args.attempt.now.caller c.requires.may
    (λ h. default_scan h c.args.attempt.now.caller.session c.args.parent.number c.args.place.now.bound c.args.name.now (default_of h c.args.attempt.now.caller.session c.args.parent.number)) c.judge_beside-judged.ensures.all

pub returns-clause-step : goal.returns-clause-step
returns-clause-step c =
    c.wait_for_snapshots.ensures.step (λ h. default_scan h c.args.attempt.now.caller.session c.args.parent.number c.args.place.now.bound c.args.name.now (default_of h c.args.attempt.now.caller.session c.args.parent.number))
    (λ h stands. c.judge_beside-judged.ensures.answer h (record { txs = stands.all.txs; rows = stands.all.rows; catalog = stands.all.catalog }))

pub returns-clause-clean : goal.returns-clause-clean
returns-clause-clean c =
    found_clean c.args.attempt.now.caller.session c.wait_for_snapshots.result c.judge_beside-judged.result c.args.stores.now c.wait_for_snapshots.new.stores c.wait_for_snapshots.ensures.rest
    (λ h. default_scan h c.args.attempt.now.caller.session c.args.parent.number c.args.place.now.bound c.args.name.now (default_of h c.args.attempt.now.caller.session c.args.parent.number))
    c.judge_beside-judged.ensures.answer c.judge_beside-judged.ensures.all c.wait_for_snapshots.ensures.none
