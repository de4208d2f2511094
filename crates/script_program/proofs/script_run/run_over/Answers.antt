use Rattle.std.proofs.Common.{rules}
use Rattle.script_program.proofs.RunEndings.{all_written, cut_on_out, setup_told, stopped, teardown_told}
use Rattle.script_program.proofs.script_run.run_over.Goals as goal

pub returns-in-Ok-All : goal.returns-in-Ok-All
returns-in-Ok-All g c v st =
    let step = c.in-Ok-All in
    all_written g.D.Database.rules g.D.Database.good v c.args.script.now _ c.requires g.K.Sink g.E.Sink _ _ _ ((rw step.field-0-is at step.ensures.done) v st) (search rules)

pub returns-in-Ok-SetupFailed : goal.returns-in-Ok-SetupFailed
returns-in-Ok-SetupFailed g c v st =
    let step = c.in-Ok-SetupFailed in
    setup_told g.D.Database.rules g.D.Database.good v c.args.script.now _ c.requires g.K.Sink g.E.Sink _ _ _ _ _ c.setup_line.result (λ line. line.items) step.session step.fault
    ((rw step.field-0-is at step.ensures.done) v st) (search rules) (rw c.as_slice-sessions.ensures at c.setup_line.ensures) c.refuse.ensures

pub returns-in-Ok-TeardownFailed : goal.returns-in-Ok-TeardownFailed
returns-in-Ok-TeardownFailed g c v st =
    let step = c.in-Ok-TeardownFailed in
    teardown_told g.D.Database.rules g.D.Database.good v c.args.script.now _ c.requires g.K.Sink g.E.Sink _ _ _ _ _ c.teardown_line.result (λ line. line.items) step.fault
    ((rw step.field-0-is at step.ensures.done) v st) (search rules) c.teardown_line.ensures c.refuse-in-Ok-TeardownFailed.ensures

pub returns-in-Err-Write : goal.returns-in-Err-Write
returns-in-Err-Write g c v st = cut_on_out g.D.Database.rules g.D.Database.good v c.args.script.now _ c.requires g.K.Sink g.E.Sink _ _ _ (c.in-Err-Write.ensures.cut v st) (search rules)

pub returns-in-Err-NoMemory : goal.returns-in-Err-NoMemory
returns-in-Err-NoMemory g c v st = stopped g.D.Database.rules g.D.Database.good v c.args.script.now _ c.requires g.K.Sink g.E.Sink _ _ _ (c.in-Err-NoMemory.ensures.cut v st) (search rules)
