use Rattle.std.proofs.Common.{false}
use Rattle.script_program.proofs.program.do_work.Goals as goal

pub returns-in-Run : goal.returns-in-Run
returns-in-Run g c opened stands = rw c.in-Run.is (c.run_text.ensures (opened c.in-Run.trail) (stands c.in-Run.trail))

pub returns-in-Check : goal.returns-in-Check
returns-in-Check g c opened stands = rw c.in-Check.is c.check_text.ensures

pub returns-in-Load : goal.returns-in-Load
returns-in-Load g c opened stands = rw c.in-Load.is (c.run_seed.ensures (opened false) (stands false))
