use Rattle.step_engine.specs.Run.{opened}
use Rattle.step_engine.proofs.opening.partscript_run.Goals as goal

-- the stores are opened as the script's sessions want them
pub returns : goal.returns
returns g c = c.run_program.ensures opened (λ trail spec d opens. opens)
