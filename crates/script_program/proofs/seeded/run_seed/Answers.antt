use Rattle.std.proofs.Common.{[], inl, refl, ◌∙◌}
use Rattle.script_program.specs.Outcomes.{Stopped}
use Rattle.script_program.proofs.Endings.{nothing, nothing_of}
use Rattle.script_program.proofs.seeded.run_seed.Goals as goal

pub run_load-requires : goal.run_load-requires
run_load-requires g c = c.deref.ensures.value ∙ c.in-Ok.ensures

pub returns-in-Ok : goal.returns-in-Ok
returns-in-Ok g c = c.run_load.ensures

pub returns-in-Err : goal.returns-in-Err
returns-in-Err g c opened stands = Stopped [] (inl refl) refl (nothing_of g.K.Sink _ []) (nothing g.E.Sink _)
