use Rattle.std.proofs.Common.{[], inl, refl, subst, ℕ, List}
use Rattle.schedule.proofs.Results.{ok_more}
use Rattle.spec_reader.specs.Specs.{IsRefused, IsScript}
use Rattle.script_program.specs.declared.ended.Ended.TheVariants.{ScriptRefused}
use Rattle.script_program.specs.Lines.{fault_line}
use Rattle.script_program.specs.Outcomes.{Outcome, Stopped, refusal}
use Rattle.script_program.specs.Seeded.{RunCounts, SeedEnds, Accepted, Refused}
use Rattle.script_program.proofs.Endings.{ends_more, nothing, nothing_of, refused}
use Rattle.script_program.proofs.Limits.{few_sessions}
use Rattle.script_program.proofs.SeedLaws.{at_once_more}
use Rattle.script_program.proofs.seeded.run_load.Goals as goal

pub open-requires : goal.open-requires
open-requires g c = few_sessions c.args.text.now c.in-Ok.script c.in-Ok.ensures.0

pub returns-in-Ok-open : goal.returns-in-Ok-open
returns-in-Ok-open g c opened stands =
    let R = g.O.Db.Database.rules in
    let Good = g.O.Db.Database.good in
    let script = c.in-Ok.script in
    let seed = c.args.seed in
    let is = subst (λ (text : List ℕ). IsScript text script) c.requires c.in-Ok.ensures.0 in
    let more : (o : Outcome) → RunCounts R Good (opened script) script seed o → SeedEnds R Good opened seed o = λ o counts. Accepted script is counts in
    ends_more g.K.Sink g.E.Sink _ _ _ _ _ _ _ (SeedEnds R Good opened seed) _ more (at_once_more (RunCounts R Good (opened script) script seed) (SeedEnds R Good opened seed) more)
    (c.count_over.ensures (opened script) (stands script c.in-Ok-open.db c.in-Ok-open.ensures.opens))

pub returns-in-Ok : goal.returns-in-Ok
returns-in-Ok g c opened stands = Stopped [] (inl refl) refl (nothing_of g.K.Sink _ []) (nothing g.E.Sink _)

pub returns : goal.returns
returns g c opened stands =
    refused g.K.Sink g.E.Sink _ _ _ _ _ _ _ c.fault_line.result (λ line. line.items) (refusal ScriptRefused (fault_line c.in-Err.fault))
    (ok_more _ _ _ (λ known. Refused c.in-Err.fault (record { refused = subst (λ (text : List ℕ). IsRefused text c.in-Err.fault) c.requires c.in-Err.ensures; known = known }) refl) c.fault_line.ensures.known) (inl refl) refl (nothing g.K.Sink _)
    c.fault_line.ensures.line c.refuse.ensures
