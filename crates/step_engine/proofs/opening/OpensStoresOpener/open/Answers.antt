use Rattle.std.proofs.Common.{◌≡◌, ◌+◌, ◌∙◌, ℕ, List, ap, length}
use Rattle.std.proofs.lemmas.List.{length-replicate}
use Rattle.statement_runs.specs.Database.{empty}
use Rattle.statement_runs.specs.declared.options.Options.{Options}
use Rattle.step_engine.specs.Run.{options}
use Rattle.step_engine.proofs.Opened.{opened_so}
use Rattle.step_engine.proofs.opening.OpensStoresOpener.open.Goals as goal

pub returns-clause-opens : goal.returns-clause-opens
returns-clause-opens g c =
    let trail = c.args.trail in
    let told : List (List ℕ) → Options = λ names. record { names = names; trail = trail } in
    let count = c.len.result + 1 in
    let script = c.args.script.now in
    let all = length script.sessions + 1 in
    let more : count ≡ all = ap (λ (k : ℕ). k + 1) c.len.ensures in
    opened_so _ c.new-2.result c.in_ok-executor.executor (empty (told c.in_ok-names.names) count) (empty (options trail script) all) (length c.in_ok-executor.executor.seats.opened) all c.new-2.ensures.stands c.in_ok-executor.ensures.stands
    (ap (λ (names : List (List ℕ)). empty (told names) count) c.in_ok-names.ensures ∙ ap (empty (options trail script)) more)
    (ap length c.in_ok-executor.ensures.opened ∙ (length-replicate count _ ∙ more))
