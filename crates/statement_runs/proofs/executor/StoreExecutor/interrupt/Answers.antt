use Rattle.std.proofs.Common.{rules, ◌≡◌, ◌++◌, ◌∷◌, [], map, sym, ◌∙◌}
use Rattle.prepared_statements.specs.Kept.{listed}
use Rattle.statement_runs.proofs.Cuts.{cut_stands, cut_lower}
use Rattle.statement_runs.proofs.executor.StoreExecutor.interrupt.Goals as goal

pub returns-clause-stands : goal.returns-clause-stands
returns-clause-stands c =
    let pushed : c.push.new.self.items ≡ c.args.self.now.cut.items ++ c.args.session ∷ [] = search rules in
    λ v stands. cut_stands c.args.self.now.options c.args.self.now.seats c.cancel.new.self (map listed c.args.self.now.prepared.items) c.args.self.now.cut.items c.push.new.self.items c.args.self.now.tally v c.args.session
    (sym c.is_waiting.ensures.is ∙ c.if-not-is_waiting.false) c.cancel.ensures.adds c.cancel.ensures.opened c.cancel.ensures.commands c.cancel.ensures.cancelled c.cancel.ensures.rests pushed stands

pub returns-clause-lower : goal.returns-clause-lower
returns-clause-lower c =
    let pushed : c.push.new.self.items ≡ c.args.self.now.cut.items ++ c.args.session ∷ [] = search rules in
    cut_lower c.args.self.now.seats c.cancel.new.self c.args.self.now.cut.items c.push.new.self.items c.args.session c.cancel.ensures.lower c.cancel.ensures.opened pushed
