use Rattle.std.proofs.Common.{◌<◌, ◌∙◌, [], ap, length, map, slice_index_or, sym, subst}
use Rattle.sql_ast.specs.Statements.{statement_tree}
use Rattle.prepared_statements.specs.Kept.{listed}
use Rattle.statement_runs.specs.Database.{cut_by}
use Rattle.statement_runs.specs.Roles.{cancelled_by}
use Rattle.statement_runs.proofs.Cuts.{run_lower}
use Rattle.statement_runs.proofs.Runs.{if_three_on, if_on, if_ok, after_cuts, lists_ran, stands_ran, outcome_ran, text_ran}
use Rattle.statement_runs.proofs.Once.{once_on, others_on}
use Rattle.statement_runs.proofs.executor.StoreExecutorExecutor.run.Goals as goal

pub returns-clause-stands : goal.returns-clause-stands
returns-clause-stands c = if_three_on c.run-ran.result _ _ _ _ c.run-ran.ensures.ran c.run-ran.ensures.tally c.run-ran.ensures.prepared
    (λ x ran grown kept v stands.
    let t = statement_tree c.args.statement.now in
    let first = map listed c.args.self.now.prepared.items in
    let lists = map listed c.interrupt_all.new.self.prepared.items in
    let before = after_cuts c.args.self.now.options c.interrupt_all.new.self.options c.args.self.now.seats c.interrupt_all.new.self.seats first lists c.args.self.now.cut.items c.interrupt_all.new.self.cut.items
    c.deref-2.result.now c.count-sessions.result c.args.asker t c.args.self.now.tally c.interrupt_all.new.self.tally v
    (c.deref-2.ensures.value ∙ (c.in_ok-others.ensures ∙ ap (λ ls. cancelled_by c.args.asker.session c.count-sessions.result (slice_index_or (map listed ls) c.args.asker.session []) t) c.deref.ensures.value))
    c.count-sessions.ensures.is stands (c.in_ok-interrupt_all.ensures.stands v stands) in
    stands_ran c.interrupt_all.new.self.options c.interrupt_all.new.self.seats c.run-ran.new.self lists (map listed c.set_list.new.lists.items) c.args.asker c.args.settings (listed c.take_list-prepared.result) t
    c.args.out.now.items c.run-ran.new.out.items x c.interrupt_all.new.self.cut.items c.interrupt_all.new.self.tally c.run-ran.new.tally (cut_by v c.args.asker t) before c.take_list-prepared.ensures.is
    (lists_ran lists (map listed c.take_list-prepared.new.lists.items) (map listed c.set_list.new.lists.items) c.args.asker.session _ (listed c.run-ran.new.prepared) c.take_list-prepared.ensures.taken c.set_list.ensures kept)
    (ran (cut_by v c.args.asker t).history before.tells) (grown (cut_by v c.args.asker t).history before.tells) c.run-ran.ensures.opened)

pub returns-clause-outcome : goal.returns-clause-outcome
returns-clause-outcome c = if_ok c.run-ran.result _ _ c.run-ran.ensures.ran
    (λ x ran v stands.
    let t = statement_tree c.args.statement.now in
    let first = map listed c.args.self.now.prepared.items in
    let lists = map listed c.interrupt_all.new.self.prepared.items in
    let before = after_cuts c.args.self.now.options c.interrupt_all.new.self.options c.args.self.now.seats c.interrupt_all.new.self.seats first lists c.args.self.now.cut.items c.interrupt_all.new.self.cut.items
    c.deref-2.result.now c.count-sessions.result c.args.asker t c.args.self.now.tally c.interrupt_all.new.self.tally v
    (c.deref-2.ensures.value ∙ (c.in_ok-others.ensures ∙ ap (λ ls. cancelled_by c.args.asker.session c.count-sessions.result (slice_index_or (map listed ls) c.args.asker.session []) t) c.deref.ensures.value))
    c.count-sessions.ensures.is stands (c.in_ok-interrupt_all.ensures.stands v stands) in
    outcome_ran c.interrupt_all.new.self.options c.interrupt_all.new.self.seats c.run-ran.new.self lists c.args.asker c.args.settings (listed c.take_list-prepared.result) t
    c.args.out.now.items c.run-ran.new.out.items x c.interrupt_all.new.self.cut.items c.interrupt_all.new.self.tally (cut_by v c.args.asker t) before c.take_list-prepared.ensures.is (ran (cut_by v c.args.asker t).history before.tells))

pub returns-clause-text : goal.returns-clause-text
returns-clause-text c = if_on c.run-ran.result _ _ c.run-ran.ensures.ran
    (λ x ran v stands.
    let t = statement_tree c.args.statement.now in
    let first = map listed c.args.self.now.prepared.items in
    let lists = map listed c.interrupt_all.new.self.prepared.items in
    let before = after_cuts c.args.self.now.options c.interrupt_all.new.self.options c.args.self.now.seats c.interrupt_all.new.self.seats first lists c.args.self.now.cut.items c.interrupt_all.new.self.cut.items
    c.deref-2.result.now c.count-sessions.result c.args.asker t c.args.self.now.tally c.interrupt_all.new.self.tally v
    (c.deref-2.ensures.value ∙ (c.in_ok-others.ensures ∙ ap (λ ls. cancelled_by c.args.asker.session c.count-sessions.result (slice_index_or (map listed ls) c.args.asker.session []) t) c.deref.ensures.value))
    c.count-sessions.ensures.is stands (c.in_ok-interrupt_all.ensures.stands v stands) in
    text_ran c.interrupt_all.new.self.options c.interrupt_all.new.self.seats c.run-ran.new.self lists c.args.asker c.args.settings (listed c.take_list-prepared.result) t
    c.args.out.now.items c.run-ran.new.out.items x c.interrupt_all.new.self.cut.items c.interrupt_all.new.self.tally (cut_by v c.args.asker t) before c.take_list-prepared.ensures.is (ran (cut_by v c.args.asker t).history before.tells))

pub returns-clause-lower : goal.returns-clause-lower
returns-clause-lower c = λ waits. run_lower c.args.self.now.seats c.interrupt_all.new.self.seats c.run-ran.new.self c.args.self.now.cut.items c.interrupt_all.new.self.cut.items c.in_ok-interrupt_all.ensures.lower (c.run-ran.ensures.lower waits) c.run-ran.ensures.opened

pub returns-clause-once : goal.returns-clause-once
returns-clause-once c =
    once_on c.interrupt_all.new.self.options c.args.self.now.seats c.interrupt_all.new.self.seats c.run-ran.new.self c.args.asker c.args.settings (listed c.take_list-prepared.result) (statement_tree c.args.statement.now) c.args.out.now.items c.run-ran.new.out.items c.run-ran.result
    c.in_ok-interrupt_all.ensures.rests (subst (λ xs. c.args.asker.session < length xs) (sym c.in_ok-interrupt_all.ensures.opened) c.requires.known) c.run-ran.ensures.ran c.run-ran.ensures.heard

pub returns-clause-others : goal.returns-clause-others
returns-clause-others c =
    others_on c.interrupt_all.new.self.options c.args.self.now.seats c.interrupt_all.new.self.seats c.run-ran.new.self c.args.asker c.args.settings (listed c.take_list-prepared.result) (statement_tree c.args.statement.now) c.args.out.now.items c.run-ran.new.out.items c.run-ran.result
    c.in_ok-interrupt_all.ensures.rests c.run-ran.ensures.ran c.run-ran.ensures.heard
