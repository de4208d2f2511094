use Rattle.std.proofs.Common.{◌∙◌, ◌≤◌, [], map, subst, sym, ap, length, All, IfOk, Ok}
use Rattle.std.proofs.lemmas.List.{length-map}
use Rattle.row_router.specs.Seen.{seen}
use Rattle.sql_ast.specs.Queries.{joined_tree, select_tree}
use Rattle.sql_binder.specs.Selects.{from_of}
use Rattle.stores.specs.declared.stores.Stores.{Stores}
use Rattle.statement_steps.specs.Known.{IsKnownTo}
use Rattle.statement_steps.specs.Steps.{IsStep}
use Rattle.statement_steps.proofs.Steps.{goes, handed_on, may_go_on, moved, stops}
use Rattle.statement_steps.specs.Below.{number_of}
use Rattle.select_statement.specs.Gathered.{found_by, found_in}
use Rattle.select_statement.specs.Lent.{IsTreeFor, IsLookFor}
use Rattle.select_statement.specs.Selected.{named_from}
use Rattle.select_statement.specs.declared.gathered.Gathered.{Gathered}
use Rattle.select_statement.proofs.Naming.{few_stay, numbers}
use Rattle.select_statement.proofs.gathering.gather.Goals as goal

pub returns-in_err-tables-clause-step : goal.returns-in_err-tables-clause-step
returns-in_err-tables-clause-step c =
    handed_on c.from_residual.ensures.1 (stops (named_from c.args.attempt.now.names.now c.args.attempt.now.caller [] (from_of (select_tree c.args.select.now))) (found_in c.args.how c.args.params.now c.args.attempt.now.caller (select_tree c.args.select.now))
    (moved (λ items. named_from c.args.attempt.now.names.now c.args.attempt.now.caller [] (map joined_tree items)) _ _ c.as_slice.ensures c.in_err-tables.ensures.step))

pub find-requires-clause-may : goal.find-requires-clause-may
find-requires-clause-may c = may_go_on numbers _ _ _ _ _ c.requires.may c.in_ok-tables.ensures.step

pub find-requires-clause-few : goal.find-requires-clause-few
find-requires-clause-few c = few_stay c.args.stores.now c.lock_items.new.stores c.lock_items.ensures.rest c.requires.few

pub find-requires-clause-each : goal.find-requires-clause-each
find-requires-clause-each c =
    ap length c.deref.ensures.value ∙ c.in_ok-tables.ensures.count ∙ ap length c.as_slice.ensures ∙ sym (length-map c.args.select.now.from joined_tree)

pub find-requires-clause-known : goal.find-requires-clause-known
find-requires-clause-known c = subst (All (λ t. IsKnownTo c.lock_items.new.stores c.args.attempt.now.caller.session t.number)) (sym c.deref.ensures.value) c.in_ok-tables.ensures.known

pub returns-clause-step : goal.returns-clause-step
returns-clause-step c =
    let t = select_tree c.args.select.now in
    let found = subst (λ items. IsStep numbers (Ok c.in_ok-tables.tables) c.args.stores.now c.lock_items.new.stores c.args.attempt.now.caller c.args.attempt.now.caller.cmd (named_from c.args.attempt.now.names.now c.args.attempt.now.caller [] (map joined_tree items))) c.as_slice.ensures c.in_ok-tables.ensures.step in
    let over = subst (λ ts. IsStep found_by c.find.result c.lock_items.new.stores c.lock_items.new.stores c.args.attempt.now.caller c.args.attempt.now.caller.cmd (found_in c.args.how c.args.params.now c.args.attempt.now.caller t (map number_of ts))) c.deref.ensures.value c.find.ensures.step in
    goes (named_from c.args.attempt.now.names.now c.args.attempt.now.caller [] (from_of t)) (found_in c.args.how c.args.params.now c.args.attempt.now.caller t) found
    (subst (λ (s : Stores). IsStep found_by c.find.result c.lock_items.new.stores s c.args.attempt.now.caller c.args.attempt.now.caller.cmd (found_in c.args.how c.args.params.now c.args.attempt.now.caller t (map number_of c.in_ok-tables.tables.items))) (sym c.find.ensures.same) over)

pub returns-clause-trees : goal.returns-clause-trees
returns-clause-trees c = subst (λ (s : Stores). IfOk c.find.result (λ (g : Gathered). All (λ t. IsTreeFor s c.args.attempt.now.caller (seen t)) g.trees)) (sym c.find.ensures.same) c.find.ensures.trees

pub returns-clause-look : goal.returns-clause-look
returns-clause-look c = subst (λ (s : Stores). IfOk c.find.result (λ (g : Gathered). IsLookFor s c.args.attempt.now.caller g.snap)) (sym c.find.ensures.same) c.find.ensures.look
