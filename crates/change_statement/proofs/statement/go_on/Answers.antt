use Rattle.std.proofs.Common.{All, sym, ◌∙◌, subst, List}
use Rattle.statement_steps.specs.Gathered.{Found, found_of}
use Rattle.statement_steps.specs.declared.rest.TargetRow.{TargetRow}
use Rattle.statement_steps.specs.Ended.{giving}
use Rattle.change_statement.specs.Changed.{all_changed, changed_on, told_by, told_of}
use Rattle.change_statement.specs.Changing.{changing}
use Rattle.change_statement.specs.Running.{IsRun, IsTargetIn, MayRun}
use Rattle.change_statement.proofs.Commands.{may_go, left_in, left_is_command}
use Rattle.change_statement.proofs.statement.go_on.Goals as goal

pub change_rows-requires-clause-may : goal.change_rows-requires-clause-may
change_rows-requires-clause-may c = subst (λ (g : Found). MayRun g c.args.stores.now c.args.attempt.now.caller) (sym c.into_parts-gathered.ensures.found) (may_go c.args.stores.now c.args.attempt.now.caller c.args.rest c.requires.may c.requires.next c.requires.own)

pub change_rows-requires-clause-targets : goal.change_rows-requires-clause-targets
change_rows-requires-clause-targets c =
    subst (λ (g : Found). All (IsTargetIn c.args.stores.now.rows g) c.deref.result.now) (sym c.into_parts-gathered.ensures.found)
    (subst (All (IsTargetIn c.args.stores.now.rows c.args.rest.found)) (sym (c.deref.ensures.value ∙ c.into_parts-gathered.ensures.left)) (left_in c.args.stores.now c.args.attempt.now.caller c.args.rest c.requires.own))

pub returns : goal.returns
returns c =
    left_is_command told_by c.change_rows.result c.args.stores.now c.change_rows.new.stores c.args.attempt.now.caller c.args.rest (λ h. giving (told_of c.args.rest.found) (changed_on (λ g. changing c.args.change c.args.attempt.now.caller g) c.args.attempt.now.names.now c.args.attempt.now.caller c.args.rest h)) c.requires.own
    (subst (λ n. IsRun c.args.rest.found told_by c.change_rows.result c.args.stores.now c.change_rows.new.stores c.args.attempt.now.caller (λ h. giving (told_of c.args.rest.found) (all_changed (changing c.args.change c.args.attempt.now.caller c.args.rest.found) c.args.attempt.now.names.now c.args.attempt.now.caller c.args.rest.found c.args.rest.left n h))) c.into_parts-gathered.ensures.changed
    (subst (λ (ts : List TargetRow). IsRun c.args.rest.found told_by c.change_rows.result c.args.stores.now c.change_rows.new.stores c.args.attempt.now.caller (λ h. giving (told_of c.args.rest.found) (all_changed (changing c.args.change c.args.attempt.now.caller c.args.rest.found) c.args.attempt.now.names.now c.args.attempt.now.caller c.args.rest.found ts c.into_parts-gathered.result.2 h))) (c.deref.ensures.value ∙ c.into_parts-gathered.ensures.left)
    (subst (λ (g : Found). IsRun g told_by c.change_rows.result c.args.stores.now c.change_rows.new.stores c.args.attempt.now.caller (λ h. giving (told_of g) (all_changed (changing c.args.change c.args.attempt.now.caller g) c.args.attempt.now.names.now c.args.attempt.now.caller g c.deref.result.now c.into_parts-gathered.result.2 h))) c.into_parts-gathered.ensures.found c.change_rows.ensures)))
