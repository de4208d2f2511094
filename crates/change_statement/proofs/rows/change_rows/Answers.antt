use Rattle.std.proofs.Common.{rules, ◌≡◌, ◌∷◌, [], Err, All, ap, refl, sym, subst, arith, length}
use Rattle.std.proofs.lemmas.List.Elements.{All-head}
use Rattle.stores.specs.declared.stores.Stores.{Stores}
use Rattle.statement_steps.specs.Ended.{giving}
use Rattle.statement_steps.specs.Gathered.{found_of}
use Rattle.statement_steps.proofs.Parts.{stays}
use Rattle.change_statement.specs.Changing.{changing}
use Rattle.change_statement.specs.Changed.{all_changed, paused, told_by, told_of}
use Rattle.change_statement.specs.Running.{IsRun, IsTargetIn, MayRun}
use Rattle.change_statement.specs.Standing.{standing}
use Rattle.change_statement.proofs.EachRow.{IsLeft, all_left, one_less, stops_there, waits_there, none_left, no_length}
use Rattle.change_statement.proofs.Renewed.{housing_stays}
use Rattle.change_statement.proofs.Runs.{counted_run, handed_run, no_memory_run, stopped_run}
use Rattle.change_statement.proofs.rows.change_rows.Goals as goal

pub loop-target-init : goal.loop-target-init
loop-target-init c = record {
  left = all_left c.requires.may c.requires.targets c.requires.few;
  housing = record { holders = c.in_ok-holders.ensures; last = tt };
}

pub change_row-requires-clause-housing : goal.change_row-requires-clause-housing
change_row-requires-clause-housing c = c.loop-target.invariant.housing

pub returns-in_err-holders : goal.returns-in_err-holders
returns-in_err-holders c =
    let g = found_of c.args.gathered in
    handed_run c.from_residual.ensures.1
    (no_memory_run g told_by c.args.stores.now c.args.stores.now c.args.attempt.now.caller (λ h. giving (told_of g) (all_changed (changing c.args.change c.args.attempt.now.caller g) c.args.attempt.now.names.now c.args.attempt.now.caller g c.args.targets.now c.args.changed h)) (stays c.args.stores.now c.args.attempt.now.caller.session))

pub change_row-requires-clause-may : goal.change_row-requires-clause-may
change_row-requires-clause-may c = c.loop-target.invariant.left.may

pub change_row-requires-clause-target : goal.change_row-requires-clause-target
change_row-requires-clause-target c =
    let whole : c.loop-target.left.now ≡ c.in-Some.target.now ∷ c.in-Some.others.now = search rules in
    All-head (IsTargetIn c.loop-target.stores.rows (found_of c.args.gathered)) c.in-Some.target.now c.in-Some.others.now (subst (All (IsTargetIn c.loop-target.stores.rows (found_of c.args.gathered))) whole c.loop-target.invariant.left.all)

pub change_row-requires-clause-few : goal.change_row-requires-clause-few
change_row-requires-clause-few c =
    let whole : c.loop-target.left.now ≡ c.in-Some.target.now ∷ c.in-Some.others.now = search rules in
    let long = ap length whole in
    let few = c.loop-target.invariant.left.few in
    omega (arith, few, long)

pub pause-requires-clause-may : goal.pause-requires-clause-may
pause-requires-clause-may c = subst (λ (s : Stores). MayRun (found_of c.args.gathered) s c.args.attempt.now.caller) (sym (rw c.in-Waits.is at c.in_ok-turn.ensures.turn).0) c.loop-target.invariant.left.may

pub pause-requires-clause-another : goal.pause-requires-clause-another
pause-requires-clause-another c = (rw c.in-Waits.is at c.in_ok-turn.ensures.turn).2

pub pause-requires-clause-known : goal.pause-requires-clause-known
pause-requires-clause-known c = (rw c.in-Waits.is at c.in_ok-turn.ensures.turn).3

pub pause-requires-clause-left : goal.pause-requires-clause-left
pause-requires-clause-left c = subst (λ (s : Stores). All (IsTargetIn s.rows (found_of c.args.gathered)) c.loop-target.left.now) (sym (rw c.in-Waits.is at c.in_ok-turn.ensures.turn).0) c.loop-target.invariant.left.all

pub pause-requires-clause-few : goal.pause-requires-clause-few
pause-requires-clause-few c = c.loop-target.invariant.left.few

pub returns-in-Waits : goal.returns-in-Waits
returns-in-Waits c =
    let g = found_of c.args.gathered in
    let change = changing c.args.change c.args.attempt.now.caller g in
    let names = c.args.attempt.now.names.now in
    let whole : c.loop-target.left.now ≡ c.in-Some.target.now ∷ c.in-Some.others.now = search rules in
    stopped_run (told_of g)
    (waits_there (subst (λ ts. IsLeft c.args.stores.now c.loop-target.stores c.args.attempt.now.caller g change names c.args.targets.now ts c.args.changed c.loop-target.changed) whole c.loop-target.invariant.left) (rw c.in-Waits.is at c.in_ok-turn.ensures.turn)
    (subst (λ ts. IsRun g (λ (u : Unit {0}). u) (Err c.pause.result) c.change_row.new.stores c.pause.new.stores c.args.attempt.now.caller (λ h. paused names c.args.attempt.now.caller c.in-Waits.other (standing h c.args.attempt.now.caller g ts c.loop-target.changed) h)) whole c.pause.ensures))

pub returns-in_err-turn : goal.returns-in_err-turn
returns-in_err-turn c =
    let g = found_of c.args.gathered in
    let change = changing c.args.change c.args.attempt.now.caller g in
    let whole : c.loop-target.left.now ≡ c.in-Some.target.now ∷ c.in-Some.others.now = search rules in
    handed_run c.from_residual-in_err-turn.ensures.1 (stopped_run (told_of g)
    (stops_there (subst (λ ts. IsLeft c.args.stores.now c.loop-target.stores c.args.attempt.now.caller g change c.args.attempt.now.names.now c.args.targets.now ts c.args.changed c.loop-target.changed) whole c.loop-target.invariant.left) c.in_err-turn.ensures.turn))

pub loop-target-preserved : goal.loop-target-preserved
loop-target-preserved c =
    let g = found_of c.args.gathered in
    let change = changing c.args.change c.args.attempt.now.caller g in
    let whole : c.loop-target.left.now ≡ c.in-Some.target.now ∷ c.in-Some.others.now = search rules in
    let turn = rw c.in-Counted.is at c.in_ok-turn.ensures.turn in
    record {
      left = one_less (subst (λ ts. IsLeft c.args.stores.now c.loop-target.stores c.args.attempt.now.caller g change c.args.attempt.now.names.now c.args.targets.now ts c.args.changed c.loop-target.changed) whole c.loop-target.invariant.left) turn;
      housing = housing_stays c.loop-target.stores c.change_row.new.stores c.args.attempt.now.caller.session g.tree c.change_row.new.housing turn.1 c.in_ok-turn.ensures.housing;
    }

pub returns : goal.returns
returns c =
    let g = found_of c.args.gathered in
    let change = changing c.args.change c.args.attempt.now.caller g in
    let none : c.loop-target.left.now ≡ [] = no_length c.loop-target.left.now c.in_default.ensures.cases in
    counted_run (told_of g) refl
    (none_left (subst (λ ts. IsLeft c.args.stores.now c.loop-target.stores c.args.attempt.now.caller g change c.args.attempt.now.names.now c.args.targets.now ts c.args.changed c.loop-target.changed) none c.loop-target.invariant.left))
