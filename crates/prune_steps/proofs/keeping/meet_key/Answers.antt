use Rattle.std.proofs.Common.{◌≡◌, true, length, sym, ap, ◌∙◌}
use Rattle.std.specs.Prelude.{Some, None}
use Rattle.bound_forms.specs.declared.level.KeyColumn.{KeyColumn}
use Rattle.cond_logic.specs.Trees.{cond_tree}
use Rattle.prune_steps.specs.Asking.{asked_by, known_in, given_values, if_given}
use Rattle.prune_steps.specs.Atoms.{given, values_before}
use Rattle.prune_steps.specs.Kept.{full_key}
use Rattle.prune_steps.proofs.KeepLaws.{key_met, no_key_met, by_range_all, by_list_all}
use Rattle.prune_steps.proofs.keeping.meet_key.Goals as goal

pub returns-in-Range-clause-kept : goal.returns-in-Range-clause-kept
returns-in-Range-clause-kept g c = by_range_all _ _ c.args.set.now _ c.in-Range.is

pub returns-in-List-clause-kept : goal.returns-in-List-clause-kept
returns-in-List-clause-kept g c = by_list_all _ _ c.args.set.now _ c.in-List.is

pub returns-then-given-clause-kept : goal.returns-then-given-clause-kept
returns-then-given-clause-kept g c =
    let k = c.args.asking.now in
    let f = given (asked_by k) true (known_in k (cond_tree c.args.cond.now)) in
    let same : length k.level.now.columns ≡ length c.as_slice-first.result.now = ap (length {A = KeyColumn}) (sym c.as_slice-first.ensures) in
    let key : full_key (asked_by k) (known_in k (cond_tree c.args.cond.now)) ≡ Some (given_values f (length c.as_slice-first.result.now)) = ap (values_before f) same ∙ (c.gives_first-given.ensures ∙ ap (λ b. if_given b f (length c.as_slice-first.result.now)) c.if-given.true) in
    key_met k.level.now.strategy _ (given_values f (length c.as_slice-first.result.now)) c.args.set.now c.args.kept.now c.meet_accepting.new.kept c.in-Hash.is key c.meet_accepting.ensures.kept

pub returns-else-given-clause-kept : goal.returns-else-given-clause-kept
returns-else-given-clause-kept g c =
    let k = c.args.asking.now in
    let f = given (asked_by k) true (known_in k (cond_tree c.args.cond.now)) in
    let same : length k.level.now.columns ≡ length c.as_slice-first.result.now = ap (length {A = KeyColumn}) (sym c.as_slice-first.ensures) in
    let none : full_key (asked_by k) (known_in k (cond_tree c.args.cond.now)) ≡ None = ap (values_before f) same ∙ (c.gives_first-given.ensures ∙ ap (λ b. if_given b f (length c.as_slice-first.result.now)) c.if-given.false) in
    no_key_met k.level.now.strategy _ c.args.set.now _ none
