use Rattle.std.proofs.Common.{◌≡◌, ap, false, true, sym, ◌∙◌}
use Rattle.std.specs.Prelude.{is_some}
use Rattle.std.proofs.lemmas.Result.{IfOk-weaker}
use Rattle.row_router.specs.Seen.{seen}
use Rattle.plan_tree.specs.Asks.{keeps_alone}
use Rattle.plan_tree.specs.Kept.{is_plain, keeps_plain}
use Rattle.plan_tree.proofs.Plain.{level_below, plain_below, plain_drops}
use Rattle.plan_tree.proofs.pruning.prune_by.Goals as goal

pub returns-in-None-clause-leaves : goal.returns-in-None-clause-leaves
returns-in-None-clause-leaves c =
    let plain : is_plain (seen c.args.tree.now) ≡ false = c.requires.plain ∙ ap is_some c.in-None.is in
    IfOk-weaker c.prune_kept.result _ _ (λ _ h. h ∙ level_below (keeps_alone c.args.steps.now) (seen c.args.tree.now) plain) c.prune_kept.ensures.leaves

pub returns-then-not-is_plain_kept-clause-tables : goal.returns-then-not-is_plain_kept-clause-tables
returns-then-not-is_plain_kept-clause-tables c =
    let plain : is_plain (seen c.args.tree.now) ≡ true = c.requires.plain ∙ ap is_some c.in-Some.is in
    let out : keeps_plain (keeps_alone c.args.steps.now) ≡ false = sym c.is_plain_kept.ensures ∙ c.if-not-is_plain_kept.true in
    c.kept_parts.ensures.tables ∙ (c.new.ensures.items ∙ sym (plain_drops (keeps_alone c.args.steps.now) (seen c.args.tree.now) plain out).1)

pub returns-then-not-is_plain_kept-clause-leaves : goal.returns-then-not-is_plain_kept-clause-leaves
returns-then-not-is_plain_kept-clause-leaves c =
    let plain : is_plain (seen c.args.tree.now) ≡ true = c.requires.plain ∙ ap is_some c.in-Some.is in
    let out : keeps_plain (keeps_alone c.args.steps.now) ≡ false = sym c.is_plain_kept.ensures ∙ c.if-not-is_plain_kept.true in
    c.kept_parts.ensures.leaves ∙ (c.new-then-not-is_plain_kept.ensures.items ∙ sym (plain_drops (keeps_alone c.args.steps.now) (seen c.args.tree.now) plain out).0)

pub returns-else-not-is_plain_kept-clause-leaves : goal.returns-else-not-is_plain_kept-clause-leaves
returns-else-not-is_plain_kept-clause-leaves c =
    let plain : is_plain (seen c.args.tree.now) ≡ true = c.requires.plain ∙ ap is_some c.in-Some.is in
    let kept : keeps_plain (keeps_alone c.args.steps.now) ≡ true = sym c.is_plain_kept.ensures ∙ c.if-not-is_plain_kept.false in
    IfOk-weaker c.prune_kept-in-Some.result _ _ (λ _ h. h ∙ plain_below (keeps_alone c.args.steps.now) (seen c.args.tree.now) plain kept) c.prune_kept-in-Some.ensures.leaves
