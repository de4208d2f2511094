use Rattle.std.proofs.Common.{ap, sym, ◌∙◌, subst, All}
use Rattle.std.specs.List.{list_any}
use Rattle.alter_table.proofs.keeping.is_kept.Goals as goal
use Rattle.ddl_steps.specs.Checks.{same_check}
use Rattle.ddl_steps.proofs.Checks.{IsKeptOfLevel, kept_have_levels}

pub has_equal-requires-clause-all : goal.has_equal-requires-clause-all
has_equal-requires-clause-all c =
    let a = c.requires.siblings in
    subst (All IsKeptOfLevel) (sym (c.as_slice.ensures ∙ c.in_ok-checks.ensures a.h a.txs a.catalogue)) (kept_have_levels a.h c.args.session c.args.table.number a.catalogue.sound)

pub returns : goal.returns
returns c = λ h txs catalog.
    c.has_equal.ensures ∙ ap (list_any (λ k. same_check k c.args.check.now)) (c.as_slice.ensures ∙ c.in_ok-checks.ensures h txs catalog)
