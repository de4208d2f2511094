use Rattle.std.proofs.Common.{ap, sym, ◌∙◌, subst, All}
use Rattle.std.specs.List.{list_any}
use Rattle.ddl_steps.proofs.implying.is_implied.Goals as goal
use Rattle.ddl_steps.specs.Checks.{implies}
use Rattle.ddl_steps.proofs.Checks.{IsKeptOfLevel, kept_have_levels}

pub has_implying-requires-clause-all : goal.has_implying-requires-clause-all
has_implying-requires-clause-all c =
    let a = c.requires.siblings in
    subst (All IsKeptOfLevel) (sym (c.as_slice.ensures ∙ c.in_ok-checks.ensures a.h a.txs a.catalogue)) (kept_have_levels a.h c.args.session c.args.table.number a.catalogue.sound)

pub returns : goal.returns
returns c = λ h txs catalog.
    c.has_implying.ensures ∙ ap (list_any (implies c.args.level.now c.args.bound.now)) (c.as_slice.ensures ∙ c.in_ok-checks.ensures h txs catalog)
