use Rattle.std.proofs.Common.{◌==◌, ap, sym, ◌∙◌, length}
use Rattle.std.specs.Prelude.{is_some}
use Rattle.alter_table.specs.Skipped.{kept_for}
use Rattle.alter_table.proofs.LeftOut.{partly, wholly}
use Rattle.alter_table.proofs.skipping.asks_nothing.Goals as goal
use Rattle.ddl_steps.specs.Families.{parent_in}

pub returns-then-is_there : goal.returns-then-is_there
returns-then-is_there c = λ h txs catalog.
    let s = c.args.session in
    let t = c.args.table.number in
    partly (parent_in h s t) (length (kept_for h s t) == 0) (ap is_some (sym (c.parent_of.ensures h txs catalog)) ∙ (sym c.is_there.ensures ∙ c.if-is_there.true))

pub returns-else-is_there : goal.returns-else-is_there
returns-else-is_there c = λ h txs catalog.
    let s = c.args.session in
    let t = c.args.table.number in
    wholly (parent_in h s t) c.is_unchecked.result (length (kept_for h s t) == 0) (ap is_some (sym (c.parent_of.ensures h txs catalog)) ∙ (sym c.is_there.ensures ∙ c.if-is_there.false)) (c.is_unchecked.ensures h s t (c.requires.path h txs catalog))
