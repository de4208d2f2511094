use Rattle.std.proofs.Common.{◌∙◌, Some, None}
use Rattle.part_ddl.proofs.Defaults.{last_tells}
use Rattle.part_ddl.proofs.below.default_of.Goals as goal

pub returns-in-Some : goal.returns-in-Some
returns-in-Some c = λ h txs st.
    c.default_told.ensures ∙ last_tells c.args.txs.now c.args.catalog.now h c.args.session c.args.table.number (Some c.in-Some.last.now) c.requires.siblings txs st (c.in-Some.ensures h txs st)

pub returns-in-None : goal.returns-in-None
returns-in-None c = λ h txs st.
    last_tells c.args.txs.now c.args.catalog.now h c.args.session c.args.table.number None c.requires.siblings txs st (c.in-None.ensures h txs st)
