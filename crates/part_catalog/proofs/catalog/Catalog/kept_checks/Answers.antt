use Rattle.std.proofs.Common.{◌∙◌, ap}
use Rattle.part_catalog.specs.Kept.{KeptCatalogue}
use Rattle.part_catalog.proofs.Upwards.{checks_told}
use Rattle.part_catalog.proofs.catalog.Catalog.kept_checks.Goals as goal

pub returns : goal.returns
returns c h txs st =
    checks_told c.args.self.now h c.args.session c.args.table.number c.in_ok-checks.checks c.deref.result.now st (c.deref.ensures.value ∙ ap (λ (k : KeptCatalogue). k.checks) c.self.view_is) (c.in_ok-checks.ensures h txs)
