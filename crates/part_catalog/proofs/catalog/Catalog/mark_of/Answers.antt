use Rattle.std.proofs.Common.{◌∙◌, ap, List}
use Rattle.std.specs.List.{find}
use Rattle.history.specs.History.{tx_events}
use Rattle.part_catalog.specs.declared.stored.StoredEntry.{StoredEntry}
use Rattle.part_catalog.specs.Kept.{KeptCatalogue}
use Rattle.part_catalog.specs.Stands.{pending_below}
use Rattle.part_catalog.proofs.Told.{marker_is, no_marker_is}
use Rattle.part_catalog.proofs.catalog.Catalog.mark_of.Goals as goal

pub returns-in-Some : goal.returns-in-Some
returns-in-Some c h txs st =
    let rows = c.deref.ensures.value ∙ ap (λ (k : KeptCatalogue). k.entries) c.self.view_is in
    let found = c.in-Some.ensures h txs ∙ ap (λ (l : List StoredEntry). find (pending_below (tx_events h) c.args.session c.args.parent.number) l) rows in
    c.by_of.ensures ∙ marker_is c.args.self.now h c.args.session c.args.parent.number c.in-Some.x.now txs.sound st found

pub returns-in-None : goal.returns-in-None
returns-in-None c h txs st =
    let rows = c.deref.ensures.value ∙ ap (λ (k : KeptCatalogue). k.entries) c.self.view_is in
    let found = c.in-None.ensures h txs ∙ ap (λ (l : List StoredEntry). find (pending_below (tx_events h) c.args.session c.args.parent.number) l) rows in
    no_marker_is c.args.self.now h c.args.session c.args.parent.number txs.sound st found
