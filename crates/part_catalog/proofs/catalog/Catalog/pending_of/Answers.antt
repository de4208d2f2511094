use Rattle.std.proofs.Common.{◌∙◌, ap, List, Option}
use Rattle.std.specs.List.{find}
use Rattle.std.specs.Option.{option_map}
use Rattle.history.specs.History.{tx_events}
use Rattle.part_catalog.specs.declared.stored.StoredEntry.{StoredEntry}
use Rattle.part_catalog.specs.Kept.{KeptCatalogue, entry_in}
use Rattle.part_catalog.specs.Stands.{pending_below}
use Rattle.part_catalog.specs.Answers.{child_told}
use Rattle.part_catalog.proofs.Told.{pending_entry_told}
use Rattle.part_catalog.proofs.catalog.Catalog.pending_of.Goals as goal

pub returns-in-Some : goal.returns-in-Some
returns-in-Some c h txs st =
    let rows = c.deref.ensures.value ∙ ap (λ (k : KeptCatalogue). k.entries) c.self.view_is in
    ap (λ (o : Option StoredEntry). child_told (option_map entry_in o)) (c.in-Some.ensures h txs)
    ∙ ap (λ (l : List StoredEntry). child_told (option_map entry_in (find (pending_below (tx_events h) c.args.session c.args.parent.number) l))) rows
    ∙ ap child_told (pending_entry_told c.args.self.now h c.args.session c.args.parent.number txs.sound st)

pub returns-in-None : goal.returns-in-None
returns-in-None c h txs st =
    let rows = c.deref.ensures.value ∙ ap (λ (k : KeptCatalogue). k.entries) c.self.view_is in
    ap (λ (o : Option StoredEntry). child_told (option_map entry_in o)) (c.in-None.ensures h txs)
    ∙ ap (λ (l : List StoredEntry). child_told (option_map entry_in (find (pending_below (tx_events h) c.args.session c.args.parent.number) l))) rows
    ∙ ap child_told (pending_entry_told c.args.self.now h c.args.session c.args.parent.number txs.sound st)
