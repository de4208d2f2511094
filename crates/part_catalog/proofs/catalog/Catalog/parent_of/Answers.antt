use Rattle.std.proofs.Common.{◌∙◌, ap, List, Option}
use Rattle.std.specs.List.{find}
use Rattle.std.specs.Option.{option_map}
use Rattle.history.specs.History.{tx_events}
use Rattle.part_catalog.specs.declared.stored.StoredEntry.{StoredEntry}
use Rattle.part_catalog.specs.Kept.{KeptCatalogue, entry_in}
use Rattle.part_catalog.specs.Stands.{above_by}
use Rattle.part_catalog.specs.Answers.{parent_told}
use Rattle.part_catalog.proofs.Told.{above_told}
use Rattle.part_catalog.proofs.catalog.Catalog.parent_of.Goals as goal

pub returns-in-Some : goal.returns-in-Some
returns-in-Some c h txs st =
    let rows = c.deref.ensures.value ∙ ap (λ (k : KeptCatalogue). k.entries) c.self.view_is in
    ap (λ (o : Option StoredEntry). parent_told (option_map entry_in o)) (c.in-Some.ensures h txs)
    ∙ ap (λ (l : List StoredEntry). parent_told (option_map entry_in (find (above_by (tx_events h) c.args.session c.args.child.number) l))) rows
    ∙ ap parent_told (above_told c.args.self.now h c.args.session c.args.child.number txs.sound st)

pub returns-in-None : goal.returns-in-None
returns-in-None c h txs st =
    let rows = c.deref.ensures.value ∙ ap (λ (k : KeptCatalogue). k.entries) c.self.view_is in
    ap (λ (o : Option StoredEntry). parent_told (option_map entry_in o)) (c.in-None.ensures h txs)
    ∙ ap (λ (l : List StoredEntry). parent_told (option_map entry_in (find (above_by (tx_events h) c.args.session c.args.child.number) l))) rows
    ∙ ap parent_told (above_told c.args.self.now h c.args.session c.args.child.number txs.sound st)
