use Rattle.std.proofs.Common.{◌≡◌, ◌∙◌, Some, ap, sym}
use Rattle.history.specs.History.{tx_events}
use Rattle.history.specs.Presence.{entries_present}
use Rattle.history.specs.Transactions.{session_of}
use Rattle.row_router.specs.Histories.{above}
use Rattle.part_catalog.specs.Answers.{parent_told}
use Rattle.part_ddl.proofs.Ends.{is_standing, place_gone}
use Rattle.part_ddl.proofs.dropped.end_place.Goals as goal

pub end_entry-requires : goal.end_entry-requires
end_entry-requires c h txs st =
    is_standing c.args.txs.now c.args.catalog.now c.args.by c.args.table c.in-Some.parent h c.requires txs st
    (sym c.in-Some.is ∙ c.parent_of.ensures h txs st ∙ ap (λ n. parent_told (above (entries_present h n) c.args.table.number)) (c.session_of-session.ensures h txs))

pub returns-in-Some : goal.returns-in-Some
returns-in-Some c h txs st =
    let s = session_of (tx_events h) c.args.by.number in
    let told : Some c.in-Some.parent ≡ parent_told (above (entries_present h s) c.args.table.number) =
    sym c.in-Some.is ∙ c.parent_of.ensures h txs st ∙ ap (λ n. parent_told (above (entries_present h n) c.args.table.number)) (c.session_of-session.ensures h txs) in
    place_gone c.end_entry.new.self h s (record { by = c.args.by; cmd = c.args.cmd }) c.in-Some.parent c.args.table told (λ e is. c.end_entry.ensures.added h e txs st is)
