-- A tree has no more leaves than there are tables: each leaf is that of one of its tables, and each of these stands in it once.
use Rattle.std.proofs.Common.{ℕ, zero, suc, ◌≤◌, arith, map, length, subst}
use Rattle.std.specs.List.{All}
use Rattle.std.proofs.lemmas.List.{length-append, length-map}
use Rattle.std.proofs.lemmas.List.Elements.{All-map}
use Rattle.std.proofs.lemmas.List.Kept.{AllPairs-filter}
use Rattle.pg_values.specs.declared.ids.TableNo.{TableNo}
use Rattle.history.specs.declared.catalogue.Entry.{Entry}
use Rattle.history.specs.Catalogue.{CatalogueEvents, tables_made, entries_added}
use Rattle.history.specs.History.{tx_events, catalogue_events}
use Rattle.history.specs.Presence.{counts, is_shown, entries_shown}
use Rattle.row_router.specs.Trees.{TableTree, LeafTable, LevelTable, Trees, End, More, leaves, all_leaves}
use Rattle.row_router.specs.Histories.{tree_of, tree_within}
use Rattle.soundness.specs.Worlds.{World, IsMade, Present, Under}
use Rattle.soundness.proofs.All.{legal_keeps_all}
use Rattle.soundness.proofs.Counted.{AreTwo}
use Rattle.soundness.proofs.Looking.{counts_world}
use Rattle.soundness.proofs.Presence.{all_shown}
use Rattle.soundness.proofs.Sound.{sound_of, catalogue_sound_of}
use Rattle.plan_tree.proofs.Numbered.{all_two}
use Rattle.legal_statements.specs.Below.{tables_in, all_tables}
use Rattle.legal_statements.proofs.Pairs.{all_in}
use Rattle.legal_statements.proofs.Trees.{only_within, once_within, numbers_differ}
use Rattle.select_statement.specs.Laws.{LeavesAreFew}
use Rattle.select_statement.proofs.Numbers.{few_numbers}

mutual
  no_more : (t : TableTree) → length (leaves t) ≤ length (tables_in t)
  no_more (LeafTable node leaf) = omega arith
  no_more (LevelTable node level bounds kids) = let rest = no_more_of kids in omega (arith, rest)

  no_more_of : (ks : Trees) → length (all_leaves ks) ≤ length (all_tables ks)
  no_more_of End = omega arith
  no_more_of (More k ks) =
      let first = no_more k in
      let rest = no_more_of ks in
      let some = length-append (leaves k) (all_leaves ks) in
      let all = length-append (tables_in k) (all_tables ks) in
      omega (arith, first, rest, some, all)

-- what stands below a table is made
made_below : (cats : CatalogueEvents) (w : World) → ((e : Entry) → Present cats w e → IsMade cats e.child.number) → (n top x : ℕ) → IsMade cats top → Under cats w n top x → IsMade cats x
made_below cats w each zero top x made is = subst (IsMade cats) is made
made_below cats w each (suc n) top x made (e, p, child, rest) = subst (IsMade cats) child (each e p)

abbrev number_of : TableNo → ℕ
number_of y = y.number

pub leaves_few : LeavesAreFew
unfolding tree_of
leaves_few h session table s legal permitted made =
    let cats = catalogue_events h in
    let w = counts (tx_events h) session in
    let i = legal_keeps_all h legal permitted in
    let sound = catalogue_sound_of h legal in
    let siblings = i.siblings w (counts_world (tx_events h) session (sound_of h legal)) in
    let entries = entries_shown h session s in
    let present = all_shown h session s (sound_of h legal) sound in
    let two = AllPairs-filter AreTwo (is_shown h session s) (entries_added cats) (all_two h sound) in
    let tree = tree_within 7 (tables_made cats) entries table table in
    let tables = tables_in tree in
    let once = numbers_differ tables (once_within 7 cats w entries table table siblings present two) in
    let here : All (λ (y : TableNo). IsMade cats y.number) tables =
    all_in (λ (y : TableNo). IsMade cats y.number) tables (λ y at. let low = only_within 7 cats w entries table table y present at in made_below cats w (λ e p. (i.entries.suited e p.0).child) low.0 table y.number made low.1) in
    let few = few_numbers (length (tables_made cats)) (map number_of tables) once (All-map (IsMade cats) number_of tables here) in
    let count = length-map tables number_of in
    let some = no_more tree in
    omega (arith, few, count, some)
