use Rattle.std.proofs.Common.{◌≡◌, ◌∙◌, ◌++◌, ◌-◌, ◌+◌, ◌<◌, IfSome, Option, List, Bool, ap, sym, subst, length, map, filter}
use Rattle.pg_values.specs.declared.ids.TableNo.{TableNo}
use Rattle.history.specs.declared.catalogue.Check.{Check}
use Rattle.history.specs.Catalogue.{tables_made}
use Rattle.history.specs.History.{tx_events, catalogue_events}
use Rattle.history.specs.Presence.{entries_present, checks_of, is_check_of}
use Rattle.row_router.specs.declared.path_part.PathPart.{PathPart}
use Rattle.row_router.specs.Histories.{above, kept_of, part_of, path_of, place_of, upwards}
use Rattle.part_catalog.specs.declared.stored.StoredTable.{StoredTable}
use Rattle.part_catalog.specs.declared.stored.StoredEntry.{StoredEntry}
use Rattle.part_catalog.specs.Answers.{number_told, parent_told}
use Rattle.part_catalog.specs.Kept.{KeptCatalogue, table_in, by_place}
use Rattle.part_catalog.specs.Stands.{present_by, is_flagged}
use Rattle.part_catalog.proofs.KeptTrees.{kept_lent}
use Rattle.part_catalog.proofs.Trees.{lent, present_grove}
use Rattle.part_catalog.proofs.Upwards.{parent_known, part_made, next_told, path_part, path_step}
use Rattle.part_catalog.proofs.catalog.Catalog.path.Goals as goal

pub place_of-requires-clause-kept : goal.place_of-requires-clause-kept
place_of-requires-clause-kept c =
    kept_lent c.self.inside.tables.items c.deref-in-loop-step-2.result.now c.self.inside.entries.items c.deref-in-loop-step-3.result.now c.self.inside.trees.items c.deref-in-loop-step-6.result.now c.deref-in-loop-step-2.ensures.value c.deref-in-loop-step-3.ensures.value c.deref-in-loop-step-6.ensures.value c.self.invariant.1

pub place_of-requires-clause-grove : goal.place_of-requires-clause-grove
place_of-requires-clause-grove c =
    let l = lent c.args.self.now c.self.inside.tables.items c.deref-in-loop-step-2.result.now c.self.inside.entries.items c.deref-in-loop-step-3.result.now c.self.inside.below.items c.deref-in-loop-step-4.result.now c.self.inside.names c.self.invariant.0 (ap (λ (k : KeptCatalogue). k.tables) c.self.view_is) (ap (λ (k : KeptCatalogue). k.entries) c.self.view_is) c.deref-in-loop-step-2.ensures.value c.deref-in-loop-step-3.ensures.value c.deref-in-loop-step-4.ensures.value in
    let rows : c.deref.result.now ≡ c.deref-in-loop-step-3.result.now = c.deref.ensures.value ∙ sym c.deref-in-loop-step-3.ensures.value in
    let count : length c.deref-in-loop-step-5.result.now ≡ length c.deref-in-loop-step-3.result.now = ap (length {A = Bool}) c.deref-in-loop-step-5.ensures.value ∙ c.in_ok-flags.ensures.count ∙ ap (length {A = StoredEntry}) rows in
    present_grove c.args.txs.now c.args.self.now c.args.session c.deref-in-loop-step-2.result.now c.deref-in-loop-step-3.result.now c.deref-in-loop-step-4.result.now c.deref-in-loop-step-5.result.now l c.requires.siblings count
    (λ h txs. c.deref-in-loop-step-5.ensures.value ∙ c.in_ok-flags.ensures.is h txs ∙ ap (map (present_by (tx_events h) c.args.session)) rows)

pub loop-step-preserved : goal.loop-step-preserved
loop-step-preserved c =
    let kept = c.args.self.now in
    let s = c.args.session in
    let t = c.in-Some.table in
    let F = c.in_ok-flags.flags.items in
    let o = c.parent_in-next.result in
    let tables = ap (λ (k : KeptCatalogue). k.tables) c.self.view_is in
    let entries = ap (λ (k : KeptCatalogue). k.entries) c.self.view_is in
    let next : o ≡ parent_told (above (filter (is_flagged F) (by_place c.self.inside.entries.items)) t.number) =
    c.parent_in-next.ensures
    ∙ ap (λ (fs : List Bool). parent_told (above (filter (is_flagged fs) (by_place c.deref-in-loop-step-7.result.now)) t.number)) c.deref-in-loop-step-8.ensures.value
    ∙ ap (λ (es : List StoredEntry). parent_told (above (filter (is_flagged F) (by_place es)) t.number)) c.deref-in-loop-step-7.ensures.value in
    record {
      known = subst (λ (ts : List StoredTable). IfSome o (λ (p : TableNo). p.number < length ts)) tables (parent_known c.self.inside.tables.items c.self.inside.entries.items F t.number o c.self.invariant.0.listed.between next);
      told = λ h txs st.
          let flags : F ≡ map (present_by (tx_events h) s) kept.entries = c.in_ok-flags.ensures.is h txs ∙ ap (map (present_by (tx_events h) s)) (c.deref.ensures.value ∙ entries) in
          let part = part_of (tables_made (catalogue_events h)) (entries_present h s) (checks_of h s) in
          let up = above (entries_present h s) in
          let of_table = c.in_ok-checks.ensures h txs ∙ ap (λ (cs : List Check). map kept_of (filter (is_check_of (tx_events h) s t.number) cs)) (c.deref-in-loop-step.ensures.value ∙ ap (λ (k : KeptCatalogue). k.checks) c.self.view_is) in
          let place =
          c.in_ok-place.ensures
          ∙ ap (λ (ts : List StoredTable). place_of (map table_in ts) (filter (is_flagged c.deref-in-loop-step-5.result.now) (by_place c.deref-in-loop-step-3.result.now)) (above (filter (is_flagged c.deref-in-loop-step-5.result.now) (by_place c.deref-in-loop-step-3.result.now)) t.number)) (c.deref-in-loop-step-2.ensures.value ∙ tables)
          ∙ ap (λ (fs : List Bool). place_of (map table_in kept.tables) (filter (is_flagged fs) (by_place c.deref-in-loop-step-3.result.now)) (above (filter (is_flagged fs) (by_place c.deref-in-loop-step-3.result.now)) t.number)) c.deref-in-loop-step-5.ensures.value
          ∙ ap (λ (es : List StoredEntry). place_of (map table_in kept.tables) (filter (is_flagged F) (by_place es)) (above (filter (is_flagged F) (by_place es)) t.number)) (c.deref-in-loop-step-3.ensures.value ∙ entries) in
          let x : PathPart = path_part t c.in_ok-checks.checks c.in_ok-place.place in
          let here : x ≡ part t.number = part_made kept h s F t c.in_ok-checks.checks c.in_ok-place.place txs.sound st flags of_table place in
          let goes = next_told kept h s F t.number o txs.sound st flags (next ∙ ap (λ (es : List StoredEntry). parent_told (above (filter (is_flagged F) (by_place es)) t.number)) entries) in
          let before : c.loop-step.parts.items ++ upwards (8 - c.loop-step.step) part up (number_told c.loop-step.next) ≡ path_of h s c.args.table.number = c.loop-step.invariant.told h txs st in
          let now = subst (λ (q : Option TableNo). c.loop-step.parts.items ++ upwards (8 - c.loop-step.step) part up (number_told q) ≡ path_of h s c.args.table.number) c.in-Some.is before in
          ap (λ (l : List PathPart). l ++ upwards (8 - (c.loop-step.step + 1)) part up (number_told o)) c.in_ok-push.ensures.items
          ∙ path_step c.loop-step.step part up c.loop-step.parts.items x t.number (number_told o) (path_of h s c.args.table.number) c.loop-step-test.true here goes now;
    }
