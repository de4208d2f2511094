use Rattle.std.proofs.Common.{◌≡◌, ◌≤◌, ◌+◌, ◌++◌, ◌∷◌, [], ◌∙◌, true, false, ap, arith, List, Vec, Global, length, map, filter, drop, get_or}
use Rattle.std.proofs.lemmas.Grind.{common_steps, elements}
use Rattle.std.proofs.lemmas.List.{length-map}
use Rattle.bound_forms.specs.declared.partition_bound.Bound.{Bound}
use Rattle.row_router.specs.Histories.{children, bound_of}
use Rattle.part_catalog.specs.declared.stored.StoredEntry.{StoredEntry}
use Rattle.part_catalog.specs.Kept.{number_of, no_entry, with_place, by_place}
use Rattle.part_catalog.specs.Stands.{is_flagged}
use Rattle.part_catalog.proofs.Grown.{kid_at, skip_step, take_step, all_done, shown_kinds, shown_in_order}
use Rattle.part_catalog.proofs.grow.set_below.Goals as goal
use Rattle.part_catalog.proofs.grow.set_below.Goals.{then-flags-number+in_ok-copy_bound+in_ok-push, else-flags-number}

pub bounds-flags-number : goal.bounds-flags-number
bounds-flags-number c =
    let kid = kid_at c.args.entries.now c.numbers-number-items.result.now c.args._table.number c.loop-number.number-index (c.numbers-number-items.ensures ∙ c.requires.below) c.loop-number-test.true in
    omega (arith, kid.known, c.requires.flagged)

pub loop-number-preserved : goal.loop-number-preserved
loop-number-preserved c =
    let E = c.args.entries.now in
    let F = c.args.flags.now in
    let kids = children (by_place E) c.args._table.number in
    let i = c.loop-number.number-index in
    let n = get_or c.numbers-number-items.result.now i 0 in
    let kid = kid_at E c.numbers-number-items.result.now c.args._table.number i (c.numbers-number-items.ensures ∙ c.requires.below) c.loop-number-test.true in
    let all = map bound_of (filter (is_flagged F) kids) in
    elim c.if-flags-number.branch [
      | then-flags-number+in_ok-copy_bound+in_ok-push w ↦
          let same : get_or E n w.index-entries-number.result ≡ get_or E n no_entry = grind (arith, common_steps, elements, kid.known) in
          let here : is_flagged F (with_place n (get_or E n no_entry).entry) ≡ true = w.if-flags-number.true in
          let pushed : w.push.new.self.items ≡ c.loop-number.bounds.items ++ bound_of (get_or E n no_entry).entry ∷ [] = w.in_ok-push.ensures.items ∙ ap (λ (b : Bound). c.loop-number.bounds.items ++ b ∷ []) (w.in_ok-copy_bound.ensures ∙ ap (λ (y : StoredEntry). y.entry.bound) same) in
          let put : c.if-flags-number.bounds.items ≡ c.loop-number.bounds.items ++ bound_of (get_or E n no_entry).entry ∷ [] = ap (λ (v : Vec Bound Global). v.items) w.bounds-is ∙ pushed in
          take_step (is_flagged F) bound_of c.loop-number.bounds.items c.if-flags-number.bounds.items kids i (with_place n (get_or E n no_entry).entry) all kid.there here put c.loop-number.invariant
      | else-flags-number w ↦
          let off : is_flagged F (with_place n (get_or E n no_entry).entry) ≡ false = w.if-flags-number.false in
          let kept : c.if-flags-number.bounds.items ≡ c.loop-number.bounds.items = ap (λ (v : Vec Bound Global). v.items) w.bounds-is in
          ap (λ (l : List Bound). l ++ map bound_of (filter (is_flagged F) (drop (i + 1) kids))) kept ∙ skip_step (is_flagged F) bound_of c.loop-number.bounds.items kids i (with_place n (get_or E n no_entry).entry) all kid.there off c.loop-number.invariant
    ]

pub set_in_order-requires-clause-of_kind : goal.set_in_order-requires-clause-of_kind
set_in_order-requires-clause-of_kind c =
    let kids = children (by_place c.args.entries.now) c.args._table.number in
    let same : length c.numbers-number-items.result.now ≡ length kids = ap length (c.numbers-number-items.ensures ∙ c.requires.below) ∙ length-map kids number_of in
    let over : length kids ≤ c.loop-number.number-index = omega (arith, same, c.loop-number-test.false) in
    let e = all_done (is_flagged c.args.flags.now) bound_of c.loop-number.bounds.items kids c.loop-number.number-index (map bound_of (filter (is_flagged c.args.flags.now) kids)) over c.loop-number.invariant in
    λ i d lt kind. shown_kinds c.args.entries.now (is_flagged c.args.flags.now) c.args._table.number c.loop-number.bounds.items c.requires.kinds e i d lt

pub set_in_order-requires-clause-ordered : goal.set_in_order-requires-clause-ordered
set_in_order-requires-clause-ordered c =
    let kids = children (by_place c.args.entries.now) c.args._table.number in
    let same : length c.numbers-number-items.result.now ≡ length kids = ap length (c.numbers-number-items.ensures ∙ c.requires.below) ∙ length-map kids number_of in
    let over : length kids ≤ c.loop-number.number-index = omega (arith, same, c.loop-number-test.false) in
    let e = all_done (is_flagged c.args.flags.now) bound_of c.loop-number.bounds.items kids c.loop-number.number-index (map bound_of (filter (is_flagged c.args.flags.now) kids)) over c.loop-number.invariant in
    shown_in_order (by_place c.args.entries.now) (is_flagged c.args.flags.now) c.args._table.number c.loop-number.bounds.items c.requires.siblings e
