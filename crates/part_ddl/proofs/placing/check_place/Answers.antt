use Rattle.std.proofs.Common.{◌≡◌, ◌+◌, ◌∙◌, ◌<◌, ℕ, All, ap, sym, subst, List, Bor, length, map}
use Rattle.std.specs.Option.{option_map}
use Rattle.pg_values.specs.declared.fault.Fault.{Fault}
use Rattle.pg_values.specs.Refusals.{IsAnswer, or_first}
use Rattle.bound_forms.specs.Bounds.{IsInPlainOrder}
use Rattle.history.specs.declared.catalogue.Entry.{Entry}
use Rattle.history.specs.History.{History}
use Rattle.history.specs.Presence.{entries_present}
use Rattle.tx_table.specs.Stands.{TableStands}
use Rattle.row_router.specs.Histories.{bound_of}
use Rattle.row_router.proofs.Order.{siblings_in_order}
use Rattle.part_catalog.specs.Stands.{CatalogueStands}
use Rattle.part_ddl.specs.Placing.{child_name, partitions_of}
use Rattle.part_ddl.proofs.Among.{SameWords, place_same, children_known, of_one_level}
use Rattle.part_ddl.proofs.placing.check_place.Goals as goal

pub check_level-requires-clause-known : goal.check_level-requires-clause-known
check_level-requires-clause-known c =
    children_known c.args.txs.now c.args.catalog.now c.args.session c.args.parent.number _ c.requires.siblings
    (λ h txs st. ap (map (λ (e : Bor Entry). e.now)) c.deref.ensures.value ∙ c.in_ok-partitions.ensures h txs st)

pub check_level-requires-clause-level : goal.check_level-requires-clause-level
check_level-requires-clause-level c =
    of_one_level c.args.txs.now c.args.catalog.now c.args.session c.args.parent.number c.args.bound.now _ c.requires.siblings
    (λ h txs st. ap (map (λ (e : Bor Entry). e.now)) c.deref.ensures.value ∙ c.in_ok-partitions.ensures h txs st) c.requires.takes

pub check_level-requires-clause-ordered : goal.check_level-requires-clause-ordered
check_level-requires-clause-ordered c =
    let both = c.requires.siblings in
    let h = both.h in
    let told = ap (map (λ (e : Bor Entry). e.now)) c.deref.ensures.value ∙ c.in_ok-partitions.ensures h both.txs both.catalogue in
    subst (λ (es : List Entry). IsInPlainOrder (map bound_of es)) (sym told) (siblings_in_order (entries_present h c.args.session) c.args.parent.number both.siblings)

pub returns : goal.returns
returns c h txs st =
    let s = c.args.session in
    let p = c.args.parent.number in
    let es = map (λ (e : Bor Entry). e.now) c.deref.result.now in
    let told : es ≡ partitions_of h s p = ap (map (λ (e : Bor Entry). e.now)) c.deref.ensures.value ∙ c.in_ok-partitions.ensures h txs st in
    let names = map (child_name h) es in
    let bounds = map bound_of es in
    let pending = option_map (λ (n : Bor (List ℕ)). n.now) c.pending_name-pending.result in
    let words : SameWords h s p c.name_of-name.result.now pending names bounds = record {
      parent_is = c.name_of-name.ensures h st;
      pending_is = c.pending_name-pending.ensures h txs st;
      names_are = ap (map (child_name h)) told;
      bounds_are = ap (map bound_of) told;
    } in
    let deep = ap (λ n. n + 1) (c.levels_up-levels.ensures.is h txs st) in
    subst (λ (fs : List Fault). IsAnswer c.check_level.result (or_first fs tt))
    (place_same h s p 1 (length es) (c.levels_up-levels.result + 1) c.name_of-name.result.now pending names bounds c.args.bound.now words (ap (length {A = Entry}) told) deep)
    (c.check_level.ensures h st)
