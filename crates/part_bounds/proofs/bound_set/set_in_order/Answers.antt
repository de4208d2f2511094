use Rattle.std.proofs.Common.{◌≡◌, [], Vec, Global, sym, ap, subst, ◌∙◌}
use Rattle.std.specs.List.{All}
use Rattle.std.specs.Prelude.{position}
use Rattle.bound_forms.specs.declared.partition_bound.Bound.{Bound}
use Rattle.bound_forms.specs.Bounds.{BoundOfKind, IsInPlainOrder}
use Rattle.part_bounds.specs.Listings.{StandsFor, lists_null}
use Rattle.part_bounds.specs.Leads.{leads_of}
use Rattle.part_bounds.specs.Stored.{IsRangeLevel}
use Rattle.part_bounds.proofs.LeadsStand.{leads_stand}
use Rattle.part_bounds.proofs.bound_set.set_in_order.Goals as goal

pub invariant_of-result : goal.invariant_of-result
invariant_of-result g c =
    let same : c.in_ok-bounds.bounds.value ≡ c.args.bounds = c.in_ok-bounds.ensures.ok in
    let stands : StandsFor c.args.bounds.items c.in_ok-listed.listed.items = subst (λ l. StandsFor l c.in_ok-listed.listed.items) c.deref.ensures.value c.in_ok-listed.ensures.stands in
    let none : IsRangeLevel c.args.bounds.items → c.in_ok-listed.listed.items ≡ [] = subst (λ l. IsRangeLevel l → c.in_ok-listed.listed.items ≡ []) c.deref.ensures.value c.in_ok-listed.ensures.none in
    let firsts : c.in_ok-firsts.firsts.items ≡ leads_of c.args.bounds.items c.in_ok-listed.listed.items =
    c.in_ok-firsts.ensures ∙ ap (λ bs. leads_of bs c.deref-4.result.now) c.deref-3.ensures.value ∙ ap (leads_of c.args.bounds.items) c.deref-4.ensures.value in
    let leads = leads_stand (g.K.KeyKind.admits c.args.kind) c.args.bounds.items c.in_ok-listed.listed.items c.in_ok-firsts.firsts.items (λ k d lt. c.requires.of_kind k d lt c.args.kind) c.requires.ordered stands none firsts in (
      subst (λ (v : Vec Bound Global). All (BoundOfKind (g.K.KeyKind.admits c.args.kind)) v.items) (sym same) (λ k d lt. c.requires.of_kind k d lt c.args.kind),
      subst (λ (v : Vec Bound Global). IsInPlainOrder v.items) (sym same) c.requires.ordered,
      rw (same, c.in_ok-listings.ensures.ok) stands,
      c.null_child-null.ensures ∙ ap (position lists_null) (c.deref-2.ensures.value ∙ ap (λ (v : Vec Bound Global). v.items) (sym same)),
      rw (same, c.in_ok-leads.ensures.ok) leads,
    )
