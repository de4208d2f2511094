use Rattle.std.proofs.Common.{◌<◌, length, sym, subst, ap, ◌∙◌}
use Rattle.row_store.specs.declared.stored.Stored.{Stored}
use Rattle.row_store.specs.Kept.{KeptRows}
use Rattle.row_store.proofs.Changes.{at_any, set_known}
use Rattle.row_store.proofs.Listing.{ended_listed}
use Rattle.row_store.proofs.store.RowStore.set_end.Goals as goal

pub invariant_of-self : goal.invariant_of-self
invariant_of-self c =
    let K : KeptRows → Type 0 = λ k. c.args.id.number < length k.stored in
    let lt = subst K (sym c.self.view_is) c.requires.known in
    let same = at_any _ c.args.id.number c.index_mut-stored.result.now lt c.index_mut-stored.ensures.value in
    let kept = ap (λ (x : Stored). x.version) c.end.ensures ∙ ap (λ (x : Stored). x.version) same in
    ended_listed _ _ c.args.id.number c.end.new.self lt kept (set_known _ _ _ _ c.args.self.now c.args.id.number _ _ c.args.end c.self.view_is c.end.ensures same c.requires.there) c.self.invariant
