use Rattle.std.proofs.Common.{◌≡◌, length, arith, refl}
use Rattle.std.proofs.lemmas.Grind.{common_steps}
use Rattle.row_store.proofs.Changes.{leaf_added}
use Rattle.row_store.proofs.Listing.{leaf_listed}
use Rattle.row_store.proofs.store.RowStore.add_leaf.Goals as goal

pub invariant_of-self-2 : goal.invariant_of-self-2
invariant_of-self-2 c = rw (c.in_ok-push.ensures.items, c.new.ensures) (leaf_listed _ _ c.self.invariant)

pub returns-clause-added : goal.returns-clause-added
returns-clause-added c h st =
    let n : c.len-number.result ≡ length c.self.inside.leaves.items = grind (arith, common_steps) in
    leaf_added c.self.inside.versions.items c.self.inside.leaves.items c.self.inside.room c.args.self.now h c.len-number.result _ _ c.self.view_is c.self.invariant n (rw (← c.new.ensures) c.in_ok-push.ensures.items) refl st
