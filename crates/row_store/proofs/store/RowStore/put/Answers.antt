use Rattle.std.proofs.Common.{◌≡◌, ◌<◌, None, refl, sym, subst, length, arith}
use Rattle.std.proofs.lemmas.Grind.{common_steps}
use Rattle.row_store.specs.Kept.{KeptRows}
use Rattle.row_store.proofs.Changes.{put_added, put_listed}
use Rattle.row_store.proofs.store.RowStore.put.Goals as goal

pub returns-in-Ok-clause-added : goal.returns-in-Ok-clause-added
returns-in-Ok-clause-added c h txs st =
    let n : c.len-2.result ≡ length c.self.inside.versions.items = grind (arith, common_steps) in
    put_added c.args.txs.now c.self.inside.versions.items c.list_version.new.versions.items c.deref.result.now c.self.inside.leaves.items c.list_version.new.leaves.items _ c.self.inside.room c.in-Some.room c.len-2.result c.args.self.now h c.args.leaf c.args.row c.as_slice.result.now c.args.by c.args.cmd c.index_mut-list.result.now c.vacuum.new.self c.self.view_is c.self.invariant n
    c.in-Ok.ensures.versions c.in-Ok.ensures.leaves c.index_mut-list.ensures.value c.deref.ensures.value c.vacuum.ensures refl c.requires.known c.requires.runs c.as_slice.ensures c.in-Some.ensures.some txs st

pub invariant_of-self : goal.invariant_of-self
invariant_of-self c =
    let n : c.len-2.result ≡ length c.self.inside.versions.items = grind (arith, common_steps) in
    let K : KeptRows → Type 0 = λ k. c.args.leaf.number < k.leaves in
    let lt : c.args.leaf.number < length c.self.inside.leaves.items = subst K (sym c.self.view_is) c.requires.known in
    put_listed c.args.txs.now c.self.inside.versions.items c.list_version.new.versions.items c.deref.result.now c.self.inside.leaves.items c.list_version.new.leaves.items _ (record { version = record { id = record { number = c.len-2.result }; leaf = c.args.leaf; row = c.args.row; by = c.args.by; cmd = c.args.cmd }; ended = None }) c.index_mut-list.result.now c.vacuum.new.self c.self.invariant lt n refl
    c.in-Ok.ensures.versions c.in-Ok.ensures.leaves c.index_mut-list.ensures.value c.deref.ensures.value c.vacuum.ensures refl
