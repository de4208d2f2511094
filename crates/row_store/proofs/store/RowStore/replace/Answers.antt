use Rattle.std.proofs.Common.{◌≡◌, refl, length, arith, ap, ◌∙◌}
use Rattle.std.proofs.lemmas.Grind.{common_steps}
use Rattle.row_store.specs.Kept.{KeptRows}
use Rattle.row_store.proofs.Changes.{replaced_added, replaced_kept, put_known}
use Rattle.row_store.proofs.store.RowStore.replace.Goals as goal

pub returns-in-Ok-clause-added : goal.returns-in-Ok-clause-added
returns-in-Ok-clause-added c h txs st =
    let n : c.len.result ≡ length c.self.inside.versions.items = grind (arith, common_steps) in
    let m : c.len.result ≡ length c.args.self.now.stored = n ∙ ap (λ (k : KeptRows). length k.stored) c.self.view_is in
    replaced_added c.args.txs.now c.args.self.now c.put.new.self c.set_end.new.self h c.args.id.number c.len.result c.leaf_of-leaf.result _ c.args.row c.args.by c.args.cmd c.leaf_of-leaf.ensures.is refl m c.in-Ok.ensures.kept c.set_end.ensures c.requires.known (c.requires.standing h txs st) c.requires.runs c.requires.seen txs st (c.in-Ok.ensures.added h txs st)

pub set_end-requires-clause-there : goal.set_end-requires-clause-there
set_end-requires-clause-there c =
    let n : c.len.result ≡ length c.self.inside.versions.items = grind (arith, common_steps) in
    let m : c.len.result ≡ length c.args.self.now.stored = n ∙ ap (λ (k : KeptRows). length k.stored) c.self.view_is in
    put_known c.args.self.now c.put.new.self c.args.id.number c.len.result c.leaf_of-leaf.result c.args.row c.args.by c.args.cmd c.requires.known c.leaf_of-leaf.ensures.is m c.in-Ok.ensures.kept

pub returns-in-Ok-clause-kept : goal.returns-in-Ok-clause-kept
returns-in-Ok-clause-kept c =
    let n : c.len.result ≡ length c.self.inside.versions.items = grind (arith, common_steps) in
    let m : c.len.result ≡ length c.args.self.now.stored = n ∙ ap (λ (k : KeptRows). length k.stored) c.self.view_is in
    replaced_kept c.args.self.now c.put.new.self c.set_end.new.self c.args.id.number c.len.result c.leaf_of-leaf.result _ c.args.row c.args.by c.args.cmd c.leaf_of-leaf.ensures.is m c.in-Ok.ensures.kept c.set_end.ensures
