use Rattle.std.proofs.Common.{◌≡◌, ◌<◌, List, ◌++◌, ◌∙◌, ap, sym, subst, All}
use Rattle.pg_values.specs.declared.ids.LeafId.{LeafId}
use Rattle.row_router.specs.Histories.{ddl_tree}
use Rattle.row_router.specs.Seen.{seen}
use Rattle.row_router.specs.Trees.{leaves}
use Rattle.ddl_steps.proofs.Leaves.{leaves_there}
use Rattle.ddl_steps.proofs.judging.leaves_of.Goals as goal

pub returns-clause-there : goal.returns-clause-there
returns-clause-there c =
    let h = c.requires.may.sound.0 in
    let stands = c.requires.may.sound.1 in
    let s = c.args.attempt.now.caller.session in
    let is : c.push_leaves.new.out.items ≡ leaves (ddl_tree h s c.args.table.number) =
    c.in_ok-push_leaves.ensures.ok ∙ (ap (λ (xs : List LeafId). xs ++ leaves (seen c.in_ok-tree.tree)) c.new-leaves.ensures.items ∙ ap leaves (c.in_ok-tree.ensures h stands.all.txs stands.all.catalog)) in
    subst (All (λ (l : LeafId). l.number < c.args.stores.now.rows.leaves)) (sym is) (leaves_there c.leaves_are_housed.ensures c.args.stores.now h s c.args.table.number stands c.requires.known)
