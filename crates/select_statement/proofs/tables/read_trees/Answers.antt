use Rattle.std.proofs.Common.{◌≡◌, ◌≤◌, ◌++◌, ◌∷◌, ◌∙◌, [], All, length, map, rules, sym, subst}
use Rattle.std.proofs.lemmas.List.Elements.{All-nil, All-cons, All-append}
use Rattle.row_router.specs.Seen.{seen}
use Rattle.stores.specs.Stand.{Stands}
use Rattle.stores.specs.declared.stores.Stores.{Stores}
use Rattle.statement_steps.specs.Attempts.{MayAttempt}
use Rattle.select_statement.specs.Lent.{IsTreeFor, IsLookFor}
use Rattle.select_statement.proofs.Whole.{one_tree}
use Rattle.select_statement.proofs.tables.read_trees.Goals as goal

pub read_tree-requires-clause-may : goal.read_tree-requires-clause-may
read_tree-requires-clause-may c = subst (λ (s : Stores). MayAttempt s c.args.attempt.now.caller) (sym c.loop-table.invariant.same) c.requires.may

pub read_tree-requires-clause-few : goal.read_tree-requires-clause-few
read_tree-requires-clause-few c = subst (λ (s : Stores). length s.catalog.tables ≤ 4096) (sym c.loop-table.invariant.same) c.requires.few

pub read_tree-requires-clause-look : goal.read_tree-requires-clause-look
read_tree-requires-clause-look c = subst (λ (s : Stores). IsLookFor s c.args.attempt.now.caller c.args.snap.now) (sym c.loop-table.invariant.same) c.requires.look

pub loop-table-preserved : goal.loop-table-preserved
loop-table-preserved c =
    let more : c.push.new.self.items ≡ c.loop-table.trees.items ++ c.in_ok-read_tree.field-0 ∷ [] = search rules in
    let fit = subst (λ (s : Stores). IsTreeFor s c.args.attempt.now.caller (seen c.in_ok-read_tree.field-0)) c.loop-table.invariant.same c.in_ok-read_tree.ensures.fit in
    record {
      same = c.read_tree.ensures.same ∙ c.loop-table.invariant.same;
      trees = λ h stands. one_tree seen c.args.attempt.now.caller c.args.tables.now c.loop-table.table-index _ c.loop-table.trees.items c.push.new.self.items c.in_ok-read_tree.field-0 h _ c.loop-table-test.true more (c.in_ok-read_tree.ensures.tree h (subst (λ (s : Stores). Stands s h) (sym c.loop-table.invariant.same) stands)) (c.loop-table.invariant.trees h stands);
      each = subst (All (λ t. IsTreeFor c.args.stores.now c.args.attempt.now.caller (seen t))) (sym more)
          (All-append (λ t. IsTreeFor c.args.stores.now c.args.attempt.now.caller (seen t)) c.loop-table.trees.items (c.in_ok-read_tree.field-0 ∷ []) c.loop-table.invariant.each
          (All-cons (λ t. IsTreeFor c.args.stores.now c.args.attempt.now.caller (seen t)) c.in_ok-read_tree.field-0 [] fit (All-nil (λ t. IsTreeFor c.args.stores.now c.args.attempt.now.caller (seen t)))));
    }
