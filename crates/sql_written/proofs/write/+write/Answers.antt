use Rattle.std.proofs.Common.{◌≡◌, map, ◌+◌, ◌-◌, length, ap, ◌∙◌, arith, true, take, drop}
use Rattle.sql_ast.specs.declared.expr.Expr.{Binary, Between, In, IsNull, Not}
use Rattle.sql_ast.specs.Expressions.{listed, tree, trees, binary, in_list, between, is_null, inverted}
use Rattle.sql_written.specs.Chains as chains
use Rattle.sql_written.specs.Written.{marks}
use Rattle.sql_written.proofs.WriteSteps.{between_is, binary_is, in_is, not_is, null_is, between_text, binary_text, in_text, less_is, list_text, more_step, not_text, null_text, on_ok, parentheses_text, part_less, parts_split, parts_step, chain_text}
use Rattle.sql_written.proofs.write.+write.Goals as goal

pub write_list-returns : goal.write_list-returns
write_list-returns t c =
    list_text (trees c.args.list.now) (listed (map tree c.as_slice.result.now)) _ _ _ _ c.as_slice.ensures c.in_ok-push.ensures.items c.in_ok-write_chain.ensures c.in_ok-push-2.ensures.items

pub write_more-write_operand-requires : goal.write_more-write_operand-requires
write_more-write_operand-requires t c = let w = part_less c.args.parts.now c.loop-part.part-index c.part-item.result c.loop-part-test.true c.part-item.is in (omega (arith, w), tt)

pub write_more-loop-part-preserved : goal.write_more-loop-part-preserved
write_more-loop-part-preserved t c =
    more_step (chains.between c.args.chain) (chains.place c.args.chain) (tree c.part-item.result) (listed (map tree (drop c.loop-part.part-index c.args.parts.now))) (listed (map tree (drop (c.loop-part.part-index + 1) c.args.parts.now))) c.place_of.result _ _ _ _
    (parts_step c.args.parts.now c.loop-part.part-index c.part-item.result c.loop-part-test.true c.part-item.is) c.place_of.ensures c.in_ok-write_between.ensures c.in_ok-write_operand.ensures c.loop-part.invariant

pub write_operand-returns-then-rank_of-place : goal.write_operand-returns-then-rank_of-place
write_operand-returns-then-rank_of-place t c =
    parentheses_text _ (marks (tree c.args.e.now)) _ _ _ _ (less_is c.rank_of.result _ _ c.rank_of.ensures c.if-rank_of-place.true) c.in_ok-push.ensures.items c.in_ok-write_tree.ensures c.in_ok-push-2.ensures.items

pub write_chain-returns-in_ok-write_more : goal.write_chain-returns-in_ok-write_more
write_chain-returns-in_ok-write_more t c =
    chain_text (chains.between c.args.chain) (chains.place c.args.chain) (tree c.first-item.result) (listed (map tree c.args.parts.now)) (listed (map tree (take (length c.args.parts.now - 1) (drop 1 c.args.parts.now)))) c.place_of.result _ _ _
    (parts_split c.args.parts.now c.first-item.result c.in-len1-up.len_at_least c.first-item.is) c.place_of.ensures c.in_ok-write_operand.ensures c.in_ok-write_more.ensures

pub write_tree-returns-in_ok-write_operator-in-Binary : goal.write_tree-returns-in_ok-write_operator-in-Binary
write_tree-returns-in_ok-write_operator-in-Binary t c =
    let l = c.in-Binary.left.value in
    let r = c.in-Binary.right.value in
    let h0 : tree (Binary c.in-Binary.operator c.in-Binary.left c.in-Binary.right) ≡ binary c.in-Binary.operator (tree l) (tree r) = binary_is true c.in-Binary.left c.in-Binary.left c.in-Binary.right c.in-Binary.operator in
    let h = ap tree c.in-Binary.is ∙ h0 in
    let e : tree c.args.e.now ≡ binary c.in-Binary.operator (tree c.deref-in-Binary.result.now) (tree c.deref-in-Binary-2.result.now) = cc h in
    on_ok c.write_operand-in-Binary-2.result
    (λ k. binary_text c.in-Binary.operator (tree c.deref-in-Binary.result.now) (tree c.deref-in-Binary-2.result.now) (tree c.args.e.now) c.left_rank.result c.right_rank.result _ _ _ _ e c.left_rank.ensures c.right_rank.ensures
    c.in_ok-write_operand-in-Binary.ensures c.in_ok-write_operator-in-Binary.ensures k) c.write_operand-in-Binary-2.ensures

pub write_tree-returns-in_ok-extend_from_slice-in-In : goal.write_tree-returns-in_ok-extend_from_slice-in-In
write_tree-returns-in_ok-extend_from_slice-in-In t c =
    let h0 : tree (In c.in-In.is_not c.in-In.operand c.in-In.list) ≡ in_list c.in-In.is_not (tree c.in-In.operand.value) (trees c.in-In.list) = in_is c.in-In.is_not c.in-In.operand c.in-In.operand c.in-In.operand c.in-In.list in
    let h = ap tree c.in-In.is ∙ h0 in
    let e : tree c.args.e.now ≡ in_list c.in-In.is_not (tree c.deref-in-In.result.now) (trees c.in-In.list) = cc h in
    on_ok c.write_list-in-In.result
    (λ k. in_text c.in-In.is_not (tree c.deref-in-In.result.now) (tree c.args.e.now) (trees c.in-In.list) _ _ _ _ _ _ e c.in_ok-write_operand-in-In.ensures c.in_ok-push-in-In.ensures.items c.in_ok-write_not-in-In.ensures
    c.in_ok-extend_from_slice-in-In.ensures.items k) c.write_list-in-In.ensures

pub write_tree-returns-in_ok-extend_from_slice-in-Between-2 : goal.write_tree-returns-in_ok-extend_from_slice-in-Between-2
write_tree-returns-in_ok-extend_from_slice-in-Between-2 t c =
    let h0 : tree (Between c.in-Between.is_not c.in-Between.operand c.in-Between.from c.in-Between.to) ≡ between c.in-Between.is_not (tree c.in-Between.operand.value) (tree c.in-Between.from.value) (tree c.in-Between.to.value) = between_is c.in-Between.is_not c.in-Between.operand c.in-Between.from c.in-Between.to in
    let h = ap tree c.in-Between.is ∙ h0 in
    let e : tree c.args.e.now ≡ between c.in-Between.is_not (tree c.deref-in-Between.result.now) (tree c.deref-in-Between-2.result.now) (tree c.deref-in-Between-3.result.now) =
    cc h in
    on_ok c.write_operand-in-Between-3.result
    (λ k. between_text c.in-Between.is_not (tree c.deref-in-Between.result.now) (tree c.deref-in-Between-2.result.now) (tree c.deref-in-Between-3.result.now) (tree c.args.e.now) _ _ _ _ _ _ _ _ e
    c.in_ok-write_operand-in-Between.ensures c.in_ok-push-in-Between.ensures.items c.in_ok-write_not-in-Between.ensures c.in_ok-extend_from_slice-in-Between.ensures.items c.in_ok-write_operand-in-Between-2.ensures
    c.in_ok-extend_from_slice-in-Between-2.ensures.items k) c.write_operand-in-Between-3.ensures

pub write_tree-returns-in_ok-extend_from_slice-in-IsNull-2 : goal.write_tree-returns-in_ok-extend_from_slice-in-IsNull-2
write_tree-returns-in_ok-extend_from_slice-in-IsNull-2 t c =
    let h0 : tree (IsNull c.in-IsNull.is_not c.in-IsNull.operand) ≡ is_null c.in-IsNull.is_not (tree c.in-IsNull.operand.value) = null_is c.in-IsNull.is_not c.in-IsNull.operand c.in-IsNull.operand c.in-IsNull.operand in
    let h = ap tree c.in-IsNull.is ∙ h0 in
    let e : tree c.args.e.now ≡ is_null c.in-IsNull.is_not (tree c.deref-in-IsNull.result.now) = cc h in
    null_text c.in-IsNull.is_not (tree c.deref-in-IsNull.result.now) (tree c.args.e.now) _ _ _ _ _ e c.in_ok-write_operand-in-IsNull.ensures c.in_ok-extend_from_slice-in-IsNull.ensures.items c.in_ok-write_not-in-IsNull.ensures
    c.in_ok-extend_from_slice-in-IsNull-2.ensures.items

pub write_tree-returns-in_ok-extend_from_slice-in-Not : goal.write_tree-returns-in_ok-extend_from_slice-in-Not
write_tree-returns-in_ok-extend_from_slice-in-Not t c =
    let h0 : tree (Not c.in-Not.operand) ≡ inverted (tree c.in-Not.operand.value) = not_is true c.in-Not.operand c.in-Not.operand c.in-Not.operand in
    let h = ap tree c.in-Not.is ∙ h0 in
    let e : tree c.args.e.now ≡ inverted (tree c.deref-in-Not.result.now) = cc h in
    on_ok c.write_operand-in-Not.result (λ k. not_text (tree c.deref-in-Not.result.now) (tree c.args.e.now) _ _ _ e c.in_ok-extend_from_slice-in-Not.ensures.items k) c.write_operand-in-Not.ensures
