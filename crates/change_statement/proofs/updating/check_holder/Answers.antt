use Rattle.std.proofs.Common.{◌≡◌, [], ◌∷◌, true, None, sym, subst, All, find, length}
use Rattle.pg_values.specs.Refusals.{IsAnswer, or_first}
use Rattle.row_change.specs.Placing.{tables_of}
use Rattle.row_change.specs.Storing.{FitsTargets, IsTargetNumbered, is_into, leaf_faults}
use Rattle.statement_steps.specs.Gathered.{found_of}
use Rattle.change_statement.specs.Housed.{goes_into, IsOfTree}
use Rattle.change_statement.proofs.Renewed.{on_ok, one_has, one_target, targets_numbered, targets_take, told_of}
use Rattle.change_statement.proofs.updating.check_holder.Goals as goal

pub unreachable-requires : goal.unreachable-requires
unreachable-requires c =
    let kept : goes_into c.args.leaf None ≡ true = subst (λ o. goes_into c.args.leaf o ≡ true) c.in-None.is c.in_ok-keep_target.ensures.kept in
    absurd (cc)

pub check_leaf-requires-clause-fits : goal.check_leaf-requires-clause-fits
check_leaf-requires-clause-fits c =
    let g = found_of c.args.gathered.now in
    let s = c.args.attempt.now.caller.session in
    let st = c.args.stores.now in
    let h = c.requires.may.sound.0 in
    let stands = c.requires.may.sound.1 in
    let is = subst (IsOfTree st.txs st.catalog s g.tree) c.in-Some.is c.in_ok-keep_target.ensures.housing.last h stands.all.txs stands.all.catalog in
    subst (λ ts. FitsTargets ts c.args.row.now) (sym c.from_ref.ensures.value)
    (targets_take st c.args.attempt.now.caller g c.args.row.now (c.in-Some.target ∷ []) c.requires.may c.requires.of (one_target h s g c.in-Some.target is))

pub check_leaf-requires-clause-known : goal.check_leaf-requires-clause-known
check_leaf-requires-clause-known c =
    let g = found_of c.args.gathered.now in
    let s = c.args.attempt.now.caller.session in
    let st = c.args.stores.now in
    let h = c.requires.may.sound.0 in
    let stands = c.requires.may.sound.1 in
    let is = subst (IsOfTree st.txs st.catalog s g.tree) c.in-Some.is c.in_ok-keep_target.ensures.housing.last h stands.all.txs stands.all.catalog in
    subst (All (IsTargetNumbered (length st.catalog.tables))) (sym c.from_ref.ensures.value)
    (targets_numbered st c.args.attempt.now.caller g c.args.row.now (c.in-Some.target ∷ []) h stands c.requires.may c.requires.of (one_target h s g c.in-Some.target is))

pub returns-clause-told : goal.returns-clause-told
returns-clause-told c h stands =
    let g = found_of c.args.gathered.now in
    let s = c.args.attempt.now.caller.session in
    let st = c.args.stores.now in
    let t = c.in-Some.target in
    let is = subst (IsOfTree st.txs st.catalog s g.tree) c.in-Some.is c.in_ok-keep_target.ensures.housing.last h stands.all.txs stands.all.catalog in
    let into = subst (λ o. goes_into c.args.leaf o ≡ true) c.in-Some.is c.in_ok-keep_target.ensures.kept in
    told_of c.check_leaf.result h s g c.args.leaf (t ∷ []) c.args.row.now (one_target h s g t is) (one_has t c.args.leaf into)
    (subst (λ xs. IsAnswer c.check_leaf.result (or_first (leaf_faults (tables_of h) (find (is_into c.args.leaf) xs) c.args.row.now) tt)) c.from_ref.ensures.value (c.check_leaf.ensures h stands.all.catalog))

pub returns-clause-housing : goal.returns-clause-housing
returns-clause-housing c = on_ok _ c.check_leaf.result c.in_ok-keep_target.ensures.housing
