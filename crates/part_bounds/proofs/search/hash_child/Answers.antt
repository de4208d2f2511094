use Rattle.std.proofs.Common.{◌≡◌, true, sym, ap, subst, ◌∙◌, get_or, Vec, Global}
use Rattle.std.specs.List.{All, position}
use Rattle.bound_forms.specs.Accepts.{leaves_remainder}
use Rattle.bound_forms.specs.Bounds.{is_filled, IsInPlainOrder}
use Rattle.bound_forms.specs.declared.partition_bound.Bound.{Bound}
use Rattle.bound_forms.proofs.LevelLaws.{kind_filled}
use Rattle.part_bounds.specs.Stored.{IsHashLevel}
use Rattle.part_bounds.proofs.HashLaws.{by_remainder}
use Rattle.part_bounds.proofs.search.hash_child.Goals as goal

pub remainder_child-requires-clause-hashes : goal.remainder_child-requires-clause-hashes
remainder_child-requires-clause-hashes g c =
    let same = c.deref-2.ensures.value ∙ ap (λ (v : Vec Bound Global). v.items) c.deref.ensures ∙ c.set.view_is in
    subst IsHashLevel (sym same) c.requires

pub remainder_child-requires-clause-ordered : goal.remainder_child-requires-clause-ordered
remainder_child-requires-clause-ordered g c =
    let same = c.deref-2.ensures.value ∙ ap (λ (v : Vec Bound Global). v.items) c.deref.ensures in
    subst IsInPlainOrder (sym same) c.set.invariant.1

pub remainder_child-requires-clause-filled : goal.remainder_child-requires-clause-filled
remainder_child-requires-clause-filled g c =
    let same = c.deref-2.ensures.value ∙ ap (λ (v : Vec Bound Global). v.items) c.deref.ensures in
    subst (All (λ b. is_filled b ≡ true)) (sym same) (λ k d lt. kind_filled (g.K.KeyKind.admits c.set.inside.kind) (get_or c.set.inside.bounds.value.items k d) (c.set.invariant.0 k d lt))

pub returns : goal.returns
returns g c =
    let same = c.deref-2.ensures.value ∙ ap (λ (v : Vec Bound Global). v.items) c.deref.ensures ∙ c.set.view_is in
    c.remainder_child.ensures ∙ ap (position (leaves_remainder c.row_hash.result)) same
    ∙ ap (λ n. position (leaves_remainder n) c.args.set.now) c.row_hash.ensures ∙ by_remainder (g.Q.Key.values c.args.key.now) c.args.set.now c.requires
