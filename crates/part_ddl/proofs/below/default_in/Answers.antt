use Rattle.std.proofs.Common.{◌≡◌, ◌∙◌, arith, sym, Some, position}
use Rattle.bound_forms.specs.Accepts.{is_default}
use Rattle.row_router.specs.Seen.{items_of}
use Rattle.row_router.proofs.Levels.{found_within}
use Rattle.part_ddl.proofs.Defaults.{default_is, no_default, leaf_has_none}
use Rattle.part_ddl.proofs.Kids.{told, leaf_told}
use Rattle.part_ddl.proofs.below.default_in.Goals as goal

pub returns-in-Leaf : goal.returns-in-Leaf
returns-in-Leaf c h s t sound is = leaf_has_none h s t c.in-Leaf.field-0 sound (leaf_told h s t c.args.tree.now c.in-Leaf.field-0 c.in-Leaf.is is)

pub at-requires : goal.at-requires
at-requires c =
    let k = c.requires in
    let all = told k.h k.session k.table c.args.tree.now c.in-Level.field-0 c.in-Level.bounds c.in-Level.children c.in-Level.is k.is in
    let at : Some c.in-Some.at ≡ position is_default c.in-Level.bounds = sym c.in-Some.is ∙ c.default_child.ensures in
    omega (arith, found_within is_default c.in-Level.bounds c.in-Some.at at, all.paired)

pub returns-in-Some : goal.returns-in-Some
returns-in-Some c h s t sound is =
    let all = told h s t c.args.tree.now c.in-Level.field-0 c.in-Level.bounds c.in-Level.children c.in-Level.is is in
    default_is h s t c.in-Level.field-0 c.in-Level.bounds (items_of c.in-Level.children) c.in-Some.at c.at.result.now all (sym c.in-Some.is ∙ c.default_child.ensures) c.at.ensures

pub returns-in-None : goal.returns-in-None
returns-in-None c h s t sound is =
    let all = told h s t c.args.tree.now c.in-Level.field-0 c.in-Level.bounds c.in-Level.children c.in-Level.is is in
    no_default h s t c.in-Level.field-0 c.in-Level.bounds (items_of c.in-Level.children) all (sym c.in-None.is ∙ c.default_child.ensures)
