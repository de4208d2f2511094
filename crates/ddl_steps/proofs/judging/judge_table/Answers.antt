use Rattle.std.proofs.Common.{subst}
use Rattle.history.specs.declared.catalogue.TableShape.{TableShape}
use Rattle.history.specs.Places.{TakesBound}
use Rattle.part_catalog.specs.Found.{made_at}
use Rattle.part_ddl.proofs.Defaults.{none_below}
use Rattle.part_ddl.proofs.Kids.{told, leaf_told, all_of_level}
use Rattle.ddl_steps.proofs.Fitted.{level_of_tree}
use Rattle.ddl_steps.proofs.judging.judge_table.Goals as goal

pub unreachable-requires : goal.unreachable-requires
unreachable-requires c =
    let h = c.requires.may.sound.0 in
    let stands = c.requires.may.sound.1 in
    let shape = leaf_told h c.args.attempt.now.caller.session c.args.parent.number c.args.tree.now c.in-Leaf.field-0 c.in-Leaf.is (c.requires.tree h stands.all.txs stands.all.catalog) in
    none_below (made_at h c.args.parent.number).shape c.in-Leaf.field-0 c.args.bound.now shape (c.requires.takes h stands.all.catalog)

pub judge_below-requires-clause-level : goal.judge_below-requires-clause-level
judge_below-requires-clause-level c = λ h txs catalog. (told h c.args.attempt.now.caller.session c.args.parent.number c.args.tree.now c.in-Level.level c.in-Level.siblings c.in-Level.field-2 c.in-Level.is (c.requires.tree h txs catalog)).shape

pub judge_below-requires-clause-siblings : goal.judge_below-requires-clause-siblings
judge_below-requires-clause-siblings c = λ h txs catalog. (told h c.args.attempt.now.caller.session c.args.parent.number c.args.tree.now c.in-Level.level c.in-Level.siblings c.in-Level.field-2 c.in-Level.is (c.requires.tree h txs catalog)).bounds

pub judge_below-requires-clause-keys : goal.judge_below-requires-clause-keys
judge_below-requires-clause-keys c =
    let m = c.trees_are_together.ensures c.args.stores.now c.requires.may.sound.0 c.args.attempt.now.caller.session c.requires.may.sound.1 in (
      m.h,
      m.catalogue,
      (level_of_tree m.h c.args.attempt.now.caller.session c.args.parent.number c.args.tree.now c.in-Level.level c.in-Level.siblings c.in-Level.field-2 m.catalogue.sound m.siblings c.in-Level.is (c.requires.tree m.h m.txs m.catalogue)).keys,
    )

pub judge_below-requires-clause-mine : goal.judge_below-requires-clause-mine
judge_below-requires-clause-mine c =
    let h = c.requires.may.sound.0 in
    let stands = c.requires.may.sound.1 in
    let all = told h c.args.attempt.now.caller.session c.args.parent.number c.args.tree.now c.in-Level.level c.in-Level.siblings c.in-Level.field-2 c.in-Level.is (c.requires.tree h stands.all.txs stands.all.catalog) in
    subst (λ (x : TableShape). TakesBound x c.args.bound.now) all.shape (c.requires.takes h stands.all.catalog)

pub judge_below-requires-clause-theirs : goal.judge_below-requires-clause-theirs
judge_below-requires-clause-theirs c =
    let m = c.trees_are_together.ensures c.args.stores.now c.requires.may.sound.0 c.args.attempt.now.caller.session c.requires.may.sound.1 in
    all_of_level m.h c.args.attempt.now.caller.session c.args.parent.number c.args.tree.now c.in-Level.level c.in-Level.siblings c.in-Level.field-2 m.catalogue.sound m.siblings c.in-Level.is (c.requires.tree m.h m.txs m.catalogue)
