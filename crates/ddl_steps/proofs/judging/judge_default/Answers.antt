use Rattle.std.proofs.Common.{◌≡◌, ◌∙◌, List, ap, sym, subst, Option, Ok}
use Rattle.pg_values.specs.declared.ids.TableNo.{TableNo}
use Rattle.history.specs.declared.catalogue.TableShape.{TableShape}
use Rattle.history.specs.declared.catalogue.Table.{Table}
use Rattle.history.specs.Places.{table_at, HasColumnsOf, TakesBound}
use Rattle.part_catalog.specs.Found.{made_at}
use Rattle.part_ddl.proofs.Defaults.{none_below}
use Rattle.part_ddl.proofs.Kids.{told, leaf_told}
use Rattle.ddl_steps.specs.Places.{default_scan}
use Rattle.ddl_steps.specs.Scans.{judged}
use Rattle.ddl_steps.proofs.Fitted.{level_of_tree}
use Rattle.ddl_steps.proofs.Leaves.{default_kept}
use Rattle.ddl_steps.proofs.RowsOf.{default_columns}
use Rattle.ddl_steps.proofs.Tellings.{nothing_judged}
use Rattle.ddl_steps.proofs.judging.judge_default.Goals as goal

pub unreachable-requires : goal.unreachable-requires
unreachable-requires c =
    let h = c.requires.may.sound.0 in
    let stands = c.requires.may.sound.1 in
    let shape = leaf_told h c.args.attempt.now.caller.session c.args.parent.number c.args.tree.now c.in-Leaf.field-0 c.in-Leaf.is (c.requires.tree h stands.all.txs stands.all.catalog) in
    none_below (made_at h c.args.parent.number).shape c.in-Leaf.field-0 c.args.bound.now shape (c.requires.takes h stands.all.catalog)

pub judge_default_of-requires-clause-default : goal.judge_default_of-requires-clause-default
judge_default_of-requires-clause-default c =
    let h = c.requires.may.sound.0 in
    let stands = c.requires.may.sound.1 in
    let s = c.args.attempt.now.caller.session in
    let p = c.args.parent.number in
    default_kept c.args.stores.now h s p c.in-Some.default stands (sym (c.default_in.ensures h s p stands.all.catalog.sound (c.requires.tree h stands.all.txs stands.all.catalog)) ∙ c.in-Some.is)

pub judge_default_of-requires-clause-columns : goal.judge_default_of-requires-clause-columns
judge_default_of-requires-clause-columns c = λ h catalog.
    let k = c.requires.may.sound.0 in
    let stands = c.requires.may.sound.1 in
    let s = c.args.attempt.now.caller.session in
    let p = c.args.parent.number in
    let is = sym (c.default_in.ensures k s p stands.all.catalog.sound (c.requires.tree k stands.all.txs stands.all.catalog)) ∙ c.in-Some.is in
    subst (λ (ts : List Table). HasColumnsOf (table_at ts p).columns (table_at ts c.in-Some.default.number).columns) (sym stands.all.catalog.tables ∙ catalog.tables) (default_columns c.args.stores.now k s p c.in-Some.default stands is)

pub judge_default_of-requires-clause-level : goal.judge_default_of-requires-clause-level
judge_default_of-requires-clause-level c = λ h txs catalog. (told h c.args.attempt.now.caller.session c.args.parent.number c.args.tree.now c.in-Level.level c.in-Level.field-1 c.in-Level.field-2 c.in-Level.is (c.requires.tree h txs catalog)).shape

pub judge_default_of-requires-clause-keys : goal.judge_default_of-requires-clause-keys
judge_default_of-requires-clause-keys c =
    let m = c.trees_are_together.ensures c.args.stores.now c.requires.may.sound.0 c.args.attempt.now.caller.session c.requires.may.sound.1 in (
      m.h,
      m.catalogue,
      (level_of_tree m.h c.args.attempt.now.caller.session c.args.parent.number c.args.tree.now c.in-Level.level c.in-Level.field-1 c.in-Level.field-2 m.catalogue.sound m.siblings c.in-Level.is (c.requires.tree m.h m.txs m.catalogue)).keys,
    )

pub judge_default_of-requires-clause-mine : goal.judge_default_of-requires-clause-mine
judge_default_of-requires-clause-mine c =
    let h = c.requires.may.sound.0 in
    let stands = c.requires.may.sound.1 in
    let all = told h c.args.attempt.now.caller.session c.args.parent.number c.args.tree.now c.in-Level.level c.in-Level.field-1 c.in-Level.field-2 c.in-Level.is (c.requires.tree h stands.all.txs stands.all.catalog) in
    subst (λ (x : TableShape). TakesBound x c.args.bound.now) all.shape (c.requires.takes h stands.all.catalog)

pub returns-in-None-clause-answer : goal.returns-in-None-clause-answer
returns-in-None-clause-answer c = λ h tells.
    let s = c.args.attempt.now.caller.session in
    let p = c.args.parent.number in
    let none = sym (c.default_in.ensures h s p tells.catalog.sound (c.requires.tree h tells.txs tells.catalog)) ∙ c.in-None.is in
    subst (λ (o : Option TableNo). judged h s (default_scan h s p c.args.bound.now c.args.name.now o) ≡ Ok c.empty.result) (sym none) (nothing_judged h s ∙ ap Ok (sym c.empty.ensures.is))
