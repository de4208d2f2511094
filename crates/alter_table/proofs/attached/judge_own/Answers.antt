use Rattle.std.proofs.Common.{[], ◌∷◌, sym, ◌∙◌}
use Rattle.row_router.specs.Histories.{ddl_tree}
use Rattle.row_router.specs.Trees.{height}
use Rattle.ddl_steps.specs.Places.{place_scan}
use Rattle.alter_table.proofs.Scanned.{columns_always, takes_always}
use Rattle.alter_table.proofs.LeftOut.{clean_in, each_data, nobody_judged, nobody_watches}
use Rattle.alter_table.proofs.attached.judge_own.Goals as goal

pub is_skipped-requires-clause-siblings : goal.is_skipped-requires-clause-siblings
is_skipped-requires-clause-siblings c = c.trees_are_together.ensures c.args.stores.now c.requires.may.sound.0 c.args.attempt.now.caller.session c.requires.may.sound.1

pub is_skipped-requires-clause-takes : goal.is_skipped-requires-clause-takes
is_skipped-requires-clause-takes c = takes_always c.args.stores.now c.args.attempt.now.caller c.args.parent.number c.args.table.number c.args.bound.now c.requires.may c.requires.place

pub judge_table-requires-clause-columns : goal.judge_table-requires-clause-columns
judge_table-requires-clause-columns c = columns_always c.args.stores.now c.args.attempt.now.caller c.args.parent.number c.args.table.number c.args.bound.now c.requires.may c.requires.place

pub judge_table-requires-clause-takes : goal.judge_table-requires-clause-takes
judge_table-requires-clause-takes c = takes_always c.args.stores.now c.args.attempt.now.caller c.args.parent.number c.args.table.number c.args.bound.now c.requires.may c.requires.place

pub judge_table-requires-clause-place : goal.judge_table-requires-clause-place
judge_table-requires-clause-place c = λ h txs catalog. (height (ddl_tree h c.args.attempt.now.caller.session c.args.table.number), (c.requires.place h txs catalog).place)

pub returns-then-known-clause-answer : goal.returns-then-known-clause-answer
returns-then-known-clause-answer c = λ h it.
    let s = c.args.attempt.now.caller.session in
    let p = c.args.parent.number in
    let t = c.args.table.number in
    let b = c.args.bound.now in
    let clean = clean_in c.skipped_is_clean.ensures c.args.stores.now c.args.attempt.now.caller p t b h c.requires.may c.requires.table it (sym (c.in_ok-known.ensures h it.tells.txs it.tells.catalog) ∙ c.if-known.true) in
    nobody_judged h s p t b c.empty.result clean c.empty.ensures.has

pub returns-then-known-clause-all : goal.returns-then-known-clause-all
returns-then-known-clause-all c = λ h it.
    let s = c.args.attempt.now.caller.session in
    let p = c.args.parent.number in
    let t = c.args.table.number in
    let b = c.args.bound.now in
    let clean = clean_in c.skipped_is_clean.ensures c.args.stores.now c.args.attempt.now.caller p t b h c.requires.may c.requires.table it (sym (c.in_ok-known.ensures h it.tells.txs it.tells.catalog) ∙ c.if-known.true) in
    nobody_watches h s p t b c.empty.result clean c.empty.ensures.has

pub returns-else-known-clause-answer : goal.returns-else-known-clause-answer
returns-else-known-clause-answer c = λ h it. c.judge_table.ensures.answer h it.tells

pub returns-else-known-clause-all : goal.returns-else-known-clause-all
returns-else-known-clause-all c = each_data c.args.stores.now c.args.attempt.now.caller.session c.args.table.number (λ h. place_scan h c.args.attempt.now.caller.session c.args.parent.number c.args.table.number c.args.bound.now ∷ []) c.judge_table.result c.judge_table.ensures.all
