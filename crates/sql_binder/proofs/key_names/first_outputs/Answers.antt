use Rattle.std.proofs.Common.{arith, ◌+◌, map, drop, sym, ap, ◌∙◌}
use Rattle.std.proofs.lemmas.List.{drop_all}
use Rattle.expression_binder.proofs.Lists.{later_step}
use Rattle.sql_binder.specs.KeyNames.{first_named, named_with}
use Rattle.sql_binder.specs.Lent.{heading}
use Rattle.sql_binder.proofs.FirstOutputs.{found_at_end}
use Rattle.sql_binder.proofs.key_names.first_outputs.Goals as goal

pub loop-place-preserved : goal.loop-place-preserved
loop-place-preserved c = λ name.
    let i = c.loop-place.place in
    let outputs = c.args.outputs.now in
    let known = first_named name.now c.loop-place.firsts.entries in
    c.in_ok-note.ensures name (map heading (drop (i + 1) outputs))
    ∙ (ap (named_with c.args.names.now.items name.now known i) (sym (later_step heading outputs i c.index-outputs-place.result c.loop-place-test.true c.index-outputs-place.is))
    ∙ c.loop-place.invariant name)

pub returns : goal.returns
returns c = λ name.
    let items = c.args.names.now.items in
    let i = c.loop-place.place in
    let known = first_named name.now c.loop-place.firsts.entries in
    found_at_end items name.now i known
    ∙ (ap (λ os. named_with items name.now known i (map heading os)) (sym (drop_all i c.args.outputs.now (omega (arith, c.loop-place-test.false))))
    ∙ c.loop-place.invariant name)
