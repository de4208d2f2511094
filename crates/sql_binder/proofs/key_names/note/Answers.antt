use Rattle.std.proofs.Common.{Some, ap, ◌∙◌}
use Rattle.sql_ast.specs.Expressions.{tree}
use Rattle.sql_binder.specs.KeyNames.{seen, first_named, with_output}
use Rattle.sql_binder.specs.Lent.{heading}
use Rattle.sql_binder.proofs.FirstOutputs.{noted, seen_put}
use Rattle.sql_binder.proofs.key_names.note.Goals as goal

pub returns : goal.returns
returns c = λ name hs.
    let items = c.args.names.now.items in
    let place = c.args.place in
    let output = heading c.args.output.now in
    let key = c.name-name.result.now in
    let earlier = c.args.firsts.now.entries in
    noted items name.now place output hs (λ n. first_named n earlier) key (seen (Some c.with_output-first.result)) _
    c.name-name.ensures
    (c.with_output-first.ensures
    ∙ (ap (λ o. Some (with_output items (seen o) place (tree c.value.result.now))) c.get.ensures.value ∙ ap (λ t. Some (with_output items (first_named key earlier) place t)) c.value.ensures))
    (ap seen (c.in_ok-insert.ensures.updates.0 name) ∙ seen_put _ _ _)
