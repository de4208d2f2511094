use Rattle.std.proofs.Common.{◌<◌, All, ap, sym, ◌∙◌, subst}
use Rattle.std.proofs.lemmas.Result.{IfOk-weaker}
use Rattle.pg_values.specs.declared.ids.LeafId.{LeafId}
use Rattle.stores.specs.Events.{look_of}
use Rattle.statement_steps.specs.Gathered.{found_of}
use Rattle.change_statement.specs.Running.{IsTargetIn}
use Rattle.change_statement.specs.Targets.{targets}
use Rattle.change_statement.proofs.Kept.{leaves_there}
use Rattle.change_statement.proofs.Targets.{all_targets}
use Rattle.change_statement.proofs.rows.find.Goals as goal

pub find_targets-requires : goal.find_targets-requires
find_targets-requires c =
    let s = c.requires.may.sound in
    subst (All (λ (l : LeafId). l.number < c.args.stores.now.rows.leaves)) (sym c.as_slice.ensures)
    (leaves_there c.args.stores.now c.args.attempt.now.caller (found_of c.args.gathered.now) s.0 s.1 c.requires.gathered)

pub returns-clause-there : goal.returns-clause-there
returns-clause-there c =
    let h = c.requires.may.sound.0 in
    let stands = c.requires.may.sound.1 in
    let g = found_of c.args.gathered.now in
    let s = look_of h c.args.attempt.now.caller.session c.args.attempt.now.caller.cmd in
    IfOk-weaker c.find_targets.result _ _ (λ found is.
    let told = is h s stands.all.txs stands.all.rows (c.in_ok-snap.ensures.read h stands.all.txs stands.good) (c.in_ok-snap.ensures.stands h stands.all.txs) in
    subst (All (IsTargetIn c.args.stores.now.rows g)) (sym (told ∙ ap (targets h s g.asked.condition) c.as_slice.ensures)) (all_targets c.args.stores.now.rows g h s g.asked.condition stands.all.rows)) c.find_targets.ensures.are

pub returns-clause-are : goal.returns-clause-are
returns-clause-are c =
    let g = found_of c.args.gathered.now in
    IfOk-weaker c.find_targets.result _ _ (λ found is h stands.
    let s = look_of h c.args.attempt.now.caller.session c.args.attempt.now.caller.cmd in
    is h s stands.all.txs stands.all.rows (c.in_ok-snap.ensures.read h stands.all.txs stands.good) (c.in_ok-snap.ensures.stands h stands.all.txs) ∙ ap (targets h s g.asked.condition) c.as_slice.ensures) c.find_targets.ensures.are
