use Rattle.std.proofs.Common.{◌≡◌, ◌∙◌, ◌++◌, ◌∷◌, [], ap, arith, length, Bool}
use Rattle.std.proofs.lemmas.Grind.{common_steps}
use Rattle.history.specs.History.{tx_events}
use Rattle.part_catalog.specs.Stands.{present_by, shown_by}
use Rattle.part_catalog.proofs.Told.{part_step, map_step}
use Rattle.part_catalog.proofs.see.shown_flags.Goals as goal

pub loop-x-preserved : goal.loop-x-preserved
loop-x-preserved c =
    let i = c.loop-x.invariant in
    let put : c.push.new.self.items ≡ c.loop-x.flags.items ++ c.is_shown.result ∷ [] = c.in_ok-push.ensures.items in
    record {
      count = ap (length {A = Bool}) put ∙ grind (arith, common_steps, i.count);
      part = λ h txs. part_step (present_by (tx_events h) c.args.session) c.loop-x.flags.items c.push.new.self.items c.args.entries.now c.loop-x.x-index c.x-item.result c.is_shown.result i.count c.loop-x-test.true c.x-item.is put (c.is_shown.ensures.part h txs) (i.part h txs);
      told = λ h s txs past snap. map_step (shown_by (tx_events h) c.args.session s) c.loop-x.flags.items c.push.new.self.items c.args.entries.now c.loop-x.x-index c.x-item.result c.is_shown.result c.loop-x-test.true c.x-item.is put (c.is_shown.ensures.is h s txs past snap) (i.told h s txs past snap);
    }
