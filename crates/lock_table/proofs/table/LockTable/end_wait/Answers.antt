use Rattle.std.proofs.Common.{◌≡◌, ◌<◌, refl, arith, length, rules, sym, ap, ◌∙◌}
use Rattle.std.proofs.lemmas.Grind.{common_steps, elements}
use Rattle.std.proofs.lemmas.Fn.{filter_same}
use Rattle.history.specs.Locks.{removed}
use Rattle.lock_table.specs.Stands.{over}
use Rattle.lock_table.proofs.Tables.{over_kept}
use Rattle.lock_table.proofs.table.LockTable.end_wait.Goals as goal

pub invariant_of-self : goal.invariant_of-self
invariant_of-self c =
    let q : c.retain.new.self.items ≡ removed c.args.session c.self.inside.queue.items = filter_same _ _ _ (λ x b f' k. search rules) _ _ c.retain.ensures.filtered in
    let lt : c.args.session < length c.self.inside.wants.items = grind (arith, common_steps) in
    (rw q (over_kept _ c.args.session c.self.invariant.0 lt), (grind (arith, common_steps, c.self.invariant.1.0), c.self.invariant.1.1, c.self.invariant.1.2, c.self.invariant.1.3))

pub returns : goal.returns
returns c =
    let q : c.retain.new.self.items ≡ removed c.args.session c.self.inside.queue.items = filter_same _ _ _ (λ x b f' k. search rules) _ _ c.retain.ensures.filtered in
    rw q (ap (λ k. over k c.args.session) c.self.view_is)
