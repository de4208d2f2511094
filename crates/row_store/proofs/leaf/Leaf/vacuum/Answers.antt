use Rattle.std.proofs.Common.{◌≡◌, sym, subst, filter, rules}
use Rattle.std.proofs.lemmas.Fn.{filter_same}
use Rattle.row_store.specs.Dead.{IsDeadAt, lives_at}
use Rattle.history.specs.Thinned.{Thins}
use Rattle.history.proofs.Thinned.{thin_none}
use Rattle.row_store.proofs.DeadVersions.{living_left}
use Rattle.row_store.proofs.leaf.Leaf.vacuum.Goals as goal

pub returns-then-len-lt-FEW : goal.returns-then-len-lt-FEW
returns-then-len-lt-FEW c = thin_none (IsDeadAt c.args.txs.now c.args.versions.now) _

pub returns : goal.returns
returns c =
    let lives = lives_at c.args.txs.now c.args.versions.now in
    let ids = c.self.inside.ids.items in
    let left : c.retain.new.self.items ≡ filter lives ids = filter_same _ lives _ (λ x b f' k. search rules) _ _ c.retain.ensures.filtered in
    let thin = subst (Thins (IsDeadAt c.args.txs.now c.args.versions.now) ids) (sym left) (living_left c.args.txs.now c.args.versions.now ids) in
    subst (λ is. Thins (IsDeadAt c.args.txs.now c.args.versions.now) is c.retain.new.self.items) c.self.view_is thin
