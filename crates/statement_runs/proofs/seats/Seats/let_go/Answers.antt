use Rattle.std.proofs.Common.{◌≡◌, ◌&&◌, refl, ap, ◌∙◌, length, subst, is_some, None, slice_index_or}
use Rattle.std.specs.Vec.{with_items}
use Rattle.stores.specs.Events.{let_go}
use Rattle.statement_runs.specs.Kept.{Adds, waits_in}
use Rattle.statement_runs.specs.contracts.seats.Seats.{the_view}
use Rattle.statement_runs.proofs.Waiting.{snapshot_some}
use Rattle.statement_runs.proofs.Steps.{seats, kept_after, seated_after, let_go_adds, all_set, all_marked, known_of}
use Rattle.statement_runs.proofs.seats.Seats.let_go.Goals as goal

pub invariant_of-self : goal.invariant_of-self
invariant_of-self c = kept_after (the_view c.self.inside) (seats c.let_go.new.self c.self.inside.opened.items c.self.inside.commands.items c.self.inside.cancelled.items c.self.inside.rests.items (with_items c.self.inside.moved c.mark_all.new.flags).items c.self.inside.queue.items c.ready-self-inside.result c.self.inside.whole) (λ h. let_go c.args.session) c.self.invariant
    (seated_after (the_view c.self.inside) c.let_go.new.self _ _ _ _ _ _ _ _ c.self.invariant.seated refl refl refl refl (all_marked c.self.inside.moved.items (with_items c.self.inside.moved c.mark_all.new.flags).items (all_set c.self.inside.moved c.mark_all.new.flags c.deref_mut.result.now c.mark_all.ensures c.deref_mut.ensures.value)) c.let_go.ensures.size
    c.self.invariant.seated.queue
    (known_of (length c.let_go.new.self.locks.wants) c.ready-self-inside.result (length c.self.inside.opened.items) (c.let_go.ensures.size.waits ∙ c.self.invariant.seated.waits) c.ready-self-inside.ensures.known))
    (let_go_adds (the_view c.self.inside) c.let_go.new.self c.args.session (with_items c.self.inside.moved c.mark_all.new.flags).items c.ready-self-inside.result c.self.invariant.seated
    c.let_go.ensures.good (ap (λ t. t.current) c.let_go.ensures.txs) (ap (λ v. v.rows) c.let_go.ensures.rest) c.let_go.ensures.size (all_set c.self.inside.moved c.mark_all.new.flags c.deref_mut.result.now c.mark_all.ensures c.deref_mut.ensures.value) c.ready-self-inside.ensures.is)

pub returns-clause-adds : goal.returns-clause-adds
returns-clause-adds c = subst (λ v. Adds v (seats c.let_go.new.self c.self.inside.opened.items c.self.inside.commands.items c.self.inside.cancelled.items c.self.inside.rests.items (with_items c.self.inside.moved c.mark_all.new.flags).items c.self.inside.queue.items c.ready-self-inside.result c.self.inside.whole) (λ h. let_go c.args.session)) c.self.view_is
    (let_go_adds (the_view c.self.inside) c.let_go.new.self c.args.session (with_items c.self.inside.moved c.mark_all.new.flags).items c.ready-self-inside.result c.self.invariant.seated
    c.let_go.ensures.good (ap (λ t. t.current) c.let_go.ensures.txs) (ap (λ v. v.rows) c.let_go.ensures.rest) c.let_go.ensures.size (all_set c.self.inside.moved c.mark_all.new.flags c.deref_mut.result.now c.mark_all.ensures c.deref_mut.ensures.value) c.ready-self-inside.ensures.is)

pub returns-clause-waits : goal.returns-clause-waits
returns-clause-waits c = subst (λ v. waits_in (seats c.let_go.new.self c.self.inside.opened.items c.self.inside.commands.items c.self.inside.cancelled.items c.self.inside.rests.items (with_items c.self.inside.moved c.mark_all.new.flags).items c.self.inside.queue.items c.ready-self-inside.result c.self.inside.whole) c.args.session ≡ waits_in v c.args.session) c.self.view_is
    (ap (λ b. c.self.inside.whole && b) (ap is_some (c.let_go.ensures.waits c.args.session) ∙ snapshot_some c.args.session (slice_index_or c.self.inside.stores.locks.wants c.args.session None)))
