use Rattle.std.proofs.Common.{◌∙◌, Bool, true, sym, arith}
use Rattle.bound_forms.proofs.Choice.{position_at, position_none, none_more}
use Rattle.history.specs.History.{tx_events}
use Rattle.part_catalog.specs.declared.stored.StoredEntry.{StoredEntry}
use Rattle.part_catalog.specs.Stands.{between_by}
use Rattle.part_catalog.proofs.change.find_between.Goals as goal

pub returns-then-is_between-clause-is : goal.returns-then-is_between-clause-is
returns-then-is_between-clause-is c h txs =
    sym (position_at (between_by (tx_events h) c.args.session c.args.parent.number c.args.child.number) c.args.entries.now c.loop-at.at c.index-entries-at.result c.loop-at-test.true c.index-entries-at.is (sym (c.is_between.ensures h txs) ∙ c.if-is_between.true) (c.loop-at.invariant h txs))

pub loop-at-preserved : goal.loop-at-preserved
loop-at-preserved c h txs =
    none_more (λ (x : StoredEntry) (u : Bool). between_by (tx_events h) c.args.session c.args.parent.number c.args.child.number x) true c.args.entries.now c.loop-at.at c.index-entries-at.result c.loop-at-test.true c.index-entries-at.is (sym (c.is_between.ensures h txs) ∙ c.if-is_between.false) (c.loop-at.invariant h txs)

pub returns-clause-is : goal.returns-clause-is
returns-clause-is c h txs =
    let before = c.loop-at.invariant h txs in
    sym (position_none (between_by (tx_events h) c.args.session c.args.parent.number c.args.child.number) c.args.entries.now (λ k d lt. before k d (omega arith)))
