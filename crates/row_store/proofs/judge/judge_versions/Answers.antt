use Rattle.std.proofs.Common.{◌≡◌, slice_index_or, sym, subst, arith}
use Rattle.std.proofs.lemmas.Grind.{common_steps, elements}
use Rattle.row_store.specs.declared.stored.Stored.{Stored}
use Rattle.row_store.specs.Kept.{no_id, stored_at}
use Rattle.row_store.proofs.Judging.{next_passes, next_seen, next_refuses}
use Rattle.row_store.proofs.judge.judge_versions.Goals as goal

pub judge_version-requires : goal.judge_version-requires
judge_version-requires g c =
    let x : Stored = stored_at c.args.versions.now (slice_index_or c.args.ids.now c.loop-id.id-index no_id) in
    let at : c.version_at-stored.result.now ≡ x = first_of (cc, grind (arith, common_steps, elements)) in
    subst (λ (y : Stored). g.T.RowTest.suits c.args.test.now y.version.row) (sym at) (c.requires.suited c.loop-id.id-index c.loop-id-test.true)

pub returns-in-None-clause-refusing : goal.returns-in-None-clause-refusing
returns-in-None-clause-refusing g c =
    let x : Stored = stored_at c.args.versions.now (slice_index_or c.args.ids.now c.loop-id.id-index no_id) in
    let at : c.version_at-stored.result.now ≡ x = first_of (cc, grind (arith, common_steps, elements)) in
    (c.version_at-stored.result.now, next_refuses c.args.txs.now c.args.session c.args.me.number (g.T.RowTest.broken c.args.test.now) c.args.versions.now c.args.ids.now c.loop-id.id-index no_id c.version_at-stored.result.now c.loop-id-test.true at c.loop-id.invariant.refusing c.in-None.ensures.refuses, c.row.ensures)

pub loop-id-preserved : goal.loop-id-preserved
loop-id-preserved g c =
    let x : Stored = stored_at c.args.versions.now (slice_index_or c.args.ids.now c.loop-id.id-index no_id) in
    let at : c.version_at-stored.result.now ≡ x = first_of (cc, grind (arith, common_steps, elements)) in
    record {
      refusing = next_passes c.args.txs.now c.args.session c.args.me.number (g.T.RowTest.broken c.args.test.now) c.args.versions.now c.args.ids.now c.loop-id.id-index no_id c.version_at-stored.result.now c.loop-id-test.true at c.loop-id.invariant.refusing c.in-Some.ensures.refuses;
      seen = λ r. next_seen c.args.txs.now c.args.session (g.T.RowTest.broken c.args.test.now) c.args.versions.now c.args.ids.now c.loop-id.id-index no_id c.version_at-stored.result.now c.loop-id.seen c.in-Some.others c.union-seen.result r c.loop-id-test.true at (c.loop-id.invariant.seen r) (c.in-Some.ensures.seen r) (c.union-seen.ensures r);
    }
