use Rattle.std.proofs.Common.{◌∙◌, arith}
use Rattle.spec_reader.proofs.Newlines.{newlines_more, newlines_end}
use Rattle.spec_reader.proofs.read.newlines.Goals as goal

pub loop-b-preserved : goal.loop-b-preserved
loop-b-preserved c = record {
  counted = omega (arith, c.loop-b.invariant.counted, c.one_if-n.ensures.counted, newlines_more c.args.text.now c.loop-b.b-index c.loop-b-test.true);
  few = omega (arith, c.loop-b.invariant.few, c.one_if-n.ensures.within);
}

pub returns-clause-counted : goal.returns-clause-counted
returns-clause-counted c = c.loop-b.invariant.counted ∙ newlines_end c.args.text.now c.loop-b.b-index c.loop-b-test.false
