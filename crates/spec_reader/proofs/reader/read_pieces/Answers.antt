use Rattle.std.proofs.Common.{arith, sym, ◌∙◌}
use Rattle.std.proofs.lemmas.List.{length-drop}
use Rattle.spec_reader.proofs.TokenSteps.{one_more_piece, no_more_pieces}
use Rattle.spec_reader.proofs.reader.read_pieces.Goals as goal

pub loop-at-preserved : goal.loop-at-preserved
loop-at-preserved c = record {
  within = omega (arith, length-drop c.loop-at.at c.args.text.now, c.piece_of-piece.ensures.within);
  same = rw c.in_ok-note.ensures
      (one_more_piece c.loop-at.list.items c.loop-at.at c.args.text.now c.piece_of-piece.result (sym c.piece_of-piece.ensures.same) c.loop-at-test.true c.piece_of-piece.ensures.some
      ∙ c.loop-at.invariant.same);
}

pub returns : goal.returns
returns c = sym (no_more_pieces c.loop-at.list.items c.loop-at.at c.args.text.now (omega arith)) ∙ c.loop-at.invariant.same
