use Rattle.std.proofs.Common.{rules}
use Rattle.std.proofs.Math.Seq.{take-add}
use Rattle.std.proofs.lemmas.List.{take_rest}
use Rattle.std.proofs.KnownBytes.{Appends-trans}
use Rattle.script_program.proofs.output.write_whole.Goals as goal

-- what was taken before, and then the piece
pub loop-at-preserved : goal.loop-at-preserved
loop-at-preserved g c =
    let piece = rw (take_rest c.args.bytes.now c.loop-at.at) at c.in_ok-at.ensures.bytes in
    record {
      within = search rules;
      taken = rw (take-add c.loop-at.at c.in_ok-at.field-0 c.args.bytes.now) (Appends-trans _ _ _ _ _ c.loop-at.invariant.taken piece);
      kept = search rules;
    }
