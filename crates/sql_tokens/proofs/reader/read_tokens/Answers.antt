use Rattle.std.proofs.Common.{◌<◌, ◌+◌, ◌-◌, length, arith, sym, ◌∙◌, length-drop}
use Rattle.std.proofs.lemmas.Grind.{common_steps}
use Rattle.sql_tokens.specs.Pieces.{next_piece}
use Rattle.sql_tokens.proofs.Order.{order_on, within_taken, placed_end, placed_fault}
use Rattle.sql_tokens.proofs.Steps.{reads_on, stops, none_left, no_count, ended}
use Rattle.sql_tokens.proofs.reader.read_tokens.Goals as goal

pub returns-then-is_empty : goal.returns-then-is_empty
returns-then-is_empty c = record {
  tokens = ended _ _ _ c.loop.invariant.same (none_left _ _ _ (grind (arith, common_steps)));
  places = placed_end c.loop.at _ _ c.loop.invariant.order (omega arith);
}

pub returns-in_default : goal.returns-in_default
returns-in_default c =
    let some : 0 < length c.loop.rest.now = grind (arith, common_steps) in
    let taken = sym c.in_default.is ∙ c.in_ok-n.ensures.taken in
    record {
      tokens = stops (length c.args.text.now - c.loop.counter) (length c.args.text.now - (c.loop.counter + 1)) c.loop.at c.loop.rest.now c.loop.told.items _
          (omega arith) some taken c.in_ok-n.ensures.told ∙ c.loop.invariant.same;
      places = placed_fault c.loop.at _ (next_piece c.loop.rest.now) c.loop.told.items _ taken c.in_ok-n.ensures.told c.loop.invariant.order (omega (arith, some, c.loop.invariant.place));
    }

pub loop-preserved : goal.loop-preserved
loop-preserved c =
    let some : 0 < length c.loop.rest.now = grind (arith, common_steps) in
    let taken = sym c.in-Some.is ∙ c.in_ok-n.ensures.taken in
    let within = within_taken c.in-Some.n c.loop.rest.now (next_piece c.loop.rest.now) c.in_ok-n.ensures.within taken in
    record {
      same = rw c.behind-rest.ensures (reads_on (length c.args.text.now - c.loop.counter) (length c.args.text.now - (c.loop.counter + 1)) c.loop.at c.in-Some.n c.loop.rest.now c.loop.told.items _
          (omega arith) some taken c.in_ok-n.ensures.told ∙ c.loop.invariant.same);
      order = order_on c.loop.at c.in-Some.n c.loop.rest.now (next_piece c.loop.rest.now) c.loop.told.items _ c.in_ok-n.ensures.within taken c.in_ok-n.ensures.told c.loop.invariant.order;
      place = rw (c.behind-rest.ensures, length-drop c.in-Some.n c.loop.rest.now) (omega (arith, within, c.loop.invariant.place));
    }

pub returns : goal.returns
returns c = record {
  tokens = ended _ _ _ c.loop.invariant.same (no_count _ _ _ (omega arith));
  places = placed_end c.loop.at _ _ c.loop.invariant.order (omega arith);
}
