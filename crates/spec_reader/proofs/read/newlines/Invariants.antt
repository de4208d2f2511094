use Rattle.std.proofs.Common.{◌≡◌, ◌≤◌, take}
use Rattle.spec_reader.specs.Specs.{newlines}
use Rattle.spec_reader.proofs.read.newlines.Given as goal

abbrev pub invariant-loop-b : goal.invariant-loop-b
invariant-loop-b l = record {
  counted : l.n ≡ newlines (take l.b-index l.text);
  few : l.n ≤ l.b-index;
}
