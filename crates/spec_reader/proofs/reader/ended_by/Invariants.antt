use Rattle.std.proofs.Common.{◌≡◌, filter, take}
use Rattle.spec_reader.specs.Tokens.{ends_by}
use Rattle.spec_reader.proofs.reader.ended_by.Given as goal

abbrev pub invariant-loop-token : goal.invariant-loop-token
invariant-loop-token l = l.list.items ≡ filter (ends_by l.place) (take l.token-index l.tokens)
