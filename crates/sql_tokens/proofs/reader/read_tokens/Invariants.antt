use Rattle.std.proofs.Common.{◌≡◌, ◌+◌, ◌-◌, ◌++◌, length}
use Rattle.sql_tokens.specs.Tokens.{tokens_by, tokens_of, InOrder}
use Rattle.sql_tokens.proofs.reader.read_tokens.Given as goal

abbrev pub invariant-loop : goal.invariant-loop
invariant-loop l = record {
  same : l.told.items ++ tokens_by (l.end - l.counter) l.at l.rest ≡ tokens_of l.fn.text;
  order : InOrder 0 l.at l.told.items;
  place : l.at + length l.rest ≡ length l.fn.text;
}
