-- Where a block is refused, there is one that begins as it does.
use Rattle.std.proofs.Common.{◌≡◌, ℕ, List, ◌++◌, inl, inr, refl}
use Rattle.std.specs.Prelude.{◌⊎◌}
use Rattle.grammar.specs.Parses.{FailsAt}
use Rattle.sql_tokens.specs.Tokens.{tokens_of}
use Rattle.sql_expressions.specs.Parsed.{IsRefused}
use Rattle.sql_expressions.specs.declared.refused.ParseRefused.{ParseRefused}
use Rattle.sql_expressions.specs.declared.refused.ParseRefused.TheVariants as refusals
use Rattle.sql_syntax.specs.Block.{Stops, passed}
use Rattle.sql_syntax.specs.Grammar.{block}
use Rattle.sql_syntax.proofs.StatementLaws.{block_law}

-- what fits in no block fits in none within the limits
narrow : (text : List ℕ) (left : ℕ) → FailsAt (block text).texts (block text).free (tokens_of text) left → FailsAt (block text).texts (block text).texts (tokens_of text) left
narrow text left h = record {
  front = h.front;
  after = h.after;
  whole = h.whole;
  left_is = h.left_is;
  more = h.more;
  value = h.value;
  begins = h.begins;
  no_more = λ more b same w. h.no_more more b same ((block_law text).shape.within (h.front ++ more) b w);
}

pub stops : (text : List ℕ) (r : ParseRefused) → IsRefused passed block text r → (r ≡ refusals.NoMemory) ⊎ Stops text
stops text refusals.NoMemory h = inl refl
stops text (refusals.Syntax at) h = inr (h.0, narrow text h.0 h.1)
stops text (refusals.Left word) h = inr (h.0, narrow text h.0 h.1)
stops text (refusals.TooMany w) h = inr (h.0, h.1)
