-- What the texts of a block give: its statements can be written, and none of its texts opens fewer parentheses than they do.
use Rattle.std.proofs.Common.{◌≡◌, ℕ, ◌+◌, ◌≤◌, Bool, true, false, List, [], ◌∷◌, length, Option, Some, None, refl, sym, subst, arith}
use Rattle.std.specs.Prelude.{nat_lt}
use Rattle.grammar.specs.Reading.{both_texts, nothing_texts, one_texts}
use Rattle.grammar.specs.Repeats.{all_repeats, always}
use Rattle.sql_tokens.specs.Tokens.{tokens_of}
use Rattle.sql_tokens.specs.declared.kind.TokenKind.TheVariants as kinds
use Rattle.sql_tokens.specs.declared.token.Token.{Token}
use Rattle.sql_expressions.specs.Levels.{room_texts}
use Rattle.sql_tokens.specs.Classes.{a}
use Rattle.sql_expressions.proofs.Limited.{Each as EachToken, each_of_all}
use Rattle.sql_syntax.specs.Grammar.{and_maybe, block, first_of, join, maybe_statement, some_statement, statement}
use Rattle.sql_ast.specs.Statements.{StatementTree, commands, queries}
use Rattle.sql_syntax.specs.declared.parse.TheConstants.{MOST_STATEMENTS}
use Rattle.sql_written.specs.Parentheses.{opened}
use Rattle.sql_written.proofs.Costs.{opened_by, opened_tokens}
use Rattle.sql_written.proofs.GivesWritable.{all_stand_in}
use Rattle.sql_written.proofs.Least.{opened_of}
use Rattle.sql_written.proofs.LevelTexts.{Of}
use Rattle.sql_written.specs.Lists.{Each, Maybe}
use Rattle.sql_written.specs.Statements.{statement_marks, written}
use Rattle.sql_written.specs.WritableStatements.{IsWritable}
use Rattle.sql_written.proofs.Gives.{Gives, Own, either, nothing, parts_of, total, valued}
use Rattle.sql_written.proofs.GivesCommands.{command_gives}
use Rattle.sql_written.proofs.GivesQueries.{query_gives}
use Rattle.sql_written.proofs.BlocksReadBack.{tokens_are_marks}

abbrev cost : StatementTree → ℕ
cost t = opened_by (statement_marks t)

abbrev maybe_cost : Option StatementTree → ℕ
maybe_cost None = 0
maybe_cost (Some t) = cost t

total_of : (xs : List StatementTree) (o : Option StatementTree) → total cost (and_maybe xs o) ≡ total cost xs + maybe_cost o
total_of xs None = omega arith
total_of [] (Some t) = omega arith
total_of (x ∷ xs) (Some t) = omega (arith, total_of xs (Some t))

each_of : (xs : List StatementTree) (o : Option StatementTree) → Each IsWritable xs → Maybe IsWritable o → Each IsWritable (and_maybe xs o)
each_of xs None h w = h
each_of [] (Some t) h w = (w, tt)
each_of (x ∷ xs) (Some t) h w = (h.0, each_of xs (Some t) h.1 w)

module _ (text : List ℕ) where
  statement_gives : Gives text (statement text).texts cost IsWritable
  statement_gives =
      either (valued queries cost IsWritable (λ q. omega arith) (λ q w. w) (query_gives text))
      (valued commands cost IsWritable (λ c. omega arith) (λ c w. w) (command_gives text))

  some_gives : Gives text (some_statement text).texts maybe_cost (Maybe IsWritable)
  some_gives = valued (λ (t : StatementTree). Some t) maybe_cost (Maybe IsWritable) (λ t. omega arith) (λ t w. w) statement_gives

  no_statement : Gives text (nothing_texts None) maybe_cost (Maybe IsWritable)
  no_statement = nothing None maybe_cost (Maybe IsWritable) refl tt

  with_room : (b : Bool) → Gives text (room_texts b (some_statement text).texts (nothing_texts None)) maybe_cost (Maybe IsWritable)
  with_room true = either some_gives no_statement
  with_room false = no_statement

  maybe_gives : (n : ℕ) → Gives text (maybe_statement text n).texts maybe_cost (Maybe IsWritable)
  maybe_gives n = with_room (nat_lt n MOST_STATEMENTS)

  -- the statements behind the first
  abbrev Behind : List StatementTree → Of (Token × Option StatementTree)
  Behind xs = both_texts (one_texts (a kinds.Semicolon)) (maybe_statement text (length xs)).texts

  repeats_fewest : (l : List StatementTree) (xs : List (Token × Option StatementTree)) (ts : List Token) (y : List StatementTree) → all_repeats always join Behind l xs ts y → total cost y ≤ total cost l + opened ts
  repeats_fewest l [] ts y h = subst (λ z. total cost z ≤ total cost l + opened ts) (sym h.1) (omega arith)
  repeats_fewest l (x ∷ xs) ts y h =
      let u = h.1 in
      let b = h.4 in
      let on = repeats_fewest (and_maybe l x.1) xs h.2 y h.5 in
      omega (arith, on, total_of l x.1, opened_of ts u h.2 h.3, opened_of u b.0 b.1 b.2, (maybe_gives (length l)).fewest b.1 x.1 b.4)

  repeats_fit : (l : List StatementTree) (xs : List (Token × Option StatementTree)) (ts : List Token) (y : List StatementTree) → EachToken (Own text) ts → Each IsWritable l → all_repeats always join Behind l xs ts y → Each IsWritable y
  repeats_fit l [] ts y e w h = subst (Each IsWritable) (sym h.1) w
  repeats_fit l (x ∷ xs) ts y e w h =
      let b = h.4 in
      let p = parts_of (Own text) ts h.1 h.2 h.3 e in
      let q = parts_of (Own text) h.1 b.0 b.1 b.2 p.0 in
      repeats_fit (and_maybe l x.1) xs h.2 y p.1 (each_of l x.1 w ((maybe_gives (length l)).fits b.1 x.1 q.1 b.4)) h.5

  block_gives : Gives text (block text).texts (total cost) (Each IsWritable)
  block_gives = record {
    fewest = λ ts y h.
        let f = h.1 in
        let on = repeats_fewest (first_of h.0.0) f.4.0 f.1 h.0.1 f.4.1 in
        subst (λ z. total cost z ≤ opened ts) (sym h.2) (omega (arith, on, total_of [] h.0.0, opened_of ts f.0 f.1 f.2, (maybe_gives 0).fewest f.0 h.0.0 f.3));
    fits = λ ts y e h.
        let f = h.1 in
        let p = parts_of (Own text) ts f.0 f.1 f.2 e in
        subst (Each IsWritable) (sym h.2) (repeats_fit (first_of h.0.0) f.4.0 f.1 h.0.1 p.1 (each_of [] h.0.0 tt ((maybe_gives 0).fits f.0 h.0.0 p.0 f.3)) f.4.1);
  }

  pub parsed_are_writable : (trees : List StatementTree) → (block text).texts (tokens_of text) trees → Each IsWritable trees
  parsed_are_writable trees h = block_gives.fits (tokens_of text) trees (each_of_all (Own text) (tokens_of text) (all_stand_in text)) h

  pub no_fewer : (tree : StatementTree) (tokens : List Token) → IsWritable tree → (block text).texts tokens (tree ∷ []) → opened (tokens_of (written tree)) ≤ opened tokens
  no_fewer tree tokens w h =
      let few = block_gives.fewest tokens (tree ∷ []) h in
      omega (arith, few, opened_tokens (written tree) (statement_marks tree) (tokens_of (written tree)) (tokens_are_marks tree w))
