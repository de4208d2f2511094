-- What is written of a statement that can be written is a block of that statement alone, within the limits.
use Rattle.std.proofs.Common.{◌≡◌, ℕ, true, List, [], ◌∷◌, Result, Some, inl, refl, sym, subst, append-nil}
use Rattle.std.specs.Prelude.{MatchResult}
use Rattle.grammar.specs.Parses.{IsOnly}
use Rattle.grammar.proofs.WholeLaws.{one_value}
use Rattle.sql_tokens.specs.Tokens.{tokens_of}
use Rattle.sql_tokens.specs.declared.token.Token.{Token}
use Rattle.sql_expressions.specs.declared.refused.ParseRefused.{ParseRefused}
use Rattle.sql_expressions.specs.declared.refused.ParseRefused.TheVariants.{NoMemory}
use Rattle.sql_expressions.specs.Parsed.{ParsesText}
use Rattle.sql_expressions.proofs.ParseLaws.{read_back}
use Rattle.sql_syntax.specs.Block.{passed}
use Rattle.sql_syntax.specs.Grammar.{block, maybe_statement, statement}
use Rattle.sql_ast.specs.Statements.{StatementTree, commands, queries}
use Rattle.sql_syntax.proofs.StatementLaws.{after_block, begins_block, block_law}
use Rattle.sql_written.proofs.MarkTokens.{tokens_written}
use Rattle.sql_written.proofs.MarksApart.{end_ends}
use Rattle.sql_written.proofs.Said.{Are, are_written}
use Rattle.sql_written.specs.Statements.{statement_marks, written}
use Rattle.sql_written.specs.WritableStatements.{IsWritable}
use Rattle.sql_written.proofs.CommandTexts.{command_spells}
use Rattle.sql_written.proofs.QueryTexts.{query_spells}
use Rattle.sql_written.proofs.Spells.{Begins, Exactly, exactly, left, right, valued}

pub statement_spells : (text : List ℕ) (t : StatementTree) → IsWritable t → Exactly Begins text (statement text).texts (statement_marks t) t
statement_spells text (commands c) w = right _ (exactly (commands c) (valued commands (command_spells text c w)) (λ i. refl))
statement_spells text (queries q) w = left _ (exactly (queries q) (valued queries (query_spells text q w)) (λ i. refl))

-- its tokens
pub tokens_are_marks : (t : StatementTree) → IsWritable t → Are (written t) (tokens_of (written t)) (statement_marks t)
tokens_are_marks t w =
    let ms = statement_marks t in
    let apart = (statement_spells (written t) t w).apart 0 end_ends in
    subst (λ ts. Are (written t) ts ms) (sym (tokens_written ms apart)) (are_written ms)

pub reads : (t : StatementTree) → IsWritable t → (block (written t)).texts (tokens_of (written t)) (t ∷ [])
reads t w =
    let ts = tokens_of (written t) in
    let r = ((statement_spells (written t) t w).reads ts (tokens_are_marks t w)).1 in
    ((Some t, t ∷ []), (ts, [], sym (append-nil ts), left_there (written t) ts t r, ([], (refl, refl))), refl)
  where
    left_there : (text : List ℕ) (ts : List Token) (x : StatementTree) → (statement text).texts ts x → (maybe_statement text 0).texts ts (Some x)
    left_there text ts x h = inl (x, h, refl)

pub only : (t : StatementTree) → IsWritable t → IsOnly (block (written t)).texts (block (written t)).free (tokens_of (written t)) (t ∷ [])
only t w = record { text = reads t w; only = λ b h. one_value (block_law (written t)) (tokens_of (written t)) (t ∷ []) b (reads t w) h }

-- so a parser answers that statement alone, unless it has no memory
pub parsed : {X : Type 0} (view : X → List StatementTree) (t : StatementTree) → IsWritable t → (r : Result X ParseRefused) → ParsesText passed block view (written t) r → MatchResult r (λ x. view x ≡ t ∷ []) (λ e. e ≡ NoMemory)
parsed view t w r h = read_back passed block view (written t) begins_block true after_block (block_law (written t)) (t ∷ []) (reads t w) r h
