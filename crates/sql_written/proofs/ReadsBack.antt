-- What is written of a tree that can be written is a text of it within the limits.
use Rattle.std.proofs.Common.{◌≡◌, ℕ, false, List, Result, subst, sym}
use Rattle.std.specs.Prelude.{MatchResult}
use Rattle.grammar.specs.Parses.{IsOnly}
use Rattle.grammar.proofs.WholeLaws.{one_value}
use Rattle.sql_tokens.specs.Tokens.{tokens_of}
use Rattle.sql_tokens.specs.declared.token.Token.{Token}
use Rattle.sql_expressions.specs.Grammar.{any, deep_expression, expression}
use Rattle.sql_expressions.specs.Levels.{Deep, begins_expression}
use Rattle.sql_expressions.specs.Parsed.{ParsesText, passed}
use Rattle.sql_ast.specs.Expressions.{Tree, tree}
use Rattle.sql_ast.specs.declared.expr.Expr.{Expr}
use Rattle.sql_expressions.specs.declared.refused.ParseRefused.{ParseRefused}
use Rattle.sql_expressions.specs.declared.refused.ParseRefused.TheVariants.{NoMemory}
use Rattle.sql_expressions.proofs.LevelLaws.{after_expression}
use Rattle.sql_expressions.proofs.ParseLaws.{read_back}
use Rattle.sql_expressions.proofs.RuleLaws.{expression_law}
use Rattle.sql_expressions.proofs.Limited.{all_of_each}
use Rattle.sql_expressions.proofs.RuleLimits.{all}
use Rattle.sql_expressions.specs.Limits.{IsShort}
use Rattle.sql_written.specs.Precedence.{disjunction, level_of}
use Rattle.sql_written.specs.Writable.{HasText, IsWritable, depth}
use Rattle.sql_written.specs.Written.{marks, written}
use Rattle.sql_written.proofs.Back.{back}
use Rattle.sql_written.proofs.LevelTexts.{climb, loosest}
use Rattle.sql_written.proofs.Said.{Are, are_written}
use Rattle.sql_written.proofs.ShortMarks.{short, short_tokens}
use Rattle.sql_written.proofs.TreeApart.{tree_tokens}

pub tokens_are_marks : (e : Tree) → HasText e → Are (written e) (tokens_of (written e)) (marks e)
tokens_are_marks e w = subst (λ ts. Are (written e) ts (marks e)) (sym (tree_tokens e w)) (are_written (marks e))

-- without limits, of the depth that the tree has as it is written
free_at : (text : List ℕ) (ts : List Token) (x : Deep) → (any text).expression.texts ts x → (deep_expression text).free ts x
free_at text ts x h = h

pub reads_freely : (text : List ℕ) (ts : List Token) (e : Tree) → HasText e → Are text ts (marks e) → (deep_expression text).free ts (e, depth e)
reads_freely text ts e w h = free_at text ts (e, depth e) (climb text (level_of e) disjunction ts (e, depth e) (loosest text (level_of e)) (back text e w ts h))

-- wherever its marks stand in a text
pub reads_there : (text : List ℕ) (ts : List Token) (e : Tree) → IsWritable e → Are text ts (marks e) → (expression text).texts ts e
reads_there text ts e w h = all text ts e (depth e, reads_freely text ts e w.0 h, w.1, all_of_each (IsShort text) ts (short_tokens text (marks e) ts h (short e w.0)))

pub reads : (e : Tree) → IsWritable e → (expression (written e)).texts (tokens_of (written e)) e
reads e w = reads_there (written e) (tokens_of (written e)) e w (tokens_are_marks e w.0)

pub only : (e : Tree) → IsWritable e → IsOnly (expression (written e)).texts (expression (written e)).free (tokens_of (written e)) e
only e w = record { text = reads e w; only = λ b h. one_value (expression_law (written e)) (tokens_of (written e)) e b (reads e w) h }

-- so a parser answers the tree, unless it has no memory
pub parsed : (e : Tree) → IsWritable e → (r : Result Expr ParseRefused) → ParsesText passed expression tree (written e) r → MatchResult r (λ x. tree x ≡ e) (λ x. x ≡ NoMemory)
parsed e w r h = read_back passed expression tree (written e) begins_expression false after_expression (expression_law (written e)) e (reads e w) r h
