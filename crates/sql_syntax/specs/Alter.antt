-- ATTACH and DETACH (VI. SQL Commands: ALTER TABLE).
use Rattle.std.specs.Prelude.{ℕ, if◌then◌else◌, List, Option, Some, None}
use Rattle.grammar.specs.Reading.{Class, Rule, follow, as_value, either}
use Rattle.grammar.specs.Repeats.{second_of}
use Rattle.sql_tokens.specs.declared.kind.TokenKind.TheVariants as word
use Rattle.sql_tokens.specs.declared.token.Token.{Token}
use Rattle.grammar.specs.Words.{◌>>◌, ◌&◌, one_of, maybe}
use Rattle.sql_tokens.specs.Classes.{a}
use Rattle.sql_expressions.specs.Lists.{plain_name}
use Rattle.sql_ast.specs.Commands.{Bound, CommandTree, attaches, detaches}
use Rattle.sql_ast.specs.declared.detachment.Detachment.{Detachment}
use Rattle.sql_ast.specs.declared.detachment.Detachment.TheVariants as detachment
use Rattle.sql_syntax.specs.Bound.{bound}

-- alter = "ALTER" "TABLE" name ( "ATTACH" "PARTITION" name bound | "DETACH" "PARTITION" name [ "CONCURRENTLY" | "FINALIZE" ] )
abbrev pub is_detachment : Class Token
is_detachment = one_of (a word.Concurrently) (a word.Finalize)

abbrev pub detachment_of : Option Token → Detachment
detachment_of None = detachment.AtOnce
detachment_of (Some t) = if a word.Concurrently t then detachment.Concurrently else detachment.Finalize

abbrev pub attach_value : List ℕ → List ℕ × Bound → CommandTree
attach_value parent x = attaches parent x.0 x.1

abbrev pub attach : List ℕ → List ℕ → Rule Token CommandTree
attach text parent = as_value (attach_value parent) (a word.Attach >> a word.Partition >> plain_name text & bound text)

abbrev pub detach_value : List ℕ → List ℕ × Option Token → CommandTree
detach_value parent x = detaches parent x.0 (detachment_of x.1)

abbrev pub detach : List ℕ → List ℕ → Rule Token CommandTree
detach text parent = as_value (detach_value parent) (a word.Detach >> a word.Partition >> plain_name text & maybe is_detachment)

abbrev pub altered : List ℕ → List ℕ → Rule Token CommandTree
altered text parent = either (a word.Attach) (attach text parent) (detach text parent)

abbrev pub alter : List ℕ → Rule Token CommandTree
alter text = as_value second_of (a word.Alter >> a word.Table >> follow (plain_name text) (altered text))
