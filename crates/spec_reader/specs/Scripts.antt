-- The grammar of scripts (PostgreSQL's src/test/isolation/README describes them):
--
--   script      = { setup } [ teardown ] session { session } { permutation }
--   setup       = "setup" block
--   teardown    = "teardown" block
--   session     = "session" name [ setup ] step { step } [ teardown ]
--   step        = "step" name block
--   permutation = "permutation" use { use }
--   use         = name [ "(" marker { "," marker } ")" ]
--   marker      = "*" | name [ "notices" number ]
--
-- What a name or a block says stands in the text, so rules take the text.
use Rattle.std.specs.Prelude.{ℕ, List, [], Option, Some, None}
use Rattle.grammar.specs.Reading.{Class, Rule, one, as_value, optional, either}
use Rattle.grammar.specs.Repeats.{many}
use Rattle.grammar.specs.Words.{◌>>◌, ◌&◌, means, between, separated, some}
use Rattle.spec_reader.specs.Contents.{name_in, block_in}
use Rattle.spec_reader.specs.Tokens.{tokens_of}
use Rattle.spec_reader.specs.Words.{is, is_name}
use Rattle.spec_reader.specs.declared.kind.ScriptTokenKind.{ScriptTokenKind}
use Rattle.spec_reader.specs.declared.kind.ScriptTokenKind.TheVariants as word
use Rattle.spec_reader.specs.declared.spec.SessionSpec.{SessionSpec}
use Rattle.spec_reader.specs.declared.spec.StepSpec.{StepSpec}
use Rattle.spec_reader.specs.declared.token.Token.{Token}
use Rattle.spec_reader.specs.declared.written.WrittenMarker.{WrittenMarker}
use Rattle.spec_reader.specs.declared.written.WrittenMarker.TheVariants as written
use Rattle.spec_reader.specs.declared.written.WrittenSpec.{WrittenSpec}
use Rattle.spec_reader.specs.declared.written.WrittenUse.{WrittenUse}

-- a token of the kind, and one that is a name
abbrev pub a : ScriptTokenKind → Class Token
a k t = is t.kind k

abbrev pub a_name : Class Token
a_name t = is_name t.kind

-- name and block, without their quotes and braces
abbrev pub name : List ℕ → Rule Token (List ℕ)
name text = as_value (name_in text) (one a_name)

abbrev pub block : List ℕ → Rule Token (List ℕ)
block text = as_value (block_in text) (one (a word.Block))

-- a block behind its word, and one that may be missing
abbrev pub block_of : List ℕ → ScriptTokenKind → Rule Token (List ℕ)
block_of text k = a k >> block text

abbrev pub maybe_block : List ℕ → ScriptTokenKind → Rule Token (Option (List ℕ))
maybe_block text k = optional (a k) (block_of text k)

abbrev pub setup : List ℕ → Rule Token (List ℕ)
setup text = block_of text word.Setup

-- step = "step" name block
abbrev pub step_of : List ℕ × List ℕ → StepSpec
step_of x = record { name = x.0; block = x.1 }

abbrev pub step : List ℕ → Rule Token StepSpec
step text = a word.Step >> as_value step_of (name text & block text)

-- session = "session" name [ setup ] step { step } [ teardown ]
abbrev pub session_of : List ℕ × (Option (List ℕ) × (List StepSpec × Option (List ℕ))) → SessionSpec
session_of x = record { name = x.0; setup = x.1.0; steps = x.1.1.0; teardown = x.1.1.1 }

abbrev pub session : List ℕ → Rule Token SessionSpec
session text = a word.Session >> as_value session_of (name text & (maybe_block text word.Setup & (some (a word.Step) (step text) & maybe_block text word.Teardown)))

-- marker = "*" | name [ "notices" number ]
abbrev pub notices : Rule Token (Option Token)
notices = optional (a word.Notices) (a word.Notices >> one (a word.Number))

abbrev pub marker_of : List ℕ × Option Token → WrittenMarker
marker_of (n, None) = written.After n
marker_of (n, Some t) = written.Notices

abbrev pub named_marker : List ℕ → Rule Token WrittenMarker
named_marker text = as_value marker_of (name text & notices)

abbrev pub marker : List ℕ → Rule Token WrittenMarker
marker text = either (a word.Star) (means written.Waiting (one (a word.Star))) (named_marker text)

-- use = name [ "(" marker { "," marker } ")" ]
abbrev pub markers : List ℕ → Rule Token (List WrittenMarker)
markers text = between (a word.OpenParenthesis) (a word.CloseParenthesis) (separated (a word.Comma) (marker text))

abbrev pub or_none : Option (List WrittenMarker) → List WrittenMarker
or_none None = []
or_none (Some ms) = ms

abbrev pub maybe_markers : List ℕ → Rule Token (List WrittenMarker)
maybe_markers text = as_value or_none (optional (a word.OpenParenthesis) (markers text))

abbrev pub use_of : List ℕ × List WrittenMarker → WrittenUse
use_of x = record { step = x.0; markers = x.1 }

abbrev pub one_use : List ℕ → Rule Token WrittenUse
one_use text = as_value use_of (name text & maybe_markers text)

-- permutation = "permutation" use { use }
abbrev pub permutation : List ℕ → Rule Token (List WrittenUse)
permutation text = a word.Permutation >> some a_name (one_use text)

-- script = { setup } [ teardown ] session { session } { permutation }
abbrev pub script_of : List (List ℕ) × (Option (List ℕ) × (List SessionSpec × List (List WrittenUse))) → WrittenSpec
script_of x = record { setups = x.0; teardown = x.1.0; sessions = x.1.1.0; permutations = x.1.1.1 }

abbrev pub script : List ℕ → Rule Token WrittenSpec
script text = as_value script_of
    (many (a word.Setup) (setup text) & (maybe_block text word.Teardown & (some (a word.Session) (session text) & many (a word.Permutation) (permutation text))))

-- The text says this by the grammar.
abbrev pub Says : List ℕ → WrittenSpec → Type 0
Says text w = (script text).texts (tokens_of text) w
