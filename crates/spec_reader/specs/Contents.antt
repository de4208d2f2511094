-- What a token says.
use Rattle.std.specs.Prelude.{ℕ, false, if◌then◌else◌, List}
use Rattle.grammar.specs.TextPlaces.{inside, slice}
use Rattle.grammar.specs.Quotes.{undoubled}
use Rattle.spec_reader.specs.declared.kind.ScriptTokenKind.TheVariants as kinds
use Rattle.spec_reader.specs.declared.token.Token.{Token}
use Rattle.spec_reader.specs.Bytes.{trimmed}
use Rattle.spec_reader.specs.Words.{is}

-- a name, without its quotes and with those inside made one where it is quoted
abbrev pub name_in : List ℕ → Token → List ℕ
name_in text t =
    let bytes : List ℕ = slice text t.start t.end in
    if is t.kind kinds.QuotedName then undoubled 34 false (inside bytes) else bytes

-- what stands between the braces, without the blanks at both ends
abbrev pub block_in : List ℕ → Token → List ℕ
block_in text t = trimmed (inside (slice text t.start t.end))
