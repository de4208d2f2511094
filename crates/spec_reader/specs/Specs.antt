-- Scripts: what a text says as a script, and why it is none.
use Rattle.std.specs.Prelude.{◌≡◌, ℕ, suc, ◌==◌, List, [], ◌∷◌, length, map, take, filter, Option, Some, None, Result, Ok, Err}
use Rattle.grammar.specs.declared.refused.Refused.{Refused}
use Rattle.grammar.specs.declared.refused.Refused.TheVariants as refused
use Rattle.grammar.specs.Places.{StopsAt, token_at}
use Rattle.spec_reader.specs.Faults.{fault}
use Rattle.spec_reader.specs.Scripts.{Says, script}
use Rattle.spec_reader.specs.Tokens.{tokens_of}
use Rattle.spec_reader.specs.declared.fault.SpecFault.{SpecFault}
use Rattle.spec_reader.specs.declared.fault.SpecFault.TheVariants.{BadToken, Limit, DoubleName, NoPermutation, UnknownStep, UnknownMarker, NoMemory}
use Rattle.spec_reader.specs.declared.spec.Marker.{Marker}
use Rattle.spec_reader.specs.declared.spec.Marker.TheVariants as markers
use Rattle.spec_reader.specs.declared.spec.Spec.{Spec}
use Rattle.spec_reader.specs.declared.spec.StepUse.{StepUse}
use Rattle.spec_reader.specs.declared.token.Token.{Token}
use Rattle.spec_reader.specs.declared.written.WrittenMarker.{WrittenMarker}
use Rattle.spec_reader.specs.declared.written.WrittenMarker.TheVariants as written
use Rattle.spec_reader.specs.declared.written.WrittenSpec.{WrittenSpec}
use Rattle.spec_reader.specs.declared.written.WrittenUse.{WrittenUse}

-- what the written script says; the marker that is left out is passed over
abbrev pub markers_of : List WrittenMarker → List Marker
markers_of [] = []
markers_of (written.Waiting ∷ ms) = markers.Waiting ∷ markers_of ms
markers_of (written.After name ∷ ms) = markers.After name ∷ markers_of ms
markers_of (written.Notices ∷ ms) = markers_of ms

abbrev pub use_of : WrittenUse → StepUse
use_of u = record { step = u.step; markers = markers_of u.markers }

abbrev pub uses_of : List WrittenUse → List StepUse
uses_of us = map use_of us

abbrev pub spec_of : WrittenSpec → Spec
spec_of w = record { setups = w.setups; teardown = w.teardown; sessions = w.sessions; permutations = map uses_of w.permutations }

-- The text is this script: it says so by the grammar, and breaks no rule.
abbrev pub IsScript : List ℕ → Spec → Type 0
IsScript text spec = (w : WrittenSpec) × Says text w × (fault w ≡ None) × (spec ≡ spec_of w)

-- The line of a place: one more than the newlines before it. At the end of the text the place is the end.
abbrev pub newlines : List ℕ → ℕ
newlines text = length (filter (λ b. b == 10) text)

abbrev pub line_at : List ℕ → ℕ → ℕ
line_at text at = suc (newlines (take at text))

abbrev pub line_of : List ℕ → Option Token → ℕ
line_of text None = line_at text (length text)
line_of text (Some t) = line_at text t.start

-- the refusal by how many tokens are left
abbrev pub misfit : List ℕ → List Token → Refused → SpecFault
misfit text tokens refused.NoMemory = NoMemory
misfit text tokens (refused.Syntax left) = BadToken (line_of text (token_at tokens left))
misfit text tokens (refused.Limit left) = BadToken (line_of text (token_at tokens left))

-- Up to some token the text begins a script of the grammar, with it none, and it stands in this line.
abbrev pub StopsInLine : List ℕ → ℕ → Type 0
StopsInLine text line = (o : Option Token) × StopsAt (script text) (tokens_of text) o × (line ≡ line_of text o)

-- The text is a script of the grammar, and this is the first rule that it breaks.
abbrev pub Breaks : List ℕ → SpecFault → Type 0
Breaks text f = (w : WrittenSpec) × Says text w × (fault w ≡ Some f)

abbrev pub IsRefused : List ℕ → SpecFault → Type 0
IsRefused text (BadToken line) = StopsInLine text line
IsRefused text (Limit w) = Breaks text (Limit w)
IsRefused text (DoubleName n) = Breaks text (DoubleName n)
IsRefused text NoPermutation = Breaks text NoPermutation
IsRefused text (UnknownStep n) = Breaks text (UnknownStep n)
IsRefused text (UnknownMarker n) = Breaks text (UnknownMarker n)
IsRefused text NoMemory = Unit {0}

-- What the reader answers: the script that the text is, which is no other; or why it is none.
abbrev pub ReadsSpec : List ℕ → Result Spec SpecFault → Type 0
ReadsSpec text (Ok spec) = IsScript text spec × ((other : Spec) → IsScript text other → other ≡ spec)
ReadsSpec text (Err f) = IsRefused text f
