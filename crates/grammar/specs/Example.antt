-- The worked example: lists of at most three entries,
--
--   list  = entry { "," entry }
--   entry = number | name
--
-- where a number stands behind the name "each" and behind no other.
use Rattle.std.specs.Prelude.{Bool, true, false, List, [], ◌∷◌, ◌++◌, length, nat_lt}
use Rattle.grammar.specs.declared.example.SampleKind.{SampleKind}
use Rattle.grammar.specs.declared.example.SampleKind.TheVariants as kinds
use Rattle.grammar.specs.declared.example.Token.{Token}
use Rattle.grammar.specs.declared.example.Entry.{Entry}
use Rattle.grammar.specs.declared.example.Entry.TheVariants.{Number, Name, Each}
use Rattle.grammar.specs.Reading.{Class, Rule, one, nothing, follow, as_value, either}
use Rattle.grammar.specs.Repeats.{second_of, chain_by}
use Rattle.grammar.specs.KindClasses.{of_kind}

-- What a token is.
abbrev pub kind_of : Token → SampleKind
kind_of t = t.kind

-- The sign between two entries.
abbrev pub comma : SampleKind → Bool
comma kinds.Comma = true
comma kinds.Name = false
comma kinds.Each = false
comma kinds.Number = false

-- Each name, "each" among them.
abbrev pub name : SampleKind → Bool
name kinds.Comma = false
name kinds.Name = true
name kinds.Each = true
name kinds.Number = false

-- The name that a number stands behind.
abbrev pub each : SampleKind → Bool
each kinds.Comma = false
each kinds.Name = false
each kinds.Each = true
each kinds.Number = false

-- A number.
abbrev pub number : SampleKind → Bool
number kinds.Comma = false
number kinds.Name = false
number kinds.Each = false
number kinds.Number = true

-- The same as classes of tokens.
abbrev pub is_comma : Class Token
is_comma = of_kind kind_of comma

abbrev pub is_name : Class Token
is_name = of_kind kind_of name

abbrev pub is_number : Class Token
is_number = of_kind kind_of number

-- The entries of a number, and of "each" and a number.
abbrev pub number_of : Token → Entry
number_of t = Number t.value

abbrev pub each_of : Token → Entry
each_of t = Each t.value

-- What stands behind a name: a number behind "each", else nothing.
abbrev pub behind_if : Bool → Token → Rule Token Entry
behind_if true t = as_value each_of (one is_number)
behind_if false t = nothing (Name t.value)

abbrev pub behind_name : Token → Rule Token Entry
behind_name t = behind_if (each t.kind) t

-- entry = number | name, with what stands behind it
abbrev pub entry : Rule Token Entry
entry = either is_name (as_value second_of (follow (one is_name) behind_name)) (as_value number_of (one is_number))

-- Another entry at the end.
abbrev pub snoc : List Entry → Token → Entry → List Entry
snoc xs sign x = xs ++ x ∷ []

-- Whether one more may come.
abbrev pub has_room : List Entry → Bool
has_room xs = nat_lt (length xs) 3

-- The list of the first entry.
abbrev pub only : Entry → List Entry
only x = x ∷ []

-- list = entry { "," entry }, of at most three
abbrev pub entry_list : Rule Token (List Entry)
entry_list = chain_by is_comma has_room only snoc entry (λ _. entry)
