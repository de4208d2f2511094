-- The kinds of tokens, and the words that are no names.
use Rattle.std.specs.Prelude.{ℕ, Bool, ◌||◌, if◌then◌else◌, nat_eq, List, [], ◌∷◌, codes}
use Rattle.std.specs.Str.{bytes_eq}
use denote.Enum.Declared.{tag_of}
use Rattle.spec_reader.specs.contracts.kind.ScriptTokenKind.{the_type}
use Rattle.spec_reader.specs.declared.kind.ScriptTokenKind.{ScriptTokenKind}
use Rattle.spec_reader.specs.declared.kind.ScriptTokenKind.TheVariants as kinds

-- the place of a kind in the enum
abbrev pub code : ScriptTokenKind → ℕ
code k = tag_of the_type k

-- every kind, in order
abbrev pub kinds_list : List ScriptTokenKind
kinds_list =
    kinds.Setup ∷ kinds.Teardown ∷ kinds.Session ∷ kinds.Step ∷ kinds.Permutation ∷ kinds.Notices ∷ kinds.Name ∷ kinds.QuotedName ∷
    kinds.Block ∷ kinds.Number ∷ kinds.OpenParenthesis ∷ kinds.CloseParenthesis ∷ kinds.Comma ∷ kinds.Star ∷ kinds.Fault ∷ []

-- whether two kinds are the same
abbrev pub is : ScriptTokenKind → ScriptTokenKind → Bool
is k j = nat_eq (code k) (code j)

-- a name, quoted or not
abbrev pub is_name : ScriptTokenKind → Bool
is_name k = is k kinds.Name || is k kinds.QuotedName

-- the kind that the first entry with the word gives; what is no word is a name
abbrev pub look_up : List (List ℕ × ScriptTokenKind) → List ℕ → ScriptTokenKind
look_up [] word = kinds.Name
look_up (w ∷ ws) word = if bytes_eq word w.0 then w.1 else look_up ws word

-- the words that have a kind of their own, in lower case alone
abbrev pub word_kind : List ℕ → ScriptTokenKind
word_kind = look_up
    ((codes "setup", kinds.Setup) ∷ (codes "teardown", kinds.Teardown) ∷ (codes "session", kinds.Session) ∷
    (codes "step", kinds.Step) ∷ (codes "permutation", kinds.Permutation) ∷ (codes "notices", kinds.Notices) ∷ [])
