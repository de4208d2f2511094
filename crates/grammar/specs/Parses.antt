-- What a parser promises: the value of the text, or the first token with which it begins no text.
use Rattle.std.specs.Prelude.{◌≡◌, ℕ, List, [], ◌∷◌, ◌++◌, length, Result, Ok, Err}
use Rattle.grammar.specs.Reading.{Rule}
use Rattle.grammar.specs.declared.refused.Refused.{Refused}
use Rattle.grammar.specs.declared.refused.Refused.TheVariants.{NoMemory, Syntax, Limit}

-- The token that comes next in `after` comes next in `more` too; or both are at their end.
abbrev pub SameNext : {T : Type 0} → List T → List T → Type 0
SameNext [] more = more ≡ []
SameNext {T} (t ∷ ts) more = (m : List T) × (more ≡ t ∷ m)

-- ts is a text of a, and of no other value, even without limits.
pub record IsOnly {T A : Type 0} (texts free : List T → A → Type 0) (ts : List T) (a : A) : Type 0 where
  pub text : texts ts a
  pub only : (b : A) → free ts b → b ≡ a

-- All of ts but its last `left` tokens begins a text of `begun`; with the next token, or the end, it
-- begins none of `barred`.
pub record FailsAt {T A : Type 0} (begun barred : List T → A → Type 0) (ts : List T) (left : ℕ) : Type 0 where
  pub front : List T
  pub after : List T
  pub whole : ts ≡ front ++ after
  pub left_is : length after ≡ left
  pub more : List T
  pub value : A
  pub begins : begun (front ++ more) value
  pub no_more : (more : List T) (a : A) → SameNext after more → barred (front ++ more) a → ⊥

-- All of ts but its last `left` tokens begins, with the next token, a text of `free`.
pub record GoesOn {T A : Type 0} (free : List T → A → Type 0) (ts : List T) (left : ℕ) : Type 0 where
  pub front : List T
  pub next : T
  pub after : List T
  pub whole : ts ≡ front ++ next ∷ after
  pub left_is : length (next ∷ after) ≡ left
  pub more : List T
  pub value : A
  pub begins : free (front ++ next ∷ more) value

-- The answer of a parser of p to the tokens ts. A Syntax error is at the first token that fits in no
-- text, a Limit error at the first that fits only without limits.
abbrev pub Parses : {T X A : Type 0} → Rule T A → (X → A) → List T → Result X Refused → Type 0
Parses p view ts (Ok x) = IsOnly p.texts p.free ts (view x)
Parses p view ts (Err NoMemory) = Unit {0}
Parses p view ts (Err (Syntax n)) = FailsAt p.texts p.free ts n
Parses p view ts (Err (Limit n)) = FailsAt p.texts p.texts ts n × GoesOn p.free ts n
