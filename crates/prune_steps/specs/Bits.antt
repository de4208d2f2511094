-- Sets of children as machine words.
use Rattle.std.specs.Prelude.{◌≡◌, ◌<◌, ◌≤◌, ◌==◌, ◌/◌, ◌%◌, ℕ, Bool, true, false, not, ◌&&◌, List, nat_lt}
use Rattle.std.specs.Int.{bit_at}
use Rattle.std.specs.List.{slice_index_or}

-- a word holds 128 children
abbrev pub bit : List ℕ → ℕ → Bool
bit words k = bit_at (slice_index_or words (k / 128) 0) (k % 128) == 1

-- from the first number on, below the second
abbrev pub in_run : ℕ → ℕ → ℕ → Bool
in_run from to k = not (nat_lt k from) && nat_lt k to

-- of the first n children exactly these are in the set
abbrev pub AreBits : ℕ → List ℕ → (ℕ → Bool) → Type 0
AreBits n words f = (k : ℕ) → k < n → bit words k ≡ f k

-- none from the first number on, below the second, is in the set
abbrev pub NoneIn : List ℕ → ℕ → ℕ → Type 0
NoneIn words from to = (k : ℕ) → from ≤ k → k < to → bit words k ≡ false

-- of 1,024 children the first of the set from a number on
pub record FirstFrom (words : List ℕ) (from k : ℕ) : Type 0 where
  pub behind : from ≤ k
  pub within : k < 1024
  pub in_set : bit words k ≡ true
  pub none_before : NoneIn words from k
