-- Parts of a text by their places. A place behind the text's end stands for the end.
use Rattle.std.specs.Prelude.{ℕ, ◌-◌, List, length, take, drop}

-- the bytes between two places
abbrev pub slice : List ℕ → ℕ → ℕ → List ℕ
slice text start end = take (end - start) (drop start text)

-- a text without its first and its last byte
abbrev pub inside : List ℕ → List ℕ
inside z = take (length z - 2) (drop 1 z)
