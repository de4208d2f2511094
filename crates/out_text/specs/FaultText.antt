-- The printed form of a fault: its state and its text (Appendix A. PostgreSQL Error Codes; the texts are partscript's own).
use Rattle.std.specs.Prelude.{ℕ, ◌==◌, Bool, true, false, not, if◌then◌else◌, List, [], ◌∷◌, ◌++◌, Option, Some, None, drop, codes, bytes_eq}
use Rattle.std.specs.List.{flat_map}
use Rattle.pg_values.specs.declared.fault.Fault.{Fault}

-- The states that have one text: a fault of them has only the words of the text. Each fault of another state tells its
-- text before the words.
abbrev pub texts : List (List ℕ × List ℕ)
texts =
    (codes "0A000", codes "<word> is not in this profile") ∷
    (codes "22003", codes "number out of range") ∷
    (codes "22007", codes "<text> is no date") ∷
    (codes "22008", codes "date out of range") ∷
    (codes "22012", codes "division by zero") ∷
    (codes "2201W", codes "negative LIMIT") ∷
    (codes "2201X", codes "negative OFFSET") ∷
    (codes "22023", codes "no value <v> for <setting>") ∷
    (codes "22P02", codes "<text> is no <kind>") ∷
    (codes "23502", codes "column <c> of <leaf> is null") ∷
    (codes "25P01", codes "LOCK TABLE outside a transaction") ∷
    (codes "25P02", codes "the transaction has failed") ∷
    (codes "26000", codes "no prepared statement <n>") ∷
    (codes "40P01", codes "deadlock of <s>") ∷
    (codes "42701", codes "column <c> is there twice") ∷
    (codes "42702", codes "column <c> is ambiguous") ∷
    (codes "42703", codes "no column <c>") ∷
    (codes "42712", codes "table name <a> is used twice") ∷
    (codes "42P02", codes "no parameter <n>") ∷
    (codes "42P05", codes "prepared statement <n> is there") ∷
    (codes "42P07", codes "table <t> is there") ∷
    (codes "42P10", codes "no output column <n>") ∷
    (codes "54000", codes "too many <which>") ∷
    (codes "57014", codes "statement cancelled") ∷
    []

-- the text beside a state
abbrev pub text_beside : List ℕ → List (List ℕ × List ℕ) → Option (List ℕ)
text_beside code [] = None
text_beside code (line ∷ lines) = if bytes_eq line.0 code then Some line.1 else text_beside code lines

-- words that no hole is left for stand behind the text, as in `deadlock of s2, s1`
abbrev pub further_words : List (List ℕ) → List ℕ
further_words = flat_map (λ word. codes ", " ++ word)

-- the word of the first hole, or nothing where no word is left
abbrev pub first_word : List (List ℕ) → List ℕ
first_word [] = []
first_word (word ∷ words) = word

-- A text with its words in its holes; a hole goes from `<` to `>`. With true, the text begins inside of a hole.
abbrev pub filled_from : Bool → List ℕ → List (List ℕ) → List ℕ
filled_from in_hole [] words = further_words words
filled_from true (b ∷ bs) words = filled_from (not (b == 62)) bs words
filled_from false (b ∷ bs) words =
    if b == 60 then first_word words ++ filled_from true bs (drop 1 words) else b ∷ filled_from false bs words

abbrev pub filled : List ℕ → List (List ℕ) → List ℕ
filled text words = filled_from false text words

-- the text is that of the state, or the fault's first argument
abbrev pub filled_by : Option (List ℕ) → List (List ℕ) → List ℕ
filled_by (Some text) args = filled text args
filled_by None [] = []
filled_by None (text ∷ words) = filled text words

-- `<code> <text>`
abbrev pub fault_text : Fault → List ℕ
fault_text f = f.code.bytes ++ codes " " ++ filled_by (text_beside f.code.bytes texts) f.args
