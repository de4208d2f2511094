-- The text of a condition in a plan (14.1.1 EXPLAIN Basics). It is that of the condition with NOT pushed inwards: each
-- comparison, IS NULL, AND and OR has its own parentheses, and an AND inside of an AND is flattened.
use Rattle.std.specs.Prelude.{◌≡◌, ℕ, ◌+◌, ◌==◌, Bool, true, false, not, ◌&&◌, if◌then◌else◌, List, [], ◌∷◌, ◌++◌, codes, decimal, map}
use Rattle.std.specs.List.{flat_map}
use Rattle.pg_values.specs.declared.value.Value.{Value}
use Rattle.pg_values.specs.declared.value.Value.TheVariants.{Null, Int4, Int8, Text, Day, Truth}
use Rattle.pg_values.specs.Spelling.{spelled}
use Rattle.cond_logic.specs.declared.cond.CompareOp.{CompareOp}
use Rattle.cond_logic.specs.declared.cond.CompareOp.TheVariants.{Eq, Ne, Lt, Le, Gt, Ge}
use Rattle.cond_logic.specs.declared.cond.Operand.{Operand}
use Rattle.cond_logic.specs.declared.cond.Operand.TheVariants.{Column, Lit, Param}
use Rattle.cond_logic.specs.declared.truth.Truth3.{Truth3}
use Rattle.cond_logic.specs.declared.truth.Truth3.TheVariants.{Yes, No, Unknown}
use Rattle.cond_logic.specs.Conjuncts as conditions
use Rattle.cond_logic.specs.Trees.{CondTree, CondTrees, no_more, and_more, all_of, any_of, inverted, compares, null_test, known}
use Rattle.prune_steps.specs.Atoms.{turned}
use Rattle.plan_text.specs.declared.named_item.NamedItem.{NamedItem}
use Rattle.plan_text.specs.Names.{column_name}

-- ---- constants

-- a quote within quotes stands twice
abbrev pub doubled_byte : ℕ → List ℕ
doubled_byte b = if b == 39 then 39 ∷ 39 ∷ [] else b ∷ []

abbrev pub doubled : List ℕ → List ℕ
doubled = flat_map doubled_byte

abbrev pub quoted : List ℕ → List ℕ
quoted text = codes "'" ++ doubled text ++ codes "'"

-- texts and dates stand in quotes
abbrev pub constant : Value → List ℕ
constant Null = codes "NULL"
constant (Int4 n) = spelled (Int4 n)
constant (Int8 n) = spelled (Int8 n)
constant (Text text) = quoted text
constant (Day d) = quoted (spelled (Day d))
constant (Truth true) = codes "true"
constant (Truth false) = codes "false"

-- ---- comparisons and tests of null

abbrev pub parameter : ℕ → List ℕ
parameter place = codes "$" ++ decimal (place + 1)

abbrev pub operand : List NamedItem → Operand → List ℕ
operand ns (Column c) = column_name ns c
operand ns (Lit v) = constant v
operand ns (Param place) = parameter place

abbrev pub sign : CompareOp → List ℕ
sign Eq = codes "="
sign Ne = codes "<>"
sign Lt = codes "<"
sign Le = codes "<="
sign Gt = codes ">"
sign Ge = codes ">="

abbrev pub is_column : Operand → Bool
is_column (Column c) = true
is_column (Lit v) = false
is_column (Param place) = false

abbrev pub as_written : List NamedItem → CompareOp → Operand → Operand → List ℕ
as_written ns op x y = codes "(" ++ operand ns x ++ codes " " ++ sign op ++ codes " " ++ operand ns y ++ codes ")"

-- it is turned round where its right side alone is a column
abbrev pub comparison : List NamedItem → CompareOp → Operand → Operand → List ℕ
comparison ns op x y = if not (is_column x) && is_column y then as_written ns (turned op) y x else as_written ns op x y

abbrev pub is_null : List NamedItem → Operand → List ℕ
is_null ns x = codes "(" ++ operand ns x ++ codes " IS NULL)"

abbrev pub is_not_null : List NamedItem → Operand → List ℕ
is_not_null ns x = codes "(" ++ operand ns x ++ codes " IS NOT NULL)"

abbrev pub truth : Truth3 → List ℕ
truth Yes = codes "true"
truth No = codes "false"
truth Unknown = codes "NULL"

-- ---- AND and OR

-- each with the word before it
abbrev pub behind : (word : List ℕ) → List (List ℕ) → List ℕ
behind word = flat_map (λ text. word ++ text)

abbrev pub in_a_row : (word : List ℕ) → List ℕ → List (List ℕ) → List ℕ
in_a_row word first [] = first
in_a_row word first (text ∷ texts) = codes "(" ++ first ++ behind word (text ∷ texts) ++ codes ")"

-- one text by itself, several in parentheses with the word between; what is said of none is told
abbrev pub row : (none word : List ℕ) → List (List ℕ) → List ℕ
row none word [] = none
row none word (text ∷ texts) = in_a_row word text texts

abbrev pub all_text : List (List ℕ) → List ℕ
all_text = row (codes "true") (codes " AND ")

abbrev pub any_text : List (List ℕ) → List ℕ
any_text = row (codes "false") (codes " OR ")

-- a NOT stands over IS NULL; it is told by its inside elsewhere
abbrev pub negated : List NamedItem → CondTree → (inside : List ℕ) → List ℕ
negated ns (null_test x) inside = is_not_null ns x
negated ns (all_of ts) inside = codes "(NOT " ++ inside ++ codes ")"
negated ns (any_of ts) inside = codes "(NOT " ++ inside ++ codes ")"
negated ns (inverted t) inside = codes "(NOT " ++ inside ++ codes ")"
negated ns (compares op x y) inside = codes "(NOT " ++ inside ++ codes ")"
negated ns (known t) inside = codes "(NOT " ++ inside ++ codes ")"

abbrev mutual
  -- the texts of the conjuncts of a condition
  pub conjuncts : List NamedItem → CondTree → List (List ℕ)
  conjuncts ns (all_of ts) = all_conjuncts ns ts
  conjuncts ns (any_of ts) = any_text (choices ns ts) ∷ []
  conjuncts ns (inverted t) = negated ns t (all_text (conjuncts ns t)) ∷ []
  conjuncts ns (compares op x y) = comparison ns op x y ∷ []
  conjuncts ns (null_test x) = is_null ns x ∷ []
  conjuncts ns (known t) = truth t ∷ []

  pub all_conjuncts : List NamedItem → CondTrees → List (List ℕ)
  all_conjuncts ns no_more = []
  all_conjuncts ns (and_more t ts) = conjuncts ns t ++ all_conjuncts ns ts

  -- and of the choices of an OR
  pub choices : List NamedItem → CondTrees → List (List ℕ)
  choices ns no_more = []
  choices ns (and_more t ts) = all_text (conjuncts ns t) ∷ choices ns ts

-- the text of a condition
abbrev pub condition : List NamedItem → CondTree → List ℕ
condition ns t = all_text (conjuncts ns t)

-- the texts of the conjuncts of several conditions
abbrev pub several : List NamedItem → List CondTree → List (List ℕ)
several ns = flat_map (conjuncts ns)

-- they are those of cond_logic, each told by itself
abbrev pub ConjunctsAreTold : Type 0
ConjunctsAreTold = (ns : List NamedItem) (t : CondTree) → conjuncts ns t ≡ map (condition ns) (conditions.conjuncts t)
