-- The trees that a parse can give: each has a text within the limits.
use Rattle.std.specs.Prelude.{◌≡◌, ◌<◌, ◌≤◌, ℕ, suc, max, Bool, true, if◌then◌else◌, List, length}
use Rattle.std.specs.Str.{is_utf8}
use Rattle.sql_tokens.specs.declared.numbers.TheConstants.{MOST_PARAMETER, NO_BIGINT}
use Rattle.sql_ast.specs.Expressions.{Tree, Trees, no_more, and_more, leaf, call, call_of_all, negated, binary, in_list, between, is_null, inverted, all_of, any_of}
use Rattle.sql_ast.specs.declared.leaf.Leaf.{Leaf}
use Rattle.sql_ast.specs.declared.leaf.Leaf.TheVariants.{Number, Text, Date, Null, Truth, Parameter, Column, ColumnOf, TableName, TableNameOf}
use Rattle.sql_expressions.specs.declared.levels.TheConstants.{MOST_DEPTH}
use Rattle.sql_expressions.specs.declared.words.TheConstants.{MOST_NAME_BYTES, MOST_TEXT_BYTES}
use Rattle.sql_written.specs.Precedence.{Level, disjunction, conjunction, negation, nullity, sum, unary, left_place, right_place, needs_parentheses}

-- names and strings are UTF-8, and not too long
abbrev pub IsName : List ℕ → Type 0
IsName z = (0 < length z) × (length z ≤ MOST_NAME_BYTES) × (is_utf8 z ≡ true)

abbrev pub IsText : List ℕ → Type 0
IsText z = (length z ≤ MOST_TEXT_BYTES) × (is_utf8 z ≡ true)

abbrev pub IsLeaf : Leaf → Type 0
IsLeaf (Number n) = n ≤ NO_BIGINT
IsLeaf (Text z) = IsText z
IsLeaf (Date z) = IsText z
IsLeaf Null = Unit {0}
IsLeaf (Truth b) = Unit {0}
IsLeaf (Parameter n) = n ≤ MOST_PARAMETER
IsLeaf (Column c) = IsName c
IsLeaf (ColumnOf t c) = IsName t × IsName c
IsLeaf TableName = Unit {0}
IsLeaf (TableNameOf t) = IsName t

-- a list of IN has a part, and a chain has two, since one part alone is itself
abbrev pub HasOne : Trees → Type 0
HasOne no_more = ⊥
HasOne (and_more t ts) = Unit {0}

abbrev pub HasTwo : Trees → Type 0
HasTwo no_more = ⊥
HasTwo (and_more t ts) = HasOne ts

abbrev mutual
  -- every name and every constant can be spelled, and every chain has parts enough
  pub HasText : Tree → Type 0
  HasText (leaf l) = IsLeaf l
  HasText (call f ts) = IsName f × HaveTexts ts
  HasText (call_of_all f) = IsName f
  HasText (negated e) = HasText e
  HasText (binary op x y) = HasText x × HasText y
  HasText (in_list b x ts) = HasText x × HasOne ts × HaveTexts ts
  HasText (between b x from to) = HasText x × HasText from × HasText to
  HasText (is_null b x) = HasText x
  HasText (inverted e) = HasText e
  HasText (all_of ts) = HasTwo ts × HaveTexts ts
  HasText (any_of ts) = HasTwo ts × HaveTexts ts

  pub HaveTexts : Trees → Type 0
  HaveTexts no_more = Unit {0}
  HaveTexts (and_more t ts) = HasText t × HaveTexts ts

-- how many operators, calls and pairs of parentheses stand over the deepest leaf of a tree as it is written
abbrev pub deeper_by : Bool → ℕ → ℕ
deeper_by b n = if b then suc n else n

abbrev mutual
  pub depth : Tree → ℕ
  depth (leaf l) = 0
  depth (call f ts) = suc (chain_depth disjunction ts)
  depth (call_of_all f) = 1
  depth (negated e) = suc (deeper_by (needs_parentheses unary e) (depth e))
  depth (binary op x y) = suc (max (deeper_by (needs_parentheses (left_place op) x) (depth x)) (deeper_by (needs_parentheses (right_place op) y) (depth y)))
  depth (in_list b x ts) = suc (max (deeper_by (needs_parentheses sum x) (depth x)) (chain_depth disjunction ts))
  depth (between b x from to) =
      suc (max (deeper_by (needs_parentheses sum x) (depth x))
      (max (deeper_by (needs_parentheses sum from) (depth from)) (deeper_by (needs_parentheses sum to) (depth to))))
  depth (is_null b x) = suc (deeper_by (needs_parentheses nullity x) (depth x))
  depth (inverted e) = suc (deeper_by (needs_parentheses negation e) (depth e))
  depth (all_of ts) = suc (chain_depth negation ts)
  depth (any_of ts) = suc (chain_depth conjunction ts)

  pub chain_depth : Level → Trees → ℕ
  chain_depth place no_more = 0
  chain_depth place (and_more t ts) = max (deeper_by (needs_parentheses place t) (depth t)) (chain_depth place ts)

abbrev pub IsWritable : Tree → Type 0
IsWritable t = HasText t × (depth t ≤ MOST_DEPTH)
