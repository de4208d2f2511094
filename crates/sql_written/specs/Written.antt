-- An expression as it is written: words in capitals, one blank between them, and the parentheses that its levels need.
use Rattle.std.specs.Prelude.{ℕ, Bool, true, false, List, [], ◌∷◌, ◌++◌}
use Rattle.sql_ast.specs.Expressions.{Tree, Trees, no_more, and_more, leaf, call, call_of_all, negated, binary, in_list, between, is_null, inverted, all_of, any_of}
use Rattle.sql_written.specs.Marks.{Mark, blank, text_of}
use Rattle.sql_written.specs.Precedence.{Level, disjunction, conjunction, negation, nullity, sum, unary, left_place, right_place, needs_parentheses}
use Rattle.sql_written.specs.Spelling as spelled

-- between the parts of a list, and of a chain
abbrev pub behind_part : List Mark
behind_part = spelled.comma ∷ blank ∷ []

abbrev pub and_between : List Mark
and_between = blank ∷ spelled.and_word ∷ blank ∷ []

abbrev pub or_between : List Mark
or_between = blank ∷ spelled.or_word ∷ blank ∷ []

abbrev pub not_before : Bool → List Mark
not_before true = spelled.not_word ∷ blank ∷ []
not_before false = []

abbrev pub in_parentheses : Bool → List Mark → List Mark
in_parentheses true ms = spelled.opening ∷ (ms ++ spelled.closing ∷ [])
in_parentheses false ms = ms

-- two signs together would begin a comment
abbrev pub behind_minus : Tree → List Mark
behind_minus (negated e) = blank ∷ []
behind_minus _ = []

abbrev mutual
  pub marks : Tree → List Mark
  marks (leaf l) = spelled.leaf_marks l
  marks (call f ts) = spelled.name f ∷ spelled.opening ∷ (chain behind_part disjunction ts ++ spelled.closing ∷ [])
  marks (call_of_all f) = spelled.name f ∷ spelled.opening ∷ spelled.star ∷ spelled.closing ∷ []
  marks (negated e) = spelled.minus ∷ (behind_minus e ++ in_parentheses (needs_parentheses unary e) (marks e))
  marks (binary op x y) =
      in_parentheses (needs_parentheses (left_place op) x) (marks x)
      ++ blank ∷ spelled.sign op ∷ blank ∷ in_parentheses (needs_parentheses (right_place op) y) (marks y)
  marks (in_list b x ts) =
      in_parentheses (needs_parentheses sum x) (marks x)
      ++ blank ∷ (not_before b ++ spelled.in_word ∷ blank ∷ spelled.opening ∷ (chain behind_part disjunction ts ++ spelled.closing ∷ []))
  marks (between b x from to) =
      in_parentheses (needs_parentheses sum x) (marks x)
      ++ blank ∷ (not_before b ++ spelled.between_word ∷ blank ∷ (in_parentheses (needs_parentheses sum from) (marks from)
      ++ blank ∷ spelled.and_word ∷ blank ∷ in_parentheses (needs_parentheses sum to) (marks to)))
  marks (is_null b x) = in_parentheses (needs_parentheses nullity x) (marks x) ++ blank ∷ spelled.is_word ∷ blank ∷ (not_before b ++ spelled.null_word ∷ [])
  marks (inverted e) = spelled.not_word ∷ blank ∷ in_parentheses (needs_parentheses negation e) (marks e)
  marks (all_of ts) = chain and_between negation ts
  marks (any_of ts) = chain or_between conjunction ts

  -- the parts of a chain that stand in places of one level
  pub chain : List Mark → Level → Trees → List Mark
  chain sign place no_more = []
  chain sign place (and_more t ts) = in_parentheses (needs_parentheses place t) (marks t) ++ more sign place ts

  -- the same behind a part
  pub more : List Mark → Level → Trees → List Mark
  more sign place no_more = []
  more sign place (and_more t ts) = sign ++ (in_parentheses (needs_parentheses place t) (marks t) ++ more sign place ts)

-- the text
abbrev pub written : Tree → List ℕ
written t = text_of (marks t)
