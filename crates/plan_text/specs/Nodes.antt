-- The nodes of a plan, as EXPLAIN prints them (14.1.1 EXPLAIN Basics; 14.1.2 EXPLAIN ANALYZE).
use Rattle.std.specs.Prelude.{ℕ, ◌+◌, ◌-◌, ◌*◌, ◌==◌, if◌then◌else◌, List, [], ◌∷◌, ◌++◌, Option, Some, None, map, replicate, codes, decimal}
use Rattle.std.specs.List.{flat_map}
use Rattle.plan_tree.specs.declared.count.Count.{Count}

-- the lines of a node that stands at a depth
abbrev pub Node : Type 0
Node = ℕ → List (List ℕ)

-- at depth 0 a node stands at the margin, further down behind an arrow
abbrev pub arrow : ℕ → List ℕ
arrow d = if d == 0 then [] else replicate (6 * d - 4) 32 ++ codes "->  "

abbrev pub detail_line : ℕ → List ℕ → List ℕ
detail_line d text = replicate (6 * d + 2) 32 ++ text

-- what ANALYZE tells of a node: the rows that it gave in all its loops, and how many these were
abbrev pub count_text : Count → List ℕ
count_text n = if n.loops == 0 then codes " (never executed)" else codes " (rows=" ++ decimal n.rows ++ codes " loops=" ++ decimal n.loops ++ codes ")"

-- behind its text, where the plan was run
abbrev pub counted : (text : List ℕ) → Option Count → List ℕ
counted text None = text
counted text (Some n) = text ++ count_text n

-- its own line, and those of its details
abbrev pub alone : (text : List ℕ) → (details : List (List ℕ)) → Node
alone text details d = (arrow d ++ text) ∷ map (detail_line d) details

-- with what stands below it
abbrev pub over : (text : List ℕ) → (details : List (List ℕ)) → (below : Node) → Node
over text details below d = alone text details d ++ below (d + 1)

-- several nodes below one
abbrev pub each : {X : Type 0} → (X → Node) → List X → Node
each f xs d = flat_map (λ x. f x d) xs

abbrev pub both : Node → Node → Node
both left right d = left d ++ right d
