-- Which lines of a plan are scans, and of what (14.1.1 EXPLAIN Basics).
use Rattle.std.specs.Prelude.{◌≡◌, ℕ, ◌==◌, Bool, if◌then◌else◌, List, [], ◌∷◌, ◌++◌, None, map, codes}
use Rattle.std.specs.List.{flat_map}
use Rattle.cond_logic.specs.Asked.{SelectMeant}
use Rattle.plan_tree.specs.Plans.{PlannedItem, Planned, scanned_items, is_empty}
use Rattle.plan_text.specs.declared.named_item.NamedItem.{NamedItem}
use Rattle.plan_text.specs.Names.{alias_behind}
use Rattle.plan_text.specs.Plans.{plan_lines}

-- ---- a line

abbrev pub unspaced : List ℕ → List ℕ
unspaced [] = []
unspaced (b ∷ bs) = if b == 32 then unspaced bs else b ∷ bs

-- what follows a word, where the line begins with it
abbrev pub following : (word line : List ℕ) → List (List ℕ)
following [] line = line ∷ []
following (w ∷ ws) [] = []
following (w ∷ ws) (b ∷ bs) = if w == b then following ws bs else []

abbrev pub first_or : List (List ℕ) → List ℕ → List ℕ
first_or [] other = other
first_or (first ∷ rest) other = first

-- behind the arrow, where there is one
abbrev pub behind_arrow : List ℕ → List ℕ
behind_arrow line = first_or (following (codes "->  ") line) line

-- what a line scans, where it is a scan
abbrev pub scan_in : List ℕ → List (List ℕ)
scan_in line = following (codes "Seq Scan on ") (behind_arrow (unspaced line))

-- ---- a plan

-- the leaves of an item, each with the alias that is written
abbrev pub item_leaves : List NamedItem → PlannedItem → List (List ℕ)
item_leaves ns i = map (λ leaf. leaf.name ++ alias_behind ns i.number) i.leaves

abbrev pub plan_leaves : List NamedItem → Planned → List (List ℕ)
plan_leaves ns p = if is_empty p then [] else flat_map (item_leaves ns) (scanned_items p)

-- the lines that are scans tell the leaves of the plan, in order, where it is not run
abbrev pub ScansAreOfTheLeaves : Type 0
ScansAreOfTheLeaves = (ns : List NamedItem) (is_cut : Bool) (m : SelectMeant) (p : Planned) → flat_map scan_in (plan_lines ns None is_cut m p) ≡ plan_leaves ns p
