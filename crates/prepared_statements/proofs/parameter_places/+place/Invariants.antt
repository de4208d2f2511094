use Rattle.std.proofs.Common.{◌≡◌, ◌+◌, ◌*◌, map, drop}
use Rattle.sql_ast.specs.Expressions.{listed, tree}
use Rattle.expression_binder.proofs.Trees.{weight, weights}
use Rattle.prepared_statements.specs.Firsts.{noted}
use Rattle.prepared_statements.specs.ParameterPlaces.{part_places}
use Rattle.prepared_statements.proofs.parameter_places.+place.Given as goal

abbrev pub decreases-note_in : goal.decreases-note_in
decreases-note_in l = 3 * weight (tree l.e.now)

abbrev pub decreases-note_part : goal.decreases-note_part
decreases-note_part l = 3 * weight (tree l.e.now) + 1

abbrev pub decreases-note_parts : goal.decreases-note_parts
decreases-note_parts l = 3 * weights (listed (map tree l.parts.now)) + 2

-- what is noted, and what the parts left give
abbrev pub invariant-note_parts-loop-part : goal.invariant-note_parts-loop-part
invariant-note_parts-loop-part l = noted l.firsts (part_places l.names l.givens l.kind (listed (map tree (drop l.part-index l.parts)))) ≡ noted l.fn.firsts (part_places l.names l.givens l.kind (listed (map tree l.parts)))
