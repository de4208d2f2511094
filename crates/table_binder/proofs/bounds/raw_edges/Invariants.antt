use Rattle.std.proofs.Common.{◌≡◌, ◌++◌, map, drop}
use Rattle.sql_ast.specs.Commands.{edges_of}
use Rattle.table_binder.specs.Bounds.{raw_edge}
use Rattle.table_binder.proofs.bounds.raw_edges.Given as goal

-- the edges so far stand before the rest
abbrev pub invariant-loop-edge : goal.invariant-loop-edge
invariant-loop-edge l = l.raw ++ map raw_edge (edges_of (drop l.edge-index l.edges)) ≡ map raw_edge (edges_of l.edges)
