-- What the code keeps of prepared statements.
use Rattle.std.specs.Prelude.{List, map}
use Rattle.sql_ast.specs.Queries.{row_tree}
use Rattle.prepared_statements.specs.declared.places.Places.{Places}
use Rattle.prepared_statements.specs.declared.prepared_list.PreparedList.{PreparedList}
use Rattle.prepared_statements.specs.declared.prepared_statement.PreparedStatement.{PreparedStatement}
use Rattle.prepared_statements.specs.Prepared.{Prepared}
use Rattle.prepared_statements.specs.Taken.{taken}

-- one, without where it lies in memory
abbrev pub seen : PreparedStatement → Prepared
seen s = record { name = s.name; kinds = s.kinds.items; statement = row_tree s.statement.value }

-- those that are in these places, in their order
abbrev pub statements_of : Places → List PreparedStatement
statements_of p = taken p.places.keys

-- all of a session in their order
abbrev pub listed : PreparedList → List Prepared
listed l = map seen (statements_of l.statements)
