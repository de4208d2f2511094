-- What contracts see of the parts of a new table.
use Rattle.table_statements.specs.declared.tables.Plan.{Plan as HeldPlan}
use Rattle.table_statements.specs.declared.partitions.Place.{Place as HeldPlace}
use Rattle.table_statements.specs.Tables.{Plan}
use Rattle.table_statements.specs.Partitions.{Place}

abbrev pub seen_plan : HeldPlan → Plan
seen_plan p = record { columns = p.columns; level = p.level }

abbrev pub seen_place : HeldPlace → Place
seen_place p = record { bound = p.bound; level = p.level }
