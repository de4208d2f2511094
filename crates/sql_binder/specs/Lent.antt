-- Output columns as ORDER BY finds them, without where they lie in memory.
use Rattle.sql_ast.specs.Expressions.{Tree, tree}
use Rattle.sql_binder.specs.Items.{HeadingView}
use Rattle.sql_binder.specs.declared.heading.Heading.{Heading}
use Rattle.sql_binder.specs.declared.heading.OutputValue.{OutputValue}
use Rattle.sql_binder.specs.declared.heading.OutputValue.TheVariants.{Column, Written}

abbrev pub value_tree : OutputValue → Tree
value_tree (Column e) = tree e
value_tree (Written e) = tree e.now

abbrev pub heading : Heading → HeadingView
heading h = record { name = h.name.now; value = value_tree h.value }
