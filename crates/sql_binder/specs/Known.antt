-- What a key of ORDER BY may name: the columns of the items, and the output columns.
use Rattle.std.specs.Prelude.{List, map}
use Rattle.expression_binder.specs.Scopes.{Scope}
use Rattle.sql_binder.specs.Items.{HeadingView}
use Rattle.sql_binder.specs.Lent.{heading}
use Rattle.sql_binder.specs.declared.key_names.KeyNames.{KeyNames}

abbrev pub scope_of : KeyNames → Scope
scope_of k = k.names.now

abbrev pub outputs_of : KeyNames → List HeadingView
outputs_of k = map heading k.outputs.now
