-- What the names of a statement stand for: the columns of its tables.
use Rattle.history.specs.declared.catalogue.Column.{Column}
use Rattle.expression_binder.specs.declared.scope.ScopeColumn.{ScopeColumn}

abbrev pub scope_column : Column → ScopeColumn
scope_column c = record { name = c.name; kind = c.kind }
