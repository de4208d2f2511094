use Rattle.std.proofs.Common.{List, [], ◌∷◌, ◌++◌, ap, ◌∙◌}
use Rattle.pg_values.specs.declared.ids.TableNo.{TableNo}
use Rattle.ddl_steps.proofs.Below.{with_top}
use Rattle.ddl_steps.proofs.default_locks.tables_from.Goals as goal

pub returns : goal.returns
returns c = λ h txs catalog.
    c.in_ok-extend_from_slice.ensures.items
    ∙ (ap (λ (xs : List TableNo). xs ++ c.deref.result.now) (c.in_ok-push.ensures.items ∙ ap (λ (xs : List TableNo). xs ++ (c.args.table ∷ [])) c.new-tables.ensures.items)
    ∙ (ap (λ (xs : List TableNo). c.args.table ∷ xs) (c.deref.ensures.value ∙ c.in_ok-under.ensures h txs catalog)
    ∙ with_top h c.args.session c.args.table.number))
