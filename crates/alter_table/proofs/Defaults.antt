-- The default partition of a table, which the session may ask for.
use Rattle.std.proofs.Common.{◌≡◌, ℕ, subst, arith, Some}
use Rattle.pg_values.specs.declared.ids.TableNo.{TableNo}
use Rattle.history.specs.History.{History}
use Rattle.part_ddl.specs.Below.{default_of}
use Rattle.part_ddl.proofs.Making.{table_count}
use Rattle.legal_statements.specs.Laws.{ListedIsThere, ThereIsKnown}
use Rattle.stores.specs.Stand.{Stands}
use Rattle.stores.specs.declared.stores.Stores.{Stores}
use Rattle.statement_steps.specs.Attempts.{MayAttempt}
use Rattle.statement_steps.specs.declared.caller.Caller.{Caller}
use Rattle.statement_steps.specs.Known.{IsKnownTo}
use Rattle.statement_steps.proofs.Parts.{known_by}
use Rattle.ddl_steps.proofs.Below.{default_entry, here_of}

pub default_known : ListedIsThere → ThereIsKnown → (stores : Stores) (caller : Caller) (h : History) (p : ℕ) (d : TableNo) → MayAttempt stores caller → Stands stores h → default_of h caller.session p ≡ Some d → IsKnownTo stores caller.session d.number
default_known listed there stores caller h p d may stands is =
    let s = caller.session in
    let here = here_of stores caller h may stands in
    let e = default_entry h s p d is in
    let known = there h s here.0 e.0.child.number here.1.own (listed h s here.0 e.0 here.1.legal here.1.permitted here.1.own e.1).2 in
    let made = known.0 in
    let count = table_count stores.catalog h stands.all.catalog in
    subst (λ (x : TableNo). IsKnownTo stores s x.number) e.2 (known_by stores h s e.0.child.number stands (omega (arith, made, count)) known)
