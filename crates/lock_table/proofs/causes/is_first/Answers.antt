use Rattle.std.proofs.Common.{◌≡◌, ◌==◌, true, sym, ap, ◌∙◌, refl, arith}
use Rattle.std.proofs.lemmas.Bool.Decides.{nat_tests}
use Rattle.pg_values.specs.Modes.{conflicts}
use Rattle.history.specs.Locks.{holds_against}
use Rattle.lock_table.proofs.causes.is_first.Goals as goal

pub returns-then-conflicts : goal.returns-then-conflicts
returns-then-conflicts c h ws q st =
    let held : c.has.result ≡ holds_against h c.args.x c.args.table c.args.waited = c.has.ensures.is ∙ c.against.ensures h ws q st c.args.x in
    let both : conflicts c.args.waited c.args.mode ≡ true = sym c.conflicts.ensures ∙ c.if-conflicts.true in
    let same : (c.args.other.number == c.args.table) ≡ true = grind (arith, nat_tests) in
    rw (held, same, both) refl
