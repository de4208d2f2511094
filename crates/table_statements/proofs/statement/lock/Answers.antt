use Rattle.std.proofs.Common.{All, List, sym, subst, map}
use Rattle.pg_values.specs.declared.ids.TableNo.{TableNo}
use Rattle.statement_steps.specs.Known.{IsKnownTo}
use Rattle.statement_steps.proofs.Steps.{goes, handed_on, may_go_on, moved, stops}
use Rattle.table_statements.specs.Locked.{all_named, all_under, locked}
use Rattle.table_statements.proofs.Counted.{counted}
use Rattle.table_statements.proofs.Locking.{few_stays}
use Rattle.table_statements.proofs.statement.lock.Goals as goal

pub lock_all_below-requires-clause-may : goal.lock_all_below-requires-clause-may
lock_all_below-requires-clause-may c = may_go_on _ _ _ _ _ _ c.requires.may c.in_ok-whole.ensures.step

pub lock_all_below-requires-clause-few : goal.lock_all_below-requires-clause-few
lock_all_below-requires-clause-few c = few_stays c.args.stores.now c.lock_all.new.stores c.lock_all.ensures.rest c.requires.few

pub lock_all_below-requires-clause-known : goal.lock_all_below-requires-clause-known
lock_all_below-requires-clause-known c = subst (λ (ts : List TableNo). All (λ t. IsKnownTo c.lock_all.new.stores c.args.attempt.now.caller.session t.number) ts) (sym c.deref.ensures.value) c.in_ok-whole.ensures.known

pub returns-in_err-whole : goal.returns-in_err-whole
returns-in_err-whole c =
    handed_on c.from_residual.ensures.1 (stops (all_named c.args.attempt.now.names.now c.args.attempt.now.caller.session c.args.mode c.args.tables.now) (all_under c.args.attempt.now.names.now c.args.attempt.now.caller.session c.args.mode) c.in_err-whole.ensures.step)

pub returns : goal.returns
returns c =
    let s = c.args.attempt.now.caller.session in
    let m = c.args.mode in
    let names = c.args.attempt.now.names.now in
    counted (λ (u : Unit {0}). u) c.lock_all_below.result c.args.stores.now c.lock_all_below.new.stores c.args.attempt.now.caller (locked names s c.args.tables.now m)
    (goes (all_named names s m c.args.tables.now) (all_under names s m) c.in_ok-whole.ensures.step
    (moved (λ (ts : List TableNo). all_under names s m (map (λ t. t.number) ts)) _ _ c.deref.ensures.value c.lock_all_below.ensures))
