use Rattle.std.proofs.Common.{◌∙◌, ◌≤◌, List, ℕ, length, sym, subst}
use Rattle.pg_values.specs.declared.lock_mode.LockMode.TheVariants.{AccessExclusive}
use Rattle.history.specs.declared.catalogue.Table.{Table}
use Rattle.history.specs.History.{History}
use Rattle.history.specs.Places.{table_at, TakesBound}
use Rattle.tx_table.specs.Stands.{TableStands}
use Rattle.part_catalog.specs.Stands.{CatalogueStands}
use Rattle.sql_ast.specs.Commands.{bound_tree}
use Rattle.stores.specs.declared.stores.Stores.{Stores}
use Rattle.statement_steps.specs.Asks.{held_at, named}
use Rattle.statement_steps.specs.Attempts.{MayAttempt}
use Rattle.statement_steps.proofs.Steps.{goes, handed_on, may_go_on, moved, out_behind, stops}
use Rattle.table_statements.specs.Asked.{HasDefaultClean, IsFree, MayBeMade, MayBePlaced}
use Rattle.table_statements.specs.Claims.{name_claimed}
use Rattle.table_statements.specs.Partitions as partitions
use Rattle.table_statements.specs.Seen.{seen_place}
use Rattle.ddl_steps.proofs.Beside.{still_default}
use Rattle.ddl_steps.proofs.Locks.{named_locked, still_named}
use Rattle.ddl_steps.specs.Locks.{default_locked}
use Rattle.table_statements.proofs.partitions.create_partition.Goals as goal

-- ---- what each part requires

pub lock_named-requires-clause-may : goal.lock_named-requires-clause-may
lock_named-requires-clause-may c = may_go_on _ _ _ _ _ _ c.requires.may c.in_ok-hold_if_repeatable.ensures.step

pub lock_named-requires-clause-few : goal.lock_named-requires-clause-few
lock_named-requires-clause-few c = subst (λ (s : Stores). length s.catalog.tables ≤ 4096) (sym c.hold_if_repeatable.ensures.rest) c.requires.few

pub lock_default-requires-clause-may : goal.lock_default-requires-clause-may
lock_default-requires-clause-may c = may_go_on _ _ _ _ _ _ (may_go_on _ _ _ _ _ _ c.requires.may c.in_ok-hold_if_repeatable.ensures.step) c.in_ok-parent.ensures.step

pub lock_default-requires-clause-few : goal.lock_default-requires-clause-few
lock_default-requires-clause-few c = subst (λ (s : Stores). length s.catalog.tables ≤ 4096) (sym c.lock_named.ensures.rest) (subst (λ (s : Stores). length s.catalog.tables ≤ 4096) (sym c.hold_if_repeatable.ensures.rest) c.requires.few)

pub lock_default-requires-clause-known : goal.lock_default-requires-clause-known
lock_default-requires-clause-known c = c.in_ok-parent.ensures.known.made

pub check_parent-requires-clause-may : goal.check_parent-requires-clause-may
check_parent-requires-clause-may c = may_go_on _ _ _ _ _ _ (may_go_on _ _ _ _ _ _ (may_go_on _ _ _ _ _ _ c.requires.may c.in_ok-hold_if_repeatable.ensures.step) c.in_ok-parent.ensures.step) c.in_ok-lock_default.ensures.step

pub check_parent-requires-clause-known : goal.check_parent-requires-clause-known
check_parent-requires-clause-known c =
    (still_named c.lock_named.new.stores c.lock_default.new.stores c.args.attempt.now.caller.session c.in_ok-parent.parent.number c.lock_default.ensures.rest c.in_ok-lock_default.ensures.step.keeps.locks
    (named_locked c.args.attempt.now.names.now c.hold_if_repeatable.new.stores c.lock_named.new.stores c.args.attempt.now.caller c.args.parent.now c.in_ok-parent.parent (may_go_on _ _ _ _ _ _ c.requires.may c.in_ok-hold_if_repeatable.ensures.step) c.lock_named.ensures.rest c.in_ok-parent.ensures.known
    (moved (named c.args.attempt.now.names.now c.args.attempt.now.caller.session AccessExclusive) _ _ c.as_bytes.ensures c.in_ok-parent.ensures.step))).made

pub claim_name-requires : goal.claim_name-requires
claim_name-requires c = record { may = may_go_on _ _ _ _ _ _ (may_go_on _ _ _ _ _ _ (may_go_on _ _ _ _ _ _ c.requires.may c.in_ok-hold_if_repeatable.ensures.step) c.in_ok-parent.ensures.step) c.in_ok-lock_default.ensures.step }

pub place_found-requires-clause-may : goal.place_found-requires-clause-may
place_found-requires-clause-may c = may_go_on _ _ _ _ _ _ (may_go_on _ _ _ _ _ _ (may_go_on _ _ _ _ _ _ (may_go_on _ _ _ _ _ _ c.requires.may c.in_ok-hold_if_repeatable.ensures.step) c.in_ok-parent.ensures.step) c.in_ok-lock_default.ensures.step) c.in_ok-claim_name.ensures.step

pub place_found-requires-clause-known : goal.place_found-requires-clause-known
place_found-requires-clause-known c =
    (still_named c.lock_default.new.stores c.claim_name.new.stores c.args.attempt.now.caller.session c.in_ok-parent.parent.number c.claim_name.ensures.rest c.in_ok-claim_name.ensures.step.keeps.locks
    (still_named c.lock_named.new.stores c.lock_default.new.stores c.args.attempt.now.caller.session c.in_ok-parent.parent.number c.lock_default.ensures.rest c.in_ok-lock_default.ensures.step.keeps.locks
    (named_locked c.args.attempt.now.names.now c.hold_if_repeatable.new.stores c.lock_named.new.stores c.args.attempt.now.caller c.args.parent.now c.in_ok-parent.parent (may_go_on _ _ _ _ _ _ c.requires.may c.in_ok-hold_if_repeatable.ensures.step) c.lock_named.ensures.rest c.in_ok-parent.ensures.known
    (moved (named c.args.attempt.now.names.now c.args.attempt.now.caller.session AccessExclusive) _ _ c.as_bytes.ensures c.in_ok-parent.ensures.step)))).made

pub scan_default-requires-clause-may : goal.scan_default-requires-clause-may
scan_default-requires-clause-may c = may_go_on _ _ _ _ _ _ (may_go_on _ _ _ _ _ _ (may_go_on _ _ _ _ _ _ (may_go_on _ _ _ _ _ _ c.requires.may c.in_ok-hold_if_repeatable.ensures.step) c.in_ok-parent.ensures.step) c.in_ok-lock_default.ensures.step) c.in_ok-claim_name.ensures.step

pub scan_default-requires-clause-known : goal.scan_default-requires-clause-known
scan_default-requires-clause-known c =
    (still_named c.lock_default.new.stores c.claim_name.new.stores c.args.attempt.now.caller.session c.in_ok-parent.parent.number c.claim_name.ensures.rest c.in_ok-claim_name.ensures.step.keeps.locks
    (still_named c.lock_named.new.stores c.lock_default.new.stores c.args.attempt.now.caller.session c.in_ok-parent.parent.number c.lock_default.ensures.rest c.in_ok-lock_default.ensures.step.keeps.locks
    (named_locked c.args.attempt.now.names.now c.hold_if_repeatable.new.stores c.lock_named.new.stores c.args.attempt.now.caller c.args.parent.now c.in_ok-parent.parent (may_go_on _ _ _ _ _ _ c.requires.may c.in_ok-hold_if_repeatable.ensures.step) c.lock_named.ensures.rest c.in_ok-parent.ensures.known
    (moved (named c.args.attempt.now.names.now c.args.attempt.now.caller.session AccessExclusive) _ _ c.as_bytes.ensures c.in_ok-parent.ensures.step)))).made

pub scan_default-requires-clause-takes : goal.scan_default-requires-clause-takes
scan_default-requires-clause-takes c = λ h catalog.
    let sound : MayAttempt c.claim_name.new.stores c.args.attempt.now.caller = may_go_on _ _ _ _ _ _ (may_go_on _ _ _ _ _ _ (may_go_on _ _ _ _ _ _ (may_go_on _ _ _ _ _ _ c.requires.may c.in_ok-hold_if_repeatable.ensures.step) c.in_ok-parent.ensures.step) c.in_ok-lock_default.ensures.step) c.in_ok-claim_name.ensures.step in
    let was = sound.sound.1.all in
    subst (λ (tables : List Table). TakesBound (table_at tables c.in_ok-parent.parent.number).shape c.in_ok-place.place.bound) (sym was.catalog.tables ∙ catalog.tables) (c.in_ok-place.ensures.may sound.sound.0 was.txs was.catalog).takes

pub make_placed-requires-clause-may : goal.make_placed-requires-clause-may
make_placed-requires-clause-may c =
    may_go_on _ _ _ _ _ _ (may_go_on _ _ _ _ _ _ (may_go_on _ _ _ _ _ _ (may_go_on _ _ _ _ _ _ (may_go_on _ _ _ _ _ _ c.requires.may c.in_ok-hold_if_repeatable.ensures.step) c.in_ok-parent.ensures.step) c.in_ok-lock_default.ensures.step) c.in_ok-claim_name.ensures.step) c.in_ok-scan_default.ensures.step

pub make_placed-requires-clause-parent : goal.make_placed-requires-clause-parent
make_placed-requires-clause-parent c =
    still_named c.claim_name.new.stores c.scan_default.new.stores c.args.attempt.now.caller.session c.in_ok-parent.parent.number c.scan_default.ensures.rest c.in_ok-scan_default.ensures.step.keeps.locks
    (still_named c.lock_default.new.stores c.claim_name.new.stores c.args.attempt.now.caller.session c.in_ok-parent.parent.number c.claim_name.ensures.rest c.in_ok-claim_name.ensures.step.keeps.locks
    (still_named c.lock_named.new.stores c.lock_default.new.stores c.args.attempt.now.caller.session c.in_ok-parent.parent.number c.lock_default.ensures.rest c.in_ok-lock_default.ensures.step.keeps.locks
    (named_locked c.args.attempt.now.names.now c.hold_if_repeatable.new.stores c.lock_named.new.stores c.args.attempt.now.caller c.args.parent.now c.in_ok-parent.parent (may_go_on _ _ _ _ _ _ c.requires.may c.in_ok-hold_if_repeatable.ensures.step) c.lock_named.ensures.rest c.in_ok-parent.ensures.known
    (moved (named c.args.attempt.now.names.now c.args.attempt.now.caller.session AccessExclusive) _ _ c.as_bytes.ensures c.in_ok-parent.ensures.step))))

pub make_placed-requires-clause-default : goal.make_placed-requires-clause-default
make_placed-requires-clause-default c =
    still_default c.claim_name.new.stores c.scan_default.new.stores c.args.attempt.now.caller.session c.in_ok-parent.parent.number c.scan_default.ensures.rest c.in_ok-scan_default.ensures.step.keeps.locks
    (still_default c.lock_default.new.stores c.claim_name.new.stores c.args.attempt.now.caller.session c.in_ok-parent.parent.number c.claim_name.ensures.rest c.in_ok-claim_name.ensures.step.keeps.locks
    c.in_ok-lock_default.ensures.locked)

pub make_placed-requires-clause-clean : goal.make_placed-requires-clause-clean
make_placed-requires-clause-clean c =
    subst (λ (n : List ℕ). HasDefaultClean c.scan_default.new.stores c.args.attempt.now.caller.session c.in_ok-parent.parent.number c.in_ok-place.place.bound n) (c.as_bytes-text.ensures ∙ sym c.in_ok-copy.ensures) c.in_ok-scan_default.ensures.clean

pub make_placed-requires-clause-free : goal.make_placed-requires-clause-free
make_placed-requires-clause-free c =
    let s = c.args.attempt.now.caller.session in
    subst (λ (n : List ℕ). (h : History) → TableStands c.scan_default.new.stores.txs h → CatalogueStands c.scan_default.new.stores.catalog h → MayBeMade h s n) (sym c.in_ok-copy.ensures)
    (subst (λ (x : Stores). (h : History) → TableStands x.txs h → CatalogueStands x.catalog h → MayBeMade h s c.args.name.now) (sym c.scan_default.ensures.rest)
    (λ h txs catalog. record { free = subst (λ (n : List ℕ). IsFree h s n) c.as_bytes-text.ensures (c.in_ok-claim_name.ensures.free h txs catalog); few = c.in_ok-place.ensures.few h catalog }))

pub make_placed-requires-clause-placed : goal.make_placed-requires-clause-placed
make_placed-requires-clause-placed c =
    subst (λ (x : Stores). (h : History) → TableStands x.txs h → CatalogueStands x.catalog h → MayBePlaced h c.args.attempt.now.caller.session c.in_ok-parent.parent.number c.in_ok-place.place.bound c.in_ok-place.place.level) (sym c.scan_default.ensures.rest) c.in_ok-place.ensures.may

-- ---- the exits, and the end

pub returns-in_err-parent : goal.returns-in_err-parent
returns-in_err-parent c =
    let names = c.args.attempt.now.names.now in
    let caller = c.args.attempt.now.caller in
    let name = c.args.name.now in
    let b = bound_tree c.args.bound.now in
    let by = c.args.by.now in
    handed_on c.from_residual-in_err-parent.ensures.1
    (goes (held_at caller.level caller.session caller.cmd) (λ u. partitions.made_below names caller name c.args.parent.now b by) c.in_ok-hold_if_repeatable.ensures.step
    (stops (named names caller.session AccessExclusive c.args.parent.now) (λ t. partitions.made_beside names caller name t b by) (moved (named names caller.session AccessExclusive) _ _ c.as_bytes.ensures c.in_err-parent.ensures.step)))

pub returns-in_err-lock_default : goal.returns-in_err-lock_default
returns-in_err-lock_default c =
    let names = c.args.attempt.now.names.now in
    let caller = c.args.attempt.now.caller in
    let name = c.args.name.now in
    let b = bound_tree c.args.bound.now in
    let by = c.args.by.now in
    let p = c.in_ok-parent.parent.number in
    handed_on c.from_residual-in_err-lock_default.ensures.1
    (goes (held_at caller.level caller.session caller.cmd) (λ u. partitions.made_below names caller name c.args.parent.now b by) c.in_ok-hold_if_repeatable.ensures.step
    (goes (named names caller.session AccessExclusive c.args.parent.now) (λ t. partitions.made_beside names caller name t b by) (moved (named names caller.session AccessExclusive) _ _ c.as_bytes.ensures c.in_ok-parent.ensures.step)
    (stops (default_locked names caller.session p) (λ u. partitions.claimed_and_made names caller name p b by) c.in_err-lock_default.ensures.step)))

pub returns-in_err-check_parent : goal.returns-in_err-check_parent
returns-in_err-check_parent c =
    let names = c.args.attempt.now.names.now in
    let caller = c.args.attempt.now.caller in
    let name = c.args.name.now in
    let b = bound_tree c.args.bound.now in
    let by = c.args.by.now in
    let p = c.in_ok-parent.parent.number in
    handed_on c.from_residual-in_err-check_parent.ensures.1
    (goes (held_at caller.level caller.session caller.cmd) (λ u. partitions.made_below names caller name c.args.parent.now b by) c.in_ok-hold_if_repeatable.ensures.step
    (goes (named names caller.session AccessExclusive c.args.parent.now) (λ t. partitions.made_beside names caller name t b by) (moved (named names caller.session AccessExclusive) _ _ c.as_bytes.ensures c.in_ok-parent.ensures.step)
    (goes (default_locked names caller.session p) (λ u. partitions.claimed_and_made names caller name p b by) c.in_ok-lock_default.ensures.step
    (stops (partitions.parent_tested p) (λ u. partitions.claimed_and_placed names caller name p b by) c.in_err-check_parent.ensures))))

pub returns-in_err-claim_name : goal.returns-in_err-claim_name
returns-in_err-claim_name c =
    let names = c.args.attempt.now.names.now in
    let caller = c.args.attempt.now.caller in
    let name = c.args.name.now in
    let b = bound_tree c.args.bound.now in
    let by = c.args.by.now in
    let p = c.in_ok-parent.parent.number in
    handed_on c.from_residual-in_err-claim_name.ensures.1
    (goes (held_at caller.level caller.session caller.cmd) (λ u. partitions.made_below names caller name c.args.parent.now b by) c.in_ok-hold_if_repeatable.ensures.step
    (goes (named names caller.session AccessExclusive c.args.parent.now) (λ t. partitions.made_beside names caller name t b by) (moved (named names caller.session AccessExclusive) _ _ c.as_bytes.ensures c.in_ok-parent.ensures.step)
    (goes (default_locked names caller.session p) (λ u. partitions.claimed_and_made names caller name p b by) c.in_ok-lock_default.ensures.step
    (goes (partitions.parent_tested p) (λ u. partitions.claimed_and_placed names caller name p b by) c.in_ok-check_parent.ensures
    (stops (name_claimed names caller.session name) (λ u. partitions.placed_and_made names caller name p b by) (moved (name_claimed names caller.session) _ _ c.as_bytes-text.ensures c.in_err-claim_name.ensures.step))))))

pub returns-in_err-place : goal.returns-in_err-place
returns-in_err-place c =
    let names = c.args.attempt.now.names.now in
    let caller = c.args.attempt.now.caller in
    let name = c.args.name.now in
    let b = bound_tree c.args.bound.now in
    let by = c.args.by.now in
    let p = c.in_ok-parent.parent.number in
    handed_on c.from_residual-in_err-place.ensures.1
    (goes (held_at caller.level caller.session caller.cmd) (λ u. partitions.made_below names caller name c.args.parent.now b by) c.in_ok-hold_if_repeatable.ensures.step
    (goes (named names caller.session AccessExclusive c.args.parent.now) (λ t. partitions.made_beside names caller name t b by) (moved (named names caller.session AccessExclusive) _ _ c.as_bytes.ensures c.in_ok-parent.ensures.step)
    (goes (default_locked names caller.session p) (λ u. partitions.claimed_and_made names caller name p b by) c.in_ok-lock_default.ensures.step
    (goes (partitions.parent_tested p) (λ u. partitions.claimed_and_placed names caller name p b by) c.in_ok-check_parent.ensures
    (goes (name_claimed names caller.session name) (λ u. partitions.placed_and_made names caller name p b by) (moved (name_claimed names caller.session) _ _ c.as_bytes-text.ensures c.in_ok-claim_name.ensures.step)
    (stops (partitions.place_found caller.session p b by) (λ x. partitions.scanned_and_made names caller name p x) c.in_err-place.ensures.step))))))

pub returns-in_err-scan_default : goal.returns-in_err-scan_default
returns-in_err-scan_default c =
    let names = c.args.attempt.now.names.now in
    let caller = c.args.attempt.now.caller in
    let name = c.args.name.now in
    let b = bound_tree c.args.bound.now in
    let by = c.args.by.now in
    let p = c.in_ok-parent.parent.number in
    let place = seen_place c.in_ok-place.place in
    handed_on c.from_residual-in_err-scan_default.ensures.1
    (goes (held_at caller.level caller.session caller.cmd) (λ u. partitions.made_below names caller name c.args.parent.now b by) c.in_ok-hold_if_repeatable.ensures.step
    (goes (named names caller.session AccessExclusive c.args.parent.now) (λ t. partitions.made_beside names caller name t b by) (moved (named names caller.session AccessExclusive) _ _ c.as_bytes.ensures c.in_ok-parent.ensures.step)
    (goes (default_locked names caller.session p) (λ u. partitions.claimed_and_made names caller name p b by) c.in_ok-lock_default.ensures.step
    (goes (partitions.parent_tested p) (λ u. partitions.claimed_and_placed names caller name p b by) c.in_ok-check_parent.ensures
    (goes (name_claimed names caller.session name) (λ u. partitions.placed_and_made names caller name p b by) (moved (name_claimed names caller.session) _ _ c.as_bytes-text.ensures c.in_ok-claim_name.ensures.step)
    (goes (partitions.place_found caller.session p b by) (λ x. partitions.scanned_and_made names caller name p x) c.in_ok-place.ensures.step
    (stops (partitions.default_scanned names caller.session p place.bound name) (λ u. partitions.partition_made caller name p place) (moved (partitions.default_scanned names caller.session p place.bound) _ _ c.as_bytes-text.ensures c.in_err-scan_default.ensures.step))))))))

pub returns-in_err-copy : goal.returns-in_err-copy
returns-in_err-copy c =
    let names = c.args.attempt.now.names.now in
    let caller = c.args.attempt.now.caller in
    let name = c.args.name.now in
    let b = bound_tree c.args.bound.now in
    let by = c.args.by.now in
    let p = c.in_ok-parent.parent.number in
    goes (held_at caller.level caller.session caller.cmd) (λ u. partitions.made_below names caller name c.args.parent.now b by) c.in_ok-hold_if_repeatable.ensures.step
    (goes (named names caller.session AccessExclusive c.args.parent.now) (λ t. partitions.made_beside names caller name t b by) (moved (named names caller.session AccessExclusive) _ _ c.as_bytes.ensures c.in_ok-parent.ensures.step)
    (goes (default_locked names caller.session p) (λ u. partitions.claimed_and_made names caller name p b by) c.in_ok-lock_default.ensures.step
    (goes (partitions.parent_tested p) (λ u. partitions.claimed_and_placed names caller name p b by) c.in_ok-check_parent.ensures
    (goes (name_claimed names caller.session name) (λ u. partitions.placed_and_made names caller name p b by) (moved (name_claimed names caller.session) _ _ c.as_bytes-text.ensures c.in_ok-claim_name.ensures.step)
    (goes (partitions.place_found caller.session p b by) (λ x. partitions.scanned_and_made names caller name p x) c.in_ok-place.ensures.step
    (out_behind c.from_residual-in_err-copy.ensures.1 c.in_ok-scan_default.ensures.step))))))

pub returns : goal.returns
returns c =
    let names = c.args.attempt.now.names.now in
    let caller = c.args.attempt.now.caller in
    let name = c.args.name.now in
    let b = bound_tree c.args.bound.now in
    let by = c.args.by.now in
    let p = c.in_ok-parent.parent.number in
    let place = seen_place c.in_ok-place.place in
    goes (held_at caller.level caller.session caller.cmd) (λ u. partitions.made_below names caller name c.args.parent.now b by) c.in_ok-hold_if_repeatable.ensures.step
    (goes (named names caller.session AccessExclusive c.args.parent.now) (λ t. partitions.made_beside names caller name t b by) (moved (named names caller.session AccessExclusive) _ _ c.as_bytes.ensures c.in_ok-parent.ensures.step)
    (goes (default_locked names caller.session p) (λ u. partitions.claimed_and_made names caller name p b by) c.in_ok-lock_default.ensures.step
    (goes (partitions.parent_tested p) (λ u. partitions.claimed_and_placed names caller name p b by) c.in_ok-check_parent.ensures
    (goes (name_claimed names caller.session name) (λ u. partitions.placed_and_made names caller name p b by) (moved (name_claimed names caller.session) _ _ c.as_bytes-text.ensures c.in_ok-claim_name.ensures.step)
    (goes (partitions.place_found caller.session p b by) (λ x. partitions.scanned_and_made names caller name p x) c.in_ok-place.ensures.step
    (goes (partitions.default_scanned names caller.session p place.bound name) (λ u. partitions.partition_made caller name p place) (moved (partitions.default_scanned names caller.session p place.bound) _ _ c.as_bytes-text.ensures c.in_ok-scan_default.ensures.step)
    (moved (λ n. partitions.partition_made caller n p place) _ _ c.in_ok-copy.ensures c.make_placed.ensures)))))))
