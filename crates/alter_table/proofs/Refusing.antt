-- What is known of a table that nothing stands against.
use Rattle.std.proofs.Common.{◌≡◌, ℕ, not, Bool, true, false, [], refl, ap, Option, Some, None, Ok}
use Rattle.pg_values.specs.declared.fault.Fault.{Fault}
use Rattle.pg_values.specs.declared.ids.TableNo.{TableNo}
use Rattle.pg_values.specs.Refusals.{unless}
use Rattle.refusals.specs.Refusals.{partition_is_pending, not_a_partition}
use Rattle.history.specs.History.{History}
use Rattle.part_catalog.specs.Answers.{child_told, pending_entry}
use Rattle.part_ddl.specs.Placing.{level_at}
use Rattle.ddl_steps.specs.Refused.{unless_faults}
use Rattle.ddl_steps.specs.Families.{parent_in}
use Rattle.ddl_steps.proofs.Firsts.{both_told, none_told}
use Rattle.alter_table.specs.Detached.{is_table, detachable}
use Rattle.alter_table.specs.Places.{name_at}
use Rattle.ddl_steps.proofs.Below.{same_number}

pub none_against : (b : Bool) (f : Fault) → unless b f ≡ [] → b ≡ true
none_against true f e = refl
none_against false f e = absurd (let c = e in cc)

pub is_parent : (o : Option TableNo) (p : TableNo) → is_table o p.number ≡ true → o ≡ Some p
is_parent None p e = absurd (let c = e in cc)
is_parent (Some x) p e = ap (λ (n : ℕ). Some (record { number = n })) (same_number x.number p.number e)

pub is_partition : (h : History) (s t : ℕ) (p : TableNo) → detachable h s p.number t ≡ Ok tt → parent_in h s t ≡ Some p
is_partition h s t p e =
    let is = is_table (parent_in h s t) p.number in
    let other = not_a_partition (name_at h t) (name_at h p.number) in
    let rest = unless_faults (unless (not (is_table (child_told (pending_entry h s p.number)) t)) (partition_is_pending (name_at h t) (name_at h p.number))) (Ok tt) in
    let level = both_told (level_at h p.number) (λ l. unless_faults (unless is other) rest) tt e in
    is_parent (parent_in h s t) p (none_against is other (none_told (unless is other) rest tt level.2).0)
