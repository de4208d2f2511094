use Rattle.std.proofs.Common.{◌∙◌, ◌<◌, ℕ, ap, sym, List, [], ◌∷◌, Option, Ok, Err, Bor, length, map}
use Rattle.std.specs.Option.{option_map}
use Rattle.pg_values.specs.declared.fault.Fault.{Fault}
use Rattle.pg_values.specs.declared.fault.Refusal.TheVariants.{Sql}
use Rattle.bound_forms.specs.Accepts.{is_default}
use Rattle.pg_values.specs.Refusals.{or_first}
use Rattle.refusals.specs.Refusals.{second_default}
use Rattle.history.specs.declared.catalogue.Entry.{Entry}
use Rattle.part_ddl.specs.Placing.{pending_faults}
use Rattle.part_ddl.proofs.First.{found_child, default_refused, default_passed}
use Rattle.part_ddl.proofs.placing.check_further_default.Goals as goal

pub name_of-name-requires : goal.name_of-name-requires
name_of-name-requires c = found_child (λ t. t.number < length c.args.catalog.now.tables) is_default _ c.in-Some.default (sym c.in-Some.is ∙ c.default_among.ensures) c.requires

pub returns-in-Some : goal.returns-in-Some
returns-in-Some c = λ h catalog.
    default_refused h (map (λ (e : Bor Entry). e.now) c.args.partitions.now) c.args.parent.now (option_map (λ (n : Bor (List ℕ)). n.now) c.args.pending) c.in-Some.default c.in_ok-second_default.field-0
    (sym c.default_among.ensures ∙ c.in-Some.is) (c.in_ok-second_default.ensures ∙ ap (second_default c.args.parent.now) (c.name_of-name.ensures h catalog))

pub returns-in_ok-partition_is_pending-in-Some-pending : goal.returns-in_ok-partition_is_pending-in-Some-pending
returns-in_ok-partition_is_pending-in-Some-pending c = λ h catalog.
    default_passed h (map (λ (e : Bor Entry). e.now) c.args.partitions.now) c.args.parent.now (option_map (λ (n : Bor (List ℕ)). n.now) c.args.pending) (Err (Sql c.in_ok-partition_is_pending-in-Some-pending.field-0))
    (sym c.default_among.ensures ∙ c.in_default.is)
    (ap (λ (o : Option (Bor (List ℕ))). or_first {T = Unit {0}} (pending_faults c.args.parent.now (option_map (λ (n : Bor (List ℕ)). n.now) o)) tt) c.in-Some-pending.is
    ∙ ap (λ (f : Fault). or_first {T = Unit {0}} (f ∷ []) tt) (sym c.in_ok-partition_is_pending-in-Some-pending.ensures))

pub returns-in-None : goal.returns-in-None
returns-in-None c = λ h catalog.
    default_passed h (map (λ (e : Bor Entry). e.now) c.args.partitions.now) c.args.parent.now (option_map (λ (n : Bor (List ℕ)). n.now) c.args.pending) (Ok tt)
    (sym c.default_among.ensures ∙ c.in_default.is)
    (ap (λ (o : Option (Bor (List ℕ))). or_first {T = Unit {0}} (pending_faults c.args.parent.now (option_map (λ (n : Bor (List ℕ)). n.now) o)) tt) c.in-None.is)
