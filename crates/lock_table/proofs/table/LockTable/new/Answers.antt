use Rattle.std.proofs.Common.{◌≡◌, ◌≤◌, ℕ, length, slice_index_or, replicate, None, arith, rules}
use Rattle.std.proofs.lemmas.Grind.{common_steps}
use Rattle.lock_table.proofs.Idle.{no_wait, idle_kept, idle_stands}
use Rattle.lock_table.proofs.Taken.{none_taken}
use Rattle.lock_table.proofs.table.LockTable.new.Goals as goal

pub invariant_of-result : goal.invariant_of-result
invariant_of-result c =
    let none : c.in_ok-vec.field-0.items ≡ replicate c.args.sessions None = search rules in
    let idle : (s : ℕ) → slice_index_or c.in_ok-vec.field-0.items s None ≡ None = λ s. rw none (no_wait c.args.sessions s) in
    let few : length c.in_ok-vec.field-0.items ≤ 65 = grind (arith, common_steps, c.in_ok-vec.ensures.len, c.requires) in (
      idle_kept c.args.tables _ c.in_ok-vec.field-0.items _ few idle c.in_ok-with_capacity-3.ensures.items,
      (
        grind (arith, common_steps, c.in_ok-vec.ensures.len, c.in_ok-with_capacity-3.ensures.capacity),
        grind (arith, common_steps, c.in_ok-with_capacity.ensures.capacity),
        grind (arith, common_steps, c.in_ok-with_capacity-2.ensures.capacity),
        rw (c.in_ok-with_capacity.ensures.items, c.in_ok-with_capacity-2.ensures.items) (none_taken _),
      ),
    )

pub returns-clause-stands : goal.returns-clause-stands
returns-clause-stands c =
    let none : c.in_ok-vec.field-0.items ≡ replicate c.args.sessions None = search rules in
    let idle : (s : ℕ) → slice_index_or c.in_ok-vec.field-0.items s None ≡ None = λ s. rw none (no_wait c.args.sessions s) in
    idle_stands c.args.tables _ c.in_ok-vec.field-0.items _ c.in_ok-with_capacity.ensures.items idle c.in_ok-with_capacity-3.ensures.items
