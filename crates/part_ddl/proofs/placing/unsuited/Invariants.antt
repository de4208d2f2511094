use Rattle.std.proofs.Common.{◌≡◌, drop, map}
use Rattle.bound_forms.specs.Moduli.{bad_modulus}
use Rattle.row_router.specs.Histories.{bound_of}
use Rattle.part_ddl.proofs.placing.unsuited.Given as goal

-- the moduli so far suit, so the rest decides
abbrev pub invariant-loop-entry : goal.invariant-loop-entry
invariant-loop-entry l = bad_modulus l._bound (map bound_of (map (λ e. e.now) (drop l.entry-index l.partitions))) ≡ bad_modulus l._bound (map bound_of (map (λ e. e.now) l.partitions))
