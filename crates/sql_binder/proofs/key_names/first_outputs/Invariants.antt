use Rattle.std.proofs.Common.{◌≡◌, ℕ, List, map, drop}
use Rattle.std.specs.Borrow.{Bor}
use Rattle.sql_binder.specs.Keys.{output_named}
use Rattle.sql_binder.specs.KeyNames.{first_named, named_with}
use Rattle.sql_binder.specs.Lent.{heading}
use Rattle.sql_binder.proofs.key_names.first_outputs.Given as goal

-- what is known of a name and the rest decide
abbrev pub invariant-loop-place : goal.invariant-loop-place
invariant-loop-place l = (name : Bor (List ℕ))
    → named_with l.names.items name.now (first_named name.now l.firsts.entries) l.place (map heading (drop l.place l.outputs)) ≡ output_named l.names.items name.now 0 (map heading l.outputs)
