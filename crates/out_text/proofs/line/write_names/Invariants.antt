use Rattle.std.proofs.Common.{◌≡◌, ◌++◌, ◌∷◌, [], take}
use Rattle.std.specs.List.{join_by}
use Rattle.out_text.specs.Table.{printed_name}
use Rattle.out_text.proofs.line.write_names.Given as goal

-- the columns so far are joined
abbrev pub invariant-loop-i : goal.invariant-loop-i
invariant-loop-i l = l.out.items ≡ l.initial.out.items ++ join_by (printed_name l.names) (124 ∷ []) (take l.i l.columns)
