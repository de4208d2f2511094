use Rattle.std.proofs.Common.{◌≡◌, ◌++◌, take}
use Rattle.std.specs.List.{flat_map}
use Rattle.script_program.specs.Checks.{block_line, setup_block}
use Rattle.script_program.proofs.check.write_setups.Given as goal

-- the lines of the setups so far
abbrev pub invariant-loop-setup : goal.invariant-loop-setup
invariant-loop-setup g l = l.out.items ≡ l.initial.out.items ++ flat_map (λ setup. block_line g.O.Db.Database.rules g.O.Opener.refused (setup_block setup)) (take l.setup-index l.setups)
