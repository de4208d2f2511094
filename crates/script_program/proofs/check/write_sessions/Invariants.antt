use Rattle.std.proofs.Common.{◌≡◌, ◌++◌, take}
use Rattle.std.specs.List.{flat_map}
use Rattle.script_program.specs.Checks.{block_lines, session_blocks}
use Rattle.script_program.proofs.check.write_sessions.Given as goal

-- the lines of the sessions so far
abbrev pub invariant-loop-session : goal.invariant-loop-session
invariant-loop-session g l = l.out.items ≡ l.initial.out.items ++ flat_map (λ session. block_lines g.O.Db.Database.rules g.O.Opener.refused (session_blocks session)) (take l.session-index l.sessions)
