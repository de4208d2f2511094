use Rattle.std.proofs.Common.{◌≡◌, ◌++◌, ◌+◌, sym, rules}
use Rattle.script_program.specs.Tasks.{setup_in}
use Rattle.script_program.proofs.Numbered.{one_more_behind}
use Rattle.script_program.proofs.tasks.push_setups.Goals as goal

pub loop-i-preserved : goal.loop-i-preserved
loop-i-preserved c =
    let added : c.push_plain_if.new.out ≡ c.loop-i.out ++ setup_in (c.loop-i.i + 1) c.index-sessions-i.result = search rules in
    one_more_behind setup_in c.args.sessions.now c.loop-i.i c.index-sessions-i.result c.args.out.now c.loop-i.out c.push_plain_if.new.out c.loop-i-test.true (sym c.index-sessions-i.is) c.loop-i.invariant added
