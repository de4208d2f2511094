use Rattle.std.proofs.Common.{sym, ◌∙◌}
use Rattle.ddl_steps.proofs.Levels.{of_same_level}
use Rattle.ddl_steps.proofs.equal_checks.same_check.Goals as goal

pub same_bound-requires : goal.same_bound-requires
same_bound-requires c =
    let a = c.args.a.now in
    let b = c.args.b.now in
    (a.level, c.requires.mine, of_same_level a.level b.level b.bound (sym c.same_level.ensures ∙ c.if-same_level.true) c.requires.other)
