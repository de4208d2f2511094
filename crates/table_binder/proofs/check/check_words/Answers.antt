use Rattle.std.proofs.Common.{◌≡◌, ◌-◌, [], sym, refl, ◌∙◌, arith}
use Rattle.table_binder.specs.Checks.{word_faults}
use Rattle.table_binder.proofs.CheckLaws.{word_end}
use Rattle.table_binder.proofs.check.check_words.Goals as goal

pub returns : goal.returns
returns c =
    let none : word_faults c.args.edges.now ≡ [] = sym c.loop-i.invariant ∙ word_end c.args.edges.now (c.loop-i.i - 1) (omega arith) in
    rw none refl
