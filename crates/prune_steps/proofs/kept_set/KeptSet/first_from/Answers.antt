use Rattle.std.proofs.Common.{◌+◌, ◌*◌, ◌/◌, List, ℕ, arith, rules, subst}
use Rattle.std.specs.Int.{w128, trailing_zeros}
use Rattle.prune_steps.specs.Bits.{NoneIn, FirstFrom}
use Rattle.prune_steps.proofs.Words.{none_on, left_of, none_left, lowest_first, first_behind}
use Rattle.prune_steps.proofs.kept_set.KeptSet.first_from.Goals as goal

pub returns-then-left-ne0 : goal.returns-then-left-ne0
returns-then-left-ne0 c =
    let words = c.self.inside.words in
    let at = c.loop-at.at in
    let found = at + trailing_zeros w128 (left_of words at) in
    first_behind c.args.self.now c.args.from at found c.loop-at.invariant.behind c.loop-at.invariant.none
    (subst (λ (ws : List ℕ). FirstFrom ws at found) c.self.view_is (lowest_first words at (search rules) (omega arith) c.loop-at-test.true))

pub loop-at-preserved : goal.loop-at-preserved
loop-at-preserved c =
    let at = c.loop-at.at in
    let behind = c.loop-at.invariant.behind in
    record {
      behind = omega (arith, behind);
      none = none_on c.args.self.now c.args.from at ((at / 128 + 1) * 128) c.loop-at.invariant.none (subst (λ (ws : List ℕ). NoneIn ws at ((at / 128 + 1) * 128)) c.self.view_is (none_left c.self.inside.words at (omega arith)));
    }
