use Rattle.std.proofs.Common.{◌≡◌, ◌∙◌, ◌+◌, ◌%◌, ℕ, true, false, nat_lt, slice_index, sym, arith, le-ltb, lt-ltb}
use Rattle.script_program.proofs.PermutationLaws.{found_here, found_later}
use Rattle.script_program.proofs.load_permutation.session_with_step.Goals as goal

pub returns-then-given-session-lt-STEPS-clause-session : goal.returns-then-given-session-lt-STEPS-clause-session
returns-then-given-session-lt-STEPS-clause-session c =
    let k = c.loop-further.further in
    let hit : nat_lt (slice_index c.args.given.now ((c.args.first + k) % 8)) 64 ≡ true = lt-ltb _ _ c.if-given-session-lt-STEPS.true in
    let here = found_here (λ (i : ℕ). nat_lt (slice_index c.args.given.now i) 64) (λ (j : ℕ). (c.args.first + j) % 8) k 8 (omega arith) hit in
    sym here ∙ c.loop-further.invariant

pub loop-further-preserved : goal.loop-further-preserved
loop-further-preserved c =
    let k = c.loop-further.further in
    let miss : nat_lt (slice_index c.args.given.now ((c.args.first + k) % 8)) 64 ≡ false = le-ltb _ _ c.if-given-session-lt-STEPS.false in
    let later = found_later (λ (i : ℕ). nat_lt (slice_index c.args.given.now i) 64) (λ (j : ℕ). (c.args.first + j) % 8) k 8 (omega arith) miss in
    sym later ∙ c.loop-further.invariant
