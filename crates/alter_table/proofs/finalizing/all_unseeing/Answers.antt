use Rattle.std.proofs.Common.{ℕ, Bool, ◌&&◌, ◌||◌, nat_lt, ap, ◌∙◌}
use Rattle.pg_values.specs.Sets.{has}
use Rattle.alter_table.specs.Finalized.{is_unseeing}
use Rattle.alter_table.proofs.Waits.{one_more}
use Rattle.alter_table.proofs.finalizing.all_unseeing.Goals as goal

pub loop-other-preserved : goal.loop-other-preserved
loop-other-preserved c = λ h txs k.
    let n = c.loop-other.other in
    let p : ℕ → Bool = is_unseeing h c.args.session c.args.by in
    c.union-others.ensures k
    ∙ (ap (λ (b : Bool). b || has c.one_unseeing.result k) (c.loop-other.invariant h txs k)
    ∙ (ap (λ (b : Bool). (nat_lt k n && p k) || b) (c.one_unseeing.ensures h txs k) ∙ one_more p n k))
