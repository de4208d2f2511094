use Rattle.std.proofs.Common.{◌+◌, sym, ap, ◌∙◌, drop}
use Rattle.pg_values.specs.Hash.{key_hash_from}
use Rattle.bound_forms.proofs.Residues.{hash_step}
use Rattle.bound_forms.proofs.key.row_hash.Goals as goal

pub loop-i-preserved : goal.loop-i-preserved
loop-i-preserved g c =
    let key = g.Q.Key.values c.args.key.now in
    ap (λ h. key_hash_from h (drop (c.loop-i.i + 1) key)) c.next_hash-hash.ensures ∙ sym (hash_step key c.loop-i.hash c.loop-i.i _ c.value.ensures) ∙ c.loop-i.invariant
