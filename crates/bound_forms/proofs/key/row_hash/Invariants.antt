use Rattle.std.proofs.Common.{◌≡◌, drop}
use Rattle.pg_values.specs.Hash.{key_hash, key_hash_from}
use Rattle.bound_forms.proofs.key.row_hash.Given as goal

-- the hash so far, with the values still to come
abbrev pub invariant-loop-i : goal.invariant-loop-i
invariant-loop-i g l =
    let key = g.Q.Key.values l.key in
    key_hash_from l.hash (drop l.i key) ≡ key_hash key
