-- Vectors that copies share.
use Rattle.std.proofs.Common.{◌≡◌, Vec, Global, ap, length}

pub as_long : {T : Type 0} (v w : Vec T Global) → v ≡ w → length v.items ≡ length w.items
as_long {T} v w is = ap (λ (u : Vec T Global). length u.items) is
