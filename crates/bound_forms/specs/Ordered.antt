-- Bounds that have a plain order whether or not they can stand side by side.
use Rattle.std.specs.Prelude.{Bool, true, false}
use Rattle.bound_forms.specs.declared.partition_bound.Bound.{Bound}
use Rattle.bound_forms.specs.declared.partition_bound.Bound.TheVariants.{Range, List as Listed, Hash, Default}

-- the two are of one strategy, or one is DEFAULT
abbrev pub are_alike : Bound → Bound → Bool
are_alike Default b = true
are_alike a Default = true
are_alike (Range l u) (Range m v) = true
are_alike (Listed values) (Listed others) = true
are_alike (Hash m r) (Hash n s) = true
are_alike _ _ = false
