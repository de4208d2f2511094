-- What a condition keeps and gives, by its conjuncts.
use Rattle.std.proofs.Common.{◌≡◌, ℕ, Bool, true, false, ◌&&◌, List, [], ◌∷◌, ◌++◌, refl, sym, ap, ◌∙◌}
use Rattle.std.specs.Prelude.{Option, Some, None}
use Rattle.std.specs.List.{list_all}
use Rattle.std.proofs.lemmas.List.Folds.{list_all-append}
use Rattle.pg_values.specs.declared.value.Value.{Value}
use Rattle.bound_forms.specs.declared.partition_bound.Bound.{Bound}
use Rattle.cond_logic.specs.Conjuncts.{conjuncts, all_conjuncts}
use Rattle.cond_logic.specs.Trees.{CondTree, CondTrees, no_more, and_more, all_of, any_of, inverted, compares, null_test, known, listed}
use Rattle.prune_steps.specs.Atoms.{Asked, given, first_given, first_of}
use Rattle.prune_steps.specs.Kept.{part_keeps, parts_keep}

-- ---- what is kept

alone : (b : Bool) → b ≡ (b && true)
alone true = refl
alone false = refl

module _ (a : Asked) (bounds : List Bound) (first : ℕ → Option Value) (b : Bound) where
  abbrev keeps : CondTree → Bool
  keeps t = part_keeps a bounds first t b

  mutual
    pub keeps_parted : (t : CondTree) → keeps t ≡ list_all keeps (conjuncts t)
    keeps_parted (all_of ts) = all_parted ts
    keeps_parted (any_of ts) = alone (keeps (any_of ts))
    keeps_parted (inverted t) = alone (keeps (inverted t))
    keeps_parted (compares op x y) = alone (keeps (compares op x y))
    keeps_parted (null_test x) = alone (keeps (null_test x))
    keeps_parted (known t) = alone (keeps (known t))

    all_parted : (ts : CondTrees) → parts_keep a bounds first ts b ≡ list_all keeps (all_conjuncts ts)
    all_parted no_more = refl
    all_parted (and_more t ts) = rw (keeps_parted t, all_parted ts) (sym (list_all-append keeps (conjuncts t) (all_conjuncts ts)))

-- ---- what is given

by_itself : (o : Option Value) → o ≡ first_of o None
by_itself None = refl
by_itself (Some v) = refl

first_assoc : (x y z : Option Value) → first_of (first_of x y) z ≡ first_of x (first_of y z)
first_assoc None y z = refl
first_assoc (Some v) y z = refl

module _ (a : Asked) (nulls : Bool) (j : ℕ) where
  given_append : (ts us : List CondTree) → first_given a nulls (listed (ts ++ us)) j ≡ first_of (first_given a nulls (listed ts) j) (first_given a nulls (listed us) j)
  given_append [] us = refl
  given_append (t ∷ ts) us =
      ap (first_of (given a nulls t j)) (given_append ts us) ∙ sym (first_assoc (given a nulls t j) (first_given a nulls (listed ts) j) (first_given a nulls (listed us) j))

  mutual
    pub given_parted : (t : CondTree) → given a nulls t j ≡ first_given a nulls (listed (conjuncts t)) j
    given_parted (all_of ts) = first_parted ts
    given_parted (any_of ts) = by_itself (given a nulls (any_of ts) j)
    given_parted (inverted t) = refl
    given_parted (compares op x y) = by_itself (given a nulls (compares op x y) j)
    given_parted (null_test x) = by_itself (given a nulls (null_test x) j)
    given_parted (known t) = refl

    first_parted : (ts : CondTrees) → first_given a nulls ts j ≡ first_given a nulls (listed (all_conjuncts ts)) j
    first_parted no_more = refl
    first_parted (and_more t ts) = rw (given_parted t, first_parted ts) (sym (given_append (conjuncts t) (all_conjuncts ts)))
