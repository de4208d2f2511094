-- Pieces that are written one after the other.
use Rattle.std.proofs.Common.{◌≡◌, ℕ, zero, suc, List, [], ◌∷◌, ◌++◌, Option, refl, ap, length, take, ◌+◌}
use Rattle.std.specs.Io.KnownBytes.{Appends}
use Rattle.std.proofs.KnownBytes.{Appends-trans, Appends-nil}
use Rattle.std.proofs.Math.Seq.{take-append-add, take-length}
use Rattle.schedule.specs.Printed.{AppendsPrefix}

-- some first elements of the front are first elements of the whole
front : (k : ℕ) (xs ys : List ℕ) → (j : ℕ) × (take j (xs ++ ys) ≡ take k xs)
front zero xs ys = (0, refl)
front (suc k) [] ys = (0, refl)
front (suc k) (x ∷ xs) ys = let h = front k xs ys in (suc h.0, ap (λ l. x ∷ l) h.1)

pub nothing_yet : (now : Option (List ℕ)) (xs : List ℕ) → AppendsPrefix now now xs
nothing_yet now xs = record { count = 0; taken = Appends-nil now }

pub all_of_it : (before now : Option (List ℕ)) (xs : List ℕ) → Appends before now xs → AppendsPrefix before now xs
all_of_it before now xs wrote = record { count = length xs; taken = rw (take-length xs) wrote }

pub both : (before mid now : Option (List ℕ)) (xs ys : List ℕ) → Appends before mid xs → Appends mid now ys → Appends before now (xs ++ ys)
both before mid now xs ys a b = Appends-trans _ _ _ _ _ a b

-- the first piece was cut
pub first_cut : (before now : Option (List ℕ)) (xs ys : List ℕ) → AppendsPrefix before now xs → AppendsPrefix before now (xs ++ ys)
first_cut before now xs ys p = let h = front p.count xs ys in record { count = h.0; taken = rw h.1 p.taken }

-- the second was
pub second_cut : (before mid now : Option (List ℕ)) (xs ys : List ℕ) → Appends before mid xs → AppendsPrefix mid now ys → AppendsPrefix before now (xs ++ ys)
second_cut before mid now xs ys wrote p = record { count = length xs + p.count; taken = rw (take-append-add xs ys p.count) (Appends-trans _ _ _ _ _ wrote p.taken) }
