-- A name stands where its bytes do.
use Rattle.std.proofs.Common.{◌≡◌, ℕ, Bool, true, false, not, ◌||◌, List, [], ◌∷◌, ◌++◌, refl, sym, ap, ◌∙◌, if◌then◌else◌}
use Rattle.std.specs.Borrow.{Bor}
use Rattle.std.specs.List.{list_any}
use Rattle.std.specs.Str.{bytes_eq}
use Rattle.std.proofs.lemmas.List.{map-append}
use Rattle.table_binder.specs.Names.{bytes_of}

pub any_named : (name : List ℕ) (names : List (Bor (List ℕ))) → list_any (λ n. bytes_eq name n.now) names ≡ list_any (bytes_eq name) (bytes_of names)
any_named name [] = refl
any_named name (n ∷ ns) = ap (λ t. bytes_eq name n.now || t) (any_named name ns)

-- a name is put last where it is new
pub put_new : (names more : List (Bor (List ℕ))) (name : Bor (List ℕ)) (there : Bool) → more ≡ (if there then names else names ++ name ∷ [])
    → bytes_of more ≡ (if not there then bytes_of names ++ name.now ∷ [] else bytes_of names)
put_new names more name true is = ap bytes_of is
put_new names more name false is = ap bytes_of is ∙ map-append (λ n. n.now) names (name ∷ [])
