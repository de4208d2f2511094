-- Leaves with their rows.
use Rattle.std.proofs.Common.{List, [], ◌∷◌, All, map}
use Rattle.std.proofs.lemmas.List.Elements.{All-nil, All-cons, All-head, All-tail}
use Rattle.pg_values.specs.declared.value.Value.{Value}
use Rattle.pg_values.specs.declared.ids.LeafId.{LeafId}
use Rattle.insert_statement.specs.Asked.{Each}

pub each_same : (P : LeafId → List Value → Type 0) (leaf : LeafId) (rows : List (List Value)) → ((row : List Value) → P leaf row) → Each P (map (λ row. leaf) rows) rows
each_same P leaf [] all = tt
each_same P leaf (r ∷ rs) all = (all r, each_same P leaf rs all)

-- of the one leaf and each row that is so
pub each_of : (P : LeafId → List Value → Type 0) (Q : List Value → Type 0) (leaf : LeafId) (rows : List (List Value)) → ((row : List Value) → Q row → P leaf row) → All Q rows → Each P (map (λ row. leaf) rows) rows
each_of P Q leaf [] to all = tt
each_of P Q leaf (r ∷ rs) to all = (to r (All-head Q r rs all), each_of P Q leaf rs to (All-tail Q r rs all))

pub each_with : (P R : LeafId → List Value → Type 0) (Q : LeafId → Type 0) (ls : List LeafId) (rs : List (List Value)) → ((l : LeafId) (r : List Value) → Q l → P l r → R l r) → All Q ls → Each P ls rs → Each R ls rs
each_with P R Q [] rs to all each = tt
each_with P R Q (l ∷ ls) [] to all each = absurd each
each_with P R Q (l ∷ ls) (r ∷ rs) to all each = (to l r (All-head Q l ls all) each.0, each_with P R Q ls rs to (All-tail Q l ls all) each.1)

-- what holds of each with its row holds of all
pub each_all : (P : LeafId → List Value → Type 0) (Q : LeafId → Type 0) (ls : List LeafId) (rs : List (List Value)) → ((l : LeafId) (r : List Value) → P l r → Q l) → Each P ls rs → All Q ls
each_all P Q [] rs to each = All-nil Q
each_all P Q (l ∷ ls) [] to each = absurd each
each_all P Q (l ∷ ls) (r ∷ rs) to each = All-cons Q l ls (to l r each.0) (each_all P Q ls rs to each.1)
