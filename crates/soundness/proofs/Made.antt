-- Tables stay as they were made.
use Rattle.std.proofs.Common.{◌≡◌, ℕ, ◌+◌, ◌<◌, ◌++◌, arith, ◌∷◌, [], ◌⊎◌, inl, inr, ap, subst, ◌∙◌, List, length}
use Rattle.std.proofs.lemmas.Grind.{common_steps, elements}
use Rattle.std.proofs.lemmas.Bool.{cases_lt}
use Rattle.std.proofs.lemmas.List.{length-append}
use Rattle.pg_values.specs.declared.value.Value.{Value}
use Rattle.pg_values.specs.declared.ids.LeafId.{LeafId}
use Rattle.history.specs.declared.catalogue.Table.{Table}
use Rattle.history.specs.declared.catalogue.TableShape.TheVariants.{Leaf}
use Rattle.history.specs.declared.catalogue.Entry.{Entry}
use Rattle.history.specs.Catalogue.{CatalogueEvents, TableMade, tables_made}
use Rattle.history.specs.Places.{table_at, TakesBound, HasColumnsOf, Suits}
use Rattle.soundness.specs.Worlds.{table_in, IsMade, HasLeaf, key_in, key_at}

one_more : (tables : List Table) (t : Table) → length (tables ++ t ∷ []) ≡ length tables + 1
one_more tables t = length-append tables (t ∷ [])

same_at : (tables : List Table) (t : Table) (k : ℕ) → k < length tables → table_at tables k ≡ table_at (tables ++ t ∷ []) k
same_at tables t k lt = grind (arith, common_steps, elements)

last_at : (tables : List Table) (t : Table) (k : ℕ) → k ≡ length tables → t ≡ table_at (tables ++ t ∷ []) k
last_at tables t k at = grind (arith, common_steps, elements, at)

pub same_table : (t : Table) (cats : CatalogueEvents) (x : ℕ) → IsMade cats x → table_in cats x ≡ table_in (TableMade t ∷ cats) x
same_table t cats x made = same_at (tables_made cats) t x made

pub made_more : (t : Table) (cats : CatalogueEvents) (x : ℕ) → IsMade cats x → IsMade (TableMade t ∷ cats) x
made_more t cats x made = let n = one_more (tables_made cats) t in omega (arith, n, made)

-- the new table, or an older one
pub made_was : (t : Table) (cats : CatalogueEvents) (x : ℕ) → IsMade (TableMade t ∷ cats) x → ((x ≡ length (tables_made cats)) × (t ≡ table_in (TableMade t ∷ cats) x)) ⊎ IsMade cats x
made_was t cats x made =
    let n = one_more (tables_made cats) t in
    elim (cases_lt x (length (tables_made cats))) [
      | inl lt ↦ inr lt
      | inr le ↦ let at : x ≡ length (tables_made cats) = omega (arith, n, made, le) in inl (at, last_at (tables_made cats) t x at)
    ]

pub leaf_was : (t : Table) (cats : CatalogueEvents) (x : ℕ) (leaf : LeafId) → HasLeaf (TableMade t ∷ cats) x leaf → (t.shape ≡ Leaf leaf) ⊎ HasLeaf cats x leaf
leaf_was t cats x leaf (made, shape) = elim (made_was t cats x made) [
  | inl new ↦ inl (ap (λ (y : Table). y.shape) new.1 ∙ shape)
  | inr old ↦ inr (old, ap (λ (y : Table). y.shape) (same_table t cats x old) ∙ shape)
]

pub same_key : (t : Table) (cats : CatalogueEvents) (x : ℕ) (row : List Value) → IsMade cats x → key_at cats x row ≡ key_at (TableMade t ∷ cats) x row
same_key t cats x row made = ap (λ (y : Table). key_in y.shape row) (same_table t cats x made)

pub suits_more : (t : Table) (cats : CatalogueEvents) (e : Entry) → Suits (tables_made cats) e → Suits (tables_made (TableMade t ∷ cats)) e
suits_more t cats e s =
    let p = same_table t cats e.parent.number s.parent in
    let c = same_table t cats e.child.number s.child in
    record {
      parent = made_more t cats e.parent.number s.parent;
      child = made_more t cats e.child.number s.child;
      bound = subst (λ (x : Table). TakesBound x.shape e.bound) p s.bound;
      columns = subst (λ (x : Table). HasColumnsOf x.columns (table_in (TableMade t ∷ cats) e.child.number).columns) p (subst (λ (x : Table). HasColumnsOf (table_in cats e.parent.number).columns x.columns) c s.columns);
    }
