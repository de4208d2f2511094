-- Columns and items that are found are there.
use Rattle.std.proofs.Common.{◌≡◌, ℕ, zero, suc, ◌<◌, Bool, true, false, List, [], ◌∷◌, Option, Some, None, length, map, position, slice_get, slice_index_or, refl, sym, ap, subst, ◌∙◌, if◌then◌else◌}
use Rattle.std.proofs.lemmas.List.Quantifiers.{position-Some}
use Rattle.std.specs.Str.{bytes_eq}
use Rattle.pg_values.specs.declared.value.Kind.TheVariants.{Text as KText}
use Rattle.expression_binder.specs.declared.naming.Hit.{Hit}
use Rattle.expression_binder.specs.declared.naming.Lookup.{Lookup}
use Rattle.expression_binder.specs.declared.naming.Lookup.TheVariants.{Missing, One, Several}
use Rattle.expression_binder.specs.declared.scope.ScopeColumn.{ScopeColumn}
use Rattle.expression_binder.specs.Scopes.{Item, is_called, hit_at, hit_in, with_hit, look_up, item_called, found_by, look_up_in}
use Rattle.binding_laws.specs.Fitting.{LiesIn, Lies}

pub within : (name : List ℕ) (cs : List ScopeColumn) (p : ℕ) → position (is_called name) cs ≡ Some p → p < length cs
within name [] p h = cc
within name (c ∷ cs) p h = (position-Some (is_called name) (c ∷ cs) p c h).0

abbrev hit : Item → ℕ → Hit
hit item place = record { column = record { item = item.number; position = place }; kind = slice_index_or (map (λ c. c.kind) item.columns) place KText }

pub hit_lies : (item : Item) (name : List ℕ) (h : Hit) → hit_in item name ≡ Some h → LiesIn item h.column h.kind
hit_lies item name h e = by_place (position (is_called name) item.columns) refl e
  where
    by_place : (o : Option ℕ) → position (is_called name) item.columns ≡ o → hit_at item o ≡ Some h → LiesIn item h.column h.kind
    by_place None p q = cc
    by_place (Some place) p q =
        let same : hit item place ≡ h = cc in
        subst (λ x. LiesIn item x.column x.kind) same (refl, within name item.columns place p, refl)

look_up_step : (item : Item) (items : List Item) (name : List ℕ) (h : Hit) → (look_up items name ≡ One h → Lies items h.column h.kind) → (o : Option Hit) (l : Lookup) → hit_in item name ≡ o → look_up items name ≡ l → with_hit o l ≡ One h
    → Lies (item ∷ items) h.column h.kind
look_up_step item items name h rest None l p q r = let found = rest (q ∙ r) in (suc found.0, found.1, found.2, found.3)
look_up_step item items name h rest (Some g) Missing p q r = let same : g ≡ h = cc in (0, item, refl, hit_lies item name h (p ∙ ap Some same))
look_up_step item items name h rest (Some g) (One other) p q r = cc
look_up_step item items name h rest (Some g) Several p q r = cc

pub look_up_lies : (items : List Item) (name : List ℕ) (h : Hit) → look_up items name ≡ One h → Lies items h.column h.kind
look_up_lies [] name h e = cc
look_up_lies (item ∷ items) name h e = look_up_step item items name h (λ q. look_up_lies items name h q) (hit_in item name) (look_up items name) refl refl e

called_step : (first : Item) (items : List Item) (name : List ℕ) (item : Item) → (item_called items name ≡ Some item → (i : ℕ) × (slice_get items i ≡ Some item)) → (b : Bool) → (if b then Some first else item_called items name) ≡ Some item
    → (i : ℕ) × (slice_get (first ∷ items) i ≡ Some item)
called_step first items name item rest true q = (0, q)
called_step first items name item rest false q = let found = rest q in (suc found.0, found.1)

-- the item of a name is one of the items
pub called_at : (items : List Item) (name : List ℕ) (item : Item) → item_called items name ≡ Some item → (i : ℕ) × (slice_get items i ≡ Some item)
called_at [] name item e = cc
called_at (first ∷ items) name item e = called_step first items name item (λ q. called_at items name item q) (bytes_eq first.name name) e

found_lies : (items : List Item) (item : Item) (name : List ℕ) (h : Hit) (i : ℕ) → slice_get items i ≡ Some item → (o : Option Hit) → hit_in item name ≡ o → found_by o ≡ One h → Lies items h.column h.kind
found_lies items item name h i at None p q = cc
found_lies items item name h i at (Some g) p q = let same : g ≡ h = cc in (i, item, at, hit_lies item name h (p ∙ ap Some same))

pub look_up_in_lies : (items : List Item) (table name : List ℕ) (h : Hit) → look_up_in (item_called items table) name ≡ One h → Lies items h.column h.kind
look_up_in_lies items table name h e = by_item (item_called items table) refl e
  where
    by_item : (o : Option Item) → item_called items table ≡ o → look_up_in o name ≡ One h → Lies items h.column h.kind
    by_item None p q = cc
    by_item (Some item) p q = let at = called_at items table item p in found_lies items item name h at.0 at.1 (hit_in item name) refl q
