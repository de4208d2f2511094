-- The names of a plan are those of the binder.
use Rattle.std.proofs.Common.{◌≡◌, ℕ, zero, suc, ◌+◌, ◌<◌, arith, Bool, true, false, if◌then◌else◌, List, [], ◌∷◌, Option, Some, None, length, map, get_or, position, slice_get, slice_index_or, refl, sym, ap, ◌∙◌}
use Rattle.std.specs.Str.{bytes_eq}
use Rattle.std.proofs.lemmas.List.{get_or-map}
use Rattle.std.proofs.lemmas.List.Quantifiers.{position-Some}
use Rattle.std.proofs.lemmas.Slice.Eq.{bytes_eq-Decides}
use Rattle.pg_values.specs.declared.value.Kind.TheVariants.{Text as KText}
use Rattle.history.specs.declared.catalogue.Column.{Column}
use Rattle.row_router.specs.Trees.{TableTree}
use Rattle.sql_ast.specs.Queries.{Joined}
use Rattle.sql_binder.specs.From.{item_name as name_of}
use Rattle.expression_binder.specs.declared.naming.Hit.{Hit}
use Rattle.expression_binder.specs.declared.naming.Lookup.{Lookup}
use Rattle.expression_binder.specs.declared.naming.Lookup.TheVariants.{Missing, One, Several}
use Rattle.expression_binder.specs.declared.scope.ScopeColumn.{ScopeColumn}
use Rattle.expression_binder.specs.Scopes.{Item, is_called, hit_at, hit_in, with_hit, look_up, item_called, found_by, look_up_in}
use Rattle.plan_text.specs.declared.named_item.NamedItem.{NamedItem}
use Rattle.plan_text.specs.Names.{name_in, columns_in, bare_name, item_name}
use Rattle.select_statement.specs.Explained.{column_name, named_item, named_items}
use Rattle.select_statement.specs.Items.{node_of, item_of, items_of}
use Rattle.select_statement.specs.Named.{ColumnsAreNamedAsAsked, ItemsAreNamedAsAsked}
use Rattle.statement_steps.specs.Scopes.{scope_column}

-- ---- a column

place_called : (name : List ℕ) (cs : List ScopeColumn) (p : ℕ) → position (is_called name) cs ≡ Some p → get_or (map (λ c. c.name) cs) p [] ≡ name
place_called name [] p h = cc
place_called name (c ∷ cs) p h =
    let is = position-Some (is_called name) (c ∷ cs) p c h in
    get_or-map (λ (x : ScopeColumn). x.name) (c ∷ cs) p c [] is.0 ∙ (bytes_eq-Decides (get_or (c ∷ cs) p c).name name).0 is.1

-- a hit in an item is of its number, and stands where the item has the name
pub record IsHit (item : Item) (name : List ℕ) (h : Hit) : Type 0 where
  pub number : h.column.item ≡ item.number
  pub called : get_or (map (λ c. c.name) item.columns) h.column.position [] ≡ name

abbrev hit : Item → ℕ → Hit
hit item place = record { column = record { item = item.number; position = place }; kind = slice_index_or (map (λ c. c.kind) item.columns) place KText }

hit_called : (item : Item) (name : List ℕ) (h : Hit) → hit_in item name ≡ Some h → IsHit item name h
hit_called item name h e = by (position (is_called name) item.columns) refl e
  where
    by : (o : Option ℕ) → position (is_called name) item.columns ≡ o → hit_at item o ≡ Some h → IsHit item name h
    by None p q = cc
    by (Some place) p q =
        let same : hit item place ≡ h = cc in
        record {
          number = ap (λ (x : Hit). x.column.item) (sym same);
          called = ap (λ (x : Hit). get_or (map (λ c. c.name) item.columns) x.column.position []) (sym same) ∙ place_called name item.columns place p;
        }

-- ---- an item

-- the item of the plan at the place where the binder has this one
pub record IsNamed (start place : ℕ) (item : Item) (named : Option NamedItem) : Type 0 where
  pub number : item.number ≡ start + place
  pub name : name_in named ≡ item.name
  pub columns : columns_in named ≡ map (λ c. c.name) item.columns

column_names : (cs : List Column) → map column_name cs ≡ map (λ c. c.name) (map scope_column cs)
column_names [] = refl
column_names (c ∷ cs) = ap (λ l. c.name ∷ l) (column_names cs)

named_at : (k : ℕ) (from : List Joined) (trees : List TableTree) (m : ℕ) (item : Item) → slice_get (items_of k from trees) m ≡ Some item → IsNamed k m item (slice_get (named_items from trees) m)
named_at k [] trees m item e = cc
named_at k (j ∷ js) [] m item e = cc
named_at k (j ∷ js) (tree ∷ trees) zero item e =
    let same : item_of k (name_of j) tree ≡ item = cc in
    let number : item.number ≡ k = ap (λ (x : Item). x.number) (sym same) in
    record {
      number = omega (arith, number);
      name = ap (λ (x : Item). x.name) same;
      columns = column_names (node_of tree).columns ∙ ap (λ (x : Item). map (λ c. c.name) x.columns) same;
    }
named_at k (j ∷ js) (tree ∷ trees) (suc m) item e =
    let is = named_at (k + 1) js trees m item e in
    let number = is.number in
    record { number = omega (arith, number); name = is.name; columns = is.columns }

-- both together
module _ (from : List Joined) (trees : List TableTree) where
  pub record ArePrinted (item : Item) (name : List ℕ) (h : Hit) : Type 0 where
    pub item_is : item_name (named_items from trees) h.column.item ≡ item.name
    pub column_is : bare_name (named_items from trees) h.column ≡ name

  printed_at : (m : ℕ) (item : Item) (name : List ℕ) (h : Hit) → slice_get (items_of 0 from trees) m ≡ Some item → hit_in item name ≡ Some h → ArePrinted item name h
  printed_at m item name h at e =
      let its = named_at 0 from trees m item at in
      let found = hit_called item name h e in
      let a = found.number in
      let b = its.number in
      let place : h.column.item ≡ m = omega (arith, a, b) in
      record {
        item_is = ap (λ n. name_in (slice_get (named_items from trees) n)) place ∙ its.name;
        column_is = ap (λ n. get_or (columns_in (slice_get (named_items from trees) n)) h.column.position []) place
            ∙ ap (λ cs. get_or cs h.column.position []) its.columns ∙ found.called;
      }

-- ---- where a name is looked up

-- among items the hit is in one of them
pub record IsHitAmong (items : List Item) (name : List ℕ) (h : Hit) : Type 0 where
  pub place : ℕ
  pub item : Item
  pub at : slice_get items place ≡ Some item
  pub hit : hit_in item name ≡ Some h

one_more : (item : Item) (items : List Item) (name : List ℕ) (h : Hit) → (look_up items name ≡ One h → IsHitAmong items name h) → (o : Option Hit) (l : Lookup) → hit_in item name ≡ o → look_up items name ≡ l → with_hit o l ≡ One h
    → IsHitAmong (item ∷ items) name h
one_more item items name h rest None l p q r = let found = rest (q ∙ r) in record { place = suc found.place; item = found.item; at = found.at; hit = found.hit }
one_more item items name h rest (Some g) Missing p q r = let same : g ≡ h = cc in record { place = 0; item = item; at = refl; hit = p ∙ ap Some same }
one_more item items name h rest (Some g) (One other) p q r = cc
one_more item items name h rest (Some g) Several p q r = cc

looked_up : (items : List Item) (name : List ℕ) (h : Hit) → look_up items name ≡ One h → IsHitAmong items name h
looked_up [] name h e = cc
looked_up (item ∷ items) name h e = one_more item items name h (λ q. looked_up items name h q) (hit_in item name) (look_up items name) refl refl e

pub columns_as_asked : ColumnsAreNamedAsAsked
columns_as_asked from trees name h e =
    let found = looked_up (items_of 0 from trees) name h e in
    (printed_at from trees found.place found.item name h found.at found.hit).column_is

-- the item of a name is one of the items
pub record IsCalledAmong (items : List Item) (name : List ℕ) (item : Item) : Type 0 where
  pub place : ℕ
  pub at : slice_get items place ≡ Some item
  pub called : item.name ≡ name

called_among : (items : List Item) (name : List ℕ) (item : Item) → item_called items name ≡ Some item → IsCalledAmong items name item
called_among [] name item e = cc
called_among (first ∷ items) name item e = by (bytes_eq first.name name) refl e (called_among items name item)
  where
    by : (b : Bool) → bytes_eq first.name name ≡ b → (if b then Some first else item_called items name) ≡ Some item → (item_called items name ≡ Some item → IsCalledAmong items name item) → IsCalledAmong (first ∷ items) name item
    by true is q rest = let same : first ≡ item = cc in record { place = 0; at = ap Some same; called = ap (λ i. i.name) (sym same) ∙ (bytes_eq-Decides first.name name).0 is }
    by false is q rest = let found = rest q in record { place = suc found.place; at = found.at; called = found.called }

pub items_as_asked : ItemsAreNamedAsAsked
items_as_asked from trees table name h e = by (item_called (items_of 0 from trees) table) refl e
  where
    inside : (item : Item) → IsCalledAmong (items_of 0 from trees) table item → (o : Option Hit) → hit_in item name ≡ o → found_by o ≡ One h
        → (item_name (named_items from trees) h.column.item ≡ table) × (bare_name (named_items from trees) h.column ≡ name)
    inside item is None p q = cc
    inside item is (Some g) p q =
        let same : g ≡ h = cc in
        let printed = printed_at from trees is.place item name h is.at (p ∙ ap Some same) in
        (printed.item_is ∙ is.called, printed.column_is)

    by : (o : Option Item) → item_called (items_of 0 from trees) table ≡ o → look_up_in o name ≡ One h
        → (item_name (named_items from trees) h.column.item ≡ table) × (bare_name (named_items from trees) h.column ≡ name)
    by None p q = cc
    by (Some item) p q = inside item (called_among (items_of 0 from trees) table item p) (hit_in item name) refl q
