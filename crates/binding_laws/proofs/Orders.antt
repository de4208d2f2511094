-- What rows are sorted by is there.
use Rattle.std.proofs.Common.{◌≡◌, ℕ, ◌+◌, ◌-◌, ◌<◌, ◌≤◌, ◌&&◌, ◌||◌, not, nat_le, Bool, true, false, if◌then◌else◌, List, [], ◌∷◌, ◌++◌, Option, Some, None, Result, Ok, Err, codes, length, refl, sym, ap, subst, ◌∙◌, arith, length-append}
use Rattle.std.proofs.lemmas.Grind.{common_steps}
use Rattle.std.proofs.lemmas.Bool.Decides.{nat_tests}
use Rattle.std.specs.Str.{bytes_eq}
use Rattle.pg_values.specs.declared.fault.Fault.{Fault}
use Rattle.pg_values.specs.declared.value.Kind.{Kind}
use Rattle.refusals.specs.Refusals.{out_of_range, left_out, no_output}
use Rattle.sql_ast.specs.declared.leaf.Leaf.TheVariants.{Number, Text, Date, Null, Truth, Parameter, Column, ColumnOf, TableName, TableNameOf}
use Rattle.sql_ast.specs.Expressions.{Tree, leaf, call, call_of_all, negated, binary, in_list, between, is_null, inverted, all_of, any_of}
use Rattle.sql_ast.specs.Queries.{Item as Listed, all_columns, columns_of, one_column, Key, SelectTree, selected}
use Rattle.cond_logic.specs.declared.select.SortBy.TheVariants as by
use Rattle.cond_logic.specs.Scalars.{ScalarTree}
use Rattle.cond_logic.specs.Asked.{SelectMeant}
use Rattle.expression_binder.specs.declared.naming.Lookup.{Lookup}
use Rattle.expression_binder.specs.declared.naming.Lookup.TheVariants.{Missing, One, Several}
use Rattle.expression_binder.specs.declared.scope.Param.{Param}
use Rattle.expression_binder.specs.declared.scope.ScopeColumn.{ScopeColumn}
use Rattle.expression_binder.specs.Firsts.{fault_in}
use Rattle.expression_binder.specs.Operands.{look_up_faults, in_item_faults, row_table_faults, item_faults}
use Rattle.expression_binder.specs.Scopes.{Item, Scope, look_up, look_up_in, item_called}
use Rattle.expression_binder.proofs.Firsts.{value_of}
use Rattle.sql_binder.specs.declared.keys.Named.{Named}
use Rattle.sql_binder.specs.declared.keys.Named.TheVariants as named
use Rattle.sql_binder.specs.From.{from_faults, all_conditions, condition_faults, condition_constants}
use Rattle.sql_binder.specs.Items.{HeadingView, column_headings, item_headings, all_headings, headings_of, listed_headings, list_headings, columns_from, item_outputs, all_outputs, outputs_of, output_name, output_scalar, made_output, listed_constants, list_constants, listed_outputs, list_outputs, list_faults}
use Rattle.sql_binder.specs.Keys.{give_all, one_of, output_named, name_faults, key_faults, keys_faults, key_constants, keys_constants, computed_faults, by_column, by_name, by_row_table, by_item_table, key_by, sort_keys}
use Rattle.sql_binder.specs.Selects as selects
use Rattle.sql_binder.specs.Selects.{list_scope, select_faults, bound_select}
use Rattle.binding_laws.specs.Fitting.{Lies, IsNumbered}
use Rattle.binding_laws.specs.FittingAsks.{KeyFits, KeysFit}
use Rattle.binding_laws.proofs.Names.{look_up_lies, look_up_in_lies, called_at}
use Rattle.binding_laws.proofs.Operands.{front_none, back_none, kept, allowed_then}

-- ---- as many headings as outputs

columns_long : (item : Item) (place : ℕ) (table : List ℕ) (cs : List ScopeColumn) → length (columns_from item place cs) ≡ length (column_headings table cs)
columns_long item place table [] = refl
columns_long item place table (c ∷ cs) = let h = columns_long item (place + 1) table cs in omega (arith, h)

all_long : (items : List Item) → length (all_outputs items) ≡ length (all_headings items)
all_long [] = refl
all_long (i ∷ items) =
    length-append (item_outputs i) (all_outputs items)
    ∙ (ap (λ n. n + length (all_outputs items)) (columns_long i 0 i.name i.columns)
    ∙ (ap (λ n. length (item_headings i) + n) (all_long items) ∙ sym (length-append (item_headings i) (all_headings items))))

called_long : (o : Option Item) → length (outputs_of o) ≡ length (headings_of o)
called_long None = refl
called_long (Some i) = columns_long i 0 i.name i.columns

made_long : (name : List ℕ) (k : Kind) (r : Result ScalarTree Fault) → fault_in r ≡ [] → length (made_output name k r) ≡ 1
made_long name k (Ok x) h = refl
made_long name k (Err f) h = cc

listed_long : (s : Scope) (l : Listed) → listed_constants s l ≡ [] → length (listed_outputs s l) ≡ length (listed_headings s.items l)
listed_long s all_columns h = all_long s.items
listed_long s (columns_of t) h = called_long (item_called s.items t)
listed_long s (one_column o) h = made_long (output_name o.0 o.1) _ (output_scalar s o.0) h

list_long : (s : Scope) (ls : List Listed) → list_constants s ls ≡ [] → length (list_outputs s ls) ≡ length (list_headings s.items ls)
list_long s [] h = refl
list_long s (l ∷ ls) h =
    length-append (listed_outputs s l) (list_outputs s ls)
    ∙ (ap (λ n. n + length (list_outputs s ls)) (listed_long s l (front_none (listed_constants s l) _ h))
    ∙ (ap (λ n. length (listed_headings s.items l) + n) (list_long s ls (back_none (listed_constants s l) _ h)) ∙ sym (length-append (listed_headings s.items l) (list_headings s.items ls))))

-- ---- a name

one_is : (p q : ℕ) (b : Bool) → one_of p b ≡ named.One q → p ≡ q
one_is p q true e = cc
one_is p q false e = cc

named_step : (items : List Item) (name : List ℕ) (p : ℕ) (h : HeadingView) (hs : List HeadingView) (q : ℕ) → (output_named items name (p + 1) hs ≡ named.One q → q < (p + 1) + length hs) → (b : Bool)
    → (if b then one_of p (give_all items name h.value hs) else output_named items name (p + 1) hs) ≡ named.One q → q < p + (length hs + 1)
named_step items name p h hs q rest true f = let same = one_is p q (give_all items name h.value hs) f in omega (arith, same)
named_step items name p h hs q rest false f = let less = rest f in omega (arith, less)

named_within : (items : List Item) (name : List ℕ) (p : ℕ) (hs : List HeadingView) (q : ℕ) → output_named items name p hs ≡ named.One q → q < p + length hs
named_within items name p [] q e = cc
named_within items name p (h ∷ hs) q e = let less = named_step items name p h hs q (λ f. named_within items name (p + 1) hs q f) (bytes_eq h.name name) e in omega (arith, less)

column_fits : (items : List Item) (n : ℕ) (name : List ℕ) (l : Lookup) → look_up_faults name l ≡ [] → ((c : _) → l ≡ One c → Lies items c.column c.kind) → KeyFits items n (by_column l)
column_fits items n name Missing none lies = cc
column_fits items n name (One h) none lies = (h.kind, lies h refl)
column_fits items n name Several none lies = cc

name_fits : (s : Scope) (name : List ℕ) (hs : List HeadingView) (d : Named) → output_named s.items name 0 hs ≡ d → name_faults s name d ≡ [] → KeyFits s.items (length hs) (by_name s name d)
name_fits s name hs named.Missing e none = column_fits s.items (length hs) name (look_up s.items name) none (λ h is. look_up_lies s.items name h is)
name_fits s name hs (named.One q) e none = let less = named_within s.items name 0 hs q e in omega (arith, less)
name_fits s name hs named.Several e none = cc

in_item_fits : (items : List Item) (n : ℕ) (table name : List ℕ) (o : Option Item) → item_called items table ≡ o → in_item_faults table name o ≡ [] → KeyFits items n (by_column (look_up_in o name))
in_item_fits items n table name None e none = cc
in_item_fits items n table name (Some i) e none =
    column_fits items n name (look_up_in (Some i) name) none (λ h is. look_up_in_lies items table name h (subst (λ o. look_up_in o name ≡ One h) (sym e) is))

row_fits : (items : List Item) (n : ℕ) → row_table_faults items ≡ [] → KeyFits items n (by_row_table items)
row_fits [] n none = cc
row_fits (i ∷ []) n none = (0, i, refl, refl)
row_fits (i ∷ j ∷ items) n none = cc

item_fits : (items : List Item) (n : ℕ) (table : List ℕ) (o : Option Item) → item_called items table ≡ o → item_faults table o ≡ [] → KeyFits items n (by_item_table o)
item_fits items n table None e none = cc
item_fits items n table (Some i) e none = let at = called_at items table i e in (at.0, i, at.1, refl)

-- ---- a position

is_place : (n count : ℕ) → nat_le n 9223372036854775807 ≡ true → (not (nat_le n 9223372036854775807) || (nat_le 1 n && nat_le n count)) ≡ true → n - 1 < count
is_place n count small e = grind (arith, common_steps, nat_tests, small, e)

-- ---- a key

computed_none : {A : Type 0} (s : Scope) (t : Tree) → computed_faults s t ++ left_out (codes "ORDER") ∷ [] ≡ [] → A
computed_none s t h = let none = back_none (computed_faults s t) _ h in absurd (cc)

module _ (s : Scope) (hs : List HeadingView) where
  key_fits : (t : Tree) → key_faults s hs t ≡ [] → key_constants t ≡ [] → KeyFits s.items (length hs) (key_by s hs t)
  key_fits (leaf (Number n)) h e = is_place n (length hs) (kept (nat_le n 9223372036854775807) out_of_range e) (kept _ (no_output n) h)
  key_fits (leaf (Column c)) h e = name_fits s c hs (output_named s.items c 0 hs) refl h
  key_fits (leaf (ColumnOf t c)) h e = in_item_fits s.items (length hs) t c (item_called s.items t) refl h
  key_fits (leaf TableName) h e = row_fits s.items (length hs) (allowed_then s.allowed.table_names _ h)
  key_fits (leaf (TableNameOf t)) h e = item_fits s.items (length hs) t (item_called s.items t) refl (allowed_then s.allowed.table_names _ h)
  key_fits (leaf (Text z)) h e = computed_none s (leaf (Text z)) h
  key_fits (leaf (Date z)) h e = computed_none s (leaf (Date z)) h
  key_fits (leaf Null) h e = computed_none s (leaf Null) h
  key_fits (leaf (Truth b)) h e = computed_none s (leaf (Truth b)) h
  key_fits (leaf (Parameter n)) h e = computed_none s (leaf (Parameter n)) h
  key_fits (call f ts) h e = computed_none s (call f ts) h
  key_fits (call_of_all f) h e = computed_none s (call_of_all f) h
  key_fits (negated x) h e = computed_none s (negated x) h
  key_fits (binary o x y) h e = computed_none s (binary o x y) h
  key_fits (in_list b x ts) h e = computed_none s (in_list b x ts) h
  key_fits (between b x y z) h e = computed_none s (between b x y z) h
  key_fits (is_null b x) h e = computed_none s (is_null b x) h
  key_fits (inverted x) h e = computed_none s (inverted x) h
  key_fits (all_of ts) h e = computed_none s (all_of ts) h
  key_fits (any_of ts) h e = computed_none s (any_of ts) h

  keys_fit : (ks : List Key) → keys_faults s hs ks ≡ [] → keys_constants ks ≡ [] → KeysFit s.items (length hs) (sort_keys s hs ks)
  keys_fit [] h e = tt
  keys_fit (k ∷ ks) h e =
      (key_fits k.0 (front_none (key_faults s hs k.0) _ h) (front_none (key_constants k.0) _ e), keys_fit ks (back_none (key_faults s hs k.0) _ h) (back_none (key_constants k.0) _ e))

pub order_fits : (items : List Item) (params : List Param) (session : ℕ) (t : SelectTree) (m : SelectMeant) → bound_select items params session t ≡ Ok m → KeysFit items (length m.outputs) m.order
order_fits items params session (selected ls from cond keys limit offset) m e =
    let t = selected ls from cond keys limit offset in
    let p = value_of (select_faults items params session t) (selects.meaning items params session t) m e in
    let behind = back_none (from_faults from) _ p.0 in
    let names = front_none (selects.name_faults items params session t) _ behind in
    let constants = back_none (selects.name_faults items params session t) _ behind in
    let s = list_scope items params session in
    let hs = list_headings items ls in
    let conditions = all_conditions items from cond in
    let tail = back_none (list_faults s ls ++ condition_faults params session conditions) _ names in
    let computed = back_none (list_constants s ls ++ condition_constants params session conditions) _ constants in
    let first = front_none (list_constants s ls) _ (front_none (list_constants s ls ++ condition_constants params session conditions) _ constants) in
    let fits = keys_fit s hs keys (front_none (keys_faults s hs keys) _ tail) (front_none (keys_constants keys) _ computed) in
    subst (λ b. KeysFit items (length b.outputs) b.order) p.1 (subst (λ n. KeysFit items n (sort_keys s hs keys)) (sym (list_long s ls first)) fits)
