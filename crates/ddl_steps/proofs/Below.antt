-- Tables and entries that are there for the session, and which of them it may ask for.
use Rattle.std.proofs.Common.{◌≡◌, ℕ, zero, suc, ◌<◌, ◌≤◌, Bool, true, List, [], ◌∷◌, ◌++◌, inl, inr, refl, sym, ap, ◌∙◌, subst, arith, Option, Some, None, All, find, map, length, option_map, slice_index_or, ◌==◌}
use Rattle.std.specs.List.{Contains}
use Rattle.std.proofs.lemmas.Bool.{cases_Bool}
use Rattle.std.proofs.lemmas.List.Elements.{All-nil, All-contains, All-contains_itself, All-filter, Contains-get_or}
use Rattle.std.proofs.lemmas.Bool.Decides.{nat_tests}
use Rattle.pg_values.specs.declared.ids.TableNo.{TableNo}
use Rattle.bound_forms.specs.declared.partition_bound.Bound.{Bound}
use Rattle.history.specs.declared.catalogue.Entry.{Entry}
use Rattle.history.specs.declared.catalogue.TableShape.{TableShape}
use Rattle.history.specs.declared.catalogue.TableShape.TheVariants.{Leaf, Level}
use Rattle.history.specs.Transactions.{open_of}
use Rattle.history.specs.Catalogue.{tables_made, entries_added}
use Rattle.history.specs.History.{History, tx_events, catalogue_events}
use Rattle.history.specs.Legal.{IsLegal}
use Rattle.history.specs.Places.{table_at, AreCatalogueSound, Suits}
use Rattle.history.specs.Presence.{is_present, entries_present}
use Rattle.row_router.specs.Trees.{TableTree, LeafTable, LevelTable, Trees, End, More}
use Rattle.row_router.specs.declared.node.Node.{Node}
use Rattle.row_router.specs.Histories.{table_of, ddl_tree, tree_within, grown, node_at, bound_of, child_of_entry, children}
use Rattle.row_router.proofs.Order.{all_children, under_children}
use Rattle.row_router.proofs.Suited.{all_suit}
use Rattle.tx_table.specs.Kept.{KeptTable}
use Rattle.tx_table.specs.Stands.{TableStands}
use Rattle.soundness.specs.Legal.{ArePermitted, HasTable, Below}
use Rattle.soundness.specs.Laws.{LegalKeepsAll}
use Rattle.soundness.specs.Worlds.{view}
use Rattle.soundness.proofs.Listed.{none_in, first_in, later_in, cases_in}
use Rattle.soundness.proofs.Worlds.{view_world}
use Rattle.part_catalog.specs.Answers.{AreTogether}
use Rattle.part_catalog.specs.Kept.{KeptCatalogue}
use Rattle.part_catalog.specs.Stands.{CatalogueStands}
use Rattle.part_ddl.specs.Below as ddl
use Rattle.part_ddl.specs.Below.{tables_from, default_of, has_default_bound}
use Rattle.part_ddl.specs.Placing.{partitions_of}
use Rattle.part_ddl.proofs.Making.{table_count}
use Rattle.legal_statements.specs.Below as lawful
use Rattle.legal_statements.specs.Below.{numbers_from}
use Rattle.legal_statements.specs.Laws.{ListedIsThere, ThereIsKnown, TreeIsWhole}
use Rattle.stores.specs.Stand.{Stands}
use Rattle.stores.specs.declared.stores.Stores.{Stores}
use Rattle.stores.proofs.Goodness.{legal_of, permitted_of}
use Rattle.statement_steps.specs.Attempts.{MayAttempt}
use Rattle.statement_steps.specs.declared.caller.Caller.{Caller}
use Rattle.statement_steps.specs.Known.{IsKnownTo}
use Rattle.statement_steps.proofs.Parts.{own_tx, known_by}
use Rattle.ddl_steps.specs.Families.{family_of}

-- ---- what a search gives

pub found_in : {X : Type 0} (p : X → Bool) (xs : List X) (x : X) → find p xs ≡ Some x → Contains xs x × (p x ≡ true)
found_in p [] x e = absurd (let c = e in cc)
found_in {X} p (y ∷ ys) x e = elim (cases_Bool (p y)) [
  | inl t ↦
      let first : Some y ≡ Some x = rw t at e in
      let same : y ≡ x = cc in
      (subst (λ (z : X). Contains (y ∷ ys) z) same (first_in y ys), subst (λ (z : X). p z ≡ true) same t)
  | inr f ↦ let rest = found_in p ys x (rw f at e) in (later_in y ys x rest.0, rest.1)
]

-- where nothing is found, nothing passes
pub none_passes : {X : Type 0} (p : X → Bool) (xs : List X) (x : X) → find p xs ≡ None → Contains xs x → p x ≡ true → ⊥
none_passes p [] x e at is = none_in x at
none_passes {X} p (y ∷ ys) x e at is = elim (cases_Bool (p y)) [
  | inl t ↦ let some : Some y ≡ None = rw t at e in absurd (cc)
  | inr f ↦ elim (cases_in y ys x at) [
    | inl here ↦ let passes : p y ≡ true = subst (λ (z : X). p z ≡ true) (sym here) is in absurd (cc)
    | inr later ↦ none_passes p ys x (rw f at e) later is
  ]
]

-- where something passes, something is found
pub found_some : {X : Type 0} (p : X → Bool) (xs : List X) (x : X) → Contains xs x → p x ≡ true → (y : X) × (find p xs ≡ Some y) × Contains xs y × (p y ≡ true)
found_some p [] x at is = absurd (none_in x at)
found_some {X} p (y ∷ ys) x at is = elim (cases_Bool (p y)) [
  | inl t ↦ (y, rw t refl, first_in y ys, t)
  | inr f ↦ elim (cases_in y ys x at) [
    | inl here ↦ let passes : p y ≡ true = subst (λ (z : X). p z ≡ true) (sym here) is in absurd (cc)
    | inr later ↦ let rest = found_some p ys x later is in (rest.0, rw f rest.1, later_in y ys rest.0 rest.2, rest.3)
  ]
]

none_mapped : {X Y : Type 0} (f : X → Y) (o : Option X) → option_map f o ≡ None → o ≡ None
none_mapped f None e = refl
none_mapped f (Some x) e = absurd (let c = e in cc)

pub mapped_to : {X Y : Type 0} (f : X → Y) (o : Option X) (y : Y) → option_map f o ≡ Some y → (x : X) × (o ≡ Some x) × (f x ≡ y)
mapped_to f None y e = absurd (let c = e in cc)
mapped_to f (Some x) y e = (x, refl, let c = e in cc)

-- ---- entries that are present

pub below_listed : (h : History) (s p : ℕ) (e : Entry) → Contains (partitions_of h s p) e → Contains (entries_present h s) e × (e.parent.number ≡ p)
below_listed h s p e at = (
  All-contains (Contains (entries_present h s)) (partitions_of h s p) e (all_children (Contains (entries_present h s)) (entries_present h s) p (All-contains_itself (entries_present h s))) at,
  All-contains (λ (x : Entry). x.parent.number ≡ p) (partitions_of h s p) e (under_children (entries_present h s) p) at,
)

-- by which a table is the default partition of another
pub default_entry : (h : History) (s p : ℕ) (d : TableNo) → default_of h s p ≡ Some d → (e : Entry) × Contains (entries_present h s) e × (e.child ≡ d)
default_entry h s p d is =
    let o = mapped_to (λ (e : Entry). e.child) (find has_default_bound (partitions_of h s p)) d is in
    let at = found_in has_default_bound (partitions_of h s p) o.0 o.1 in
    (o.0, (below_listed h s p o.0 at.0).0, o.2)

pub no_default_found : (h : History) (s p : ℕ) → default_of h s p ≡ None → find has_default_bound (partitions_of h s p) ≡ None
no_default_found h s p none = none_mapped (λ (e : Entry). e.child) (find has_default_bound (partitions_of h s p)) none

-- the tables of an entry are made
pub entry_suits : (h : History) (s : ℕ) (e : Entry) → AreCatalogueSound h → Contains (entries_present h s) e → Suits (tables_made (catalogue_events h)) e
entry_suits h s e sound at =
    All-contains (Suits (tables_made (catalogue_events h))) (entries_present h s) e (All-filter (is_present h s) (Suits (tables_made (catalogue_events h))) (entries_added (catalogue_events h)) (all_suit h sound)) at

-- ---- what is looked up is made

pub default_made : (table : KeptTable) (kept : KeptCatalogue) (s p : ℕ) (d : TableNo) → AreTogether table kept s → ((h : History) → TableStands table h → CatalogueStands kept h → Some d ≡ default_of h s p) → d.number < length kept.tables
default_made table kept s p d both told =
    let h = both.h in
    let e = default_entry h s p d (sym (told h both.txs both.catalogue)) in
    let made = (entry_suits h s e.0 both.catalogue.sound e.1).child in
    let count = table_count kept h both.catalogue in
    let same : e.0.child.number ≡ d.number = ap (λ (t : TableNo). t.number) e.2 in
    omega (arith, made, count, same)

-- ---- tables by their numbers

abbrev pub number : TableNo → ℕ
number t = t.number

pub mapped_in : (xs : List TableNo) (t : TableNo) → Contains xs t → Contains (map (λ (y : TableNo). y.number) xs) t.number
mapped_in [] t at = absurd (none_in t at)
mapped_in (x ∷ xs) t at = elim (cases_in x xs t at) [
  | inl here ↦ subst (λ (z : TableNo). Contains (map number (x ∷ xs)) z.number) here (first_in x.number (map number xs))
  | inr later ↦ later_in x.number (map number xs) t.number (mapped_in xs t later)
]

pub unmapped_in : (xs : List TableNo) (n : ℕ) → Contains (map (λ (y : TableNo). y.number) xs) n → (t : TableNo) × Contains xs t × (t.number ≡ n)
unmapped_in [] n at = absurd (none_in n at)
unmapped_in (x ∷ xs) n at = elim (cases_in x.number (map number xs) n at) [
  | inl here ↦ (x, first_in x xs, here)
  | inr later ↦ let rest = unmapped_in xs n later in (rest.0, later_in x xs rest.0 rest.1, rest.2)
]

mutual
  same_tables : (t : TableTree) → ddl.tables_in t ≡ lawful.tables_in t
  same_tables (LeafTable node leaf) = refl
  same_tables (LevelTable node level bounds kids) = ap (λ (ts : List TableNo). node.table ∷ ts) (same_all kids)

  same_all : (ks : Trees) → ddl.all_tables ks ≡ lawful.all_tables ks
  same_all End = refl
  same_all (More k ks) = ap (λ (ts : List TableNo). ts ++ ddl.all_tables ks) (same_tables k) ∙ ap (λ (ts : List TableNo). lawful.tables_in k ++ ts) (same_all ks)

pub from_numbers : (h : History) (s top : ℕ) → map (λ (y : TableNo). y.number) (tables_from h s top) ≡ numbers_from h s top
from_numbers h s top = ap (map number) (same_tables (ddl_tree h s top))

-- a table and those under it
whole_grown : (shape : TableShape) (node : Node) (bounds : List Bound) (kids : List TableTree) → node.table ∷ ddl.below_top (grown shape node bounds kids) ≡ ddl.tables_in (grown shape node bounds kids)
whole_grown (Leaf leaf) node bounds kids = refl
whole_grown (Level level) node bounds kids = refl

pub with_top : (h : History) (s t : ℕ) → table_of t ∷ ddl.tables_under h s t ≡ tables_from h s t
unfolding ddl_tree
with_top h s t =
    let tables = tables_made (catalogue_events h) in
    let es = children (entries_present h s) t in
    whole_grown (table_at tables t).shape (node_at tables t t) (map bound_of es) (map (λ e. tree_within 6 tables (entries_present h s) t (child_of_entry e)) es)

-- ---- what the session has at a history

pub record Here (h : History) (s t : ℕ) : Type 0 where
  pub legal : IsLegal h
  pub permitted : ArePermitted h
  pub own : open_of (tx_events h) s ≡ Some t

pub here_of : (stores : Stores) (caller : Caller) (h : History) → MayAttempt stores caller → Stands stores h → (t : ℕ) × Here h caller.session t
here_of stores caller h may stands =
    let own = own_tx stores caller h may stands in
    (own.0, record { legal = legal_of h stands.good; permitted = permitted_of h stands.good; own = own.1 })

pub record TreeLaws : Type 0 where
  pub all : LegalKeepsAll
  pub listed : ListedIsThere
  pub known : ThereIsKnown
  pub whole : TreeIsWhole

pub known_there : TreeLaws → (stores : Stores) (h : History) (s t x : ℕ) → Stands stores h → Here h s t → HasTable h t x → IsKnownTo stores s x
known_there laws stores h s t x stands here there =
    let known = laws.known h s t x here.own there in
    let made = known.0 in
    let count = table_count stores.catalog h stands.all.catalog in
    known_by stores h s x stands (omega (arith, made, count)) known

pub child_known : TreeLaws → (stores : Stores) (h : History) (s t : ℕ) (e : Entry) → Stands stores h → Here h s t → Contains (entries_present h s) e → IsKnownTo stores s e.child.number
child_known laws stores h s t e stands here at = known_there laws stores h s t e.child.number stands here (laws.listed h s t e here.legal here.permitted here.own at).2

known_below : TreeLaws → (stores : Stores) (h : History) (s t n top x : ℕ) → Stands stores h → Here h s t → IsKnownTo stores s top → Below h t n top x → IsKnownTo stores s x
known_below laws stores h s t zero top x stands here known low = subst (IsKnownTo stores s) low known
known_below laws stores h s t (suc n) top x stands here known (e, present, child, rest) =
    let siblings = (laws.all h here.legal here.permitted).siblings (view (tx_events h) t) (view_world (tx_events h) t) in
    known_there laws stores h s t x stands here (subst (HasTable h t) child (siblings.there e present).1)

pub tree_known : TreeLaws → (stores : Stores) (h : History) (s t top : ℕ) → Stands stores h → Here h s t → IsKnownTo stores s top → All (λ x. IsKnownTo stores s x.number) (tables_from h s top)
tree_known laws stores h s t top stands here known k d lt =
    let ts = tables_from h s top in
    let x = slice_index_or ts k d in
    let at : Contains (numbers_from h s top) x.number = subst (λ (ns : List ℕ). Contains ns x.number) (from_numbers h s top) (mapped_in ts x (Contains-get_or ts k d lt)) in
    let low = (laws.whole h s t top here.legal here.permitted here.own).only x.number at in
    known_below laws stores h s t low.0 top x.number stands here known low.1

-- ---- the tables that are locked

pub family_known : TreeLaws → (stores : Stores) (h : History) (s t p : ℕ) (o : Option TableNo) → Stands stores h → Here h s t → default_of h s p ≡ o → All (λ x. IsKnownTo stores s x.number) (family_of h s o)
family_known laws stores h s t p None stands here is = All-nil (λ x. IsKnownTo stores s x.number)
family_known laws stores h s t p (Some d) stands here is =
    let e = default_entry h s p d is in
    let known : IsKnownTo stores s d.number = subst (λ (z : TableNo). IsKnownTo stores s z.number) e.2 (child_known laws stores h s t e.0 stands here e.1) in
    tree_known laws stores h s t d.number stands here known

pub all_low : (stores : Stores) (s : ℕ) (tables : List TableNo) → length stores.catalog.tables ≤ 4096 → All (λ t. IsKnownTo stores s t.number) tables → All (λ t. t.number < 4096) tables
all_low stores s tables few all k d lt = let made = (all k d lt).made in omega (arith, made, few)

-- ---- equal numbers

pub is_same : (k n : ℕ) → k ≡ n → (k == n) ≡ true
is_same k n e = grind (arith, nat_tests, e)

pub same_number : (k n : ℕ) → (k == n) ≡ true → k ≡ n
same_number k n e = grind (arith, nat_tests, e)
