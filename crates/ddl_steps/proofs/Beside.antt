-- The default partition beside a new one: who has locked it, and which rows it has.
use Rattle.std.proofs.Common.{◌≡◌, ℕ, zero, suc, ◌<◌, Bool, true, false, List, [], ◌∷◌, ◌++◌, inl, inr, refl, sym, ap, ◌∙◌, subst, arith, Option, Some, None, Result, Ok, Err, All, IfOk, option_map, map, length, slice_index_or}
use Rattle.std.specs.List.{Contains}
use Rattle.std.proofs.lemmas.Bool.{cases_lt}
use Rattle.std.proofs.lemmas.Grind.{common_steps, elements}
use Rattle.std.proofs.lemmas.List.Elements.{All-head, All-tail, All-contains}
use Rattle.pg_values.specs.declared.ids.TableNo.{TableNo}
use Rattle.pg_values.specs.declared.value.Value.{Value}
use Rattle.pg_values.specs.declared.lock_mode.LockMode.TheVariants.{AccessExclusive}
use Rattle.refusals.specs.Refusals.{default_has_row}
use Rattle.bound_forms.specs.declared.partition_bound.Bound.{Bound}
use Rattle.bound_forms.specs.declared.partition_bound.Bound.TheVariants.{Range, List as Listed, Hash, Default}
use Rattle.bound_forms.specs.Accepts.{accepts, is_default}
use Rattle.bound_forms.specs.Bounds.{overlaps}
use Rattle.history.specs.declared.version.Version.{Version}
use Rattle.history.specs.declared.catalogue.Entry.{Entry}
use Rattle.history.specs.declared.catalogue.Table.{Table}
use Rattle.history.specs.Catalogue.{tables_made}
use Rattle.history.specs.Locks.{holds}
use Rattle.history.specs.History.{History, catalogue_events, lock_events}
use Rattle.history.specs.Places.{table_at}
use Rattle.history.specs.Presence.{entries_present}
use Rattle.row_router.specs.declared.node.Node.{Node}
use Rattle.row_router.specs.Siblings.{AreSiblings, CanStandTogether}
use Rattle.row_router.specs.Trees.{TableTree, leaves}
use Rattle.row_router.specs.Histories.{table_of, bound_of, child_of_entry, children, node_at, grown, tree_within, ddl_tree}
use Rattle.row_router.proofs.Order.{all_children}
use Rattle.tx_table.specs.Stands.{TableStands}
use Rattle.soundness.specs.Worlds.{key_at}
use Rattle.soundness.proofs.Listed.{child_listed}
use Rattle.part_catalog.specs.Found.{made_at}
use Rattle.part_catalog.specs.Stands.{CatalogueStands}
use Rattle.part_ddl.specs.Below.{default_of, has_default_bound, tables_from}
use Rattle.part_ddl.specs.Placing.{partitions_of}
use Rattle.legal_statements.specs.Below.{numbers_from}
use Rattle.legal_statements.specs.Entries.{IsDefaultOf, IsScanned}
use Rattle.legal_statements.specs.Laws.{NoneBreaks}
use Rattle.ddl_steps.specs.Places.{breaks_default, default_scan}
use Rattle.ddl_steps.specs.Scans.{IsClean}
use Rattle.ddl_steps.proofs.Cleaning.{clean_first}
use Rattle.ddl_steps.specs.Families.{family_of, numbers_under}
use Rattle.ddl_steps.specs.Locks.{IsLocked, AreLocked, HasDefaultLocked, default_locked}
use Rattle.row_store.specs.Judged.{refusing}
use Rattle.stores.specs.Events.{tx_in}
use Rattle.stores.specs.Stand.{Stands}
use Rattle.stores.specs.declared.stores.Stores.{Stores}
use Rattle.statement_steps.specs.Attempts.{MayAttempt, LocksStay}
use Rattle.statement_steps.specs.declared.caller.Caller.{Caller}
use Rattle.statement_steps.specs.declared.stop.Stop.{Stop}
use Rattle.statement_steps.specs.Asks.{all_locked}
use Rattle.statement_steps.specs.Steps.{IsStep}
use Rattle.statement_steps.proofs.Steps.{same_step}
use Rattle.ddl_steps.proofs.Below.{found_some, from_numbers, unmapped_in, below_listed, number}
use Rattle.ddl_steps.proofs.Locks.{tables_locked, held_at_history}

-- ---- the locks

pub default_is_locked : (names : List (List ℕ)) (r : Result (Unit {0}) Stop) (old new : Stores) (caller : Caller) (p : ℕ) (tables : List TableNo) → MayAttempt old caller → new ≡ record old { locks = new.locks }
    → ((h : History) → TableStands old.txs h → CatalogueStands old.catalog h → tables ≡ family_of h caller.session (default_of h caller.session p))
    → IsStep (λ (u : Unit {0}). u) r old new caller caller.cmd (all_locked names caller.session AccessExclusive (map (λ t. t.number) tables)) → IfOk r (λ u. HasDefaultLocked new caller.session p)
default_is_locked names (Ok u) old new caller p tables may rest are step =
    λ h txs catalog. subst (AreLocked new caller.session) (are h (subst (λ (x : Stores). TableStands x.txs h) rest txs) (subst (λ (x : Stores). CatalogueStands x.catalog h) rest catalog)) (tables_locked names old new caller tables may step)
default_is_locked names (Err e) old new caller p tables may rest are step = tt

pub still_default : (old new : Stores) (s t : ℕ) → new ≡ record old { locks = new.locks } → LocksStay old new → HasDefaultLocked old s t → HasDefaultLocked new s t
still_default old new s t rest stay its h txs catalog k d lt =
    let ts = family_of h s (default_of h s t) in
    stay s (slice_index_or ts k d).number AccessExclusive (its h (subst (λ (x : Stores). TableStands x.txs h) rest txs) (subst (λ (x : Stores). CatalogueStands x.catalog h) rest catalog) k d lt)

-- ---- there is one default partition at most

two_defaults : (a b : Bound) → is_default a ≡ true → is_default b ≡ true → overlaps a b ≡ true
two_defaults Default Default x y = refl
two_defaults (Range l u) b x y = absurd (let c = x in cc)
two_defaults (Listed vs) b x y = absurd (let c = x in cc)
two_defaults (Hash m r) b x y = absurd (let c = x in cc)
two_defaults Default (Range l u) x y = absurd (let c = y in cc)
two_defaults Default (Listed vs) x y = absurd (let c = y in cc)
two_defaults Default (Hash m r) x y = absurd (let c = y in cc)

apart : (a b : Entry) → CanStandTogether a b → a.parent.number ≡ b.parent.number → is_default a.bound ≡ true → is_default b.bound ≡ true → ⊥
apart a b can parent x y = let off = (can parent).0 in let on = two_defaults a.bound b.bound x y in absurd (cc)

at_place : (es : List Entry) (a d : Entry) (i : ℕ) → i < length es → slice_index_or es i a ≡ a → slice_index_or es i d ≡ a
at_place es a d i lt is = grind (arith, common_steps, elements, is)

pub same_default : (es : List Entry) (a b : Entry) → AreSiblings es → Contains es a → Contains es b → a.parent.number ≡ b.parent.number → is_default a.bound ≡ true → is_default b.bound ≡ true → a ≡ b
same_default es a b siblings (i, li, ai) (j, lj, bj) parent x y = elim (cases_lt i j) [
  | inl less ↦ absurd (apart a b (subst (λ (z : Entry). CanStandTogether a z) (at_place es b a j lj bj) (subst (λ (z : Entry). CanStandTogether z (slice_index_or es j a)) ai (siblings i j a less lj))) parent x y)
  | inr rest ↦ elim (cases_lt j i) [
    | inl more ↦ absurd (apart b a (subst (λ (z : Entry). CanStandTogether b z) (at_place es a b i li ai) (subst (λ (z : Entry). CanStandTogether z (slice_index_or es i b)) bj (siblings j i b more li))) (sym parent) y x)
    | inr none ↦ let same : i ≡ j = omega (arith, rest, none) in sym ai ∙ (ap (λ (k : ℕ). slice_index_or es k a) same ∙ at_place es b a j lj bj)
  ]
]

-- an entry that is the default partition is the one that is found
pub default_is : (h : History) (s p : ℕ) (d : Entry) → AreSiblings (entries_present h s) → IsDefaultOf h s p d → default_of h s p ≡ Some d.child
default_is h s p d siblings is =
    let found = found_some has_default_bound (partitions_of h s p) d (child_listed (entries_present h s) p d is.present is.of) is.default in
    let there = below_listed h s p found.0 found.2 in
    let same : found.0 ≡ d = same_default (entries_present h s) found.0 d siblings there.0 is.present (there.1 ∙ sym is.of) found.3 is.default in
    ap (λ (o : Option Entry). option_map (λ (e : Entry). e.child) o) found.1 ∙ ap (λ (e : Entry). Some e.child) same

-- ---- the tree of a table with one table more

old_at : (tables : List Table) (new : Table) (k : ℕ) → k < length tables → table_at (tables ++ new ∷ []) k ≡ table_at tables k
old_at tables new k lt = grind (arith, common_steps, elements)

abbrev node_of : (t : ℕ) → Table → Node
node_of t x = record { table = table_of t; name = x.name; columns = x.columns }

mapped_same : (f g : Entry → TableTree) (es : List Entry) → All (λ e. f e ≡ g e) es → map f es ≡ map g es
mapped_same f g [] all = refl
mapped_same f g (e ∷ es) all =
    ap (λ (t : TableTree). t ∷ map f es) (All-head (λ (x : Entry). f x ≡ g x) e es all) ∙ ap (λ (ts : List TableTree). g e ∷ ts) (mapped_same f g es (All-tail (λ (x : Entry). f x ≡ g x) e es all))

pub tree_more : (tables : List Table) (new : Table) (es : List Entry) → All (λ (e : Entry). e.child.number < length tables) es → (n named t : ℕ) → t < length tables → tree_within n (tables ++ new ∷ []) es named t ≡ tree_within n tables es named t
tree_more tables new es below zero named t lt = ap (λ (x : Table). grown x.shape (node_of t x) [] []) (old_at tables new t lt)
tree_more tables new es below (suc n) named t lt =
    let kids = children es t in
    let f : Entry → TableTree = λ e. tree_within n (tables ++ new ∷ []) es named (child_of_entry e) in
    let g : Entry → TableTree = λ e. tree_within n tables es named (child_of_entry e) in
    let low : All (λ (e : Entry). e.child.number < length tables) kids = all_children (λ (e : Entry). e.child.number < length tables) es t below in
    ap (λ (x : Table). grown x.shape (node_of t x) (map bound_of kids) (map f kids)) (old_at tables new t lt)
    ∙ ap (λ (ts : List TableTree). grown (table_at tables t).shape (node_at tables named t) (map bound_of kids) ts)
    (mapped_same f g kids (λ k d in_kids. tree_more tables new es below n named (slice_index_or kids k d).child.number (low k d in_kids)))

-- ---- a history whose tables and entries the other one has too

pub tree_same : (g h : History) (s t : ℕ) → tables_made (catalogue_events g) ≡ tables_made (catalogue_events h) → entries_present g s ≡ entries_present h s → ddl_tree g s t ≡ ddl_tree h s t
unfolding ddl_tree
tree_same g h s t tables entries =
    ap (λ (x : List Table). tree_within 7 x (entries_present g s) t t) tables ∙ ap (λ (x : List Entry). tree_within 7 (tables_made (catalogue_events h)) x t t) entries

pub tree_with : (g h : History) (new : Table) (s t : ℕ) → tables_made (catalogue_events g) ≡ tables_made (catalogue_events h) ++ new ∷ [] → entries_present g s ≡ entries_present h s
    → All (λ (e : Entry). e.child.number < length (tables_made (catalogue_events h))) (entries_present h s) → t < length (tables_made (catalogue_events h)) → ddl_tree g s t ≡ ddl_tree h s t
unfolding ddl_tree
tree_with g h new s t tables entries below lt =
    ap (λ (x : List Table). tree_within 7 x (entries_present g s) t t) tables ∙ (ap (λ (x : List Entry). tree_within 7 (tables_made (catalogue_events h) ++ new ∷ []) x t t) entries
    ∙ tree_more (tables_made (catalogue_events h)) new (entries_present h s) below 7 t t lt)

-- ---- what is asked of the default partition of a new place

-- all below it is locked, and the new bound accepts none of its rows
pub record IsApart (h : History) (s t p : ℕ) (b : Bound) (d : Entry) : Type 0 where
  pub owned : (x : ℕ) → Contains (numbers_from h s d.child.number) x → holds (lock_events h) s x AccessExclusive ≡ true
  pub scanned : (v : Version) → IsScanned h s t d.child.number v → accepts (key_at (catalogue_events h) p v.row) b ≡ false

family_at : (h : History) (s x : ℕ) (d : TableNo) (stores : Stores) → Stands stores h → (o : Option TableNo) → o ≡ Some d → AreLocked stores s (family_of h s o) → Contains (numbers_from h s d.number) x → holds (lock_events h) s x AccessExclusive ≡ true
family_at h s x d stores stands None is locked at = absurd (let c = is in cc)
family_at h s x d stores stands (Some y) is locked at =
    let same : y ≡ d = (let c = is in cc) in
    let found = unmapped_in (tables_from h s y.number) x (subst (λ (ns : List ℕ). Contains ns x) (sym (from_numbers h s y.number)) (subst (λ (z : TableNo). Contains (numbers_from h s z.number) x) (sym same) at)) in
    let held = All-contains (λ (t : TableNo). IsLocked stores s t.number) (tables_from h s y.number) found.0 locked found.1 in
    subst (λ (n : ℕ). holds (lock_events h) s n AccessExclusive ≡ true) found.2 (held_at_history stores h s found.0.number stands held)

none_of : NoneBreaks → (h : History) (s t p : ℕ) (b : Bound) (name : List ℕ) (d : TableNo) (v : Version) → tx_in h s ≡ t → (o : Option TableNo) → o ≡ Some d → IsClean h s (default_scan h s p b name o) → IsScanned h s t d.number v
    → accepts (key_at (catalogue_events h) p v.row) b ≡ false
none_of law h s t p b name d v own None is clean scanned = absurd (let c = is in cc)
none_of law h s t p b name d v own (Some y) is clean scanned =
    let same : y ≡ d = (let c = is in cc) in
    let first = clean_first h s (record { leaves = leaves (ddl_tree h s y.number); breaks = breaks_default h p b; fault = λ (r : List Value). default_has_row (made_at h y.number).name r name }) [] clean in
    law h s t y.number (breaks_default h p b) (subst (λ (n : ℕ). refusing h s n (leaves (ddl_tree h s y.number)) (breaks_default h p b) ≡ None) own first.0) first.1 v (subst (λ (z : TableNo). IsScanned h s t z.number v) (sym same) scanned)

pub stands_apart : NoneBreaks → (stores : Stores) (h : History) (s t p : ℕ) (b : Bound) (name : List ℕ) (d : Entry) → Stands stores h → AreSiblings (entries_present h s) → tx_in h s ≡ t → AreLocked stores s (family_of h s (default_of h s p)) → IsClean h s (default_scan h s p b name (default_of h s p))
    → IsDefaultOf h s p d → IsApart h s t p b d
stands_apart law stores h s t p b name d stands siblings own locked clean is =
    let found = default_is h s p d siblings is in
    record {
      owned = λ x at. family_at h s x d.child stores stands (default_of h s p) found locked at;
      scanned = λ v scanned. none_of law h s t p b name d.child v own (default_of h s p) found clean scanned;
    }

numbers_family : (h : History) (s : ℕ) (o : Option TableNo) → numbers_under h s o ≡ map number (family_of h s o)
numbers_family h s None = refl
numbers_family h s (Some t) = refl

pub default_step : (names : List (List ℕ)) (r : Result (Unit {0}) Stop) (old new : Stores) (caller : Caller) (p : ℕ) (tables : List TableNo) → ((h : History) → TableStands old.txs h → CatalogueStands old.catalog h → tables ≡ family_of h caller.session (default_of h caller.session p))
    → IsStep (λ (u : Unit {0}). u) r old new caller caller.cmd (all_locked names caller.session AccessExclusive (map (λ t. t.number) tables)) → IsStep (λ (u : Unit {0}). u) r old new caller caller.cmd (default_locked names caller.session p)
default_step names r old new caller p tables are step =
    let s = caller.session in
    same_step (λ (u : Unit {0}). u) r old new caller caller.cmd (default_locked names s p) (all_locked names s AccessExclusive (map number tables))
    (λ h stands. ap (λ (ns : List ℕ). all_locked names s AccessExclusive ns h) (numbers_family h s (default_of h s p) ∙ ap (map number) (sym (are h stands.all.txs stands.all.catalog)))) step
