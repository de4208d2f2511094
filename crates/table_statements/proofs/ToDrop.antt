-- What is locked before a table is dropped, and that the session may ask for it.
use Rattle.ddl_steps.proofs.Below.{found_in, default_entry, entry_suits, Here, TreeLaws, known_there, child_known, tree_known}
use Rattle.table_statements.specs.Asked.{to_lock}
use Rattle.table_statements.specs.Drops.{default_beside}
use Rattle.std.proofs.Common.{◌≡◌, ℕ, ◌<◌, [], ◌++◌, refl, sym, ap, subst, arith, Option, Some, None, All, IfSome, length}
use Rattle.std.specs.List.{Contains}
use Rattle.std.specs.Option.{option_to_list}
use Rattle.std.proofs.lemmas.List.Elements.{All-nil, All-cons, All-append}
use Rattle.pg_values.specs.declared.ids.TableNo.{TableNo}
use Rattle.history.specs.declared.catalogue.Entry.{Entry}
use Rattle.history.specs.History.{History}
use Rattle.history.specs.Presence.{entries_present}
use Rattle.row_router.specs.Histories.{above, is_over}
use Rattle.tx_table.specs.Kept.{KeptTable}
use Rattle.tx_table.specs.Stands.{TableStands}
use Rattle.part_catalog.specs.Answers.{AreTogether, parent_told}
use Rattle.part_catalog.specs.Kept.{KeptCatalogue}
use Rattle.part_catalog.specs.Stands.{CatalogueStands}
use Rattle.part_ddl.specs.Below.{tables_from}
use Rattle.part_ddl.proofs.Making.{table_count}
use Rattle.stores.specs.Stand.{Stands}
use Rattle.stores.specs.declared.stores.Stores.{Stores}
use Rattle.statement_steps.specs.Known.{IsKnownTo}
use Rattle.ddl_steps.specs.Families.{parent_in}

-- by which a table is a partition
told_parent : (o : Option Entry) (p : TableNo) → parent_told o ≡ Some p → (e : Entry) × (o ≡ Some e) × (e.parent ≡ p)
told_parent None p e = absurd (let c = e in cc)
told_parent (Some x) p e = (x, refl, let c = e in cc)

pub parent_entry : (h : History) (s t : ℕ) (p : TableNo) → parent_in h s t ≡ Some p → (e : Entry) × Contains (entries_present h s) e × (e.parent ≡ p)
parent_entry h s t p is =
    let o = told_parent (above (entries_present h s) t) p is in
    let at = found_in (is_over t) (entries_present h s) o.0 o.1 in
    (o.0, at.0, o.2)

pub parent_made : (table : KeptTable) (kept : KeptCatalogue) (s t : ℕ) (o : Option TableNo) → AreTogether table kept s → ((h : History) → TableStands table h → CatalogueStands kept h → o ≡ parent_told (above (entries_present h s) t)) → IfSome o (λ p. p.number < length kept.tables)
parent_made table kept s t None both told = tt
parent_made table kept s t (Some p) both told =
    let h = both.h in
    let e = parent_entry h s t p (sym (told h both.txs both.catalogue)) in
    let made = (entry_suits h s e.0 both.catalogue.sound e.1).parent in
    let count = table_count kept h both.catalogue in
    let same : e.0.parent.number ≡ p.number = ap (λ (x : TableNo). x.number) e.2 in
    omega (arith, made, count, same)

parent_known : TreeLaws → (stores : Stores) (h : History) (s t : ℕ) (e : Entry) → Stands stores h → Here h s t → Contains (entries_present h s) e → IsKnownTo stores s e.parent.number
parent_known laws stores h s t e stands here at = known_there laws stores h s t e.parent.number stands here (laws.listed h s t e here.legal here.permitted here.own at).1

one_known : (stores : Stores) (s : ℕ) (o : Option TableNo) → ((x : TableNo) → o ≡ Some x → IsKnownTo stores s x.number) → All (λ x. IsKnownTo stores s x.number) (option_to_list o)
one_known stores s None each = All-nil (λ x. IsKnownTo stores s x.number)
one_known stores s (Some x) each = All-cons (λ y. IsKnownTo stores s y.number) x [] (each x refl) (All-nil (λ y. IsKnownTo stores s y.number))

default_known : TreeLaws → (stores : Stores) (h : History) (s t : ℕ) (o : Option TableNo) (x : TableNo) → Stands stores h → Here h s t → default_beside h s o ≡ Some x → IsKnownTo stores s x.number
default_known laws stores h s t None x stands here is = absurd (let c = is in cc)
default_known laws stores h s t (Some p) x stands here is =
    let e = default_entry h s p.number x is in
    subst (λ (z : TableNo). IsKnownTo stores s z.number) e.2 (child_known laws stores h s t e.0 stands here e.1)

pub to_lock_known : TreeLaws → (stores : Stores) (h : History) (s t table : ℕ) → Stands stores h → Here h s t → IsKnownTo stores s table → All (λ x. IsKnownTo stores s x.number) (to_lock h s table)
to_lock_known laws stores h s t table stands here known =
    let up = one_known stores s (parent_in h s table) (λ p is.
    let e = parent_entry h s table p is in
    subst (λ (z : TableNo). IsKnownTo stores s z.number) e.2 (parent_known laws stores h s t e.0 stands here e.1)) in
    let beside = one_known stores s (default_beside h s (parent_in h s table)) (λ d is. default_known laws stores h s t (parent_in h s table) d stands here is) in
    All-append (λ x. IsKnownTo stores s x.number) (option_to_list (parent_in h s table)) (tables_from h s table ++ option_to_list (default_beside h s (parent_in h s table))) up
    (All-append (λ x. IsKnownTo stores s x.number) (tables_from h s table) (option_to_list (default_beside h s (parent_in h s table))) (tree_known laws stores h s t table stands here known) beside)
