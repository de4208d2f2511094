-- Two histories for which the stores stand tell the same of a name.
use Rattle.std.proofs.Common.{◌≡◌, ℕ, zero, suc, ◌&&◌, ◌||◌, not, if◌then◌else◌, Bool, List, refl, sym, ap, ◌∙◌, Option, Some, None, length}
use Rattle.std.specs.Str.{bytes_eq}
use Rattle.history.specs.declared.transaction.Fate.{Fate}
use Rattle.history.specs.declared.catalogue.Stamp.{Stamp}
use Rattle.history.specs.declared.catalogue.Table.{Table}
use Rattle.history.specs.Transactions.{fate, open_of, is_committed}
use Rattle.history.specs.Catalogue.{tables_made, drops, counted_of}
use Rattle.history.specs.History.{History, tx_events, catalogue_events}
use Rattle.history.specs.Places.{table_at}
use Rattle.history.specs.Presence.{is_own, counts, stamp_counts, is_there}
use Rattle.tx_table.specs.Kept.{KeptTable}
use Rattle.tx_table.specs.Stands.{TableStands}
use Rattle.part_catalog.specs.Found.{made_at, table_number, is_meant, resolved}
use Rattle.part_catalog.specs.Kept.{KeptCatalogue}
use Rattle.part_catalog.specs.Names.{last_below}
use Rattle.part_catalog.specs.Stands.{CatalogueStands}
use Rattle.part_ddl.proofs.Standing.{same_dropped}

agree_below : (p q : ℕ → Bool) → ((k : ℕ) → p k ≡ q k) → (n : ℕ) → last_below p n ≡ last_below q n
agree_below p q same zero = refl
agree_below p q same (suc n) =
    ap (λ (b : Bool). if b then Some n else last_below p n) (same n) ∙ ap (λ (o : Option ℕ). if q n then Some n else o) (agree_below p q same n)

module _ (table : KeptTable) (kept : KeptCatalogue) (g h : History) (a : TableStands table g) (b : TableStands table h) (c : CatalogueStands kept g) (d : CatalogueStands kept h) where
  same_counts : (s t : ℕ) → counts (tx_events g) s t ≡ counts (tx_events h) s t
  same_counts s t =
      ap (λ (f : Fate). is_committed f || is_own (open_of (tx_events g) s) t) (sym (a.fates t) ∙ b.fates t)
      ∙ ap (λ (o : Option ℕ). is_committed (fate (tx_events h) t) || is_own o t) (sym (a.current s) ∙ b.current s)

  same_stamp : (s : ℕ) (o : Option Stamp) → stamp_counts (tx_events g) s o ≡ stamp_counts (tx_events h) s o
  same_stamp s None = refl
  same_stamp s (Some x) = same_counts s x.by.number

  same_there : (s : ℕ) (x : Table) → is_there g s x ≡ is_there h s x
  same_there s x =
      ap (λ (b : Bool). b && not (stamp_counts (tx_events g) s (counted_of (tx_events g) (drops (catalogue_events g)) x.id.number))) (same_counts s x.by.number)
      ∙ ap (λ (o : Option Stamp). counts (tx_events h) s x.by.number && not (stamp_counts (tx_events g) s o)) (same_dropped table kept g h a b c d x.id.number)
      ∙ ap (λ (b : Bool). counts (tx_events h) s x.by.number && not b) (same_stamp s (counted_of (tx_events h) (drops (catalogue_events h)) x.id.number))

  same_tables : tables_made (catalogue_events g) ≡ tables_made (catalogue_events h)
  same_tables = sym c.tables ∙ d.tables

  same_meant : (s : ℕ) (name : List ℕ) (k : ℕ) → is_meant g s name k ≡ is_meant h s name k
  same_meant s name k =
      ap (λ (x : Table). bytes_eq name x.name && is_there g s x) (ap (λ (ts : List Table). table_at ts k) same_tables)
      ∙ ap (λ (b : Bool). bytes_eq name (made_at h k).name && b) (same_there s (made_at h k))

  pub same_resolved : (s : ℕ) (name : List ℕ) → resolved g s name ≡ resolved h s name
  same_resolved s name =
      agree_below (is_meant g s name) (is_meant h s name) (same_meant s name) (table_number g)
      ∙ ap (λ (ts : List Table). last_below (is_meant h s name) (length ts)) same_tables
