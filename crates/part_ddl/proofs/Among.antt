-- What stands against a further bound, told from the entries below a table, is what the history tells.
use Rattle.std.proofs.Common.{◌≡◌, ℕ, ◌<◌, ◌++◌, arith, ap, sym, subst, ◌∙◌, List, Option, get_or, length, map}
use Rattle.std.specs.List.{All}
use Rattle.std.proofs.lemmas.List.{get_or-map, length-map}
use Rattle.bound_forms.specs.declared.partition_bound.Bound.{Bound}
use Rattle.bound_forms.specs.Levels.{IsOfLevel}
use Rattle.history.specs.declared.catalogue.Entry.{Entry}
use Rattle.history.specs.declared.catalogue.TableShape.{TableShape}
use Rattle.history.specs.declared.catalogue.TableShape.TheVariants.{Leaf, Level}
use Rattle.history.specs.Catalogue.{tables_made, entries_added}
use Rattle.history.specs.History.{History, catalogue_events}
use Rattle.history.specs.Places.{table_at, TakesBound, Suits}
use Rattle.history.specs.Presence.{is_present, entries_present}
use Rattle.tx_table.specs.Kept.{KeptTable}
use Rattle.tx_table.specs.Stands.{TableStands}
use Rattle.row_router.specs.Histories.{bound_of}
use Rattle.row_router.proofs.Order.{all_children, all_kept, under_children}
use Rattle.row_router.proofs.Suited.{all_suit}
use Rattle.part_catalog.specs.Answers.{AreTogether}
use Rattle.part_catalog.specs.Found.{made_at}
use Rattle.part_catalog.specs.Full.{added}
use Rattle.part_catalog.specs.Kept.{KeptCatalogue, no_entry}
use Rattle.part_catalog.specs.Stands.{CatalogueStands}
use Rattle.part_ddl.specs.Placing.{names_below, bounds_below, pending_name, partitions_of, levels_with, bound_faults, room_faults, place_faults, AreOfOneLevel}
use Rattle.part_ddl.proofs.Making.{table_count}

-- the words of the call are those of the history
pub record SameWords (h : History) (s p : ℕ) (parent : List ℕ) (pending : Option (List ℕ)) (names : List (List ℕ)) (bs : List Bound) : Type 0 where
  pub parent_is : parent ≡ (made_at h p).name
  pub pending_is : pending ≡ pending_name h s p
  pub names_are : names ≡ names_below h s p
  pub bounds_are : bs ≡ bounds_below h s p

same_faults : (h : History) (s p : ℕ) (parent : List ℕ) (pending : Option (List ℕ)) (names : List (List ℕ)) (bs : List Bound) (b : Bound) → SameWords h s p parent pending names bs → bound_faults parent pending names bs b ≡ bound_faults (made_at h p).name (pending_name h s p) (names_below h s p) (bounds_below h s p) b
same_faults h s p parent pending names bs b w =
    ap (λ x. bound_faults x pending names bs b) w.parent_is
    ∙ ap (λ x. bound_faults (made_at h p).name x names bs b) w.pending_is
    ∙ ap (λ x. bound_faults (made_at h p).name (pending_name h s p) x bs b) w.names_are
    ∙ ap (λ x. bound_faults (made_at h p).name (pending_name h s p) (names_below h s p) x b) w.bounds_are

pub place_same : (h : History) (s p height count levels : ℕ) (parent : List ℕ) (pending : Option (List ℕ)) (names : List (List ℕ)) (bs : List Bound) (b : Bound) → SameWords h s p parent pending names bs → count ≡ length (partitions_of h s p) → levels ≡ levels_with h s p height
    → bound_faults parent pending names bs b ++ room_faults count (added h) levels ≡ place_faults h s p b height
place_same h s p height count levels parent pending names bs b w many deep =
    let own = bound_faults (made_at h p).name (pending_name h s p) (names_below h s p) (bounds_below h s p) b in
    ap (λ fs. fs ++ room_faults count (added h) levels) (same_faults h s p parent pending names bs b w)
    ∙ ap (λ n. own ++ room_faults n (added h) levels) many
    ∙ ap (λ n. own ++ room_faults (length (partitions_of h s p)) (added h) n) deep

-- ---- the entries that are lent

-- their tables are made
pub children_known : (table : KeptTable) (kept : KeptCatalogue) (s p : ℕ) (es : List Entry) → AreTogether table kept s → ((h : History) → TableStands table h → CatalogueStands kept h → es ≡ partitions_of h s p) → All (λ e. e.child.number < length kept.tables) es
children_known table kept s p es both told i d lt =
    let h = both.h in
    let tables = tables_made (catalogue_events h) in
    let suits : All (Suits tables) es = subst (All (Suits tables)) (sym (told h both.txs both.catalogue)) (all_children (Suits tables) (entries_present h s) p (all_kept (Suits tables) (is_present h s) (entries_added (catalogue_events h)) (all_suit h both.catalogue.sound))) in
    omega (arith, (suits i d lt).child, table_count kept h both.catalogue)

level_by_shape : (shape : TableShape) (b : Bound) (es : List Entry) → TakesBound shape b → All (λ e. TakesBound shape e.bound) es → AreOfOneLevel b (map bound_of es)
level_by_shape (Leaf leaf) b es takes all = absurd takes
level_by_shape (Level level) b es takes all = record {
  level = level;
  mine = takes;
  theirs = λ i d lt.
      let within : i < length es = omega (arith, lt, length-map es bound_of) in
      let at : get_or (map bound_of es) i d ≡ (get_or es i no_entry.entry).bound = get_or-map bound_of es i no_entry.entry d within in
      subst (IsOfLevel level) (sym at) (all i no_entry.entry within);
}

-- and their bounds of the level of the table above
pub of_one_level : (table : KeptTable) (kept : KeptCatalogue) (s p : ℕ) (b : Bound) (es : List Entry) → AreTogether table kept s → ((h : History) → TableStands table h → CatalogueStands kept h → es ≡ partitions_of h s p) → ((h : History) → CatalogueStands kept h → TakesBound (made_at h p).shape b) → AreOfOneLevel b (map bound_of es)
of_one_level table kept s p b es both told takes =
    let h = both.h in
    let tables = tables_made (catalogue_events h) in
    let present = entries_present h s in
    let suits : All (Suits tables) (partitions_of h s p) = all_children (Suits tables) present p (all_kept (Suits tables) (is_present h s) (entries_added (catalogue_events h)) (all_suit h both.catalogue.sound)) in
    let under : All (λ (e : Entry). e.parent.number ≡ p) (partitions_of h s p) = under_children present p in
    let mine : All (λ (e : Entry). TakesBound (made_at h p).shape e.bound) (partitions_of h s p) = λ i d lt. subst (λ n. TakesBound (table_at tables n).shape (get_or (partitions_of h s p) i d).bound) (under i d lt) (suits i d lt).bound in
    level_by_shape (made_at h p).shape b es (takes h both.catalogue) (subst (All (λ (e : Entry). TakesBound (made_at h p).shape e.bound)) (sym (told h both.txs both.catalogue)) mine)
