-- All entries of a history suit their tables, and the keys of all tables lie in their columns.
use Rattle.std.proofs.Common.{◌≡◌, ℕ, suc, ◌+◌, ◌<◌, ◌≤◌, ◌++◌, arith, ap, refl, sym, subst, ◌∙◌, List, [], ◌∷◌, length, get_or, inl, inr}
use Rattle.std.specs.List.{All}
use Rattle.std.proofs.lemmas.Grind.{common_steps, elements}
use Rattle.std.proofs.lemmas.Bool.{cases_lt}
use Rattle.std.proofs.lemmas.List.{length-append}
use Rattle.std.proofs.lemmas.List.Elements.{All-cons, All-head, All-tail, All-nil}
use Rattle.history.specs.declared.catalogue.Table.{Table}
use Rattle.history.specs.declared.catalogue.Entry.{Entry}
use Rattle.history.specs.Catalogue.{TableMade, EntryAdded, tables_made, entries_added}
use Rattle.history.specs.History.{History, CatalogueChange, catalogue_events}
use Rattle.history.specs.Places.{table_at, TakesBound, HasColumnsOf, KeysLieIn, Suits, AreCatalogueSound}

same_table : (tables : List Table) (t : Table) (k : ℕ) → k < length tables → table_at tables k ≡ table_at (tables ++ t ∷ []) k
same_table tables t k lt = grind (arith, common_steps, elements)

suits_more : (tables : List Table) (t : Table) (e : Entry) → Suits tables e → Suits (tables ++ t ∷ []) e
suits_more tables t e s =
    let n : length (tables ++ t ∷ []) ≡ length tables + 1 = omega (arith, length-append tables (t ∷ [])) in
    let p = same_table tables t e.parent.number s.parent in
    let c = same_table tables t e.child.number s.child in
    record {
      parent = omega (arith, n, s.parent);
      child = omega (arith, n, s.child);
      bound = subst (λ (x : Table). TakesBound x.shape e.bound) p s.bound;
      columns = subst (λ (x : Table). HasColumnsOf x.columns (table_at (tables ++ t ∷ []) e.child.number).columns) p (subst (λ (x : Table). HasColumnsOf (table_at tables e.parent.number).columns x.columns) c s.columns);
    }

all_more : (tables : List Table) (t : Table) (es : List Entry) → All (Suits tables) es → All (Suits (tables ++ t ∷ [])) es
all_more tables t es h k d lt = suits_more tables t (get_or es k d) (h k d lt)

all_with : (P : Entry → Type 0) (es : List Entry) (e : Entry) → All P es → P e → All P (es ++ e ∷ [])
all_with P [] e h p = All-cons P e [] p h
all_with P (x ∷ es) e h p = All-cons P x (es ++ e ∷ []) (All-head P x es h) (all_with P es e (All-tail P x es h) p)

pub all_suit : (h : History) → AreCatalogueSound h → All (Suits (tables_made (catalogue_events h))) (entries_added (catalogue_events h))
all_suit [] sound = All-nil (Suits [])
all_suit (CatalogueChange (TableMade t) ∷ h) sound = all_more (tables_made (catalogue_events h)) t (entries_added (catalogue_events h)) (all_suit h sound.1)
all_suit (CatalogueChange (EntryAdded e) ∷ h) sound = all_with (Suits (tables_made (catalogue_events h))) (entries_added (catalogue_events h)) e (all_suit h sound.1) sound.0.1
all_suit (CatalogueChange e ∷ h) sound = all_suit h sound.1
all_suit (_ ∷ h) sound = all_suit h sound

abbrev pub KeysLie : List Table → ℕ → Type 0
KeysLie tables k = KeysLieIn (table_at tables k).columns (table_at tables k).shape

past_all : (tables : List Table) (t : Table) (k : ℕ) → length tables + 1 ≤ k → table_at tables k ≡ table_at (tables ++ t ∷ []) k
past_all tables t k le = grind (arith, common_steps, elements)

keys_more : (tables : List Table) (t : Table) → ((k : ℕ) → KeysLie tables k) → KeysLieIn t.columns t.shape → (k : ℕ) → KeysLie (tables ++ t ∷ []) k
keys_more tables t old new k = elim (cases_lt k (length tables)) [
  | inl lt ↦ subst (λ (x : Table). KeysLieIn x.columns x.shape) (same_table tables t k lt) (old k)
  | inr le ↦ elim (cases_lt (length tables) k) [
    | inl past ↦ subst (λ (x : Table). KeysLieIn x.columns x.shape) (past_all tables t k (omega (arith, past))) (old k)
    | inr here ↦
        let at : k ≡ length tables = omega (arith, le, here) in
        let is : t ≡ table_at (tables ++ t ∷ []) k = grind (arith, common_steps, elements, at) in
        subst (λ (x : Table). KeysLieIn x.columns x.shape) is new
  ]
]

pub all_keys_lie : (h : History) → AreCatalogueSound h → (k : ℕ) → KeysLie (tables_made (catalogue_events h)) k
all_keys_lie [] sound k = tt
all_keys_lie (CatalogueChange (TableMade t) ∷ h) sound k = keys_more (tables_made (catalogue_events h)) t (all_keys_lie h sound.1) sound.0.1 k
all_keys_lie (CatalogueChange e ∷ h) sound k = all_keys_lie h sound.1 k
all_keys_lie (_ ∷ h) sound k = all_keys_lie h sound k
