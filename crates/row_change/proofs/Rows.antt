-- Rows stored one after the other.
use Rattle.std.proofs.Common.{◌≡◌, ℕ, List, [], ◌∷◌, ◌++◌, Result, Ok, Err, length, find, refl, sym, ap, subst, ◌∙◌, arith, append_assoc, append-nil}
use Rattle.pg_values.specs.declared.value.Value.{Value}
use Rattle.pg_values.specs.declared.fault.Fault.{Fault}
use Rattle.pg_values.specs.declared.fault.Refusal.{Refusal}
use Rattle.pg_values.specs.declared.fault.Refusal.TheVariants.{Sql, NoMemory}
use Rattle.pg_values.specs.declared.ids.LeafId.{LeafId}
use Rattle.history.specs.declared.transaction.TxId.{TxId}
use Rattle.history.specs.Rows.{RowEvent, RowBorn}
use Rattle.history.specs.Catalogue.{tables_made}
use Rattle.history.specs.History.{History, RowChange, catalogue_events}
use Rattle.tx_table.specs.Kept.{KeptTable}
use Rattle.tx_table.specs.Stands.{TableStands}
use Rattle.row_store.specs.Kept.{KeptRows}
use Rattle.row_store.specs.Stands.{StoreStands, newborn}
use Rattle.part_catalog.specs.Kept.{KeptCatalogue}
use Rattle.part_catalog.specs.Stands.{CatalogueStands}
use Rattle.row_change.specs.declared.target.Target.{Target}
use Rattle.row_change.specs.Storing.{Made, made_by, made_after, behind, is_into, leaf_faults, full_faults, stored, all_stored, IsMade}

-- an event of rows changes nothing of tables
catalogue_stays : (kept : KeptCatalogue) (h : History) (e : RowEvent) → CatalogueStands kept h → CatalogueStands kept (RowChange e ∷ h)
catalogue_stays kept h e st = record { sound = st.sound; tables = st.tables; drops = st.drops; added = st.added; entries = st.entries; ends = st.ends; marks = st.marks; checks = st.checks }

-- so far these events were added, and the rest is to come
pub record Reached (t : KeptTable) (c : KeptCatalogue) (s : KeptRows) (h : History) (made : Made) (rest : History → Made) : Type 0 where
  pub events : History
  pub txs : TableStands t (events ++ h)
  pub catalogue : CatalogueStands c (events ++ h)
  pub store : StoreStands s (events ++ h)
  pub whole : made ≡ behind events (rest (events ++ h))

begun : (txs : KeptTable) (catalogue : KeptCatalogue) (kept : KeptRows) (h : History) (rest : History → Made) → TableStands txs h → CatalogueStands catalogue h → StoreStands kept h → Reached txs catalogue kept h (rest h) rest
begun txs catalogue kept h rest t c s = record { events = []; txs = t; catalogue = c; store = s; whole = ap (λ es. record { events = es; told = (rest h).told }) (sym (append-nil (rest h).events)) }

no_fault : (fs : List Fault) (es : History) → (made_by fs es).told ≡ Ok tt → fs ≡ []
no_fault [] es h = refl
no_fault (f ∷ fs) es h = cc

no_event : (fs : List Fault) (es : History) (f : Fault) → (made_by fs es).told ≡ Err f → (made_by fs es).events ≡ []
no_event [] es f h = cc
no_event (g ∷ fs) es f h = refl

-- what a row with these faults makes, and what comes then
abbrev then_rest : List Fault → RowEvent → History → (History → Made) → Made
then_rest fs e g next = let first = made_by fs (RowChange e ∷ []) in made_after first.told first.events (next (first.events ++ g))

pub one_more : (txs : KeptTable) (catalogue : KeptCatalogue) (kept new : KeptRows) (h : History) (whole : Made) (rest next : History → Made) (fs : History → List Fault) (event : History → RowEvent)
    → ((g : History) → rest g ≡ then_rest (fs g) (event g) g next)
    → ((g : History) → TableStands txs g → CatalogueStands catalogue g → StoreStands kept g → IsMade (Ok tt) new g (made_by (fs g) (RowChange (event g) ∷ [])))
    → Reached txs catalogue kept h whole rest → Reached txs catalogue new h whole next
one_more txs catalogue kept new h whole rest next fs event is made r =
    let g = r.events ++ h in
    let e = event g in
    let m = made g r.txs r.catalogue r.store in
    let none : fs g ≡ [] = no_fault (fs g) (RowChange e ∷ []) m.0 in
    let rest_is : rest g ≡ behind (RowChange e ∷ []) (next (RowChange e ∷ g)) = is g ∙ ap (λ l. then_rest l e g next) none in
    record {
      events = RowChange e ∷ r.events;
      txs = r.txs;
      catalogue = catalogue_stays catalogue g e r.catalogue;
      store = subst (λ l. StoreStands new ((made_by l (RowChange e ∷ [])).events ++ g)) none m.1;
      whole = r.whole ∙ (ap (behind r.events) rest_is ∙ ap (λ es. record { events = es; told = (next (RowChange e ∷ g)).told }) (append_assoc (next (RowChange e ∷ g)).events (RowChange e ∷ []) r.events));
    }

pub stopped_here : (txs : KeptTable) (catalogue : KeptCatalogue) (kept new : KeptRows) (h : History) (whole : Made) (rest next : History → Made) (fs : History → List Fault) (event : History → RowEvent) (f : Fault)
    → ((g : History) → rest g ≡ then_rest (fs g) (event g) g next)
    → ((g : History) → TableStands txs g → CatalogueStands catalogue g → StoreStands kept g → IsMade (Err (Sql f)) new g (made_by (fs g) (RowChange (event g) ∷ [])))
    → Reached txs catalogue kept h whole rest → IsMade (Err (Sql f)) new h whole
stopped_here txs catalogue kept new h whole rest next fs event f is made r =
    let g = r.events ++ h in
    let e = event g in
    let m = made g r.txs r.catalogue r.store in
    let none = no_event (fs g) (RowChange e ∷ []) f m.0 in
    let es = (made_by (fs g) (RowChange e ∷ [])).events in
    let rest_is : rest g ≡ record { events = []; told = Err f } =
    is g ∙ (ap (λ t. made_after t es (next (es ++ g))) m.0 ∙ ap (λ (l : History). record { events = l; told = Err f }) none) in
    let whole_is : whole ≡ record { events = r.events; told = Err f } = r.whole ∙ ap (behind r.events) rest_is in
    subst (IsMade (Err (Sql f)) new h) (sym whole_is) (refl, subst (λ (l : History). StoreStands new (l ++ g)) none m.1)

pub done_here : (txs : KeptTable) (catalogue : KeptCatalogue) (kept : KeptRows) (h : History) (whole : Made) (rest : History → Made) → ((g : History) → rest g ≡ record { events = []; told = Ok tt }) → Reached txs catalogue kept h whole rest → IsMade (Ok tt) kept h whole
done_here txs catalogue kept h whole rest is r =
    subst (IsMade (Ok tt) kept h) (sym (r.whole ∙ ap (behind r.events) (is (r.events ++ h)))) (refl, r.store)

-- ---- the rows that are left

-- what storing one row makes
abbrev pub Stores : KeptTable → KeptCatalogue → KeptRows → KeptRows → Result (Unit {0}) Refusal → List Target → TxId → ℕ → LeafId → List Value → Type 0
Stores txs catalogue kept new answer targets by cmd leaf row =
    (g : History) → TableStands txs g → CatalogueStands catalogue g → StoreStands kept g → IsMade answer new g (stored g (leaf_faults (tables_made (catalogue_events g)) (find (is_into leaf) targets) row) leaf row by cmd)

abbrev pub Left : KeptTable → KeptCatalogue → KeptRows → History → Made → List Target → TxId → ℕ → List LeafId → List (List Value) → Type 0
Left txs catalogue kept h whole targets by cmd leaves rows = Reached txs catalogue kept h whole (λ g. all_stored targets by cmd g leaves rows)

-- all of them, before the first
pub rows_begun : (txs : KeptTable) (catalogue : KeptCatalogue) (kept : KeptRows) (h : History) (targets : List Target) (by : TxId) (cmd : ℕ) (leaves : List LeafId) (rows left : List (List Value)) → left ≡ rows → TableStands txs h → CatalogueStands catalogue h → StoreStands kept h
    → Left txs catalogue kept h (all_stored targets by cmd h leaves rows) targets by cmd leaves left
rows_begun txs catalogue kept h targets by cmd leaves rows left same t c s =
    subst (λ (rs : List (List Value)). Left txs catalogue kept h (all_stored targets by cmd h leaves rs) targets by cmd leaves left) same (begun txs catalogue kept h (λ g. all_stored targets by cmd g leaves left) t c s)

faults_of : List Target → LeafId → List Value → History → List Fault
faults_of targets leaf row g = leaf_faults (tables_made (catalogue_events g)) (find (is_into leaf) targets) row ++ full_faults g row

-- the first of them is stored
pub row_stored : (txs : KeptTable) (catalogue : KeptCatalogue) (kept new : KeptRows) (h : History) (whole : Made) (targets : List Target) (by : TxId) (cmd : ℕ) (leaves others : List LeafId) (leaf : LeafId) (rows rest : List (List Value)) (row : List Value)
    → leaves ≡ leaf ∷ others → rows ≡ row ∷ rest → Stores txs catalogue kept new (Ok tt) targets by cmd leaf row → Left txs catalogue kept h whole targets by cmd leaves rows → Left txs catalogue new h whole targets by cmd others rest
unfolding faults_of
row_stored txs catalogue kept new h whole targets by cmd leaves others leaf rows rest row front first made left =
    one_more txs catalogue kept new h whole (λ g. all_stored targets by cmd g leaves rows) (λ g. all_stored targets by cmd g others rest) (faults_of targets leaf row) (λ g. RowBorn (newborn g leaf row by cmd))
    (λ g. ap (λ ls. all_stored targets by cmd g ls rows) front ∙ ap (all_stored targets by cmd g (leaf ∷ others)) first) made left

-- or refused
pub row_refused : (txs : KeptTable) (catalogue : KeptCatalogue) (kept new : KeptRows) (h : History) (whole : Made) (targets : List Target) (by : TxId) (cmd : ℕ) (leaves others : List LeafId) (leaf : LeafId) (rows rest : List (List Value)) (row : List Value) (refusal : Refusal)
    → leaves ≡ leaf ∷ others → rows ≡ row ∷ rest → Stores txs catalogue kept new (Err refusal) targets by cmd leaf row → Left txs catalogue kept h whole targets by cmd leaves rows → IsMade (Err refusal) new h whole
unfolding faults_of
row_refused txs catalogue kept new h whole targets by cmd leaves others leaf rows rest row (Sql f) front first made left =
    stopped_here txs catalogue kept new h whole (λ g. all_stored targets by cmd g leaves rows) (λ g. all_stored targets by cmd g others rest) (faults_of targets leaf row) (λ g. RowBorn (newborn g leaf row by cmd)) f
    (λ g. ap (λ ls. all_stored targets by cmd g ls rows) front ∙ ap (all_stored targets by cmd g (leaf ∷ others)) first) made left
row_refused txs catalogue kept new h whole targets by cmd leaves others leaf rows rest row NoMemory front first made left = tt

no_row : (targets : List Target) (by : TxId) (cmd : ℕ) (g : History) (leaves : List LeafId) (rows : List (List Value)) → length rows ≡ 0 → all_stored targets by cmd g leaves rows ≡ record { events = []; told = Ok tt }
no_row targets by cmd g [] rows none = refl
no_row targets by cmd g (l ∷ ls) [] none = refl
no_row targets by cmd g (l ∷ ls) (r ∷ rs) none = absurd (omega (arith, none))

-- no row is left, or no leaf
pub rows_done : (txs : KeptTable) (catalogue : KeptCatalogue) (kept : KeptRows) (h : History) (whole : Made) (targets : List Target) (by : TxId) (cmd : ℕ) (leaves : List LeafId) (rows : List (List Value)) → length rows ≡ 0 → Left txs catalogue kept h whole targets by cmd leaves rows → IsMade (Ok tt) kept h whole
rows_done txs catalogue kept h whole targets by cmd leaves rows none left =
    done_here txs catalogue kept h whole (λ g. all_stored targets by cmd g leaves rows) (λ g. no_row targets by cmd g leaves rows none) left

no_leaf : (targets : List Target) (by : TxId) (cmd : ℕ) (g : History) (leaves : List LeafId) (rows : List (List Value)) → length leaves ≡ 0 → all_stored targets by cmd g leaves rows ≡ record { events = []; told = Ok tt }
no_leaf targets by cmd g [] rows none = refl
no_leaf targets by cmd g (l ∷ ls) rows none = absurd (omega (arith, none))

pub leaves_done : (txs : KeptTable) (catalogue : KeptCatalogue) (kept : KeptRows) (h : History) (whole : Made) (targets : List Target) (by : TxId) (cmd : ℕ) (leaves : List LeafId) (rows : List (List Value)) → length leaves ≡ 0 → Left txs catalogue kept h whole targets by cmd leaves rows → IsMade (Ok tt) kept h whole
leaves_done txs catalogue kept h whole targets by cmd leaves rows none left =
    done_here txs catalogue kept h whole (λ g. all_stored targets by cmd g leaves rows) (λ g. no_leaf targets by cmd g leaves rows none) left
