-- Who may end what a scan lends.
use Rattle.std.proofs.Common.{◌≡◌, ℕ, ◌<◌, ◌==◌, ◌&&◌, ◌||◌, not, nat_lt, zero, suc, arith, sym, refl, List, [], ◌∷◌, map, filter, true, false, Bool, inl, inr, length, slice_index_or, subst, All}
use Rattle.std.proofs.lemmas.Bool.{cases_Bool}
use Rattle.std.specs.List.{list_any}
use Rattle.history.specs.declared.transaction.Fate.TheVariants.{Running}
use Rattle.history.specs.Transactions.{is_committed}
use Rattle.pg_values.specs.declared.value.Value.{Value}
use Rattle.pg_values.specs.declared.ids.RowId.{RowId}
use Rattle.tx_table.specs.Kept.{KeptTable, KeptSnapshot}
use Rattle.tx_table.specs.Stands.{sees_now_by}
use Rattle.row_store.specs.declared.stored.Stored.{Stored}
use Rattle.row_store.specs.Kept.{KeptRows, blank, stored_at, AreListed, AreBelow}
use Rattle.row_store.specs.Stands.{sees_end_by, shows_by, shown_stored}

-- what is shown was made by the snapshot's transaction or is committed
parts : (c n l o k d : Bool) → (((c && (n && l)) || (o && k)) && d) ≡ true → (c || o) ≡ true
parts true n l o k d e = refl
parts false n l true k d e = refl
parts false n l false k d e = absurd (cc)

shown-seen : (table : KeptTable) (snap : KeptSnapshot) (x : Stored) → shows_by table snap x ≡ true → sees_now_by table snap.tx x.version.by.number ≡ true
shown-seen table snap x e = parts (is_committed (slice_index_or table.fates x.version.by.number Running)) (nat_lt x.version.by.number snap.next) (not (list_any (λ t. t == x.version.by.number) snap.running)) (x.version.by.number == snap.tx) (nat_lt x.version.cmd snap.cmd) (not (sees_end_by table snap x.ended)) e

all_cons : (P : RowId × List Value → Type 0) (r : RowId × List Value) (rs : List (RowId × List Value)) → P r → All P rs → All P (r ∷ rs)
all_cons P r rs here rest zero d lt = here
all_cons P r rs here rest (suc k) d lt = rest k d (omega (arith, lt))

rows_seen : (table : KeptTable) (snap : KeptSnapshot) (V : List Stored) (ids : List RowId) → ((k : ℕ) → k < length V → (slice_index_or V k blank).version.id.number ≡ k) → AreBelow ids V → All (λ r. sees_now_by table snap.tx (stored_at V r.0).version.by.number ≡ true) (map shown_stored (filter (shows_by table snap) (map (stored_at V) ids)))
rows_seen table snap V [] numbered below = λ k d lt. absurd (omega arith)
rows_seen table snap V (i ∷ ids) numbered below =
    let P : RowId × List Value → Type 0 = λ r. sees_now_by table snap.tx (stored_at V r.0).version.by.number ≡ true in
    let here : i.number < length V = below 0 (omega arith) in
    let own : (stored_at V i).version.id.number ≡ i.number = numbered i.number here in
    let rest : All P (map shown_stored (filter (shows_by table snap) (map (stored_at V) ids))) = rows_seen table snap V ids numbered (λ k lt. below (suc k) (omega (arith, lt))) in
    elim (cases_Bool (shows_by table snap (stored_at V i))) [
      | inl t ↦
          let first : sees_now_by table snap.tx (stored_at V i).version.by.number ≡ true = shown-seen table snap (stored_at V i) t in
          let again : P (shown_stored (stored_at V i)) = rw own first in
          rw t (all_cons P (shown_stored (stored_at V i)) _ again rest)
      | inr f ↦ rw f rest
    ]

-- the snapshot's transaction sees the birth of each row that a scan lends
pub lent_seen : (table : KeptTable) (snap : KeptSnapshot) (V W : List Stored) (ls : List (List RowId)) (room : ℕ) (value : KeptRows) (ids : List RowId) → AreListed V ls → (record { stored = V; leaves = length ls; listed = ls; room = room }) ≡ value → W ≡ V → AreBelow ids W → All (λ r. sees_now_by table snap.tx (stored_at value.stored r.0).version.by.number ≡ true) (map shown_stored (filter (shows_by table snap) (map (stored_at W) ids)))
lent_seen table snap V W ls room value ids all view same below =
    let P : KeptRows → Type 0 = λ k. All (λ r. sees_now_by table snap.tx (stored_at k.stored r.0).version.by.number ≡ true) (map shown_stored (filter (shows_by table snap) (map (stored_at W) ids))) in
    let B : List Stored → Type 0 = λ x. AreBelow ids x in
    let Q : List Stored → Type 0 = λ x. All (λ r. sees_now_by table snap.tx (stored_at V r.0).version.by.number ≡ true) (map shown_stored (filter (shows_by table snap) (map (stored_at x) ids))) in
    subst P view (subst Q (sym same) (rows_seen table snap V ids all.numbered (subst B same below)))
