-- A name that means nothing to a session is that of no table which is there for its transaction.
use Rattle.std.proofs.Common.{◌≡◌, ◌≢◌, ℕ, zero, suc, ◌+◌, ◌<◌, ◌==◌, ◌&&◌, not, Bool, true, false, List, [], ◌∷◌, ◌++◌, inl, inr, refl, ap, sym, subst, ◌∙◌, Option, Some, None, option_map, length, arith, cond}
use Rattle.std.specs.Str.{bytes_eq}
use Rattle.std.proofs.lemmas.Slice.Eq.{bytes_eq-Decides}
use Rattle.std.proofs.lemmas.Grind.{common_steps, elements}
use Rattle.std.proofs.lemmas.Bool.{cases_Bool, cases_lt}
use Rattle.std.proofs.lemmas.Bool.Decides.{nat_tests}
use Rattle.std.proofs.lemmas.List.{length-append}
use Rattle.history.specs.declared.transaction.Fate.TheVariants.{Running}
use Rattle.history.specs.declared.catalogue.Table.{Table}
use Rattle.history.specs.declared.catalogue.Stamp.{Stamp}
use Rattle.history.specs.Transactions.{TxEvents, open_of, fate, session_of, was_aborted}
use Rattle.history.specs.Catalogue.{CatalogueEvents, TableMade, TableDropped, EntryAdded, EntryEnded, EntryMarked, CheckKept, tables_made, drops, counted_of, IsDropped}
use Rattle.history.specs.History.{History, CatalogueChange, tx_events, catalogue_events}
use Rattle.history.specs.Places.{table_at, AreCatalogueSound}
use Rattle.history.specs.Presence.{counts, stamp_counts, is_there, is_own}
use Rattle.history.specs.Legal.{IsLegal}
use Rattle.soundness.specs.Worlds.{table_in, IsMade}
use Rattle.soundness.specs.Legal.{HasTable}
use Rattle.soundness.proofs.Sound.{catalogue_sound_of}
use Rattle.soundness.proofs.Paths.{agree}
use Rattle.part_catalog.specs.Names.{last_below}
use Rattle.part_catalog.specs.Stands.{is_running}
use Rattle.part_catalog.specs.Found.{made_at, table_number, is_meant, resolved, is_made_elsewhere, taken_by}
use Rattle.legal_statements.proofs.Holding.{session_runs}

-- ---- the number of a table is its place

pub tables_numbered : (h : History) → AreCatalogueSound h → (k : ℕ) → k < length (tables_made (catalogue_events h)) → (table_at (tables_made (catalogue_events h)) k).id.number ≡ k
tables_numbered [] sound k lt = absurd (omega arith)
tables_numbered (CatalogueChange (TableMade t) ∷ h) sound k lt =
    let n : length (tables_made (catalogue_events h) ++ t ∷ []) ≡ length (tables_made (catalogue_events h)) + 1 = omega (arith, length-append (tables_made (catalogue_events h)) (t ∷ [])) in
    elim (cases_lt k (length (tables_made (catalogue_events h)))) [
      | inl old ↦ grind (arith, common_steps, elements, tables_numbered h sound.1 k old)
      | inr new ↦
          let at : k ≡ length (tables_made (catalogue_events h)) = omega (arith, n, lt) in
          let here : table_at (tables_made (catalogue_events h) ++ t ∷ []) k ≡ t = grind (arith, common_steps, elements, at) in
          ap (λ (x : Table). x.id.number) here ∙ sound.0.0 ∙ sym at
    ]
tables_numbered (CatalogueChange e ∷ h) sound k lt = tables_numbered h sound.1 k lt
tables_numbered (_ ∷ h) sound k lt = tables_numbered h sound k lt

-- ---- a drop that counts is a drop

drop_of_counted : (txs : TxEvents) (cats : CatalogueEvents) (n : ℕ) (x : Stamp) (k : ℕ) (s : Stamp) (here a : Bool) → (n == k) ≡ here → cond (here && not a) (Some x) (counted_of txs (drops cats) k) ≡ Some s → (counted_of txs (drops cats) k ≡ Some s → IsDropped cats k s.by.number)
    → IsDropped (TableDropped n x ∷ cats) k s.by.number
drop_of_counted txs cats n x k s true false here is rest =
    let e : n ≡ k = grind (arith, nat_tests, here) in
    let same : x ≡ s = cc in
    inl (e, ap (λ (z : Stamp). z.by.number) same)
drop_of_counted txs cats n x k s true true here is rest = inr (rest is)
drop_of_counted txs cats n x k s false a here is rest = inr (rest is)

pub counted_drop : (txs : TxEvents) (cats : CatalogueEvents) (k : ℕ) (s : Stamp) → counted_of txs (drops cats) k ≡ Some s → IsDropped cats k s.by.number
counted_drop txs [] k s is = absurd (cc)
counted_drop txs (TableDropped n x ∷ cats) k s is = drop_of_counted txs cats n x k s (n == k) (was_aborted txs x.by.number) refl is (counted_drop txs cats k s)
counted_drop txs (EntryAdded e ∷ cats) k s is = counted_drop txs cats k s is
counted_drop txs (TableMade t ∷ cats) k s is = counted_drop txs cats k s is
counted_drop txs (EntryEnded n x ∷ cats) k s is = counted_drop txs cats k s is
counted_drop txs (EntryMarked n x ∷ cats) k s is = counted_drop txs cats k s is
counted_drop txs (CheckKept c ∷ cats) k s is = counted_drop txs cats k s is

not_dropped : (txs : TxEvents) (session : ℕ) (o : Option Stamp) → ((s : Stamp) → o ≡ Some s → counts txs session s.by.number ≡ false) → stamp_counts txs session o ≡ false
not_dropped txs session None none = refl
not_dropped txs session (Some s) none = none s refl

-- a table that is there for the transaction is there for its session
there_for : (h : History) (session t x : ℕ) → IsLegal h → open_of (tx_events h) session ≡ Some t → HasTable h t x → is_there h session (made_at h x) ≡ true
there_for h session t x legal own there =
    let runs = (session_runs h session t legal own).runs in
    let number = tables_numbered h (catalogue_sound_of h legal) x there.0 in
    let born : counts (tx_events h) session (made_at h x).by.number ≡ true = agree (tx_events h) session t (made_at h x).by.number own runs ∙ there.1 in
    let out : stamp_counts (tx_events h) session (counted_of (tx_events h) (drops (catalogue_events h)) x) ≡ false = not_dropped (tx_events h) session (counted_of (tx_events h) (drops (catalogue_events h)) x)
    (λ s is. agree (tx_events h) session t s.by.number own runs ∙ there.2 s.by.number (counted_drop (tx_events h) (catalogue_events h) x s is)) in
    rw (born, number, out) refl

-- ---- names

none_below : (p : ℕ → Bool) (n k : ℕ) → last_below p n ≡ None → k < n → p k ≡ false
none_below p zero k none lt = absurd (omega (arith, lt))
none_below p (suc n) k none lt = elim (cases_Bool (p n)) [
  | inl t ↦ let none' : Some n ≡ None = rw t at none in absurd (cc)
  | inr f ↦
      let none' = rw f at none in
      elim (cases_lt k n) [
        | inl low ↦ none_below p n k none' low
        | inr ge ↦ let same : n ≡ k = omega (arith, lt, ge) in subst (λ z. p z ≡ false) same f
      ]
]

no_map : (f : ℕ → ℕ) (o : Option ℕ) → option_map f o ≡ None → o ≡ None
no_map f None none = refl
no_map f (Some x) none = absurd (cc)

pub free_name : (h : History) (session t : ℕ) (name : List ℕ) → IsLegal h → open_of (tx_events h) session ≡ Some t → resolved h session name ≡ None → (x : ℕ) → HasTable h t x → (table_in (catalogue_events h) x).name ≢ name
free_name h session t name legal own free x there same =
    let out = none_below (is_meant h session name) (table_number h) x free there.0 in
    let alike : bytes_eq name (made_at h x).name ≡ true = (bytes_eq-Decides name (made_at h x).name).1 (sym same) in
    let here = there_for h session t x legal own there in
    let meant : is_meant h session name x ≡ true = rw (alike, here) refl in
    let both : true ≡ false = sym meant ∙ out in
    cc

own_of : (t u : ℕ) → not (is_own (Some t) u) ≡ false → u ≡ t
own_of t u e = let same : t ≡ u = grind (arith, common_steps, nat_tests, e) in sym same

pub unclaimed_name : (h : History) (session t : ℕ) (name : List ℕ) → open_of (tx_events h) session ≡ Some t → taken_by h session name ≡ None → (x : ℕ) → IsMade (catalogue_events h) x → (table_in (catalogue_events h) x).name ≡ name
    → fate (tx_events h) (table_in (catalogue_events h) x).by.number ≡ Running → (table_in (catalogue_events h) x).by.number ≡ t
unclaimed_name h session t name own free x made same runs =
    let none = no_map (λ k. session_of (tx_events h) (made_at h k).by.number) (last_below (is_made_elsewhere h session name) (table_number h)) free in
    let out = none_below (is_made_elsewhere h session name) (table_number h) x none made in
    let alike : bytes_eq name (made_at h x).name ≡ true = (bytes_eq-Decides name (made_at h x).name).1 (sym same) in
    let open_now : is_running (fate (tx_events h) (made_at h x).by.number) ≡ true = ap is_running runs in
    let mine : not (is_own (open_of (tx_events h) session) (made_at h x).by.number) ≡ false = rw (alike, open_now) at out in
    own_of t (made_at h x).by.number (rw own at mine)
