-- One table goes with those under it.
use Rattle.std.proofs.Common.{◌≡◌, ℕ, zero, suc, ◌<◌, Bool, true, false, if◌then◌else◌, List, [], ◌∷◌, ◌++◌, inl, inr, refl, sym, ap, ◌∙◌, subst, arith, Option, Some, None, length, slice_index_or}
use Rattle.std.specs.List.{Contains}
use Rattle.std.proofs.lemmas.List.Elements.{All-contains, Contains-get_or}
use Rattle.pg_values.specs.declared.ids.TableNo.{TableNo}
use Rattle.pg_values.specs.declared.lock_mode.LockMode.TheVariants.{AccessExclusive}
use Rattle.history.specs.declared.transaction.TxId.{TxId}
use Rattle.history.specs.declared.catalogue.Entry.{Entry}
use Rattle.history.specs.declared.catalogue.Stamp.{Stamp}
use Rattle.history.specs.declared.catalogue.Table.{Table}
use Rattle.history.specs.Transactions.{TxEvents, open_of, session_of}
use Rattle.history.specs.Catalogue.{TableMade, TableDropped, EntryAdded, EntryEnded, EntryMarked, CheckKept, tables_made}
use Rattle.history.specs.Locks.{LockEvents, holds}
use Rattle.history.specs.History.{Event, History, TxChange, SnapshotChange, RowChange, LockChange, CatalogueChange, tx_events, catalogue_events, lock_events}
use Rattle.history.specs.Legal.{IsInOrder, IsLegal}
use Rattle.history.specs.Presence.{counts, entries_present}
use Rattle.history.proofs.Open.{open_own}
use Rattle.row_router.specs.Histories.{is_over}
use Rattle.tx_table.specs.Stands.{TableStands}
use Rattle.row_store.specs.Kept.{KeptRows}
use Rattle.row_store.specs.Stands.{StoreStands}
use Rattle.soundness.specs.Legal.{HasTable, Below}
use Rattle.soundness.specs.Worlds.{World, Present, view}
use Rattle.soundness.proofs.Listed.{present_listed}
use Rattle.soundness.proofs.Presence.{all_present}
use Rattle.soundness.proofs.Sound.{catalogue_sound_of, sound_of}
use Rattle.part_catalog.specs.Found.{made_at, resolved}
use Rattle.part_catalog.specs.Kept.{KeptCatalogue}
use Rattle.part_catalog.specs.Stands.{CatalogueStands}
use Rattle.part_ddl.specs.Below.{tables_from}
use Rattle.part_ddl.specs.Dropped.{MayDrop, drop_events}
use Rattle.part_ddl.proofs.Making.{table_count}
use Rattle.table_statements.specs.Laws.{LockedTablesMayGo}
use Rattle.legal_statements.specs.Drops.{IsTableDrop}
use Rattle.legal_statements.specs.Follows.{MayFollow}
use Rattle.legal_statements.specs.Laws.{NamedIsThere, TreeIsWhole, TableDropMayFollow}
use Rattle.legal_statements.proofs.Holding.{owns_of, guards_of}
use Rattle.stores.specs.Good.{IsHoused, IsGood}
use Rattle.stores.specs.Numbers.{IsAt}
use Rattle.stores.specs.Stand.{Stands}
use Rattle.stores.specs.declared.stores.Stores.{Stores}
use Rattle.stores.proofs.Commands.{commands_are_in_order}
use Rattle.stores.proofs.Goodness.{legal_of, permitted_of}
use Rattle.statement_steps.specs.declared.caller.Caller.{Caller}
use Rattle.statement_steps.specs.Owned.{stamp}
use Rattle.statement_steps.proofs.Owned.{own_number}
use Rattle.table_statements.specs.Asked.{MayDropTable, IsGoing, MayGo}
use Rattle.table_statements.specs.Drops.{is_meant_still, is_left, dropped_one}
use Rattle.ddl_steps.proofs.Below.{found_in, mapped_in, from_numbers, same_number}
use Rattle.ddl_steps.proofs.Deeds.{Each, IsDone, AreHoused, HaveTables, IsDeed, quiet, in_order_after, deed_stands}
use Rattle.table_statements.proofs.Ends.{each_gone, drop_same}
use Rattle.ddl_steps.proofs.Locks.{held_at_history}

-- ---- events by which something goes

abbrev pub IsEnding : Event → Type 0
IsEnding (CatalogueChange (TableDropped k s)) = Unit {0}
IsEnding (CatalogueChange (EntryEnded k s)) = Unit {0}
IsEnding _ = ⊥

ending_housed : (e : Event) (h : History) → IsEnding e → IsHoused e h
ending_housed (TxChange e) h is = absurd is
ending_housed (SnapshotChange e) h is = absurd is
ending_housed (RowChange e) h is = absurd is
ending_housed (LockChange e) h is = absurd is
ending_housed (CatalogueChange (TableMade t)) h is = absurd is
ending_housed (CatalogueChange (TableDropped k s)) h is = tt
ending_housed (CatalogueChange (EntryAdded e)) h is = absurd is
ending_housed (CatalogueChange (EntryEnded k s)) h is = tt
ending_housed (CatalogueChange (EntryMarked k s)) h is = absurd is
ending_housed (CatalogueChange (CheckKept c)) h is = absurd is

endings_housed : (es : List Event) (h : History) → Each IsEnding es → AreHoused es h
endings_housed [] h each = tt
endings_housed (e ∷ es) h each = (ending_housed e (es ++ h) each.0, endings_housed es h each.1)

endings_leave : (es : List Event) → Each IsEnding es → HaveTables es
endings_leave [] each = omega arith
endings_leave (TxChange e ∷ es) each = absurd each.0
endings_leave (SnapshotChange e ∷ es) each = absurd each.0
endings_leave (RowChange e ∷ es) each = absurd each.0
endings_leave (LockChange e ∷ es) each = absurd each.0
endings_leave (CatalogueChange (TableMade t) ∷ es) each = absurd each.0
endings_leave (CatalogueChange (TableDropped k s) ∷ es) each = endings_leave es each.1
endings_leave (CatalogueChange (EntryAdded e) ∷ es) each = absurd each.0
endings_leave (CatalogueChange (EntryEnded k s) ∷ es) each = endings_leave es each.1
endings_leave (CatalogueChange (EntryMarked k s) ∷ es) each = absurd each.0
endings_leave (CatalogueChange (CheckKept c) ∷ es) each = absurd each.0

-- the rows stay
rows_stay : (rows : KeptRows) (es : List Event) (h : History) → Each IsEnding es → StoreStands rows h → StoreStands rows (es ++ h)
rows_stay rows [] h each st = st
rows_stay rows (TxChange e ∷ es) h each st = absurd each.0
rows_stay rows (SnapshotChange e ∷ es) h each st = absurd each.0
rows_stay rows (RowChange e ∷ es) h each st = absurd each.0
rows_stay rows (LockChange e ∷ es) h each st = absurd each.0
rows_stay rows (CatalogueChange e ∷ es) h each st =
    let rest = rows_stay rows es h each.1 st in
    record { sound = rest.sound; births = rest.births; ends = rest.ends; leaves = rest.leaves; room = rest.room; lists = rest.lists }

-- so do the tables that were made
tables_stay : (es : List Event) (h : History) → Each IsEnding es → tables_made (catalogue_events (es ++ h)) ≡ tables_made (catalogue_events h)
tables_stay [] h each = refl
tables_stay (TxChange e ∷ es) h each = absurd each.0
tables_stay (SnapshotChange e ∷ es) h each = absurd each.0
tables_stay (RowChange e ∷ es) h each = absurd each.0
tables_stay (LockChange e ∷ es) h each = absurd each.0
tables_stay (CatalogueChange (TableMade t) ∷ es) h each = absurd each.0
tables_stay (CatalogueChange (TableDropped k s) ∷ es) h each = tables_stay es h each.1
tables_stay (CatalogueChange (EntryAdded e) ∷ es) h each = absurd each.0
tables_stay (CatalogueChange (EntryEnded k s) ∷ es) h each = tables_stay es h each.1
tables_stay (CatalogueChange (EntryMarked k s) ∷ es) h each = absurd each.0
tables_stay (CatalogueChange (CheckKept c) ∷ es) h each = absurd each.0

-- what is present behind them was present before
was_present : (w : World) (es : List Event) (h : History) (x : Entry) → Each IsEnding es → Present (catalogue_events (es ++ h)) w x → Present (catalogue_events h) w x
was_present w [] h x each its = its
was_present w (TxChange e ∷ es) h x each its = absurd each.0
was_present w (SnapshotChange e ∷ es) h x each its = absurd each.0
was_present w (RowChange e ∷ es) h x each its = absurd each.0
was_present w (LockChange e ∷ es) h x each its = absurd each.0
was_present w (CatalogueChange (TableMade t) ∷ es) h x each its = absurd each.0
was_present w (CatalogueChange (TableDropped k s) ∷ es) h x each its = was_present w es h x each.1 its
was_present w (CatalogueChange (EntryAdded e) ∷ es) h x each its = absurd each.0
was_present w (CatalogueChange (EntryEnded k s) ∷ es) h x each its = was_present w es h x each.1 (its.0, its.1, λ u end. its.2 u (inr end))
was_present w (CatalogueChange (EntryMarked k s) ∷ es) h x each its = absurd each.0
was_present w (CatalogueChange (CheckKept c) ∷ es) h x each its = absurd each.0

-- ---- the events of the drop of one table

abbrev pub going_events : Caller → (table : ℕ) → History → List Event
going_events caller t h = (dropped_one caller t h).events

each_if : (P : Event → Type 0) (b : Bool) (es : List Event) → Each P es → Each P (if b then es else [])
each_if P true es each = each
each_if P false es each = tt

pub going_ends : (caller : Caller) (t : ℕ) (h : History) → Each IsEnding (going_events caller t h)
going_ends caller t h = each_if IsEnding (is_left h caller.session t) (drop_events h caller.session t (stamp caller h)) (each_gone IsEnding h caller.session t (stamp caller h) (λ k. tt) (λ k. tt))

stamp_number : (caller : Caller) (h : History) (by : TxId) → open_of (tx_events h) caller.session ≡ Some by.number → (stamp caller h).by.number ≡ by.number
stamp_number caller h by mine = own_number h caller.session by.number mine

drop_done : (caller : Caller) (t : ℕ) (h : History) (by : TxId) → open_of (tx_events h) caller.session ≡ Some by.number → Each (IsDone by.number caller.cmd) (drop_events h caller.session t (stamp caller h))
drop_done caller t h by mine =
    let st = stamp caller h in
    let is = stamp_number caller h by mine in
    subst (λ (n : ℕ). Each (IsDone n caller.cmd) (drop_events h caller.session t st)) is (each_gone (IsDone st.by.number caller.cmd) h caller.session t st (λ k. refl) (λ k. refl))

pub going_done : (caller : Caller) (t : ℕ) (h : History) (by : TxId) → open_of (tx_events h) caller.session ≡ Some by.number → Each (IsDone by.number caller.cmd) (going_events caller t h)
going_done caller t h by mine = each_if (IsDone by.number caller.cmd) (is_left h caller.session t) (drop_events h caller.session t (stamp caller h)) (drop_done caller t h by mine)

-- ---- the table is still there

meant_still : (o : Option ℕ) (t : ℕ) → is_meant_still o t ≡ true → o ≡ Some t
meant_still None t is = absurd (cc)
meant_still (Some found) t is = ap Some (same_number found t is)

pub record DropLaws : Type 0 where
  pub named : NamedIsThere
  pub whole : TreeIsWhole
  pub follow : TableDropMayFollow
  pub go : LockedTablesMayGo

there_still : NamedIsThere → (h : History) (caller : Caller) (t : ℕ) (by : TxId) → IsLegal h → open_of (tx_events h) caller.session ≡ Some by.number → is_left h caller.session t ≡ true → HasTable h by.number t
there_still law h caller t by legal mine left =
    let name = (made_at h t).name in
    law h caller.session by.number t name legal mine (meant_still (resolved h caller.session name) t left)

-- ---- what is asked of the call

owned_all : (h : History) (caller : Caller) (t : ℕ) (by : TxId) → IsLegal h → IsGoing h caller by t → (x : TableNo) → Contains (tables_from h caller.session t) x → holds (lock_events h) caller.session x.number AccessExclusive ≡ true
owned_all h caller t by legal going x at = going.owned x.number (subst (λ (ns : List ℕ). Contains ns x.number) (from_numbers h caller.session t) (mapped_in (tables_from h caller.session t) x at))

pub may_drop : DropLaws → (stores : Stores) (caller : Caller) (t : ℕ) (by : TxId) → (may : MayGo stores caller by t) → is_left may.h caller.session t ≡ true → MayDrop stores.txs stores.catalog t by
may_drop laws stores caller t by may left =
    let h = may.h in
    let s = caller.session in
    let legal = legal_of h may.stands.good in
    let going = may.going in
    laws.go stores.txs stores.catalog h s t by may.stands.all.txs may.stands.all.catalog legal (permitted_of h may.stands.good) (record {
      opened = going.own;
      there = there_still laws.named h caller t by legal going.own left;
      owned = λ k d lt.
          let x = slice_index_or (tables_from h s t) k d in
          owns_of h s by.number x.number legal going.own (inl (owned_all h caller t by legal going x (Contains-get_or (tables_from h s t) k d lt)));
      above = λ e at is. guards_of h s by.number e.parent.number legal going.own (inr (inl (going.guarded e at is)));
    })

-- ---- what the call makes of the stores

may_follow : DropLaws → (h : History) (caller : Caller) (t : ℕ) (by : TxId) → IsGood h → IsGoing h caller by t → is_left h caller.session t ≡ true → MayFollow (drop_events h caller.session t (stamp caller h)) h
may_follow laws h caller t by good going left =
    let s = caller.session in
    let st = stamp caller h in
    let legal = legal_of h good in
    let permitted = permitted_of h good in
    let is = stamp_number caller h by going.own in
    let mine : open_of (tx_events h) s ≡ Some st.by.number = going.own ∙ ap Some (sym is) in
    let drop : IsTableDrop h s t st = record {
      own = mine;
      command = subst (λ (n : ℕ). IsInOrder (Some (n, caller.cmd)) h) (sym is) going.command;
      there = subst (λ (n : ℕ). HasTable h n t) (sym is) (there_still laws.named h caller t by legal going.own left);
      owned = λ x at. inl (going.owned x at);
      guarded = λ e above_is.
          let found = found_in (is_over t) (entries_present h s) e above_is in
          inr (inl (going.guarded e found.0 (same_number e.child.number t found.1)));
    } in
    let once = (laws.whole h s by.number t legal permitted going.own).once in
    subst (λ (es : List Event). MayFollow es h) (sym (drop_same h s t st (catalogue_sound_of h legal) once)) (laws.follow h s t st legal permitted drop)

-- what the call says of the catalogue
abbrev pub DropsIn : Stores → KeptCatalogue → Caller → (table : ℕ) → TxId → Type 0
DropsIn old catalog caller t by = (h : History) → TableStands old.txs h → CatalogueStands old.catalog h → CatalogueStands catalog (drop_events h (session_of (tx_events h) by.number) t (record { by = by; cmd = caller.cmd }) ++ h)

-- the stamp by which the call ends and drops
abbrev stamp_by : (cmd tx : ℕ) → Stamp
stamp_by cmd tx = record { by = record { number = tx }; cmd = cmd }

same_stamp : (caller : Caller) (h : History) (by : TxId) → open_of (tx_events h) caller.session ≡ Some by.number → stamp_by caller.cmd by.number ≡ stamp caller h
same_stamp caller h by mine = ap (stamp_by caller.cmd) (sym (stamp_number caller h by mine))

left_events : (b : Bool) (es : List Event) → b ≡ true → (if b then es else []) ≡ es
left_events true es is = refl
left_events false es is = absurd (cc)

pub goes : DropLaws → (old : Stores) (catalog : KeptCatalogue) (caller : Caller) (t : ℕ) (by : TxId) (b : Bool) → ((h : History) → TableStands old.txs h → CatalogueStands old.catalog h → b ≡ is_left h caller.session t) → b ≡ true → DropsIn old catalog caller t by
    → (h : History) → Stands old h → IsGoing h caller by t → Stands (record old { catalog = catalog }) (going_events caller t h ++ h)
goes laws old catalog caller t by b test passes drops h stands going =
    let s = caller.session in
    let st = stamp caller h in
    let left : is_left h s t ≡ true = sym (test h stands.all.txs stands.all.catalog) ∙ passes in
    let owner : session_of (tx_events h) by.number ≡ s = open_own (tx_events h) s by.number stands.all.txs.sound going.own in
    let first = subst (λ (n : ℕ). CatalogueStands catalog (drop_events h n t (record { by = by; cmd = caller.cmd }) ++ h)) owner (drops h stands.all.txs stands.all.catalog) in
    let cats : CatalogueStands catalog (drop_events h s t st ++ h) = subst (λ (x : Stamp). CatalogueStands catalog (drop_events h s t x ++ h)) (same_stamp caller h by going.own) first in
    let ends = each_gone IsEnding h s t st (λ k. tt) (λ k. tt) in
    let deed : IsDeed old.rows catalog by.number caller.cmd (drop_events h s t st) h = record {
      done = drop_done caller t h by going.own;
      may = may_follow laws h caller t by stands.good going left;
      housed = endings_housed (drop_events h s t st) h ends;
      leaves = endings_leave (drop_events h s t st) ends;
      catalogue = cats;
      store = rows_stay old.rows (drop_events h s t st) h ends stands.all.rows;
    } in
    subst (λ (es : List Event). Stands (record old { catalog = catalog }) (es ++ h)) (sym (left_events (is_left h s t) (drop_events h s t st) left))
    (deed_stands old old.rows catalog s by.number caller.cmd (drop_events h s t st) h stands going.own deed)

-- ---- the other tables behind it

below_was : (t : ℕ) (es : List Event) (h : History) (n top x : ℕ) → Each IsEnding es → tx_events (es ++ h) ≡ tx_events h → Below (es ++ h) t n top x → Below h t n top x
below_was t es h zero top x each txs low = low
below_was t es h (suc n) top x each txs (e, present, child, rest) =
    (e, was_present (view (tx_events h) t) es h e each (subst (λ (y : TxEvents). Present (catalogue_events (es ++ h)) (view y t) e) txs present), child, below_was t es h n top e.parent.number each txs rest)

listed_was : (es : List Event) (h : History) (s : ℕ) (e : Entry) → Each IsEnding es → tx_events (es ++ h) ≡ tx_events h → IsLegal (es ++ h) → Contains (entries_present (es ++ h) s) e → Contains (entries_present h s) e
listed_was es h s e each txs legal at =
    let g = es ++ h in
    let present = All-contains (Present (catalogue_events g) (counts (tx_events g) s)) (entries_present g s) e (all_present g s (sound_of g legal) (catalogue_sound_of g legal)) at in
    present_listed h s e (was_present (counts (tx_events h) s) es h e each (subst (λ (y : TxEvents). Present (catalogue_events g) (counts y s) e) txs present))

pub going_on : TreeIsWhole → (caller : Caller) (by : TxId) (es : List Event) (h : History) (t : ℕ) → Each IsEnding es → Each (IsDone by.number caller.cmd) es → IsGood h → IsGood (es ++ h) → IsGoing h caller by t → IsGoing (es ++ h) caller by t
going_on whole caller by es h t each done good later going =
    let s = caller.session in
    let g = es ++ h in
    let q = quiet by.number caller.cmd es h done in
    let own : open_of (tx_events g) s ≡ Some by.number = ap (λ (x : TxEvents). open_of x s) q.txs ∙ going.own in
    let legal = legal_of g later in
    let held = λ (x : ℕ). ap (λ (l : LockEvents). holds l s x AccessExclusive) q.locks in
    record {
      own = own;
      command = in_order_after by.number caller.cmd es h done going.command;
      made = subst (λ (ts : List Table). t < length ts) (sym (tables_stay es h each)) going.made;
      owned = λ x at.
          let low = (whole g s by.number t legal (permitted_of g later) own).only x at in
          let was = below_was by.number es h low.0 t x each q.txs low.1 in
          held x ∙ going.owned x ((whole h s by.number t (legal_of h good) (permitted_of h good) going.own).all low.0 x was);
      guarded = λ e at child. held e.parent.number ∙ going.guarded e (listed_was es h s e each q.txs legal at) child;
    }

-- ---- where the drops begin

pub going_first : (stores : Stores) (caller : Caller) (by : TxId) (h : History) (t : TableNo) → Stands stores h → IsAt h caller.session caller.cmd → open_of (tx_events h) caller.session ≡ Some by.number → MayDropTable stores caller.session t → IsGoing h caller by t.number
going_first stores caller by h t stands at mine may =
    let s = caller.session in
    let made = may.made in
    let count = table_count stores.catalog h stands.all.catalog in
    record {
      own = mine;
      command = commands_are_in_order h s by.number caller.cmd at mine;
      made = omega (arith, made, count);
      owned = λ x in_tree. held_at_history stores h s x stands (may.owned h x stands.all.txs stands.all.catalog in_tree);
      guarded = λ e listed child. held_at_history stores h s e.parent.number stands (may.guarded h e stands.all.txs stands.all.catalog listed child);
    }
