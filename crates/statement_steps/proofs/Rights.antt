-- What a session may do with tables behind the locks that it asked for.
use Rattle.std.proofs.Common.{◌≡◌, ℕ, true, List, [], ◌∷◌, inl, sym, ◌∙◌, subst, Result, Ok, map, ap, length, ◌<◌, ◌≤◌, arith, Some, All}
use Rattle.std.proofs.lemmas.List.Elements.{All-nil, All-cons}
use Rattle.std.proofs.lemmas.List.{length-map}
use Rattle.pg_values.specs.declared.ids.TableNo.{TableNo}
use Rattle.pg_values.specs.declared.lock_mode.LockMode.{LockMode}
use Rattle.pg_values.specs.declared.lock_mode.LockMode.TheVariants.{RowExclusive}
use Rattle.history.specs.Locks.{holds}
use Rattle.history.specs.History.{History, lock_events, catalogue_events, tx_events}
use Rattle.history.specs.Catalogue.{tables_made}
use Rattle.history.specs.declared.catalogue.Entry.{Entry}
use Rattle.history.specs.Transactions.{open_of}
use Rattle.history.specs.Snapshots.{TakenSnapshot}
use Rattle.history.specs.Presence.{counts, entries_shown}
use Rattle.part_catalog.specs.Found.{resolved}
use Rattle.part_catalog.specs.Kept.{KeptCatalogue, table_in}
use Rattle.part_catalog.specs.Stands.{CatalogueStands}
use Rattle.legal_statements.specs.Locked.{IsWritable}
use Rattle.legal_statements.proofs.Known.{there_is_known}
use Rattle.legal_statements.proofs.There.{listed_is_there}
use Rattle.stores.specs.Stand.{Stands}
use Rattle.stores.specs.declared.stores.Stores.{Stores}
use Rattle.stores.specs.Good.{IsGood}
use Rattle.stores.proofs.Goodness.{legal_of, permitted_of}
use Rattle.statement_steps.specs.Attempts.{MayAttempt}
use Rattle.statement_steps.specs.declared.caller.Caller.{Caller}
use Rattle.statement_steps.specs.declared.stop.Stop.{Stop}
use Rattle.statement_steps.specs.Asks.{all_locked, named}
use Rattle.statement_steps.specs.Steps.{IsStep}
use Rattle.statement_steps.proofs.Held.{all_got, named_held}
use Rattle.statement_steps.specs.Rights.{MayWrite, MayLock}
use Rattle.statement_steps.proofs.Parts.{known_by, own_tx}
use Rattle.row_router.specs.Histories.{table_of}
use Rattle.soundness.specs.Worlds.{Present}
use Rattle.soundness.proofs.All.{legal_keeps_all}
use Rattle.soundness.proofs.Listed.{present_listed}
use Rattle.soundness.proofs.Presence.{all_more, all_shown}
use Rattle.soundness.proofs.Sound.{sound_of, catalogue_sound_of}

pub still_held : (stores : Stores) (g h : History) (s t : ℕ) (m : LockMode) → Stands stores g → Stands stores h → holds (lock_events g) s t m ≡ true → holds (lock_events h) s t m ≡ true
still_held stores g h s t m old new held = sym (new.all.locks.tells.held s t m) ∙ (old.all.locks.tells.held s t m ∙ held)

pub may_write : (names : List (List ℕ)) (old new : Stores) (caller : Caller) (tables : List TableNo) → MayAttempt old caller
    → IsStep (λ (u : Unit {0}). u) (Ok tt) old new caller caller.cmd (all_locked names caller.session RowExclusive (map (λ t. t.number) tables)) → MayWrite new caller.session tables
may_write names old new caller tables may step h stands =
    let s = may.sound in
    let a = step.is s.0 s.1 s.2 in
    let got = all_got names caller.session RowExclusive tables s.0 a.0 in
    λ i d lt. inl (still_held new _ h caller.session _ RowExclusive a.1.stands stands (got i d lt))

pub may_write_named : (names : List (List ℕ)) (old new : Stores) (caller : Caller) (name : List ℕ) (table : TableNo) → MayAttempt old caller
    → IsStep (λ (t : TableNo). t.number) (Ok table) old new caller caller.cmd (named names caller.session RowExclusive name) → MayWrite new caller.session (table ∷ [])
may_write_named names old new caller name table may step h stands =
    let s = may.sound in
    let a = step.is s.0 s.1 s.2 in
    let got = named_held names caller.session RowExclusive name s.0 (resolved s.0 caller.session name) table.number a.0 in
    All-cons (λ t. IsWritable h caller.session t.number) table [] (inl (still_held new _ h caller.session table.number RowExclusive a.1.stands stands got)) (All-nil (λ t. IsWritable h caller.session t.number))

-- by the name as the statement has it
pub named_step : (names : List (List ℕ)) (caller : Caller) (r : Result TableNo Stop) (old new : Stores) (name other : List ℕ) → name ≡ other
    → IsStep (λ (t : TableNo). t.number) r old new caller caller.cmd (named names caller.session RowExclusive name) → IsStep (λ (t : TableNo). t.number) r old new caller caller.cmd (named names caller.session RowExclusive other)
named_step names caller r old new name other same step = subst (λ x. IsStep (λ (t : TableNo). t.number) r old new caller caller.cmd (named names caller.session RowExclusive x)) same step

-- ---- the tables that are shown

-- as many tables are kept as were made
pub tables_kept : (kept : KeptCatalogue) (h : History) → CatalogueStands kept h → length kept.tables ≡ length (tables_made (catalogue_events h))
tables_kept kept h st = sym (length-map kept.tables table_in) ∙ ap length st.tables

abbrev IsHere : History → (session : ℕ) → Entry → Type 0
IsHere h s e = Present (catalogue_events h) (counts (tx_events h) s) e

all_here : (h : History) (s : ℕ) (look : TakenSnapshot) → IsGood h → All (IsHere h s) (entries_shown h s look)
all_here h s look good = let legal = legal_of h good in all_shown h s look (sound_of h legal) (catalogue_sound_of h legal)

pub shown_made : (h : History) (s : ℕ) (look : TakenSnapshot) → IsGood h → All (λ e. e.child.number < length (tables_made (catalogue_events h))) (entries_shown h s look)
shown_made h s look good =
    let i = legal_keeps_all h (legal_of h good) (permitted_of h good) in
    all_more (IsHere h s) (λ (e : Entry). e.child.number < length (tables_made (catalogue_events h))) (entries_shown h s look) (λ e here. (i.entries.suited e here.0).child) (all_here h s look good)

child_locks : (stores : Stores) (s t : ℕ) (h : History) (e : Entry) → Stands stores h → length stores.catalog.tables ≤ 4096 → open_of (tx_events h) s ≡ Some t → IsHere h s e → MayLock stores s (table_of e.child.number)
child_locks stores s t h e stands few own here =
    let x = e.child.number in
    let there = listed_is_there h s t e (legal_of h stands.good) (permitted_of h stands.good) own (present_listed h s e here) in
    let count = tables_kept stores.catalog h stands.all.catalog in
    let made : x < length (tables_made (catalogue_events h)) = there.2.0 in
    let lt : x < length stores.catalog.tables = omega (arith, count, made) in
    let low : x < 4096 = omega (arith, lt, few) in
    (low, known_by stores h s x stands lt (there_is_known h s t x own there.2))

-- each table that an entry shows may be locked
pub shown_locks : (stores : Stores) (caller : Caller) (h : History) (look : TakenSnapshot) → MayAttempt stores caller → Stands stores h → length stores.catalog.tables ≤ 4096 → All (λ e. MayLock stores caller.session (table_of e.child.number)) (entries_shown h caller.session look)
shown_locks stores caller h look may stands few =
    let s = caller.session in
    let own = own_tx stores caller h may stands in
    all_more (IsHere h s) (λ (e : Entry). MayLock stores s (table_of e.child.number)) (entries_shown h s look) (λ e is. child_locks stores s own.0 h e stands few own.1 is) (all_here h s look stands.good)
