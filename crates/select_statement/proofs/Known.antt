-- What is known of a tree that was read, and what locks leave as it was.
use Rattle.std.proofs.Common.{◌≡◌, ℕ, ◌<◌, ◌≤◌, ◌||◌, true, List, ap, sym, subst, ◌∙◌, arith, Option, Some, None, All, length}
use Rattle.std.proofs.lemmas.Bool.Decides.{nat_tests}
use Rattle.std.proofs.lemmas.List.{length-map}
use Rattle.pg_values.specs.declared.ids.LeafId.{LeafId}
use Rattle.history.specs.declared.catalogue.Entry.{Entry}
use Rattle.history.specs.declared.transaction.Fate.{Fate}
use Rattle.history.specs.declared.transaction.Fate.TheVariants.{Running, Committed, Aborted}
use Rattle.history.specs.Transactions.{fate, open_of, is_committed}
use Rattle.history.specs.Snapshots.{TakenSnapshot}
use Rattle.history.specs.Catalogue.{tables_made}
use Rattle.history.specs.History.{History, tx_events, catalogue_events}
use Rattle.history.specs.Presence.{is_own, counts, entries_shown}
use Rattle.tx_table.specs.Kept.{KeptSnapshot}
use Rattle.row_router.specs.Histories.{tree_of, table_of}
use Rattle.soundness.specs.Worlds.{IsMade, IsThere, Present, table_in}
use Rattle.soundness.specs.Parts.{IsKnown}
use Rattle.soundness.proofs.All.{legal_keeps_all}
use Rattle.soundness.proofs.Looking.{counts_world}
use Rattle.soundness.proofs.Presence.{all_more, all_shown}
use Rattle.soundness.proofs.Sound.{sound_of, catalogue_sound_of}
use Rattle.part_catalog.specs.Kept.{table_in as kept_table}
use Rattle.cond_logic.specs.Tables.{Leaf}
use Rattle.plan_tree.specs.Laws.{TreesCanBePruned}
use Rattle.stores.specs.Laws.{LeavesAreHoused}
use Rattle.stores.specs.Stand.{Stands}
use Rattle.stores.specs.declared.stores.Stores.{Stores}
use Rattle.stores.proofs.Goodness.{legal_of, permitted_of}
use Rattle.statement_steps.specs.declared.caller.Caller.{Caller}
use Rattle.statement_steps.specs.Known.{IsKnownTo}
use Rattle.statement_steps.proofs.Parts.{known_by}
use Rattle.select_statement.specs.Lent.{AreThere, MayLock, IsTreeFor, IsLookFor}
use Rattle.select_statement.proofs.Trees.{below_within, leaves_within}

-- ---- a tree that is read

-- what counts for a session and runs is its own
own_now : (o : Option ℕ) (f : Fate) (k : ℕ) → (is_committed f || is_own o k) ≡ true → f ≡ Running → o ≡ Some k
own_now None Running k e runs = absurd (cc)
own_now (Some t) Running k e runs = let same : t ≡ k = grind (arith, nat_tests, e) in ap Some same
own_now o Committed k e runs = absurd (cc)
own_now o Aborted k e runs = absurd (cc)

-- what is there for a session is known to it
there_known : (h : History) (s x : ℕ) → IsThere (catalogue_events h) (counts (tx_events h) s) x → IsKnown (tx_events h) (catalogue_events h) s x
there_known h s x there =
    let by = (table_in (catalogue_events h) x).by.number in
    (there.0, λ runs. own_now (open_of (tx_events h) s) (fate (tx_events h) by) by there.1 runs)

-- as many tables are kept as were made
tables_kept : (stores : Stores) (h : History) → Stands stores h → length stores.catalog.tables ≡ length (tables_made (catalogue_events h))
tables_kept stores h stands = sym (length-map stores.catalog.tables kept_table) ∙ ap length stands.all.catalog.tables

may_lock : (stores : Stores) (caller : Caller) (h : History) (x : ℕ) → Stands stores h → length stores.catalog.tables ≤ 4096 → IsThere (catalogue_events h) (counts (tx_events h) caller.session) x → MayLock stores caller (table_of x)
may_lock stores caller h x stands few there =
    let count = tables_kept stores h stands in
    let made : x < length (tables_made (catalogue_events h)) = there.0 in
    let lt : x < length stores.catalog.tables = omega (arith, count, made) in
    let low : x < 4096 = omega (arith, lt, few) in
    (low, known_by stores h caller.session x stands lt (there_known h caller.session x there))

pub tree_for : LeavesAreHoused → TreesCanBePruned → (stores : Stores) (caller : Caller) (h : History) (t : ℕ) (snap : TakenSnapshot) → Stands stores h → length stores.catalog.tables ≤ 4096 → IsKnownTo stores caller.session t
    → IsTreeFor stores caller (tree_of h caller.session t snap)
unfolding tree_of
tree_for housed prunable stores caller h t snap stands few known =
    let s = caller.session in
    let cats = catalogue_events h in
    let legal = legal_of h stands.good in
    let sound = sound_of h legal in
    let siblings = (legal_keeps_all h legal (permitted_of h stands.good)).siblings (counts (tx_events h) s) (counts_world (tx_events h) s sound) in
    let entries = entries_shown h s snap in
    let shown : All (Present cats (counts (tx_events h) s)) entries = all_shown h s snap sound (catalogue_sound_of h legal) in
    let count = tables_kept stores h stands in
    let low : t < length stores.catalog.tables = known.made in
    let made : IsMade cats t = omega (arith, count, low) in
    record {
      locks = below_within (MayLock stores caller) (tables_made cats) entries t
          (all_more (Present cats (counts (tx_events h) s)) (λ (e : Entry). MayLock stores caller (table_of e.child.number)) entries (λ e p. may_lock stores caller h e.child.number stands few (siblings.there e p).1) shown) 7 t;
      leaves = leaves_within (λ (l : LeafId). l.number < stores.rows.leaves) cats entries t
          (λ x leaf at. subst (λ n. leaf.number < n) (sym stands.all.rows.leaves) (housed h x leaf stands.good at))
          (all_more (Present cats (counts (tx_events h) s)) (λ (e : Entry). IsMade cats e.child.number) entries (λ e p. (siblings.there e p).1.0) shown) 7 t made;
      prunable = prunable h s t snap legal (permitted_of h stands.good) made;
    }

-- ---- locks leave it as it was

pub leaves_stay : (old new : Stores) (ls : List Leaf) → new ≡ record old { locks = new.locks } → AreThere old ls → AreThere new ls
leaves_stay old new ls rest its = subst (λ x. AreThere x ls) (sym rest) its

pub look_stays : (old new : Stores) (caller : Caller) (snap : KeptSnapshot) → new ≡ record old { locks = new.locks } → IsLookFor old caller snap → IsLookFor new caller snap
look_stays old new caller snap rest its = subst (λ x. IsLookFor x caller snap) (sym rest) (record { stands = its.stands; past = its.past; read = its.read })

pub known_stays : (old new : Stores) (s x : ℕ) → new ≡ record old { locks = new.locks } → IsKnownTo old s x → IsKnownTo new s x
known_stays old new s x rest its = subst (λ y. IsKnownTo y s x) (sym rest) (record { made = its.made; own = its.own })
