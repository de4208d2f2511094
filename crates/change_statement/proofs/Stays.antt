-- A version that stands is accepted above its leaf, and so is the row that follows it where no key is set.
use Rattle.std.proofs.Common.{◌≡◌, ℕ, ◌==◌, ◌||◌, arith, true, List, inl, inr, refl, sym, subst, ◌∙◌, Option, Some, None, Ok, slice_index_or}
use Rattle.std.specs.Prelude.{is_none, nat_lt}
use Rattle.std.proofs.lemmas.Bool.{and_parts, cases_Bool}
use Rattle.std.proofs.lemmas.Bool.Decides.{nat_tests}
use Rattle.pg_values.specs.declared.value.Value.{Value}
use Rattle.pg_values.specs.declared.ids.RowId.{RowId}
use Rattle.history.specs.declared.version.End.{End}
use Rattle.history.specs.declared.version.Version.{Version}
use Rattle.history.specs.Transactions.{is_committed, fate, open_of}
use Rattle.history.specs.History.{History, tx_events, snapshot_events, row_events, catalogue_events, end_of, next_version}
use Rattle.history.specs.Legal.{IsLegal}
use Rattle.history.specs.Presence.{counts}
use Rattle.history.proofs.Open.{open_runs}
use Rattle.row_store.specs.declared.scan.SeenRow.{SeenRow}
use Rattle.row_store.specs.Kept.{blank, stored_at}
use Rattle.change_statement.specs.NewRows.{new_row}
use Rattle.change_statement.specs.Verdicts.{MayEnd}
use Rattle.soundness.specs.Legal.{ArePermitted}
use Rattle.soundness.specs.Shown.{MayShow}
use Rattle.soundness.specs.Versions.{IsVersion}
use Rattle.soundness.specs.Worlds.{AcceptAbove, HasLeaf, view}
use Rattle.soundness.proofs.All.{legal_keeps_all}
use Rattle.soundness.proofs.Looking.{alive_by, counts_world}
use Rattle.soundness.proofs.Paths.{agree, same_above}
use Rattle.soundness.proofs.Sound.{end_counts, sound_of}
use Rattle.soundness.proofs.OneLeaf.{all_versions}
use Rattle.part_catalog.specs.Found.{made_at}
use Rattle.stores.specs.Stand.{Stands}
use Rattle.stores.specs.declared.stores.Stores.{Stores}
use Rattle.stores.proofs.Goodness.{legal_of, permitted_of}
use Rattle.statement_steps.specs.Gathered.{Found}
use Rattle.statement_steps.specs.declared.caller.Caller.{Caller}
use Rattle.change_statement.specs.Running.{Agree, MayEndIn, MayRun}
use Rattle.change_statement.proofs.SameKeys.{set_agrees}
use Rattle.change_statement.proofs.Targets.{version_numbered}

-- ---- a version that stands is accepted above its leaf

-- it may be shown to a session for whom its birth counts
shown_now : (h : History) (session : ℕ) (v : Version) → IsLegal h → counts (tx_events h) session v.by.number ≡ true → end_of h v.id.number ≡ None → MayShow (tx_events h) (snapshot_events h) (row_events h) (counts (tx_events h) session) v
shown_now h session v legal birth none =
    let w = counts (tx_events h) session in
    let world = counts_world (tx_events h) session (sound_of h legal) in (
      birth,
      inl (
        w,
        world,
        record { within = λ t e. e; whole = λ t k same small large. large },
        (
          birth,
          λ x end. elim (cases_Bool (w x.by.number)) [
            | inr n ↦ n
            | inl y ↦
                let last = end_counts h v.id.number x legal end (alive_by (tx_events h) x.by.number (w x.by.number) (world.aborted x.by.number) y) in
                let both : None ≡ Some x = sym none ∙ last in
                absurd (cc)
          ],
        ),
      ),
    )

none_of : (o : Option End) → is_none o ≡ true → o ≡ None
none_of None e = refl
none_of (Some x) e = absurd (cc)

birth_counts : (h : History) (session tx by : ℕ) → open_of (tx_events h) session ≡ Some tx → (is_committed (fate (tx_events h) by) || (by == tx)) ≡ true → counts (tx_events h) session by ≡ true
birth_counts h session tx by mine born =
    let turned : (tx == by) ≡ (by == tx) = grind (arith, nat_tests) in
    rw (mine, turned) born

fit_now : (h : History) (session t : ℕ) (v : Version) (x : ℕ) → IsLegal h → ArePermitted h → open_of (tx_events h) session ≡ Some t → IsVersion (row_events h) v → counts (tx_events h) session v.by.number ≡ true → end_of h v.id.number ≡ None → HasLeaf (catalogue_events h) x v.leaf
    → AcceptAbove (catalogue_events h) (view (tx_events h) t) x v.row
fit_now h session t v x legal permitted opened is birth none has =
    let i = legal_keeps_all h legal permitted in
    let w = counts (tx_events h) session in
    let runs = (open_runs (tx_events h) session t (sound_of h legal) opened).runs in
    let fit = i.fit w v (counts_world (tx_events h) session (sound_of h legal)) is (shown_now h session v legal birth none) in
    same_above (catalogue_events h) w (view (tx_events h) t) x v.row (λ k. agree (tx_events h) session t k opened runs) (fit x has)

-- a version that the statement may end
pub ended_fits : (stores : Stores) (caller : Caller) (g : Found) (id : RowId) (h : History) (tx x : ℕ) → Stands stores h → MayEndIn g stores caller id → open_of (tx_events h) caller.session ≡ Some tx → HasLeaf (catalogue_events h) x (stored_at stores.rows.stored id).version.leaf
    → AcceptAbove (catalogue_events h) (view (tx_events h) tx) x (stored_at stores.rows.stored id).version.row
ended_fits stores caller g id h tx x stands may opened has =
    let v = (stored_at stores.rows.stored id).version in
    let k = id.number in
    let legal = legal_of h stands.good in
    let mine : slice_index_or stores.txs.current caller.session None ≡ Some tx = stands.all.txs.current caller.session ∙ opened in
    let about = version_numbered stores.rows h id may.known stands.all.rows in
    let is : IsVersion (row_events h) v = subst (IsVersion (row_events h)) about.there (all_versions (row_events h) k blank.version about.within) in
    let parts = and_parts (nat_lt k (next_version h)) (is_none (end_of h k)) (may.standing h stands.all.txs stands.all.rows) in
    let none : end_of h v.id.number ≡ None = subst (λ n. end_of h n ≡ None) (sym about.number) (none_of (end_of h k) parts.1) in
    let seen_now : (is_committed (fate (tx_events h) v.by.number) || (v.by.number == tx)) ≡ true = subst (λ f. (is_committed f || (v.by.number == tx)) ≡ true) (stands.all.txs.fates v.by.number) (may.born tx mine) in
    fit_now h caller.session tx v x legal (permitted_of h stands.good) opened is (birth_counts h caller.session tx v.by.number opened seen_now) none has

-- ---- the row of an UPDATE

pub agrees : (stores : Stores) (caller : Caller) (g : Found) (target : RowId) (tx : ℕ) (seen : SeenRow) (new : List Value) → MayRun g stores caller → MayEnd stores.txs stores.rows tx target seen
    → ((h : History) → Stands stores h → new_row (made_at h g.table.number).columns g.asked.settings seen.row.now ≡ Ok new) → Agree g.asked.settings (stored_at stores.rows.stored seen.id).version.row new
agrees stores caller g target tx seen new may end made =
    let h = may.sound.0 in
    subst (λ row. Agree g.asked.settings row new) end.row (set_agrees (made_at h g.table.number).columns seen.row.now seen.row.now g.asked.settings new (made h may.sound.1))
