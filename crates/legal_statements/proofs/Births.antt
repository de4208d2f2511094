-- Many new row versions may follow, one after the other.
use Rattle.std.proofs.Common.{◌≡◌, ℕ, suc, ◌+◌, List, [], ◌∷◌, Some, None, Ok, ap, sym, subst, ◌∙◌, arith}
use Rattle.std.proofs.lemmas.List.{length-append}
use Rattle.history.specs.declared.version.Version.{Version}
use Rattle.history.specs.Snapshots.{TakenSnapshot}
use Rattle.history.specs.Rows.{RowBorn}
use Rattle.history.specs.History.{History, RowChange, versions, next_version}
use Rattle.history.specs.Legal.{IsInOrder}
use Rattle.row_router.specs.Trees.{routed}
use Rattle.row_router.specs.declared.path.PathTest.TheVariants.{Bounds, Checks}
use Rattle.row_router.specs.Paths.{refused}
use Rattle.soundness.proofs.Listed.{first_in, later_in}
use Rattle.legal_statements.specs.Rows.{IsNewRow, IsStored, AreNewRows, rows_born}
use Rattle.legal_statements.specs.Laws.{NewRowsMayFollow}
use Rattle.legal_statements.proofs.Dropping.{follow_first}
use Rattle.legal_statements.proofs.Stays.{trees_stay}
use Rattle.legal_statements.proofs.Storing.{new_row_may_follow}

first_row : (h : History) (session table : ℕ) (s : TakenSnapshot) (tx cmd : ℕ) (v : Version) (vs : List Version) → AreNewRows h session table s tx cmd (v ∷ vs) → IsNewRow h session table s v
first_row h session table s tx cmd v vs are =
    let by = are.by v (first_in v vs) in
    let number : v.id.number ≡ next_version h + 0 = are.numbered 0 v (omega arith) in
    record {
      look = are.look;
      own = are.own ∙ ap (λ t. Some t) (sym by.0);
      command = subst (λ t. IsInOrder (Some (t, v.cmd)) h) (sym by.0) (subst (λ c. IsInOrder (Some (tx, c)) h) (sym by.1) are.command);
      made = are.made;
      stored = are.stored v (first_in v vs);
      number = omega (arith, number);
    }

-- a row is stored as before after another one was born
still_stored : (h : History) (session table : ℕ) (s : TakenSnapshot) (v w : Version) → IsStored h session table s w → IsStored (RowChange (RowBorn v) ∷ h) session table s w
still_stored h session table s v w is =
    let same = trees_stay (RowChange (RowBorn v)) h session tt in
    record {
      columns = is.columns;
      placed = subst (λ p. refused Bounds w.row p ≡ None) (sym (same.path table)) is.placed;
      routed = subst (λ t. routed w.row t ≡ Ok w.leaf) (sym (same.tree table s)) is.routed;
      passes = λ x at. subst (λ p. refused Checks w.row p ≡ None) (sym (same.path x)) (is.passes x at);
      locked = is.locked;
      leaf = is.leaf;
    }

other_rows : (h : History) (session table : ℕ) (s : TakenSnapshot) (tx cmd : ℕ) (v : Version) (vs : List Version) → AreNewRows h session table s tx cmd (v ∷ vs) → AreNewRows (RowChange (RowBorn v) ∷ h) session table s tx cmd vs
other_rows h session table s tx cmd v vs are =
    let by = are.by v (first_in v vs) in
    let one : next_version (RowChange (RowBorn v) ∷ h) ≡ next_version h + 1 = length-append (versions h) (v ∷ []) in
    record {
      look = record { own = are.look.own; past = are.look.past };
      own = are.own;
      command = (λ same. let e = by.1 in omega (arith, e), are.command);
      made = are.made;
      by = λ w at. are.by w (later_in v vs w at);
      stored = λ w at. still_stored h session table s v w (are.stored w (later_in v vs w at));
      numbered = λ k d lt. let n = are.numbered (suc k) d (omega (arith, lt)) in omega (arith, n, one);
    }

pub new_rows_may_follow : NewRowsMayFollow
new_rows_may_follow h session table s tx cmd [] legal permitted are = tt
new_rows_may_follow h session table s tx cmd (v ∷ vs) legal permitted are =
    let first = (new_row_may_follow h session table s v legal permitted (first_row h session table s tx cmd v vs are)).0 in
    follow_first (rows_born vs) (RowChange (RowBorn v)) h first
    (new_rows_may_follow (RowChange (RowBorn v) ∷ h) session table s tx cmd vs (first.legal, first.in_order, legal) (first.permitted, permitted) (other_rows h session table s tx cmd v vs are))
