-- The versions that are born, and what they leave as it was.
use Rattle.std.proofs.Common.{◌≡◌, ℕ, zero, suc, ◌+◌, ◌<◌, List, [], ◌∷◌, ◌++◌, inl, inr, refl, sym, ap, subst, arith, append_assoc, All, length, slice_index_or}
use Rattle.std.specs.List.{Contains}
use Rattle.std.proofs.lemmas.List.{length-append}
use Rattle.std.proofs.lemmas.List.Elements.{All-nil, All-cons, All-append}
use Rattle.pg_values.specs.declared.value.Value.{Value}
use Rattle.pg_values.specs.declared.fault.Fault.{Fault}
use Rattle.pg_values.specs.declared.ids.LeafId.{LeafId}
use Rattle.history.specs.declared.transaction.TxId.{TxId}
use Rattle.history.specs.declared.version.Version.{Version}
use Rattle.history.specs.Transactions.{IsRunning}
use Rattle.history.specs.Rows.{RowBorn}
use Rattle.history.specs.History.{History, RowChange, tx_events, versions, next_version}
use Rattle.row_store.specs.Stands.{newborn}
use Rattle.row_change.specs.Storing.{full_faults}
use Rattle.row_change.proofs.Quiet.{Quiet}
use Rattle.soundness.proofs.Listed.{none_in, first_in, later_in, cases_in}
use Rattle.legal_statements.specs.Follows.{MayCome, MayFollow}
use Rattle.legal_statements.specs.Rows.{rows_born}
use Rattle.stores.specs.Good.{IsGood}
use Rattle.stores.specs.Numbers.{IsBefore}
use Rattle.statement_steps.specs.Made.{Made, unless_refused}
use Rattle.statement_steps.specs.Steps.{follow}
use Rattle.insert_statement.specs.Born.{all_born}
use Rattle.insert_statement.specs.Asked.{Each}

-- ---- which versions the events bear

pub record Births (h : History) (by : TxId) (cmd : ℕ) (P : LeafId → List Value → Type 0) (events : History) : Type 0 where
  pub rows : List Version
  pub is : events ≡ rows_born rows
  pub each : (v : Version) → Contains rows v → (v.by.number ≡ by.number) × (v.cmd ≡ cmd) × P v.leaf v.row
  pub numbered : (k : ℕ) (d : Version) → k < length rows → (slice_index_or rows k d).id.number ≡ next_version h + k

no_births : (h : History) (by : TxId) (cmd : ℕ) (P : LeafId → List Value → Type 0) → Births h by cmd P []
no_births h by cmd P = record { rows = []; is = refl; each = λ v at. absurd (none_in v at); numbered = λ k d lt. absurd (omega (arith, lt)) }

numbered_next : (h : History) (v : Version) (vs : List Version) → v.id.number ≡ next_version h
    → ((k : ℕ) (d : Version) → k < length vs → (slice_index_or vs k d).id.number ≡ next_version (RowChange (RowBorn v) ∷ h) + k)
    → (k : ℕ) (d : Version) → k < length (v ∷ vs) → (slice_index_or (v ∷ vs) k d).id.number ≡ next_version h + k
numbered_next h v vs first later zero d lt = omega (arith, first)
numbered_next h v vs first later (suc k) d lt =
    let one : next_version (RowChange (RowBorn v) ∷ h) ≡ next_version h + 1 = length-append (versions h) (v ∷ []) in
    let n = later k d (omega (arith, lt)) in
    omega (arith, n, one)

one_birth : (h : History) (by : TxId) (cmd : ℕ) (P : LeafId → List Value → Type 0) (l : LeafId) (r : List Value) (own full : List Fault) (next : History → Made (Unit {0})) → (own ≡ [] → P l r)
    → ((g : History) → Births g by cmd P (next g).events)
    → Births h by cmd P (follow (λ g. unless_refused (own ++ full) (RowChange (RowBorn (newborn h l r by cmd)) ∷ [])) (λ u. next) h).events
one_birth h by cmd P l r [] [] next may births =
    let v : Version = newborn h l r by cmd in
    let b = births (RowChange (RowBorn v) ∷ h) in
    record {
      rows = v ∷ b.rows;
      is = ap (λ es. es ++ (RowChange (RowBorn v) ∷ [])) b.is;
      each = λ w at. elim (cases_in v b.rows w at) [
        | inl same ↦ subst (λ (x : Version). (x.by.number ≡ by.number) × (x.cmd ≡ cmd) × P x.leaf x.row) same (refl, refl, may refl)
        | inr later ↦ b.each w later
      ];
      numbered = numbered_next h v b.rows refl b.numbered;
    }
one_birth h by cmd P l r [] (f ∷ fs) next may births = no_births h by cmd P
one_birth h by cmd P l r (f ∷ fs) full next may births = no_births h by cmd P

pub all_births : (by : TxId) (cmd : ℕ) (faults : LeafId → List Value → List Fault) (P : LeafId → List Value → Type 0) (ls : List LeafId) (rs : List (List Value)) (h : History)
    → Each (λ l row. faults l row ≡ [] → P l row) ls rs → Births h by cmd P (all_born by cmd faults ls rs h).events
all_births by cmd faults P [] rs h each = no_births h by cmd P
all_births by cmd faults P (l ∷ ls) [] h each = no_births h by cmd P
all_births by cmd faults P (l ∷ ls) (r ∷ rs) h each =
    one_birth h by cmd P l r (faults l r) (full_faults h r) (all_born by cmd faults ls rs) each.0 (λ g. all_births by cmd faults P ls rs g each.1)

-- ---- what they leave as it was

pub quiet : (vs : List Version) (h : History) → Quiet (rows_born vs ++ h) h
quiet [] h = record { txs = refl; snapshots = refl; locks = refl; catalogue = refl; leaves = refl; sound = λ s. s }
quiet (v ∷ vs) h =
    let q = quiet vs (RowChange (RowBorn v) ∷ h) in
    subst (λ g. Quiet g h) (sym (append_assoc (rows_born vs) (RowChange (RowBorn v) ∷ []) h))
    (record { txs = q.txs; snapshots = q.snapshots; locks = q.locks; catalogue = q.catalogue; leaves = q.leaves; sound = q.sound })

-- ---- they are good, and of one command

split_follow : (es fs h : History) → MayFollow (es ++ fs) h → MayFollow fs h × MayFollow es (fs ++ h)
split_follow [] fs h may = (may, tt)
split_follow (e ∷ es) fs h may =
    let rest = split_follow es fs h may.1 in
    (rest.0, (subst (MayCome e) (append_assoc es fs h) may.0, rest.1))

pub good_rows : (vs : List Version) (h : History) (tx : ℕ) → MayFollow (rows_born vs) h → ((v : Version) → Contains vs v → v.by.number ≡ tx) → IsRunning (tx_events h) tx → IsGood h → IsGood (rows_born vs ++ h)
good_rows [] h tx may by running good = good
good_rows (v ∷ vs) h tx may by running good =
    let parts = split_follow (rows_born vs) (RowChange (RowBorn v) ∷ []) h may in
    let first = parts.0.0 in
    let acting = subst (IsRunning (tx_events h)) (sym (by v (first_in v vs))) running in
    subst IsGood (sym (append_assoc (rows_born vs) (RowChange (RowBorn v) ∷ []) h))
    (good_rows vs (RowChange (RowBorn v) ∷ h) tx parts.1 (λ w at. by w (later_in v vs w at)) running
    (record { legal = first.legal; in_order = first.in_order; permitted = first.permitted; acting = acting; released = tt; housed = tt }, good))

pub all_before : (vs : List Version) (t n : ℕ) → ((v : Version) → Contains vs v → v.by.number ≡ t → v.cmd < n) → All (IsBefore t n) (rows_born vs)
all_before [] t n before = All-nil (IsBefore t n)
all_before (v ∷ vs) t n before =
    All-append (IsBefore t n) (rows_born vs) (RowChange (RowBorn v) ∷ []) (all_before vs t n (λ w at. before w (later_in v vs w at)))
    (All-cons (IsBefore t n) (RowChange (RowBorn v)) [] (before v (first_in v vs)) (All-nil (IsBefore t n)))
