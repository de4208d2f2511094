-- What a verdict on rows tells.
use Rattle.std.proofs.Common.{◌≡◌, ℕ, ◌≤◌, false, ap, sym, ◌∙◌, Bool, List, Option, Some, None, slice_index_or, unwrap_or}
use Rattle.pg_values.specs.Sets.{has}
use Rattle.pg_values.specs.declared.ids.LeafId.{LeafId}
use Rattle.pg_values.specs.declared.session_set.SessionSet.{SessionSet}
use Rattle.pg_values.specs.declared.value.Value.{Value}
use Rattle.history.specs.declared.version.Version.{Version}
use Rattle.history.specs.History.{History}
use Rattle.tx_table.specs.Kept.{KeptTable}
use Rattle.tx_table.specs.Stands.{TableStands}
use Rattle.row_store.specs.declared.judge.Verdict.TheVariants.{Clean, Seen}
use Rattle.row_store.specs.Judged.{IsVerdict, refusing}
use Rattle.stores.specs.Events.{tx_in}
use Rattle.ddl_steps.specs.Scans.{IsPassed, IsRefused}

-- the session's transaction
pub tx_told : (table : KeptTable) (h : History) (s me : ℕ) → Some me ≡ slice_index_or table.current s None → TableStands table h → tx_in h s ≡ me
tx_told table h s me is st = ap (λ (o : Option ℕ). unwrap_or o 0) (sym (st.current s) ∙ sym is)

pub clean_passes : (h : History) (s me : ℕ) (leaves : List LeafId) (b : List Value → Bool) (others : SessionSet) → tx_in h s ≡ me → ((r : ℕ) → has others r ≡ false) → IsVerdict h s me leaves b Clean → IsPassed h s leaves b others
clean_passes h s me leaves b others same none verdict = record { none = ap (λ m. refusing h s m leaves b) same ∙ verdict.0; all = λ r. none r ∙ sym (verdict.1 r); low = λ r high. none r }

pub seen_passes : (h : History) (s me : ℕ) (leaves : List LeafId) (b : List Value → Bool) (others : SessionSet) → tx_in h s ≡ me → ((r : ℕ) → 128 ≤ r → has others r ≡ false) → IsVerdict h s me leaves b (Seen others) → IsPassed h s leaves b others
seen_passes h s me leaves b others same low verdict = record { none = ap (λ m. refusing h s m leaves b) same ∙ verdict.0; all = verdict.1; low = low }

pub row_refuses : (h : History) (s me : ℕ) (leaves : List LeafId) (b : List Value → Bool) (row : List Value) → tx_in h s ≡ me → (v : Version) × (refusing h s me leaves b ≡ Some v) × (row ≡ v.row) → IsRefused h s leaves b row
row_refuses h s me leaves b row same first = record { first = first.0; refuses = ap (λ m. refusing h s m leaves b) same ∙ first.1; is_row = first.2 }
