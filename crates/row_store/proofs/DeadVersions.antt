-- What is told to be dead is dead, and what is dead is neither live nor held.
use Rattle.std.proofs.Common.{◌≡◌, ℕ, ◌<◌, ◌==◌, ◌&&◌, ◌||◌, not, zero, suc, arith, ap, sym, ◌∙◌, refl, List, [], ◌∷◌, ◌++◌, ◌⊎◌, Option, Some, None, true, false, Bool, if◌then◌else◌, inl, inr, length, slice_get, slice_index_or, filter, ◌≤◌}
use Rattle.std.specs.List.{list_any}
use Rattle.std.proofs.lemmas.Bool.{cases_Bool, cases_lt, and_parts}
use Rattle.pg_values.specs.declared.ids.RowId.{RowId}
use Rattle.history.specs.declared.transaction.Fate.{Fate}
use Rattle.history.specs.declared.transaction.Fate.TheVariants.{Running, Committed, Aborted}
use Rattle.history.specs.declared.version.Version.{Version}
use Rattle.history.specs.declared.version.End.{End}
use Rattle.history.specs.Transactions.{TxEvents, fate, was_aborted, was_committed, is_committed, sees_now, IsPast}
use Rattle.history.specs.Snapshots.{TakenSnapshot, sees, held_by}
use Rattle.history.specs.Rows.{counted}
use Rattle.history.specs.History.{History, tx_events, snapshot_events, end_of}
use Rattle.history.specs.Legal.{IsTimely}
use Rattle.history.specs.Dead.{if_held, is_held_seen, is_over, IsDead, MayRead}
use Rattle.history.specs.Thinned.{Thins}
use Rattle.history.proofs.Thinned.{thin_none, thin_more_out}
use Rattle.history.proofs.Dead.{over_is, ended_other, aborted_over, aborted_ended, lives_committed, held_unseen}
use Rattle.tx_table.specs.Kept.{KeptTable, KeptSnapshot}
use Rattle.tx_table.specs.Stands.{TableStands, HeldStands}
use Rattle.tx_table.proofs.Tables.{sees_is}
use Rattle.row_store.specs.declared.stored.Stored.{Stored}
use Rattle.row_store.specs.Kept.{blank, stored_at}
use Rattle.row_store.specs.Judged.{ends_for, is_live, shows_if_held, is_held_shown}
use Rattle.row_store.specs.Dead.{any_shown_by, unended, over_by, dead_after, dead_by, dead_if, dead_at, IsDeadAt, lives_at}
use Rattle.row_store.proofs.Held.{held_is}

-- ---- a snapshot that a session may read under was taken at some place

held_past : (k : Option KeptSnapshot) (old : TakenSnapshot) (txs : TxEvents) → HeldStands k (Some old) txs → IsPast old.past txs
held_past None old txs st = absurd st
held_past (Some k) old txs st = st.1

past_of : (table : KeptTable) (h : History) (s : TakenSnapshot) (r : ℕ) (o : Option TakenSnapshot) → HeldStands (slice_index_or table.held r None) o (tx_events h) → IsTimely o (tx_events h) s → IsPast s.past (tx_events h)
past_of table h s r None st now = ([], now)
past_of table h s r (Some old) st (inl now) = ([], now)
past_of table h s r (Some old) st (inr same) =
    let past = held_past (slice_index_or table.held r None) old (tx_events h) st in
    (past.0, ap (λ p. past.0 ++ p) same.0 ∙ past.1)

pub read_past : (table : KeptTable) (h : History) (s : TakenSnapshot) → TableStands table h → MayRead s h → IsPast s.past (tx_events h)
read_past table h s st may = past_of table h s may.0 (held_by (snapshot_events h) may.0) (st.held may.0) may.1.timely

-- ---- no snapshot that is held shows it

or_first : (a b : Bool) → (a || b) ≡ false → a ≡ false
or_first true b e = absurd (cc)
or_first false b e = refl

or_second : (a b : Bool) → (a || b) ≡ false → b ≡ false
or_second true b e = absurd (cc)
or_second false b e = e

none_of : {X : Type 0} (p : Option X → Bool) (xs : List (Option X)) (k : ℕ) → p None ≡ false → list_any p xs ≡ false → p (slice_index_or xs k None) ≡ false
none_of p [] k past none = past
none_of p (x ∷ xs) zero past none = or_first (p x) (list_any p xs) none
none_of p (x ∷ xs) (suc k) past none = none_of p xs k past (or_second (p x) (list_any p xs) none)

pub any_of : {X : Type 0} (p : Option X → Bool) (xs : List (Option X)) (k : ℕ) → p None ≡ false → p (slice_index_or xs k None) ≡ true → list_any p xs ≡ true
any_of p [] k past here = absurd (let bad : true ≡ false = sym here ∙ past in cc)
any_of p (x ∷ xs) zero past here = rw here refl
any_of p (x ∷ xs) (suc k) past here = elim (cases_Bool (p x)) [ inl t ↦ rw t refl | inr f ↦ rw f (any_of p xs k past here) ]

pub nowhere : {X : Type 0} (p : Option X → Bool) (xs : List (Option X)) → ((k : ℕ) → p (slice_index_or xs k None) ≡ false) → list_any p xs ≡ false
nowhere p [] none = refl
nowhere p (x ∷ xs) none = let here : p x ≡ false = none 0 in rw here (nowhere p xs (λ k. none (suc k)))

pub none_past : {X : Type 0} (p : Option X → Bool) (xs : List (Option X)) (r n : ℕ) → p None ≡ false → n ≤ r → ((k : ℕ) → k < r → p (slice_index_or xs k None) ≡ false) → ((k : ℕ) → n ≤ k → slice_index_or xs k None ≡ None) → (k : ℕ) → p (slice_index_or xs k None) ≡ false
none_past p xs r n past high none end k = elim (cases_lt k r) [
  | inl before ↦ none k before
  | inr after ↦ ap p (end k (omega (arith, high, after))) ∙ past
]

not_shown : (table : KeptTable) (x : Stored) (r : ℕ) → not (any_shown_by table x) ≡ true → is_held_shown table r x ≡ false
not_shown table x r none = none_of (λ held. shows_if_held table held x) table.held r refl (off (any_shown_by table x) none)
  where
    off : (b : Bool) → not b ≡ true → b ≡ false
    off true e = absurd (cc)
    off false e = refl

-- a version as if it had not ended is shown where its birth is seen
birth_is : (table : KeptTable) (h : History) (x : Stored) (o : Option KeptSnapshot) (p : Option TakenSnapshot) → TableStands table h → HeldStands o p (tx_events h) → shows_if_held table o (unended x) ≡ if_held (λ s. sees (tx_events h) s x.version.by.number x.version.cmd) p
birth_is table h x None None st held = refl
birth_is table h x None (Some s) st held = absurd held
birth_is table h x (Some k) None st held = absurd held
birth_is table h x (Some k) (Some s) st held = and_true _ ∙ sees_is table k (tx_events h) (snapshot_events h) s x.version.by.number x.version.cmd st held.1 held.0
  where
    and_true : (b : Bool) → (b && true) ≡ b
    and_true true = refl
    and_true false = refl

-- ---- what is told to be dead

fate_go : (was done : Bool) → (if was then Aborted else if done then Committed else Running) ≡ Aborted → was ≡ true
fate_go true done e = refl
fate_go false true e = absurd (cc)
fate_go false false e = absurd (cc)

aborted_was : (txs : TxEvents) (t : ℕ) → fate txs t ≡ Aborted → was_aborted txs t ≡ true
aborted_was txs t e = fate_go (was_aborted txs t) (was_committed txs t) e

over_told : (table : KeptTable) (h : History) (o : Option End) → TableStands table h → over_by table o ≡ true → is_over (tx_events h) (counted (tx_events h) o) ≡ true
over_told table h None st over = absurd (cc)
over_told table h (Some e) st over =
    let done : is_committed (fate (tx_events h) e.by.number) ≡ true = ap is_committed (sym (st.fates e.by.number)) ∙ over in
    let lives = lives_committed (tx_events h) e.by.number done in
    rw lives done

dead_told : (table : KeptTable) (h : History) (x : Stored) (f : Fate) → TableStands table h → counted (tx_events h) x.ended ≡ end_of h x.version.id.number → fate (tx_events h) x.version.by.number ≡ f → dead_after table x f ≡ true → IsDead h x.version
dead_told table h x Running st ended is dead = absurd (cc)
dead_told table h x Aborted st ended is dead = inl (
  aborted_was (tx_events h) x.version.by.number is,
  λ r. sym (birth_is table h x (slice_index_or table.held r None) (held_by (snapshot_events h) r) st (st.held r)) ∙ not_shown table (unended x) r dead,
)
dead_told table h x Committed st ended is dead =
    let parts = and_parts (over_by table x.ended) (not (any_shown_by table x)) dead in
    inr (
      ap is_committed is,
      ap (is_over (tx_events h)) (sym ended) ∙ over_told table h x.ended st parts.0,
      λ r. sym (held_is table h x (slice_index_or table.held r None) (held_by (snapshot_events h) r) st (st.held r) ended) ∙ not_shown table x r parts.1,
    )

pub dead_is : (table : KeptTable) (h : History) (x : Stored) → TableStands table h → counted (tx_events h) x.ended ≡ end_of h x.version.id.number → dead_by table x ≡ true → IsDead h x.version
dead_is table h x st ended dead =
    let f = st.fates x.version.by.number in
    dead_told table h x (slice_index_or table.fates x.version.by.number Running) st ended (sym f) dead

got : (xs : List Stored) (k : ℕ) → slice_get xs k ≡ None ⊎ ((k < length xs) × (slice_get xs k ≡ Some (slice_index_or xs k blank)))
got [] k = inl refl
got (x ∷ xs) zero = inr (omega arith, refl)
got (x ∷ xs) (suc k) = elim (got xs k) [ inl none ↦ inl none | inr some ↦ inr (omega (arith, some.0), some.1) ]

-- by its number
pub dead_at_is : (table : KeptTable) (h : History) (xs : List Stored) (id : RowId) → TableStands table h → ((k : ℕ) → k < length xs → counted (tx_events h) (slice_index_or xs k blank).ended ≡ end_of h (slice_index_or xs k blank).version.id.number) → IsDeadAt table xs id → IsDead h (stored_at xs id).version
dead_at_is table h xs id st ended dead = elim (got xs id.number) [
  | inl none ↦ absurd (let bad : false ≡ true = ap (dead_if table) (sym none) ∙ dead in cc)
  | inr some ↦ dead_is table h (stored_at xs id) st (ended id.number some.0) (ap (dead_if table) (sym some.1) ∙ dead)
]

-- those that are left out of a list are dead
pub living_left : (table : KeptTable) (xs : List Stored) (ids : List RowId) → Thins (IsDeadAt table xs) ids (filter (lives_at table xs) ids)
living_left table xs ids = thin_more_out (IsDeadAt table xs) (lives_at table xs) ids ids (thin_none (IsDeadAt table xs) ids) (λ k d lt out. is_on (dead_at table xs (slice_index_or ids k d)) out)
  where
    is_on : (b : Bool) → not b ≡ false → b ≡ true
    is_on true e = refl
    is_on false e = absurd (cc)

-- ---- what is dead

not_live : (h : History) (me : ℕ) (v : Version) → fate (tx_events h) me ≡ Running → IsDead h v → is_live h me v ≡ false
not_live h me v runs dead = elim dead [
  | inl undone ↦
      let over = aborted_over (tx_events h) v.by.number undone.0 in
      let other = ended_other (tx_events h) v.by.number me runs (aborted_ended _ over) in
      let born : sees_now (tx_events h) me v.by.number ≡ false = ap (λ f. is_committed f || (v.by.number == me)) over ∙ other in
      ap (λ b. b && not (ends_for (tx_events h) me v (end_of h v.id.number))) born
  | inr outdated ↦
      let e = over_is (tx_events h) (end_of h v.id.number) outdated.1 in
      let ends : ends_for (tx_events h) me v (end_of h v.id.number) ≡ true = ap (ends_for (tx_events h) me v) e.1 ∙ ap (λ b. b || ((e.0.by.number == me) && (v.by.number == me))) e.2 in
      ap (λ b. sees_now (tx_events h) me v.by.number && not b) ends ∙ none (sees_now (tx_events h) me v.by.number)
]
  where
    none : (b : Bool) → (b && false) ≡ false
    none true = refl
    none false = refl

-- it refuses nothing
pub dead_refuses : (h : History) (session me : ℕ) (v : Version) → fate (tx_events h) me ≡ Running → IsDead h v → (is_live h me v || is_held_seen h session v) ≡ false
dead_refuses h session me v runs dead =
    ap (λ b. b || is_held_seen h session v) (not_live h me v runs dead) ∙ held_unseen h session v dead
