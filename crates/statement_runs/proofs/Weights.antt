-- What can still happen before a statement is done, counted.
use Rattle.std.proofs.Common.{◌≡◌, ◌<◌, ◌≤◌, ℕ, zero, suc, ◌+◌, ◌*◌, Bool, true, false, inl, inr, refl, ap, subst, List, length, slice_index_or, slice_set, arith}
use Rattle.std.specs.List.{sum_by}
use Rattle.std.proofs.lemmas.Bool.{cases_lt}
use Rattle.std.proofs.lemmas.List.Sums.{sum_by-set, sum_by-le, sum_by-le-sum_by}
use Rattle.pg_values.specs.Modes.{every_mode}
use Rattle.pg_values.specs.Sets.{has}
use Rattle.pg_values.specs.declared.lock_mode.LockMode.{LockMode}
use Rattle.pg_values.specs.declared.lock_mode.LockMode.TheVariants.{AccessShare, RowShare, RowExclusive, ShareUpdateExclusive, Share, ShareRowExclusive, Exclusive, AccessExclusive}
use Rattle.pg_values.specs.declared.session_set.SessionSet.{SessionSet}
use Rattle.lock_table.specs.Kept.{held_at}
use Rattle.statement_runs.specs.Kept.{KeptSeats, AreSeated}
use Rattle.statement_runs.specs.Weight.{of_flag, of_mark, sum_below, lacking, unheld, slack, most}

-- ---- sums over numbers

pub sum_mono : (n : ℕ) (f g : ℕ → ℕ) → ((i : ℕ) → f i ≤ g i) → sum_below n f ≤ sum_below n g
sum_mono zero f g le = omega arith
sum_mono (suc n) f g le = let h = sum_mono n f g le in let k = le n in omega (arith, h, k)

pub sum_less : (n i : ℕ) (f g : ℕ → ℕ) → ((j : ℕ) → f j ≤ g j) → i < n → f i < g i → sum_below n f < sum_below n g
sum_less zero i f g le lt less = absurd (omega (arith, lt))
sum_less (suc n) i f g le lt less =
    elim (cases_lt i n) [
      | inl below ↦ let h = sum_less n i f g le below less in let k = le n in omega (arith, h, k)
      | inr above ↦ let same : i ≡ n = omega (arith, lt, above) in let h = sum_mono n f g le in let k = subst (λ j. f j < g j) same less in omega (arith, h, k)
    ]

pub sum_most : (n m : ℕ) (f : ℕ → ℕ) → ((i : ℕ) → f i ≤ m) → sum_below n f ≤ n * m
sum_most zero m f le = omega arith
sum_most (suc n) m f le = let h = sum_most n m f le in let k = le n in omega (arith, h, k)

-- ---- sums over modes

modes_mono : (f g : LockMode → ℕ) → ((m : LockMode) → f m ≤ g m) → sum_by f every_mode ≤ sum_by g every_mode
modes_mono f g le = sum_by-le-sum_by f g every_mode le

modes_less : (f g : LockMode → ℕ) (m : LockMode) → ((x : LockMode) → f x ≤ g x) → f m < g m → sum_by f every_mode < sum_by g every_mode
modes_less f g AccessShare le less = omega (arith, less, le RowShare, le RowExclusive, le ShareUpdateExclusive, le Share, le ShareRowExclusive, le Exclusive, le AccessExclusive)
modes_less f g RowShare le less = omega (arith, less, le AccessShare, le RowExclusive, le ShareUpdateExclusive, le Share, le ShareRowExclusive, le Exclusive, le AccessExclusive)
modes_less f g RowExclusive le less = omega (arith, less, le RowShare, le AccessShare, le ShareUpdateExclusive, le Share, le ShareRowExclusive, le Exclusive, le AccessExclusive)
modes_less f g ShareUpdateExclusive le less = omega (arith, less, le RowShare, le RowExclusive, le AccessShare, le Share, le ShareRowExclusive, le Exclusive, le AccessExclusive)
modes_less f g Share le less = omega (arith, less, le RowShare, le RowExclusive, le ShareUpdateExclusive, le AccessShare, le ShareRowExclusive, le Exclusive, le AccessExclusive)
modes_less f g ShareRowExclusive le less = omega (arith, less, le RowShare, le RowExclusive, le ShareUpdateExclusive, le Share, le AccessShare, le Exclusive, le AccessExclusive)
modes_less f g Exclusive le less = omega (arith, less, le RowShare, le RowExclusive, le ShareUpdateExclusive, le Share, le ShareRowExclusive, le AccessShare, le AccessExclusive)
modes_less f g AccessExclusive le less = omega (arith, less, le RowShare, le RowExclusive, le ShareUpdateExclusive, le Share, le ShareRowExclusive, le Exclusive, le AccessShare)

modes_most : (m : ℕ) (f : LockMode → ℕ) → ((x : LockMode) → f x ≤ m) → sum_by f every_mode ≤ 8 * m
modes_most m f le = omega (arith, le AccessShare, le RowShare, le RowExclusive, le ShareUpdateExclusive, le Share, le ShareRowExclusive, le Exclusive, le AccessExclusive)

-- ---- locks

flag_most : (b : Bool) → of_flag b ≤ 1
flag_most true = omega arith
flag_most false = omega arith

flag_mono : (a b : Bool) → (a ≡ true → b ≡ true) → of_flag b ≤ of_flag a
flag_mono true b keeps = rw (keeps refl) (omega arith)
flag_mono false b keeps = flag_most b

-- nobody lost a lock
abbrev pub Stay : (old new : List SessionSet) → Type 0
Stay old new = (s t : ℕ) (m : LockMode) → has (held_at old t m) s ≡ true → has (held_at new t m) s ≡ true

lacking_mono : (n : ℕ) (old new : List SessionSet) (t : ℕ) (m : LockMode) → Stay old new → lacking n new t m ≤ lacking n old t m
lacking_mono n old new t m stay = sum_mono n (λ s. of_flag (has (held_at new t m) s)) (λ s. of_flag (has (held_at old t m) s)) (λ s. flag_mono (has (held_at old t m) s) (has (held_at new t m) s) (stay s t m))

pub unheld_mono : (n tables : ℕ) (old new : List SessionSet) → Stay old new → unheld n tables new ≤ unheld n tables old
unheld_mono n tables old new stay =
    sum_mono tables (λ t. sum_by (lacking n new t) every_mode) (λ t. sum_by (lacking n old t) every_mode)
    (λ t. modes_mono (lacking n new t) (lacking n old t) (λ m. lacking_mono n old new t m stay))

pub unheld_less : (n tables : ℕ) (old new : List SessionSet) (s t : ℕ) (m : LockMode) → Stay old new → s < n → t < tables
    → has (held_at old t m) s ≡ false → has (held_at new t m) s ≡ true → unheld n tables new < unheld n tables old
unheld_less n tables old new s t m stay lt low before after =
    sum_less tables t (λ t. sum_by (lacking n new t) every_mode) (λ t. sum_by (lacking n old t) every_mode)
    (λ t. modes_mono (lacking n new t) (lacking n old t) (λ m. lacking_mono n old new t m stay))
    low
    (modes_less (lacking n new t) (lacking n old t) m (λ m. lacking_mono n old new t m stay)
    (sum_less n s (λ s. of_flag (has (held_at new t m) s)) (λ s. of_flag (has (held_at old t m) s)) (λ s. flag_mono (has (held_at old t m) s) (has (held_at new t m) s) (stay s t m))
    lt (rw (before, after) (omega arith))))

unheld_most : (n tables : ℕ) (held : List SessionSet) → unheld n tables held ≤ tables * (8 * (n * 1))
unheld_most n tables held =
    sum_most tables (8 * (n * 1)) (λ t. sum_by (lacking n held t) every_mode)
    (λ t. modes_most (n * 1) (lacking n held t) (λ m. sum_most n 1 (λ s. of_flag (has (held_at held t m) s)) (λ s. flag_most (has (held_at held t m) s))))

-- ---- flags

pub flag_set_less : (xs : List Bool) (s : ℕ) → s < length xs → slice_index_or xs s false ≡ false → sum_by of_flag (slice_set xs s true) < sum_by of_flag xs
flag_set_less xs s lt off = let h = sum_by-set of_flag xs s true false lt in let k : of_flag (slice_index_or xs s false) ≡ 1 = rw off refl in omega (arith, h, k)

flags_most : (xs : List Bool) → sum_by of_flag xs ≤ length xs * 1
flags_most xs = sum_by-le of_flag 1 xs (λ i d lt. flag_most (slice_index_or xs i d))

-- ---- marks

mark_most : (b : Bool) → of_mark b ≤ 1
mark_most true = omega arith
mark_most false = omega arith

pub mark_cleared : (xs : List Bool) (s : ℕ) → s < length xs → sum_by of_mark (slice_set xs s false) + of_mark (slice_index_or xs s false) ≡ sum_by of_mark xs
mark_cleared xs s lt = let h : sum_by of_mark (slice_set xs s false) + of_mark (slice_index_or xs s false) ≡ sum_by of_mark xs + 0 = sum_by-set of_mark xs s false false lt in omega (arith, h)

marks_most : (xs : List Bool) → sum_by of_mark xs ≤ length xs * 1
marks_most xs = sum_by-le of_mark 1 xs (λ i d lt. mark_most (slice_index_or xs i d))

-- ---- all together

pub slack_most : (kept : KeptSeats) → AreSeated kept → slack kept ≤ most
slack_most kept seated =
    let n = length kept.opened in
    let h = unheld_most n kept.stores.locks.tables kept.stores.locks.held in
    let k = flags_most kept.cancelled in
    let m = marks_most kept.moved in
    let p : kept.stores.locks.tables * (8 * (n * 1)) ≡ 4096 * (8 * (n * 1)) = ap (λ t. t * (8 * (n * 1))) seated.tables in
    omega (arith, h, k, m, p, seated.few, seated.cancelled, seated.moved)
