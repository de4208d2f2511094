-- The locks that are not held, counted, and the numbers of a rank.
use Rattle.std.proofs.Common.{◌≡◌, ◌<◌, ◌≤◌, ℕ, zero, suc, ◌+◌, Bool, true, false, List, inl, inr, refl, ap, sym, subst, ◌∙◌, length, slice_index_or, slice_set, arith}
use Rattle.std.specs.List.{sum_by}
use Rattle.std.proofs.lemmas.List.{set-get_or}
use Rattle.std.proofs.lemmas.Bool.{cases_lt}
use Rattle.std.proofs.lemmas.List.Sums.{sum_by-set, sum_by-le-sum_by}
use Rattle.pg_values.specs.Modes.{every_mode}
use Rattle.pg_values.specs.declared.lock_mode.LockMode.{LockMode}
use Rattle.pg_values.specs.declared.lock_mode.LockMode.TheVariants.{AccessShare, RowShare, RowExclusive, ShareUpdateExclusive, Share, ShareRowExclusive, Exclusive, AccessExclusive}
use Rattle.history.specs.Locks.{LockEvents, holds}
use Rattle.statement_runs.specs.Weight.{of_flag, of_mark, sum_below}
use Rattle.run_ends.specs.StatementRank.{unheld}

-- ---- sums over numbers

sum_mono : (n : ℕ) (f g : ℕ → ℕ) → ((i : ℕ) → f i ≤ g i) → sum_below n f ≤ sum_below n g
sum_mono zero f g le = omega arith
sum_mono (suc n) f g le = let h = sum_mono n f g le in let k = le n in omega (arith, h, k)

pub sum_less : (n i : ℕ) (f g : ℕ → ℕ) → ((j : ℕ) → f j ≤ g j) → i < n → f i < g i → sum_below n f < sum_below n g
sum_less zero i f g le lt less = absurd (omega (arith, lt))
sum_less (suc n) i f g le lt less =
    elim (cases_lt i n) [
      | inl below ↦ let h = sum_less n i f g le below less in let k = le n in omega (arith, h, k)
      | inr above ↦ let same : i ≡ n = omega (arith, lt, above) in let h = sum_mono n f g le in let k = subst (λ j. f j < g j) same less in omega (arith, h, k)
    ]

-- ---- sums over modes

modes_less : (f g : LockMode → ℕ) (m : LockMode) → ((x : LockMode) → f x ≤ g x) → f m < g m → sum_by f every_mode < sum_by g every_mode
modes_less f g AccessShare le less = omega (arith, less, le RowShare, le RowExclusive, le ShareUpdateExclusive, le Share, le ShareRowExclusive, le Exclusive, le AccessExclusive)
modes_less f g RowShare le less = omega (arith, less, le AccessShare, le RowExclusive, le ShareUpdateExclusive, le Share, le ShareRowExclusive, le Exclusive, le AccessExclusive)
modes_less f g RowExclusive le less = omega (arith, less, le RowShare, le AccessShare, le ShareUpdateExclusive, le Share, le ShareRowExclusive, le Exclusive, le AccessExclusive)
modes_less f g ShareUpdateExclusive le less = omega (arith, less, le RowShare, le RowExclusive, le AccessShare, le Share, le ShareRowExclusive, le Exclusive, le AccessExclusive)
modes_less f g Share le less = omega (arith, less, le RowShare, le RowExclusive, le ShareUpdateExclusive, le AccessShare, le ShareRowExclusive, le Exclusive, le AccessExclusive)
modes_less f g ShareRowExclusive le less = omega (arith, less, le RowShare, le RowExclusive, le ShareUpdateExclusive, le Share, le AccessShare, le Exclusive, le AccessExclusive)
modes_less f g Exclusive le less = omega (arith, less, le RowShare, le RowExclusive, le ShareUpdateExclusive, le Share, le ShareRowExclusive, le AccessShare, le AccessExclusive)
modes_less f g AccessExclusive le less = omega (arith, less, le RowShare, le RowExclusive, le ShareUpdateExclusive, le Share, le ShareRowExclusive, le Exclusive, le AccessShare)

-- ---- locks

flag_most : (b : Bool) → of_flag b ≤ 1
flag_most true = omega arith
flag_most false = omega arith

flag_mono : (a b : Bool) → (a ≡ true → b ≡ true) → of_flag b ≤ of_flag a
flag_mono true b keeps = rw (keeps refl) (omega arith)
flag_mono false b keeps = flag_most b

-- nobody lost a lock
abbrev pub Stay : (old new : LockEvents) → Type 0
Stay old new = (s t : ℕ) (m : LockMode) → holds old s t m ≡ true → holds new s t m ≡ true

lacking_mono : (n : ℕ) (old new : LockEvents) (t : ℕ) (m : LockMode) → Stay old new → sum_below n (λ s. of_flag (holds new s t m)) ≤ sum_below n (λ s. of_flag (holds old s t m))
lacking_mono n old new t m stay = sum_mono n (λ s. of_flag (holds new s t m)) (λ s. of_flag (holds old s t m)) (λ s. flag_mono (holds old s t m) (holds new s t m) (stay s t m))

pub unheld_mono : (n tables : ℕ) (old new : LockEvents) → Stay old new → unheld n tables new ≤ unheld n tables old
unheld_mono n tables old new stay =
    sum_mono tables (λ t. sum_by (λ m. sum_below n (λ s. of_flag (holds new s t m))) every_mode) (λ t. sum_by (λ m. sum_below n (λ s. of_flag (holds old s t m))) every_mode)
    (λ t. sum_by-le-sum_by (λ m. sum_below n (λ s. of_flag (holds new s t m))) (λ m. sum_below n (λ s. of_flag (holds old s t m))) every_mode (λ m. lacking_mono n old new t m stay))

pub unheld_less : (n tables : ℕ) (old new : LockEvents) (s t : ℕ) (m : LockMode) → Stay old new → s < n → t < tables → holds old s t m ≡ false → holds new s t m ≡ true → unheld n tables new < unheld n tables old
unheld_less n tables old new s t m stay lt low before after =
    sum_less tables t (λ t. sum_by (λ m. sum_below n (λ s. of_flag (holds new s t m))) every_mode) (λ t. sum_by (λ m. sum_below n (λ s. of_flag (holds old s t m))) every_mode)
    (λ t. sum_by-le-sum_by (λ m. sum_below n (λ s. of_flag (holds new s t m))) (λ m. sum_below n (λ s. of_flag (holds old s t m))) every_mode (λ m. lacking_mono n old new t m stay))
    low
    (modes_less (λ m. sum_below n (λ s. of_flag (holds new s t m))) (λ m. sum_below n (λ s. of_flag (holds old s t m))) m (λ m. lacking_mono n old new t m stay)
    (sum_less n s (λ s. of_flag (holds new s t m)) (λ s. of_flag (holds old s t m)) (λ s. flag_mono (holds old s t m) (holds new s t m) (stay s t m))
    lt (rw (before, after) (omega arith))))

-- ---- flags and marks

pub flag_set_less : (xs : List Bool) (s : ℕ) → s < length xs → slice_index_or xs s false ≡ false → sum_by of_flag (slice_set xs s true) < sum_by of_flag xs
flag_set_less xs s lt off = let h = sum_by-set of_flag xs s true false lt in let k : of_flag (slice_index_or xs s false) ≡ 1 = rw off refl in omega (arith, h, k)

pub mark_cleared : (xs : List Bool) (s : ℕ) → s < length xs → sum_by of_mark (slice_set xs s false) + of_mark (slice_index_or xs s false) ≡ sum_by of_mark xs
mark_cleared xs s lt = let h : sum_by of_mark (slice_set xs s false) + of_mark (slice_index_or xs s false) ≡ sum_by of_mark xs + 0 = sum_by-set of_mark xs s false false lt in omega (arith, h)

-- a flag that is set to what it was
pub flags_same : (xs : List Bool) (s : ℕ) (b : Bool) → slice_index_or xs s false ≡ b → sum_by of_flag (slice_set xs s b) ≡ sum_by of_flag xs
flags_same xs s b is = ap (λ c. sum_by of_flag (slice_set xs s c)) (sym is) ∙ ap (sum_by of_flag) (set-get_or xs s false)

-- ---- sums of four

pub flag_lower : (u w c d m k : ℕ) → w ≤ u → d < c → w + (d + m) + k < u + (c + m) + k
flag_lower u w c d m k a b = omega (arith, a, b)

pub cut_no_higher : (u w c d m k j : ℕ) → w ≤ u → d < c → j ≤ k + 1 → w + (d + m) + j ≤ u + (c + m) + k
cut_no_higher u w c d m k j a b e = omega (arith, a, b, e)

pub lock_no_higher : (u w c d m k : ℕ) → w ≤ u → d ≡ c → w + (d + m) + k ≤ u + (c + m) + k
lock_no_higher u w c d m k a b = omega (arith, a, b)

pub lock_lower : (u w c m p k : ℕ) → w < u → p ≤ m → w + (c + p) + k < u + (c + m) + k
lock_lower u w c m p k a b = omega (arith, a, b)

pub mark_lower : (u w c m p k : ℕ) → w ≤ u → p + 1 ≡ m → w + (c + p) + k < u + (c + m) + k
mark_lower u w c m p k a b = omega (arith, a, b)

pub cut_lower : (u c m k j : ℕ) → j < k → u + (c + m) + j < u + (c + m) + k
cut_lower u c m k j a = omega (arith, a)
