-- A lock table with no lock and no wait.
use Rattle.std.proofs.Common.{◌≡◌, ℕ, zero, suc, ◌≤◌, List, [], length, slice_index_or, replicate, Option, None, refl, arith}
use Rattle.pg_values.specs.declared.session_set.SessionSet.{SessionSet}
use Rattle.history.specs.declared.wait.Wanted.{Wanted}
use Rattle.lock_table.specs.Stands.{IsKept, StandsFor, kept_of}
use Rattle.lock_table.proofs.Taken.{no_bit}

abbrev nothing : Option Wanted
nothing = None

-- nobody waits
pub no_wait : (n s : ℕ) → slice_index_or (replicate n nothing) s nothing ≡ nothing
no_wait zero s = refl
no_wait (suc n) zero = refl
no_wait (suc n) (suc s) = no_wait n s

pub idle_kept : (tables : ℕ) (held : List SessionSet) (waits : List (Option Wanted)) (queue : List ℕ) → length waits ≤ 65 → ((s : ℕ) → slice_index_or waits s None ≡ None) → queue ≡ [] → IsKept (kept_of tables held waits queue)
idle_kept tables held waits queue few idle none = rw none (record {
  few = few;
  apart = λ i j d lt within. absurd (omega arith);
  each = λ s. rw (idle s) refl;
  known = λ s table m e. absurd (let w = idle s in cc);
})

pub idle_stands : (tables : ℕ) (held : List SessionSet) (waits : List (Option Wanted)) (queue : List ℕ) → held ≡ [] → ((s : ℕ) → slice_index_or waits s None ≡ None) → queue ≡ [] → StandsFor (kept_of tables held waits queue) []
idle_stands tables held waits queue no_lock idle none = record {
  sound = tt;
  tells = record {
    held = λ s table m. rw no_lock (no_bit s);
    wants = idle;
    queue = none;
  };
}
