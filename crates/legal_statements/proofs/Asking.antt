-- What comes of asking may follow.
use Rattle.std.proofs.Common.{◌≡◌, ℕ, ◌++◌, refl, map}
use Rattle.pg_values.specs.declared.ids.TableNo.{TableNo}
use Rattle.pg_values.specs.declared.lock_mode.LockMode.{LockMode}
use Rattle.history.specs.declared.wait.Wanted.{Wanted}
use Rattle.history.specs.declared.wait.Wanted.TheVariants.{Lock, Others}
use Rattle.history.specs.LocksSound.{AreLocksSound}
use Rattle.history.specs.History.{History, LockChange, tx_events, lock_events, catalogue_events}
use Rattle.soundness.specs.Parts.{IsKnown}
use Rattle.soundness.proofs.Sound.{locks_sound_of}
use Rattle.lock_table.specs.Asked.{AskedView, AtOnce, WaitsBehind, ClosesCycle, asked, events_of}
use Rattle.lock_table.proofs.MayCome.{may_come}
use Rattle.legal_statements.specs.Follows.{MayFollow}
use Rattle.legal_statements.specs.Laws.{AskedMayFollow}
use Rattle.legal_statements.proofs.Following.{no_command}

events_follow : (h : History) (s : ℕ) (w : Wanted) (v : AskedView) → AreLocksSound (events_of s w v ++ lock_events h)
    → ((table : TableNo) (m : LockMode) → w ≡ Lock table m → IsKnown (tx_events h) (catalogue_events h) s table.number) → MayFollow (map LockChange (events_of s w v)) h
events_follow h s (Lock table m) AtOnce sound known = (record { legal = sound.0; in_order = no_command h; permitted = known table m refl }, tt)
events_follow h s (Others what) AtOnce sound known = tt
events_follow h s (Lock table m) (WaitsBehind others) sound known = (record { legal = sound.0; in_order = no_command h; permitted = known table m refl }, tt)
events_follow h s (Others what) (WaitsBehind others) sound known = (record { legal = sound.0; in_order = no_command h; permitted = tt }, tt)
events_follow h s (Lock table m) (ClosesCycle cycle) sound known = tt
events_follow h s (Others what) (ClosesCycle cycle) sound known = tt

pub asked_may_follow : AskedMayFollow
asked_may_follow h s w legal low idle known =
    events_follow h s w (asked (lock_events h) s w) (may_come (lock_events h) s w (locks_sound_of h legal) low idle) known
