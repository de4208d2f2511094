-- What a session has locked its transaction has locked, in the words of soundness.
use Rattle.std.proofs.Common.{◌≡◌, ℕ, Some, inl, inr, sym, ◌∙◌}
use Rattle.history.specs.Transactions.{open_of}
use Rattle.history.specs.History.{History, tx_events, catalogue_events, lock_events}
use Rattle.history.specs.Legal.{IsLegal}
use Rattle.history.specs.Transactions.{IsRunning}
use Rattle.history.proofs.Open.{open_runs}
use Rattle.soundness.specs.Worlds.{table_in}
use Rattle.soundness.specs.Parts.{OwnsBy, WritesBy, GuardsBy}
use Rattle.soundness.specs.Legal.{OwnsNow, WritesNow, GuardsNow}
use Rattle.soundness.proofs.Worlds.{same_refl, view_own}
use Rattle.soundness.proofs.Sound.{sound_of}
use Rattle.legal_statements.specs.Locked.{IsOwned, IsWritable, IsGuarded}

-- the session's open transaction runs
pub session_runs : (h : History) (session t : ℕ) → IsLegal h → open_of (tx_events h) session ≡ Some t → IsRunning (tx_events h) t
session_runs h session t legal own = open_runs (tx_events h) session t (sound_of h legal) own

one_of_them : (h : History) (session t u : ℕ) → open_of (tx_events h) session ≡ Some t → open_of (tx_events h) session ≡ Some u → u ≡ t
one_of_them h session t u a b = let both : Some u ≡ Some t = sym b ∙ a in cc

own_by : (h : History) (session t x : ℕ) → open_of (tx_events h) session ≡ Some t → IsOwned h session x → OwnsBy (tx_events h) (catalogue_events h) (lock_events h) t x
own_by h session t x own (inl held) = inl (session, own, held)
own_by h session t x own (inr made) = inr (made.0, one_of_them h session t (table_in (catalogue_events h) x).by.number own made.1)

write_by : (h : History) (session t x : ℕ) → open_of (tx_events h) session ≡ Some t → IsWritable h session x → WritesBy (tx_events h) (catalogue_events h) (lock_events h) t x
write_by h session t x own (inl held) = inl (session, own, held)
write_by h session t x own (inr owned) = inr (own_by h session t x own owned)

guard_by : (h : History) (session t x : ℕ) → open_of (tx_events h) session ≡ Some t → IsGuarded h session x → GuardsBy (tx_events h) (catalogue_events h) (lock_events h) t x
guard_by h session t x own (inl held) = inl (session, own, held)
guard_by h session t x own (inr owned) = inr (own_by h session t x own owned)

pub owns_of : (h : History) (session t x : ℕ) → IsLegal h → open_of (tx_events h) session ≡ Some t → IsOwned h session x → OwnsNow h t x
owns_of h session t x legal own is = (t, same_refl (tx_events h) t, view_own (tx_events h) t (session_runs h session t legal own).runs, own_by h session t x own is)

pub writes_of : (h : History) (session t x : ℕ) → IsLegal h → open_of (tx_events h) session ≡ Some t → IsWritable h session x → WritesNow h t x
writes_of h session t x legal own is = (t, same_refl (tx_events h) t, view_own (tx_events h) t (session_runs h session t legal own).runs, write_by h session t x own is)

pub guards_of : (h : History) (session t x : ℕ) → IsLegal h → open_of (tx_events h) session ≡ Some t → IsGuarded h session x → GuardsNow h t x
guards_of h session t x legal own is = (t, same_refl (tx_events h) t, view_own (tx_events h) t (session_runs h session t legal own).runs, guard_by h session t x own is)
