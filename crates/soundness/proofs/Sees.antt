-- What a snapshot sees, and what it sees in a world. With Worlds and Txs this file alone knows what one transaction is.
use Rattle.std.proofs.Common.{◌≡◌, ℕ, ◌==◌, ◌||◌, ◌&&◌, nat_lt, arith, Bool, true, false, ◌⊎◌, inl, inr, refl, ap, ◌∙◌}
use Rattle.std.proofs.lemmas.Grind.{common_steps}
use Rattle.std.proofs.lemmas.Bool.Decides.{nat_tests}
use Rattle.history.specs.declared.transaction.Fate.TheVariants.{Committed}
use Rattle.history.specs.Transactions.{TxEvents, fate, is_committed}
use Rattle.history.specs.Snapshots.{TakenSnapshot, sees}
use Rattle.soundness.specs.Worlds.{World, same_tx, IsWorld}
use Rattle.soundness.specs.Shown.{sees_in}
use Rattle.soundness.proofs.Worlds.{committed_of}

out_of : (a b c d : Bool) → (a || (b && (c && d))) ≡ true → (a || (b && d)) ≡ true
out_of a b c d is = grind (arith, common_steps)

into : (a b c d : Bool) → c ≡ true → (a || (b && (c && d))) ≡ false → (a || (b && d)) ≡ false
into a b c d counts is = grind (arith, common_steps)

-- what it sees in a world, it sees
pub seen_of : (txs : TxEvents) (w : World) (s : TakenSnapshot) (t c : ℕ) → IsWorld txs w → sees_in txs w s t c ≡ true → sees txs s t c ≡ true
unfolding same_tx
seen_of txs w s t c world is = out_of (is_committed (fate s.past t)) (t == s.tx) (w t) (nat_lt c s.cmd) is

-- what counts in the world and it does not see there, it does not see
pub unseen_of : (txs : TxEvents) (w : World) (s : TakenSnapshot) (t c : ℕ) → w t ≡ true → sees_in txs w s t c ≡ false → sees txs s t c ≡ false
unfolding same_tx
unseen_of txs w s t c counts is = into (is_committed (fate s.past t)) (t == s.tx) (w t) (nat_lt c s.cmd) counts is

-- what was committed at its place is so now
abbrev pub IsOlder : TxEvents → TakenSnapshot → Type 0
IsOlder txs s = (t : ℕ) → fate s.past t ≡ Committed → fate txs t ≡ Committed

sees_cases : (a b d : Bool) → (a || (b && d)) ≡ true → (a ≡ true) ⊎ (b ≡ true)
sees_cases true b d is = inl refl
sees_cases false true d is = inr refl
sees_cases false false d is = absurd (cc)

-- what it sees counts in each world that its transaction is in
pub counts_in : (txs : TxEvents) (w : World) (s : TakenSnapshot) (t c : ℕ) → IsWorld txs w → w s.tx ≡ true → IsOlder txs s → sees txs s t c ≡ true → w t ≡ true
counts_in txs w s t c world own old is = elim (sees_cases (is_committed (fate s.past t)) (t == s.tx) (nat_lt c s.cmd) is) [
  | inl y ↦ world.committed t (old t (committed_of (fate s.past t) y))
  | inr y ↦ let e : t ≡ s.tx = grind (arith, nat_tests) in ap w e ∙ own
]

in_world : (a b c d : Bool) → c ≡ true → (a || (b && d)) ≡ true → (a || (b && (c && d))) ≡ true
in_world a b c d own is = grind (arith, common_steps)

-- and it sees it there
pub seen_in : (txs : TxEvents) (w : World) (s : TakenSnapshot) (t c : ℕ) → w t ≡ true → sees txs s t c ≡ true → sees_in txs w s t c ≡ true
unfolding same_tx
seen_in txs w s t c counts is = in_world (is_committed (fate s.past t)) (t == s.tx) (w t) (nat_lt c s.cmd) counts is
