-- What has ended stays as it ended.
use Rattle.std.proofs.Common.{◌≡◌, ◌≢◌, ℕ, arith, true, [], ◌∷◌, ◌++◌, refl, ap, sym, subst, ◌∙◌, Option, Some, None, is_none}
use Rattle.std.proofs.lemmas.Grind.{common_steps}
use Rattle.std.proofs.lemmas.Bool.{and_parts}
use Rattle.history.specs.declared.transaction.Fate.TheVariants.{Running}
use Rattle.history.specs.declared.version.End.{End}
use Rattle.history.specs.Transactions.{TxEvents, TxEvent, TxBegan, TxCommitted, TxAborted, fate, was_aborted, IsSound, IsPast}
use Rattle.history.specs.Rows.{RowEvents, LeafAdded, RowBorn, RowEnded, end_in, last_end, counted}
use Rattle.history.specs.History.{History, TxChange, RowChange, tx_events, row_events, end_of, stands}
use Rattle.history.specs.RowsSound.{AreRowsSound}

-- a transaction that has ended keeps its fate
pub settled : (later past : TxEvents) (tx : ℕ) → IsSound (later ++ past) → fate past tx ≢ Running → fate (later ++ past) tx ≡ fate past tx
settled [] past tx sound over = refl
settled (TxBegan s t ∷ later) past tx sound over = settled later past tx sound.2 over
settled (TxCommitted s t ∷ later) past tx sound over = grind (arith, common_steps, settled later past tx sound.2 over, sound.0)
settled (TxAborted s t ∷ later) past tx sound over = grind (arith, common_steps, settled later past tx sound.2 over, sound.0)

pub settled_past : (h past : TxEvents) (tx : ℕ) → IsSound h → IsPast past h → fate past tx ≢ Running → fate h tx ≡ fate past tx
settled_past h past tx sound (later, e) ne = ap (λ g. fate g tx) (sym e) ∙ settled later past tx (subst IsSound (sym e) sound) ne

-- what was aborted stays so
abbrev pub AbortsStay : TxEvents → TxEvents → Type 0
AbortsStay old new = (t : ℕ) → was_aborted old t ≡ true → was_aborted new t ≡ true

pub aborts_stay : (e : TxEvent) (h : TxEvents) → AbortsStay h (e ∷ h)
aborts_stay (TxBegan s t) h x a = a
aborts_stay (TxCommitted s t) h x a = a
aborts_stay (TxAborted s t) h x a = grind (arith, common_steps)

-- where no end counts, none counts later
pub none_stays : (old new : TxEvents) (rows : RowEvents) (k : ℕ) → AbortsStay old new → end_in old rows k ≡ None → end_in new rows k ≡ None
none_stays old new [] k stay none = refl
none_stays old new (LeafAdded l ∷ rows) k stay none = none_stays old new rows k stay none
none_stays old new (RowBorn v ∷ rows) k stay none = none_stays old new rows k stay none
none_stays old new (RowEnded id e ∷ rows) k stay none = grind (arith, common_steps, none_stays old new rows k stay, stay e.by.number)

pub aborts_before : (e : TxEvent) (old new : TxEvents) → AbortsStay (e ∷ old) new → AbortsStay old new
aborts_before (TxBegan s t) old new stay = stay
aborts_before (TxCommitted s t) old new stay = stay
aborts_before (TxAborted s t) old new stay = λ x h. grind (arith, common_steps, stay x)

pub none_from : (o : Option End) → is_none o ≡ true → o ≡ None
none_from None e = refl
none_from (Some x) e = absurd (cc)

-- a version that stands has no end that counts
pub stands_free : (h : History) (k : ℕ) → stands h k ≡ true → end_of h k ≡ None
stands_free h k st = none_from (end_of h k) (and_parts _ (is_none (end_of h k)) st).1

-- the last end is the only one that can count
last_counts : (h : History) (txs : TxEvents) (k : ℕ) → AbortsStay (tx_events h) txs → AreRowsSound h → end_in txs (row_events h) k ≡ counted txs (last_end (row_events h) k)
last_counts [] txs k stay sound = refl
last_counts (TxChange e ∷ h) txs k stay sound = last_counts h txs k (aborts_before e (tx_events h) txs stay) sound
last_counts (RowChange (LeafAdded l) ∷ h) txs k stay sound = last_counts h txs k stay sound.1
last_counts (RowChange (RowBorn v) ∷ h) txs k stay sound = last_counts h txs k stay sound.1
last_counts (RowChange (RowEnded id e) ∷ h) txs k stay sound =
    grind (arith, common_steps, last_counts h txs k stay sound.1, none_stays (tx_events h) txs (row_events h) k stay, stands_free h id sound.0.standing)
last_counts (_ ∷ h) txs k stay sound = last_counts h txs k stay sound

pub end_of-last : (h : History) (k : ℕ) → AreRowsSound h → end_of h k ≡ counted (tx_events h) (last_end (row_events h) k)
end_of-last h k sound = last_counts h (tx_events h) k (λ t a. a) sound
