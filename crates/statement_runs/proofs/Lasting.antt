-- What is left to a statement that waits is left to it still, whatever its run does.
use Rattle.std.proofs.Common.{◌≡◌, ◌≢◌, ℕ, ◌∷◌, ◌++◌, inl, inr, refl, sym, ◌∙◌, arith, Option, Some, None}
use Rattle.std.proofs.lemmas.Grind.{common_steps}
use Rattle.std.proofs.lemmas.Bool.{cases_eq}
use Rattle.std.proofs.lemmas.Bool.Decides.{nat_tests}
use Rattle.history.specs.Transactions.{TxEvent, TxEvents, TxBegan, next_tx, open_of}
use Rattle.history.specs.History.{History, tx_events}
use Rattle.stores.specs.Events.{begun, ended, let_go, resumed, withdrawn}
use Rattle.statement_steps.specs.Attempts.{CanGoOn}
use Rattle.statement_steps.specs.Gathered.{RowsLeft, AreLeft}
use Rattle.statement_steps.specs.Waiting.{Since}
use Rattle.statement_steps.specs.declared.rest.Rest.{Rest}
use Rattle.statement_steps.specs.declared.rest.Rest.TheVariants.{Rows, Detach}
use Rattle.statement_steps.proofs.Lasting.{are_left_on, are_left_over}
use Rattle.statement_steps.proofs.Numbers.{Ends, Own, Other}

open_own : (txs : TxEvents) (s r t : ℕ) → s ≡ r → open_of (TxBegan s t ∷ txs) r ≡ Some t
open_own txs s r t same = grind (arith, common_steps, nat_tests, same)

open_other : (txs : TxEvents) (s r t : ℕ) → s ≢ r → open_of (TxBegan s t ∷ txs) r ≡ open_of txs r
open_other txs s r t other = grind (arith, common_steps, nat_tests, other)

-- the transaction that begins is none that has begun
left_begun : (s r : ℕ) (h : History) (x : RowsLeft) → AreLeft h r x → AreLeft (begun h s ++ h) r x
left_begun s r h x its =
    let n = next_tx (tx_events h) in
    elim (cases_eq s r) [
      | inl same ↦ are_left_over (begun h s) h r x (λ own.
          let both : Some n ≡ Some x.by.number = sym (open_own (tx_events h) s r n same) ∙ own in
          let number : n ≡ x.by.number = (let c = both in cc) in
          let lt = its.begun in
          omega (arith, number, lt)) its
      | inr other ↦ are_left_on h (begun h s ++ h) r x (record { events = begun h s; is = refl; same = open_other (tx_events h) s r n other; others = λ t own. (tt, tt) }) its
    ]

pub begun_still : (s r : ℕ) (h : History) (rest : Option Rest) → CanGoOn h r rest → CanGoOn (begun h s ++ h) r rest
begun_still s r h None its = tt
begun_still s r h (Some (Rows x)) its = left_begun s r h x its
begun_still s r h (Some (Detach d)) its = tt

left_ended : (e : TxEvent) (s r : ℕ) (h : History) (x : RowsLeft) → Ends e (tx_events h) r → AreLeft h r x → AreLeft (ended e s ++ h) r x
left_ended e s r h x (Own none) its = are_left_over (ended e s) h r x (λ own. let both : None ≡ Some x.by.number = sym none ∙ own in cc) its
left_ended e s r h x (Other same) its = are_left_on h (ended e s ++ h) r x (record { events = ended e s; is = refl; same = same; others = λ t own. (tt, (tt, (tt, (tt, (tt, tt))))) }) its

pub ended_still : (e : TxEvent) (s r : ℕ) (h : History) (rest : Option Rest) → Ends e (tx_events h) r → CanGoOn h r rest → CanGoOn (ended e s ++ h) r rest
ended_still e s r h None ends its = tt
ended_still e s r h (Some (Rows x)) ends its = left_ended e s r h x ends its
ended_still e s r h (Some (Detach d)) ends its = tt

pub since_resumed : (r s : ℕ) (h : History) → Since r h (resumed s ++ h)
since_resumed r s h = record { events = resumed s; is = refl; same = refl; others = λ t own. (tt, tt) }

pub since_withdrawn : (r s : ℕ) (h : History) → Since r h (withdrawn s ++ h)
since_withdrawn r s h = record { events = withdrawn s; is = refl; same = refl; others = λ t own. (tt, tt) }

pub since_let_go : (r s : ℕ) (h : History) → Since r h (let_go s ++ h)
since_let_go r s h = record { events = let_go s; is = refl; same = refl; others = λ t own. (tt, (tt, tt)) }
