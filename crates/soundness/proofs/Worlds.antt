-- Worlds, and the world of one session's view. Here alone proofs look at what one transaction is.
use Rattle.std.proofs.Common.{◌≡◌, ◌≢◌, ℕ, ◌||◌, ◌&&◌, arith, Bool, true, false, ◌⊎◌, inl, inr, refl, ap, sym, ◌∙◌}
use Rattle.std.proofs.lemmas.Grind.{common_steps}
use Rattle.std.proofs.lemmas.Bool.{cases_Bool}
use Rattle.std.proofs.lemmas.Bool.Decides.{nat_tests}
use Rattle.history.specs.declared.transaction.Fate.{Fate}
use Rattle.history.specs.declared.transaction.Fate.TheVariants.{Running, Committed, Aborted}
use Rattle.history.specs.declared.catalogue.Entry.{Entry}
use Rattle.history.specs.Transactions.{TxEvents, fate, is_committed, IsRunning}
use Rattle.history.specs.Catalogue.{CatalogueEvents}
use Rattle.soundness.specs.Worlds.{World, same_tx, is_running, IsWorld, IsPart, view, Present}

pub both_ways : (b : Bool) → b ≡ true → b ≡ false → ⊥
both_ways b p q = cc

-- what one transaction is: the five laws that all else rests on

pub same_refl : (txs : TxEvents) (t : ℕ) → same_tx txs t t ≡ true
unfolding same_tx
same_refl txs t = grind (arith, nat_tests)

pub same_sym : (txs : TxEvents) (t k : ℕ) → same_tx txs t k ≡ true → same_tx txs k t ≡ true
unfolding same_tx
same_sym txs t k is = grind (arith, nat_tests)

pub same_trans : (txs : TxEvents) (t k l : ℕ) → same_tx txs t k ≡ true → same_tx txs k l ≡ true → same_tx txs t l ≡ true
unfolding same_tx
same_trans txs t k l a b = grind (arith, nat_tests)

-- while one part of a transaction runs, no other is committed
pub together : (txs : TxEvents) (t k : ℕ) → fate txs t ≡ Running → same_tx txs t k ≡ true → fate txs k ≢ Committed
unfolding same_tx
together txs t k runs same is =
    let e : t ≡ k = grind (arith, nat_tests) in
    let bad : Running ≡ Committed = sym runs ∙ ap (fate txs) e ∙ is in
    cc

-- whoever acts is of no world without the rest of its transaction
pub own_inside : (txs : TxEvents) (w : World) (t k : ℕ) → IsWorld txs w → IsRunning txs t → w t ≡ true → same_tx txs t k ≡ true → fate txs k ≡ Running → w k ≡ true
unfolding same_tx
own_inside txs w t k world acts own same runs = let e : t ≡ k = grind (arith, nat_tests) in ap w (sym e) ∙ own

-- the worlds that are named

pub view_world : (txs : TxEvents) (t : ℕ) → IsWorld txs (view txs t)
view_world txs t = record {
  committed = λ k is. rw is refl;
  aborted = λ k is. rw is (grind (arith, common_steps));
}

-- what is committed alone
abbrev pub committed_only : TxEvents → World
committed_only txs k = is_committed (fate txs k)

pub committed_world : (txs : TxEvents) → IsWorld txs (committed_only txs)
committed_world txs = record { committed = λ k is. rw is refl; aborted = λ k is. rw is refl }

-- all that is not aborted
abbrev pub alive : TxEvents → World
alive txs k = is_committed (fate txs k) || is_running (fate txs k)

pub alive_world : (txs : TxEvents) → IsWorld txs (alive txs)
alive_world txs = record { committed = λ k is. rw is refl; aborted = λ k is. rw is refl }

-- what is committed, and of one transaction what the world has
abbrev pub snapshot_world : TxEvents → ℕ → World → World
snapshot_world txs t w k = is_committed (fate txs k) || (same_tx txs t k && w k)

pub own_world : (txs : TxEvents) (t : ℕ) (w : World) → IsWorld txs w → IsWorld txs (snapshot_world txs t w)
own_world txs t w world = record {
  committed = λ k is. rw is refl;
  aborted = λ k is. let out : w k ≡ false = world.aborted k is in rw (is, out) (grind (arith, common_steps));
}

part_by : (f : Fate) (b c : Bool) → (f ≡ Committed → c ≡ true) → (is_committed f || (b && c)) ≡ true → c ≡ true
part_by Committed b c into is = into refl
part_by Running b c into is = grind (arith, common_steps)
part_by Aborted b c into is = grind (arith, common_steps)

or_cases : (a b c : Bool) → (a || (b && c)) ≡ true → (a ≡ true) ⊎ (b ≡ true)
or_cases true b c is = inl refl
or_cases false true c is = inr refl
or_cases false false c is = absurd (cc)

pub committed_of : (f : Fate) → is_committed f ≡ true → f ≡ Committed
committed_of Running e = absurd (cc)
committed_of Committed e = refl
committed_of Aborted e = absurd (cc)

-- of a transaction of which a part is committed, what counts in a world is committed
whole_by : (txs : TxEvents) (w : World) (k l : ℕ) → IsWorld txs w → (f : Fate) → fate txs l ≡ f → same_tx txs k l ≡ true → fate txs k ≡ Committed → w l ≡ true → is_committed f ≡ true
whole_by txs w k l world Committed at same is counts = refl
whole_by txs w k l world Running at same is counts = absurd (together txs l k at (same_sym txs k l same) is)
whole_by txs w k l world Aborted at same is counts = absurd (both_ways (w l) counts (world.aborted l at))

pub own_part : (txs : TxEvents) (t : ℕ) (w : World) → IsWorld txs w → IsPart txs (snapshot_world txs t w) w
own_part txs t w world = record {
  within = λ k is. part_by (fate txs k) (same_tx txs t k) (w k) (world.committed k) is;
  whole = λ k l same small large. elim (or_cases (is_committed (fate txs k)) (same_tx txs t k) (w k) small) [
    | inl y ↦ let e = whole_by txs w k l world (fate txs l) refl same (committed_of (fate txs k) y) large in rw e refl
    | inr y ↦ let e = same_trans txs t k l y same in rw (e, large) (grind (arith, common_steps))
  ];
}

-- what is committed alone is a part of each world
pub committed_part : (txs : TxEvents) (w : World) → IsWorld txs w → IsPart txs (committed_only txs) w
committed_part txs w world = record {
  within = λ k is. world.committed k (committed_of (fate txs k) is);
  whole = λ k l same small large. whole_by txs w k l world (fate txs l) refl same (committed_of (fate txs k) small) large;
}

-- what counts in a world

split_by : (f : Fate) (s b : Bool) → (f ≡ Aborted → b ≡ false) → b ≡ true → ((is_committed f || (s && is_running f)) ≡ true) ⊎ ((f ≡ Running) × (s ≡ false))
split_by Committed s b out is = inl refl
split_by Aborted s b out is = absurd (both_ways b is (out refl))
split_by Running true b out is = inl refl
split_by Running false b out is = inr (refl, refl)

-- it counts for the session, or is of another transaction that runs
pub split : (txs : TxEvents) (w : World) (t k : ℕ) → IsWorld txs w → w k ≡ true → (view txs t k ≡ true) ⊎ ((fate txs k ≡ Running) × (same_tx txs t k ≡ false))
split txs w t k world is = split_by (fate txs k) (same_tx txs t k) (w k) (world.aborted k) is

inside_by : (f : Fate) (s b : Bool) → (f ≡ Committed → b ≡ true) → (s ≡ true → f ≡ Running → b ≡ true) → (is_committed f || (s && is_running f)) ≡ true → b ≡ true
inside_by Committed s b c own is = c refl
inside_by Running true b c own is = own refl refl
inside_by Running false b c own is = absurd (cc)
inside_by Aborted true b c own is = absurd (cc)
inside_by Aborted false b c own is = absurd (cc)

-- the view of whoever acts is a part of each world that it is in
pub inside : (txs : TxEvents) (w : World) (t : ℕ) → IsWorld txs w → IsRunning txs t → w t ≡ true → (k : ℕ) → view txs t k ≡ true → w k ≡ true
inside txs w t world acts own k is = inside_by (fate txs k) (same_tx txs t k) (w k) (world.committed k) (own_inside txs w t k world acts own) is

pub outside : (txs : TxEvents) (w : World) (t k : ℕ) → IsWorld txs w → IsRunning txs t → w t ≡ true → w k ≡ false → view txs t k ≡ false
outside txs w t k world acts own not_in = elim (cases_Bool (view txs t k)) [
  | inl y ↦ absurd (both_ways (w k) (inside txs w t world acts own k y) not_in)
  | inr n ↦ n
]

-- what is present in a world that a transaction is in, and counts for it, is present for it
pub present_own : (txs : TxEvents) (cats : CatalogueEvents) (w : World) (t : ℕ) (e : Entry) → IsWorld txs w → IsRunning txs t → w t ≡ true → Present cats w e → view txs t e.by.number ≡ true → Present cats (view txs t) e
present_own txs cats w t e world acts own p counts = (p.0, counts, λ u is. outside txs w t u world acts own (p.2 u is))

pub view_own : (txs : TxEvents) (t : ℕ) → fate txs t ≡ Running → view txs t t ≡ true
view_own txs t runs = rw (runs, same_refl txs t) refl

pub same_false : (txs : TxEvents) (t u q r : ℕ) → same_tx txs t q ≡ true → same_tx txs u r ≡ true → same_tx txs t u ≡ false → same_tx txs q r ≡ false
same_false txs t u q r a b other = elim (cases_Bool (same_tx txs q r)) [
  | inl y ↦ absurd (both_ways (same_tx txs t u) (same_trans txs t r u (same_trans txs t q r a y) (same_sym txs u r b)) other)
  | inr n ↦ n
]

runs_by : (f : Fate) (b : Bool) → (f ≡ Committed → ⊥) → (f ≡ Aborted → b ≡ false) → b ≡ true → f ≡ Running
runs_by Running b c a is = refl
runs_by Committed b c a is = absurd (c refl)
runs_by Aborted b c a is = absurd (both_ways b is (a refl))

-- what counts in a world, of a transaction that runs, runs
pub runs_too : (txs : TxEvents) (w : World) (t q : ℕ) → IsWorld txs w → fate txs t ≡ Running → same_tx txs t q ≡ true → w q ≡ true → fate txs q ≡ Running
runs_too txs w t q world runs same counts = runs_by (fate txs q) (w q) (together txs t q runs same) (world.aborted q) counts

pub other_sym : (txs : TxEvents) (t u : ℕ) → same_tx txs t u ≡ false → same_tx txs u t ≡ false
other_sym txs t u other = elim (cases_Bool (same_tx txs u t)) [
  | inl y ↦ absurd (both_ways (same_tx txs t u) (same_sym txs u t y) other)
  | inr n ↦ n
]
