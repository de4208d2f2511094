-- The first fault of several rules.
use Rattle.std.proofs.Common.{◌≡◌, ◌≤◌, ◌<◌, ℕ, suc, ◌+◌, Bool, true, false, List, [], ◌∷◌, ◌++◌, length, drop, get_or, Result, Ok, Err, refl, sym, ap, subst, ◌∙◌, arith}
use Rattle.std.proofs.Math.Seq.{drop-cons}
use Rattle.std.proofs.lemmas.List.{length-drop}
use Rattle.pg_values.specs.declared.fault.Fault.{Fault}
use Rattle.pg_values.specs.declared.fault.Refusal.{Refusal}
use Rattle.pg_values.specs.declared.fault.Refusal.TheVariants.{Sql, NoMemory}
use Rattle.pg_values.specs.Refusals.{IsAnswer, faults_in, or_first, unless}
use Rattle.table_binder.specs.declared.raw_bound.RawEdge.{RawEdge}
use Rattle.table_binder.specs.Checks.{repeat_faults, word_faults}

-- where the answer is Ok there is no fault
pub none_found : {T : Type 0} (fs : List Fault) (v w : T) → or_first fs v ≡ Ok w → fs ≡ []
none_found [] v w h = refl
none_found (f ∷ fs) v w h = cc

pub answered : {T : Type 0} (fs : List Fault) (v w : T) → or_first fs v ≡ Ok w → v ≡ w
answered [] v w h = cc
answered (f ∷ fs) v w h = cc

-- the rule is kept where there is no fault
pub kept : (t : Bool) (f : Fault) → unless t f ≡ [] → t ≡ true
kept true f h = refl
kept false f h = cc

-- where no rule is broken, neither the first nor the rest is
pub none_left : (fs rest : List Fault) → fs ++ rest ≡ [] → fs ≡ []
none_left [] rest h = refl
none_left (f ∷ fs) rest h = cc

pub none_behind : (fs rest : List Fault) → fs ++ rest ≡ [] → rest ≡ []
none_behind [] rest h = h
none_behind (f ∷ fs) rest h = cc

-- the fault of the first rules is that of all
pub here : {T U : Type 0} (e : Refusal) (fs rest : List Fault) (u : U) (v : T) → IsAnswer {T = U} (Err e) (or_first fs u) → IsAnswer {T = T} (Err e) (or_first (fs ++ rest) v)
here (Sql f) [] rest u v h = cc
here (Sql f) (g ∷ fs) rest u v h = let same : g ≡ f = cc in ap Err same
here NoMemory fs rest u v h = tt

-- where the first rules are kept the rest decides
pub behind : {T : Type 0} (r : Result T Refusal) (fs rest : List Fault) (v : T) → fs ≡ [] → IsAnswer r (or_first rest v) → IsAnswer r (or_first (fs ++ rest) v)
behind r fs rest v kept h = rw kept h

-- the last of the rules
pub last : {T U : Type 0} (e : Refusal) (fs : List Fault) (u : U) (v : T) → IsAnswer {T = U} (Err e) (or_first fs u) → IsAnswer {T = T} (Err e) (or_first fs v)
last (Sql f) [] u v h = cc
last (Sql f) (g ∷ fs) u v h = let same : g ≡ f = cc in ap Err same
last NoMemory fs u v h = tt

-- ---- eight rules, one behind the other

pub second : {T U : Type 0} (e : Refusal) (a b rest : List Fault) (w : U) (v : T) → a ≡ [] → IsAnswer {T = U} (Err e) (or_first b w) → IsAnswer {T = T} (Err e) (or_first (a ++ (b ++ rest)) v)
second e a b rest w v pa h = behind (Err e) a (b ++ rest) v pa (here e b rest w v h)

pub third : {T U : Type 0} (e : Refusal) (a b c rest : List Fault) (w : U) (v : T) → a ≡ [] → b ≡ [] → IsAnswer {T = U} (Err e) (or_first c w) → IsAnswer {T = T} (Err e) (or_first (a ++ (b ++ (c ++ rest))) v)
third e a b c rest w v pa pb h = behind (Err e) a (b ++ (c ++ rest)) v pa (second e b c rest w v pb h)

pub fourth : {T U : Type 0} (e : Refusal) (a b c d rest : List Fault) (w : U) (v : T) → a ≡ [] → b ≡ [] → c ≡ [] → IsAnswer {T = U} (Err e) (or_first d w) → IsAnswer {T = T} (Err e) (or_first (a ++ (b ++ (c ++ (d ++ rest)))) v)
fourth e a b c d rest w v pa pb pc h = behind (Err e) a (b ++ (c ++ (d ++ rest))) v pa (third e b c d rest w v pb pc h)

pub fifth : {T U : Type 0} (e : Refusal) (a b c d n rest : List Fault) (w : U) (v : T) → a ≡ [] → b ≡ [] → c ≡ [] → d ≡ [] → IsAnswer {T = U} (Err e) (or_first n w) → IsAnswer {T = T} (Err e) (or_first (a ++ (b ++ (c ++ (d ++ (n ++ rest))))) v)
fifth e a b c d n rest w v pa pb pc pd h = behind (Err e) a (b ++ (c ++ (d ++ (n ++ rest)))) v pa (fourth e b c d n rest w v pb pc pd h)

pub sixth : {T U : Type 0} (e : Refusal) (a b c d n l rest : List Fault) (w : U) (v : T) → a ≡ [] → b ≡ [] → c ≡ [] → d ≡ [] → n ≡ [] → IsAnswer {T = U} (Err e) (or_first l w) → IsAnswer {T = T} (Err e) (or_first (a ++ (b ++ (c ++ (d ++ (n ++ (l ++ rest)))))) v)
sixth e a b c d n l rest w v pa pb pc pd pn h = behind (Err e) a (b ++ (c ++ (d ++ (n ++ (l ++ rest))))) v pa (fifth e b c d n l rest w v pb pc pd pn h)

pub seventh : {T U : Type 0} (e : Refusal) (a b c d n l u rest : List Fault) (w : U) (v : T) → a ≡ [] → b ≡ [] → c ≡ [] → d ≡ [] → n ≡ [] → l ≡ [] → IsAnswer {T = U} (Err e) (or_first u w) → IsAnswer {T = T} (Err e) (or_first (a ++ (b ++ (c ++ (d ++ (n ++ (l ++ (u ++ rest))))))) v)
seventh e a b c d n l u rest w v pa pb pc pd pn pl h = behind (Err e) a (b ++ (c ++ (d ++ (n ++ (l ++ (u ++ rest)))))) v pa (sixth e b c d n l u rest w v pb pc pd pn pl h)

pub eighth : {T U : Type 0} (e : Refusal) (a b c d n l u z : List Fault) (w : U) (v : T) → a ≡ [] → b ≡ [] → c ≡ [] → d ≡ [] → n ≡ [] → l ≡ [] → u ≡ [] → IsAnswer {T = U} (Err e) (or_first z w) → IsAnswer {T = T} (Err e) (or_first (a ++ (b ++ (c ++ (d ++ (n ++ (l ++ (u ++ z))))))) v)
eighth e a b c d n l u z w v pa pb pc pd pn pl pu h = rw (pa, pb, pc, pd, pn, pl, pu) (last e z w v h)

pub all_kept : {T : Type 0} (a b c d n l u z : List Fault) (v : T) → a ≡ [] → b ≡ [] → c ≡ [] → d ≡ [] → n ≡ [] → l ≡ [] → u ≡ [] → z ≡ [] → or_first (a ++ (b ++ (c ++ (d ++ (n ++ (l ++ (u ++ z))))))) v ≡ Ok v
all_kept a b c d n l u z v pa pb pc pd pn pl pu pz = rw (pa, pb, pc, pd, pn, pl, pu, pz) refl

-- a fault among what is read is the first of all where there was none before
pub refused : {T V : Type 0} (e : Refusal) (r : Result T Fault) (all rest : List (Result T Fault)) (v : V) → IsAnswer {T = T} (Err e) r → faults_in all ≡ faults_in (r ∷ rest) → IsAnswer {T = V} (Err e) (or_first (faults_in all) v)
refused (Sql f) r all rest v h e = rw (e, h) refl
refused NoMemory r all rest v h e = tt

-- ---- MINVALUE and MAXVALUE

pub word_step : (edges : List RawEdge) (j i : ℕ) (e next : RawEdge) → i ≡ j + 1 → i < length edges → e ≡ get_or edges j e → next ≡ get_or edges i next
    → word_faults (drop j edges) ≡ repeat_faults e next ++ word_faults (drop i edges)
word_step edges j i e next is within at_e at_next =
    let before : j < length edges = omega arith in
    let first : drop j edges ≡ e ∷ drop (suc j) edges = drop-cons edges j e before ∙ ap (λ x. x ∷ drop (suc j) edges) (sym at_e) in
    let second : drop i edges ≡ next ∷ drop (suc i) edges = drop-cons edges i next within ∙ ap (λ x. x ∷ drop (suc i) edges) (sym at_next) in
    let next_is : suc j ≡ i = omega (arith, is) in
    let same : drop (suc j) edges ≡ drop i edges = ap (λ k. drop k edges) next_is in
    rw (first, same, second) refl

-- a word that is repeated leaves the rest to decide
pub word_kept : (edges : List RawEdge) (j i : ℕ) (e next : RawEdge) → i ≡ j + 1 → i < length edges → e ≡ get_or edges j e → next ≡ get_or edges i next
    → repeat_faults e next ≡ [] → word_faults (drop j edges) ≡ word_faults edges → word_faults (drop i edges) ≡ word_faults edges
word_kept edges j i e next is within at_e at_next kept told =
    let step = word_step edges j i e next is within at_e at_next in
    ap (λ fs. fs ++ word_faults (drop i edges)) (sym kept) ∙ sym step ∙ told

-- and one that is not is the fault
pub word_fails : {U V : Type 0} (x : Refusal) (edges : List RawEdge) (j i : ℕ) (e next : RawEdge) (u : U) (v : V) → i ≡ j + 1 → i < length edges → e ≡ get_or edges j e → next ≡ get_or edges i next
    → IsAnswer {T = U} (Err x) (or_first (repeat_faults e next) u) → word_faults (drop j edges) ≡ word_faults edges → IsAnswer {T = V} (Err x) (or_first (word_faults edges) v)
word_fails {U} {V} x edges j i e next u v is within at_e at_next h told =
    let step = word_step edges j i e next is within at_e at_next in
    let P : List Fault → Type 0 = λ fs. IsAnswer {T = V} (Err x) (or_first fs v) in
    subst P (sym step ∙ told) (here x (repeat_faults e next) (word_faults (drop i edges)) u v h)

one_left : (edges : List RawEdge) → length edges ≤ 1 → word_faults edges ≡ []
one_left [] h = refl
one_left (e ∷ []) h = refl
one_left (e ∷ (next ∷ edges)) h = absurd (omega arith)

pub word_end : (edges : List RawEdge) (j : ℕ) → length edges ≤ j + 1 → word_faults (drop j edges) ≡ []
word_end edges j h = one_left (drop j edges) (omega (arith, length-drop j edges))
