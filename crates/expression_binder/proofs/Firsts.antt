-- The first fault of several rules.
use Rattle.std.proofs.Common.{◌≡◌, List, [], ◌∷◌, ◌++◌, Result, Ok, Err, refl, sym, ap}
use Rattle.pg_values.specs.declared.fault.Fault.{Fault}
use Rattle.pg_values.specs.declared.fault.Refusal.{Refusal}
use Rattle.pg_values.specs.declared.fault.Refusal.TheVariants.{Sql, NoMemory}
use Rattle.pg_values.specs.Refusals.{IsAnswer}
use Rattle.expression_binder.specs.Firsts.{or_first, IsAnswerBy}

-- where the answer is Ok there is no fault
pub none_found : {T : Type 0} (fs : List Fault) (v w : T) → or_first fs v ≡ Ok w → fs ≡ []
none_found [] v w h = refl
none_found (f ∷ fs) v w h = cc

-- the fault of the first rules is that of all
pub here : {T U : Type 0} (e : Refusal) (fs rest : List Fault) (u : U) (v : T) → IsAnswer {T = U} (Err e) (or_first fs u) → IsAnswer {T = T} (Err e) (or_first (fs ++ rest) v)
here (Sql f) [] rest u v h = cc
here (Sql f) (g ∷ fs) rest u v h = let same : g ≡ f = cc in ap Err same
here NoMemory fs rest u v h = tt

-- and that of other answers, too
pub first_still : {T U : Type 0} (e : Refusal) (fs : List Fault) (u : U) (v : T) → IsAnswer {T = U} (Err e) (or_first fs u) → IsAnswer {T = T} (Err e) (or_first fs v)
first_still (Sql f) [] u v h = cc
first_still (Sql f) (g ∷ fs) u v h = let same : g ≡ f = cc in ap Err same
first_still NoMemory fs u v h = tt

-- and where there is none another value is the answer
pub value_still : {T U : Type 0} (fs : List Fault) (u w : U) (v x : T) → or_first fs u ≡ Ok w → x ≡ v → or_first fs v ≡ Ok x
value_still [] u w v x h e = ap Ok (sym e)
value_still (f ∷ fs) u w v x h e = cc

-- where the first rules are kept the rest decides
pub behind : {T : Type 0} (r : Result T Refusal) (fs rest : List Fault) (v : T) → fs ≡ [] → IsAnswer r (or_first rest v) → IsAnswer r (or_first (fs ++ rest) v)
behind r fs rest v kept h = rw kept h

-- the same for two rules before the rest
pub behind_two : {T : Type 0} (r : Result T Refusal) (a b rest : List Fault) (v : T) → a ≡ [] → b ≡ [] → IsAnswer r (or_first rest v) → IsAnswer r (or_first (a ++ (b ++ rest)) v)
behind_two r a b rest v p q h = behind r a (b ++ rest) v p (behind r b rest v q h)

-- answers that are built: a fault of the first part
pub here_by : {T U V W : Type 0} (f : V → W) (g : T → U) (e : Refusal) (fs rest : List Fault) (w : W) (u : U) → IsAnswerBy {T = V} {U = W} f (Err e) (or_first fs w) → IsAnswerBy {T = T} {U = U} g (Err e) (or_first (fs ++ rest) u)
here_by f g (Sql e) [] rest w u h = cc
here_by f g (Sql e) (x ∷ fs) rest w u h = let same : x ≡ e = cc in ap Err same
here_by f g NoMemory fs rest w u h = tt

-- and what an answer that is built is worth
pub value_of : {U : Type 0} (fs : List Fault) (u w : U) → or_first fs u ≡ Ok w → (fs ≡ []) × (u ≡ w)
value_of [] u w h = (refl, cc)
value_of (f ∷ fs) u w h = cc
