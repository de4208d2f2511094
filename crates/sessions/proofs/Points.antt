-- The points of the sessions together.
use Rattle.std.proofs.Common.{◌≡◌, ◌≢◌, ◌<◌, ◌≤◌, ◌+◌, ◌*◌, ℕ, zero, suc, Bool, List, [], ◌∷◌, length, replicate, slice_index_or, slice_set, refl, ap, sym, ◌∙◌, arith}
use Rattle.std.proofs.Math.Nat.{mul-le-mul_right}
use Rattle.sessions.specs.Commits.{AreAsBefore, OthersAreAsBefore}
use Rattle.sessions.specs.Sessions.{SessionView, new_session}
use Rattle.sessions.specs.Stands.{points_from, weight}
use Rattle.sessions.specs.Weight.{of_statement, of_rest, of_block, points, points_in, weight_of}

-- ---- as before

same_rest : {T : Type 0} (f g : T → Bool) (ts : List T) → ((t : T) → g t ≡ f t) → of_rest g ts ≡ of_rest f ts
same_rest f g [] same = refl
same_rest f g (t ∷ ts) same = ap (λ b. of_statement b + 3 * length ts) (same t)

same_points : {T U : Type 0} (tree : T → U) (f g : ℕ → U → Bool) (s : ℕ) (x : SessionView T) → ((u : U) → g s u ≡ f s u) → points_in g tree s x ≡ points_in f tree s x
same_points tree f g s x same = ap (λ n. of_block x.phase n x.in_block) (same_rest (λ t. f s (tree t)) (λ t. g s (tree t)) x.rest (λ t. same (tree t)))

same_from : {T U : Type 0} (tree : T → U) (f g : ℕ → U → Bool) (s : ℕ) (xs : List (SessionView T)) → ((r : ℕ) (u : U) → s ≤ r → g r u ≡ f r u) → points_from g tree s xs ≡ points_from f tree s xs
same_from tree f g s [] same = refl
same_from tree f g s (x ∷ xs) same =
    let a : points_in g tree s x ≡ points_in f tree s x = same_points tree f g s x (λ u. same s u (omega arith)) in
    let b : points_from g tree (suc s) xs ≡ points_from f tree (suc s) xs = same_from tree f g (suc s) xs (λ r u le. same r u (omega arith)) in
    ap (λ n. n + points_from g tree (suc s) xs) a ∙ ap (λ n. points_in f tree s x + n) b

pub all_same : {T U : Type 0} (tree : T → U) (f g : ℕ → U → Bool) (xs : List (SessionView T)) → AreAsBefore f g → points_from g tree 0 xs ≡ points_from f tree 0 xs
all_same tree f g xs same = same_from tree f g 0 xs (λ r u le. same r u)

pub slack_lower : {T U : Type 0} (most a b : ℕ) (tree : T → U) (f g : ℕ → U → Bool) (xs : List (SessionView T)) → AreAsBefore f g → a < b → weight most a g tree xs < weight most b f tree xs
slack_lower most a b tree f g xs same less = let e = ap (λ n. n * (most + 1)) (all_same tree f g xs same) in omega (arith, e, less)

-- ---- one session goes on

one_from : {T U : Type 0} (tree : T → U) (f g : ℕ → U → Bool) (s i r : ℕ) (xs : List (SessionView T)) (x y : SessionView T) → r ≡ s + i → i < length xs → x ≡ slice_index_or xs i x → OthersAreAsBefore r f g
    → points_from g tree s (slice_set xs i y) + points_in f tree r x ≡ points_from f tree s xs + points_in g tree r y
one_from tree f g s i r [] x y at lt is others = absurd (omega arith)
one_from tree f g s zero r (z ∷ zs) x y at lt is others =
    let e : s ≡ r = omega arith in
    let a : points_in g tree s y ≡ points_in g tree r y = ap (λ n. points_in g tree n y) e in
    let b : points_in f tree r x ≡ points_in f tree s z = ap (λ n. points_in f tree n x) (sym e) ∙ ap (λ w. points_in f tree s w) is in
    let c : points_from g tree (suc s) zs ≡ points_from f tree (suc s) zs = same_from tree f g (suc s) zs (λ k u le. others k u (λ same. absurd (omega (arith, same, e)))) in
    omega (arith, a, b, c)
one_from tree f g s (suc i) r (z ∷ zs) x y at lt is others =
    let a : points_in g tree s z ≡ points_in f tree s z = same_points tree f g s z (λ u. others s u (λ same. absurd (omega (arith, same)))) in
    let b = one_from tree f g (suc s) i r zs x y (omega arith) (omega arith) is others in
    omega (arith, a, b)

pub one_set : {T U : Type 0} (tree : T → U) (f g : ℕ → U → Bool) (s : ℕ) (xs : List (SessionView T)) (x y : SessionView T) → s < length xs → x ≡ slice_index_or xs s x → OthersAreAsBefore s f g
    → points_from g tree 0 (slice_set xs s y) + points_in f tree s x ≡ points_from f tree 0 xs + points_in g tree s y
one_set tree f g s xs x y lt is others = one_from tree f g 0 s s xs x y (omega arith) lt is others

-- ---- new sessions

points_new : {T U : Type 0} (tree : T → U) (f : ℕ → U → Bool) (s n : ℕ) → points_from f tree s (replicate n (new_session {T = T})) ≡ 0
points_new tree f s zero = refl
points_new tree f s (suc n) = let rest = points_new tree f (suc s) n in omega (arith, rest)

pub new_weight : {T U : Type 0} (most a n k : ℕ) (tree : T → U) (f : ℕ → U → Bool) (xs : List (SessionView T)) → xs ≡ replicate k new_session → a ≤ most → weight most a f tree xs ≤ (n + 3) * (most + 1)
new_weight most a n k tree f xs is few =
    let h = ap (λ j. j * (most + 1)) (ap (points_from f tree 0) is ∙ points_new tree f 0 k) in
    let l : 1 * (most + 1) ≤ (n + 3) * (most + 1) = mul-le-mul_right (most + 1) (omega arith) in
    omega (arith, h, l)
