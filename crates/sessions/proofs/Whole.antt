-- Sessions in their list.
use Rattle.std.proofs.Common.{◌≡◌, ◌≤◌, ◌<◌, ◌+◌, ◌*◌, ◌==◌, ℕ, zero, suc, Bool, true, false, List, [], ◌∷◌, None, map, length, replicate, slice_index_or, slice_set, refl, ap, sym, ◌∙◌, arith, suc-mul, Result, Ok, Err, IfOk, OnOk}
use Rattle.std.proofs.lemmas.List.{map-set, get_or-map, length-map}
use Rattle.std.proofs.Math.Nat.{mul-le-mul_right}
use Rattle.std.proofs.Math.Seq.{map-set_same}
use Rattle.pg_values.specs.declared.fault.Fault.{Fault}
use Rattle.schedule.specs.declared.block.BlockKind.{BlockKind}
use Rattle.sessions.specs.Commits.{AreAsBefore, OthersAreAsBefore}
use Rattle.sessions.specs.Seen.{seen}
use Rattle.sessions.specs.Sessions.{SessionView, State, Turn, has_open, new_session, session_at, with_block, with_session}
use Rattle.sessions.specs.Stands.{Stands, transactions, weight}
use Rattle.sessions.specs.Weight.{of_phase, most_points, points_in, weight_of}
use Rattle.sessions.specs.declared.phase.Phase.{Phase}
use Rattle.sessions.specs.declared.phase.Phase.TheVariants.{Idle, Implicit, Explicit, Failed}
use Rattle.sessions.proofs.Points.{one_set}
use Rattle.sessions.proofs.Weights.{points_few, most_few}

pub transactions_set : {T : Type 0} (xs : List (SessionView T)) (s : ℕ) (y : SessionView T) → transactions (slice_set xs s y) ≡ slice_set (transactions xs) s (has_open y.phase)
transactions_set xs s y = map-set (λ x. has_open x.phase) xs s y

pub session_is : {T U : Type 0} (tree : T → U) (xs : List (SessionView T)) (ys : List (SessionView U)) (s : ℕ) (x : SessionView T)
    → s < length xs → map (seen tree) xs ≡ ys → x ≡ slice_index_or xs s x → session_at ys s ≡ seen tree x
session_is tree xs ys s x lt e is =
    ap (λ z. session_at z s) (sym e) ∙ get_or-map (seen tree) xs s x new_session lt ∙ ap (seen tree) (sym is)

-- one session goes on, and the executor with it
pub goes_on : {E S T U : Type 0} (stands : E → S → Type 0) (tree : T → U) (old new : E) (xs : List (SessionView T)) (s : ℕ) (x y : SessionView T) (v : State S U)
    (f : S → SessionView U → Turn S U) → s < length xs → x ≡ slice_index_or xs s x → Stands stands tree old xs v
    → ((w : S) → stands old w → stands new (f w (seen tree x)).executor × (seen tree y ≡ (f w (seen tree x)).session))
    → Stands stands tree new (slice_set xs s y) (with_session v s (f v.executor (session_at v.sessions s)))
goes_on stands tree old new xs s x y v f lt is st m =
    let same = session_is tree xs v.sessions s x lt st.sessions is in
    let made = m v.executor st.executor in
    rw (same) (record {
      executor = made.0;
      sessions = map-set (seen tree) xs s y ∙ ap (λ z. slice_set z s (seen tree y)) st.sessions ∙ ap (slice_set v.sessions s) made.1;
    })

-- what is left to happen, with one session changed
pub weight_falls : {T U : Type 0} (most a b : ℕ) (tree : T → U) (f g : ℕ → U → Bool) (xs : List (SessionView T)) (s : ℕ) (x y : SessionView T) → s < length xs → x ≡ slice_index_or xs s x → OthersAreAsBefore s f g
    → weight_of most a (points_in g tree s y) < weight_of most b (points_in f tree s x) → weight most a g tree (slice_set xs s y) < weight most b f tree xs
weight_falls most a b tree f g xs s x y lt is others less =
    let h = ap (λ n. n * (most + 1)) (one_set tree f g s xs x y lt is others) in
    omega (arith, h, less)

pub weight_stays : {T U : Type 0} (most a b : ℕ) (tree : T → U) (f g : ℕ → U → Bool) (xs : List (SessionView T)) (s : ℕ) (x y : SessionView T) → s < length xs → x ≡ slice_index_or xs s x → OthersAreAsBefore s f g
    → weight_of most a (points_in g tree s y) ≤ weight_of most b (points_in f tree s x) → weight most a g tree (slice_set xs s y) ≤ weight most b f tree xs
weight_stays most a b tree f g xs s x y lt is others less =
    let h = ap (λ n. n * (most + 1)) (one_set tree f g s xs x y lt is others) in
    omega (arith, h, less)

as_ever : {U : Type 0} (s : ℕ) (f : ℕ → U → Bool) → OthersAreAsBefore s f f
as_ever s f = λ r u other. refl

pub weight_of_block : {T U : Type 0} (most a n : ℕ) (tree : T → U) (f : ℕ → U → Bool) (xs : List (SessionView T)) (s : ℕ) (x y : SessionView T) → s < length xs → x ≡ slice_index_or xs s x
    → most_points y ≤ n → weight most a f tree (slice_set xs s y) ≤ weight most a f tree xs + n * (most + 1)
weight_of_block most a n tree f xs s x y lt is few =
    let h = ap (λ k. k * (most + 1)) (one_set tree f f s xs x y lt is (as_ever s f)) in
    let less = points_few (λ t. f s (tree t)) y in
    let k : points_in f tree s y * (most + 1) ≤ n * (most + 1) = mul-le-mul_right (most + 1) (omega (arith, few, less)) in
    omega (arith, h, k)

pub weight_of_rollback : {T U : Type 0} (most a b n : ℕ) (tree : T → U) (f g : ℕ → U → Bool) (xs : List (SessionView T)) (s : ℕ) (x y : SessionView T) → s < length xs → x ≡ slice_index_or xs s x → AreAsBefore f g
    → most_points y ≤ most_points x + 1 → a ≤ most → weight most a g tree (slice_set xs s y) ≤ weight most b f tree xs + (n + 3) * (most + 1)
weight_of_rollback most a b n tree f g xs s x y lt is same few bounded =
    let h = ap (λ k. k * (most + 1)) (one_set tree f g s xs x y lt is (λ r u other. same r u)) in
    let less = points_few (λ t. g s (tree t)) y in
    let more = most_few (λ t. f s (tree t)) x in
    let k : points_in g tree s y * (most + 1) ≤ (points_in f tree s x + 2) * (most + 1) = mul-le-mul_right (most + 1) (omega (arith, few, less, more)) in
    let l : 3 * (most + 1) ≤ (n + 3) * (most + 1) = mul-le-mul_right (most + 1) (omega arith) in
    omega (arith, h, k, l, suc-mul (points_in f tree s x) (most + 1), suc-mul (points_in f tree s x + 1) (most + 1))

pub if_ok_on : {T E : Type 0} (r : Result T E) (A : T → Type 0) (B : Type 0) → ((x : T) → A x → B) → IfOk r A → OnOk r B
if_ok_on (Ok x) A B f a = f x a
if_ok_on (Err e) A B f a = a

-- ---- a block begins

block_seen : {T U : Type 0} (tree : T → U) (x : SessionView T) (k : BlockKind) (ts : List T) → seen tree (with_block x k (Ok ts)) ≡ with_block (seen tree x) k (Ok (map tree ts))
block_seen tree x k ts =
    ap (λ n. record {
      phase = x.phase;
      level = x.level;
      looked = x.looked;
      settings = x.settings;
      saved = x.saved;
      kind = k;
      alone = n == 1;
      in_block = true;
      rest = map tree ts;
      broken = None;
      told = [];
      fault = None;
    }) (sym (length-map ts tree))

-- one session changes, and the executor does not
changes : {E S T U : Type 0} (stands : E → S → Type 0) (tree : T → U) (e : E) (xs : List (SessionView T)) (s : ℕ) (x y : SessionView T) (v : State S U)
    (f : SessionView U → SessionView U) → s < length xs → x ≡ slice_index_or xs s x → Stands stands tree e xs v → seen tree y ≡ f (seen tree x)
    → Stands stands tree e (slice_set xs s y) (record v { sessions = slice_set v.sessions s (f (session_at v.sessions s)) })
changes stands tree e xs s x y v f lt is st made =
    let same = session_is tree xs v.sessions s x lt st.sessions is in
    rw (same) (record {
      executor = st.executor;
      sessions = map-set (seen tree) xs s y ∙ ap (λ z. slice_set z s (seen tree y)) st.sessions ∙ ap (slice_set v.sessions s) made;
    })

pub begins_block : {E S T U : Type 0} (stands : E → S → Type 0) (tree : T → U) (e : E) (xs : List (SessionView T)) (s : ℕ) (x y : SessionView T) (v : State S U)
    (k : BlockKind) (ts : List T) (parsed : Result (List U) Fault) → s < length xs → x ≡ slice_index_or xs s x → y ≡ with_block x k (Ok ts) → parsed ≡ Ok (map tree ts)
    → Stands stands tree e xs v → Stands stands tree e (slice_set xs s y) (record v { sessions = slice_set v.sessions s (with_block (session_at v.sessions s) k parsed) })
begins_block stands tree e xs s x y v k ts parsed lt is made read st =
    changes stands tree e xs s x y v (λ z. with_block z k parsed) lt is st (ap (seen tree) made ∙ block_seen tree x k ts ∙ ap (with_block (seen tree x) k) (sym read))

pub begins_broken : {E S T U : Type 0} (stands : E → S → Type 0) (tree : T → U) (e : E) (xs : List (SessionView T)) (s : ℕ) (x y : SessionView T) (v : State S U)
    (k : BlockKind) (f : Fault) (parsed : Result (List U) Fault) → s < length xs → x ≡ slice_index_or xs s x → y ≡ with_block x k (Err f) → parsed ≡ Err f
    → Stands stands tree e xs v → Stands stands tree e (slice_set xs s y) (record v { sessions = slice_set v.sessions s (with_block (session_at v.sessions s) k parsed) })
begins_broken stands tree e xs s x y v k f parsed lt is made read st =
    changes stands tree e xs s x y v (λ z. with_block z k parsed) lt is st (ap (seen tree) made ∙ ap (with_block (seen tree x) k) (sym read))

-- the session's phase stays
pub transactions_stay : {T : Type 0} (xs : List (SessionView T)) (s : ℕ) (x y : SessionView T) → x ≡ slice_index_or xs s x → y.phase ≡ x.phase → transactions (slice_set xs s y) ≡ transactions xs
transactions_stay xs s x y is e = map-set_same (λ z. has_open z.phase) xs s y x (ap has_open e ∙ ap (λ z. has_open z.phase) is)

phase_points : (p : Phase) → of_phase p ≤ 1
phase_points Idle = omega arith
phase_points Implicit = omega arith
phase_points Explicit = omega arith
phase_points Failed = omega arith

pub block_points : {T : Type 0} (x y : SessionView T) (k : BlockKind) (ts : List T) (n : ℕ) → y ≡ with_block x k (Ok ts) → length ts ≤ n → most_points y ≤ 3 * n + 3
block_points x y k ts n e few = rw e (let h = phase_points x.phase in omega (arith, h, few))

pub broken_points : {T : Type 0} (x y : SessionView T) (k : BlockKind) (f : Fault) (n : ℕ) → y ≡ with_block x k (Err f) → most_points y ≤ 3 * n + 3
broken_points x y k f n e = rw e (let h = phase_points x.phase in omega (arith, h))

-- ---- new sessions

pub new_transactions : (T : Type 0) (n : ℕ) → transactions (replicate n (new_session {T = T})) ≡ replicate n false
new_transactions T zero = cc
new_transactions T (suc n) = ap (λ l. false ∷ l) (new_transactions T n)

pub new_seen : {T U : Type 0} (tree : T → U) (n : ℕ) → map (seen tree) (replicate n (new_session {T = T})) ≡ replicate n (new_session {T = U})
new_seen tree zero = cc
new_seen tree (suc n) = ap (λ l. new_session ∷ l) (new_seen tree n)

all_new : {T U : Type 0} (xs : List (SessionView T)) → replicate (length xs) (new_session {T = U}) ≡ map (λ x. new_session {T = U}) xs
all_new [] = cc
all_new (x ∷ xs) = ap (λ l. new_session ∷ l) (all_new xs)

pub fresh_seen : {T U : Type 0} (tree : T → U) (xs : List (SessionView T)) (ys : List (SessionView U)) → map (seen tree) xs ≡ ys
    → map (seen tree) (replicate (length xs) (new_session {T = T})) ≡ map (λ x. new_session {T = U}) ys
fresh_seen tree xs ys e =
    new_seen tree (length xs) ∙ ap (λ n. replicate n new_session) (sym (length-map xs (seen tree)) ∙ ap length e) ∙ all_new ys
