-- Weights of sessions.
use Rattle.std.proofs.Common.{◌≡◌, ◌<◌, ◌≤◌, ◌+◌, ◌*◌, ℕ, Bool, true, false, List, [], ◌∷◌, length, arith, suc-mul}
use Rattle.std.proofs.Math.Nat.{mul-le-mul_right}
use Rattle.sessions.specs.Sessions.{SessionView, kept, opened}
use Rattle.sessions.specs.Weight.{of_statement, of_rest, of_block, points, most_points, points_with, weight_of}
use Rattle.pg_values.specs.declared.isolation.Isolation.{Isolation}
use Rattle.sessions.specs.declared.phase.Phase.{Phase}
use Rattle.sessions.specs.declared.phase.Phase.TheVariants.{Idle, Implicit}

-- ---- numbers

pub falls : (most s t p q : ℕ) → q + 1 ≤ p → t ≤ most → weight_of most t q < weight_of most s p
falls most s t p q few le =
    let h : (q + 1) * (most + 1) ≤ p * (most + 1) = mul-le-mul_right (most + 1) few in
    omega (arith, h, suc-mul q (most + 1))

pub falls_at_least : (most s t p q : ℕ) → q + 1 ≤ p → t ≤ most → weight_of most t q ≤ weight_of most s p
falls_at_least most s t p q few le = let h = falls most s t p q few le in omega (arith, h)

pub two_at_least : (b : Bool) → 2 ≤ of_statement b
two_at_least true = omega arith
two_at_least false = omega arith

-- ---- a statement that is taken from the front, and done with

rest_few : {T : Type 0} (committed : T → Bool) (ts : List T) → of_rest committed ts ≤ 3 * length ts
rest_few committed [] = omega arith
rest_few committed (t ∷ ts) = by (committed t)
  where
    by : (b : Bool) → of_statement b + 3 * length ts ≤ 3 * length (t ∷ ts)
    by true = omega arith
    by false = omega arith

block_few : (p : Phase) (m n : ℕ) (b : Bool) → m ≤ n → of_block p m b ≤ of_block p n b
block_few p m n true few = omega arith
block_few p m n false few = omega arith

pub points_few : {T : Type 0} (committed : T → Bool) (x : SessionView T) → points committed x ≤ most_points x
points_few committed x = block_few x.phase (of_rest committed x.rest) (3 * length x.rest) x.in_block (rest_few committed x.rest)

rest_more : {T : Type 0} (committed : T → Bool) (ts : List T) → 3 * length ts ≤ of_rest committed ts + 1
rest_more committed [] = omega arith
rest_more committed (t ∷ ts) = let two = two_at_least (committed t) in omega (arith, two)

block_more : (p : Phase) (m n : ℕ) (b : Bool) → n ≤ m + 1 → of_block p n b ≤ of_block p m b + 1
block_more p m n true few = omega arith
block_more p m n false few = omega arith

pub most_few : {T : Type 0} (committed : T → Bool) (x : SessionView T) → most_points x ≤ points committed x + 1
most_few committed x = block_more x.phase (of_rest committed x.rest) (3 * length x.rest) x.in_block (rest_more committed x.rest)

pub lower : {T : Type 0} (most s t : ℕ) (committed : T → Bool) (x y : SessionView T) (b : Bool) → most_points y ≤ most_points x + 1 → t ≤ most → weight_of most t (points committed y) < weight_of most s (points_with b x)
lower most s t committed x y b few le =
    let a = points_few committed y in
    let two = two_at_least b in
    falls most s t (points_with b x) (points committed y) (omega (arith, a, two, few)) le

pub not_higher : {T : Type 0} (most s t : ℕ) (committed : T → Bool) (x y : SessionView T) (b : Bool) → most_points y ≤ most_points x + 1 → t ≤ most → weight_of most t (points committed y) ≤ weight_of most s (points_with b x)
not_higher most s t committed x y b few le = let h = lower most s t committed x y b few le in omega (arith, h)

-- ---- a statement that is kept

-- a transaction begins for it
pub opened_points : {T : Type 0} (committed : T → Bool) (x y : SessionView T) (t : T) (l : Isolation) (b : Bool) → x.in_block ≡ true → x.phase ≡ Idle → y ≡ kept (opened x Implicit l) t → committed t ≡ b → points committed y + 1 ≤ points_with b x
opened_points committed x y t l b busy idle is same = rw (is, busy, idle, same) (omega arith)

-- another one has begun for it
pub again_lower : (most s t p q : ℕ) (b d : Bool) → (b ≡ false) × (d ≡ true) → q ≤ of_statement d + p → t ≤ most → weight_of most t q < weight_of most s (of_statement b + p)
again_lower most s t p q false true once few le = falls most s t (3 + p) q (omega arith) le
again_lower most s t p q true d once few le = absurd (let c = once.0 in cc)
again_lower most s t p q false false once few le = absurd (let c = once.1 in cc)

pub again_not_higher : (most s t p q : ℕ) (b d : Bool) → (b ≡ false) × (d ≡ true) → q ≤ of_statement d + p → t ≤ most → weight_of most t q ≤ weight_of most s (of_statement b + p)
again_not_higher most s t p q b d once few le = let h = again_lower most s t p q b d once few le in omega (arith, h)
