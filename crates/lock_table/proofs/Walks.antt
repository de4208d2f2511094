-- A way along the shortest cycle, session by session.
use Rattle.std.proofs.Common.{◌≡◌, ◌≢◌, ℕ, zero, suc, ◌+◌, ◌-◌, ◌<◌, ◌≤◌, ◌==◌, ◌&&◌, ◌||◌, Bool, true, false, List, [], ◌∷◌, ◌++◌, length, nat_lt, nat_eq, slice_index_or, inl, inr, refl, sym, ap, ◌∙◌, subst, arith, append_assoc}
use Rattle.std.specs.List.{list_any}
use Rattle.std.proofs.lemmas.Grind.{common_steps}
use Rattle.std.proofs.lemmas.Bool.{cases_lt, cases_Bool, cases_eq}
use Rattle.std.proofs.lemmas.Bool.Decides.{nat_tests}
use Rattle.std.proofs.lemmas.List.Folds.{list_any-append}
use Rattle.pg_values.specs.declared.session_set.SessionSet.{SessionSet}
use Rattle.pg_values.specs.Sets.{has, empty}
use Rattle.history.specs.Waits.{IsChain, IsCycle, IsLeastCycle, precedes}
use Rattle.lock_table.specs.Graph.{edge, leads, IsShortest, AreLevels}
use Rattle.lock_table.proofs.Chains.{chain, first_wait, leads_below, leads_more, way_more, way_none}
use Rattle.lock_table.proofs.Ways.{IsFreeOfCycles, IsLeastNext, IsLeastWay, IsBegun}

in_one : (z s : ℕ) → list_any (nat_eq z) (s ∷ []) ≡ true → z ≡ s
in_one z s t = grind (arith, common_steps, nat_tests)

pub begun_first : (g : List SessionSet) (s count : ℕ) (list : List ℕ) → list ≡ s ∷ [] → IsShortest g s (count + 1) → IsBegun g s count count s list
begun_first g s count list e short = record {
  within = omega arith;
  on = short.closed;
  reach = λ d i sum h. let none : d ≡ 0 = omega (arith, sum) in let n : i ≡ d + i = omega arith in subst (λ j. leads g s j s ≡ true) n h;
  apart = λ z i t pos lt. let same : z ≡ s = in_one z s (subst (λ l. list_any (nat_eq z) l ≡ true) e t) in subst (λ q. leads g s i q ≡ false) (sym same) (short.least i pos lt);
  tail = [];
  is = e;
  more = λ rest w. w;
}

-- how far the next session is from s
next_apart : (g : List SessionSet) (s count old left at y : ℕ) (list : List ℕ) → old ≡ left + 1 → length g ≤ 65 → IsShortest g s (count + 1) → IsBegun g s count old at list
    → edge g at y ≡ true → y < 128 → (i : ℕ) → 0 < i → i < left + 1 → leads g s i y ≡ false
next_apart g s count old left at y list e few short b wait low i pos lt =
    elim (cases_Bool (leads g s i y)) [
      | inr f ↦ f
      | inl t ↦ absurd (
          let on = chain g s i at y wait t low in
          let w = b.within in
          let r = b.reach (count - old) (i + 1) (omega arith) on in
          let f = short.least (count - old + (i + 1)) (omega arith) (omega arith) in cc)
    ]

in_behind : (z y : ℕ) (list : List ℕ) → list_any (nat_eq z) (list ++ y ∷ []) ≡ true → list_any (nat_eq z) list ≡ false → z ≡ y
in_behind z y list t f = grind (arith, common_steps, nat_tests, list_any-append (nat_eq z) list (y ∷ []))

pub begun_more : (g : List SessionSet) (s count old left at y : ℕ) (list new : List ℕ) → old ≡ left + 1 → length g ≤ 65 → IsShortest g s (count + 1) → IsBegun g s count old at list
    → edge g at y ≡ true → leads g s (left + 1) y ≡ true → ((z : ℕ) → z < y → (edge g at z && leads g s (left + 1) z) ≡ false) → new ≡ list ++ y ∷ [] → IsBegun g s count left y new
begun_more g s count old left at y list new e few short b wait on least is =
    let low : y < 128 = omega (arith, leads_below g s left y few on) in
    record {
      within = let w = b.within in omega arith;
      on = on;
      reach = λ d i sum h.
          let w = b.within in
          let r = b.reach (d - 1) (i + 1) (omega arith) (chain g s i at y wait h low) in
          let n : d - 1 + (i + 1) ≡ d + i = omega arith in
          subst (λ j. leads g s j s ≡ true) n r;
      apart = λ z i t pos lt. elim (cases_Bool (list_any (nat_eq z) list)) [
        | inl here ↦ b.apart z i here pos (omega arith)
        | inr not_here ↦
            let same : z ≡ y = in_behind z y list (subst (λ l. list_any (nat_eq z) l ≡ true) is t) not_here in
            subst (λ q. leads g s i q ≡ false) (sym same) (next_apart g s count old left at y list e few short b wait low i pos lt)
      ];
      tail = b.tail ++ y ∷ [];
      is = is ∙ ap (λ l. l ++ y ∷ []) b.is;
      more = λ rest w. rw append_assoc (b.more (y ∷ rest) (let n : old + 1 ≡ left + 1 + 1 = omega arith in way_more g s (left + 1) (old + 1) at y rest n (record { waits = wait; on = on; least = least }) w));
    }

-- the next session is not on the way yet
pub begun_new : (g : List SessionSet) (s count old left at y : ℕ) (list : List ℕ) → old ≡ left + 1 → IsBegun g s count old at list → leads g s (left + 1) y ≡ true → list_any (nat_eq y) list ≡ false
begun_new g s count old left at y list e b on =
    elim (cases_Bool (list_any (nat_eq y) list)) [
      | inr f ↦ f
      | inl t ↦ absurd (let f = b.apart y (left + 1) t (omega arith) (omega arith) in cc)
    ]

never_none : (ys : List ℕ) (s : ℕ) → ys ++ s ∷ [] ≡ [] → ⊥
never_none [] s e = cc
never_none (y ∷ ys) s e = cc

chain_of : (g : List SessionSet) (s k x : ℕ) (tail : List ℕ) → IsLeastWay g s (suc k) x (tail ++ s ∷ []) → IsChain (edge g) s x tail × (length tail ≡ k)
chain_of g s zero x [] w = (w.0.waits, refl)
chain_of g s (suc k) x [] w = absurd (w.1)
chain_of g s zero x (y ∷ ys) w = absurd (never_none ys s w.1)
chain_of g s (suc k) x (y ∷ ys) w = let r = chain_of g s k y ys w.1 in ((w.0.waits, r.0), ap suc r.1)

pub chain_leads : (g : List SessionSet) (s x : ℕ) (ys : List ℕ) → length g ≤ 65 → s < 65 → IsChain (edge g) s x ys → leads g s (length ys + 1) x ≡ true
chain_leads g s x [] few low c = chain g s 0 x s c (grind (arith, common_steps, nat_tests)) (omega arith)
chain_leads g s x (y ∷ ys) few low c =
    let rest = chain_leads g s y ys few low c.1 in
    let n : length ys + 1 + 1 ≡ length (y ∷ ys) + 1 = omega arith in
    subst (λ j. leads g s j x ≡ true) n (chain g s (length ys + 1) x y c.0 rest (omega (arith, leads_below g s (length ys) y few rest)))

least_of : (g : List SessionSet) (s k x : ℕ) (tail other : List ℕ) → length g ≤ 65 → s < 65 → IsLeastWay g s (suc k) x (tail ++ s ∷ []) → IsChain (edge g) s x other → length other ≡ k → precedes other tail ≡ false
least_of g s k x tail [] few low w c e = refl
least_of g s zero x tail (o ∷ os) few low w c e = absurd (omega arith)
least_of g s (suc k) x [] (o ∷ os) few low w c e = refl
least_of g s (suc k) x (y ∷ ys) (o ∷ os) few low w c e =
    let n : length os + 1 ≡ suc k = omega arith in
    let on : leads g s (suc k) o ≡ true = subst (λ j. leads g s j o ≡ true) n (chain_leads g s o os few low c.1) in
    elim (cases_lt o y) [
      | inl lt ↦ absurd (let f = w.0.least o lt in let t : (edge g x o && leads g s (suc k) o) ≡ true = rw (c.0, on) refl in cc)
      | inr ge ↦ elim (cases_eq o y) [
        | inl same ↦
            let rest = least_of g s k y ys os few low w.1 (subst (λ z. IsChain (edge g) s z os) same c.1) (omega arith) in
            grind (arith, common_steps, nat_tests, rest)
        | inr apart ↦ grind (arith, common_steps, nat_tests)
      ]
    ]

cycle_leads : (g : List SessionSet) (s : ℕ) (other : List ℕ) → length g ≤ 65 → s < 65 → IsCycle (edge g) s other → leads g s (length other) s ≡ true
cycle_leads g s [] few low c = absurd c
cycle_leads g s (x ∷ xs) few low c =
    let n : length xs + 1 ≡ length (x ∷ xs) = omega arith in
    subst (λ j. leads g s j s ≡ true) n (chain_leads g s s xs few low (subst (λ z. IsChain (edge g) s z xs) c.0 c.1))

cycle_some : (g : List SessionSet) (s : ℕ) (other : List ℕ) → IsCycle (edge g) s other → 0 < length other
cycle_some g s [] c = absurd c
cycle_some g s (x ∷ xs) c = omega arith

least_cycle_of : (g : List SessionSet) (s k : ℕ) (tail : List ℕ) → length g ≤ 65 → s < 65 → IsShortest g s (suc k) → IsLeastWay g s (suc k) s (tail ++ s ∷ []) → IsLeastCycle (edge g) s (s ∷ tail)
least_cycle_of g s k tail few low short w =
    let r = chain_of g s k s tail w in
    record {
      is = (refl, r.0);
      shortest = λ other c. elim (cases_lt (length other) (suc k)) [
        | inl lt ↦ absurd (let f = short.least (length other) (cycle_some g s other c) lt in let t = cycle_leads g s other few low c in cc)
        | inr ge ↦ omega (arith, r.1, ge)
      ];
      least = least_same g s k tail few low w r.1;
    }
  where
    least_same : (g : List SessionSet) (s k : ℕ) (tail : List ℕ) → length g ≤ 65 → s < 65 → IsLeastWay g s (suc k) s (tail ++ s ∷ []) → length tail ≡ k → (other : List ℕ) → IsCycle (edge g) s other → length other ≡ length (s ∷ tail) → precedes other (s ∷ tail) ≡ false
    least_same g s k tail few low w len [] c e = absurd c
    least_same g s k tail few low w len (x ∷ xs) c e =
        let rest = least_of g s k s tail xs few low w (subst (λ z. IsChain (edge g) s z xs) c.0 c.1) (omega (arith, e, len)) in
        let same = c.0 in
        grind (arith, common_steps, nat_tests, rest)

pub begun_last : (g : List SessionSet) (s count left at : ℕ) (list : List ℕ) → left ≡ 0 → length g ≤ 65 → s < 65 → IsShortest g s (count + 1) → IsBegun g s count left at list → IsLeastCycle (edge g) s list
begun_last g s count left at list e few low short b =
    let one : left + 1 ≡ 0 + 1 = omega arith in
    let f = first_wait g s 0 at (subst (λ j. leads g s j at ≡ true) one b.on) in
    let same : f.0 ≡ s = grind (arith, common_steps, nat_tests, f.3) in
    let next : IsLeastNext g s 0 at s = record {
      waits = subst (λ y. edge g at y ≡ true) same f.2;
      on = grind (arith, common_steps, nat_tests);
      least = λ z lt. grind (arith, common_steps, nat_tests);
    } in
    let way = b.more (s ∷ []) (way_more g s 0 (left + 1) at s [] one next (way_none g s 0 s refl)) in
    let n : count + 1 ≡ suc count = omega arith in
    subst (λ l. IsLeastCycle (edge g) s l) (sym b.is)
    (least_cycle_of g s count b.tail few low (subst (λ j. IsShortest g s j) n short) (subst (λ j. IsLeastWay g s j s (b.tail ++ s ∷ [])) n way))

pub no_cycle_of : (g : List SessionSet) (s : ℕ) → length g ≤ 65 → s < 65 → IsFreeOfCycles g s → (cycle : List ℕ) → IsCycle (edge g) s cycle → ⊥
no_cycle_of g s few low free cycle c = let f = free (length cycle) (cycle_some g s cycle c) in let t = cycle_leads g s cycle few low c in cc

-- who is in the next level, and is the least there
pub level_on : (g : List SessionSet) (s count left y : ℕ) (levels : List SessionSet) (set : SessionSet) → AreLevels g s levels count → set ≡ slice_index_or levels (left - 1) empty → 0 < left → left ≤ count → has set y ≡ leads g s (left - 1 + 1) y
level_on g s count left y levels set each is pos le = ap (λ l. has l y) is ∙ each (left - 1) y (omega arith)

pub level_least : (g : List SessionSet) (s count left at z : ℕ) (levels : List SessionSet) (set : SessionSet) → AreLevels g s levels count → set ≡ slice_index_or levels (left - 1) empty → 0 < left → left ≤ count
    → (edge g at z && has set z) ≡ false → (edge g at z && leads g s (left - 1 + 1) z) ≡ false
level_least g s count left at z levels set each is pos le f = ap (λ b. edge g at z && b) (sym (level_on g s count left z levels set each is pos le)) ∙ f

-- some session is next
pub level_none : (g : List SessionSet) (s count left at : ℕ) (levels : List SessionSet) (set : SessionSet) → AreLevels g s levels count → set ≡ slice_index_or levels (left - 1) empty → 0 < left → left ≤ count
    → leads g s (left + 1) at ≡ true → ((z : ℕ) → (edge g at z && has set z) ≡ false) → ⊥
level_none g s count left at levels set each is pos le on none =
    let n : left ≡ left - 1 + 1 = omega arith in
    let f = first_wait g s left at on in
    let in_set : has set f.0 ≡ true = level_on g s count left f.0 levels set each is pos le ∙ subst (λ j. leads g s j f.0 ≡ true) n f.3 in
    let t : (edge g at f.0 && has set f.0) ≡ true = rw (f.2, in_set) refl in
    let u = none f.0 in cc
