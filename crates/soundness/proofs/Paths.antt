-- What no place on a table's path refuses, each entry above the table accepts.
use Rattle.std.proofs.Common.{◌≡◌, ℕ, zero, suc, ◌+◌, ◌-◌, ◌<◌, ◌≤◌, ◌==◌, ◌&&◌, ◌||◌, not, nat_lt, arith, Bool, true, false, if◌then◌else◌, List, [], ◌∷◌, ◌⊎◌, inl, inr, refl, ap, sym, subst, ◌∙◌, Option, Some, None, map, slice_index_or}
use Rattle.std.specs.List.{Contains, list_any, position_or_len}
use Rattle.std.specs.Prelude.{find}
use Rattle.std.proofs.lemmas.Grind.{common_steps}
use Rattle.std.proofs.lemmas.Bool.{cases_Bool}
use Rattle.std.proofs.lemmas.Bool.Decides.{nat_tests}
use Rattle.pg_values.specs.declared.value.Value.{Value}
use Rattle.pg_values.specs.declared.ids.TableNo.{TableNo}
use Rattle.bound_forms.specs.declared.partition_bound.Bound.{Bound}
use Rattle.bound_forms.specs.declared.partition_bound.Bound.TheVariants.{Default}
use Rattle.bound_forms.specs.Accepts.{accepts, is_default, accepts_among}
use Rattle.history.specs.declared.transaction.Fate.TheVariants.{Running}
use Rattle.row_router.proofs.Order.{all_children}
use Rattle.std.proofs.lemmas.List.Elements.{All-contains}
use Rattle.history.specs.declared.catalogue.TableShape.{TableShape}
use Rattle.history.specs.declared.catalogue.TableShape.TheVariants.{Leaf, Level}
use Rattle.history.specs.declared.catalogue.Entry.{Entry}
use Rattle.history.specs.Transactions.{TxEvents, open_of, fate, is_committed}
use Rattle.history.specs.Catalogue.{CatalogueEvents, tables_made}
use Rattle.history.specs.History.{History, tx_events, catalogue_events}
use Rattle.history.specs.Places.{TakesBound}
use Rattle.history.specs.Presence.{counts, entries_present, checks_of}
use Rattle.history.specs.Legal.{IsLegal}
use Rattle.row_router.specs.declared.path_part.PathPart.{PathPart}
use Rattle.row_router.specs.Trees.{key_of}
use Rattle.row_router.specs.Histories.{children, bound_of, is_over, above, is_entry, place_among, place_of, part_of, parent_in, upwards, path_of}
use Rattle.row_router.specs.declared.path.PathTest.TheVariants.{Bounds}
use Rattle.row_router.specs.Paths.{refuses_at, refuses, refused}
use Rattle.soundness.specs.Worlds.{World, table_in, Present, Under, key_in, key_at, AcceptsKey, AcceptAbove, same_tx, is_running, view}
use Rattle.soundness.specs.Parts.{AreEntries, Siblings, InvariantOf}
use Rattle.soundness.specs.Laws.{PathAccepts}
use Rattle.soundness.proofs.Worlds.{both_ways}
use Rattle.soundness.proofs.Under.{under_top, under_map, accepts_map}
use Rattle.soundness.proofs.Sound.{sound_of, catalogue_sound_of}
use Rattle.soundness.proofs.Looking.{counts_world}
use Rattle.soundness.proofs.Presence.{all_present}
use Rattle.soundness.proofs.Listed.{none_in, cases_in, later_in, present_listed, child_listed}
use Rattle.soundness.proofs.All.{legal_keeps_all}
use Rattle.history.proofs.Open.{open_runs}

-- ---- a look-up finds what is there

abbrev IsFound : (Entry → Bool) → List Entry → Type 0
IsFound p xs = (y : Entry) × (find p xs ≡ Some y) × (p y ≡ true) × Contains xs y

find_in : (p : Entry → Bool) (xs : List Entry) (x : Entry) → Contains xs x → p x ≡ true → IsFound p xs
find_in p [] x at is = absurd (none_in x at)
find_in p (y ∷ xs) x at is = elim (cases_Bool (p y)) [
  | inl t ↦ (y, rw t refl, t, (zero, omega arith, refl))
  | inr f ↦ elim (cases_in y xs x at) [
    | inl here ↦ absurd (both_ways (p y) (ap p here ∙ is) f)
    | inr later ↦ let r = find_in p xs x later is in (r.0, rw f r.1, r.2, later_in y xs r.0 r.3)
  ]
]

at_next : (b : Bound) (bs : List Bound) (k : ℕ) → slice_index_or (b ∷ bs) (1 + k) Default ≡ slice_index_or bs k Default
at_next b bs k = let next : 1 + k ≡ suc k = omega arith in ap (λ n. slice_index_or (b ∷ bs) n Default) next

-- the bound at the place of the first that passes
abbrev IsPlaced : (Entry → Bool) → List Entry → Type 0
IsPlaced p xs = (y : Entry) × (p y ≡ true) × Contains xs y × (slice_index_or (map bound_of xs) (position_or_len p xs) Default ≡ y.bound)

place_in : (p : Entry → Bool) (xs : List Entry) (x : Entry) → Contains xs x → p x ≡ true → IsPlaced p xs
place_in p [] x at is = absurd (none_in x at)
place_in p (y ∷ xs) x at is = elim (cases_Bool (p y)) [
  | inl t ↦ (y, t, (zero, omega arith, refl), rw t refl)
  | inr f ↦ elim (cases_in y xs x at) [
    | inl here ↦ absurd (both_ways (p y) (ap p here ∙ is) f)
    | inr later ↦ let r = place_in p xs x later is in (r.0, r.1, later_in y xs r.0 r.2, rw f (at_next y.bound (map bound_of xs) (position_or_len p xs) ∙ r.3))
  ]
]

-- ---- one place

pub none_among : (key : List Value) (es : List Entry) (f : Entry) → Contains es f → list_any (accepts key) (map bound_of es) ≡ false → accepts key f.bound ≡ false
none_among key [] f at none = absurd (none_in f at)
none_among key (e ∷ es) f at none =
    let first : accepts key e.bound ≡ false = grind (arith, common_steps, none) in
    elim (cases_in e es f at) [
      | inl here ↦ ap (λ (z : Entry). accepts key z.bound) (sym here) ∙ first
      | inr later ↦ none_among key es f later (rw first at none)
    ]

pub among_cases : (a b c : Bool) → (a || (b && not c)) ≡ true → (a ≡ true) ⊎ ((b ≡ true) × (c ≡ false))
among_cases true b c is = inl refl
among_cases false true false is = inr (refl, refl)
among_cases false true true is = absurd (cc)
among_cases false false c is = absurd (cc)

not_false : (b : Bool) → not b ≡ false → b ≡ true
not_false true is = refl
not_false false is = absurd (cc)

accepts_key : (h : History) (session : ℕ) (t : ℕ) (b : Bound) (key : List Value) → accepts_among (map bound_of (children (entries_present h session) t)) key b ≡ true → AcceptsKey (catalogue_events h) (counts (tx_events h) session) t b key
accepts_key h session t b key is = elim (among_cases (accepts key b) (is_default b) (list_any (accepts key) (map bound_of (children (entries_present h session) t))) is) [
  | inl own ↦ inl own
  | inr (by_default, none) ↦ inr (by_default, λ f p under. none_among key (children (entries_present h session) t) f (child_listed (entries_present h session) t f (present_listed h session f p) under) none)
]

-- the entry of that number is the entry
same_entry : (cats : CatalogueEvents) (w : World) (e y : Entry) → AreEntries cats → Present cats w e → Present cats w y → is_entry e y ≡ true → y ≡ e
same_entry cats w e y entries p q is =
    let same : y.id.number ≡ e.id.number = grind (arith, nat_tests, is) in
    entries.numbered y e q.0 p.0 same

contains_present : (h : History) (session : ℕ) (y : Entry) → IsLegal h → Contains (entries_present h session) y → Present (catalogue_events h) (counts (tx_events h) session) y
contains_present h session y legal at = All-contains (Present (catalogue_events h) (counts (tx_events h) session)) (entries_present h session) y (all_present h session (sound_of h legal) (catalogue_sound_of h legal)) at

child_present : (h : History) (session t : ℕ) (y : Entry) → IsLegal h → Contains (children (entries_present h session) t) y → Present (catalogue_events h) (counts (tx_events h) session) y
child_present h session t y legal at =
    let all = all_children (Present (catalogue_events h) (counts (tx_events h) session)) (entries_present h session) t (all_present h session (sound_of h legal) (catalogue_sound_of h legal)) in
    All-contains (Present (catalogue_events h) (counts (tx_events h) session)) (children (entries_present h session) t) y all at

accepted : (h : History) (session : ℕ) (e : Entry) (row : List Value) (shape : TableShape) → IsLegal h → AreEntries (catalogue_events h) → Present (catalogue_events h) (counts (tx_events h) session) e → TakesBound shape e.bound
    → refuses_at row (place_among (children (entries_present h session) e.parent.number) shape e) ≡ false → AcceptsKey (catalogue_events h) (counts (tx_events h) session) e.parent.number e.bound (key_in shape row)
accepted h session e row (Leaf leaf) legal entries p takes is = absurd takes
accepted h session e row (Level level) legal entries p takes is =
    let kids : List Entry = children (entries_present h session) e.parent.number in
    let own : is_entry e e ≡ true = grind (arith, nat_tests) in
    let its = place_in (is_entry e) kids e (child_listed (entries_present h session) e.parent.number e (present_listed h session e p) refl) own in
    let same : its.0 ≡ e = same_entry (catalogue_events h) (counts (tx_events h) session) e its.0 entries p (child_present h session e.parent.number its.0 legal its.2) its.1 in
    let at : slice_index_or (map bound_of kids) (position_or_len (is_entry e) kids) Default ≡ e.bound = its.3 ∙ ap (λ (z : Entry). z.bound) same in
    let test : accepts_among (map bound_of kids) (key_of level row) (slice_index_or (map bound_of kids) (position_or_len (is_entry e) kids) Default) ≡ true = not_false _ is in
    accepts_key h session e.parent.number e.bound (key_of level row) (subst (λ b. accepts_among (map bound_of kids) (key_of level row) b ≡ true) at test)

-- ---- the way up

-- the look-up upwards finds the entry
pub found_above : (h : History) (session x : ℕ) (e : Entry) → IsLegal h → Siblings (catalogue_events h) (counts (tx_events h) session) → Present (catalogue_events h) (counts (tx_events h) session) e → e.child.number ≡ x → above (entries_present h session) x ≡ Some e
found_above h session x e legal siblings p child =
    let is : is_over x e ≡ true = grind (arith, nat_tests, child) in
    let its = find_in (is_over x) (entries_present h session) e (present_listed h session e p) is in
    let over : its.0.child.number ≡ x = grind (arith, nat_tests, its.2) in
    let same : its.0 ≡ e = siblings.one_parent its.0 e (contains_present h session its.0 legal its.3) p (over ∙ sym child) in
    its.1 ∙ ap (λ (z : Entry). Some z) same

none_refused : (b : Bool) (t : TableNo) (r : Option TableNo) → (if b then Some t else r) ≡ None → (b ≡ false) × (r ≡ None)
none_refused true t r is = absurd (cc)
none_refused false t r is = (refl, is)

walk : (h : History) (session : ℕ) (row : List Value) (part : ℕ → PathPart) → IsLegal h → Siblings (catalogue_events h) (counts (tx_events h) session)
    → (n fuel x y : ℕ) → n < fuel → Under (catalogue_events h) (counts (tx_events h) session) n y x → refused Bounds row (upwards fuel part (above (entries_present h session)) (Some x)) ≡ None → refuses Bounds row (part y) ≡ false
walk h session row part legal siblings n zero x y lt is none = absurd (omega (arith, lt))
walk h session row part legal siblings zero (suc fuel) x y lt is none =
    subst (λ z. refuses Bounds row (part z) ≡ false) (sym is) (none_refused (refuses Bounds row (part x)) (part x).table (refused Bounds row (upwards fuel part (above (entries_present h session)) (parent_in (above (entries_present h session) x)))) none).0
walk h session row part legal siblings (suc n) (suc fuel) x y lt (e, p, child, rest) none =
    let up = above (entries_present h session) in
    let later = (none_refused (refuses Bounds row (part x)) (part x).table (refused Bounds row (upwards fuel part up (parent_in (up x)))) none).1 in
    let at : up x ≡ Some e = found_above h session x e legal siblings p child in
    walk h session row part legal siblings n fuel e.parent.number y (omega (arith, lt)) rest (subst (λ o. refused Bounds row (upwards fuel part up (parent_in o)) ≡ None) at later)

-- the lower part of a long way
lower_part : (c : CatalogueEvents) (w : World) (k j top x : ℕ) → Under c w (k + j) top x → (middle : ℕ) × Under c w k middle x
lower_part c w zero j top x is = (x, refl)
lower_part c w (suc k) j top x is =
    let one : suc k + j ≡ suc (k + j) = omega arith in
    let step = subst (λ n. Under c w n top x) one is in
    let low = lower_part c w k j top step.0.parent.number step.3 in
    (low.0, (step.0, step.1, step.2, low.1))

pub few_steps : (cats : CatalogueEvents) (w : World) (n top x : ℕ) → Siblings cats w → Under cats w n top x → n < 8
few_steps cats w n top x siblings low = elim (cases_Bool (nat_lt n 8)) [
  | inl y ↦ grind (arith, nat_tests, y)
  | inr y ↦
      let ge : 8 ≤ n = grind (arith, nat_tests, y) in
      let long : n ≡ 8 + (n - 8) = omega (arith, ge) in
      let part = lower_part cats w 8 (n - 8) top x (subst (λ k. Under cats w k top x) long low) in
      absurd (siblings.shallow part.0 x part.1)
]

pub path_accepts_in : (h : History) (session x : ℕ) (row : List Value) → IsLegal h → InvariantOf h → refused Bounds row (path_of h session x) ≡ None → AcceptAbove (catalogue_events h) (counts (tx_events h) session) x row
unfolding Rattle.row_router.specs.Histories.path_of
path_accepts_in h session x row legal i none e n p low =
    let siblings = i.siblings (counts (tx_events h) session) (counts_world (tx_events h) session (sound_of h legal)) in
    let lt = few_steps (catalogue_events h) (counts (tx_events h) session) (suc n) e.parent.number x siblings (under_top (catalogue_events h) (counts (tx_events h) session) e p n x low) in
    let part : ℕ → PathPart = part_of (tables_made (catalogue_events h)) (entries_present h session) (checks_of h session) in
    let here : refuses Bounds row (part e.child.number) ≡ false = walk h session row part legal siblings n 8 x e.child.number (omega (arith, lt)) low none in
    let at = found_above h session e.child.number e legal siblings p refl in
    let place : refuses_at row (place_of (tables_made (catalogue_events h)) (entries_present h session) (Some e)) ≡ false = subst (λ o. refuses_at row (place_of (tables_made (catalogue_events h)) (entries_present h session) o) ≡ false) at here in
    accepted h session e row (table_in (catalogue_events h) e.parent.number).shape legal i.entries p ((i.entries.suited e p.0).bound) place

-- ---- the session's world is that of its open transaction

agree_by : (a b c r : Bool) → b ≡ c → (b ≡ true → r ≡ true) → (a || b) ≡ (a || (c && r))
agree_by true b c r same runs = refl
agree_by false true c r same runs = let e = runs refl in rw (sym same, e) refl
agree_by false false c r same runs = rw (sym same) refl

pub agree : (txs : TxEvents) (session t k : ℕ) → open_of txs session ≡ Some t → fate txs t ≡ Running → counts txs session k ≡ view txs t k
unfolding same_tx
agree txs session t k opened runs =
    let turned : (t == k) ≡ (k == t) = grind (arith, nat_tests) in
    rw opened (agree_by (is_committed (fate txs k)) (t == k) (k == t) (is_running (fate txs k)) turned (λ same. let e : t ≡ k = grind (arith, nat_tests, same) in let r : fate txs k ≡ Running = ap (fate txs) (sym e) ∙ runs in rw r refl))

pub same_above : (cats : CatalogueEvents) (w k : World) (x : ℕ) (row : List Value) → ((t : ℕ) → w t ≡ k t) → AcceptAbove cats w x row → AcceptAbove cats k x row
same_above cats w k x row same accept e n p low =
    let to : (f : Entry) → Present cats k f → Present cats w f = λ f q. (q.0, same f.by.number ∙ q.1, λ u end. same u ∙ q.2 u end) in
    accepts_map cats cats k w e.parent.number e.bound (key_at cats e.parent.number row) (λ by_default f q under. inl (to f q)) (accept e n (to e p) (under_map cats cats k w to n e.child.number x low))

pub path_accepts : PathAccepts
path_accepts h session t x row legal permitted opened none =
    let runs = (open_runs (tx_events h) session t (sound_of h legal) opened).runs in
    same_above (catalogue_events h) (counts (tx_events h) session) (view (tx_events h) t) x row (λ k. agree (tx_events h) session t k opened runs) (path_accepts_in h session x row legal (legal_keeps_all h legal permitted) none)
