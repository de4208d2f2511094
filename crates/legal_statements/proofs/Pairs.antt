-- Lists in which each two differ.
use Rattle.std.proofs.Common.{◌≡◌, ◌≢◌, ◌⊎◌, ℕ, ◌+◌, ◌<◌, Bool, true, false, if◌then◌else◌, List, [], ◌∷◌, ◌++◌, inl, inr, ap, sym, subst, ◌∙◌, filter, length, get_or, arith}
use Rattle.std.specs.List.{All, AllPairs, Contains}
use Rattle.std.proofs.lemmas.Bool.{cases_Bool, cases_lt}
use Rattle.std.proofs.lemmas.List.{length-append, get_or_append_left}
use Rattle.std.proofs.lemmas.List.Elements.{All-cons, All-nil, All-head, All-tail, Contains-get_or, Contains-append_cases}
use Rattle.std.proofs.lemmas.List.Kept.{AllPairs-cons, AllPairs-filter}
use Rattle.std.proofs.Math.Seq.{get_or-append_seam}
use Rattle.bound_forms.proofs.PlainOrder.{pairs-head, pairs-tail}
use Rattle.bound_forms.specs.Bounds.{comes_after}
use Rattle.history.specs.declared.catalogue.Entry.{Entry}
use Rattle.history.specs.Catalogue.{TableMade, TableDropped, EntryAdded, EntryEnded, EntryMarked, CheckKept, entries_added}
use Rattle.history.specs.History.{History, TxChange, SnapshotChange, RowChange, CatalogueChange, LockChange, catalogue_events}
use Rattle.history.specs.Places.{AreCatalogueSound}
use Rattle.history.specs.Presence.{is_present, entries_present}
use Rattle.row_router.specs.Histories.{placed, all_placed, is_under, children}
use Rattle.soundness.proofs.Listed.{none_in, first_in, later_in, cases_in}

-- ---- each of a list

pub each_in : {X : Type 0} (P : X → Type 0) (xs : List X) (x : X) → All P xs → Contains xs x → P x
each_in P xs x all at = subst P at.2 (all at.0 x at.1)

pub all_in : {X : Type 0} (P : X → Type 0) (xs : List X) → ((x : X) → Contains xs x → P x) → All P xs
all_in P xs each k d lt = each (get_or xs k d) (Contains-get_or xs k d lt)

pub pairs_append : {X : Type 0} (R : X → X → Type 0) (xs ys : List X) → AllPairs R xs → AllPairs R ys → ((x y : X) → Contains xs x → Contains ys y → R x y) → AllPairs R (xs ++ ys)
pairs_append R [] ys first last across = last
pairs_append R (x ∷ xs) ys first last across =
    AllPairs-cons R x (xs ++ ys)
    (all_in (R x) (xs ++ ys) (λ y at. elim (Contains-append_cases xs ys y at) [
      | inl here ↦ each_in (R x) xs y (pairs-head R x xs first) here
      | inr later ↦ across x y (first_in x xs) later
    ]))
    (pairs_append R xs ys (pairs-tail R x xs first) last (λ a b at. across a b (later_in x xs a at)))

pub pairs_none : {X : Type 0} (R : X → X → Type 0) → AllPairs R []
pairs_none R i j d lt below = absurd (omega (arith, below))

pub pairs_one : {X : Type 0} (R : X → X → Type 0) (x : X) → AllPairs R (x ∷ [])
pairs_one R x = AllPairs-cons R x [] (All-nil (R x)) (pairs_none R)

-- ---- the entries below a table

all_placed_in : (P : Entry → Type 0) (e : Entry) (xs : List Entry) → P e → All P xs → All P (placed e xs)
all_placed_in P e [] first all = All-cons P e [] first all
all_placed_in P e (x ∷ xs) first all = elim (cases_Bool (comes_after x.bound e.bound)) [
  | inl y ↦ rw y (All-cons P e (x ∷ xs) first all)
  | inr n ↦ rw n (All-cons P x (placed e xs) (All-head P x xs all) (all_placed_in P e xs first (All-tail P x xs all)))
]

-- two entries have two numbers
abbrev pub AreTwo : Entry → Entry → Type 0
AreTwo e f = e.id.number ≢ f.id.number

placed_two : (e : Entry) (xs : List Entry) → All (AreTwo e) xs → AllPairs AreTwo xs → AllPairs AreTwo (placed e xs)
placed_two e [] all two = pairs_one AreTwo e
placed_two e (x ∷ xs) all two = elim (cases_Bool (comes_after x.bound e.bound)) [
  | inl y ↦ rw y (AllPairs-cons AreTwo e (x ∷ xs) all two)
  | inr n ↦
      let apart : AreTwo e x = All-head (AreTwo e) x xs all in
      let first : AreTwo x e = λ same. apart (sym same) in
      rw n (AllPairs-cons AreTwo x (placed e xs) (all_placed_in (AreTwo x) e xs first (pairs-head AreTwo x xs two)) (placed_two e xs (All-tail (AreTwo e) x xs all) (pairs-tail AreTwo x xs two)))
]

-- each of the one list differs from each of the other
abbrev AreApart : List Entry → List Entry → Type 0
AreApart xs ys = (e f : Entry) → Contains xs e → Contains ys f → AreTwo e f

placed_was : (e : Entry) (xs : List Entry) (f : Entry) → Contains (placed e xs) f → (e ≡ f) ⊎ Contains xs f
placed_was e [] f at = cases_in e [] f at
placed_was e (x ∷ xs) f at = by (comes_after x.bound e.bound) at (placed_was e xs f)
  where
    by : (b : Bool) → Contains (if b then e ∷ (x ∷ xs) else x ∷ placed e xs) f → (Contains (placed e xs) f → (e ≡ f) ⊎ Contains xs f) → (e ≡ f) ⊎ Contains (x ∷ xs) f
    by true at more = cases_in e (x ∷ xs) f at
    by false at more = elim (cases_in x (placed e xs) f at) [
      | inl here ↦ inr (subst (Contains (x ∷ xs)) here (first_in x xs))
      | inr later ↦ elim (more later) [ inl same ↦ inl same | inr old ↦ inr (later_in x xs f old) ]
    ]

all_placed_two : (done es : List Entry) → AllPairs AreTwo done → AllPairs AreTwo es → AreApart done es → AllPairs AreTwo (all_placed done es)
all_placed_two done [] two rest apart = two
all_placed_two done (e ∷ es) two rest apart =
    all_placed_two (placed e done) es
    (placed_two e done (all_in (AreTwo e) done (λ f at same. apart f e at (first_in e es) (sym same))) two)
    (pairs-tail AreTwo e es rest)
    (λ f g at later. elim (placed_was e done f at) [
      | inl same ↦ subst (λ (z : Entry). AreTwo z g) same (each_in (AreTwo e) es g (pairs-head AreTwo e es rest) later)
      | inr old ↦ apart f g old (later_in e es g later)
    ])

pub children_two : (entries : List Entry) (t : ℕ) → AllPairs AreTwo entries → AllPairs AreTwo (children entries t)
children_two entries t two = all_placed_two [] (filter (is_under t) entries) (pairs_none AreTwo) (AllPairs-filter AreTwo (is_under t) entries two) (λ e f at. absurd (none_in e at))

-- ---- the number of an entry is its place

numbered_more : (es : List Entry) (e : Entry) → e.id.number ≡ length es → ((i : ℕ) (d : Entry) → i < length es → (get_or es i d).id.number ≡ i) → (i : ℕ) (d : Entry) → i < length (es ++ e ∷ []) → (get_or (es ++ e ∷ []) i d).id.number ≡ i
numbered_more es e at old i d lt =
    let n : length (es ++ e ∷ []) ≡ length es + 1 = length-append es (e ∷ []) in
    elim (cases_lt i (length es)) [
      | inl below ↦ ap (λ (x : Entry). x.id.number) (get_or_append_left es (e ∷ []) d i below) ∙ old i d below
      | inr le ↦
          let here : i ≡ length es = omega (arith, n, lt, le) in
          let is : get_or (es ++ e ∷ []) i d ≡ e = ap (λ j. get_or (es ++ e ∷ []) j d) here ∙ get_or-append_seam es e [] d in
          ap (λ (x : Entry). x.id.number) is ∙ (at ∙ sym here)
    ]

numbered_at : (h : History) → AreCatalogueSound h → (i : ℕ) (d : Entry) → i < length (entries_added (catalogue_events h)) → (get_or (entries_added (catalogue_events h)) i d).id.number ≡ i
numbered_at [] sound i d lt = absurd (omega (arith, lt))
numbered_at (CatalogueChange (EntryAdded e) ∷ h) sound i d lt = numbered_more (entries_added (catalogue_events h)) e sound.0.0 (numbered_at h sound.1) i d lt
numbered_at (CatalogueChange (TableMade t) ∷ h) sound i d lt = numbered_at h sound.1 i d lt
numbered_at (CatalogueChange (TableDropped n s) ∷ h) sound i d lt = numbered_at h sound.1 i d lt
numbered_at (CatalogueChange (EntryEnded n s) ∷ h) sound i d lt = numbered_at h sound.1 i d lt
numbered_at (CatalogueChange (EntryMarked n s) ∷ h) sound i d lt = numbered_at h sound.1 i d lt
numbered_at (CatalogueChange (CheckKept c) ∷ h) sound i d lt = numbered_at h sound.1 i d lt
numbered_at (TxChange e ∷ h) sound i d lt = numbered_at h sound i d lt
numbered_at (SnapshotChange e ∷ h) sound i d lt = numbered_at h sound i d lt
numbered_at (RowChange e ∷ h) sound i d lt = numbered_at h sound i d lt
numbered_at (LockChange e ∷ h) sound i d lt = numbered_at h sound i d lt

all_two : (h : History) → AreCatalogueSound h → AllPairs AreTwo (entries_added (catalogue_events h))
all_two h sound i j d lt below same =
    let a = numbered_at h sound i d (omega (arith, lt, below)) in
    let b = numbered_at h sound j d below in
    let e : i ≡ j = sym a ∙ (same ∙ b) in
    omega (arith, lt, e)

pub present_two : (h : History) (session : ℕ) → AreCatalogueSound h → AllPairs AreTwo (entries_present h session)
present_two h session sound = AllPairs-filter AreTwo (is_present h session) (entries_added (catalogue_events h)) (all_two h sound)
