-- What the CHECKs of a path say, of a session: a row that none of them refuses passes those above it, and the other way round.
use Rattle.std.proofs.Common.{◌≡◌, ◌<◌, ℕ, zero, suc, ◌==◌, ◌&&◌, not, arith, Bool, true, false, if◌then◌else◌, List, [], ◌∷◌, inl, inr, refl, ap, sym, subst, ◌∙◌, Option, Some, None, find, map, get_or}
use Rattle.std.specs.List.{All, Contains, list_any}
use Rattle.std.proofs.lemmas.Grind.{common_steps}
use Rattle.std.proofs.lemmas.Bool.{cases_Bool, and_parts}
use Rattle.std.proofs.lemmas.Bool.Decides.{nat_tests}
use Rattle.std.proofs.lemmas.List.Elements.{All-append, All-cons, All-nil, All-filter, All-contains, filter_passes, Contains-append_left, Contains-append_right}
use Rattle.pg_values.specs.declared.value.Value.{Value}
use Rattle.pg_values.specs.declared.ids.LeafId.{LeafId}
use Rattle.pg_values.specs.declared.ids.TableNo.{TableNo}
use Rattle.history.specs.declared.version.Version.{Version}
use Rattle.history.specs.declared.catalogue.Entry.{Entry}
use Rattle.history.specs.declared.catalogue.Check.{Check}
use Rattle.history.specs.Rows.{RowEvents, LeafAdded, RowBorn, RowEnded, births}
use Rattle.history.specs.Catalogue.{CatalogueEvents, TableMade, TableDropped, EntryAdded, EntryEnded, EntryMarked, CheckKept, tables_made, checks_kept, IsKeptCheck}
use Rattle.history.specs.History.{History, tx_events, row_events, catalogue_events, versions, is_seen, seen}
use Rattle.history.specs.Presence.{counts, entries_present, checks_of, is_check_of}
use Rattle.history.specs.Legal.{IsLegal}
use Rattle.history.proofs.Open.{open_runs}
use Rattle.row_router.specs.declared.path_part.PathPart.{PathPart}
use Rattle.row_router.specs.Trees.{key_of}
use Rattle.row_router.specs.Histories.{path_of, part_of, upwards, above, parent_in, kept_of, is_over}
use Rattle.row_router.specs.declared.path.PathTest.TheVariants.{Checks}
use Rattle.row_router.specs.Paths.{check_refuses, refuses, refused}
use Rattle.bound_forms.specs.Accepts.{accepts}
use Rattle.soundness.specs.Versions.{IsVersion}
use Rattle.soundness.specs.Worlds.{HasLeaf, Present, Under, view}
use Rattle.soundness.specs.Parts.{Siblings, InvariantOf}
use Rattle.soundness.proofs.Under.{under_map}
use Rattle.soundness.proofs.Sound.{sound_of, catalogue_sound_of}
use Rattle.soundness.proofs.Looking.{counts_world, looking_shows}
use Rattle.soundness.proofs.Presence.{all_more, all_present}
use Rattle.soundness.proofs.Listed.{none_in, first_in, later_in, cases_in, kept_in}
use Rattle.soundness.proofs.Paths.{found_above, few_steps, agree}
use Rattle.soundness.specs.Kept.{Passes, CountsIn, PassAbove}
use Rattle.soundness.specs.Laws.{PathPasses, RowsPass}
use Rattle.soundness.proofs.All.{legal_keeps_both}

-- ---- the CHECKs of one table

kept_listed : (cats : CatalogueEvents) (c : Check) → IsKeptCheck cats c → Contains (checks_kept cats) c
kept_listed [] c is = absurd is
kept_listed (CheckKept d ∷ cats) c (inl new) = Contains-append_right (checks_kept cats) (d ∷ []) c (subst (λ z. Contains (d ∷ []) z) new (first_in d []))
kept_listed (CheckKept d ∷ cats) c (inr old) = Contains-append_left (checks_kept cats) (d ∷ []) c (kept_listed cats c old)
kept_listed (TableMade t ∷ cats) c is = kept_listed cats c is
kept_listed (TableDropped k s ∷ cats) c is = kept_listed cats c is
kept_listed (EntryAdded e ∷ cats) c is = kept_listed cats c is
kept_listed (EntryEnded k s ∷ cats) c is = kept_listed cats c is
kept_listed (EntryMarked k s ∷ cats) c is = kept_listed cats c is

all_kept : (cats : CatalogueEvents) → All (IsKeptCheck cats) (checks_kept cats)
all_kept [] = All-nil (IsKeptCheck [])
all_kept (CheckKept c ∷ cats) = All-append (IsKeptCheck (CheckKept c ∷ cats)) (checks_kept cats) (c ∷ []) (all_more (IsKeptCheck cats) (IsKeptCheck (CheckKept c ∷ cats)) (checks_kept cats) (λ x is. inr is) (all_kept cats)) (All-cons (IsKeptCheck (CheckKept c ∷ cats)) c [] (inl refl) (All-nil (IsKeptCheck (CheckKept c ∷ cats))))
all_kept (TableMade t ∷ cats) = all_kept cats
all_kept (TableDropped k s ∷ cats) = all_kept cats
all_kept (EntryAdded e ∷ cats) = all_kept cats
all_kept (EntryEnded k s ∷ cats) = all_kept cats
all_kept (EntryMarked k s ∷ cats) = all_kept cats

pub check_listed : (h : History) (session x : ℕ) (c : Check) → CountsIn (catalogue_events h) (counts (tx_events h) session) c → c.table.number ≡ x → Contains (checks_of h session x) c
check_listed h session x c is at =
    let same : (c.table.number == x) ≡ true = grind (arith, nat_tests, at) in
    kept_in (is_check_of (tx_events h) session x) (checks_kept (catalogue_events h)) c (kept_listed (catalogue_events h) c is.0) (rw (same, is.1) refl)

pub check_counts : (h : History) (session x : ℕ) (c : Check) → Contains (checks_of h session x) c → CountsIn (catalogue_events h) (counts (tx_events h) session) c × (c.table.number ≡ x)
check_counts h session x c at =
    let test = is_check_of (tx_events h) session x in
    let kept = All-contains (IsKeptCheck (catalogue_events h)) (checks_of h session x) c (All-filter test (IsKeptCheck (catalogue_events h)) (checks_kept (catalogue_events h)) (all_kept (catalogue_events h))) at in
    let passes = All-contains (λ (d : Check). test d ≡ true) (checks_of h session x) c (λ k d lt. filter_passes test (checks_kept (catalogue_events h)) k d lt) at in
    let parts = and_parts (c.table.number == x) (counts (tx_events h) session c.by.number) passes in
    ((kept, parts.1), grind (arith, nat_tests, parts.0))

not_refused : (b : Bool) → not b ≡ false → b ≡ true
not_refused true is = refl
not_refused false is = absurd (cc)

one_passes : (row : List Value) (cs : List Check) (c : Check) → Contains cs c → list_any (check_refuses row) (map kept_of cs) ≡ false → Passes c row
one_passes row [] c at none = absurd (none_in c at)
one_passes row (d ∷ cs) c at none =
    let first : check_refuses row d.kept ≡ false = grind (arith, common_steps, none) in
    elim (cases_in d cs c at) [
      | inl here ↦ subst (λ (z : Check). Passes z row) here (not_refused (accepts (key_of d.kept.level row) d.kept.bound) first)
      | inr later ↦ one_passes row cs c later (rw first at none)
    ]

all_pass : (row : List Value) (cs : List Check) → ((c : Check) → Contains cs c → Passes c row) → list_any (check_refuses row) (map kept_of cs) ≡ false
all_pass row [] pass = refl
all_pass row (c ∷ cs) pass =
    let first : accepts (key_of c.kept.level row) c.kept.bound ≡ true = pass c (first_in c cs) in
    rw first (all_pass row cs (λ d at. pass d (later_in c cs d at)))

-- ---- the way up

none_refused : (b : Bool) (t : TableNo) (r : Option TableNo) → (if b then Some t else r) ≡ None → (b ≡ false) × (r ≡ None)
none_refused true t r is = absurd (cc)
none_refused false t r is = (refl, is)

walk : (h : History) (session : ℕ) (row : List Value) (part : ℕ → PathPart) → IsLegal h → Siblings (catalogue_events h) (counts (tx_events h) session)
    → (n fuel x y : ℕ) → n < fuel → Under (catalogue_events h) (counts (tx_events h) session) n y x → refused Checks row (upwards fuel part (above (entries_present h session)) (Some x)) ≡ None → refuses Checks row (part y) ≡ false
walk h session row part legal siblings n zero x y lt is none = absurd (omega (arith, lt))
walk h session row part legal siblings zero (suc fuel) x y lt is none =
    subst (λ z. refuses Checks row (part z) ≡ false) (sym is) (none_refused (refuses Checks row (part x)) (part x).table (refused Checks row (upwards fuel part (above (entries_present h session)) (parent_in (above (entries_present h session) x)))) none).0
walk h session row part legal siblings (suc n) (suc fuel) x y lt (e, p, child, rest) none =
    let up = above (entries_present h session) in
    let later = (none_refused (refuses Checks row (part x)) (part x).table (refused Checks row (upwards fuel part up (parent_in (up x)))) none).1 in
    let at : up x ≡ Some e = found_above h session x e legal siblings p child in
    walk h session row part legal siblings n fuel e.parent.number y (omega (arith, lt)) rest (subst (λ o. refused Checks row (upwards fuel part up (parent_in o)) ≡ None) at later)

pub path_passes_in : (h : History) (session x : ℕ) (row : List Value) → IsLegal h → InvariantOf h → refused Checks row (path_of h session x) ≡ None → PassAbove (catalogue_events h) (counts (tx_events h) session) x row
unfolding Rattle.row_router.specs.Histories.path_of
path_passes_in h session x row legal i none c n is low =
    let siblings = i.siblings (counts (tx_events h) session) (counts_world (tx_events h) session (sound_of h legal)) in
    let lt = few_steps (catalogue_events h) (counts (tx_events h) session) n c.table.number x siblings low in
    let part : ℕ → PathPart = part_of (tables_made (catalogue_events h)) (entries_present h session) (checks_of h session) in
    let here : refuses Checks row (part c.table.number) ≡ false = walk h session row part legal siblings n 8 x c.table.number lt low none in
    one_passes row (checks_of h session c.table.number) c (check_listed h session c.table.number c is refl) here

pub path_passes : PathPasses
path_passes h session t x row legal permitted opened none c n is low =
    let runs = (open_runs (tx_events h) session t (sound_of h legal) opened).runs in
    let same = λ (k : ℕ). agree (tx_events h) session t k opened runs in
    let to : (e : Entry) → Present (catalogue_events h) (view (tx_events h) t) e → Present (catalogue_events h) (counts (tx_events h) session) e = λ e p. (p.0, same e.by.number ∙ p.1, λ u end. same u ∙ p.2 u end) in
    path_passes_in h session x row legal (legal_keeps_both h legal permitted).0 none c n (is.0, same c.by.number ∙ is.1) (under_map (catalogue_events h) (catalogue_events h) (view (tx_events h) t) (counts (tx_events h) session) to n c.table.number x low)

-- ---- and back

found : (p : Entry → Bool) (es : List Entry) (e : Entry) → find p es ≡ Some e → Contains es e × (p e ≡ true)
found p [] e is = absurd (cc)
found p (x ∷ es) e is = elim (cases_Bool (p x)) [
  | inl y ↦
      let now : Some x ≡ Some e = subst (λ b. (if b then Some x else find p es) ≡ Some e) y is in
      let same : x ≡ e = cc in
      (subst (λ z. Contains (x ∷ es) z) same (first_in x es), subst (λ z. p z ≡ true) same y)
  | inr n ↦
      let r = found p es e (subst (λ b. (if b then Some x else find p es) ≡ Some e) n is) in
      (later_in x es e r.0, r.1)
]

-- no CHECK of the path from there on, so many tables long, refuses the row
abbrev IsUnrefused : History → ℕ → List Value → ℕ → Option ℕ → Type 0
IsUnrefused h session row fuel o = refused Checks row (upwards fuel (part_of (tables_made (catalogue_events h)) (entries_present h session) (checks_of h session)) (above (entries_present h session)) o) ≡ None

climb_on : (h : History) (session : ℕ) (row : List Value) → IsLegal h → (fuel x : ℕ) → PassAbove (catalogue_events h) (counts (tx_events h) session) x row → (o : Option Entry) → above (entries_present h session) x ≡ o
    → ((y : ℕ) → PassAbove (catalogue_events h) (counts (tx_events h) session) y row → IsUnrefused h session row fuel (Some y)) → IsUnrefused h session row fuel (parent_in o)
climb_on h session row legal fuel x pass None at again = refl
climb_on h session row legal fuel x pass (Some e) at again =
    let its = found (is_over x) (entries_present h session) e at in
    let p = All-contains (Present (catalogue_events h) (counts (tx_events h) session)) (entries_present h session) e (all_present h session (sound_of h legal) (catalogue_sound_of h legal)) its.0 in
    let child : e.child.number ≡ x = grind (arith, nat_tests, its.1) in
    again e.parent.number (λ c n is low. pass c (suc n) is (e, p, child, low))

climb : (h : History) (session : ℕ) (row : List Value) → IsLegal h → (fuel x : ℕ) → PassAbove (catalogue_events h) (counts (tx_events h) session) x row → IsUnrefused h session row fuel (Some x)
climb h session row legal zero x pass = refl
climb h session row legal (suc fuel) x pass =
    let here : list_any (check_refuses row) (map kept_of (checks_of h session x)) ≡ false = all_pass row (checks_of h session x) (λ c at. let its = check_counts h session x c at in pass c zero its.0 its.1) in
    rw here (climb_on h session row legal fuel x pass (above (entries_present h session) x) refl (climb h session row legal fuel))

pub path_none : (h : History) (session x : ℕ) (row : List Value) → IsLegal h → PassAbove (catalogue_events h) (counts (tx_events h) session) x row → refused Checks row (path_of h session x) ≡ None
unfolding Rattle.row_router.specs.Histories.path_of
path_none h session x row legal pass = climb h session row legal 8 x pass

all_versions : (rows : RowEvents) → All (IsVersion rows) (births rows)
all_versions [] = All-nil (IsVersion [])
all_versions (LeafAdded l ∷ rows) = all_versions rows
all_versions (RowEnded k e ∷ rows) = all_versions rows
all_versions (RowBorn v ∷ rows) = All-append (IsVersion (RowBorn v ∷ rows)) (births rows) (v ∷ []) (all_more (IsVersion rows) (IsVersion (RowBorn v ∷ rows)) (births rows) (λ x is. inr is) (all_versions rows)) (All-cons (IsVersion (RowBorn v ∷ rows)) v [] (inl refl) (All-nil (IsVersion (RowBorn v ∷ rows))))

same_leaf : (a b : LeafId) → a.number ≡ b.number → a ≡ b
same_leaf a b is = ap (λ n. record { number = n }) is

pub rows_pass : RowsPass
rows_pass h legal permitted session x s leaf looking has k d lt =
    let now = legal_keeps_both h legal permitted in
    let v : Version = get_or (seen h leaf.number s) k d in
    let test = filter_passes (λ (v : Version). (v.leaf.number == leaf.number) && is_seen h s v) (versions h) k d lt in
    let is = All-filter (λ (v : Version). (v.leaf.number == leaf.number) && is_seen h s v) (IsVersion (row_events h)) (versions h) (all_versions (row_events h)) k d lt in
    let parts = and_parts (v.leaf.number == leaf.number) (is_seen h s v) test in
    let same : v.leaf.number ≡ leaf.number = grind (arith, nat_tests, parts.0) in
    let at : HasLeaf (catalogue_events h) x v.leaf = subst (λ (l : LeafId). HasLeaf (catalogue_events h) x l) (sym (same_leaf v.leaf leaf same)) has in
    path_none h session x v.row legal (now.1.checked (counts (tx_events h) session) v x (counts_world (tx_events h) session (sound_of h legal)) is (looking_shows h session s v legal now.0 looking is parts.1) at)
