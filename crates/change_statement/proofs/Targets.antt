-- The targets that are found are versions of the tree's leaves, and so are those that are left of them.
use Rattle.std.proofs.Common.{◌≡◌, ℕ, ◌<◌, ◌==◌, ◌&&◌, Bool, true, false, if◌then◌else◌, List, [], ◌∷◌, ◌++◌, refl, ap, sym, ◌∙◌, subst, arith, inl, inr, Option, Some, None, All, map, filter, length, slice_index_or, append-nil}
use Rattle.std.specs.List.{Contains, flat_map}
use Rattle.std.proofs.lemmas.List.{length-append, length-map, get_or-map}
use Rattle.std.proofs.lemmas.Bool.{cases_Bool, cases_lt, and_parts}
use Rattle.std.proofs.lemmas.Bool.Decides.{nat_tests}
use Rattle.std.proofs.lemmas.Grind.{common_steps, elements}
use Rattle.std.proofs.lemmas.List.Elements.{All-nil, All-cons, All-head, All-tail, All-append}
use Rattle.pg_values.specs.declared.ids.LeafId.{LeafId}
use Rattle.pg_values.specs.declared.ids.RowId.{RowId}
use Rattle.history.specs.declared.version.Version.{Version}
use Rattle.history.specs.Rows.{LeafAdded, RowBorn, RowEnded}
use Rattle.history.specs.RowsSound.{AreRowsSound}
use Rattle.history.specs.Snapshots.{TakenSnapshot}
use Rattle.history.specs.History.{History, TxChange, SnapshotChange, RowChange, LockChange, CatalogueChange, versions, is_seen, seen}
use Rattle.cond_logic.specs.Trees.{CondTree}
use Rattle.row_store.specs.Kept.{KeptRows, blank, version_of, stored_at}
use Rattle.row_store.specs.Stands.{StoreStands}
use Rattle.change_statement.specs.Targets.{takes, target_of, targets_in, targets}
use Rattle.statement_steps.specs.declared.rest.TargetRow.{TargetRow}
use Rattle.soundness.proofs.Listed.{first_in, later_in}
use Rattle.statement_steps.specs.Gathered.{Found}
use Rattle.change_statement.specs.Running.{IsTargetIn}

-- ---- versions have their places for numbers

abbrev IsNumbered : List Version → Type 0
IsNumbered vs = (k : ℕ) (d : Version) → k < length vs → (slice_index_or vs k d).id.number ≡ k

one_more : (vs : List Version) (v : Version) → v.id.number ≡ length vs → IsNumbered vs → IsNumbered (vs ++ v ∷ [])
one_more vs v number all k d lt =
    elim (cases_lt k (length vs)) [
      | inl before ↦ let e = all k d before in grind (arith, common_steps, elements, e)
      | inr past ↦ let count = length-append vs (v ∷ []) in let last : k ≡ length vs = omega (arith, count, lt, past) in grind (arith, common_steps, elements, last, number)
    ]

numbered : (h : History) → AreRowsSound h → IsNumbered (versions h)
numbered [] sound = λ k d lt. absurd (omega (arith, lt))
numbered (TxChange e ∷ h) sound = numbered h sound
numbered (SnapshotChange e ∷ h) sound = numbered h sound
numbered (LockChange e ∷ h) sound = numbered h sound
numbered (CatalogueChange e ∷ h) sound = numbered h sound
numbered (RowChange (LeafAdded l) ∷ h) sound = numbered h sound.1
numbered (RowChange (RowBorn v) ∷ h) sound = one_more (versions h) v sound.0.number (numbered h sound.1)
numbered (RowChange (RowEnded k e) ∷ h) sound = numbered h sound.1

-- ---- a version as it is kept

-- it has its place
abbrev IsAt : KeptRows → Version → Type 0
IsAt rows v = (v.id.number < length rows.stored) × ((stored_at rows.stored v.id).version ≡ v)

-- a version that is kept is that of its place
pub record IsKept (rows : KeptRows) (h : History) (id : RowId) : Type 0 where
  pub within : id.number < length (versions h)
  pub there : slice_index_or (versions h) id.number blank.version ≡ (stored_at rows.stored id).version
  pub number : (stored_at rows.stored id).version.id.number ≡ id.number

pub version_numbered : (rows : KeptRows) (h : History) (id : RowId) → id.number < length rows.stored → StoreStands rows h → IsKept rows h id
version_numbered rows h id known stands =
    let k = id.number in
    let d = blank.version in
    let count : length rows.stored ≡ length (versions h) = sym (length-map rows.stored version_of) ∙ ap length stands.births in
    let within : k < length (versions h) = omega (arith, count, known) in
    let there : (slice_index_or rows.stored k blank).version ≡ slice_index_or (versions h) k d = sym (get_or-map version_of rows.stored k blank d known) ∙ ap (λ vs. slice_index_or vs k d) stands.births in
    record { within = within; there = sym there; number = ap (λ (v : Version). v.id.number) there ∙ numbered h stands.sound k d within }

each_at : (vs : List Version) (P : Version → Type 0) → ((k : ℕ) (d : Version) → k < length vs → P (slice_index_or vs k d)) → All P vs
each_at vs P each k d lt = each k d lt

all_at : (rows : KeptRows) (h : History) → StoreStands rows h → All (IsAt rows) (versions h)
all_at rows h stands k d lt =
    let n = numbered h stands.sound k d lt in
    let count : length rows.stored ≡ length (versions h) = sym (length-map rows.stored version_of) ∙ ap length stands.births in
    let low : k < length rows.stored = omega (arith, count, lt) in
    let there : (slice_index_or rows.stored k blank).version ≡ slice_index_or (versions h) k d = sym (get_or-map version_of rows.stored k blank d low) ∙ ap (λ vs. slice_index_or vs k d) stands.births in (
      subst (λ m. m < length rows.stored) (sym n) low,
      subst (λ m. (slice_index_or rows.stored m blank).version ≡ slice_index_or (versions h) k d) (sym n) there,
    )

-- ---- the targets

-- what holds of all that pass
all_passing : {X : Type 0} (p : X → Bool) (P Q : X → Type 0) (xs : List X) → ((x : X) → p x ≡ true → P x → Q x) → All P xs → All Q (filter p xs)
all_passing p P Q [] to all = All-nil Q
all_passing p P Q (x ∷ xs) to all =
    let rest = all_passing p P Q xs to (All-tail P x xs all) in
    elim (cases_Bool (p x)) [
      | inl t ↦ rw t (All-cons Q x (filter p xs) (to x t (All-head P x xs all)) rest)
      | inr f ↦ rw f rest
    ]

all_mapped : {X Y : Type 0} (f : X → Y) (P : Y → Type 0) (xs : List X) → All (λ x. P (f x)) xs → All P (map f xs)
all_mapped f P [] all = All-nil P
all_mapped f P (x ∷ xs) all = All-cons P (f x) (map f xs) (All-head (λ y. P (f y)) x xs all) (all_mapped f P xs (All-tail (λ y. P (f y)) x xs all))

all_flat : {X Y : Type 0} (f : X → List Y) (P : Y → Type 0) (xs : List X) → ((x : X) → Contains xs x → All P (f x)) → All P (flat_map f xs)
all_flat f P [] each = All-nil P
all_flat f P (x ∷ xs) each = All-append P (f x) (flat_map f xs) (each x (first_in x xs)) (all_flat f P xs (λ y at. each y (later_in x xs y at)))

same_leaf : (a b : LeafId) → (a.number == b.number) ≡ true → a ≡ b
same_leaf a b e =
    let number : a.number ≡ b.number = grind (arith, nat_tests, e) in
    let of : ℕ → LeafId = λ n. record { number = n } in
    ap of number

version_is_target : (rows : KeptRows) (g : Found) (h : History) (s : TakenSnapshot) (leaf : LeafId) (v : Version) → Contains g.leaves leaf → ((v.leaf.number == leaf.number) && is_seen h s v) ≡ true → IsAt rows v → IsTargetIn rows g (target_of v)
version_is_target rows g h s leaf v among passes at =
    let both = and_parts (v.leaf.number == leaf.number) (is_seen h s v) passes in
    record {
      there = at.0;
      leaf = ap (λ (w : Version). w.leaf) at.1;
      among = subst (Contains g.leaves) (sym (same_leaf v.leaf leaf both.0)) among;
    }

pub all_targets : (rows : KeptRows) (g : Found) (h : History) (s : TakenSnapshot) (condition : Option CondTree) → StoreStands rows h → All (IsTargetIn rows g) (targets h s condition g.leaves)
all_targets rows g h s condition stands =
    let P : Version → Type 0 = λ v. IsTargetIn rows g (target_of v) in
    all_flat (targets_in h s condition) (IsTargetIn rows g) g.leaves (λ leaf among.
    all_mapped target_of (IsTargetIn rows g) (filter (λ v. takes condition v.row) (seen h leaf.number s))
    (all_passing (λ (v : Version). takes condition v.row) P P (seen h leaf.number s) (λ v passes its. its)
    (all_passing (λ (v : Version). (v.leaf.number == leaf.number) && is_seen h s v) (IsAt rows) P (versions h) (λ v passes at. version_is_target rows g h s leaf v among passes at) (all_at rows h stands))))
