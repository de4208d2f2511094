-- The CHECKs that a table keeps are of the levels that they name.
use Rattle.std.proofs.Common.{◌≡◌, ℕ, refl, ap, sym, ◌∙◌, List, [], ◌∷◌, map, Some, None, Result, Ok, Err, IfOk, slice_get}
use Rattle.std.specs.List.{All}
use Rattle.std.proofs.lemmas.List.Elements.{All-append, All-cons, All-head, All-tail, All-nil, All-filter}
use Rattle.bound_forms.specs.Levels.{IsOfLevel}
use Rattle.history.specs.declared.catalogue.Check.{Check}
use Rattle.history.specs.declared.catalogue.KeptCheck.{KeptCheck}
use Rattle.history.specs.Catalogue.{CheckKept, tables_made, checks_kept}
use Rattle.history.specs.History.{History, CatalogueChange, tx_events, catalogue_events}
use Rattle.history.specs.Places.{AreCatalogueSound}
use Rattle.history.specs.Presence.{entries_present, checks_of, is_check_of}
use Rattle.row_router.specs.declared.path_part.PathPart.{PathPart}
use Rattle.row_router.specs.Histories.{above, kept_of, parent_in, part_of, path_of, upwards}

abbrev pub IsKeptOfLevel : KeptCheck → Type 0
IsKeptOfLevel k = IsOfLevel k.level k.bound

abbrev HasLevel : Check → Type 0
HasLevel c = IsKeptOfLevel (kept_of c)

all_have_levels : (h : History) → AreCatalogueSound h → All HasLevel (checks_kept (catalogue_events h))
all_have_levels [] sound = All-nil HasLevel
all_have_levels (CatalogueChange (CheckKept c) ∷ h) sound = All-append HasLevel (checks_kept (catalogue_events h)) (c ∷ []) (all_have_levels h sound.1) (All-cons HasLevel c [] sound.0.1 (All-nil HasLevel))
all_have_levels (CatalogueChange e ∷ h) sound = all_have_levels h sound.1
all_have_levels (_ ∷ h) sound = all_have_levels h sound

all_kept : (cs : List Check) → All HasLevel cs → All IsKeptOfLevel (map kept_of cs)
all_kept [] all = All-nil IsKeptOfLevel
all_kept (c ∷ cs) all = All-cons IsKeptOfLevel (kept_of c) (map kept_of cs) (All-head HasLevel c cs all) (all_kept cs (All-tail HasLevel c cs all))

pub kept_have_levels : (h : History) (s t : ℕ) → AreCatalogueSound h → All IsKeptOfLevel (map kept_of (checks_of h s t))
kept_have_levels h s t sound = all_kept (checks_of h s t) (All-filter (is_check_of (tx_events h) s t) HasLevel (checks_kept (catalogue_events h)) (all_have_levels h sound))

-- a path begins at the table itself
pub path_starts : (h : History) (s t : ℕ) → (ps : List PathPart) × (path_of h s t ≡ part_of (tables_made (catalogue_events h)) (entries_present h s) (checks_of h s) t ∷ ps)
unfolding Rattle.row_router.specs.Histories.path_of
path_starts h s t = (upwards 7 (part_of (tables_made (catalogue_events h)) (entries_present h s) (checks_of h s)) (above (entries_present h s)) (parent_in (above (entries_present h s) t)), refl)

pub first_part : (h : History) (s t : ℕ) (parts : List PathPart) (part : PathPart) → parts ≡ path_of h s t → slice_get parts 0 ≡ Some part → part.checks ≡ map kept_of (checks_of h s t)
first_part h s t parts part is at =
    let path = path_starts h s t in
    let front = part_of (tables_made (catalogue_events h)) (entries_present h s) (checks_of h s) t in
    let first : Some front ≡ Some part = ap (λ ps. slice_get ps 0) (sym (is ∙ path.1)) ∙ at in
    let same : part ≡ front = cc in
    ap (λ (x : PathPart). x.checks) same

pub never_empty : (h : History) (s t : ℕ) (parts : List PathPart) → parts ≡ path_of h s t → slice_get parts 0 ≡ None → ⊥
never_empty h s t parts is at =
    let path = path_starts h s t in
    let first : Some (part_of (tables_made (catalogue_events h)) (entries_present h s) (checks_of h s) t) ≡ None = ap (λ ps. slice_get ps 0) (sym (is ∙ path.1)) ∙ at in
    cc

pub if_ok_more : {T E : Type 0} (r : Result T E) (A B : T → Type 0) → ((x : T) → A x → B x) → IfOk r A → IfOk r B
if_ok_more (Ok x) A B f a = f x a
if_ok_more (Err e) A B f a = tt
