-- Which rule a script of the grammar breaks first: limits, then names that are used twice, then no permutation, then
-- unknown steps, then markers. Within each, the first place in the text counts.
use Rattle.std.specs.Prelude.{ℕ, suc, ◌+◌, ◌-◌, Bool, true, false, not, nat_le, nat_lt, nat_eq, if◌then◌else◌, List, [], ◌∷◌, ◌++◌, length, Option, Some, None, is_some, is_none, codes}
use Rattle.std.specs.Borrow.{Bor}
use Rattle.std.specs.List.{list_any}
use Rattle.std.specs.Map.{lookup}
use Rattle.std.specs.Option.{option_or}
use Rattle.std.specs.Str.{bytes_eq}
use Rattle.pg_values.specs.declared.which.Which.TheVariants as which
use Rattle.spec_reader.specs.declared.fault.SpecFault.{SpecFault}
use Rattle.spec_reader.specs.declared.fault.SpecFault.TheVariants.{Limit, DoubleName, NoPermutation, UnknownStep, UnknownMarker}
use Rattle.spec_reader.specs.declared.limits.TheConstants.{MOST_SETUP_BLOCKS, MOST_SESSIONS, MOST_STEPS, MOST_PERMUTATIONS, MOST_USES, MOST_MARKERS}
use Rattle.spec_reader.specs.declared.spec.SessionSpec.{SessionSpec}
use Rattle.spec_reader.specs.declared.spec.StepSpec.{StepSpec}
use Rattle.spec_reader.specs.declared.written.WrittenMarker.{WrittenMarker}
use Rattle.spec_reader.specs.declared.written.WrittenMarker.TheVariants as written
use Rattle.spec_reader.specs.declared.written.WrittenSpec.{WrittenSpec}
use Rattle.spec_reader.specs.declared.written.WrittenUse.{WrittenUse}

-- the fault, where it is there
abbrev pub told : Bool → SpecFault → Option SpecFault
told b f = if b then Some f else None

-- the first that is told of an item of a list; what is told may depend on the items before it
abbrev pub first_behind : {A : Type 0} → (List A → A → Option SpecFault) → List A → List A → Option SpecFault
first_behind f before [] = None
first_behind f before (x ∷ xs) = option_or (f before x) (first_behind f (before ++ x ∷ []) xs)

abbrev pub first_told : {A : Type 0} → (List A → A → Option SpecFault) → List A → Option SpecFault
first_told f xs = first_behind f [] xs

-- Limits: a part is past one where as many as are allowed stand before it, or where it has more parts of its own than
-- are left.
abbrev pub steps_in : List SessionSpec → ℕ
steps_in [] = 0
steps_in (s ∷ ss) = length s.steps + steps_in ss

abbrev pub setup_limit : List (List ℕ) → Option SpecFault
setup_limit setups = told (nat_lt MOST_SETUP_BLOCKS (length setups)) (Limit which.SetupBlocks)

abbrev pub session_limit : List SessionSpec → SessionSpec → Option SpecFault
session_limit before s =
    option_or (told (nat_le MOST_SESSIONS (length before)) (Limit which.Sessions))
    (told (nat_lt (MOST_STEPS - steps_in before) (length s.steps)) (Limit which.Steps))

abbrev pub use_limit : List WrittenUse → WrittenUse → Option SpecFault
use_limit before u =
    option_or (told (nat_le MOST_USES (length before)) (Limit which.Uses))
    (told (nat_lt MOST_MARKERS (length u.markers)) (Limit which.Markers))

abbrev pub permutation_limit : List (List WrittenUse) → List WrittenUse → Option SpecFault
permutation_limit before uses =
    option_or (told (nat_le MOST_PERMUTATIONS (length before)) (Limit which.Permutations)) (first_told use_limit uses)

abbrev pub limit : WrittenSpec → Option SpecFault
limit w = option_or (setup_limit w.setups) (option_or (first_told session_limit w.sessions) (first_told permutation_limit w.permutations))

-- The steps of all sessions in order, each with the number of its session.
abbrev pub numbered : ℕ → List StepSpec → List (List ℕ × ℕ)
numbered n [] = []
numbered n (t ∷ ts) = (t.name, n) ∷ numbered n ts

abbrev pub steps_from : ℕ → List SessionSpec → List (List ℕ × ℕ)
steps_from n [] = []
steps_from n (s ∷ ss) = numbered n s.steps ++ steps_from (suc n) ss

abbrev pub steps_of : List SessionSpec → List (List ℕ × ℕ)
steps_of ss = steps_from 0 ss

-- keys that are lent, as bytes
abbrev pub shown : List (Bor (List ℕ) × ℕ) → List (List ℕ × ℕ)
shown [] = []
shown (e ∷ es) = (e.0.now, e.1) ∷ shown es

-- the session of the step that is called so
abbrev pub session_of : List (List ℕ × ℕ) → List ℕ → Option ℕ
session_of steps name = lookup (bytes_eq name) steps

-- Names that are used twice: of sessions, and of steps over all sessions.
abbrev pub double_step : List (List ℕ × ℕ) → ℕ → List StepSpec → StepSpec → Option SpecFault
double_step earlier n before t = told (is_some (session_of (earlier ++ numbered n before) t.name)) (DoubleName t.name)

abbrev pub is_session : List ℕ → List SessionSpec → Bool
is_session name ss = list_any (λ (s : SessionSpec). bytes_eq name s.name) ss

abbrev pub double_name : List SessionSpec → SessionSpec → Option SpecFault
double_name before s =
    option_or (told (is_session s.name before) (DoubleName s.name))
    (first_told (double_step (steps_of before) (length before)) s.steps)

-- No permutation.
abbrev pub no_permutation : List (List WrittenUse) → Option SpecFault
no_permutation [] = Some NoPermutation
no_permutation (p ∷ ps) = None

-- Uses of steps that are not there.
abbrev pub unknown_step : List (List ℕ × ℕ) → List WrittenUse → WrittenUse → Option SpecFault
unknown_step steps before u = told (is_none (session_of steps u.step)) (UnknownStep u.step)

abbrev pub unknown_steps : List (List ℕ × ℕ) → List (List WrittenUse) → List WrittenUse → Option SpecFault
unknown_steps steps before uses = first_told (unknown_step steps) uses

-- Markers: a step of another session than that of the use; `notices` is left out.
abbrev pub is_other : Option ℕ → Option ℕ → Bool
is_other own None = false
is_other None (Some n) = true
is_other (Some m) (Some n) = not (nat_eq m n)

abbrev pub unknown_marker : List (List ℕ × ℕ) → List ℕ → List WrittenMarker → WrittenMarker → Option SpecFault
unknown_marker steps step before written.Waiting = None
unknown_marker steps step before (written.After name) = told (not (is_other (session_of steps step) (session_of steps name))) (UnknownMarker name)
unknown_marker steps step before written.Notices = Some (UnknownMarker (codes "notices"))

abbrev pub unknown_markers : List (List ℕ × ℕ) → List WrittenUse → WrittenUse → Option SpecFault
unknown_markers steps before u = first_told (unknown_marker steps u.step) u.markers

abbrev pub unknown_uses : List (List ℕ × ℕ) → List (List WrittenUse) → List WrittenUse → Option SpecFault
unknown_uses steps before uses = first_told (unknown_markers steps) uses

-- that there are none, then the steps of all, then their markers
abbrev pub permutation_fault : List (List ℕ × ℕ) → List (List WrittenUse) → Option SpecFault
permutation_fault steps ps = option_or (no_permutation ps) (option_or (first_told (unknown_steps steps) ps) (first_told (unknown_uses steps) ps))

-- The first of all.
abbrev pub fault : WrittenSpec → Option SpecFault
fault w =
    option_or (limit w)
    (option_or (first_told double_name w.sessions)
    (permutation_fault (steps_of w.sessions) w.permutations))
