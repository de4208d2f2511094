-- The tasks of a script are those of its sessions.
use Rattle.std.proofs.Common.{◌<◌, ◌≤◌, ℕ, zero, suc, ◌+◌, List, [], ◌∷◌, ◌++◌, Option, Some, None, All, length, map, codes, slice_index_or, arith}
use Rattle.std.specs.List.{flat_map, range_with_len}
use Rattle.std.proofs.lemmas.List.Elements.{All-append, All-map}
use Rattle.std.proofs.lemmas.List.Concat.{flat_map-cons}
use Rattle.std.proofs.lemmas.List.FromFn.{length-range_with_len, get_or-range_with_len}
use Rattle.schedule.specs.Tasks.{session_of, AreKnown}
use Rattle.schedule.specs.declared.block.BlockKind.{BlockKind}
use Rattle.schedule.specs.declared.block.BlockKind.TheVariants.{Setup, Teardown, ControlTeardown}
use Rattle.schedule.specs.declared.task.Task.{Task}
use Rattle.schedule.specs.declared.task.Task.TheVariants.{Settle, RollBack}
use Rattle.spec_reader.specs.declared.spec.SessionSpec.{SessionSpec}
use Rattle.spec_reader.specs.declared.spec.Spec.{Spec}
use Rattle.spec_reader.specs.declared.spec.StepUse.{StepUse}
use Rattle.script_program.specs.Steps.{StepView, numbered, steps_of, steps_in, step_view, number_of, step_at, no_step}
use Rattle.script_program.specs.Tasks.{plain, plain_if, setup_in, teardown_in, launch_of, use_in, tasks_of, permutations_of}

none : {X : Type 0} (P : X → Type 0) → All P []
none P i d lt = absurd (omega arith)

one : {X : Type 0} (P : X → Type 0) (x : X) → P x → All P (x ∷ [])
one P x p zero d lt = p
one P x p (suc i) d lt = absurd (omega arith)

numbered_all : {A B : Type 0} (P : B → Type 0) (f : ℕ → A → List B) (m n : ℕ) (xs : List A) → n + length xs ≤ m → ((k : ℕ) (x : A) → k < m → All P (f k x)) → All P (numbered f n xs)
numbered_all P f m n [] le h = none P
numbered_all P f m n (x ∷ xs) le h = All-append P (f n x) (numbered f (suc n) xs) (h n x (omega arith)) (numbered_all P f m (suc n) xs (omega arith) h)

flat_all : {A B : Type 0} (P : B → Type 0) (f : A → List B) (xs : List A) → ((x : A) → All P (f x)) → All P (flat_map f xs)
flat_all P f [] h = none P
flat_all P f (x ∷ xs) h = rw (flat_map-cons f x xs) (All-append P (f x) (flat_map f xs) (h x) (flat_all P f xs h))

module _ (n : ℕ) where
  abbrev Known : Task → Type 0
  Known t = session_of t < n

  abbrev IsOf : StepView → Type 0
  IsOf s = s.session < n

  plain_if_known : (kind : BlockKind) (session : ℕ) (name : List ℕ) (text : Option (List ℕ)) → session < n → AreKnown n (plain_if kind session name text)
  plain_if_known kind session name None lt = none Known
  plain_if_known kind session name (Some text) lt = one Known (plain kind session name text) lt

  at_known : (steps : List StepView) (k : ℕ) → 0 < n → All IsOf steps → (step_at steps k).session < n
  at_known [] zero pos all = pos
  at_known [] (suc k) pos all = pos
  at_known (x ∷ xs) zero pos all = all 0 no_step (omega arith)
  at_known (x ∷ xs) (suc k) pos all = at_known xs k pos (λ i d lt. all (suc i) d (omega arith))

  launch_known : (steps : List StepView) (u : StepUse) (o : Option ℕ) → 0 < n → All IsOf steps → AreKnown n (launch_of steps u o)
  launch_known steps u None pos all = none Known
  launch_known steps u (Some k) pos all = one Known _ (at_known steps k pos all)

  range_known : (m : ℕ) → m ≤ n → AreKnown n (map RollBack (range_with_len 0 m))
  range_known m le = All-map Known RollBack (range_with_len 0 m) (λ i d lt.
      let len = length-range_with_len 0 m in
      let e = get_or-range_with_len 0 m i d (omega (arith, len, lt)) in
      rw e (omega (arith, len, lt)))

steps_known : (sessions : List SessionSpec) → All (IsOf (length sessions + 1)) (steps_of sessions)
steps_known sessions =
    numbered_all (IsOf (length sessions + 1)) steps_in (length sessions + 1) 1 sessions (omega arith)
    (λ k s lt. All-map (IsOf (length sessions + 1)) (step_view k) s.steps (λ i d l. lt))

pub tasks_known : (spec : Spec) (uses : List StepUse) → AreKnown (length spec.sessions + 1) (tasks_of spec uses)
tasks_known spec uses =
    let n = length spec.sessions + 1 in
    let P = Known n in
    let steps = steps_of spec.sessions in
    let control = All-map P (plain Setup 0 (codes "control")) spec.setups (λ i d l. omega arith) in
    let setups = numbered_all P setup_in n 1 spec.sessions (omega arith) (λ k s lt. plain_if_known n Setup k s.name s.setup lt) in
    let launched = flat_all P (use_in steps) uses (λ u. launch_known n steps u (number_of u.step steps) (omega arith) (steps_known spec.sessions)) in
    let teardowns = numbered_all P teardown_in n 1 spec.sessions (omega arith) (λ k s lt. plain_if_known n Teardown k s.name s.teardown lt) in
    let last = plain_if_known n ControlTeardown 0 (codes "control") spec.teardown (omega arith) in
    let ended = numbered teardown_in 1 spec.sessions in
    let rolled = map RollBack (range_with_len 0 (length spec.sessions + 1)) in
    let settled = All-append P (Settle ∷ []) ended (one P Settle (omega arith)) teardowns in
    let behind = All-append P ((Settle ∷ []) ++ ended ++ rolled) (plain_if ControlTeardown 0 (codes "control") spec.teardown) (All-append P ((Settle ∷ []) ++ ended) rolled settled (range_known n n (omega arith))) last in
    All-append P _ _ (All-append P _ _ (All-append P _ _ control setups) launched) behind

pub permutations_known : (spec : Spec) → All (AreKnown (length spec.sessions + 1)) (permutations_of spec)
permutations_known spec = All-map (AreKnown (length spec.sessions + 1)) (tasks_of spec) spec.permutations (λ i d l. tasks_known spec (slice_index_or spec.permutations i d))
