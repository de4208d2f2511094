-- Targets, row by row and leaf by leaf.
use Rattle.std.proofs.Common.{◌≡◌, ℕ, ◌+◌, ◌<◌, ◌==◌, ◌&&◌, Bool, true, List, [], ◌∷◌, ◌++◌, length, get_or, drop, map, refl, sym, ap, ◌∙◌, append_assoc, add-one, suc, drop-cons, arith, inl, inr, Option}
use Rattle.std.specs.Prelude.{All, filter, Result, Ok, Err, OnOk}
use Rattle.std.specs.List.{flat_map}
use Rattle.std.proofs.lemmas.Bool.{cases_Bool, and_parts}
use Rattle.std.proofs.lemmas.Bool.Decides.{nat_tests}
use Rattle.std.proofs.lemmas.List.Elements.{All-nil, All-cons, All-head, All-tail, All-append, All-same}
use Rattle.pg_values.specs.declared.value.Value.{Value}
use Rattle.pg_values.specs.declared.ids.LeafId.{LeafId}
use Rattle.pg_values.specs.declared.ids.RowId.{RowId}
use Rattle.history.specs.declared.version.Version.{Version}
use Rattle.history.specs.Snapshots.{TakenSnapshot}
use Rattle.history.specs.History.{History, seen, is_seen, versions}
use Rattle.row_store.specs.Kept.{KeptRows}
use Rattle.row_store.specs.Stands.{shown_version}
use Rattle.cond_logic.specs.Trees.{CondTree}
use Rattle.statement_steps.specs.declared.rest.TargetRow.{TargetRow}
use Rattle.change_statement.specs.Targets.{takes, taken, target_of, targets_in, IsTargetThere}

-- ---- the rows of a leaf

taken_first : (c : Option CondTree) (leaf : LeafId) (x : RowId × List Value) (xs : List (RowId × List Value)) → taken c leaf (x ∷ xs) ≡ taken c leaf (x ∷ []) ++ taken c leaf xs
taken_first c leaf x xs = elim (cases_Bool (takes c x.1)) [
  | inl t ↦ rw t refl
  | inr f ↦ rw f refl
]

pub taken_more : (c : Option CondTree) (leaf : LeafId) (xs ys : List (RowId × List Value)) (x : RowId × List Value) (before after all : List TargetRow) → xs ≡ x ∷ ys → before ++ taken c leaf xs ≡ all → after ≡ before ++ taken c leaf (x ∷ []) → after ++ taken c leaf ys ≡ all
taken_more c leaf xs ys x before after all is told more =
    ap (λ l. l ++ taken c leaf ys) more
    ∙ append_assoc before (taken c leaf (x ∷ [])) (taken c leaf ys)
    ∙ ap (λ l. before ++ l) (sym (taken_first c leaf x ys))
    ∙ ap (λ l. before ++ taken c leaf l) (sym is)
    ∙ told

-- ---- what a scan shows

of_leaf : (leaf : LeafId) (v : Version) → (v.leaf.number == leaf.number) ≡ true → (record { leaf = leaf; id = v.id }) ≡ target_of v
of_leaf leaf v e =
    let same : leaf.number ≡ v.leaf.number = grind (arith, nat_tests, e) in
    let made : ℕ → TargetRow = λ n. record { leaf = record { number = n }; id = v.id } in
    ap made same

taken_version : (c : Option CondTree) (leaf : LeafId) (v : Version) (vs : List Version) → (v.leaf.number == leaf.number) ≡ true → taken c leaf (map shown_version vs) ≡ map target_of (filter (λ w. takes c w.row) vs) → taken c leaf (map shown_version (v ∷ vs)) ≡ map target_of (filter (λ w. takes c w.row) (v ∷ vs))
taken_version c leaf v vs here rest = elim (cases_Bool (takes c v.row)) [
  | inl t ↦ rw t (ap (λ (x : TargetRow). x ∷ taken c leaf (map shown_version vs)) (of_leaf leaf v here) ∙ ap (λ xs. target_of v ∷ xs) rest)
  | inr f ↦ rw f rest
]

taken_seen : (c : Option CondTree) (leaf : LeafId) (test : Version → Bool) (vs : List Version) → taken c leaf (map shown_version (filter (λ v. (v.leaf.number == leaf.number) && test v) vs)) ≡ map target_of (filter (λ w. takes c w.row) (filter (λ v. (v.leaf.number == leaf.number) && test v) vs))
taken_seen c leaf test [] = refl
taken_seen c leaf test (v ∷ vs) = elim (cases_Bool ((v.leaf.number == leaf.number) && test v)) [
  | inl t ↦ rw t (taken_version c leaf v _ (and_parts (v.leaf.number == leaf.number) (test v) t).0 (taken_seen c leaf test vs))
  | inr f ↦ rw f (taken_seen c leaf test vs)
]

-- the rows that a scan shows of a leaf give its targets
pub taken_targets : (c : Option CondTree) (h : History) (s : TakenSnapshot) (leaf : LeafId) (before after : List TargetRow) (scan : List (RowId × List Value)) → after ≡ before ++ taken c leaf scan → scan ≡ map shown_version (seen h leaf.number s) → after ≡ before ++ targets_in h s c leaf
taken_targets c h s leaf before after scan e is =
    e ∙ ap (λ xs. before ++ taken c leaf xs) is ∙ ap (λ xs. before ++ xs) (taken_seen c leaf (is_seen h s) (versions h))

-- ---- what is there

all_taken : (kept : KeptRows) (c : Option CondTree) (leaf : LeafId) (xs : List (RowId × List Value)) → leaf.number < kept.leaves → All (λ r. r.0.number < length kept.stored) xs → All (IsTargetThere kept) (taken c leaf xs)
all_taken kept c leaf [] known ids = All-nil (IsTargetThere kept)
all_taken kept c leaf (x ∷ xs) known ids =
    let here = All-head (λ r. r.0.number < length kept.stored) x xs ids in
    let rest = all_taken kept c leaf xs known (All-tail (λ r. r.0.number < length kept.stored) x xs ids) in
    elim (cases_Bool (takes c x.1)) [
      | inl t ↦ rw t (All-cons (IsTargetThere kept) _ _ (here, known) rest)
      | inr f ↦ rw f rest
    ]

pub taken_there : (kept : KeptRows) (c : Option CondTree) (leaf : LeafId) (before after : List TargetRow) (xs : List (RowId × List Value)) → after ≡ before ++ taken c leaf xs → leaf.number < kept.leaves → All (λ r. r.0.number < length kept.stored) xs → All (IsTargetThere kept) before → All (IsTargetThere kept) after
taken_there kept c leaf before after xs e known ids there =
    All-same (IsTargetThere kept) after (before ++ taken c leaf xs) e (All-append (IsTargetThere kept) before (taken c leaf xs) there (all_taken kept c leaf xs known ids))

-- ---- leaves in order

leaf_at : {X : Type 0} (xs : List X) (i : ℕ) (x d : X) → i < length xs → x ≡ get_or xs i d → drop i xs ≡ x ∷ drop (i + 1) xs
leaf_at xs i x d less is = rw (add-one i) (drop-cons xs i d less ∙ ap (λ y. y ∷ drop (suc i) xs) (sym is))

pub more_targets : (g : LeafId → List TargetRow) (ls : List LeafId) (i : ℕ) (l d : LeafId) (before after all : List TargetRow) → i < length ls → l ≡ get_or ls i d → before ++ flat_map g (drop i ls) ≡ all → after ≡ before ++ g l → after ++ flat_map g (drop (i + 1) ls) ≡ all
more_targets g ls i l d before after all less is told more =
    ap (λ x. x ++ flat_map g (drop (i + 1) ls)) more
    ∙ append_assoc before (g l) (flat_map g (drop (i + 1) ls))
    ∙ ap (λ x. before ++ flat_map g x) (sym (leaf_at ls i l d less is))
    ∙ told

pub ok_more : {U E : Type 0} (A B : Type 0) (r : Result U E) → (A → B) → OnOk r A → OnOk r B
ok_more A B (Ok u) f a = f a
ok_more A B (Err e) f a = tt
