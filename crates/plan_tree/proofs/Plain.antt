-- Whether a plain table is kept, by a level without key columns.
use Rattle.std.proofs.Common.{◌≡◌, ℕ, arith, Bool, true, false, if◌then◌else◌, List, [], ◌∷◌, refl, ap, sym, subst, ◌∙◌, length, true≢false}
use Rattle.std.specs.List.{slice_index_or}
use native.Mathlib.Nat.{ℕ_set}
use Rattle.bound_forms.specs.declared.level.KeyColumn.{KeyColumn}
use Rattle.bound_forms.specs.declared.level.Level.{Level}
use Rattle.pg_values.specs.declared.strategy.Strategy.{Strategy}
use Rattle.pg_values.specs.declared.strategy.Strategy.TheVariants.{Range as ByRange, List as ByList, Hash as ByHash}
use Rattle.bound_forms.specs.declared.partition_bound.Bound.{Bound}
use Rattle.bound_forms.specs.declared.partition_bound.Bound.TheVariants.{Range, List as Listed, Hash, Default}
use Rattle.bound_forms.specs.Accepts.{is_default}
use Rattle.bound_forms.specs.Bounds.{in_plain_order}
use Rattle.row_router.specs.Trees.{TableTree, LeafTable, LevelTable}
use Rattle.prune_steps.specs.Bits.{bit}
use Rattle.plan_tree.specs.Kept.{Keeps, AreKept, is_plain, keeps_plain, kept_leaves, kept_tables, leaf_of, leaves_below, no_keys}

one_proof : (s : Strategy) (columns : List KeyColumn) → IsProp (s ≡ ByList → length columns ≡ 1)
one_proof s columns = hlevel ℕ_set

level_same : (s : Strategy) (columns : List KeyColumn) (one : s ≡ ByList → length columns ≡ 1) → s ≡ ByRange → columns ≡ [] → record { strategy = s; columns = columns; one_if_list = one } ≡ no_keys
level_same ByRange [] one e f = ap (λ (p : ByRange ≡ ByList → length {A = KeyColumn} [] ≡ 1). record { strategy = ByRange; columns = []; one_if_list = p }) (one_proof ByRange [] one _)
level_same ByRange (c ∷ cs) one e f = absurd (cc)
level_same ByList columns one e f = absurd (cc)
level_same ByHash columns one e f = absurd (cc)

pub alone : (bounds items : List Bound) → items ≡ Default ∷ [] → bounds ≡ in_plain_order items → bounds ≡ Default ∷ []
alone bounds items is order = order ∙ ap in_plain_order is

pub plain_kept : (keeps : Keeps) (level : Level) (bounds : List Bound) (kept : List ℕ) (b : Bool) → level.strategy ≡ ByRange → level.columns ≡ [] → bounds ≡ Default ∷ [] → AreKept kept (keeps level bounds) bounds → b ≡ bit kept 0 → b ≡ keeps_plain keeps
plain_kept keeps level bounds kept b e f is agree told =
    let same : level ≡ no_keys = level_same level.strategy level.columns level.one_if_list e f in
    let here : AreKept kept (keeps no_keys (Default ∷ [])) (Default ∷ []) = subst (λ l. AreKept kept (keeps l (Default ∷ [])) (Default ∷ [])) same (subst (λ bs. AreKept kept (keeps level bs) bs) is agree) in
    told ∙ here 0 (omega arith)

is_only : (b : Bound) → is_default b ≡ true → b ≡ Default
is_only Default is = refl
is_only (Range lower upper) is = absurd (true≢false (sym is))
is_only (Listed values) is = absurd (true≢false (sym is))
is_only (Hash modulus remainder) is = absurd (true≢false (sym is))

pub only_default : (bounds : List Bound) → length bounds ≡ 1 → is_default (slice_index_or bounds 0 Default) ≡ true → bounds ≡ Default ∷ []
only_default [] one is = absurd (omega (arith, one))
only_default (b ∷ []) one is = ap (λ x. x ∷ []) (is_only b is)
only_default (b ∷ c ∷ bounds) one is = absurd (omega (arith, one))

-- ---- a table with bounds of its own

plain_keeps : (keeps : Keeps) (t : TableTree) → is_plain t ≡ true → keeps_plain keeps ≡ true → kept_leaves keeps t ≡ leaves_below keeps t
plain_keeps keeps (LeafTable node leaf) plain kept = ap (λ (b : Bool). if b then leaf_of node leaf ∷ [] else []) kept
plain_keeps keeps (LevelTable node level bounds kids) plain kept = refl

pub plain_drops : (keeps : Keeps) (t : TableTree) → is_plain t ≡ true → keeps_plain keeps ≡ false → (kept_leaves keeps t ≡ []) × (kept_tables keeps t ≡ [])
plain_drops keeps (LeafTable node leaf) plain kept = (ap (λ (b : Bool). if b then leaf_of node leaf ∷ [] else []) kept, refl)
plain_drops keeps (LevelTable node level bounds kids) plain kept = absurd (true≢false (sym plain))

-- it is kept where its bounds are, and a level is
pub plain_below : (keeps : Keeps) (t : TableTree) → is_plain t ≡ true → keeps_plain keeps ≡ true → leaves_below keeps t ≡ kept_leaves keeps t
plain_below keeps t plain kept = sym (plain_keeps keeps t plain kept)

pub level_below : (keeps : Keeps) (t : TableTree) → is_plain t ≡ false → leaves_below keeps t ≡ kept_leaves keeps t
level_below keeps (LeafTable node leaf) plain = absurd (true≢false plain)
level_below keeps (LevelTable node level bounds kids) plain = refl
