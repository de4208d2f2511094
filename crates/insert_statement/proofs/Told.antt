-- Parts of an INSERT that are the same at each history.
use Rattle.std.proofs.Common.{◌≡◌, ℕ, ◌+◌, List, [], ◌∷◌, ap, sym, subst, ◌∙◌, Result, Ok, Err, All, map}
use Rattle.pg_values.specs.declared.value.Value.{Value}
use Rattle.pg_values.specs.declared.ids.LeafId.{LeafId}
use Rattle.pg_values.specs.declared.ids.TableNo.{TableNo}
use Rattle.history.specs.declared.catalogue.TableShape.TheVariants.{Leaf, Level}
use Rattle.history.specs.History.{History}
use Rattle.bound_forms.specs.declared.level.Level.{Level as OneLevel}
use Rattle.row_router.specs.declared.path_part.PathPart.{PathPart}
use Rattle.row_router.specs.Histories.{path_of}
use Rattle.row_router.specs.Trees.{TableTree}
use Rattle.part_catalog.specs.Found.{made_at}
use Rattle.part_catalog.specs.Stands.{CatalogueStands}
use Rattle.row_change.specs.declared.target.Target.{Target}
use Rattle.row_change.specs.Placing.{all_placed, tables_of}
use Rattle.row_change.specs.Targets.{HasTarget, IsTargetOf}
use Rattle.stores.specs.Stand.{AllStand, Stands}
use Rattle.stores.specs.declared.stores.Stores.{Stores}
use Rattle.statement_steps.specs.Made.{Made}
use Rattle.statement_steps.specs.Attempts.{MayAttempt}
use Rattle.statement_steps.specs.declared.caller.Caller.{Caller}
use Rattle.statement_steps.specs.declared.stop.Stop.{Stop}
use Rattle.statement_steps.specs.Steps.{IsStep}
use Rattle.statement_steps.proofs.Parts.{answered_done}
use Rattle.statement_steps.proofs.Steps.{goes, same_step}
use Rattle.statement_steps.specs.Rights.{IsReadOf}
use Rattle.insert_statement.specs.Inserted.{below, into, into_leaf, into_leaves, into_partitions, into_shape, locked_into, placed_rows}
use Rattle.insert_statement.specs.Asked.{Each, IsOwnTarget, put}
use Rattle.insert_statement.proofs.Targets.{put_in_own, put_is_meant}

-- what came of storing rows
abbrev pub Stored : Result (Unit {0}) Stop → (old new : Stores) → Caller → (History → Made (Unit {0})) → Type 0
Stored r old new caller f = IsStep (λ (u : Unit {0}). u) r old new caller (caller.cmd + 1) f

pub own_step : (r : Result (Unit {0}) Stop) (old new : Stores) (caller : Caller) (t : TableNo) (leaf : LeafId) (target : Target) (rows : List (List Value)) → ((h : History) → AllStand old h → IsOwnTarget h caller.session t leaf target)
    → Stored r old new caller (put (target ∷ []) caller (map (λ row. leaf) rows) rows) → Stored r old new caller (into_leaf caller t.number leaf rows)
own_step r old new caller t leaf target rows is step =
    same_step (λ (u : Unit {0}). u) r old new caller (caller.cmd + 1) (into_leaf caller t.number leaf rows) (put (target ∷ []) caller (map (λ row. leaf) rows) rows)
    (λ h stands. sym (put_in_own h caller t leaf target rows (is h stands.all))) step

pub leaves_step : (P : History → LeafId → List Value → Type 0) (r : Result (Unit {0}) Stop) (old new : Stores) (caller : Caller) (tree : TableTree) (targets : List Target) (leaves : List LeafId) (rows : List (List Value)) → ((h : History) → Stands old h → All (IsTargetOf h caller.session tree) targets)
    → All (HasTarget targets) leaves → ((h : History) → Stands old h → Each (P h) leaves rows) → Stored r old new caller (put targets caller leaves rows) → Stored r old new caller (into_leaves caller tree leaves rows)
leaves_step P r old new caller tree targets leaves rows are told each step =
    same_step (λ (u : Unit {0}). u) r old new caller (caller.cmd + 1) (into_leaves caller tree leaves rows) (put targets caller leaves rows)
    (λ h stands. sym (put_is_meant (P h) h caller tree targets leaves rows (are h stands) told (each h stands))) step

pub read_step : (names : List (List ℕ)) (r : Result (Unit {0}) Stop) (old new : Stores) (caller : Caller) (t : TableNo) (tree : TableTree) (path : List PathPart) (rows : List (List Value)) → IsReadOf old.txs old.catalog caller t tree path
    → Stored r old new caller (below names caller tree path rows) → Stored r old new caller (into_partitions names caller t.number rows)
read_step names r old new caller t tree path rows read step =
    same_step (λ (u : Unit {0}). u) r old new caller (caller.cmd + 1) (into_partitions names caller t.number rows) (below names caller tree path rows)
    (λ h stands. ap (λ x. below names caller x (path_of h caller.session t.number) rows h) (sym (read.is_tree h stands.all.txs stands.all.catalog)) ∙ ap (λ p. below names caller tree p rows h) (sym (read.is_path h stands.all.txs stands.all.catalog))) step

-- its tree is read, and the rows are placed
pub placed_step : (names : List (List ℕ)) (r : Result (Unit {0}) Stop) (old new : Stores) (caller : Caller) (t : TableNo) (tree : TableTree) (path : List PathPart) (leaves : List LeafId) (rows : List (List Value)) → MayAttempt old caller → IsReadOf old.txs old.catalog caller t tree path
    → ((h : History) → CatalogueStands old.catalog h → all_placed (tables_of h) tree path rows ≡ Ok leaves) → Stored r old new caller (locked_into names caller tree leaves rows) → Stored r old new caller (into_partitions names caller t.number rows)
placed_step names r old new caller t tree path leaves rows may read placed step =
    read_step names r old new caller t tree path rows read (goes (placed_rows tree path rows) (λ ls. locked_into names caller tree ls rows)
    (answered_done (λ (ls : List LeafId). ls) leaves old caller (λ h. all_placed (tables_of h) tree path rows) may (λ h stands. placed h stands.all.catalog)) step)

pub leaf_step : (names : List (List ℕ)) (r : Result (Unit {0}) Stop) (old new : Stores) (caller : Caller) (t : TableNo) (leaf : LeafId) (rows : List (List Value)) → ((h : History) → CatalogueStands old.catalog h → (made_at h t.number).shape ≡ Leaf leaf)
    → Stored r old new caller (into_leaf caller t.number leaf rows) → Stored r old new caller (into names caller t.number rows)
leaf_step names r old new caller t leaf rows is step =
    same_step (λ (u : Unit {0}). u) r old new caller (caller.cmd + 1) (into names caller t.number rows) (into_leaf caller t.number leaf rows) (λ h stands. ap (λ shape. into_shape names caller t.number rows shape h) (is h stands.all.catalog)) step

pub level_step : (names : List (List ℕ)) (r : Result (Unit {0}) Stop) (old new : Stores) (caller : Caller) (t : TableNo) (rows : List (List Value)) → ((h : History) → CatalogueStands old.catalog h → (level : OneLevel) × ((made_at h t.number).shape ≡ Level level))
    → Stored r old new caller (into_partitions names caller t.number rows) → Stored r old new caller (into names caller t.number rows)
level_step names r old new caller t rows is step =
    same_step (λ (u : Unit {0}). u) r old new caller (caller.cmd + 1) (into names caller t.number rows) (into_partitions names caller t.number rows) (λ h stands. ap (λ shape. into_shape names caller t.number rows shape h) (is h stands.all.catalog).1) step
