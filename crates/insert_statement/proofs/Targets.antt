-- Rows that are tested as their targets say are those that the tables of the leaves take.
use Rattle.std.proofs.Common.{◌≡◌, ℕ, ◌||◌, Bool, true, false, if◌then◌else◌, List, [], ◌∷◌, ◌++◌, refl, ap, ◌∙◌, arith, Some, None, Result, Ok, Err, All, find, map}
use Rattle.std.proofs.lemmas.Bool.Decides.{nat_tests}
use Rattle.pg_values.specs.declared.value.Value.{Value}
use Rattle.pg_values.specs.declared.fault.Fault.{Fault}
use Rattle.pg_values.specs.declared.ids.LeafId.{LeafId}
use Rattle.pg_values.specs.declared.ids.TableNo.{TableNo}
use Rattle.history.specs.declared.catalogue.Table.{Table}
use Rattle.history.specs.declared.transaction.TxId.{TxId}
use Rattle.history.specs.History.{History}
use Rattle.row_router.specs.Histories.{path_of}
use Rattle.row_router.specs.Trees.{TableTree}
use Rattle.row_change.specs.declared.target.Target.{Target}
use Rattle.row_change.specs.Storing.{is_into, leaf_faults, table_faults}
use Rattle.row_change.specs.Targets.{HasTarget, IsTargetOf, holder_faults}
use Rattle.row_change.specs.Placing.{tables_of}
use Rattle.row_change.proofs.Told.{found_target, one_told}
use Rattle.statement_steps.specs.Made.{Made, Halt, behind, then_told}
use Rattle.statement_steps.specs.declared.caller.Caller.{Caller}
use Rattle.statement_steps.specs.Steps.{follow}
use Rattle.insert_statement.specs.Born.{born, all_born}
use Rattle.insert_statement.specs.Inserted.{into_leaf, into_leaves}
use Rattle.insert_statement.specs.Asked.{Each, IsOwnTarget, put}
use Rattle.insert_statement.proofs.Pairs.{each_same, each_with}
use Rattle.statement_steps.specs.Owned.{own}

-- ---- the same faults

-- what follows a row, from each history
next_born : (r : Result (Unit {0}) Halt) (events h : History) (next other : History → Made (Unit {0})) → ((g : History) → next g ≡ other g) → then_told r events (λ u. next (events ++ h)) ≡ then_told r events (λ u. other (events ++ h))
next_born (Ok u) events h next other same = ap (behind events) (same (events ++ h))
next_born (Err stop) events h next other same = refl

-- with the same faults the same rows are born
same_born : (by : TxId) (cmd : ℕ) (f g : LeafId → List Value → List Fault) (ls : List LeafId) (rs : List (List Value)) (h : History) → Each (λ l r. f l r ≡ g l r) ls rs → all_born by cmd f ls rs h ≡ all_born by cmd g ls rs h
same_born by cmd f g [] rs h same = refl
same_born by cmd f g (l ∷ ls) [] h same = refl
same_born by cmd f g (l ∷ ls) (r ∷ rs) h same =
    ap (λ fs. follow (born by cmd fs l r) (λ u. all_born by cmd f ls rs) h) same.0
    ∙ next_born (born by cmd (g l r) l r h).told (born by cmd (g l r) l r h).events h (all_born by cmd f ls rs) (all_born by cmd g ls rs) (λ k. same_born by cmd f g ls rs k same.1)

-- what is told by a target is told by its table
told_by : (tables : List Table) (h : History) (s : ℕ) (t : TableNo) (named : Bool) (target : Target) (row : List Value) → target.table ≡ t → target.path ≡ path_of h s t.number → target.is_named ≡ named
    → leaf_faults tables (Some target) row ≡ table_faults tables t (path_of h s t.number) named row
told_by tables h s t named target row table path is =
    ap (λ n. table_faults tables target.table target.path n row) is
    ∙ (ap (λ p. table_faults tables target.table p named row) path ∙ ap (λ x. table_faults tables x (path_of h s t.number) named row) table)

-- ---- the one target of a table that is named

is_here : (leaf : LeafId) (target : Target) → target.leaf ≡ leaf → is_into leaf target ≡ true
is_here leaf target same = let n : target.leaf.number ≡ leaf.number = ap (λ (l : LeafId). l.number) same in grind (arith, nat_tests, n)

pub own_has : (leaf : LeafId) (target : Target) → target.leaf ≡ leaf → HasTarget (target ∷ []) leaf
own_has leaf target same = ap (λ b. b || false) (is_here leaf target same)

pub own_found : (leaf : LeafId) (target : Target) → target.leaf ≡ leaf → find (is_into leaf) (target ∷ []) ≡ Some target
own_found leaf target same = ap (λ b. if b then Some target else None) (is_here leaf target same)

pub put_in_own : (h : History) (caller : Caller) (t : TableNo) (leaf : LeafId) (target : Target) (rows : List (List Value)) → IsOwnTarget h caller.session t leaf target → put (target ∷ []) caller (map (λ row. leaf) rows) rows h ≡ into_leaf caller t.number leaf rows h
put_in_own h caller t leaf target rows is =
    let s = caller.session in
    same_born (own h s) caller.cmd (λ l row. leaf_faults (tables_of h) (find (is_into l) (target ∷ [])) row) (λ l row. table_faults (tables_of h) t (path_of h s t.number) true row) (map (λ row. leaf) rows) rows h
    (each_same (λ l row. leaf_faults (tables_of h) (find (is_into l) (target ∷ [])) row ≡ table_faults (tables_of h) t (path_of h s t.number) true row) leaf rows
    (λ row. ap (λ o. leaf_faults (tables_of h) o row) (own_found leaf target is.leaf_is) ∙ told_by (tables_of h) h s t true target row is.table is.path is.is_named))

-- ---- the targets of the leaves of a tree

pub put_is_meant : (P : LeafId → List Value → Type 0) (h : History) (caller : Caller) (tree : TableTree) (targets : List Target) (leaves : List LeafId) (rows : List (List Value)) → All (IsTargetOf h caller.session tree) targets → All (HasTarget targets) leaves → Each P leaves rows
    → put targets caller leaves rows h ≡ into_leaves caller tree leaves rows h
put_is_meant P h caller tree targets leaves rows all have each =
    let s = caller.session in
    same_born (own h s) caller.cmd (λ l row. leaf_faults (tables_of h) (find (is_into l) targets) row) (holder_faults h s tree) leaves rows h
    (each_with P (λ l row. leaf_faults (tables_of h) (find (is_into l) targets) row ≡ holder_faults h s tree l row) (HasTarget targets) leaves rows
    (λ l row has p. one_told h s tree l targets row (found_target (IsTargetOf h s tree) l targets all has)) have each)
