-- INSERT, UPDATE and DELETE.
use Rattle.std.proofs.Common.{◌≡◌, ◌<◌, ℕ, ◌+◌, Bool, true, false, if◌then◌else◌, List, [], ◌∷◌, ◌++◌, Option, Some, None, refl, ◌∙◌, All, map}
use Rattle.std.proofs.lemmas.List.Elements.{All-map}
use Rattle.pg_values.specs.declared.fault.Fault.{Fault}
use Rattle.pg_values.specs.declared.ids.LeafId.{LeafId}
use Rattle.pg_values.specs.declared.ids.RowId.{RowId}
use Rattle.pg_values.specs.declared.lock_mode.LockMode.TheVariants.{RowExclusive}
use Rattle.pg_values.specs.declared.value.Value.{Value}
use Rattle.pg_values.specs.Refusals.{or_first}
use Rattle.history.specs.declared.catalogue.TableShape.{TableShape}
use Rattle.history.specs.declared.catalogue.TableShape.TheVariants.{Leaf, Level}
use Rattle.history.specs.declared.transaction.TxId.{TxId}
use Rattle.history.specs.declared.version.Ending.TheVariants.{Deleted}
use Rattle.history.specs.Rows.{RowBorn, RowEnded}
use Rattle.history.specs.History.{History, RowChange, catalogue_events}
use Rattle.row_router.specs.declared.path_part.PathPart.{PathPart}
use Rattle.row_router.specs.Trees.{TableTree}
use Rattle.row_router.specs.Histories.{tree_of, path_of, table_of}
use Rattle.row_store.specs.Stands.{newborn}
use Rattle.row_change.specs.Placing.{all_placed, tables_of}
use Rattle.row_change.specs.Storing.{full_faults, table_faults}
use Rattle.row_change.specs.Succession.{follows}
use Rattle.row_change.specs.Ways.{AllTables, ways_below}
use Rattle.row_change.specs.Targets.{holder_faults}
use Rattle.part_catalog.specs.Found.{made_at}
use Rattle.plan_tree.specs.Kept.{Keeps, kept_tables}
use Rattle.plan_tree.specs.Plans.{apart}
use Rattle.plan_tree.specs.declared.planning.Planning.{Planning}
use Rattle.cond_logic.specs.Asked.{ChangeMeant}
use Rattle.sql_ast.specs.Expressions.{Tree, Trees}
use Rattle.sql_ast.specs.Queries.{Setting}
use Rattle.sql_ast.specs.declared.named_table.NamedTable.{NamedTable}
use Rattle.expression_binder.specs.declared.scope.Param.{Param}
use Rattle.sql_binder.specs.Values.{values_of}
use Rattle.stores.specs.Events.{look_of}
use Rattle.statement_steps.specs.Asks.{named, all_locked, held_at}
use Rattle.statement_steps.specs.Ended.{giving}
use Rattle.statement_steps.specs.Gathered.{Found, RowsLeft}
use Rattle.statement_steps.specs.Made.{Made, made, unless_refused}
use Rattle.statement_steps.specs.Steps.{follow}
use Rattle.statement_steps.specs.declared.rest.Rest.{Rest}
use Rattle.statement_steps.specs.declared.rest.Rest.TheVariants.{Rows}
use Rattle.statement_steps.specs.declared.rest.TargetRow.{TargetRow}
use Rattle.statement_steps.specs.Below.{below as below_of, number_of}
use Rattle.statement_steps.specs.Owned.{own}
use Rattle.insert_statement.specs.Born.{born, all_born}
use Rattle.insert_statement.specs.Inserted.{rows_meant, whole_rows, into_leaves, placed_rows, locked_into, below, into_shape, into, gathered as gathered_rows, inserted}
use Rattle.change_statement.specs.Changed.{Changing, updater, waits_for_end, held_now, paused, conflict_fault, by_decision, one_changed, all_changed, changed_from, changed_on, Told, told_of, changed, begun_or_left, changed_by}
use Rattle.change_statement.specs.Deleted.{deleting, deleted}
use Rattle.change_statement.specs.Gathered.{asked_by, found_by, item_of, meant, locked_all, locked, of_table, gathered}
use Rattle.change_statement.specs.Kept.{keeps_for, moves, tables_locked}
use Rattle.change_statement.specs.NewRows.{new_row}
use Rattle.change_statement.specs.Standing.{following, left_of, standing}
use Rattle.change_statement.specs.Targets.{targets}
use Rattle.change_statement.specs.Updated.{renewed, housed, rehoused, against, tested, succeeded, stored_in, stored, updating, updated}
use Rattle.change_statement.specs.Verdicts.{Decision, Changes, PassesBy, WaitsFor, Refuses, decided}
use Rattle.run_ends.proofs.StatementParts.{Attempt, Now, Part, Parts, Gives, Any, AreSilent, events_part, made_part, refused_part, answered_part, then_parts, giving_part}
use Rattle.run_ends.proofs.Locks.{Low, all_locked_parts, waited_one_parts, named_parts, held_parts, held_at_parts}
use Rattle.run_ends.proofs.Numbers.{IsLow, numbers_low, tree_low}
use Rattle.run_ends.proofs.Trees.{all_kept, all_under, all_on_ways}

-- ---- rows that are stored

unless_part : (k : Attempt) (h : History) → Now k h → (faults : List Fault) (events : History) → AreSilent events → catalogue_events (events ++ h) ≡ catalogue_events h → Part k (Gives k Any) h (unless_refused faults events)
unless_part k h now [] events silent same = events_part k (Gives k Any) h events tt now.may silent (same ∙ now.still, tt)
unless_part k h now (f ∷ fs) events silent same = refused_part k (Gives k Any) h f now.may

-- ---- INSERT

module _ (k : Attempt) where
  born_parts : (by : TxId) (cmd : ℕ) (faults : List Fault) (leaf : LeafId) (row : List Value) → Parts k (Gives k Any) (born by cmd faults leaf row)
  born_parts by cmd faults leaf row h now = unless_part k h now (faults ++ full_faults h row) (RowChange (RowBorn (newborn h leaf row by cmd)) ∷ []) tt refl

  all_born_parts : (by : TxId) (cmd : ℕ) (faults : LeafId → List Value → List Fault) (ls : List LeafId) (rows : List (List Value)) → Parts k (Gives k Any) (all_born by cmd faults ls rows)
  all_born_parts by cmd faults [] rows h now = made_part k (Gives k Any) h tt now.may (now.still, tt)
  all_born_parts by cmd faults (l ∷ ls) [] h now = made_part k (Gives k Any) h tt now.may (now.still, tt)
  all_born_parts by cmd faults (l ∷ ls) (r ∷ rs) h now =
      then_parts k Any (Gives k Any) (born by cmd (faults l r) l r) (λ u. all_born by cmd faults ls rs) (born_parts by cmd (faults l r) l r) (λ u any. all_born_parts by cmd faults ls rs) h now

  module _ (names : List (List ℕ)) where
    locked_into_parts : (tree : TableTree) (leaves : List LeafId) (rows : List (List Value)) → AllTables (IsLow k) tree → Parts k (Gives k Any) (locked_into names k.caller tree leaves rows)
    locked_into_parts tree leaves rows low =
        then_parts k Any (Gives k Any) (all_locked names k.caller.session RowExclusive (map (λ t. t.number) (ways_below tree rows))) (λ u. into_leaves k.caller tree leaves rows)
        (all_locked_parts k names RowExclusive (map (λ t. t.number) (ways_below tree rows)) (numbers_low k (ways_below tree rows) (all_on_ways (IsLow k) tree rows low)))
        (λ u any h now. all_born_parts (own h k.caller.session) k.caller.cmd (holder_faults h k.caller.session tree) leaves rows h now)

    below_parts : (tree : TableTree) (path : List PathPart) (rows : List (List Value)) → AllTables (IsLow k) tree → Parts k (Gives k Any) (below names k.caller tree path rows)
    below_parts tree path rows low =
        then_parts k Any (Gives k Any) (placed_rows tree path rows) (λ leaves. locked_into names k.caller tree leaves rows) (λ h now. answered_part k h now (all_placed (tables_of h) tree path rows))
        (λ leaves any. locked_into_parts tree leaves rows low)

    into_shape_parts : (t : ℕ) (rows : List (List Value)) (shape : TableShape) → t < k.bound → Parts k (Gives k Any) (into_shape names k.caller t rows shape)
    into_shape_parts t rows (Leaf leaf) low h now =
        all_born_parts (own h k.caller.session) k.caller.cmd (λ l row. table_faults (tables_of h) (record { number = t }) (path_of h k.caller.session t) true row) (map (λ row. leaf) rows) rows h now
    into_shape_parts t rows (Level level) low h now =
        below_parts (tree_of h k.caller.session t (look_of h k.caller.session k.caller.cmd)) (path_of h k.caller.session t) rows (tree_low k h now k.caller.session t (look_of h k.caller.session k.caller.cmd) low) h now

    pub inserted_parts : (params : List Param) (table : List ℕ) (columns : Option (List (List ℕ))) (values : List Trees) → Parts k (Gives k Any) (inserted names params k.caller table columns values)
    inserted_parts params table columns values =
        then_parts k Any (Gives k Any) (held_at k.caller.level k.caller.session k.caller.cmd) (λ u. gathered_rows names params k.caller table columns values) (held_at_parts k k.caller.level k.caller.cmd)
        (λ u any. then_parts k (Low k) (Gives k Any) (named names k.caller.session RowExclusive table) (λ t. follow (rows_meant params k.caller.session t columns values) (λ rows. into names k.caller t rows))
        (named_parts k names RowExclusive table)
        (λ t low. then_parts k Any (Gives k Any) (rows_meant params k.caller.session t columns values) (λ rows. into names k.caller t rows)
        (λ h now. answered_part k h now (whole_rows (made_at h t).columns params k.caller.session columns values)) (λ rows more h now. into_shape_parts t rows (made_at h t).shape low h now)))

-- ---- row after row

abbrev EachChanges : Attempt → Changing → Type 0
EachChanges k change = (leaf : LeafId) (id : RowId) (row : List Value) → Parts k (Gives k Any) (change leaf id row)

module _ (k : Attempt) (names : List (List ℕ)) where
  paused_parts : (other : ℕ) (rest : RowsLeft) → Parts k (Gives k Any) (paused names k.caller other rest)
  paused_parts other rest =
      then_parts k Any (Gives k Any) (held_now (following k.caller)) (λ u. waits_for_end names (following k.caller) other rest) (held_parts k (k.caller.cmd + 1))
      (λ u any. waited_one_parts k names other (Some (Rows rest)) tt)

  module _ (change : Changing) (each : EachChanges k change) (g : Found) where
    decision_parts : (leaf : LeafId) (rest : RowsLeft) (d : Decision) → Parts k (Gives k Any) (by_decision change names k.caller g leaf rest d)
    decision_parts leaf rest (Changes id row) h now =
        then_parts k Any (Gives k Any) (change leaf id row) (λ u h. made [] (rest.changed + 1)) (each leaf id row) (λ u any h now. made_part k (Gives k Any) h (rest.changed + 1) now.may (now.still, tt)) h now
    decision_parts leaf rest PassesBy h now = made_part k (Gives k Any) h rest.changed now.may (now.still, tt)
    decision_parts leaf rest (WaitsFor other) h now =
        then_parts k Any (Gives k Any) (paused names k.caller other rest) (λ u h. made [] rest.changed) (paused_parts other rest) (λ u any h now. made_part k (Gives k Any) h rest.changed now.may (now.still, tt)) h now
    decision_parts leaf rest (Refuses conflict) h now = refused_part k (Gives k Any) h (conflict_fault names g.tree leaf conflict h) now.may

    one_parts : (ts : List TargetRow) (t : TargetRow) (n : ℕ) → Parts k (Gives k Any) (one_changed change names k.caller g ts t n)
    one_parts ts t n h now = decision_parts t.leaf (standing h k.caller g ts n) (decided h (updater k.caller g h) t.id) h now

    all_changed_parts : (ts : List TargetRow) (n : ℕ) → Parts k (Gives k Any) (all_changed change names k.caller g ts n)
    all_changed_parts [] n h now = made_part k (Gives k Any) h n now.may (now.still, tt)
    all_changed_parts (t ∷ ts) n h now =
        then_parts k Any (Gives k Any) (one_changed change names k.caller g (t ∷ ts) t n) (all_changed change names k.caller g ts) (one_parts (t ∷ ts) t n) (λ m any. all_changed_parts ts m) h now

    changed_from_parts : Parts k (Gives k Any) (changed_from change names k.caller g)
    changed_from_parts h now = all_changed_parts (targets h (look_of h k.caller.session k.caller.cmd) g.asked.condition g.leaves) 0 h now

    changed_parts : Parts k (Gives k Any) (changed change names k.caller g)
    changed_parts h now = giving_part k (Gives k Any) (Gives k Any) (told_of g) h (changed_from change names k.caller g h) (λ n later is. is) (changed_from_parts h now)

  changed_by_parts : (change : Found → Changing) → ((g : Found) → EachChanges k (change g)) → (rest : Option Rest) (begin : History → Made Told) → Parts k (Gives k Any) begin → Parts k (Gives k Any) (changed_by change names k.caller rest begin)
  changed_by_parts change each rest begin parts h now = by (left_of h k.caller rest)
    where
      by : (o : Option RowsLeft) → Part k (Gives k Any) h (begun_or_left begin (λ r g. giving (told_of r.found) (changed_on change names k.caller r g)) o h)
      by None = parts h now
      by (Some r) =
          giving_part k (Gives k Any) (Gives k Any) (told_of r.found) h (changed_on change names k.caller r h) (λ n later is. is) (all_changed_parts (change r.found) (each r.found) r.found r.left r.changed h now)

  -- ---- what is gathered

  either_low : (keeps : Keeps) (tree : TableTree) (v : Bool) → AllTables (IsLow k) tree → All (IsLow k) (if v then below_of tree else kept_tables keeps tree)
  either_low keeps tree true all = all_under (IsLow k) tree all
  either_low keeps tree false all = all_kept (IsLow k) keeps tree all

  locked_parts : (how : Planning) (args : List Value) (t : ℕ) (tree : TableTree) (path : List PathPart) (m : ChangeMeant) → AllTables (IsLow k) tree → Parts k (Gives k Any) (locked how names k.caller args t tree path m)
  locked_parts how args t tree path m low =
      let keeps = keeps_for how.prunes m.condition in
      then_parts k Any (Gives k Any) (locked_all names k.caller (tables_locked keeps m.settings tree)) (λ u h. made [] (found_by how args (table_of t) tree path m))
      (all_locked_parts k names RowExclusive (map number_of (tables_locked keeps m.settings tree)) (All-map (λ n. n < k.bound) number_of (tables_locked keeps m.settings tree) (either_low keeps tree (moves keeps m.settings tree) low)))
      (λ u any h now. made_part k (Gives k Any) h (found_by how args (table_of t) tree path m) now.may (now.still, tt))

  gathered_parts : (how : Planning) (params : List Param) (table : NamedTable) (settings : List Setting) (condition : Option Tree) → Parts k (Gives k Any) (gathered how names params k.caller table settings condition)
  gathered_parts how params table settings condition =
      then_parts k (Low k) (Gives k Any) (named names k.caller.session RowExclusive table.name) (of_table how names params k.caller table settings condition) (named_parts k names RowExclusive table.name)
      (λ t low h now.
      let tree = tree_of h k.caller.session t (look_of h k.caller.session k.caller.cmd) in
      let path = path_of h k.caller.session t in
      then_parts k Any (Gives k Any) (meant how params k.caller table settings condition t) (locked how names k.caller (values_of (apart how params)) t tree path)
      (λ h now. answered_part k h now (asked_by how (item_of table (made_at h t).columns) params k.caller.session settings condition))
      (λ m any. locked_parts how (values_of (apart how params)) t tree path m (tree_low k h now k.caller.session t (look_of h k.caller.session k.caller.cmd) low)) h now)

  begun_parts : (how : Planning) (params : List Param) (table : NamedTable) (settings : List Setting) (condition : Option Tree) (change : Found → Changing) → ((g : Found) → EachChanges k (change g))
      → Parts k (Gives k Any) (follow (held_at k.caller.level k.caller.session k.caller.cmd) (λ u. follow (gathered how names params k.caller table settings condition) (λ g. changed (change g) names k.caller g)))
  begun_parts how params table settings condition change each =
      then_parts k Any (Gives k Any) (held_at k.caller.level k.caller.session k.caller.cmd) (λ u. follow (gathered how names params k.caller table settings condition) (λ g. changed (change g) names k.caller g))
      (held_at_parts k k.caller.level k.caller.cmd)
      (λ u any. then_parts k Any (Gives k Any) (gathered how names params k.caller table settings condition) (λ g. changed (change g) names k.caller g) (gathered_parts how params table settings condition)
      (λ g more. changed_parts (change g) (each g) g))

  -- ---- UPDATE

  updating_parts : (g : Found) → EachChanges k (updating k.caller g)
  updating_parts g old id row =
      then_parts k Any (Gives k Any) (renewed g row) (stored k.caller g old id) (λ h now. answered_part k h now (new_row (made_at h g.table.number).columns g.asked.settings row))
      (λ new any. then_parts k Any (Gives k Any) (rehoused g old new) (stored_in k.caller g old id new) (λ h now. answered_part k h now (housed g.moves (tables_of h) g.tree g.path old new))
      (λ leaf more. then_parts k Any (Gives k Any) (tested k.caller g leaf new) (λ u. succeeded k.caller old id leaf new)
      (λ h now. answered_part k h now (or_first (against h k.caller.session g leaf new) tt))
      (λ u last h now. unless_part k h now (full_faults h new) (follows old id (newborn h leaf new (own h k.caller.session) k.caller.cmd)) tt refl)))

  pub updated_parts : (how : Planning) (params : List Param) (rest : Option Rest) (table : NamedTable) (settings : List Setting) (condition : Option Tree) → Parts k (Gives k Any) (updated how names params k.caller rest table settings condition)
  updated_parts how params rest table settings condition =
      changed_by_parts (λ g. updating k.caller g) updating_parts rest (follow (held_at k.caller.level k.caller.session k.caller.cmd) (λ u. follow (gathered how names params k.caller table settings condition) (λ g. changed (updating k.caller g) names k.caller g)))
      (begun_parts how params table settings condition (λ g. updating k.caller g) updating_parts)

  -- ---- DELETE

  deleting_parts : EachChanges k (deleting k.caller)
  deleting_parts leaf id row h now = events_part k (Gives k Any) h (RowChange (RowEnded id.number (record { by = own h k.caller.session; cmd = k.caller.cmd; how = Deleted })) ∷ []) tt now.may tt (now.still, tt)

  pub deleted_parts : (how : Planning) (params : List Param) (rest : Option Rest) (table : NamedTable) (condition : Option Tree) → Parts k (Gives k Any) (deleted how names params k.caller rest table condition)
  deleted_parts how params rest table condition =
      changed_by_parts (λ g. deleting k.caller) (λ g. deleting_parts) rest (follow (held_at k.caller.level k.caller.session k.caller.cmd) (λ u. follow (gathered how names params k.caller table [] condition) (λ g. changed (deleting k.caller) names k.caller g)))
      (begun_parts how params table [] condition (λ g. deleting k.caller) (λ g. deleting_parts))
