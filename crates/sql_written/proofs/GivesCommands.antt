-- What the texts of commands give.
use Rattle.std.proofs.Common.{◌≡◌, ℕ, suc, ◌+◌, ◌≤◌, Bool, true, false, cond, List, [], ◌∷◌, ◌++◌, Option, Some, None, refl, sym, ap, ◌∙◌, subst, arith}
use Rattle.std.specs.Prelude.{codes}
use Rattle.std.specs.Str.{bytes_eq}
use Rattle.grammar.specs.Repeats.{second_of}
use Rattle.sql_tokens.specs.declared.kind.TokenKind.TheVariants as kinds
use Rattle.sql_tokens.specs.declared.token.Token.{Token}
use Rattle.sql_ast.specs.Expressions.{Tree, leaf, call, call_of_all, negated, binary, in_list, between, is_null, inverted, all_of, any_of, listed as list_of_trees}
use Rattle.sql_tokens.specs.Classes.{a}
use Rattle.sql_ast.specs.declared.leaf.Leaf.TheVariants.{Number, Text, Date, Null, Truth, Parameter, Column, ColumnOf, TableName, TableNameOf}
use Rattle.sql_expressions.specs.Lists.{commas as commas_of, plain_name}
use Rattle.sql_syntax.specs.CommandGrammar as grammar
use Rattle.sql_ast.specs.Commands.{Edge, min, max, at, Bound, range, other, CommandTree, begins, commits, rolls_back, sets, resets, makes_table, makes_partition, drops, attaches, detaches, locks, deallocates, deallocates_all}
use Rattle.sql_ast.specs.declared.detachment.Detachment.{Detachment}
use Rattle.sql_ast.specs.declared.detachment.Detachment.TheVariants as detachment
use Rattle.pg_values.specs.declared.isolation.Isolation.{Isolation}
use Rattle.pg_values.specs.declared.isolation.Isolation.TheVariants as isolation
use Rattle.pg_values.specs.declared.lock_mode.LockMode.{LockMode}
use Rattle.pg_values.specs.declared.lock_mode.LockMode.TheVariants as mode
use Rattle.sql_ast.specs.declared.setting_value.SettingValue.{SettingValue}
use Rattle.sql_ast.specs.declared.setting_value.SettingValue.TheVariants as setting
use Rattle.pg_values.specs.declared.strategy.Strategy.{Strategy}
use Rattle.pg_values.specs.declared.strategy.Strategy.TheVariants as strategy
use Rattle.sql_ast.specs.declared.table_definition.ColumnDefinition.{ColumnDefinition}
use Rattle.sql_ast.specs.declared.locked_table.LockedTable.{LockedTable}
use Rattle.sql_ast.specs.declared.table_definition.Partitioning.{Partitioning}
use Rattle.sql_written.specs.Marks.{Mark, blank}
use Rattle.sql_written.specs.Parentheses.{opened}
use Rattle.sql_written.specs.Spelling as spelled
use Rattle.sql_written.specs.Writable.{IsName, IsWritable as IsExpression}
use Rattle.sql_written.specs.Written.{marks}
use Rattle.sql_written.proofs.Costs.{opened_append, opened_by, opened_name}
use Rattle.sql_written.specs.Commands.{bound_marks, by_marks, column_marks, command_marks, detachment_marks, edge_marks, edges, exists_marks, is_end, is_local, isolation_marks, level_marks, locked_marks, maybe_by, mode_marks, null_marks, setting_marks, strategy_word, value_marks}
use Rattle.sql_written.specs.Lists.{Maybe, SomeAre, enclosed as in_parentheses, names, parts, values}
use Rattle.sql_written.specs.Words.{word}
use Rattle.sql_written.specs.WritableCommands.{IsBound, IsColumn, IsCommand, IsEdge, IsLocked, IsPartitioning, IsSetting}
use Rattle.sql_written.proofs.Gives.{Gives, anything, before, behind, behind_opening, both, commas, either, enclosed, follow, free, nothing, one, total, valued}
use Rattle.sql_written.proofs.GivesLeaves.{expression_gives, number_gives, other_name_gives, plain_name_gives, setting_number_gives, setting_word_gives, string_gives}
use Rattle.sql_written.proofs.Opens.{opened_enclosed, opened_names, opened_parts, opened_unless, opened_values}
use Rattle.sql_written.proofs.WriteParts.{list_there}

-- what opens nothing
level_free : (l : Isolation) → opened_by (level_marks l) ≡ 0
level_free isolation.ReadCommitted = refl
level_free isolation.ReadUncommitted = refl
level_free isolation.RepeatableRead = refl

isolation_free : (o : Option Isolation) → opened_by (isolation_marks o) ≡ 0
isolation_free None = refl
isolation_free (Some l) = omega (arith, level_free l)

finished_free : (b : Bool) → opened_by (command_marks (cond b commits rolls_back)) ≡ 0
finished_free true = refl
finished_free false = refl

finished_is : (b : Bool) → IsCommand (cond b commits rolls_back)
finished_is true = tt
finished_is false = tt

word_or : (b : Bool) (k m : Mark) → opened_by (k ∷ []) ≡ 0 → opened_by (m ∷ []) ≡ 0 → opened_by (cond b k m ∷ []) ≡ 0
word_or true k m h g = h
word_or false k m h g = g

setting_free : (v : SettingValue) → opened_by (setting_marks v) ≡ 0
setting_free (setting.Word z) =
    word_or (bytes_eq z (codes "on")) (word kinds.On) _ refl
    (word_or (bytes_eq z (codes "true")) (word kinds.True) _ refl
    (word_or (bytes_eq z (codes "false")) (word kinds.False) (spelled.name z) refl (opened_name z [])))
setting_free (setting.Text z) = refl
setting_free (setting.Number z) = refl

strategy_free : (s : Strategy) (ms : List Mark) → opened_by (strategy_word s ∷ ms) ≡ opened_by ms
strategy_free strategy.Range ms = omega arith
strategy_free strategy.List ms = omega arith
strategy_free strategy.Hash ms = omega arith

null_free : (b : Bool) → opened_by (null_marks b) ≡ 0
null_free true = refl
null_free false = refl

exists_free : (b : Bool) (ms : List Mark) → opened_by (exists_marks b ms) ≡ opened_by ms
exists_free true ms = omega arith
exists_free false ms = refl

detachment_free : (d : Detachment) → opened_by (detachment_marks d) ≡ 0
detachment_free detachment.AtOnce = refl
detachment_free detachment.Concurrently = refl
detachment_free detachment.Finalize = refl

mode_free : (m : LockMode) → opened_by (mode_marks m) ≡ 0
mode_free mode.AccessShare = refl
mode_free mode.RowShare = refl
mode_free mode.RowExclusive = refl
mode_free mode.ShareUpdateExclusive = refl
mode_free mode.Share = refl
mode_free mode.ShareRowExclusive = refl
mode_free mode.Exclusive = refl
mode_free mode.AccessExclusive = refl

-- the costs
abbrev pub command_cost : CommandTree → ℕ
command_cost c = opened_by (command_marks c)

abbrev by_cost : Partitioning → ℕ
by_cost p = opened_by (by_marks p)

abbrev maybe_by_cost : Option Partitioning → ℕ
maybe_by_cost o = opened_by (maybe_by o)

abbrev column_cost : ColumnDefinition → ℕ
column_cost c = opened_by (column_marks c)

abbrev edge_cost : Edge → ℕ
edge_cost e = opened_by (edge_marks e)

abbrev edges_cost : List Edge → ℕ
edges_cost es = opened_by (edges es)

abbrev bound_cost : Bound → ℕ
bound_cost b = opened_by (bound_marks b)

abbrev locked_cost : LockedTable → ℕ
locked_cost t = opened_by (locked_marks t)

-- an edge, which may be a column in quotes
value_opened : (e : Tree) → opened_by (value_marks e) ≡ opened_by (marks e)
value_opened (leaf (Number n)) = refl
value_opened (leaf (Text z)) = refl
value_opened (leaf (Date z)) = refl
value_opened (leaf Null) = refl
value_opened (leaf (Truth b)) = refl
value_opened (leaf (Parameter n)) = refl
value_opened (leaf (Column z)) = opened_unless is_end z [] ∙ sym (opened_name z [])
value_opened (leaf (ColumnOf t c)) = refl
value_opened (leaf TableName) = refl
value_opened (leaf (TableNameOf t)) = refl
value_opened (call f ts) = refl
value_opened (call_of_all f) = refl
value_opened (negated e) = refl
value_opened (binary op x y) = refl
value_opened (in_list b x ts) = refl
value_opened (between b x from to) = refl
value_opened (is_null b x) = refl
value_opened (inverted e) = refl
value_opened (all_of ts) = refl
value_opened (any_of ts) = refl

value_less : (e : Tree) → edge_cost (at e) ≤ opened_by (marks e)
value_less e = omega (arith, value_opened e)

module _ (e : Tree) where
  word_less : (b c : Bool) → edge_cost (cond b min (cond c max (at e))) ≤ opened_by (marks e)
  word_less true c = omega arith
  word_less false true = omega arith
  word_less false false = value_less e

  word_is : (b c : Bool) → IsExpression e → IsEdge (cond b min (cond c max (at e)))
  word_is true c w = tt
  word_is false true w = tt
  word_is false false w = w

  edge_less : (ts : List Token) → edge_cost (grammar.edge_of ts e) ≤ opened_by (marks e)
  edge_less [] = value_less e
  edge_less (t ∷ []) = word_less (a kinds.Minvalue t) (a kinds.Maxvalue t)
  edge_less (t ∷ u ∷ ts) = value_less e

  edge_is : (ts : List Token) → IsExpression e → IsEdge (grammar.edge_of ts e)
  edge_is [] w = w
  edge_is (t ∷ []) w = word_is (a kinds.Minvalue t) (a kinds.Maxvalue t) w
  edge_is (t ∷ u ∷ ts) w = w

module _ (text : List ℕ) where
  -- BEGIN
  begin_gives : Gives text grammar.begin.texts command_cost IsCommand
  begin_gives = valued (λ (x : Option Token × Option Isolation). begins x.1) command_cost IsCommand (λ x. omega (arith, isolation_free x.1)) (λ x w. tt) anything

  -- COMMIT, ROLLBACK
  finish_gives : Gives text grammar.finish.texts command_cost IsCommand
  finish_gives = valued grammar.finished command_cost IsCommand (λ x. omega (arith, finished_free (grammar.is_commit x.0))) (λ x w. finished_is (grammar.is_commit x.0)) anything

  -- SET, RESET
  value_gives : Gives text (grammar.setting_value text).texts free IsSetting
  value_gives =
      either (setting_word_gives text)
      (either (valued setting.Text free IsSetting (λ z. omega arith) (λ z w. w) (string_gives text)) (setting_number_gives text))

  set_opened : (z : List ℕ) (v : SettingValue) → command_cost (sets z v) ≡ 0
  set_opened z v = omega (arith, opened_unless is_local z (blank ∷ word kinds.To ∷ blank ∷ setting_marks v), setting_free v)

  set_gives : Gives text (grammar.set text).texts command_cost IsCommand
  set_gives =
      either
      (valued grammar.set_value command_cost IsCommand (λ x. omega (arith, set_opened x.0 x.1.1)) (λ x w. (w.0, w.1.1))
      (behind kinds.Set (both (other_name_gives text kinds.Local) (both (one grammar.is_equal_or_to) value_gives))))
      (valued resets command_cost IsCommand (λ z. omega (arith, opened_name z [])) (λ z w. w) (behind kinds.Reset (plain_name_gives text)))

  -- PARTITION BY
  names_gives : Gives text (commas_of (plain_name text)).texts (total free) (SomeAre IsName)
  names_gives = commas (plain_name_gives text)

  by_opened : (s : Strategy) (zs : List (List ℕ)) → by_cost (record { strategy = s; columns = zs }) ≡ 1
  by_opened s zs = omega (arith, strategy_free s (blank ∷ in_parentheses (names zs)), opened_enclosed (names zs), opened_names zs)

  by_gives : Gives text (grammar.by text).texts by_cost IsPartitioning
  by_gives =
      valued grammar.partitioning by_cost IsPartitioning (λ x. omega (arith, by_opened x.0 x.1)) (λ x w. w.1)
      (behind kinds.Partition (behind kinds.By (both anything (enclosed names_gives))))

  maybe_by_gives : Gives text (grammar.maybe_by text).texts maybe_by_cost (Maybe IsPartitioning)
  maybe_by_gives =
      either (valued (λ (p : Partitioning). Some p) maybe_by_cost (Maybe IsPartitioning) (λ p. omega arith) (λ p w. w) by_gives)
      (nothing None maybe_by_cost (Maybe IsPartitioning) refl tt)

  -- columns
  column_opened : (z k : List ℕ) (b : Bool) → column_cost (record { name = z; kind = k; not_null = b }) ≡ 0
  column_opened z k b = opened_name z (blank ∷ spelled.name k ∷ null_marks b) ∙ (opened_name k (null_marks b) ∙ null_free b)

  column_gives : Gives text (grammar.column text).texts column_cost IsColumn
  column_gives =
      valued grammar.column_value column_cost IsColumn (λ x. omega (arith, column_opened x.0 x.1.0 x.1.1)) (λ x w. (w.0, w.1.0))
      (both (plain_name_gives text) (both (plain_name_gives text) anything))

  -- edges
  edge_gives : Gives text (grammar.edge text).texts edge_cost IsEdge
  edge_gives =
      let g = expression_gives text in
      record {
        fewest = λ ts x h. subst (λ y. edge_cost y ≤ opened ts) (sym h.2) (omega (arith, edge_less h.0 ts, g.fewest ts h.0 h.1));
        fits = λ ts x o h. subst IsEdge (sym h.2) (edge_is h.0 ts (g.fits ts h.0 o h.1));
      }

  edges_opened : (es : List Edge) → edges_cost es ≡ suc (total edge_cost es)
  edges_opened es = omega (arith, opened_enclosed (parts edge_marks es), opened_parts edge_marks es)

  edges_give : Gives text (grammar.edges text).texts (λ (es : List Edge). suc (total edge_cost es)) (SomeAre IsEdge)
  edges_give = enclosed (commas edge_gives)

  -- bounds
  range_opened : (from to : List Edge) → bound_cost (range from to) ≡ edges_cost from + edges_cost to
  range_opened from to = omega (arith, opened_append (edges from) (blank ∷ word kinds.To ∷ blank ∷ edges to))

  range_gives : Gives text (grammar.range_bound text).texts bound_cost IsBound
  range_gives =
      valued grammar.range_value bound_cost IsBound (λ x. omega (arith, range_opened x.0 x.1, edges_opened x.0, edges_opened x.1)) (λ x w. w)
      (behind kinds.From (both edges_give (behind kinds.To edges_give)))

  list_opened : (ts : List Tree) → bound_cost (grammar.list_value ts) ≡ suc (total (λ (e : Tree). opened_by (marks e)) ts)
  list_opened ts =
      let us = list_of_trees ts in
      omega (arith, opened_enclosed (values us), opened_values us, ap (total (λ (e : Tree). opened_by (marks e))) (list_there ts))

  list_gives : Gives text (grammar.list_bound text).texts bound_cost IsBound
  list_gives =
      valued grammar.list_value bound_cost IsBound (λ ts. omega (arith, list_opened ts)) (λ ts w. subst (SomeAre IsExpression) (sym (list_there ts)) w)
      (behind kinds.In (enclosed (commas (expression_gives text))))

  hash_gives : Gives text (grammar.hash_bound text).texts bound_cost IsBound
  hash_gives =
      valued grammar.hash_value bound_cost IsBound (λ x. omega arith) (λ x w. w)
      (behind kinds.With (behind_opening (behind kinds.Modulus (both (number_gives text) (behind kinds.Comma (behind kinds.Remainder (before kinds.CloseParenthesis (number_gives text))))))))

  bound_gives : Gives text (grammar.bound text).texts bound_cost IsBound
  bound_gives =
      either (behind kinds.For (behind kinds.Values (either range_gives (either list_gives hash_gives))))
      (valued (λ (t : Token). other) bound_cost IsBound (λ t. omega arith) (λ t w. tt) (one (a kinds.Default)))

  -- CREATE TABLE
  table_opened : (z : List ℕ) (cs : List ColumnDefinition) (o : Option Partitioning) → command_cost (makes_table z cs o) ≡ suc (total column_cost cs) + maybe_by_cost o
  table_opened z cs o =
      omega (arith, opened_name z (blank ∷ (in_parentheses (parts column_marks cs) ++ maybe_by o)), opened_append (in_parentheses (parts column_marks cs)) (maybe_by o), opened_enclosed (parts column_marks cs), opened_parts column_marks cs)

  columns_give : (z : List ℕ) → Gives text (grammar.columns text z).texts command_cost (λ (c : CommandTree). IsName z → IsCommand c)
  columns_give z =
      valued (grammar.table_value z) command_cost (λ (c : CommandTree). IsName z → IsCommand c) (λ x. omega (arith, table_opened z x.0 x.1)) (λ x w n. (n, w.0, w.1))
      (both (enclosed (commas column_gives)) maybe_by_gives)

  partition_opened : (z p : List ℕ) (b : Bound) (o : Option Partitioning) → command_cost (makes_partition z p b o) ≡ bound_cost b + maybe_by_cost o
  partition_opened z p b o =
      let on = blank ∷ (bound_marks b ++ maybe_by o) in
      omega (arith, opened_name z (blank ∷ word kinds.Partition ∷ blank ∷ word kinds.Of ∷ blank ∷ spelled.name p ∷ on), opened_name p on, opened_append (bound_marks b) (maybe_by o))

  partition_gives : (z : List ℕ) → Gives text (grammar.partition_of text z).texts command_cost (λ (c : CommandTree). IsName z → IsCommand c)
  partition_gives z =
      valued (grammar.partition_value z) command_cost (λ (c : CommandTree). IsName z → IsCommand c) (λ x. omega (arith, partition_opened z x.0 x.1.0 x.1.1)) (λ x w n. (n, w.0, w.1.0, w.1.1))
      (behind kinds.Partition (behind kinds.Of (both (plain_name_gives text) (both bound_gives maybe_by_gives))))

  create_gives : Gives text (grammar.create text).texts command_cost IsCommand
  create_gives =
      valued second_of command_cost IsCommand (λ x. omega arith) (λ x w. w.1 w.0)
      (behind kinds.Create (behind kinds.Table (follow (plain_name_gives text) (λ (z : List ℕ). either (columns_give z) (partition_gives z)))))

  -- DROP TABLE
  drop_opened : (b : Bool) (zs : List (List ℕ)) → command_cost (drops b zs) ≡ 0
  drop_opened b zs = omega (arith, exists_free b (names zs), opened_names zs)

  drop_gives : Gives text (grammar.drop_tables text).texts command_cost IsCommand
  drop_gives =
      valued grammar.drop_tree command_cost IsCommand (λ x. omega (arith, drop_opened x.0.0 x.0.1)) (λ x w. w.0.1)
      (behind kinds.Drop (behind kinds.Table (both (both anything names_gives) anything)))

  -- ALTER TABLE
  attach_opened : (p z : List ℕ) (b : Bound) → command_cost (attaches p z b) ≡ bound_cost b
  attach_opened p z b =
      let on = blank ∷ bound_marks b in
      omega (arith, opened_name p (blank ∷ word kinds.Attach ∷ blank ∷ word kinds.Partition ∷ blank ∷ spelled.name z ∷ on), opened_name z on)

  attach_gives : (p : List ℕ) → Gives text (grammar.attach text p).texts command_cost (λ (c : CommandTree). IsName p → IsCommand c)
  attach_gives p =
      valued (grammar.attach_value p) command_cost (λ (c : CommandTree). IsName p → IsCommand c) (λ x. omega (arith, attach_opened p x.0 x.1)) (λ x w n. (n, w.0, w.1))
      (behind kinds.Attach (behind kinds.Partition (both (plain_name_gives text) bound_gives)))

  detach_opened : (p z : List ℕ) (d : Detachment) → command_cost (detaches p z d) ≡ 0
  detach_opened p z d =
      omega (arith, opened_name p (blank ∷ word kinds.Detach ∷ blank ∷ word kinds.Partition ∷ blank ∷ spelled.name z ∷ detachment_marks d), opened_name z (detachment_marks d), detachment_free d)

  detach_gives : (p : List ℕ) → Gives text (grammar.detach text p).texts command_cost (λ (c : CommandTree). IsName p → IsCommand c)
  detach_gives p =
      valued (grammar.detach_value p) command_cost (λ (c : CommandTree). IsName p → IsCommand c) (λ x. omega (arith, detach_opened p x.0 (grammar.detachment_of x.1))) (λ x w n. (n, w.0))
      (behind kinds.Detach (behind kinds.Partition (both (plain_name_gives text) anything)))

  alter_gives : Gives text (grammar.alter text).texts command_cost IsCommand
  alter_gives =
      valued second_of command_cost IsCommand (λ x. omega arith) (λ x w. w.1 w.0)
      (behind kinds.Alter (behind kinds.Table (follow (plain_name_gives text) (λ (p : List ℕ). either (attach_gives p) (detach_gives p)))))

  -- LOCK
  locked_less : (x : Option Token × List ℕ) → locked_cost (grammar.locked_value x) ≤ 0
  locked_less (None, z) = omega (arith, opened_name z [])
  locked_less (Some t, z) = omega (arith, opened_name z [])

  locked_is : (x : Option Token × List ℕ) → IsName x.1 → IsLocked (grammar.locked_value x)
  locked_is (None, z) w = w
  locked_is (Some t, z) w = w

  locked_gives : Gives text (grammar.locked text).texts locked_cost IsLocked
  locked_gives = valued grammar.locked_value locked_cost IsLocked (λ x. omega (arith, locked_less x)) (λ x w. locked_is x w.1) (both anything (plain_name_gives text))

  lock_opened : (ts : List LockedTable) (m : LockMode) → command_cost (locks ts m) ≡ total locked_cost ts
  lock_opened ts m = omega (arith, opened_append (parts locked_marks ts) (mode_marks m), opened_parts locked_marks ts, mode_free m)

  lock_gives : Gives text (grammar.lock text).texts command_cost IsCommand
  lock_gives =
      valued grammar.lock_value command_cost IsCommand (λ x. omega (arith, lock_opened x.1.0 x.1.1)) (λ x w. w.1.0)
      (behind kinds.Lock (both anything (both (commas locked_gives) anything)))

  -- DEALLOCATE
  name_behind_gives : (o : Option Token) → Gives text (grammar.name_behind text o).texts free IsName
  name_behind_gives None = plain_name_gives text
  name_behind_gives (Some t) = other_name_gives text kinds.Transaction

  all_or_name_gives : (o : Option Token) → Gives text (grammar.all_or_name text o).texts command_cost IsCommand
  all_or_name_gives o =
      either (valued (λ (t : Token). deallocates_all) command_cost IsCommand (λ t. omega arith) (λ t w. tt) (one (a kinds.All)))
      (valued deallocates command_cost IsCommand (λ z. omega (arith, opened_name z [])) (λ z w. w) (name_behind_gives o))

  deallocate_gives : Gives text (grammar.deallocate text).texts command_cost IsCommand
  deallocate_gives = behind kinds.Deallocate (valued second_of command_cost IsCommand (λ x. omega arith) (λ x w. w.1) (follow anything all_or_name_gives))

  -- every command
  pub command_gives : Gives text (grammar.command text).texts (λ (c : CommandTree). opened_by (command_marks c)) IsCommand
  command_gives =
      either begin_gives (either finish_gives (either set_gives (either create_gives (either drop_gives (either alter_gives (either lock_gives deallocate_gives))))))
