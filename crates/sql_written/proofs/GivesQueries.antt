-- What the texts of queries give.
use Rattle.std.proofs.Common.{◌≡◌, ℕ, ◌≤◌, suc, ◌+◌, Bool, true, false, List, [], ◌∷◌, ◌++◌, Option, Some, None, refl, sym, ap, ◌∙◌, subst, arith}
use Rattle.grammar.specs.Reading.{either_texts, one as one_token, nothing_texts, optional, value_texts}
use Rattle.grammar.specs.Repeats.{second_of}
use Rattle.sql_tokens.specs.Words.{is}
use Rattle.sql_tokens.specs.declared.kind.TokenKind.{TokenKind}
use Rattle.sql_tokens.specs.declared.kind.TokenKind.TheVariants as kinds
use Rattle.sql_tokens.specs.declared.token.Token.{Token}
use Rattle.sql_tokens.proofs.EachKind.{each_kind}
use Rattle.sql_expressions.specs.Grammar.{expression}
use Rattle.sql_ast.specs.Expressions.{Tree, Trees, no_more, listed as list_of_trees}
use Rattle.grammar.specs.Words.{◌>>◌, means}
use Rattle.sql_tokens.specs.Classes.{a}
use Rattle.sql_ast.specs.declared.leaf.Operator.TheVariants.{Equal}
use Rattle.sql_expressions.specs.Lists.{plain_name}
use Rattle.sql_syntax.specs.QueryGrammar as grammar
use Rattle.sql_ast.specs.Queries.{Item, columns_of, one_column, Joined, Key, Setting, selected, RowTree, selects, inserts, updates, deletes, QueryTree, rows, prepares, explains_select}
use Rattle.sql_syntax.specs.Items.{all_of_them, item, maybe_alias, output, starred}
use Rattle.sql_ast.specs.declared.named_table.NamedTable.{NamedTable}
use Rattle.sql_written.specs.Marks.{Mark, blank}
use Rattle.sql_written.specs.Spelling as spelled
use Rattle.sql_written.specs.Writable.{IsName, IsWritable as IsExpression}
use Rattle.sql_written.specs.Written.{marks}
use Rattle.sql_written.proofs.Costs.{opened_append, opened_by, opened_name}
use Rattle.sql_written.proofs.LevelTexts.{Of}
use Rattle.sql_written.specs.Lists.{Each, Maybe, SomeAre, list_of, names, parts, values}
use Rattle.sql_written.specs.Queries.{alias_marks, analyze_marks, argument_marks, clause, columns_marks, direction_marks, execute_marks, from_marks, is_transaction, item_marks, joined_marks, key_marks, kinds_marks, more_tables, nulls_marks, order_marks, query_marks, row_marks, row_statement_marks, select_marks, setting_marks, table_marks}
use Rattle.sql_written.specs.Words.{word}
use Rattle.sql_written.specs.WritableCommands.{AreValues}
use Rattle.sql_written.specs.WritableQueries.{AreTables, IsAssignment, IsItem, IsJoined, IsKey, IsQuery, IsRowStatement, IsSelect, IsTable}
use Rattle.sql_written.proofs.Gives.{Gives, anything, before, behind, both, commas, either, enclosed, follow, free, many, nothing, one, total, valued, weakened}
use Rattle.sql_written.proofs.GivesLeaves.{expression_gives, is_own_word, name_but_gives, other_name_gives, plain_name_gives}
use Rattle.sql_written.proofs.Opens.{opened_enclosed, opened_names, opened_parts, opened_unless, opened_values}
use Rattle.sql_written.proofs.WriteParts.{list_there}

-- each of one or more is each
each_of : {A : Type 0} (W : A → Type 0) (xs : List A) → SomeAre W xs → Each W xs
each_of W [] h = absurd h
each_of W (x ∷ xs) h = h

-- how many parentheses are written of a value
abbrev opens_of : {A : Type 0} → (A → List Mark) → A → ℕ
opens_of f x = opened_by (f x)

-- what the marks open
opened_alias : (o : Option (List ℕ)) → opened_by (alias_marks o) ≡ 0
opened_alias None = refl
opened_alias (Some z) = omega (arith, opened_name z [])

opened_table : (t : NamedTable) → opened_by (table_marks t) ≡ 0
opened_table t = opened_name t.name (alias_marks t.alias) ∙ opened_alias t.alias

opened_tables : (xs : List Joined) → opened_by (more_tables xs) ≡ total (opens_of joined_marks) xs
opened_tables [] = refl
opened_tables (x ∷ xs) = opened_append (joined_marks x) (more_tables xs) ∙ omega (arith, opened_tables xs)

opened_joined : (t : NamedTable) (e : Tree) → opened_by (joined_marks (t, Some e)) ≡ opened_by (marks e)
opened_joined t e = omega (arith, opened_append (table_marks t) (blank ∷ word kinds.On ∷ blank ∷ marks e), opened_table t)

opened_from : (x : Joined) (xs : List Joined) → opened_by (from_marks (x ∷ xs)) ≡ total (opens_of joined_marks) xs
opened_from x xs = omega (arith, opened_append (table_marks x.0) (more_tables xs), opened_table x.0, opened_tables xs)

opened_direction : (d : Bool) → opened_by (direction_marks d) ≡ 0
opened_direction true = refl
opened_direction false = refl

opened_nulls : (d f : Bool) → opened_by (nulls_marks d f) ≡ 0
opened_nulls true true = refl
opened_nulls true false = refl
opened_nulls false true = refl
opened_nulls false false = refl

opened_key : (e : Tree) (d f : Bool) → opened_by (key_marks (e, (d, f))) ≡ opened_by (marks e)
opened_key e d f =
    opened_append (marks e) (direction_marks d ++ nulls_marks d f)
    ∙ omega (arith, opened_append (direction_marks d) (nulls_marks d f), opened_direction d, opened_nulls d f)

opened_order : (xs : List Key) → opened_by (order_marks xs) ≡ total (opens_of key_marks) xs
opened_order [] = refl
opened_order (x ∷ xs) = omega (arith, opened_parts key_marks (x ∷ xs))

opened_columns : (zs : List (List ℕ)) → opened_by (columns_marks (Some zs)) ≡ 1
opened_columns zs = opened_enclosed (names zs) ∙ ap suc (opened_names zs)

opened_kinds : (zs : List (List ℕ)) → opened_by (kinds_marks zs) ≤ suc (total free zs)
opened_kinds [] = omega arith
opened_kinds (z ∷ zs) = omega (arith, opened_enclosed (names (z ∷ zs)), opened_names (z ∷ zs))

opened_listed : (xs : List Tree) → opened_by (values (list_of_trees xs)) ≡ total (opens_of marks) xs
opened_listed xs = opened_values (list_of_trees xs) ∙ ap (λ ys. total (opens_of marks) ys) (list_there xs)

opened_row : (xs : List Tree) → opened_by (row_marks (list_of_trees xs)) ≡ suc (total (opens_of marks) xs)
opened_row xs = opened_enclosed (values (list_of_trees xs)) ∙ ap suc (opened_listed xs)

opened_analyze : (b : Bool) (ms : List Mark) → opened_by (analyze_marks b ++ ms) ≡ opened_by ms
opened_analyze true ms = omega arith
opened_analyze false ms = refl

-- of a clause, whatever its word
abbrev clause_cost : Option Tree → ℕ
clause_cost None = 0
clause_cost (Some e) = opened_by (marks e)

opened_clause : (k : TokenKind) → is k kinds.OpenParenthesis ≡ false → (o : Option Tree) → opened_by (clause k o) ≡ clause_cost o
opened_clause k h None = refl
opened_clause k h (Some e) = rw h (omega arith)

opened_select : (items : List Item) (fs : List Joined) (c : Option Tree) (ks : List Key) (l o : Option Tree) →
    opened_by (select_marks (selected items fs c ks l o)) ≡ total (opens_of item_marks) items + (opened_by (from_marks fs) + (clause_cost c + (opened_by (order_marks ks) + (clause_cost l + clause_cost o))))
opened_select items fs c ks l o =
    let e = clause kinds.Limit l ++ clause kinds.Offset o in
    let d = order_marks ks ++ e in
    let b = clause kinds.Where c ++ d in
    omega (
      arith,
      opened_append (parts item_marks items) (from_marks fs ++ b),
      opened_append (from_marks fs) b,
      opened_append (clause kinds.Where c) d,
      opened_append (order_marks ks) e,
      opened_append (clause kinds.Limit l) (clause kinds.Offset o),
      opened_parts item_marks items,
      opened_clause kinds.Where refl c,
      opened_clause kinds.Limit refl l,
      opened_clause kinds.Offset refl o,
    )

opened_insert : (z : List ℕ) (o : Option (List (List ℕ))) (rs : List Trees) → opened_by (row_statement_marks (inserts z o rs)) ≡ opened_by (columns_marks o) + total (opens_of row_marks) rs
opened_insert z o rs =
    let lines = blank ∷ word kinds.Values ∷ blank ∷ parts row_marks rs in
    omega (arith, opened_name z (columns_marks o ++ lines), opened_append (columns_marks o) lines, opened_parts row_marks rs)

opened_setting : (x : Setting) → opened_by (setting_marks x) ≡ opened_by (marks x.1)
opened_setting x = omega (arith, opened_name x.0 (blank ∷ spelled.sign Equal ∷ blank ∷ marks x.1))

opened_update : (t : NamedTable) (xs : List Setting) (c : Option Tree) → opened_by (row_statement_marks (updates t xs c)) ≡ total (opens_of setting_marks) xs + clause_cost c
opened_update t xs c =
    let settings = parts setting_marks xs ++ clause kinds.Where c in
    omega (
      arith,
      opened_append (table_marks t) (blank ∷ word kinds.Set ∷ blank ∷ settings),
      opened_table t,
      opened_append (parts setting_marks xs) (clause kinds.Where c),
      opened_parts setting_marks xs,
      opened_clause kinds.Where refl c,
    )

opened_delete : (t : NamedTable) (c : Option Tree) → opened_by (row_statement_marks (deletes t c)) ≡ clause_cost c
opened_delete t c = omega (arith, opened_append (table_marks t) (clause kinds.Where c), opened_table t, opened_clause kinds.Where refl c)

opened_prepare : (z : List ℕ) (zs : List (List ℕ)) (s : RowTree) → opened_by (query_marks (prepares z zs s)) ≡ opened_by (kinds_marks zs) + opened_by (row_statement_marks s)
opened_prepare z zs s =
    let rest = blank ∷ word kinds.As ∷ blank ∷ row_statement_marks s in
    omega (arith, opened_unless is_transaction z (kinds_marks zs ++ rest), opened_append (kinds_marks zs) rest)

opened_arguments : (xs : List Tree) → opened_by (argument_marks (list_of_trees xs)) ≤ suc (total (opens_of marks) xs)
opened_arguments [] = omega arith
opened_arguments (x ∷ xs) = omega (arith, opened_row (x ∷ xs))

opened_execute : (z : List ℕ) (ts : Trees) → opened_by (execute_marks z ts) ≡ opened_by (argument_marks ts)
opened_execute z ts = omega (arith, opened_name z (argument_marks ts))

-- what may be left out
some_or_none : {text : List ℕ} {A : Type 0} {P : Of A} (W : A → Type 0) → Gives text P free W → Gives text (either_texts (value_texts (λ (x : A). Some x) P) (nothing_texts None)) free (Maybe W)
some_or_none {A = A} W g = either (valued (λ (x : A). Some x) free (Maybe W) (λ x. omega arith) (λ x w. w) g) (nothing None free (Maybe W) refl tt)

module _ (text : List ℕ) where
  -- names of tables and columns
  as_gives : Gives text (value_texts (λ (y : List ℕ). Some y) (a kinds.As >> plain_name text).texts) free (Maybe IsName)
  as_gives = valued (λ (y : List ℕ). Some y) free (Maybe IsName) (λ y. omega arith) (λ y w. w) (behind kinds.As (plain_name_gives text))

  alias_gives : Gives text (grammar.table_alias text).texts free (Maybe IsName)
  alias_gives = either as_gives (some_or_none IsName (plain_name_gives text))

  output_alias_gives : Gives text (maybe_alias text).texts free (Maybe IsName)
  output_alias_gives = either as_gives (some_or_none IsName (name_but_gives text kinds.Between (each_kind (λ j. is_own_word kinds.Between j) refl)))

  set_alias_gives : Gives text (grammar.set_alias text).texts free (Maybe IsName)
  set_alias_gives = either as_gives (some_or_none IsName (name_but_gives text kinds.Set (each_kind (λ j. is_own_word kinds.Set j) refl)))

  table_gives : Gives text (grammar.named_table text).texts free IsTable
  table_gives = valued grammar.table_value free IsTable (λ x. omega arith) (λ x w. w) (both (plain_name_gives text) alias_gives)

  -- items
  starred_gives : Gives text (starred text).texts (opens_of item_marks) IsItem
  starred_gives =
      valued columns_of (opens_of item_marks) IsItem (λ z. omega (arith, opened_name z (spelled.dot ∷ spelled.star ∷ []))) (λ z w. w) (before kinds.Star (before kinds.Dot (plain_name_gives text)))

  output_gives : Gives text (value_texts one_column (output text).texts) (opens_of item_marks) IsItem
  output_gives =
      valued one_column (opens_of item_marks) IsItem (λ x. omega (arith, opened_append (marks x.0) (alias_marks x.1), opened_alias x.1)) (λ x w. w) (both (expression_gives text) output_alias_gives)

  item_gives : Gives text (item text).texts (opens_of item_marks) IsItem
  item_gives = either (valued all_of_them (opens_of item_marks) IsItem (λ t. omega arith) (λ t w. tt) (one (a kinds.Star))) (either starred_gives output_gives)

  -- FROM
  alone_gives : Gives text (value_texts grammar.alone (a kinds.Comma >> grammar.named_table text).texts) (opens_of joined_marks) IsJoined
  alone_gives = valued grammar.alone (opens_of joined_marks) IsJoined (λ t. omega (arith, opened_table t)) (λ t w. (w, tt)) (behind kinds.Comma table_gives)

  joined_table_gives : Gives text (grammar.joined_table text).texts (opens_of joined_marks) IsJoined
  joined_table_gives =
      valued grammar.on_condition (opens_of joined_marks) IsJoined (λ x. omega (arith, opened_joined x.0 x.1)) (λ x w. w) (behind kinds.Join (both table_gives (behind kinds.On (expression_gives text))))

  joined_gives : Gives text (grammar.joint text).texts (opens_of joined_marks) IsJoined
  joined_gives = either alone_gives (either (behind kinds.Inner joined_table_gives) joined_table_gives)

  tables_gives : Gives text (grammar.tables text).texts (opens_of from_marks) AreTables
  tables_gives =
      valued grammar.tables_value (opens_of from_marks) AreTables (λ x. omega (arith, opened_from (grammar.alone x.0) x.1)) (λ x w. (w.0, refl, w.1)) (both table_gives (many joined_gives))

  from_gives : Gives text (grammar.from text).texts (opens_of from_marks) AreTables
  from_gives = either (behind kinds.From tables_gives) (nothing [] (opens_of from_marks) AreTables refl tt)

  -- clauses of one expression
  some_expression : Gives text (value_texts (λ (e : Tree). Some e) (expression text).texts) clause_cost (Maybe IsExpression)
  some_expression = valued (λ (e : Tree). Some e) clause_cost (Maybe IsExpression) (λ e. omega arith) (λ e w. w) (expression_gives text)

  clause_gives : (k : TokenKind) → Gives text (optional (a k) (a k >> expression text)).texts clause_cost (Maybe IsExpression)
  clause_gives k =
      either (valued (λ (e : Tree). Some e) clause_cost (Maybe IsExpression) (λ e. omega arith) (λ e w. w) (behind k (expression_gives text)))
      (nothing None clause_cost (Maybe IsExpression) refl tt)

  all_rows_gives : Gives text (means {A = Option Tree} None (one_token (a kinds.All))).texts clause_cost (Maybe IsExpression)
  all_rows_gives = valued (λ (t : Token). None) clause_cost (Maybe IsExpression) (λ t. omega arith) (λ t w. tt) (one (a kinds.All))

  limit_gives : Gives text (grammar.limit text).texts clause_cost (Maybe IsExpression)
  limit_gives = either (behind kinds.Limit (either all_rows_gives some_expression)) (nothing None clause_cost (Maybe IsExpression) refl tt)

  -- ORDER BY
  key_gives : Gives text (grammar.key text).texts (opens_of key_marks) IsKey
  key_gives =
      valued grammar.key_value (opens_of key_marks) IsKey
      (λ x. let y = grammar.key_value x in omega (arith, opened_key y.0 y.1.0 y.1.1)) (λ x w. w.0) (both (expression_gives text) (both anything anything))

  order_gives : Gives text (grammar.order text).texts (opens_of order_marks) (Each IsKey)
  order_gives =
      either (weakened (opens_of order_marks) (Each IsKey) (λ xs. omega (arith, opened_order xs)) (λ xs w. each_of IsKey xs w) (behind kinds.Order (behind kinds.By (commas key_gives))))
      (nothing [] (opens_of order_marks) (Each IsKey) refl tt)

  -- SELECT
  select_gives : Gives text (grammar.select text).texts (opens_of select_marks) IsSelect
  select_gives =
      valued grammar.select_value (opens_of select_marks) IsSelect
      (λ x. omega (arith, opened_select x.0 x.1.0 x.1.1.0 x.1.1.1.0 x.1.1.1.1.0 x.1.1.1.1.1))
      (λ x w. (w.0, w.1.0, w.1.1.0, w.1.1.1.0, w.1.1.1.1.0, w.1.1.1.1.1))
      (behind kinds.Select (both (commas item_gives) (both from_gives (both (clause_gives kinds.Where) (both order_gives (both limit_gives (clause_gives kinds.Offset)))))))

  -- INSERT
  columns_gives : Gives text (grammar.columns text).texts (opens_of columns_marks) (Maybe (SomeAre IsName))
  columns_gives =
      either (valued (λ (zs : List (List ℕ)). Some zs) (opens_of columns_marks) (Maybe (SomeAre IsName)) (λ zs. omega (arith, opened_columns zs)) (λ zs w. w) (enclosed (commas (plain_name_gives text))))
      (nothing None (opens_of columns_marks) (Maybe (SomeAre IsName)) refl tt)

  row_gives : Gives text (grammar.row text).texts (opens_of row_marks) AreValues
  row_gives =
      valued list_of_trees (opens_of row_marks) AreValues (λ xs. omega (arith, opened_row xs)) (λ xs w. subst (SomeAre IsExpression) (sym (list_there xs)) w) (enclosed (commas (expression_gives text)))

  insert_gives : Gives text (grammar.insert text).texts (opens_of row_statement_marks) IsRowStatement
  insert_gives =
      valued grammar.insert_value (opens_of row_statement_marks) IsRowStatement
      (λ x. omega (arith, opened_insert x.0 x.1.0 x.1.1)) (λ x w. (w.0, w.1.0, w.1.1))
      (behind kinds.Insert (behind kinds.Into (both (plain_name_gives text) (both columns_gives (behind kinds.Values (commas row_gives))))))

  -- UPDATE
  assignment_gives : Gives text (grammar.assignment text).texts (opens_of setting_marks) IsAssignment
  assignment_gives =
      weakened (opens_of setting_marks) IsAssignment (λ x. omega (arith, opened_setting x)) (λ x w. w)
      (both (name_but_gives text kinds.Set (each_kind (λ j. is_own_word kinds.Set j) refl)) (behind kinds.Equal (expression_gives text)))

  update_gives : Gives text (grammar.update text).texts (opens_of row_statement_marks) IsRowStatement
  update_gives =
      valued grammar.update_value (opens_of row_statement_marks) IsRowStatement
      (λ x. omega (arith, opened_update (grammar.table_value (x.0.0, x.0.1.0)) x.0.1.1 x.1)) (λ x w. ((w.0.0, w.0.1.0), w.0.1.1, w.1))
      (both (behind kinds.Update (both (plain_name_gives text) (both set_alias_gives (behind kinds.Set (commas assignment_gives))))) (clause_gives kinds.Where))

  -- DELETE
  delete_gives : Gives text (grammar.delete text).texts (opens_of row_statement_marks) IsRowStatement
  delete_gives =
      valued grammar.delete_value (opens_of row_statement_marks) IsRowStatement (λ x. omega (arith, opened_delete x.0 x.1)) (λ x w. w)
      (behind kinds.Delete (behind kinds.From (both table_gives (clause_gives kinds.Where))))

  row_statement_gives : Gives text (grammar.row_statement text).texts (opens_of row_statement_marks) IsRowStatement
  row_statement_gives =
      either (valued selects (opens_of row_statement_marks) IsRowStatement (λ s. omega arith) (λ s w. w) select_gives)
      (either insert_gives (either update_gives delete_gives))

  -- PREPARE
  kinds_give : Gives text (grammar.kinds text).texts (opens_of kinds_marks) (Each IsName)
  kinds_give =
      either (weakened (opens_of kinds_marks) (Each IsName) opened_kinds (λ zs w. each_of IsName zs w) (enclosed (commas (plain_name_gives text))))
      (nothing [] (opens_of kinds_marks) (Each IsName) refl tt)

  prepare_gives : Gives text (grammar.prepare text).texts (opens_of query_marks) IsQuery
  prepare_gives =
      valued grammar.prepare_value (opens_of query_marks) IsQuery (λ x. omega (arith, opened_prepare x.0 x.1.0 x.1.1)) (λ x w. (w.0, w.1.0, w.1.1))
      (behind kinds.Prepare (both (other_name_gives text kinds.Transaction) (both kinds_give (behind kinds.As row_statement_gives))))

  -- EXECUTE
  arguments_give : Gives text (grammar.arguments text).texts (opens_of argument_marks) (λ (ts : Trees). Each IsExpression (list_of ts))
  arguments_give =
      either (valued list_of_trees (opens_of argument_marks) (λ (ts : Trees). Each IsExpression (list_of ts)) opened_arguments (λ xs w. subst (Each IsExpression) (sym (list_there xs)) (each_of IsExpression xs w)) (enclosed (commas (expression_gives text))))
      (nothing no_more (opens_of argument_marks) (λ (ts : Trees). Each IsExpression (list_of ts)) refl tt)

  execute_gives : Gives text (grammar.execute text).texts (λ (x : List ℕ × Trees). opened_by (execute_marks x.0 x.1)) (λ (x : List ℕ × Trees). IsName x.0 × Each IsExpression (list_of x.1))
  execute_gives =
      weakened (λ (x : List ℕ × Trees). opened_by (execute_marks x.0 x.1)) (λ (x : List ℕ × Trees). IsName x.0 × Each IsExpression (list_of x.1)) (λ x. omega (arith, opened_execute x.0 x.1)) (λ x w. w)
      (behind kinds.Execute (both (plain_name_gives text) arguments_give))

  -- EXPLAIN
  explained_gives : (b : Bool) → Gives text (grammar.explained text b).texts (opens_of query_marks) IsQuery
  explained_gives b =
      either (valued (explains_select b) (opens_of query_marks) IsQuery (λ s. omega (arith, opened_analyze b (blank ∷ select_marks s))) (λ s w. w) select_gives)
      (valued (grammar.explain_execute_value b) (opens_of query_marks) IsQuery (λ x. omega (arith, opened_analyze b (blank ∷ execute_marks x.0 x.1))) (λ x w. w) execute_gives)

  explain_gives : Gives text (grammar.explain text).texts (opens_of query_marks) IsQuery
  explain_gives = valued second_of (opens_of query_marks) IsQuery (λ x. omega arith) (λ x w. w.1) (behind kinds.Explain (follow anything explained_gives))

  -- every query
  pub query_gives : Gives text (grammar.query text).texts (λ (q : QueryTree). opened_by (query_marks q)) IsQuery
  query_gives =
      either (valued rows (opens_of query_marks) IsQuery (λ s. omega arith) (λ s w. w) row_statement_gives)
      (either prepare_gives
      (either (valued grammar.execute_value (opens_of query_marks) IsQuery (λ x. omega arith) (λ x w. w) execute_gives) explain_gives))
