-- What is written of a query spells it.
use Rattle.std.proofs.Common.{◌≡◌, ℕ, Bool, true, false, List, [], ◌∷◌, ◌++◌, Option, Some, None, inl, inr, refl, sym, ap, ◌∙◌, append_assoc, subst}
use Rattle.std.specs.Prelude.{codes}
use Rattle.grammar.specs.Reading.{one, one_texts, nothing_texts, value_texts, optional}
use Rattle.grammar.specs.Repeats.{many, many_texts, second_of}
use Rattle.sql_tokens.specs.declared.kind.TokenKind.{TokenKind}
use Rattle.sql_tokens.specs.declared.kind.TokenKind.TheVariants as kinds
use Rattle.sql_tokens.specs.declared.token.Token.{Token}
use Rattle.sql_expressions.specs.Grammar.{expression}
use Rattle.sql_ast.specs.Expressions.{Tree, Trees, no_more, and_more, listed as list_of_trees}
use Rattle.grammar.specs.Words.{◌>>◌, maybe}
use Rattle.sql_tokens.specs.Classes.{a}
use Rattle.sql_expressions.specs.Lists.{commas, plain_name}
use Rattle.sql_syntax.specs.QueryGrammar as grammar
use Rattle.sql_ast.specs.Queries.{Item, all_columns, columns_of, one_column, Joined, Key, Setting, SelectTree, selected, RowTree, selects, inserts, updates, deletes, QueryTree, rows, prepares, executes, explains_select, explains_execute}
use Rattle.sql_syntax.specs.Items.{all_of_them, item, maybe_alias, starred}
use Rattle.sql_ast.specs.declared.named_table.NamedTable.{NamedTable}
use Rattle.sql_written.specs.Marks.{Mark, blank, bytes_of, text_of}
use Rattle.sql_written.specs.Spelling as spelled
use Rattle.sql_written.specs.Writable.{IsName, IsWritable as IsExpression}
use Rattle.sql_written.specs.Written.{marks}
use Rattle.sql_written.proofs.LeafTexts.{only}
use Rattle.sql_written.proofs.MarkTokens.{next_append}
use Rattle.sql_written.proofs.MarksApart.{Ends, dot_apart, name_apart, name_first, opening_ends, star_apart}
use Rattle.sql_written.proofs.Said.{Are, parted, token}
use Rattle.sql_written.specs.Lists.{Each, Maybe, SomeAre, list_of, name_marks, parts}
use Rattle.sql_written.specs.Queries.{alias_marks, analyze_marks, argument_marks, clause, columns_marks, direction_marks, execute_marks, from_marks, item_marks, joined_marks, key_marks, kinds_marks, more_tables, nulls_marks, order_marks, query_marks, row_marks, row_statement_marks, select_marks, setting_marks, table_marks}
use Rattle.sql_written.specs.Words.{word}
use Rattle.sql_written.specs.WritableCommands.{AreValues}
use Rattle.sql_written.specs.WritableQueries.{AreTables, IsAssignment, IsItem, IsJoined, IsKey, IsQuery, IsRowStatement, IsSelect, IsTable}
use Rattle.sql_written.proofs.CommandTexts.{list_back, names_spell, trees_spell}
use Rattle.sql_written.proofs.EachWord.{is_written}
use Rattle.sql_written.proofs.Leaves.{name_but_spells, other_name_spells, plain_name_spells, tree_spells}
use Rattle.sql_written.proofs.Spells.{Begins, Exactly, Spells, behind, behind_comma, behind_equal, both, enclosing, exactly, followed, left, listed as list_spells, none, one_of, right, spaced, valued}

module _ (text : List ℕ) where
  -- names of tables and columns
  as_spells : (z : List ℕ) → IsName z → Exactly Ends text (value_texts (λ (y : List ℕ). Some y) (a kinds.As >> plain_name text).texts) (alias_marks (Some z)) (Some z)
  as_spells z n = exactly (Some z) (valued (λ (y : List ℕ). Some y) (spaced (behind kinds.As refl (spaced (plain_name_spells text z n))))) (λ i. refl)

  alias_spells : (o : Option (List ℕ)) → Maybe IsName o → Exactly Ends text (grammar.table_alias text).texts (alias_marks o) o
  alias_spells None w = right _ (right _ (none None))
  alias_spells (Some z) w = left _ (as_spells z w)

  output_alias : (o : Option (List ℕ)) → Maybe IsName o → Exactly Ends text (maybe_alias text).texts (alias_marks o) o
  output_alias None w = right _ (right _ (none None))
  output_alias (Some z) w = left _ (as_spells z w)

  set_alias : (o : Option (List ℕ)) → Maybe IsName o → Exactly Ends text (grammar.set_alias text).texts (alias_marks o) o
  set_alias None w = right _ (right _ (none None))
  set_alias (Some z) w = left _ (as_spells z w)

  table_spells : (t : NamedTable) → IsTable t → Exactly Begins text (grammar.named_table text).texts (table_marks t) t
  table_spells t w = exactly t (valued grammar.table_value (both (plain_name_spells text t.name w.0) (alias_spells t.alias w.1))) (λ i. refl)

  -- items
  star_spells : Spells Begins text (one_texts (a kinds.Star)) (spelled.star ∷ []) (λ (i : ℕ × ℕ). token kinds.Star i.0 i.1)
  star_spells = record {
    reads = λ ts w. ((w.0, w.1), (only text kinds.Star (codes "*") ts w, refl));
    apart = λ n e. (star_apart n, tt);
    first = λ n e. refl;
  }

  starred_read : (z : List ℕ) → IsName z → (ts : List Token) → Are text ts (item_marks (columns_of z)) → (starred text).texts ts (columns_of z)
  starred_read z n ts h =
      let p = parted text ts (name_marks z) (spelled.dot ∷ spelled.star ∷ []) h in
      let q = p.4.5 in
      let s = token kinds.Dot p.4.0 p.4.1 in
      let t = token kinds.Star q.0 q.1 in
      let star = only text kinds.Star (codes "*") p.4.2 q in
      let named = ((plain_name_spells text z n).reads p.0 p.3).1 in
      (z, ((z, t), (p.0 ++ s ∷ [], t ∷ [], p.2 ∙ (ap (λ r. p.0 ++ r) (p.4.3 ∙ ap (λ r. s ∷ r) star) ∙ sym (append_assoc p.0 (s ∷ []) (t ∷ []))), ((z, s), (p.0, s ∷ [], refl, named, (refl, refl)), refl), (refl, refl)), refl), refl)

  item_spells : (x : Item) → IsItem x → Exactly Begins text (item text).texts (item_marks x) x
  item_spells all_columns w = left _ (exactly all_columns (valued all_of_them star_spells) (λ i. refl))
  item_spells (columns_of z) w = record {
    reads = λ ts h. (tt, inr (inl (starred_read z w ts h)));
    apart = λ n e. (name_apart z 46 w refl refl, (dot_apart 42 refl, (star_apart n, tt)));
    first = λ n e. subst Begins (sym (next_append (bytes_of (spelled.name z)) (text_of (spelled.dot ∷ spelled.star ∷ [])) n)) (name_first z 46).blank;
  }
  item_spells (one_column x) w = right _ (right _ (exactly (one_column x) (valued one_column (both (tree_spells text x.0 w.0) (output_alias x.1 w.1))) (λ i. refl)))

  -- FROM
  joined_spells : (x : Joined) → IsJoined x → Exactly Ends text (grammar.joint text).texts (joined_marks x) x
  joined_spells (t, None) w = left _ (exactly (t, None) (valued grammar.alone (behind_comma (spaced (table_spells t w.0)))) (λ i. refl))
  joined_spells (t, Some e) w =
      right _ (right _ (exactly (t, Some e) (valued grammar.on_condition (spaced (behind kinds.Join refl (spaced (both (table_spells t w.0) (spaced (behind kinds.On refl (spaced (tree_spells text e w.1))))))))) (λ i. refl)))

  more_read : (xs : List Joined) → Each IsJoined xs → (ts : List Token) → Are text ts (more_tables xs) → many_texts (grammar.joint text).texts xs ts
  more_read [] w ts h = h
  more_read (x ∷ xs) w ts h =
      let p = parted text ts (joined_marks x) (more_tables xs) h in
      (p.0, p.1, p.2, ((joined_spells x w.0).reads p.0 p.3).1, more_read xs w.1 p.1 p.4)

  tables_behind : (xs : List Joined) → Each IsJoined xs → Exactly Ends text (many grammar.is_joint (grammar.joint text)).texts (more_tables xs) xs
  tables_behind [] w = record { reads = λ ts h. (tt, h); apart = λ n e. tt; first = λ n e. e }
  tables_behind (x ∷ xs) w =
      let p = joined_spells x w.0 in
      let q = tables_behind xs w.1 in
      let b = both p q in
      record { reads = λ ts h. (tt, more_read (x ∷ xs) w ts h); apart = b.apart; first = b.first }

  from_spells : (xs : List Joined) → AreTables xs → Exactly Ends text (grammar.from text).texts (from_marks xs) xs
  from_spells [] w = right _ (none [])
  from_spells (x ∷ xs) w =
      left _ (exactly (x ∷ xs)
      (spaced (behind kinds.From refl (spaced (valued grammar.tables_value (both (table_spells x.0 w.0) (tables_behind xs w.2))))))
      (λ i. ap (λ (o : Option Tree). (x.0, o) ∷ xs) (sym w.1)))

  -- clauses of one expression
  clause_spells : (k : TokenKind) → is_written k ≡ true → (o : Option Tree) → Maybe IsExpression o → Exactly Ends text (optional (a k) (a k >> expression text)).texts (clause k o) o
  clause_spells k e None w = right _ (none None)
  clause_spells k e (Some t) w = left _ (exactly (Some t) (valued (λ (x : Tree). Some x) (spaced (behind k e (spaced (tree_spells text t w))))) (λ i. refl))

  limit_spells : (o : Option Tree) → Maybe IsExpression o → Exactly Ends text (grammar.limit text).texts (clause kinds.Limit o) o
  limit_spells None w = right _ (none None)
  limit_spells (Some t) w = left _ (exactly (Some t) (spaced (behind kinds.Limit refl (spaced (right _ (valued (λ (x : Tree). Some x) (tree_spells text t w)))))) (λ i. refl))

  -- ORDER BY
  desc_spells : Spells Ends text (maybe grammar.is_direction).texts (direction_marks true) (λ (i : ℕ × ℕ). Some (token kinds.Desc i.0 i.1))
  desc_spells = left (nothing_texts None) (valued (λ (t : Token). Some t) (spaced (one_of kinds.Desc refl grammar.is_direction (λ i j. refl))))

  asc_spells : Exactly Ends text (maybe grammar.is_direction).texts (direction_marks false) None
  asc_spells = right (value_texts (λ (t : Token). Some t) (one_texts grammar.is_direction)) (none None)

  nulls_spell : (k : TokenKind) → is_written k ≡ true → ((i j : ℕ) → grammar.is_end (token k i j) ≡ true) → Spells Ends text grammar.nulls.texts (blank ∷ word kinds.Nulls ∷ blank ∷ word k ∷ []) (λ (i : ℕ × ℕ). Some (token k i.0 i.1))
  nulls_spell k e h = left (nothing_texts None) (valued (λ (t : Token). Some t) (spaced (behind kinds.Nulls refl (spaced (one_of k e grammar.is_end h)))))

  no_nulls : Exactly Ends text grammar.nulls.texts [] None
  no_nulls = right (value_texts (λ (t : Token). Some t) (a kinds.Nulls >> one grammar.is_end).texts) (none None)

  key_by : (e : Tree) (d f : Bool) → IsExpression e → Exactly Begins text (grammar.key text).texts (marks e ++ (direction_marks d ++ nulls_marks d f)) (e, (d, f))
  key_by e true true w = exactly (e, (true, true)) (valued grammar.key_value (both (tree_spells text e w) (both desc_spells no_nulls))) (λ i. refl)
  key_by e true false w = exactly (e, (true, false)) (valued grammar.key_value (both (tree_spells text e w) (both desc_spells (nulls_spell kinds.Last refl (λ i j. refl))))) (λ i. refl)
  key_by e false true w = exactly (e, (false, true)) (valued grammar.key_value (both (tree_spells text e w) (both asc_spells (nulls_spell kinds.First refl (λ i j. refl))))) (λ i. refl)
  key_by e false false w = exactly (e, (false, false)) (valued grammar.key_value (both (tree_spells text e w) (both asc_spells no_nulls))) (λ i. refl)

  key_spells : (x : Key) → IsKey x → Exactly Begins text (grammar.key text).texts (key_marks x) x
  key_spells x w = key_by x.0 x.1.0 x.1.1 w

  order_spells : (xs : List Key) → Each IsKey xs → Exactly Ends text (grammar.order text).texts (order_marks xs) xs
  order_spells [] w = right _ (none [])
  order_spells (x ∷ xs) w = left _ (exactly (x ∷ xs) (spaced (behind kinds.Order refl (spaced (behind kinds.By refl (spaced (list_spells IsKey (grammar.key text).texts key_marks key_spells (x ∷ xs) w)))))) (λ i. refl))

  -- SELECT
  select_spells : (s : SelectTree) → IsSelect s → Exactly Begins text (grammar.select text).texts (select_marks s) s
  select_spells (selected items from condition order limit offset) w =
      exactly (selected items from condition order limit offset)
      (valued grammar.select_value (behind kinds.Select refl (spaced (both (list_spells IsItem (item text).texts item_marks item_spells items w.0)
      (both (from_spells from w.1) (both (clause_spells kinds.Where refl condition w.2) (both (order_spells order w.3) (both (limit_spells limit w.4) (clause_spells kinds.Offset refl offset w.5)))))))))
      (λ i. refl)

  -- INSERT
  columns_spell : (o : Option (List (List ℕ))) → Maybe (SomeAre IsName) o → Exactly Ends text (grammar.columns text).texts (columns_marks o) o
  columns_spell None w = right _ (none None)
  columns_spell (Some zs) w = left _ (exactly (Some zs) (valued (λ (ys : List (List ℕ)). Some ys) (spaced (enclosing Begins refl (names_spell text zs w)))) (λ i. refl))

  row_spells : (ts : Trees) → AreValues ts → Exactly Begins text (grammar.row text).texts (row_marks ts) ts
  row_spells ts w = exactly ts (valued list_of_trees (enclosing Begins refl (trees_spell text ts w))) (λ i. list_back ts)

  insert_spells : (z : List ℕ) (o : Option (List (List ℕ))) (rs : List Trees) → IsRowStatement (inserts z o rs) → Exactly Begins text (grammar.insert text).texts (row_statement_marks (inserts z o rs)) (inserts z o rs)
  insert_spells z o rs w =
      exactly (inserts z o rs)
      (valued grammar.insert_value (behind kinds.Insert refl (spaced (behind kinds.Into refl (spaced (both (plain_name_spells text z w.0) (both (columns_spell o w.1)
      (spaced (behind kinds.Values refl (spaced (list_spells AreValues (grammar.row text).texts row_marks row_spells rs w.2)))))))))))
      (λ i. refl)

  -- UPDATE
  assignment_spells : (x : Setting) → IsAssignment x → Exactly Begins text (grammar.assignment text).texts (setting_marks x) x
  assignment_spells x w = exactly x (both (name_but_spells text x.0 w.0 kinds.Set) (spaced (behind_equal (tree_spells text x.1 w.1)))) (λ i. refl)

  settings_spell : (xs : List Setting) → SomeAre IsAssignment xs → Exactly Begins text (commas (grammar.assignment text)).texts (parts setting_marks xs) xs
  settings_spell xs w = list_spells IsAssignment (grammar.assignment text).texts setting_marks assignment_spells xs w

  update_by : (z : List ℕ) (alias : Option (List ℕ)) (xs : List Setting) (c : Option Tree) → IsName z → Maybe IsName alias → SomeAre IsAssignment xs → Maybe IsExpression c →
      Exactly Begins text (grammar.update text).texts (row_statement_marks (updates (record { name = z; alias = alias }) xs c)) (updates (record { name = z; alias = alias }) xs c)
  update_by z None xs c n m w v =
      exactly (updates (record { name = z; alias = None }) xs c)
      (valued grammar.update_value (both (behind kinds.Update refl (spaced (both (plain_name_spells text z n) (both (set_alias None m) (spaced (behind kinds.Set refl (spaced (settings_spell xs w)))))))) (clause_spells kinds.Where refl c v)))
      (λ i. refl)
  update_by z (Some y) xs c n m w v =
      exactly (updates (record { name = z; alias = Some y }) xs c)
      (valued grammar.update_value (both (behind kinds.Update refl (spaced (both (plain_name_spells text z n) (both (set_alias (Some y) m) (spaced (behind kinds.Set refl (spaced (settings_spell xs w)))))))) (clause_spells kinds.Where refl c v)))
      (λ i. refl)

  -- DELETE
  delete_spells : (t : NamedTable) (c : Option Tree) → IsTable t → Maybe IsExpression c → Exactly Begins text (grammar.delete text).texts (row_statement_marks (deletes t c)) (deletes t c)
  delete_spells t c w v =
      exactly (deletes t c) (valued grammar.delete_value (behind kinds.Delete refl (spaced (behind kinds.From refl (spaced (both (table_spells t w) (clause_spells kinds.Where refl c v))))))) (λ i. refl)

  row_statement_spells : (s : RowTree) → IsRowStatement s → Exactly Begins text (grammar.row_statement text).texts (row_statement_marks s) s
  row_statement_spells (selects s) w = left _ (exactly (selects s) (valued selects (select_spells s w)) (λ i. refl))
  row_statement_spells (inserts z o rs) w = right _ (left _ (insert_spells z o rs w))
  row_statement_spells (updates t xs c) w = right _ (right _ (left _ (update_by t.name t.alias xs c w.0.0 w.0.1 w.1 w.2)))
  row_statement_spells (deletes t c) w = right _ (right _ (right _ (delete_spells t c w.0 w.1)))

  -- PREPARE
  kinds_spell : (zs : List (List ℕ)) → Each IsName zs → Exactly Ends text (grammar.kinds text).texts (kinds_marks zs) zs
  kinds_spell [] w = right _ (none [])
  kinds_spell (z ∷ zs) w = left _ (exactly (z ∷ zs) (spaced (enclosing Begins refl (names_spell text (z ∷ zs) w))) (λ i. refl))

  prepare_spells : (z : List ℕ) (zs : List (List ℕ)) (s : RowTree) → IsQuery (prepares z zs s) → Exactly Begins text (grammar.prepare text).texts (query_marks (prepares z zs s)) (prepares z zs s)
  prepare_spells z zs s w =
      exactly (prepares z zs s)
      (valued grammar.prepare_value (behind kinds.Prepare refl (spaced (both (other_name_spells text z w.0 kinds.Transaction refl) (both (kinds_spell zs w.1) (spaced (behind kinds.As refl (spaced (row_statement_spells s w.2)))))))))
      (λ i. refl)

  -- EXECUTE
  arguments_spell : (ts : Trees) → Each IsExpression (list_of ts) → Exactly Ends text (grammar.arguments text).texts (argument_marks ts) ts
  arguments_spell no_more w = right _ (none no_more)
  arguments_spell (and_more t ts) w =
      left _ (exactly (and_more t ts) (valued list_of_trees (enclosing Ends opening_ends (trees_spell text (and_more t ts) w))) (λ i. list_back (and_more t ts)))

  execute_spells : (z : List ℕ) (ts : Trees) → IsName z → Each IsExpression (list_of ts) → Exactly Begins text (grammar.execute text).texts (execute_marks z ts) (z, ts)
  execute_spells z ts n w = exactly (z, ts) (behind kinds.Execute refl (spaced (both (plain_name_spells text z n) (arguments_spell ts w)))) (λ i. refl)

  -- EXPLAIN
  options_spell : (b : Bool) → Exactly Ends text grammar.options.texts (analyze_marks b) b
  options_spell true = left _ (exactly true (valued (λ (t : Token). true) (spaced (one_of kinds.Analyze refl (a kinds.Analyze) (λ i j. refl)))) (λ i. refl))
  options_spell false = right _ (right _ (none false))

  explain_spells : (b : Bool) (ms : List Mark) (q : QueryTree) → Exactly Begins text (grammar.explained text b).texts ms q → Exactly Begins text (grammar.explain text).texts (word kinds.Explain ∷ (analyze_marks b ++ blank ∷ ms)) q
  explain_spells b ms q h = exactly q (valued second_of (behind kinds.Explain refl (followed b (λ (c : Bool). (grammar.explained text c).texts) (options_spell b) (spaced h)))) (λ i. refl)

  -- every query
  pub query_spells : (q : QueryTree) → IsQuery q → Exactly Begins text (grammar.query text).texts (query_marks q) q
  query_spells (rows s) w = left _ (exactly (rows s) (valued rows (row_statement_spells s w)) (λ i. refl))
  query_spells (prepares z zs s) w = right _ (left _ (prepare_spells z zs s w))
  query_spells (executes z ts) w = right _ (right _ (left _ (exactly (executes z ts) (valued grammar.execute_value (execute_spells z ts w.0 w.1)) (λ i. refl))))
  query_spells (explains_select b s) w =
      right _ (right _ (right _ (explain_spells b (select_marks s) (explains_select b s) (left _ (exactly (explains_select b s) (valued (explains_select b) (select_spells s w)) (λ i. refl))))))
  query_spells (explains_execute b z ts) w =
      right _ (right _ (right _ (explain_spells b (execute_marks z ts) (explains_execute b z ts) (right _ (exactly (explains_execute b z ts) (valued (grammar.explain_execute_value b) (execute_spells z ts w.0 w.1)) (λ i. refl))))))
