-- What is written of a command spells it.
use Rattle.std.proofs.Common.{◌≡◌, ℕ, ◌≤◌, Bool, true, false, cond, not, ◌||◌, List, [], ◌∷◌, ◌++◌, length, Option, Some, None, refl, sym, ap, ◌∙◌, subst}
use Rattle.std.specs.Char.{to_ascii_lowercase}
use Rattle.std.specs.Prelude.{codes, map, nat_lt}
use Rattle.std.specs.Str.{bytes_eq}
use Rattle.std.proofs.lemmas.Slice.Eq.{bytes_eq-Decides}
use Rattle.grammar.specs.Reading.{one_texts, nothing_texts, both_texts, value_texts}
use Rattle.grammar.specs.Repeats.{second_of}
use Rattle.sql_tokens.specs.Contents.{bytes_of, name_in}
use Rattle.sql_tokens.specs.Words.{is, is_name}
use Rattle.sql_tokens.specs.declared.kind.TokenKind.{TokenKind}
use Rattle.sql_tokens.specs.declared.kind.TokenKind.TheVariants as kinds
use Rattle.sql_tokens.specs.declared.numbers.TheConstants.{NO_BIGINT}
use Rattle.sql_tokens.specs.declared.token.Token.{Token}
use Rattle.sql_tokens.proofs.EachKind.{each_kind}
use Rattle.sql_expressions.specs.Grammar.{expression}
use Rattle.sql_ast.specs.Expressions.{Tree, Trees, no_more, and_more, leaf, listed as list_of_trees}
use Rattle.sql_tokens.specs.Classes.{a, a_name}
use Rattle.sql_ast.specs.declared.leaf.Leaf.TheVariants.{Column}
use Rattle.sql_expressions.specs.declared.words.TheConstants.{MOST_NAME_BYTES}
use Rattle.grammar.specs.Words.{maybe}
use Rattle.sql_expressions.specs.Lists.{commas, name_word, plain_name}
use Rattle.sql_syntax.specs.CommandGrammar as grammar
use Rattle.sql_ast.specs.Commands.{Edge, min, max, at, Bound, range, listed, hash, other, CommandTree, begins, commits, rolls_back, sets, resets, makes_table, makes_partition, drops, attaches, detaches, locks, deallocates, deallocates_all}
use Rattle.sql_ast.specs.declared.detachment.Detachment.{Detachment}
use Rattle.sql_ast.specs.declared.detachment.Detachment.TheVariants as detachment
use Rattle.pg_values.specs.declared.isolation.Isolation.{Isolation}
use Rattle.pg_values.specs.declared.isolation.Isolation.TheVariants as isolation
use Rattle.pg_values.specs.declared.lock_mode.LockMode.{LockMode}
use Rattle.pg_values.specs.declared.lock_mode.LockMode.TheVariants as mode
use Rattle.sql_ast.specs.declared.setting_value.SettingValue.{SettingValue}
use Rattle.sql_ast.specs.declared.setting_value.SettingValue.TheVariants as setting
use Rattle.pg_values.specs.declared.strategy.Strategy.{Strategy}
use Rattle.pg_values.specs.declared.strategy.Strategy.TheVariants as strategy
use Rattle.sql_ast.specs.declared.table_definition.ColumnDefinition.{ColumnDefinition}
use Rattle.sql_ast.specs.declared.locked_table.LockedTable.{LockedTable}
use Rattle.sql_ast.specs.declared.table_definition.Partitioning.{Partitioning}
use Rattle.sql_written.specs.Marks.{Mark, blank, mark}
use Rattle.sql_written.specs.Spelling as spelled
use Rattle.sql_written.specs.Writable.{IsName, IsWritable as IsExpression}
use Rattle.sql_written.specs.Written as written
use Rattle.sql_written.proofs.Least.{implied}
use Rattle.sql_written.proofs.MarkTokens.{next_append}
use Rattle.sql_written.proofs.MarksApart.{Ends, digits_apart, digits_first}
use Rattle.sql_written.proofs.LeafTexts.{only}
use Rattle.sql_written.proofs.Said.{Are, token}
use Rattle.sql_written.specs.Commands.{bound_marks, column_marks, command_marks, detachment_marks, edge_marks, edges as edges_marks, exists_marks, hash_marks, is_end, isolation_marks, level_marks, locked_marks, maybe_by, by_marks, mode_marks, null_marks, only_marks, said_mode, setting_marks, setting_word, strategy_word, value_marks}
use Rattle.sql_written.specs.Lists.{Maybe, SomeAre, enclosed, list_of, name_marks, names, parts, values}
use Rattle.sql_written.specs.Words.{name_unless, word}
use Rattle.sql_written.specs.WritableCommands.{AreValues, IsBound, IsColumn, IsCommand, IsEdge, IsLocked, IsNumeral, IsPartitioning, IsSetting}
use Rattle.sql_written.proofs.EachWord.{is_written}
use Rattle.sql_written.proofs.Leaves.{NameToken, column_alone, column_read, name_there, number_spells, other_name_spells, plain_name_spells, string_spells, tree_read, tree_spells, unless_apart, unless_first, unless_token}
use Rattle.sql_written.proofs.Numerals.{digits_of}
use Rattle.sql_written.proofs.Spells.{Begins, Exactly, Spells, behind, behind_comma, behind_opening, both, closes, enclosing, ended, exactly, followed, left, listed as list_spells, missing, missing_first, none, one_of, right, spaced, valued}

pub equal_bytes : (x y : List ℕ) → bytes_eq x y ≡ true → x ≡ y
equal_bytes x y e = (bytes_eq-Decides x y).0 e

either_false : (b c : Bool) → (b || c) ≡ false → (b ≡ false) × (c ≡ false)
either_false true c h = cc
either_false false c h = (refl, h)

pub list_back : (ts : Trees) → list_of_trees (list_of ts) ≡ ts
list_back no_more = refl
list_back (and_more t ts) = ap (and_more t) (list_back ts)

-- MINVALUE and MAXVALUE may be names
end_named : (k : TokenKind) → (is k kinds.Minvalue || is k kinds.Maxvalue) ≡ true → is_name k ≡ true
end_named k h = implied (is k kinds.Minvalue || is k kinds.Maxvalue) (is_name k) (each_kind (λ j. not (is j kinds.Minvalue || is j kinds.Maxvalue) || is_name j) refl k) h

module _ (text : List ℕ) where
  -- BEGIN
  level_spells : (l : Isolation) → Exactly Begins text grammar.level.texts (level_marks l) l
  level_spells isolation.ReadCommitted =
      left _ (exactly isolation.ReadCommitted (behind kinds.Read refl (spaced (left _ (valued (λ t. isolation.ReadCommitted) (one_of kinds.Committed refl (a kinds.Committed) (λ i j. refl)))))) (λ i. refl))
  level_spells isolation.ReadUncommitted =
      left _ (exactly isolation.ReadUncommitted (behind kinds.Read refl (spaced (right _ (valued (λ t. isolation.ReadUncommitted) (one_of kinds.Uncommitted refl (a kinds.Uncommitted) (λ i j. refl)))))) (λ i. refl))
  level_spells isolation.RepeatableRead =
      right _ (exactly isolation.RepeatableRead (valued (λ t. isolation.RepeatableRead) (behind kinds.Repeatable refl (spaced (one_of kinds.Read refl (a kinds.Read) (λ i j. refl))))) (λ i. refl))

  isolation_spells : (o : Option Isolation) → Exactly Ends text grammar.isolation_level.texts (isolation_marks o) o
  isolation_spells None = right _ (none None)
  isolation_spells (Some l) = left _ (exactly (Some l) (valued Some (spaced (behind kinds.Isolation refl (spaced (behind kinds.Level refl (spaced (level_spells l))))))) (λ i. refl))

  noise_spells : Exactly Ends text grammar.noise.texts [] None
  noise_spells = right _ (none None)

  begin_spells : (o : Option Isolation) → Exactly Begins text grammar.begin.texts (command_marks (begins o)) (begins o)
  begin_spells o = exactly (begins o) (valued (λ (x : Option Token × Option Isolation). begins x.1) (both (left _ (behind kinds.Begin refl noise_spells)) (isolation_spells o))) (λ i. refl)

  -- COMMIT, ROLLBACK
  commit_spells : Exactly Begins text grammar.finish.texts (command_marks commits) commits
  commit_spells = exactly commits (valued grammar.finished (both (one_of kinds.Commit refl grammar.is_finish (λ i j. refl)) noise_spells)) (λ i. refl)

  rollback_spells : Exactly Begins text grammar.finish.texts (command_marks rolls_back) rolls_back
  rollback_spells = exactly rolls_back (valued grammar.finished (both (one_of kinds.Rollback refl grammar.is_finish (λ i j. refl)) noise_spells)) (λ i. refl)

  -- SET, RESET
  or_name : (z y : List ℕ) (b : Bool) (k : TokenKind) (m : Mark) → is_written k ≡ true → ((i j : ℕ) → grammar.is_setting_word (token k i j) ≡ true) → ((ts : List Token) → Are text ts (word k ∷ []) → (grammar.setting_word text).texts ts (setting.Word y)) → bytes_eq z y ≡ b →
      Exactly Begins text (grammar.setting_word text).texts (m ∷ []) (setting.Word z) → Exactly Begins text (grammar.setting_word text).texts (cond b (word k) m ∷ []) (setting.Word z)
  or_name z y false k m w c h e on = on
  or_name z y true k m w c h e on =
      let same : z ≡ y = equal_bytes z y e in
      record {
        reads = λ ts u. (tt, subst (λ (v : List ℕ). (grammar.setting_word text).texts ts (setting.Word v)) (sym same) (h ts u));
        apart = (one_of {text = text} k w grammar.is_setting_word c).apart;
        first = (one_of {text = text} k w grammar.is_setting_word c).first;
      }

  name_word_spells : (z : List ℕ) → IsName z → Exactly Begins text (grammar.setting_word text).texts (spelled.name z ∷ []) (setting.Word z)
  name_word_spells z w = record {
    reads = λ ts h.
        let t = name_there text z w ts h in
        let n = t.4 in
        (tt, (token t.0 t.1 t.2, (t.3, rw (n.named, n.short) refl), ap setting.Word (sym n.says)));
    apart = (plain_name_spells text z w).apart;
    first = (plain_name_spells text z w).first;
  }

  on_said : (ts : List Token) → Are text ts (word kinds.On ∷ []) → (grammar.setting_word text).texts ts (setting.Word (codes "on"))
  on_said ts h =
      let said : name_in text (token kinds.On h.0 h.1) ≡ codes "on" = ap (map to_ascii_lowercase) h.4 in
      (token kinds.On h.0 h.1, (only text kinds.On (codes "ON") ts h, refl), ap setting.Word (sym said))

  true_said : (ts : List Token) → Are text ts (word kinds.True ∷ []) → (grammar.setting_word text).texts ts (setting.Word (codes "true"))
  true_said ts h =
      let said : name_in text (token kinds.True h.0 h.1) ≡ codes "true" = ap (map to_ascii_lowercase) h.4 in
      (token kinds.True h.0 h.1, (only text kinds.True (codes "TRUE") ts h, refl), ap setting.Word (sym said))

  false_said : (ts : List Token) → Are text ts (word kinds.False ∷ []) → (grammar.setting_word text).texts ts (setting.Word (codes "false"))
  false_said ts h =
      let said : name_in text (token kinds.False h.0 h.1) ≡ codes "false" = ap (map to_ascii_lowercase) h.4 in
      (token kinds.False h.0 h.1, (only text kinds.False (codes "FALSE") ts h, refl), ap setting.Word (sym said))

  word_spells : (z : List ℕ) → IsName z → Exactly Begins text (grammar.setting_word text).texts (setting_word z ∷ []) (setting.Word z)
  word_spells z w =
      or_name z (codes "on") (bytes_eq z (codes "on")) kinds.On _ refl (λ i j. refl) on_said refl
      (or_name z (codes "true") (bytes_eq z (codes "true")) kinds.True _ refl (λ i j. refl) true_said refl
      (or_name z (codes "false") (bytes_eq z (codes "false")) kinds.False _ refl (λ i j. refl) false_said refl (name_word_spells z w)))

  numeral_spells : (z : List ℕ) → IsNumeral z → Exactly Begins text (grammar.setting_number text).texts (mark kinds.Number z ∷ []) (setting.Number z)
  numeral_spells z w = record {
    reads = λ ts h.
        let t = token kinds.Number h.0 h.1 in
        let said : grammar.without_zeros (bytes_of text t) ≡ z = ap grammar.without_zeros h.4 ∙ w.2 in
        (tt, (t, (only text kinds.Number z ts h, refl), ap setting.Number (sym said)));
    apart = λ n e. (digits_apart z n (digits_of z w) e.number, tt);
    first = λ n e. subst (λ b. Begins b) (sym (next_append z [] n)) (digits_first z n (digits_of z w)).0;
  }

  value_spells : (v : SettingValue) → IsSetting v → Exactly Begins text (grammar.setting_value text).texts (setting_marks v) v
  value_spells (setting.Word z) w = left _ (word_spells z w)
  value_spells (setting.Text z) w = right _ (left _ (exactly (setting.Text z) (valued setting.Text (string_spells text z w)) (λ i. refl)))
  value_spells (setting.Number z) w = right _ (right _ (numeral_spells z w))

  set_spells : (z : List ℕ) (v : SettingValue) → IsName z → IsSetting v → Exactly Begins text (grammar.set text).texts (command_marks (sets z v)) (sets z v)
  set_spells z v n w =
      left _ (exactly (sets z v)
      (valued grammar.set_value (behind kinds.Set refl (spaced (both (other_name_spells text z n kinds.Local refl) (spaced (both (one_of kinds.To refl grammar.is_equal_or_to (λ i j. refl)) (spaced (value_spells v w))))))))
      (λ i. refl))

  reset_spells : (z : List ℕ) → IsName z → Exactly Begins text (grammar.set text).texts (command_marks (resets z)) (resets z)
  reset_spells z n = right _ (exactly (resets z) (valued resets (behind kinds.Reset refl (spaced (plain_name_spells text z n)))) (λ i. refl))

  -- PARTITION BY
  pub names_spell : (zs : List (List ℕ)) → SomeAre IsName zs → Exactly Begins text (commas (plain_name text)).texts (names zs) zs
  names_spell zs w = list_spells IsName (plain_name text).texts name_marks (λ z n. plain_name_spells text z n) zs w

  strategy_spells : (s : Strategy) → Exactly Begins text grammar.strategy_rule.texts (strategy_word s ∷ []) s
  strategy_spells strategy.Range = exactly strategy.Range (valued grammar.strategy_of (one_of kinds.Range refl grammar.is_strategy (λ i j. refl))) (λ i. refl)
  strategy_spells strategy.List = exactly strategy.List (valued grammar.strategy_of (one_of kinds.List refl grammar.is_strategy (λ i j. refl))) (λ i. refl)
  strategy_spells strategy.Hash = exactly strategy.Hash (valued grammar.strategy_of (one_of kinds.Hash refl grammar.is_strategy (λ i j. refl))) (λ i. refl)

  by_spells : (p : Partitioning) → IsPartitioning p → Exactly Begins text (grammar.by text).texts (by_marks p) p
  by_spells p w =
      exactly p
      (valued grammar.partitioning (behind kinds.Partition refl (spaced (behind kinds.By refl (spaced (both (strategy_spells p.strategy) (spaced (enclosing Begins refl (names_spell p.columns w)))))))))
      (λ i. refl)

  maybe_by_spells : (o : Option Partitioning) → Maybe IsPartitioning o → Exactly Ends text (grammar.maybe_by text).texts (maybe_by o) o
  maybe_by_spells None w = right _ (none None)
  maybe_by_spells (Some p) w = left _ (exactly (Some p) (valued Some (spaced (by_spells p w))) (λ i. refl))

  -- columns
  null_spells : (b : Bool) → Exactly Ends text grammar.null_or_not.texts (null_marks b) b
  null_spells true = left _ (exactly true (valued (λ t. true) (spaced (behind kinds.Not refl (spaced (one_of kinds.Null refl (a kinds.Null) (λ i j. refl)))))) (λ i. refl))
  null_spells false = right _ (right _ (none false))

  column_spells : (c : ColumnDefinition) → IsColumn c → Exactly Begins text (grammar.column text).texts (column_marks c) c
  column_spells c w = exactly c (valued grammar.column_value (both (plain_name_spells text c.name w.0) (spaced (both (plain_name_spells text c.kind w.1) (null_spells c.not_null))))) (λ i. refl)

  -- edges
  end_token : (k : TokenKind) (z : List ℕ) (i j : ℕ) → is_name k ≡ true → name_in text (token k i j) ≡ z → nat_lt MOST_NAME_BYTES (length z) ≡ false → NameToken text z (λ k. false) k i j
  end_token k z i j n e s = record { named = n; says = e; short = ap (λ y. nat_lt MOST_NAME_BYTES (length y)) e ∙ s; other = refl }

  min_read : (ts : List Token) → Are text ts (word kinds.Minvalue ∷ []) → (grammar.edge text).texts ts min
  min_read ts h =
      let t = end_token kinds.Minvalue (codes "minvalue") h.0 h.1 refl (ap (map to_ascii_lowercase) h.4) refl in
      subst (λ us. (grammar.edge text).texts us min) (sym (only text kinds.Minvalue (codes "MINVALUE") ts h))
      (leaf (Column (codes "minvalue")), column_read text (codes "minvalue") (λ k. false) kinds.Minvalue h.0 h.1 t, refl)

  max_read : (ts : List Token) → Are text ts (word kinds.Maxvalue ∷ []) → (grammar.edge text).texts ts max
  max_read ts h =
      let t = end_token kinds.Maxvalue (codes "maxvalue") h.0 h.1 refl (ap (map to_ascii_lowercase) h.4) refl in
      subst (λ us. (grammar.edge text).texts us max) (sym (only text kinds.Maxvalue (codes "MAXVALUE") ts h))
      (leaf (Column (codes "maxvalue")), column_read text (codes "maxvalue") (λ k. false) kinds.Maxvalue h.0 h.1 t, refl)

  no_end : (k : TokenKind) (i j : ℕ) (e : Tree) → is_end k ≡ false → grammar.word_or (token k i j) e ≡ at e
  no_end k i j e h =
      let n = either_false (is k kinds.Minvalue) (is k kinds.Maxvalue) h in
      rw (n.0, n.1) refl

  -- a column alone
  named_edge : (z : List ℕ) → IsName z → (ts : List Token) → Are text ts (name_unless is_end z ∷ []) → (grammar.edge text).texts ts (at (leaf (Column z)))
  named_edge z w ts h =
      let t = unless_token text z w is_end refl ts h in
      let n = t.4 in
      subst (λ us. (grammar.edge text).texts us (at (leaf (Column z)))) (sym t.3)
      (leaf (Column z), column_read text z is_end t.0 t.1 t.2 n, sym (no_end t.0 t.1 t.2 (leaf (Column z)) n.other))

  -- any other expression
  stays_by : (k : TokenKind) (i j : ℕ) (e : Tree) (b : Bool) → is_end k ≡ b → ((z : List ℕ) → leaf (Column z) ≡ e → ⊥) → (expression text).texts (token k i j ∷ []) e → at e ≡ grammar.word_or (token k i j) e
  stays_by k i j e true m no_column h = absurd (no_column (name_in text (token k i j)) (column_alone text e k i j (end_named k m) h))
  stays_by k i j e false m no_column h = sym (no_end k i j e m)

  stays : (ts : List Token) (e : Tree) → ((z : List ℕ) → leaf (Column z) ≡ e → ⊥) → (expression text).texts ts e → at e ≡ grammar.edge_of ts e
  stays [] e no_column h = refl
  stays (t ∷ u ∷ ts) e no_column h = refl
  stays (t ∷ []) e no_column h = stays_by t.kind t.start t.end e (is_end t.kind) refl no_column h

  other_edge : (e : Tree) → IsExpression e → ((z : List ℕ) → leaf (Column z) ≡ e → ⊥) → Exactly Begins text (grammar.edge text).texts (written.marks e) (at e)
  other_edge e w no_column = record {
    reads = λ ts h. let r = tree_read text e w ts h in (tt, (e, r, stays ts e no_column r));
    apart = (tree_spells text e w).apart;
    first = (tree_spells text e w).first;
  }

  at_spells : (e : Tree) → IsExpression e → Exactly Begins text (grammar.edge text).texts (value_marks e) (at e)
  at_spells (leaf (Column z)) w = record {
    reads = λ ts h. (tt, named_edge z w.0 ts h);
    apart = λ n i. (unless_apart text z w.0 is_end refl n i, tt);
    first = λ n i. unless_first text z w.0 is_end refl n;
  }
  at_spells e w = other_edge e w (λ z i. cc)

  edge_spells : (e : Edge) → IsEdge e → Exactly Begins text (grammar.edge text).texts (edge_marks e) e
  edge_spells min w = record { reads = λ ts h. (tt, min_read ts h); apart = (one_of {text = text} kinds.Minvalue refl a_name (λ i j. refl)).apart; first = (one_of {text = text} kinds.Minvalue refl a_name (λ i j. refl)).first }
  edge_spells max w = record { reads = λ ts h. (tt, max_read ts h); apart = (one_of {text = text} kinds.Maxvalue refl a_name (λ i j. refl)).apart; first = (one_of {text = text} kinds.Maxvalue refl a_name (λ i j. refl)).first }
  edge_spells (at e) w = at_spells e w

  -- bounds
  edges_spell : (es : List Edge) → SomeAre IsEdge es → Exactly Begins text (grammar.edges text).texts (edges_marks es) es
  edges_spell es w = exactly es (enclosing Begins refl (list_spells IsEdge (grammar.edge text).texts edge_marks edge_spells es w)) (λ i. refl)

  pub trees_spell : (ts : Trees) → AreValues ts → Exactly Begins text (commas (expression text)).texts (values ts) (list_of ts)
  trees_spell ts w = list_spells IsExpression (expression text).texts written.marks (λ e v. tree_spells text e v) (list_of ts) w

  hash_spells : (m r : ℕ) → m ≤ NO_BIGINT → r ≤ NO_BIGINT → Exactly Begins text (grammar.hash_bound text).texts (word kinds.With ∷ blank ∷ hash_marks m r) (hash m r)
  hash_spells m r v w =
      exactly (hash m r)
      (valued grammar.hash_value (behind kinds.With refl (spaced (behind_opening Begins refl (behind kinds.Modulus refl (spaced (both (number_spells text m v)
      (behind_comma (spaced (behind kinds.Remainder refl (spaced (valued (λ (x : ℕ × Token). x.0) (both (number_spells text r w) closes)))))))))))))
      (λ i. refl)

  values_bound_spells : (b : Bound) (ms : List Mark) → bound_marks b ≡ word kinds.For ∷ blank ∷ word kinds.Values ∷ blank ∷ ms → Exactly Begins text (grammar.values_bound text).texts ms b → Exactly Begins text (grammar.bound text).texts (bound_marks b) b
  values_bound_spells b ms e h = subst (λ xs. Exactly Begins text (grammar.bound text).texts xs b) (sym e) (left _ (behind kinds.For refl (spaced (behind kinds.Values refl (spaced h)))))

  bound_spells : (b : Bound) → IsBound b → Exactly Begins text (grammar.bound text).texts (bound_marks b) b
  bound_spells (range from to) w =
      values_bound_spells (range from to) _ refl
      (left _ (exactly (range from to) (valued grammar.range_value (behind kinds.From refl (spaced (both (edges_spell from w.0) (spaced (behind kinds.To refl (spaced (edges_spell to w.1)))))))) (λ i. refl)))
  bound_spells (listed ts) w =
      values_bound_spells (listed ts) _ refl
      (right _ (left _ (exactly (listed ts) (valued grammar.list_value (behind kinds.In refl (spaced (enclosing Begins refl (trees_spell ts w))))) (λ i. ap listed (list_back ts)))))
  bound_spells (hash m r) w = values_bound_spells (hash m r) _ refl (right _ (right _ (hash_spells m r w.0 w.1)))
  bound_spells other w = right _ (exactly other (valued (λ t. other) (one_of kinds.Default refl (a kinds.Default) (λ i j. refl))) (λ i. refl))

  -- CREATE TABLE
  create_spells : (z : List ℕ) → IsName z → (ms : List Mark) (c : CommandTree) → Exactly Begins text (grammar.made text z).texts ms c →
      Exactly Begins text (grammar.create text).texts (word kinds.Create ∷ blank ∷ word kinds.Table ∷ blank ∷ spelled.name z ∷ blank ∷ ms) c
  create_spells z n ms c h =
      exactly c
      (valued second_of (behind kinds.Create refl (spaced (behind kinds.Table refl (spaced (followed z (λ (y : List ℕ). (grammar.made text y).texts) (plain_name_spells text z n) (spaced h)))))))
      (λ i. refl)

  columns_spell : (cs : List ColumnDefinition) → SomeAre IsColumn cs → Exactly Begins text (commas (grammar.column text)).texts (parts column_marks cs) cs
  columns_spell cs w = list_spells IsColumn (grammar.column text).texts column_marks column_spells cs w

  table_spells : (z : List ℕ) (cs : List ColumnDefinition) (o : Option Partitioning) → SomeAre IsColumn cs → Maybe IsPartitioning o →
      Exactly Begins text (grammar.made text z).texts (enclosed (parts column_marks cs) ++ maybe_by o) (makes_table z cs o)
  table_spells z cs o w v = left _ (exactly (makes_table z cs o) (valued (grammar.table_value z) (both (enclosing Begins refl (columns_spell cs w)) (maybe_by_spells o v))) (λ i. refl))

  partition_spells : (z p : List ℕ) (b : Bound) (o : Option Partitioning) → IsName p → IsBound b → Maybe IsPartitioning o →
      Exactly Begins text (grammar.made text z).texts (word kinds.Partition ∷ blank ∷ word kinds.Of ∷ blank ∷ spelled.name p ∷ blank ∷ (bound_marks b ++ maybe_by o)) (makes_partition z p b o)
  partition_spells z p b o n w v =
      right _ (exactly (makes_partition z p b o)
      (valued (grammar.partition_value z) (behind kinds.Partition refl (spaced (behind kinds.Of refl (spaced (both (plain_name_spells text p n) (spaced (both (bound_spells b w) (maybe_by_spells o v)))))))))
      (λ i. refl))

  -- DROP TABLE
  if_spells : Spells Begins text (name_word text kinds.If).texts (word kinds.If ∷ []) (λ (i : ℕ × ℕ). token kinds.If i.0 i.1)
  if_spells = record {
    reads = λ ts h.
        let t = end_token kinds.If (codes "if") h.0 h.1 refl (ap (map to_ascii_lowercase) h.4) refl in
        ((h.0, h.1), (only text kinds.If (codes "IF") ts h, rw (t.named, t.short) refl));
    apart = (one_of {text = text} kinds.If refl a_name (λ i j. refl)).apart;
    first = (one_of {text = text} kinds.If refl a_name (λ i j. refl)).first;
  }

  dropped_spells : (b : Bool) (zs : List (List ℕ)) → SomeAre IsName zs → Exactly Begins text (grammar.dropped text).texts (exists_marks b (names zs)) (b, zs)
  dropped_spells true zs w =
      exactly (true, zs)
      (both (left (nothing_texts false) (valued (λ (x : Token × Token). true) (both if_spells (spaced (one_of kinds.Exists refl (a kinds.Exists) (λ i j. refl)))))) (spaced (names_spell zs w)))
      (λ i. refl)
  dropped_spells false zs w = exactly (false, zs) (missing _ false (names_spell zs w)) (λ i. refl)

  no_behavior : Exactly Ends text (maybe grammar.is_behavior).texts [] None
  no_behavior = right _ (none None)

  drop_spells : (b : Bool) (zs : List (List ℕ)) → SomeAre IsName zs → Exactly Begins text (grammar.drop_tables text).texts (command_marks (drops b zs)) (drops b zs)
  drop_spells b zs w =
      exactly (drops b zs)
      (valued grammar.drop_tree (behind kinds.Drop refl (spaced (behind kinds.Table refl (spaced (ended (exists_marks b (names zs)) (both (dropped_spells b zs w) no_behavior)))))))
      (λ i. refl)

  -- ALTER TABLE
  alter_spells : (p : List ℕ) → IsName p → (ms : List Mark) (c : CommandTree) → Exactly Begins text (grammar.altered text p).texts ms c →
      Exactly Begins text (grammar.alter text).texts (word kinds.Alter ∷ blank ∷ word kinds.Table ∷ blank ∷ spelled.name p ∷ blank ∷ ms) c
  alter_spells p n ms c h =
      exactly c
      (valued second_of (behind kinds.Alter refl (spaced (behind kinds.Table refl (spaced (followed p (λ (y : List ℕ). (grammar.altered text y).texts) (plain_name_spells text p n) (spaced h)))))))
      (λ i. refl)

  attach_spells : (p z : List ℕ) (b : Bound) → IsName z → IsBound b →
      Exactly Begins text (grammar.altered text p).texts (word kinds.Attach ∷ blank ∷ word kinds.Partition ∷ blank ∷ spelled.name z ∷ blank ∷ bound_marks b) (attaches p z b)
  attach_spells p z b n w =
      left _ (exactly (attaches p z b)
      (valued (grammar.attach_value p) (behind kinds.Attach refl (spaced (behind kinds.Partition refl (spaced (both (plain_name_spells text z n) (spaced (bound_spells b w))))))))
      (λ i. refl))

  detached : {I : Type 0} {g : I → Option Token} (p z : List ℕ) (d : Detachment) → IsName z → Spells Ends text (maybe grammar.is_detachment).texts (detachment_marks d) g → ((i : I) → grammar.detachment_of (g i) ≡ d) →
      Exactly Begins text (grammar.altered text p).texts (word kinds.Detach ∷ blank ∷ word kinds.Partition ∷ blank ∷ spelled.name z ∷ detachment_marks d) (detaches p z d)
  detached p z d n h e =
      right _ (exactly (detaches p z d)
      (valued (grammar.detach_value p) (behind kinds.Detach refl (spaced (behind kinds.Partition refl (spaced (both (plain_name_spells text z n) h))))))
      (λ i. ap (detaches p z) (e i.1)))

  detach_spells : (p z : List ℕ) (d : Detachment) → IsName z →
      Exactly Begins text (grammar.altered text p).texts (word kinds.Detach ∷ blank ∷ word kinds.Partition ∷ blank ∷ spelled.name z ∷ detachment_marks d) (detaches p z d)
  detach_spells p z detachment.AtOnce n = detached p z detachment.AtOnce n (right (value_texts Some (one_texts grammar.is_detachment)) (none None)) (λ i. refl)
  detach_spells p z detachment.Concurrently n =
      detached p z detachment.Concurrently n (left (nothing_texts None) (valued (λ (t : Token). Some t) (spaced (one_of kinds.Concurrently refl grammar.is_detachment (λ i j. refl))))) (λ i. refl)
  detach_spells p z detachment.Finalize n =
      detached p z detachment.Finalize n (left (nothing_texts None) (valued (λ (t : Token). Some t) (spaced (one_of kinds.Finalize refl grammar.is_detachment (λ i j. refl))))) (λ i. refl)

  -- LOCK
  only_spells : Spells Begins text (maybe (a kinds.Only)).texts (word kinds.Only ∷ []) (λ (i : ℕ × ℕ). Some (token kinds.Only i.0 i.1))
  only_spells = left (nothing_texts None) (valued (λ (t : Token). Some t) (one_of kinds.Only refl (a kinds.Only) (λ i j. refl)))

  locked_by : (b : Bool) (z : List ℕ) → IsName z → Exactly Begins text (grammar.locked text).texts (only_marks b (name_marks z)) (record { only = b; name = z })
  locked_by true z n = exactly (record { only = true; name = z }) (valued grammar.locked_value (both only_spells (spaced (plain_name_spells text z n)))) (λ i. refl)
  locked_by false z n = exactly (record { only = false; name = z }) (valued grammar.locked_value (missing _ None (plain_name_spells text z n))) (λ i. refl)

  locked_spells : (t : LockedTable) → IsLocked t → Exactly Begins text (grammar.locked text).texts (locked_marks t) t
  locked_spells t w = locked_by t.only t.name w

  mode_said : (m : LockMode) (ms : List Mark) → Exactly Begins text grammar.lock_mode.texts ms m → Exactly Ends text grammar.maybe_mode.texts (said_mode ms) m
  mode_said m ms h =
      left _ (exactly m (spaced (behind kinds.In refl (spaced (valued (λ (x : LockMode × Token). x.0) (both h (spaced (one_of kinds.Mode refl (a kinds.Mode) (λ i j. refl)))))))) (λ i. refl))

  share_spells : (s e : LockMode) → Exactly Begins text (grammar.share_or_exclusive s e).texts (word kinds.Share ∷ []) s
  share_spells s e = exactly s (valued (grammar.shared_or s e) (one_of kinds.Share refl grammar.is_share_or_exclusive (λ i j. refl))) (λ i. refl)

  exclusive_spells : (s e : LockMode) → Exactly Begins text (grammar.share_or_exclusive s e).texts (word kinds.Exclusive ∷ []) e
  exclusive_spells s e = exactly e (valued (grammar.shared_or s e) (one_of kinds.Exclusive refl grammar.is_share_or_exclusive (λ i j. refl))) (λ i. refl)

  share_of : (k : TokenKind) → is_written k ≡ true → (m : LockMode) → Exactly Begins text (value_texts (λ (t : Token). m) (value_texts (λ (x : Token × Token). x.1) (both_texts (one_texts (a k)) (one_texts (a kinds.Exclusive))))) (word k ∷ blank ∷ word kinds.Exclusive ∷ []) m
  share_of k e m = exactly m (valued (λ (t : Token). m) (behind k e (spaced (one_of kinds.Exclusive refl (a kinds.Exclusive) (λ i j. refl))))) (λ i. refl)

  mode_spells : (m : LockMode) → Exactly Ends text grammar.maybe_mode.texts (mode_marks m) m
  mode_spells mode.AccessShare = mode_said mode.AccessShare _ (left _ (behind kinds.Access refl (spaced (share_spells mode.AccessShare mode.AccessExclusive))))
  mode_spells mode.RowShare = mode_said mode.RowShare _ (right _ (left _ (behind kinds.Row refl (spaced (share_spells mode.RowShare mode.RowExclusive)))))
  mode_spells mode.RowExclusive = mode_said mode.RowExclusive _ (right _ (left _ (behind kinds.Row refl (spaced (exclusive_spells mode.RowShare mode.RowExclusive)))))
  mode_spells mode.ShareUpdateExclusive =
      mode_said mode.ShareUpdateExclusive _ (right _ (right _ (left _ (behind kinds.Share refl (spaced (left _ (share_of kinds.Update refl mode.ShareUpdateExclusive)))))))
  mode_spells mode.Share = mode_said mode.Share _ (right _ (right _ (left _ (behind kinds.Share refl (right _ (right _ (none mode.Share)))))))
  mode_spells mode.ShareRowExclusive =
      mode_said mode.ShareRowExclusive _ (right _ (right _ (left _ (behind kinds.Share refl (spaced (right _ (left _ (share_of kinds.Row refl mode.ShareRowExclusive))))))))
  mode_spells mode.Exclusive =
      mode_said mode.Exclusive _ (right _ (right _ (right _ (exactly mode.Exclusive (valued (λ (t : Token). mode.Exclusive) (one_of kinds.Exclusive refl (a kinds.Exclusive) (λ i j. refl))) (λ i. refl)))))
  mode_spells mode.AccessExclusive = right _ (none mode.AccessExclusive)

  table_word : Spells Begins text (maybe (a kinds.Table)).texts (word kinds.Table ∷ []) (λ (i : ℕ × ℕ). Some (token kinds.Table i.0 i.1))
  table_word = left (nothing_texts None) (valued (λ (t : Token). Some t) (one_of kinds.Table refl (a kinds.Table) (λ i j. refl)))

  lock_spells : (ts : List LockedTable) (m : LockMode) → SomeAre IsLocked ts → Exactly Begins text (grammar.lock text).texts (command_marks (locks ts m)) (locks ts m)
  lock_spells ts m w =
      exactly (locks ts m)
      (valued grammar.lock_value (behind kinds.Lock refl (spaced (both table_word (spaced (both (list_spells IsLocked (grammar.locked text).texts locked_marks locked_spells ts w) (mode_spells m)))))))
      (λ i. refl)

  -- DEALLOCATE
  deallocate_spells : (z : List ℕ) → IsName z → Exactly Begins text (grammar.deallocate text).texts (command_marks (deallocates z)) (deallocates z)
  deallocate_spells z n =
      exactly (deallocates z)
      (behind kinds.Deallocate refl (spaced (valued second_of (missing_first _ None (λ (o : Option Token). (grammar.all_or_name text o).texts)
      (right (value_texts (λ (t : Token). deallocates_all) (one_texts (a kinds.All))) (valued deallocates (plain_name_spells text z n)))))))
      (λ i. refl)

  deallocate_all_spells : Exactly Begins text (grammar.deallocate text).texts (command_marks deallocates_all) deallocates_all
  deallocate_all_spells =
      exactly deallocates_all
      (behind kinds.Deallocate refl (spaced (valued second_of (missing_first _ None (λ (o : Option Token). (grammar.all_or_name text o).texts)
      (left (value_texts deallocates (plain_name text).texts) (valued (λ (t : Token). deallocates_all) (one_of kinds.All refl (a kinds.All) (λ i j. refl))))))))
      (λ i. refl)

  -- every command
  pub command_spells : (c : CommandTree) → IsCommand c → Exactly Begins text (grammar.command text).texts (command_marks c) c
  command_spells (begins o) w = left _ (begin_spells o)
  command_spells commits w = right _ (left _ commit_spells)
  command_spells rolls_back w = right _ (left _ rollback_spells)
  command_spells (sets z v) w = right _ (right _ (left _ (set_spells z v w.0 w.1)))
  command_spells (resets z) w = right _ (right _ (left _ (reset_spells z w)))
  command_spells (makes_table z cs o) w = right _ (right _ (right _ (left _ (create_spells z w.0 _ (makes_table z cs o) (table_spells z cs o w.1 w.2)))))
  command_spells (makes_partition z p b o) w = right _ (right _ (right _ (left _ (create_spells z w.0 _ (makes_partition z p b o) (partition_spells z p b o w.1 w.2 w.3)))))
  command_spells (drops b zs) w = right _ (right _ (right _ (right _ (left _ (drop_spells b zs w)))))
  command_spells (attaches p z b) w = right _ (right _ (right _ (right _ (right _ (left _ (alter_spells p w.0 _ (attaches p z b) (attach_spells p z b w.1 w.2)))))))
  command_spells (detaches p z d) w = right _ (right _ (right _ (right _ (right _ (left _ (alter_spells p w.0 _ (detaches p z d) (detach_spells p z d w.1)))))))
  command_spells (locks ts m) w = right _ (right _ (right _ (right _ (right _ (right _ (left _ (lock_spells ts m w)))))))
  command_spells (deallocates z) w = right _ (right _ (right _ (right _ (right _ (right _ (right _ (deallocate_spells z w)))))))
  command_spells deallocates_all w = right _ (right _ (right _ (right _ (right _ (right _ (right _ deallocate_all_spells))))))
