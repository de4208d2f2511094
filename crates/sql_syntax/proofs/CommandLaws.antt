-- Each production keeps the law: one token of look-ahead decides how its texts are read.
use Rattle.std.proofs.Common.{◌≡◌, ℕ, Bool, true, false, ◌&&◌, ◌||◌, List, [], ◌∷◌, None, refl}
use Rattle.grammar.specs.Reading.{Class, one, as_value}
use Rattle.grammar.specs.Repeats.{second_of}
use Rattle.grammar.proofs.Laws.{Law, Within}
use Rattle.grammar.proofs.Chain.{none}
use Rattle.grammar.proofs.Build.{token, empty, valued, wide, seq, then_by, alt, opt, after_token, before_token, more}
use Rattle.sql_tokens.specs.Contents.{bytes_of, name_in}
use Rattle.sql_tokens.specs.Words as words
use Rattle.sql_tokens.specs.declared.kind.TokenKind.TheVariants as word
use Rattle.sql_tokens.specs.declared.token.Token.{Token}
use Rattle.sql_expressions.specs.Grammar.{expression}
use Rattle.sql_expressions.specs.Levels.{begins_expression}
use Rattle.grammar.specs.Words.{◌>>◌, one_of, means, snoc}
use Rattle.sql_tokens.specs.Classes.{a, a_name}
use Rattle.sql_expressions.specs.Words.{either_if, is_long_name}
use Rattle.sql_expressions.proofs.LevelLaws.{after_expression}
use Rattle.sql_expressions.proofs.RuleLaws.{expression_law}
use Rattle.sql_expressions.proofs.WordLaws.{sample, apart, within, no_longer_law, name_law, string_law}
use Rattle.sql_ast.specs.Commands.{resets, deallocates, deallocates_all, other}
use Rattle.grammar.proofs.WordLaws.{means_law, maybe_law}
use Rattle.sql_expressions.proofs.ListLaws.{in_law, commas_law, plain_name_law, number_law, other_name_law}
use Rattle.sql_expressions.specs.Lists as lists
use Rattle.sql_syntax.specs.CommandGrammar as grammar
use Rattle.pg_values.specs.declared.isolation.Isolation.TheVariants as isolation
use Rattle.sql_ast.specs.declared.setting_value.SettingValue.TheVariants as setting
use Rattle.pg_values.specs.declared.lock_mode.LockMode.{LockMode}
use Rattle.pg_values.specs.declared.lock_mode.LockMode.TheVariants as mode
use Rattle.sql_syntax.proofs.NameFirst.{dropped_texts, dropped_free, prepared_texts, prepared_free, read_as_law}
use Rattle.sql_syntax.proofs.TextLaws.{by_text_law}

-- begin, finish
begin_words_law : Law grammar.begin_words grammar.begins_begin false grammar.is_noise
begin_words_law =
    wide
    (alt (a word.Begin) (after_token (a word.Begin) (sample word.Begin) refl (maybe_law grammar.is_noise (sample word.Work) refl)) (λ k h. h)
    (means_law None (after_token (a word.Start) (sample word.Start) refl (token (a word.Transaction) (sample word.Transaction) refl))) (apart _ _ (λ t. refl) refl))
    (within _ _ (λ t. refl) refl) (within _ _ (λ t. refl) refl)

committed_law : Law grammar.committed_or_not (one_of (a word.Committed) (a word.Uncommitted)) false none
committed_law =
    wide
    (alt (a word.Committed) (means_law isolation.ReadCommitted (token (a word.Committed) (sample word.Committed) refl)) (λ k h. h)
    (means_law isolation.ReadUncommitted (token (a word.Uncommitted) (sample word.Uncommitted) refl)) (apart _ _ (λ t. refl) refl))
    (within _ _ (λ t. refl) refl) (within _ _ (λ t. refl) refl)

level_law : Law grammar.level (one_of (a word.Read) (a word.Repeatable)) false none
level_law =
    wide
    (alt (a word.Read) (after_token (a word.Read) (sample word.Read) refl committed_law) (λ k h. h)
    (means_law isolation.RepeatableRead (after_token (a word.Repeatable) (sample word.Repeatable) refl (token (a word.Read) (sample word.Read) refl))) (apart _ _ (λ t. refl) refl))
    (within _ _ (λ t. refl) refl) (within _ _ (λ t. refl) refl)

isolation_level_law : Law grammar.isolation_level (a word.Isolation) true (a word.Isolation)
isolation_level_law =
    wide (opt (after_token (a word.Isolation) (sample word.Isolation) refl (after_token (a word.Level) (sample word.Level) refl level_law)))
    (λ k h. h) (within _ _ (λ t. refl) refl)

-- what may go on behind BEGIN
abbrev pub after_begin : Class Token
after_begin t = grammar.is_noise t || a word.Isolation t

begin_law : Law grammar.begin grammar.begins_begin false after_begin
begin_law = wide (valued _ (seq begin_words_law isolation_level_law (apart _ _ (λ t. refl) refl))) (within _ _ (λ t. refl) refl) (within _ _ (λ t. refl) refl)

finish_law : Law grammar.finish grammar.is_finish false grammar.is_noise
finish_law =
    wide (valued grammar.finished (seq (token grammar.is_finish (sample word.Commit) refl) (maybe_law grammar.is_noise (sample word.Work) refl) (λ k h. refl)))
    (within _ _ (λ t. refl) refl) (within _ _ (λ t. refl) refl)

-- set
pub setting_value_law : (text : List ℕ) → Law (grammar.setting_value text) (λ t. grammar.is_setting_word t || (a word.Text t || a word.Number t)) false none
setting_value_law text =
    wide
    (alt grammar.is_setting_word
    (valued (λ (t : Token). setting.Word (name_in text t)) (no_longer_law grammar.is_setting_word (is_long_name text) (λ t h. name_is_word t (first_true (a_name t) _ h)) (sample word.Name) refl)) (λ k h. h)
    (alt (a word.Text) (valued setting.Text (string_law text)) (λ k h. h)
    (valued (λ (t : Token). setting.Number (grammar.without_zeros (bytes_of text t))) (token (a word.Number) (sample word.Number) refl)) (apart _ _ (λ t. refl) refl))
    (apart _ _ (λ t. refl) refl))
    (within _ _ (λ t. refl) refl) (within _ _ (λ t. refl) refl)
  where
    first_true : (b d : Bool) → (b && d) ≡ true → b ≡ true
    first_true true d h = refl
    first_true false d h = cc

    name_is_word : Within a_name grammar.is_setting_word
    name_is_word = within a_name grammar.is_setting_word (λ t. refl) refl

set_law : (text : List ℕ) → Law (grammar.set text) grammar.begins_set false none
set_law text =
    wide
    (alt (a word.Set)
    (valued grammar.set_value (after_token (a word.Set) (sample word.Set) refl
    (seq (other_name_law text word.Local refl) (seq (token grammar.is_equal_or_to (sample word.Equal) refl) (setting_value_law text) (λ k h. refl)) (λ k h. refl)))) (λ k h. h)
    (valued resets (after_token (a word.Reset) (sample word.Reset) refl (plain_name_law text))) (apart _ _ (λ t. refl) refl))
    (within _ _ (λ t. refl) refl) (within _ _ (λ t. refl) refl)

-- create
by_law : (text : List ℕ) → Law (grammar.by text) (a word.Partition) false none
by_law text =
    valued grammar.partitioning (after_token (a word.Partition) (sample word.Partition) refl (after_token (a word.By) (sample word.By) refl
    (seq (valued grammar.strategy_of (token grammar.is_strategy (sample word.Range) refl)) (in_law (commas_law (plain_name_law text) (λ k h. refl)) (apart _ _ (λ t. refl) refl)) (λ k h. refl))))

maybe_by_law : (text : List ℕ) → Law (grammar.maybe_by text) (a word.Partition) true (a word.Partition)
maybe_by_law text = wide (opt (by_law text)) (λ k h. h) (λ k h. h)

null_or_not_law : Law grammar.null_or_not (one_of (a word.Not) (a word.Null)) true (one_of (a word.Not) (a word.Null))
null_or_not_law =
    wide
    (alt (a word.Not) (means_law true (after_token (a word.Not) (sample word.Not) refl (token (a word.Null) (sample word.Null) refl))) (λ k h. h)
    (alt (a word.Null) (means_law false (token (a word.Null) (sample word.Null) refl)) (λ k h. h) (empty false) (λ k h. refl))
    (apart _ _ (λ t. refl) refl))
    (within _ _ (λ t. refl) refl) (within _ _ (λ t. refl) refl)

column_law : (text : List ℕ) → Law (grammar.column text) a_name false (one_of (a word.Not) (a word.Null))
column_law text =
    wide (valued grammar.column_value (seq (plain_name_law text) (seq (plain_name_law text) null_or_not_law (λ k h. refl)) (λ k h. refl)))
    (within _ _ (λ t. refl) refl) (within _ _ (λ t. refl) refl)

edges_law : (text : List ℕ) → Law (grammar.edges text) (a word.OpenParenthesis) false none
edges_law text =
    in_law (commas_law (by_text_law grammar.edge_of (expression text) begins_expression false after_expression (expression_law text)) (apart _ _ (λ t. refl) refl)) (apart _ _ (λ t. refl) refl)

range_bound_law : (text : List ℕ) → Law (grammar.range_bound text) (a word.From) false none
range_bound_law text =
    valued grammar.range_value (after_token (a word.From) (sample word.From) refl
    (seq (edges_law text) (after_token (a word.To) (sample word.To) refl (edges_law text)) (λ k h. refl)))

list_bound_law : (text : List ℕ) → Law (grammar.list_bound text) (a word.In) false none
list_bound_law text =
    valued grammar.list_value (after_token (a word.In) (sample word.In) refl
    (in_law (commas_law (expression_law text) (apart _ _ (λ t. refl) refl)) (apart _ _ (λ t. refl) refl)))

hash_bound_law : (text : List ℕ) → Law (grammar.hash_bound text) (a word.With) false none
hash_bound_law text =
    valued grammar.hash_value (after_token (a word.With) (sample word.With) refl (after_token (a word.OpenParenthesis) (sample word.OpenParenthesis) refl (after_token (a word.Modulus) (sample word.Modulus) refl
    (seq (number_law text) (after_token (a word.Comma) (sample word.Comma) refl (after_token (a word.Remainder) (sample word.Remainder) refl
    (before_token (a word.CloseParenthesis) (sample word.CloseParenthesis) refl (number_law text) (λ k h. refl)))) (λ k h. refl)))))

values_bound_law : (text : List ℕ) → Law (grammar.values_bound text) (λ t. a word.From t || (a word.In t || a word.With t)) false none
values_bound_law text =
    wide (alt (a word.From) (range_bound_law text) (λ k h. h) (alt (a word.In) (list_bound_law text) (λ k h. h) (hash_bound_law text) (apart _ _ (λ t. refl) refl)) (apart _ _ (λ t. refl) refl))
    (within _ _ (λ t. refl) refl) (within _ _ (λ t. refl) refl)

bound_law : (text : List ℕ) → Law (grammar.bound text) (one_of (a word.For) (a word.Default)) false none
bound_law text =
    wide
    (alt (a word.For) (after_token (a word.For) (sample word.For) refl (after_token (a word.Values) (sample word.Values) refl (values_bound_law text))) (λ k h. h)
    (means_law other (token (a word.Default) (sample word.Default) refl)) (apart _ _ (λ t. refl) refl))
    (within _ _ (λ t. refl) refl) (within _ _ (λ t. refl) refl)

columns_law : (text name : List ℕ) → Law (grammar.columns text name) (a word.OpenParenthesis) false (a word.Partition)
columns_law text name =
    wide (valued (grammar.table_value name) (seq (in_law (commas_law (column_law text) (apart _ _ (λ t. refl) refl)) (apart _ _ (λ t. refl) refl)) (maybe_by_law text) (λ k h. refl)))
    (within _ _ (λ t. refl) refl) (within _ _ (λ t. refl) refl)

partition_of_law : (text name : List ℕ) → Law (grammar.partition_of text name) (a word.Partition) false (a word.Partition)
partition_of_law text name =
    wide (valued (grammar.partition_value name) (after_token (a word.Partition) (sample word.Partition) refl (after_token (a word.Of) (sample word.Of) refl
    (seq (plain_name_law text) (seq (bound_law text) (maybe_by_law text) (λ k h. refl)) (λ k h. refl)))))
    (λ k h. h) (within _ _ (λ t. refl) refl)

pub create_law : (text : List ℕ) → Law (grammar.create text) (a word.Create) false (a word.Partition)
create_law text =
    wide (valued second_of (after_token (a word.Create) (sample word.Create) refl (after_token (a word.Table) (sample word.Table) refl
    (then_by (plain_name_law text)
    (λ name. wide {f' = one_of (a word.OpenParenthesis) (a word.Partition)} {c' = a word.Partition}
    (alt (a word.OpenParenthesis) (columns_law text name) (λ k h. h) (partition_of_law text name) (apart _ _ (λ t. refl) refl)) (within _ _ (λ t. refl) refl) (within _ _ (λ t. refl) refl))
    (λ k h. refl)))))
    (λ k h. h) (within _ _ (λ t. refl) refl)

-- drop
abbrev pub exists_or_comma : Class Token
exists_or_comma t = a word.Exists t || a word.Comma t

dropped_law_by : (text : List ℕ) (b : Bool) (names : List (List ℕ)) →
    Law (either_if b (a word.Exists) (as_value (grammar.drop_value true) (a word.Exists >> lists.commas (lists.plain_name text))) (as_value (grammar.drop_value false) (lists.more_commas (lists.plain_name text) names))) exists_or_comma true exists_or_comma
dropped_law_by text true names =
    wide
    (alt (a word.Exists) (valued (grammar.drop_value true) (after_token (a word.Exists) (sample word.Exists) refl (commas_law (plain_name_law text) (λ k h. refl)))) (λ k h. h)
    (valued (grammar.drop_value false) (more (a word.Comma) (sample word.Comma) refl snoc (plain_name_law text) (λ k h. refl) names)) (apart _ _ (λ t. refl) refl))
    (within _ _ (λ t. refl) refl) (within _ _ (λ t. refl) refl)
dropped_law_by text false names =
    wide (valued (grammar.drop_value false) (more (a word.Comma) (sample word.Comma) refl snoc (plain_name_law text) (λ k h. refl) names))
    (within _ _ (λ t. refl) refl) (within _ _ (λ t. refl) refl)

dropped_law : (text : List ℕ) → Law (grammar.dropped text) a_name false exists_or_comma
dropped_law text =
    wide (read_as_law (grammar.tables text) (grammar.dropped_by_name text) (dropped_texts text) (dropped_free text)
    (valued second_of (then_by (name_law text) (λ x. dropped_law_by text (words.is x.0 word.If) (x.1 ∷ [])) (λ k h. refl))))
    (within _ _ (λ t. refl) refl) (within _ _ (λ t. refl) refl)

pub drop_law : (text : List ℕ) → Law (grammar.drop_tables text) (a word.Drop) false (λ t. exists_or_comma t || grammar.is_behavior t)
drop_law text =
    wide (valued grammar.drop_tree (after_token (a word.Drop) (sample word.Drop) refl (after_token (a word.Table) (sample word.Table) refl
    (seq (dropped_law text) (maybe_law grammar.is_behavior (sample word.Cascade) refl) (apart _ _ (λ t. refl) refl)))))
    (λ k h. h) (within _ _ (λ t. refl) refl)

-- alter
attach_law : (text parent : List ℕ) → Law (grammar.attach text parent) (a word.Attach) false none
attach_law text parent =
    valued (grammar.attach_value parent) (after_token (a word.Attach) (sample word.Attach) refl (after_token (a word.Partition) (sample word.Partition) refl
    (seq (plain_name_law text) (bound_law text) (λ k h. refl))))

detach_law : (text parent : List ℕ) → Law (grammar.detach text parent) (a word.Detach) false grammar.is_detachment
detach_law text parent =
    wide (valued (grammar.detach_value parent) (after_token (a word.Detach) (sample word.Detach) refl (after_token (a word.Partition) (sample word.Partition) refl
    (seq (plain_name_law text) (maybe_law grammar.is_detachment (sample word.Finalize) refl) (λ k h. refl)))))
    (λ k h. h) (within _ _ (λ t. refl) refl)

pub alter_law : (text : List ℕ) → Law (grammar.alter text) (a word.Alter) false grammar.is_detachment
alter_law text =
    wide (valued second_of (after_token (a word.Alter) (sample word.Alter) refl (after_token (a word.Table) (sample word.Table) refl
    (then_by (plain_name_law text)
    (λ parent. wide {f' = one_of (a word.Attach) (a word.Detach)} {c' = grammar.is_detachment}
    (alt (a word.Attach) (attach_law text parent) (λ k h. h) (detach_law text parent) (apart _ _ (λ t. refl) refl)) (within _ _ (λ t. refl) refl) (within _ _ (λ t. refl) refl))
    (λ k h. refl)))))
    (λ k h. h) (within _ _ (λ t. refl) refl)

-- lock
locked_law : (text : List ℕ) → Law (grammar.locked text) (λ t. a word.Only t || a_name t) false none
locked_law text =
    wide (valued grammar.locked_value (seq (maybe_law (a word.Only) (sample word.Only) refl) (plain_name_law text) (apart _ _ (λ t. refl) refl)))
    (within _ _ (λ t. refl) refl) (within _ _ (λ t. refl) refl)

share_law : (share exclusive : LockMode) → Law (grammar.share_or_exclusive share exclusive) grammar.is_share_or_exclusive false none
share_law share exclusive = valued (grammar.shared_or share exclusive) (token grammar.is_share_or_exclusive (sample word.Share) refl)

behind_share_law : Law grammar.behind_share (one_of (a word.Update) (a word.Row)) true (one_of (a word.Update) (a word.Row))
behind_share_law =
    wide
    (alt (a word.Update) (means_law mode.ShareUpdateExclusive (after_token (a word.Update) (sample word.Update) refl (token (a word.Exclusive) (sample word.Exclusive) refl))) (λ k h. h)
    (alt (a word.Row) (means_law mode.ShareRowExclusive (after_token (a word.Row) (sample word.Row) refl (token (a word.Exclusive) (sample word.Exclusive) refl))) (λ k h. h) (empty mode.Share) (λ k h. refl))
    (apart _ _ (λ t. refl) refl))
    (within _ _ (λ t. refl) refl) (within _ _ (λ t. refl) refl)

abbrev pub begins_mode : Class Token
begins_mode t = a word.Access t || (a word.Row t || (a word.Share t || a word.Exclusive t))

lock_mode_law : Law grammar.lock_mode begins_mode false (one_of (a word.Update) (a word.Row))
lock_mode_law =
    wide
    (alt (a word.Access) (after_token (a word.Access) (sample word.Access) refl (share_law mode.AccessShare mode.AccessExclusive)) (λ k h. h)
    (alt (a word.Row) (after_token (a word.Row) (sample word.Row) refl (share_law mode.RowShare mode.RowExclusive)) (λ k h. h)
    (alt (a word.Share) (after_token (a word.Share) (sample word.Share) refl behind_share_law) (λ k h. h)
    (means_law mode.Exclusive (token (a word.Exclusive) (sample word.Exclusive) refl)) (apart _ _ (λ t. refl) refl)) (apart _ _ (λ t. refl) refl)) (apart _ _ (λ t. refl) refl))
    (within _ _ (λ t. refl) refl) (within _ _ (λ t. refl) refl)

maybe_mode_law : Law grammar.maybe_mode (a word.In) true (a word.In)
maybe_mode_law =
    wide
    (alt (a word.In) (after_token (a word.In) (sample word.In) refl (before_token (a word.Mode) (sample word.Mode) refl lock_mode_law (apart _ _ (λ t. refl) refl))) (λ k h. h) (empty mode.AccessExclusive) (λ k h. refl))
    (within _ _ (λ t. refl) refl) (within _ _ (λ t. refl) refl)

pub lock_law : (text : List ℕ) → Law (grammar.lock text) (a word.Lock) false (λ t. a word.Comma t || a word.In t)
lock_law text =
    wide (valued grammar.lock_value (after_token (a word.Lock) (sample word.Lock) refl
    (seq (maybe_law (a word.Table) (sample word.Table) refl) (seq (commas_law (locked_law text) (λ k h. refl)) maybe_mode_law (apart _ _ (λ t. refl) refl)) (apart _ _ (λ t. refl) refl))))
    (λ k h. h) (within _ _ (λ t. refl) refl)

-- deallocate
all_law : Law (means deallocates_all (one (a word.All))) (a word.All) false none
all_law = means_law deallocates_all (token (a word.All) (sample word.All) refl)

abbrev pub all_or_name : Class Token
all_or_name t = a word.All t || a_name t

behind_prepare_law : (text prepare : List ℕ) → Law (grammar.behind_prepare text prepare) all_or_name true all_or_name
behind_prepare_law text prepare =
    wide
    (alt (a word.All) all_law (λ k h. h)
    (alt (lists.is_other_name word.Transaction) (valued deallocates (other_name_law text word.Transaction refl)) (λ k h. h) (empty (deallocates prepare)) (λ k h. refl))
    (apart _ _ (λ t. refl) refl))
    (within _ _ (λ t. refl) refl) (within _ _ (λ t. refl) refl)

behind_law_by : (text name : List ℕ) (b : Bool) → Law (grammar.behind_if text name b) all_or_name true all_or_name
behind_law_by text name true = behind_prepare_law text name
behind_law_by text name false = wide (empty (deallocates name)) (λ k h. cc) (λ k h. cc)

pub deallocate_law : (text : List ℕ) → Law (grammar.deallocate text) (a word.Deallocate) false all_or_name
deallocate_law text =
    wide (after_token (a word.Deallocate) (sample word.Deallocate) refl
    (read_as_law (grammar.prepared text) (grammar.prepared_by_name text) (prepared_texts text) (prepared_free text)
    (alt (a word.All) all_law (λ k h. h) (valued second_of (then_by (name_law text) (λ x. behind_law_by text x.1 (words.is x.0 word.Prepare)) (λ k h. refl))) (apart _ _ (λ t. refl) refl))))
    (λ k h. h) (within _ _ (λ t. refl) refl)

-- what may go on behind a command
abbrev pub after_command : Class Token
after_command t =
    after_begin t || (a word.Partition t || (exists_or_comma t || (grammar.is_behavior t || (grammar.is_detachment t || (a word.In t || all_or_name t)))))

pub command_law : (text : List ℕ) → Law (grammar.command text) grammar.begins_command false after_command
command_law text =
    wide
    (alt grammar.begins_begin begin_law (λ k h. h)
    (alt grammar.is_finish finish_law (λ k h. h)
    (alt grammar.begins_set (set_law text) (λ k h. h)
    (alt (a word.Create) (create_law text) (λ k h. h)
    (alt (a word.Drop) (drop_law text) (λ k h. h)
    (alt (a word.Alter) (alter_law text) (λ k h. h)
    (alt (a word.Lock) (lock_law text) (λ k h. h) (deallocate_law text)
    (apart _ _ (λ t. refl) refl)) (apart _ _ (λ t. refl) refl)) (apart _ _ (λ t. refl) refl)) (apart _ _ (λ t. refl) refl)) (apart _ _ (λ t. refl) refl)) (apart _ _ (λ t. refl) refl)) (apart _ _ (λ t. refl) refl))
    (within _ _ (λ t. refl) refl) (within _ _ (λ t. refl) refl)
