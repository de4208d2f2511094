-- Each production keeps the law: one token of look-ahead decides how its texts are read.
use Rattle.std.proofs.Common.{ℕ, Bool, true, false, ◌||◌, List, None, Some, refl}
use Rattle.grammar.specs.Reading.{Class}
use Rattle.grammar.specs.Repeats.{second_of}
use Rattle.grammar.proofs.Laws.{Law}
use Rattle.grammar.proofs.Chain.{none}
use Rattle.grammar.proofs.Build.{token, empty, valued, wide, seq, then_by, alt, opt, after_token, repeated}
use Rattle.sql_tokens.specs.declared.kind.TokenKind.TheVariants as word
use Rattle.sql_tokens.specs.declared.token.Token.{Token}
use Rattle.sql_expressions.specs.Levels.{begins_expression}
use Rattle.sql_ast.specs.Expressions.{Tree, no_more, listed}
use Rattle.sql_tokens.specs.Classes.{a, a_name}
use Rattle.sql_expressions.proofs.LevelLaws.{after_expression}
use Rattle.sql_expressions.proofs.RuleLaws.{expression_law}
use Rattle.sql_expressions.proofs.WordLaws.{sample, apart, within}
use Rattle.grammar.specs.Words.{one_of}
use Rattle.grammar.proofs.WordLaws.{means_law, maybe_law}
use Rattle.sql_expressions.proofs.ListLaws.{in_law, commas_law, plain_name_law, other_name_law}
use Rattle.sql_syntax.specs.QueryGrammar as grammar
use Rattle.sql_ast.specs.Queries.{selects, rows, explains_select}
use Rattle.sql_syntax.proofs.ItemLaws.{begins_alias, after_item, item_law}
use Rattle.sql_syntax.proofs.SettingLaws.{after_setting, settings_law}

-- tables
table_alias_law : (text : List ℕ) → Law (grammar.table_alias text) begins_alias true begins_alias
table_alias_law text =
    wide
    (alt (a word.As) (valued (λ (n : List ℕ). Some n) (after_token (a word.As) (sample word.As) refl (plain_name_law text))) (λ k h. h) (opt (plain_name_law text)) (apart _ _ (λ t. refl) refl))
    (within _ _ (λ t. refl) refl) (within _ _ (λ t. refl) refl)

named_table_law : (text : List ℕ) → Law (grammar.named_table text) a_name false begins_alias
named_table_law text =
    wide (valued grammar.table_value (seq (plain_name_law text) (table_alias_law text) (λ k h. refl)))
    (within _ _ (λ t. refl) refl) (within _ _ (λ t. refl) refl)

joined_table_law : (text : List ℕ) → Law (grammar.joined_table text) (a word.Join) false after_expression
joined_table_law text =
    wide (valued grammar.on_condition (after_token (a word.Join) (sample word.Join) refl
    (seq (named_table_law text) (after_token (a word.On) (sample word.On) refl (expression_law text)) (apart _ _ (λ t. refl) refl))))
    (λ k h. h) (within _ _ (λ t. refl) refl)

-- what may go on behind tables
abbrev after_joint : Class Token
after_joint t = begins_alias t || after_expression t

abbrev after_tables : Class Token
after_tables t = after_joint t || grammar.is_joint t

joint_law : (text : List ℕ) → Law (grammar.joint text) grammar.is_joint false after_joint
joint_law text =
    wide
    (alt (a word.Comma) (valued grammar.alone (after_token (a word.Comma) (sample word.Comma) refl (named_table_law text))) (λ k h. h)
    (alt (a word.Inner) (after_token (a word.Inner) (sample word.Inner) refl (joined_table_law text)) (λ k h. h) (joined_table_law text) (apart _ _ (λ t. refl) refl))
    (apart _ _ (λ t. refl) refl))
    (within _ _ (λ t. refl) refl) (within _ _ (λ t. refl) refl)

tables_law : (text : List ℕ) → Law (grammar.tables text) a_name false after_tables
tables_law text =
    wide (valued grammar.tables_value (seq (named_table_law text) (repeated (joint_law text) (apart _ _ (λ t. refl) refl)) (apart _ _ (λ t. refl) refl)))
    (within _ _ (λ t. refl) refl) (within _ _ (λ t. refl) refl)

abbrev after_from : Class Token
after_from t = after_tables t || a word.From t

from_law : (text : List ℕ) → Law (grammar.from text) (a word.From) true after_from
from_law text =
    wide (alt (a word.From) (after_token (a word.From) (sample word.From) refl (tables_law text)) (λ k h. h) (empty _) (λ k h. refl))
    (within _ _ (λ t. refl) refl) (within _ _ (λ t. refl) refl)

abbrev after_condition : Class Token
after_condition t = after_expression t || a word.Where t

condition_law : (text : List ℕ) → Law (grammar.condition text) (a word.Where) true after_condition
condition_law text = wide (opt (after_token (a word.Where) (sample word.Where) refl (expression_law text))) (λ k h. h) (within _ _ (λ t. refl) refl)

-- order
nulls_law : Law grammar.nulls (a word.Nulls) true (a word.Nulls)
nulls_law = wide (opt (after_token (a word.Nulls) (sample word.Nulls) refl (token grammar.is_end (sample word.First) refl))) (λ k h. h) (within _ _ (λ t. refl) refl)

abbrev after_key : Class Token
after_key t = after_expression t || (grammar.is_direction t || a word.Nulls t)

key_law : (text : List ℕ) → Law (grammar.key text) begins_expression false after_key
key_law text =
    wide
    (valued grammar.key_value (seq (expression_law text) (seq (maybe_law grammar.is_direction (sample word.Asc) refl) nulls_law (apart _ _ (λ t. refl) refl)) (apart _ _ (λ t. refl) refl)))
    (within _ _ (λ t. refl) refl) (within _ _ (λ t. refl) refl)

abbrev after_order : Class Token
after_order t = after_key t || (a word.Comma t || a word.Order t)

order_law : (text : List ℕ) → Law (grammar.order text) (a word.Order) true after_order
order_law text =
    wide
    (alt (a word.Order) (after_token (a word.Order) (sample word.Order) refl (after_token (a word.By) (sample word.By) refl (commas_law (key_law text) (apart _ _ (λ t. refl) refl)))) (λ k h. h)
    (empty _) (λ k h. refl))
    (within _ _ (λ t. refl) refl) (within _ _ (λ t. refl) refl)

count_law : (text : List ℕ) → Law (grammar.count text) (λ t. a word.All t || begins_expression t) false after_expression
count_law text =
    wide
    (alt (a word.All) (means_law None (token (a word.All) (sample word.All) refl)) (λ k h. h) (valued (λ (e : Tree). Some e) (expression_law text)) (apart _ _ (λ t. refl) refl))
    (λ k h. h) (within _ _ (λ t. refl) refl)

abbrev after_limit : Class Token
after_limit t = after_expression t || a word.Limit t

limit_law : (text : List ℕ) → Law (grammar.limit text) (a word.Limit) true after_limit
limit_law text =
    wide (alt (a word.Limit) (after_token (a word.Limit) (sample word.Limit) refl (count_law text)) (λ k h. h) (empty None) (λ k h. refl))
    (within _ _ (λ t. refl) refl) (within _ _ (λ t. refl) refl)

abbrev after_offset : Class Token
after_offset t = after_expression t || a word.Offset t

offset_law : (text : List ℕ) → Law (grammar.offset text) (a word.Offset) true after_offset
offset_law text = wide (opt (after_token (a word.Offset) (sample word.Offset) refl (expression_law text))) (λ k h. h) (within _ _ (λ t. refl) refl)

-- select
abbrev after_select : Class Token
after_select t = after_item t || (after_from t || (a word.Where t || (after_order t || (a word.Limit t || a word.Offset t))))

pub select_law : (text : List ℕ) → Law (grammar.select text) (a word.Select) false after_select
select_law text =
    wide
    (valued grammar.select_value (after_token (a word.Select) (sample word.Select) refl
    (seq (commas_law (item_law text) (apart _ _ (λ t. refl) refl))
    (seq (from_law text) (seq (condition_law text) (seq (order_law text) (seq (limit_law text) (offset_law text)
    (apart _ _ (λ t. refl) refl)) (apart _ _ (λ t. refl) refl)) (apart _ _ (λ t. refl) refl)) (apart _ _ (λ t. refl) refl)) (apart _ _ (λ t. refl) refl))))
    (λ k h. h) (within _ _ (λ t. refl) refl)

-- insert
columns_law : (text : List ℕ) → Law (grammar.columns text) (a word.OpenParenthesis) true (a word.OpenParenthesis)
columns_law text = wide (opt (in_law (commas_law (plain_name_law text) (λ k h. refl)) (apart _ _ (λ t. refl) refl))) (λ k h. h) (within _ _ (λ t. refl) refl)

row_law : (text : List ℕ) → Law (grammar.row text) (a word.OpenParenthesis) false none
row_law text = valued listed (in_law (commas_law (expression_law text) (apart _ _ (λ t. refl) refl)) (apart _ _ (λ t. refl) refl))

pub insert_law : (text : List ℕ) → Law (grammar.insert text) (a word.Insert) false (a word.Comma)
insert_law text =
    wide
    (valued grammar.insert_value (after_token (a word.Insert) (sample word.Insert) refl (after_token (a word.Into) (sample word.Into) refl
    (seq (plain_name_law text)
    (seq (columns_law text) (after_token (a word.Values) (sample word.Values) refl (commas_law (row_law text) (λ k h. refl))) (apart _ _ (λ t. refl) refl))
    (λ k h. refl)))))
    (λ k h. h) (within _ _ (λ t. refl) refl)

-- update, delete
abbrev after_update : Class Token
after_update t = after_setting t || a word.Where t

update_law : (text : List ℕ) → Law (grammar.update text) (a word.Update) false after_update
update_law text =
    wide (valued grammar.update_value (seq (settings_law text) (condition_law text) (apart _ _ (λ t. refl) refl)))
    (within _ _ (λ t. refl) refl) (within _ _ (λ t. refl) refl)

abbrev after_delete : Class Token
after_delete t = begins_alias t || after_condition t

pub delete_law : (text : List ℕ) → Law (grammar.delete text) (a word.Delete) false after_delete
delete_law text =
    wide
    (valued grammar.delete_value (after_token (a word.Delete) (sample word.Delete) refl (after_token (a word.From) (sample word.From) refl
    (seq (named_table_law text) (condition_law text) (apart _ _ (λ t. refl) refl)))))
    (λ k h. h) (within _ _ (λ t. refl) refl)

-- a statement of rows
abbrev after_row_statement : Class Token
after_row_statement t = after_select t || (after_update t || after_delete t)

row_statement_law : (text : List ℕ) → Law (grammar.row_statement text) grammar.begins_row_statement false after_row_statement
row_statement_law text =
    wide
    (alt (a word.Select) (valued selects (select_law text)) (λ k h. h)
    (alt (a word.Insert) (insert_law text) (λ k h. h)
    (alt (a word.Update) (update_law text) (λ k h. h) (delete_law text) (apart _ _ (λ t. refl) refl)) (apart _ _ (λ t. refl) refl)) (apart _ _ (λ t. refl) refl))
    (λ k h. h) (within _ _ (λ t. refl) refl)

-- prepare, execute
kinds_law : (text : List ℕ) → Law (grammar.kinds text) (a word.OpenParenthesis) true (a word.OpenParenthesis)
kinds_law text =
    wide
    (alt (a word.OpenParenthesis) (in_law (commas_law (plain_name_law text) (λ k h. refl)) (apart _ _ (λ t. refl) refl)) (λ k h. h) (empty _) (λ k h. refl))
    (within _ _ (λ t. refl) refl) (within _ _ (λ t. refl) refl)

pub prepare_law : (text : List ℕ) → Law (grammar.prepare text) (a word.Prepare) false after_row_statement
prepare_law text =
    wide
    (valued grammar.prepare_value (after_token (a word.Prepare) (sample word.Prepare) refl
    (seq (other_name_law text word.Transaction refl)
    (seq (kinds_law text) (after_token (a word.As) (sample word.As) refl (row_statement_law text)) (apart _ _ (λ t. refl) refl))
    (λ k h. refl))))
    (λ k h. h) (within _ _ (λ t. refl) refl)

arguments_law : (text : List ℕ) → Law (grammar.arguments text) (a word.OpenParenthesis) true (a word.OpenParenthesis)
arguments_law text =
    wide
    (alt (a word.OpenParenthesis) (valued listed (in_law (commas_law (expression_law text) (apart _ _ (λ t. refl) refl)) (apart _ _ (λ t. refl) refl))) (λ k h. h)
    (empty no_more) (λ k h. refl))
    (within _ _ (λ t. refl) refl) (within _ _ (λ t. refl) refl)

pub execute_law : (text : List ℕ) → Law (grammar.execute text) (a word.Execute) false (a word.OpenParenthesis)
execute_law text =
    wide (after_token (a word.Execute) (sample word.Execute) refl (seq (plain_name_law text) (arguments_law text) (λ k h. refl)))
    (λ k h. h) (within _ _ (λ t. refl) refl)

-- explain
abbrev begins_option : Class Token
begins_option t = a word.Analyze t || grammar.is_plain_option t

option_law : Law grammar.option begins_option false none
option_law =
    wide
    (alt (a word.Analyze) (means_law true (token (a word.Analyze) (sample word.Analyze) refl)) (λ k h. h)
    (means_law false (seq (token grammar.is_plain_option (sample word.Costs) refl) (token (a word.Off) (sample word.Off) refl) (λ k h. refl))) (apart _ _ (λ t. refl) refl))
    (within _ _ (λ t. refl) refl) (within _ _ (λ t. refl) refl)

abbrev begins_options : Class Token
begins_options = one_of (a word.Analyze) (a word.OpenParenthesis)

options_law : Law grammar.options begins_options true begins_options
options_law =
    wide
    (alt (a word.Analyze) (means_law true (token (a word.Analyze) (sample word.Analyze) refl)) (λ k h. h)
    (alt (a word.OpenParenthesis) (valued grammar.has_true (in_law (commas_law option_law (λ k h. refl)) (apart _ _ (λ t. refl) refl))) (λ k h. h) (empty false) (λ k h. refl))
    (apart _ _ (λ t. refl) refl))
    (within _ _ (λ t. refl) refl) (within _ _ (λ t. refl) refl)

abbrev after_explain : Class Token
after_explain t = after_select t || a word.OpenParenthesis t

explained_law : (text : List ℕ) (analyze : Bool) → Law (grammar.explained text analyze) (one_of (a word.Select) (a word.Execute)) false after_explain
explained_law text analyze =
    wide
    (alt (a word.Select) (valued (explains_select analyze) (select_law text)) (λ k h. h) (valued (grammar.explain_execute_value analyze) (execute_law text)) (apart _ _ (λ t. refl) refl))
    (λ k h. h) (within _ _ (λ t. refl) refl)

pub explain_law : (text : List ℕ) → Law (grammar.explain text) (a word.Explain) false after_explain
explain_law text =
    wide (valued second_of (after_token (a word.Explain) (sample word.Explain) refl (then_by options_law (explained_law text) (apart _ _ (λ t. refl) refl))))
    (λ k h. h) (within _ _ (λ t. refl) refl)

-- what begins a query, and what may go on behind one
abbrev pub begins_query : Class Token
begins_query t = grammar.begins_row_statement t || (a word.Prepare t || (a word.Execute t || a word.Explain t))

abbrev pub after_query : Class Token
after_query t = after_row_statement t || a word.OpenParenthesis t

pub query_law : (text : List ℕ) → Law (grammar.query text) begins_query false after_query
query_law text =
    wide
    (alt grammar.begins_row_statement (valued rows (row_statement_law text)) (λ k h. h)
    (alt (a word.Prepare) (prepare_law text) (λ k h. h)
    (alt (a word.Execute) (valued grammar.execute_value (execute_law text)) (λ k h. h) (explain_law text) (apart _ _ (λ t. refl) refl)) (apart _ _ (λ t. refl) refl)) (apart _ _ (λ t. refl) refl))
    (λ k h. h) (within _ _ (λ t. refl) refl)
