-- The grammar of commands (VI. SQL Commands: BEGIN, COMMIT, ROLLBACK, SET, RESET, CREATE TABLE, DROP TABLE, ALTER TABLE, LOCK, DEALLOCATE).
-- What a name or a number says stands in the text, so rules of names take the text.
use Rattle.std.specs.Prelude.{ℕ, ◌||◌, List}
use Rattle.grammar.specs.Reading.{Class, Rule, either}
use Rattle.sql_tokens.specs.declared.kind.TokenKind.TheVariants as word
use Rattle.sql_tokens.specs.declared.token.Token.{Token}
use Rattle.sql_tokens.specs.Classes.{a}
use Rattle.sql_ast.specs.Commands.{CommandTree}
pub use Rattle.sql_syntax.specs.Transaction.{is_noise, noise, committed_or_not, level, isolation_level, begins_begin, begin_words, begin, is_commit, is_rollback, is_finish, finished, finish}
pub use Rattle.sql_syntax.specs.Setting.{is_equal_or_to, is_setting_word, setting_word, without_zeros, setting_number, setting_value, set_value, begins_set, set}
pub use Rattle.sql_syntax.specs.Create.{is_strategy, strategy_of, strategy_rule, partitioning, by, maybe_by, null_or_not, column_value, column, table_value, columns, partition_value, partition_of, made, create}
pub use Rattle.sql_syntax.specs.Bound.{by_text, word_or, edge_of, edge, edges, range_value, range_bound, list_value, list_bound, hash_value, hash_bound, values_bound, bound}
pub use Rattle.sql_syntax.specs.Drop.{is_behavior, if_exists, tables, drop_value, dropped_behind, dropped_by_name, dropped, drop_tree, drop_tables}
pub use Rattle.sql_syntax.specs.Alter.{is_detachment, detachment_of, attach_value, attach, detach_value, detach, altered, alter}
pub use Rattle.sql_syntax.specs.Lock.{locked_value, locked, behind_share, is_share_or_exclusive, shared_or, share_or_exclusive, lock_mode, maybe_mode, lock_value, lock}
pub use Rattle.sql_syntax.specs.Deallocate.{name_behind, all_or_name, prepared, behind_prepare, behind_if, behind_deallocate, prepared_by_name, deallocate}

-- what begins a command
abbrev pub begins_other_command : Class Token
begins_other_command t = a word.Create t || (a word.Drop t || (a word.Alter t || (a word.Lock t || a word.Deallocate t)))

abbrev pub begins_command : Class Token
begins_command t = begins_begin t || (is_finish t || (begins_set t || begins_other_command t))

-- command = begin | finish | set | create | drop | alter | lock | dealloc
abbrev pub command : List ℕ → Rule Token CommandTree
command text =
    either begins_begin begin (either is_finish finish (either begins_set (set text)
    (either (a word.Create) (create text) (either (a word.Drop) (drop_tables text)
    (either (a word.Alter) (alter text) (either (a word.Lock) (lock text) (deallocate text)))))))
