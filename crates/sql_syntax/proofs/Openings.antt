-- Every first word of a statement begins one.
use Rattle.std.proofs.Common.{ℕ, Bool, ◌||◌, List, [], None, inr, refl}
use Rattle.grammar.specs.Reading.{Class, Rule, as_value}
use Rattle.grammar.specs.Repeats.{second_of}
use Rattle.grammar.proofs.Laws.{Law}
use Rattle.grammar.proofs.Build.{token, seq}
use Rattle.sql_tokens.specs.declared.kind.TokenKind.{TokenKind}
use Rattle.sql_tokens.specs.declared.kind.TokenKind.TheVariants as word
use Rattle.sql_tokens.specs.declared.token.Token.{Token}
use Rattle.grammar.specs.Words.{◌>>◌}
use Rattle.sql_tokens.specs.Classes.{a}
use Rattle.sql_expressions.proofs.WordLaws.{sample}
use Rattle.grammar.proofs.WordLaws.{maybe_law}
use Rattle.sql_expressions.proofs.ListLaws.{other_name_law, plain_name_law}
use Rattle.sql_syntax.specs.CommandGrammar as commands
use Rattle.sql_ast.specs.Commands.{resets}
use Rattle.sql_syntax.proofs.CommandLaws.{setting_value_law, create_law, drop_law, alter_law, lock_law, deallocate_law}
use Rattle.sql_syntax.specs.QueryGrammar as queries
use Rattle.sql_ast.specs.Queries.{selects, rows}
use Rattle.sql_syntax.proofs.QueryLaws.{select_law, insert_law, delete_law, prepare_law, execute_law, explain_law}
use Rattle.sql_syntax.proofs.SettingLaws.{settings_law}
use Rattle.sql_syntax.specs.Grammar.{begins_statement, statement}
use Rattle.sql_ast.specs.Statements as trees
use Rattle.sql_syntax.proofs.Starts.{Starts, starts_value, starts_either, starts_both, starts_one, starts_behind, restart}

-- a rule that begins with a word, by its law
word_starts : {A : Type 0} {f : Class Token} {n : Bool} {c : Class Token} (k : TokenKind) (p : Rule Token A) → Law (a k >> p) f n c → Starts (a k >> p).free (a k)
word_starts k p l = restart p.free (a k) _ _ (l.shape.within l.shape.text l.shape.value l.shape.sample)

valued_starts : {A B : Type 0} {f : Class Token} {n : Bool} {c : Class Token} (g : A → B) (k : TokenKind) (p : Rule Token A) → Law (as_value g (a k >> p)) f n c → Starts (as_value g (a k >> p)).free (a k)
valued_starts g k p l = starts_value g (restart p.free (a k) _ _ (l.shape.within l.shape.text l.shape.value l.shape.sample).1)

-- behind a word, a text that a law has
behind_starts : {A : Type 0} {p : Rule Token A} {f : Class Token} {n : Bool} {c : Class Token} (k : TokenKind) → Law p f n c → Starts (a k >> p).free (a k)
behind_starts {p = p} k l = starts_behind p.free (a k) l.shape.text l.shape.value (l.shape.within l.shape.text l.shape.value l.shape.sample)

module _ (text : List ℕ) where
  starts_begin : Starts commands.begin.free commands.begins_begin
  starts_begin =
      starts_value _
      (starts_both commands.isolation_level.free [] None (inr (refl, refl))
      (starts_either (behind_starts word.Begin (maybe_law commands.is_noise (sample word.Work) refl))
      (starts_value (λ (t : Token). None) (behind_starts word.Start (token (a word.Transaction) (sample word.Transaction) refl)))))

  starts_finish : Starts commands.finish.free commands.is_finish
  starts_finish = starts_value commands.finished (starts_both commands.noise.free [] None (inr (refl, refl)) (starts_one commands.is_finish))

  starts_set : Starts (commands.set text).free commands.begins_set
  starts_set =
      starts_either
      (starts_value commands.set_value (behind_starts word.Set (seq (other_name_law text word.Local refl) (seq (token commands.is_equal_or_to (sample word.Equal) refl) (setting_value_law text) (λ k h. refl)) (λ k h. refl))))
      (starts_value resets (behind_starts word.Reset (plain_name_law text)))

  starts_command : Starts (commands.command text).free
      (λ t. commands.begins_begin t || (commands.is_finish t || (commands.begins_set t || (a word.Create t || (a word.Drop t || (a word.Alter t || (a word.Lock t || a word.Deallocate t)))))))
  starts_command =
      starts_either starts_begin (starts_either starts_finish (starts_either starts_set
      (starts_either (valued_starts second_of word.Create _ (create_law text)) (starts_either (valued_starts commands.drop_tree word.Drop _ (drop_law text))
      (starts_either (valued_starts second_of word.Alter _ (alter_law text)) (starts_either (valued_starts commands.lock_value word.Lock _ (lock_law text))
      (word_starts word.Deallocate _ (deallocate_law text))))))))

  starts_rows : Starts (queries.row_statement text).free queries.begins_row_statement
  starts_rows =
      starts_either (starts_value selects (valued_starts queries.select_value word.Select _ (select_law text)))
      (starts_either (valued_starts queries.insert_value word.Insert _ (insert_law text))
      (starts_either (starts_value queries.update_value (starts_both (queries.condition text).free [] None (inr (refl, refl))
      (restart _ (a word.Update) _ _ ((settings_law text).shape.within _ _ (settings_law text).shape.sample))))
      (valued_starts queries.delete_value word.Delete _ (delete_law text))))

  starts_query : Starts (queries.query text).free (λ t. queries.begins_row_statement t || (a word.Prepare t || (a word.Execute t || a word.Explain t)))
  starts_query =
      starts_either (starts_value rows starts_rows) (starts_either (valued_starts queries.prepare_value word.Prepare _ (prepare_law text))
      (starts_either (starts_value queries.execute_value (word_starts word.Execute _ (execute_law text))) (valued_starts second_of word.Explain _ (explain_law text))))

  pub starts_statement : Starts (statement text).free begins_statement
  starts_statement = starts_either (starts_value trees.queries starts_query) (starts_value trees.commands starts_command)
