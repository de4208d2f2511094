-- Settings (VI. SQL Commands: SET, RESET).
use Rattle.std.specs.Prelude.{ℕ, ◌||◌, if◌then◌else◌, ◌==◌, List, [], ◌∷◌}
use Rattle.grammar.specs.Reading.{Class, Rule, one, as_value, either}
use Rattle.sql_tokens.specs.Contents.{bytes_of, name_in}
use Rattle.sql_tokens.specs.declared.kind.TokenKind.TheVariants as word
use Rattle.sql_tokens.specs.declared.token.Token.{Token}
use Rattle.grammar.specs.Words.{◌>>◌, ◌&◌, one_of}
use Rattle.sql_tokens.specs.Classes.{a, a_name}
use Rattle.sql_expressions.specs.Words.{is_long_name, no_longer, string}
use Rattle.sql_expressions.specs.Lists.{plain_name, other_name}
use Rattle.sql_ast.specs.Commands.{CommandTree, sets, resets}
use Rattle.sql_ast.specs.declared.setting_value.SettingValue.{SettingValue}
use Rattle.sql_ast.specs.declared.setting_value.SettingValue.TheVariants as setting

-- set = "SET" name ( "=" | "TO" ) ( name | "ON" | "TRUE" | "FALSE" | string | number ) | "RESET" name
-- where LOCAL is no name behind SET
abbrev pub is_equal_or_to : Class Token
is_equal_or_to = one_of (a word.Equal) (a word.To)

abbrev pub is_setting_word : Class Token
is_setting_word t = a_name t || (a word.On t || (a word.True t || a word.False t))

abbrev pub setting_word : List ℕ → Rule Token SettingValue
setting_word text = as_value (λ (t : Token). setting.Word (name_in text t)) (no_longer is_setting_word (is_long_name text))

-- the digits of a number, without zeros before them
abbrev pub without_zeros : List ℕ → List ℕ
without_zeros [] = []
without_zeros (b ∷ []) = b ∷ []
without_zeros (b ∷ c ∷ z) = if b == 48 then without_zeros (c ∷ z) else b ∷ c ∷ z

abbrev pub setting_number : List ℕ → Rule Token SettingValue
setting_number text = as_value (λ (t : Token). setting.Number (without_zeros (bytes_of text t))) (one (a word.Number))

abbrev pub setting_value : List ℕ → Rule Token SettingValue
setting_value text =
    either is_setting_word (setting_word text)
    (either (a word.Text) (as_value setting.Text (string text)) (setting_number text))

abbrev pub set_value : List ℕ × (Token × SettingValue) → CommandTree
set_value x = sets x.0 x.1.1

abbrev pub begins_set : Class Token
begins_set = one_of (a word.Set) (a word.Reset)

abbrev pub set : List ℕ → Rule Token CommandTree
set text =
    either (a word.Set) (as_value set_value (a word.Set >> other_name text word.Local & one is_equal_or_to & setting_value text))
    (as_value resets (a word.Reset >> plain_name text))
