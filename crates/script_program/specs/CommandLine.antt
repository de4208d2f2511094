-- What the words of a call ask for. They are those of one simple command, read by the rules of clap: what it makes of
-- them is a function (`matches_of`), and so is what it finds wrong with them (`fault_of`).
use Rattle.std.specs.Prelude.{◌≡◌, ◌^◌, ℕ, ℤ, Bool, true, false, ◌&&◌, nat_lt, if◌then◌else◌, List, [], ◌∷◌, codes, bytes_eq, Option, Some, None, option_map, fold, Result, Ok, Err}
use Rattle.std.specs.Option.{option_map_or}
use Rattle.std.specs.Str.Parse.{digits_value, without_leading_plus}
use Rattle.clap.specs.Faults.{fault_of}
use Rattle.clap.specs.Simple.{App, matches_of, new_app, new_rule, on_top, with_rule}
use Rattle.clap.specs.ValueTests.{is_numeral}
use Rattle.clap.specs.Walk.{Row, Rule, Text, first_of, is_empty, one_of}
use Rattle.clap.specs.declared.builder.action.ArgAction.TheVariants.{SetTrue}
use Rattle.script_program.specs.declared.asked.Asked.{Asked}
use Rattle.script_program.specs.declared.asked.Mode.{Mode}
use Rattle.script_program.specs.declared.asked.Mode.TheVariants.{Run, Check, Gen}
use Rattle.script_program.specs.declared.asked.WordsRefused.{WordsRefused}
use Rattle.script_program.specs.declared.asked.WordsRefused.TheVariants.{Usage, NoMemory}
use Rattle.pg_values.specs.declared.fault.Fault.{Fault}
use Rattle.pg_values.specs.declared.value.Kind.TheVariants.{Day as KDay}
use Rattle.pg_values.specs.declared.value.Value.{Value}
use Rattle.pg_values.specs.declared.value.Value.TheVariants.{Day}
use Rattle.value_rules.specs.Reads.{reads}

-- ---- the command

-- `--name value` or `--name=value`, at most once
abbrev pub value_option : Text → Rule
value_option name = record (new_rule name) { long = Some name }

-- `--name`, at most once
abbrev pub flag_option : Text → Rule
flag_option name = record (value_option name) { action = Some SetTrue }

-- a command without options, whose words are those behind the program's name
abbrev pub bare_command : Text → App
bare_command name = on_top (λ s. record s {
  no_binary_name = true;
  disable_help_flag = true;
  disable_version_flag = true;
}) (new_app name)

abbrev pub command_line : App
command_line = fold with_rule (bare_command (codes "partscript"))
    (value_option (codes "mode") ∷ value_option (codes "today") ∷ flag_option (codes "trail") ∷ value_option (codes "seed") ∷ [])

-- ---- what the options ask for

abbrev pub mode_named : Text → Option Mode
mode_named text =
    if bytes_eq text (codes "run") then Some Run
    else (if bytes_eq text (codes "check") then Some Check
    else (if bytes_eq text (codes "gen") then Some Gen else None))

-- the script is run where no mode is given
abbrev pub mode_in : Option Text → Option Mode
mode_in None = Some Run
mode_in (Some text) = mode_named text

abbrev pub day_of : Result Value Fault → Option ℤ
day_of (Ok (Day d)) = Some d
day_of _ = None

-- a day is a date of SQL
abbrev pub day_named : Text → Option ℤ
day_named text = day_of (reads KDay text)

-- no day is handed in where none is given
abbrev pub day_in : Option Text → Option (Option ℤ)
day_in None = Some None
day_in (Some text) = option_map Some (day_named text)

-- a seed is a number of 64 bits in decimal digits; a plus sign may stand before them
abbrev pub seed_named : Text → Option ℕ
seed_named text =
    let digits = without_leading_plus text in
    if is_numeral digits && nat_lt (digits_value 10 digits) (2 ^ 64) then Some (digits_value 10 digits) else None

-- it is 1 where none is given
abbrev pub seed_in : Option Text → Option ℕ
seed_in None = Some 1
seed_in (Some text) = seed_named text

-- clap gives a flag the text `true` where it is given, and else `false`
abbrev pub flag_in : Option Text → Bool
flag_in text = option_map_or (λ t. bytes_eq t (codes "true")) text false

-- ---- what the words ask for

abbrev pub asked_of : Option Mode → Option (Option ℤ) → Bool → Option ℕ → Option Asked
asked_of (Some m) (Some d) b (Some n) = Some (record { mode = m; today = d; trail = b; seed = n })
asked_of _ _ _ _ = None

-- by what clap found
abbrev pub asked_in : List Row → Option Asked
asked_in rows = asked_of
    (mode_in (first_of (codes "mode") rows))
    (day_in (first_of (codes "today") rows))
    (flag_in (one_of (codes "trail") rows))
    (seed_in (first_of (codes "seed") rows))

-- nothing, where clap refuses the words, or the mode, the day or the seed among them is none
abbrev pub asked_by : List Text → Option Asked
asked_by words = if is_empty (fault_of command_line words) then asked_in (matches_of command_line words) else None

-- The answer of a call that reads words: what is read, or Usage where nothing is. Want of memory tells nothing.
abbrev pub IsRead : {T : Type 0} → Option T → Result T WordsRefused → Type 0
IsRead read (Ok x) = read ≡ Some x
IsRead read (Err Usage) = read ≡ None
IsRead read (Err NoMemory) = Unit {0}
