-- What SET and RESET make of the settings of a session (VI. SQL Commands: SET, RESET).
use Rattle.std.specs.Prelude.{ℕ, Bool, List, Option, Some, None, Result, Ok, Err, option_map}
use Rattle.pg_values.specs.declared.fault.Fault.{Fault}
use Rattle.refusals.specs.Refusals.{no_setting, no_value}
use Rattle.sessions.specs.Sessions.{default_settings}
use Rattle.sessions.specs.declared.settings.PlanCacheMode.{PlanCacheMode}
use Rattle.sessions.specs.declared.settings.Settings.{Settings}
use Rattle.sql_ast.specs.declared.setting_value.SettingValue.{SettingValue}
use Rattle.sql_ast.specs.declared.setting_value.SettingValue.TheVariants as values
use Rattle.statement_runs.specs.declared.names.SettingName.{SettingName}
use Rattle.statement_runs.specs.declared.names.SettingName.TheVariants as names
use Rattle.statement_runs.specs.Names.{setting_named, truth_of, mode_of}

-- what a value says
abbrev pub text_of : SettingValue → List ℕ
text_of (values.Word word) = word
text_of (values.Text text) = text
text_of (values.Number digits) = digits

abbrev pub with_truth : Settings → SettingName → Bool → Settings
with_truth g names.PartitionPruning on = record g { enable_partition_pruning = on }
with_truth g names.PartitionwiseJoin on = record g { enable_partitionwise_join = on }
with_truth g names.PartitionwiseAggregate on = record g { enable_partitionwise_aggregate = on }
with_truth g names.HashJoin on = record g { enable_hashjoin = on }
with_truth g names.CacheMode on = g
with_truth g names.WithoutEffect on = g

abbrev pub with_mode : Settings → PlanCacheMode → Settings
with_mode g mode = record g { plan_cache_mode = mode }

-- the settings with that value, if the setting has such a one
abbrev pub with_value : Settings → SettingName → (text : List ℕ) → Option Settings
with_value g names.CacheMode text = option_map (with_mode g) (mode_of text)
with_value g names.WithoutEffect text = Some g
with_value g s text = option_map (with_truth g s) (truth_of text)

abbrev pub or_no_value : (name text : List ℕ) → Option Settings → Result Settings Fault
or_no_value name text (Some g) = Ok g
or_no_value name text None = Err (no_value text name)

abbrev pub set_named : Settings → (name text : List ℕ) → Option SettingName → Result Settings Fault
set_named g name text None = Err (no_setting name)
set_named g name text (Some s) = or_no_value name text (with_value g s text)

-- SET name TO value
abbrev pub set : Settings → (name : List ℕ) → SettingValue → Result Settings Fault
set g name value = set_named g name (text_of value) (setting_named name)

-- the value that it has in a session that has set nothing
abbrev pub reset_to : Settings → SettingName → Settings
reset_to g names.PartitionPruning = record g { enable_partition_pruning = default_settings.enable_partition_pruning }
reset_to g names.PartitionwiseJoin = record g { enable_partitionwise_join = default_settings.enable_partitionwise_join }
reset_to g names.PartitionwiseAggregate = record g { enable_partitionwise_aggregate = default_settings.enable_partitionwise_aggregate }
reset_to g names.HashJoin = record g { enable_hashjoin = default_settings.enable_hashjoin }
reset_to g names.CacheMode = record g { plan_cache_mode = default_settings.plan_cache_mode }
reset_to g names.WithoutEffect = g

abbrev pub reset_named : Settings → (name : List ℕ) → Option SettingName → Result Settings Fault
reset_named g name None = Err (no_setting name)
reset_named g name (Some s) = Ok (reset_to g s)

-- RESET name
abbrev pub reset : Settings → (name : List ℕ) → Result Settings Fault
reset g name = reset_named g name (setting_named name)
