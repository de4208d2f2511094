-- The settings that there are, and the words for their values (the manual, 19.7 Query Planning, 19.12 Lock Management, 20.1.1
-- Parameter Names and Values).
use Rattle.std.specs.Prelude.{ℕ, ◌||◌, Bool, true, false, if◌then◌else◌, List, Option, Some, None, bytes_eq, codes}
use Rattle.std.specs.Str.{str_eq_ignore_ascii_case}
use Rattle.sessions.specs.declared.settings.PlanCacheMode.{PlanCacheMode}
use Rattle.sessions.specs.declared.settings.PlanCacheMode.TheVariants.{Auto, ForceCustomPlan, ForceGenericPlan}
use Rattle.statement_runs.specs.declared.names.SettingName.{SettingName}
use Rattle.statement_runs.specs.declared.names.SettingName.TheVariants as names

abbrev pub setting_named : List ℕ → Option SettingName
setting_named name =
    if bytes_eq name (codes "enable_partition_pruning") then Some names.PartitionPruning
    else if bytes_eq name (codes "enable_partitionwise_join") then Some names.PartitionwiseJoin
    else if bytes_eq name (codes "enable_partitionwise_aggregate") then Some names.PartitionwiseAggregate
    else if bytes_eq name (codes "enable_hashjoin") then Some names.HashJoin
    else if bytes_eq name (codes "plan_cache_mode") then Some names.CacheMode
    else if bytes_eq name (codes "deadlock_timeout") then Some names.WithoutEffect
    else if bytes_eq name (codes "client_min_messages") then Some names.WithoutEffect
    else None

-- in any case
abbrev pub is_word : List ℕ → List ℕ → Bool
is_word text word = str_eq_ignore_ascii_case text word

abbrev pub truth_of : List ℕ → Option Bool
truth_of text =
    if is_word text (codes "on") || (is_word text (codes "true") || (is_word text (codes "yes") || is_word text (codes "1"))) then Some true
    else if is_word text (codes "off") || (is_word text (codes "false") || (is_word text (codes "no") || is_word text (codes "0"))) then Some false
    else None

abbrev pub mode_of : List ℕ → Option PlanCacheMode
mode_of text =
    if is_word text (codes "auto") then Some Auto
    else if is_word text (codes "force_custom_plan") then Some ForceCustomPlan
    else if is_word text (codes "force_generic_plan") then Some ForceGenericPlan
    else None
