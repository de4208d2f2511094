-- Which rows stand against a new partition: what is judged of a table before it is attached, and of a default partition
-- before another one is made beside it (the manual, ALTER TABLE, ATTACH PARTITION, and 13.2).
use Rattle.std.specs.Prelude.{◌≡◌, ℕ, ◌==◌, ◌&&◌, ◌||◌, not, Bool, true, false, List, Option, Some, None, map, filter, find, slice_index_or}
use Rattle.std.specs.List.{list_any, flat_map, Contains}
use Rattle.pg_values.specs.declared.value.Value.{Value}
use Rattle.pg_values.specs.Sets.{has}
use Rattle.pg_values.specs.declared.ids.LeafId.{LeafId}
use Rattle.pg_values.specs.declared.ids.RowId.{RowId}
use Rattle.pg_values.specs.declared.session_set.SessionSet.{SessionSet}
use Rattle.history.specs.declared.transaction.Fate.TheVariants.{Running}
use Rattle.history.specs.declared.version.Version.{Version}
use Rattle.history.specs.declared.version.End.{End}
use Rattle.history.specs.Transactions.{TxEvents, fate, is_committed, sees_now}
use Rattle.history.specs.History.{History, tx_events, end_of}
use Rattle.history.specs.Dead.{is_held_seen}
use Rattle.tx_table.specs.Kept.{KeptTable, KeptSnapshot}
use Rattle.tx_table.specs.Stands.{sees_now_by}
use Rattle.row_store.specs.declared.stored.Stored.{Stored}
use Rattle.row_store.specs.declared.judge.Verdict.{Verdict}
use Rattle.row_store.specs.declared.judge.Verdict.TheVariants.{Clean, Violator, Seen}
use Rattle.row_store.specs.Kept.{KeptRows, version_of, listed_in}
use Rattle.row_store.specs.Stands.{born_in, counts, shows_by}

-- an end of a version counts for a scan by transaction me: it is committed, or me's own, and the version too
abbrev pub ends_for : TxEvents → (me : ℕ) → Version → Option End → Bool
ends_for txs me v None = false
ends_for txs me v (Some e) = is_committed (fate txs e.by.number) || ((e.by.number == me) && (v.by.number == me))

-- the version is live for such a scan: its birth is committed or own, and no end of it counts
abbrev pub is_live : History → (me : ℕ) → Version → Bool
is_live h me v = sees_now (tx_events h) me v.by.number && not (ends_for (tx_events h) me v (end_of h v.id.number))

-- the versions of a leaf, in order of birth; and those of a list of leaves, leaf by leaf
abbrev pub versions_in : History → LeafId → List Version
versions_in h leaf = born_in h leaf.number

abbrev pub all_versions_in : History → List LeafId → List Version
all_versions_in h leaves = flat_map (versions_in h) leaves

-- those whose row breaks a test
abbrev pub violators : History → List LeafId → (breaks : List Value → Bool) → List Version
violators h leaves breaks = filter (λ v. breaks v.row) (all_versions_in h leaves)

-- the first of these that is live for the session's transaction me, or that the session's own held snapshot sees
abbrev pub refusing : History → (session me : ℕ) → List LeafId → (breaks : List Value → Bool) → Option Version
refusing h session me leaves breaks = find (λ v. is_live h me v || is_held_seen h session v) (violators h leaves breaks)

-- session r is another one, and its held snapshot sees one of these
abbrev pub seeing : History → (session : ℕ) → List LeafId → (breaks : List Value → Bool) → (r : ℕ) → Bool
seeing h session leaves breaks r = not (r == session) && list_any (is_held_seen h r) (violators h leaves breaks)

-- the verdict: the row that refuses; else the other sessions that see a violator, if there are any
abbrev pub IsVerdict : History → (session me : ℕ) → List LeafId → (breaks : List Value → Bool) → Verdict → Type 0
IsVerdict h session me leaves breaks Clean = (refusing h session me leaves breaks ≡ None) × ((r : ℕ) → seeing h session leaves breaks r ≡ false)
IsVerdict h session me leaves breaks (Violator row) = (v : Version) × (refusing h session me leaves breaks ≡ Some v) × (row.now ≡ v.row)
IsVerdict h session me leaves breaks (Seen others) = (refusing h session me leaves breaks ≡ None) × ((r : ℕ) → has others r ≡ seeing h session leaves breaks r) × ((r : ℕ) × (has others r ≡ true))

-- the verdict where no row refuses: nobody is in the set, or it is told
abbrev pub IsFound : SessionSet → Verdict → Type 0
IsFound others Clean = (r : ℕ) → has others r ≡ false
IsFound others (Violator row) = ⊥
IsFound others (Seen told) = (told ≡ others) × ((r : ℕ) × (has others r ≡ true))

-- the row of each version in these leaves suits
abbrev pub AreSuited : KeptRows → List LeafId → (suits : List Value → Type 0) → Type 0
AreSuited kept leaves suits = (v : Version) → Contains (map version_of kept.stored) v → Contains leaves v.leaf → suits v.row

-- ---- the same, told from what is kept

abbrev pub ends_for_by : KeptTable → (me : ℕ) → Version → Option End → Bool
ends_for_by table me v None = false
ends_for_by table me v (Some e) = counts (slice_index_or table.fates e.by.number Running) && (is_committed (slice_index_or table.fates e.by.number Running) || ((e.by.number == me) && (v.by.number == me)))

abbrev pub is_live_by : KeptTable → (me : ℕ) → Stored → Bool
is_live_by table me x = sees_now_by table me x.version.by.number && not (ends_for_by table me x.version x.ended)

abbrev pub shows_if_held : KeptTable → Option KeptSnapshot → Stored → Bool
shows_if_held table None x = false
shows_if_held table (Some snap) x = shows_by table snap x

abbrev pub is_held_shown : KeptTable → (session : ℕ) → Stored → Bool
is_held_shown table session x = shows_if_held table (slice_index_or table.held session None) x

abbrev pub refuses_by : KeptTable → (session me : ℕ) → Stored → Bool
refuses_by table session me x = is_live_by table me x || is_held_shown table session x

-- what a list of leaves lists, leaf by leaf
abbrev pub all_listed_in : List Stored → List (List RowId) → List LeafId → List Stored
all_listed_in stored lists leaves = flat_map (λ leaf. listed_in stored lists leaf.number) leaves

-- of these versions the first that breaks the test and refuses
abbrev pub refusing_by : KeptTable → (session me : ℕ) → (breaks : List Value → Bool) → List Stored → Option Stored
refusing_by table session me breaks xs = find (λ x. breaks x.version.row && refuses_by table session me x) xs

-- another session sees one that breaks the test
abbrev pub seeing_by : KeptTable → (session : ℕ) → (breaks : List Value → Bool) → List Stored → (r : ℕ) → Bool
seeing_by table session breaks xs r = not (r == session) && list_any (λ x. breaks x.version.row && is_held_shown table r x) xs
