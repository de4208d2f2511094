-- New row versions and ends of old ones may follow.
use Rattle.std.proofs.Common.{◌≡◌, ◌≢◌, ℕ, true, Some, sym, ap, subst, ◌∙◌, slice_get}
use Rattle.history.specs.declared.transaction.Fate.{Fate}
use Rattle.history.specs.declared.transaction.Fate.TheVariants.{Running, Committed}
use Rattle.history.specs.declared.version.Version.{Version}
use Rattle.history.specs.Transactions.{fate}
use Rattle.history.specs.Snapshots.{TakenSnapshot}
use Rattle.history.specs.Presence.{counts}
use Rattle.history.specs.History.{History, tx_events, row_events, catalogue_events, versions}
use Rattle.history.specs.Legal.{IsLegal}
use Rattle.soundness.specs.Versions.{IsVersion}
use Rattle.soundness.specs.Worlds.{HasLeaf}
use Rattle.history.proofs.Settled.{settled_past}
use Rattle.soundness.proofs.Worlds.{view_own}
use Rattle.soundness.proofs.Sees.{counts_in}
use Rattle.soundness.proofs.Looking.{counts_world}
use Rattle.soundness.proofs.Paths.{agree}
use Rattle.soundness.proofs.Sound.{sound_of, version_at}
use Rattle.soundness.proofs.Routes.{SeesWhatCounts, routed_by_sight}
use Rattle.soundness.proofs.CheckPath.{path_passes}
use Rattle.soundness.proofs.Columns.{routed_are_of_columns}
use Rattle.legal_statements.specs.Rows.{IsOwnLook}
use Rattle.legal_statements.specs.Laws.{NewRowMayFollow, OldRowMayFollow}
use Rattle.legal_statements.proofs.Holding.{session_runs, writes_of}

committed_now : (f g : Fate) → f ≡ Committed → (f ≢ Running → g ≡ f) → g ≡ Committed
committed_now f g is settled = settled (λ runs. let both : Committed ≡ Running = sym is ∙ runs in cc) ∙ is

-- what was committed at the snapshot's place, and what its transaction did, counts
pub sees_what_counts : (h : History) (session : ℕ) (s : TakenSnapshot) → IsLegal h → IsOwnLook h session s → SeesWhatCounts h session s
sees_what_counts h session s legal look t c seen =
    let txs = tx_events h in
    let sound = sound_of h legal in
    let runs = (session_runs h session s.tx legal look.own).runs in
    let mine : counts txs session s.tx ≡ true = agree txs session s.tx s.tx look.own runs ∙ view_own txs s.tx runs in
    counts_in txs (counts txs session) s t c (counts_world txs session sound) mine (λ u is. committed_now (fate s.past u) (fate txs u) is (settled_past txs s.past u sound look.past)) seen

pub new_row_may_follow : NewRowMayFollow
new_row_may_follow h session table s v legal permitted new = (
  record {
    legal = record { number = new.number; leaf = new.stored.leaf; by = session_runs h session v.by.number legal new.own };
    in_order = new.command;
    permitted = record {
      locked = λ x at. writes_of h session v.by.number x legal new.own (new.stored.locked x at);
      columns = λ x at. routed_are_of_columns h session table x s v.leaf v.row legal permitted new.made new.stored.routed new.stored.columns at;
      routed = λ x at. routed_by_sight h session v.by.number table x s v.leaf v.row legal permitted (sees_what_counts h session s legal new.look) new.own new.made new.stored.placed new.stored.routed at;
      passes = λ x at. path_passes h session v.by.number x v.row legal permitted new.own (new.stored.passes x at);
    };
  },
  tt,
)

-- there is one version of that number
same_version : (h : History) (k : ℕ) (v w : Version) → IsLegal h → IsVersion (row_events h) v → v.id.number ≡ k → slice_get (versions h) k ≡ Some w → w ≡ v
same_version h k v w legal is at there =
    let mine : slice_get (versions h) k ≡ Some v = ap (slice_get (versions h)) (sym at) ∙ version_at h v legal is in
    let both : Some w ≡ Some v = sym there ∙ mine in cc

pub old_row_may_follow : OldRowMayFollow
old_row_may_follow h session k e legal old = (
  record {
    legal = old.sound;
    in_order = old.command;
    permitted = record {
      locked = λ v x is at leaf.
          let same = same_version h k v old.sound.version legal is at old.sound.there in
          writes_of h session e.by.number x legal old.own (old.locked x (subst (λ (w : Version). HasLeaf (catalogue_events h) x w.leaf) (sym same) leaf));
    };
  },
  tt,
)
