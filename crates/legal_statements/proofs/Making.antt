-- New tables may follow.
use Rattle.std.proofs.Common.{◌≡◌, ◌≢◌, ◌<◌, [], ◌∷◌, inl, inr, ap, sym, subst, ◌∙◌, arith}
use Rattle.pg_values.specs.declared.ids.LeafId.{LeafId}
use Rattle.bound_forms.specs.declared.level.Level.{Level}
use Rattle.history.specs.declared.version.Version.{Version}
use Rattle.history.specs.declared.catalogue.Table.{Table}
use Rattle.history.specs.declared.catalogue.TableShape.TheVariants.{Leaf, Level as Levels}
use Rattle.history.specs.Rows.{LeafAdded, RowBorn, RowEnded, leaf_count}
use Rattle.history.specs.Catalogue.{TableMade, TableDropped, EntryAdded, EntryEnded, EntryMarked, CheckKept}
use Rattle.history.specs.History.{History, TxChange, SnapshotChange, RowChange, CatalogueChange, LockChange, row_events, catalogue_events}
use Rattle.history.specs.Legal.{IsLegal}
use Rattle.soundness.specs.Versions.{IsVersion}
use Rattle.soundness.proofs.Made.{leaf_was}
use Rattle.legal_statements.specs.Tables.{IsNextLeaf}
use Rattle.legal_statements.specs.Laws.{NewLeafMayFollow, NewLevelMayFollow, LeavesStayThere}
use Rattle.legal_statements.proofs.Following.{no_command}
use Rattle.legal_statements.proofs.Holding.{session_runs}
use Rattle.legal_statements.proofs.Names.{free_name, unclaimed_name}

-- versions lie in leaves that were added
versions_lie : (h : History) (v : Version) → IsLegal h → IsVersion (row_events h) v → v.leaf.number < leaf_count (row_events h)
versions_lie [] v legal is = absurd is
versions_lie (TxChange e ∷ h) v legal is = versions_lie h v legal.2 is
versions_lie (SnapshotChange e ∷ h) v legal is = versions_lie h v legal.2 is
versions_lie (CatalogueChange e ∷ h) v legal is = versions_lie h v legal.2 is
versions_lie (LockChange e ∷ h) v legal is = versions_lie h v legal.2 is
versions_lie (RowChange (LeafAdded l) ∷ h) v legal is = let lt = versions_lie h v legal.2 is in omega (arith, lt)
versions_lie (RowChange (RowEnded k e) ∷ h) v legal is = versions_lie h v legal.2 is
versions_lie (RowChange (RowBorn w) ∷ h) v legal (inr old) = versions_lie h v legal.2 old
versions_lie (RowChange (RowBorn w) ∷ h) v legal (inl new) = subst (λ (x : Version). x.leaf.number < leaf_count (row_events h)) new legal.0.leaf

same_leaf : (table : Table) (leaf other : LeafId) → table.shape ≡ Leaf leaf → table.shape ≡ Leaf other → leaf ≡ other
same_leaf table leaf other a b = let both : Leaf leaf ≡ Leaf other = sym a ∙ b in cc

-- the next leaf is none that was added
another_leaf : (h : History) (table : Table) (leaf other : LeafId) → IsNextLeaf h table leaf → other.number < leaf_count (row_events h) → table.shape ≢ Leaf other
another_leaf h table leaf other next lt is =
    let same = ap (λ (z : LeafId). z.number) (same_leaf table leaf other next.shape is) in
    let n = next.number in
    omega (arith, same, n, lt)

no_leaf : (table : Table) (level : Level) (leaf : LeafId) → table.shape ≡ Levels level → table.shape ≢ Leaf leaf
no_leaf table level leaf a b = let both : Levels level ≡ Leaf leaf = sym a ∙ b in cc

pub new_leaf_may_follow : NewLeafMayFollow
new_leaf_may_follow h session table leaf legal there new next = (
  (
    record {
      legal = (new.number, new.keys);
      in_order = (tt, new.command);
      permitted = record {
        acts = session_runs h session table.by.number legal new.own;
        empty = λ v is. another_leaf h table leaf v.leaf next (versions_lie h v legal is);
        only = λ x other at. another_leaf h table leaf other next (there x other at);
        free = free_name h session table.by.number table.name legal new.own new.free;
        unclaimed = unclaimed_name h session table.by.number table.name new.own new.unclaimed;
      };
    },
    (record { legal = next.number; in_order = no_command h; permitted = tt }, tt),
  ),
  λ x other at. elim (leaf_was table (catalogue_events h) x other at) [
    | inl its ↦ let same = ap (λ (z : LeafId). z.number) (same_leaf table leaf other next.shape its) in let n = next.number in omega (arith, same, n)
    | inr old ↦ let lt = there x other old in omega (arith, lt)
  ],
)

pub new_level_may_follow : NewLevelMayFollow
new_level_may_follow h session table level legal there new shape = (
  (
    record {
      legal = (new.number, new.keys);
      in_order = new.command;
      permitted = record {
        acts = session_runs h session table.by.number legal new.own;
        empty = λ v is. no_leaf table level v.leaf shape;
        only = λ x other at. no_leaf table level other shape;
        free = free_name h session table.by.number table.name legal new.own new.free;
        unclaimed = unclaimed_name h session table.by.number table.name new.own new.unclaimed;
      };
    },
    tt,
  ),
  λ x other at. elim (leaf_was table (catalogue_events h) x other at) [
    | inl its ↦ absurd (no_leaf table level other shape its)
    | inr old ↦ there x other old
  ],
)

pub leaves_stay_there : LeavesStayThere
leaves_stay_there (TxChange e) h none there x leaf at = there x leaf at
leaves_stay_there (SnapshotChange e) h none there x leaf at = there x leaf at
leaves_stay_there (LockChange e) h none there x leaf at = there x leaf at
leaves_stay_there (RowChange (LeafAdded l)) h none there x leaf at = let lt = there x leaf at in omega (arith, lt)
leaves_stay_there (RowChange (RowBorn v)) h none there x leaf at = there x leaf at
leaves_stay_there (RowChange (RowEnded k e)) h none there x leaf at = there x leaf at
leaves_stay_there (CatalogueChange (TableMade table)) h none there x leaf at = elim (leaf_was table (catalogue_events h) x leaf at) [ inl its ↦ absurd (none leaf its) | inr old ↦ there x leaf old ]
leaves_stay_there (CatalogueChange (TableDropped k s)) h none there x leaf at = there x leaf at
leaves_stay_there (CatalogueChange (EntryAdded e)) h none there x leaf at = there x leaf at
leaves_stay_there (CatalogueChange (EntryEnded k s)) h none there x leaf at = there x leaf at
leaves_stay_there (CatalogueChange (EntryMarked k s)) h none there x leaf at = there x leaf at
leaves_stay_there (CatalogueChange (CheckKept c)) h none there x leaf at = there x leaf at
