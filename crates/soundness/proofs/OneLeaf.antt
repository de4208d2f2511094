-- Each row that a snapshot is shown in a leaf of a tree is accepted by that leaf, and by no other one of the tree.
use Rattle.std.proofs.Common.{◌≡◌, ℕ, zero, suc, ◌==◌, ◌&&◌, arith, true, [], ◌∷◌, inl, inr, refl, ap, sym, subst, ◌∙◌, Result, Ok, Err, get_or}
use Rattle.std.specs.List.{All, Contains}
use Rattle.std.proofs.lemmas.Bool.{and_parts}
use Rattle.std.proofs.lemmas.Bool.Decides.{nat_tests}
use Rattle.std.proofs.lemmas.List.Elements.{All-append, All-cons, All-nil, All-filter, filter_passes}
use Rattle.pg_values.specs.declared.ids.LeafId.{LeafId}
use Rattle.history.specs.declared.version.Version.{Version}
use Rattle.history.specs.Snapshots.{TakenSnapshot}
use Rattle.history.specs.Rows.{RowEvents, LeafAdded, RowBorn, RowEnded, births}
use Rattle.history.specs.History.{History, tx_events, row_events, catalogue_events, versions, is_seen, seen}
use Rattle.history.specs.Presence.{counts, entries_shown}
use Rattle.history.specs.Legal.{IsLegal}
use Rattle.row_router.specs.declared.tree.NoPartition.{NoPartition}
use Rattle.row_router.specs.Trees.{leaves, accepting, routed, found_leaf}
use Rattle.row_router.specs.Histories.{tree_of}
use Rattle.row_router.proofs.OneLeaf.{one_leaf}
use Rattle.row_router.proofs.Sound.{tree_sound}
use Rattle.history.specs.Catalogue.{tables_made}
use Rattle.history.specs.Places.{table_at}
use Rattle.soundness.specs.Versions.{IsVersion}
use Rattle.soundness.specs.Worlds.{IsMade, HasLeaf, AcceptAbove}
use Rattle.soundness.specs.Parts.{InvariantOf}
use Rattle.soundness.specs.Laws.{IsLooking, SessionsHaveSiblings, OneLeafAccepts}
use Rattle.soundness.proofs.Sound.{sound_of, catalogue_sound_of}
use Rattle.soundness.proofs.Looking.{counts_world, looking_shows}
use Rattle.soundness.proofs.Presence.{all_more, all_shown, present_siblings}
use Rattle.soundness.proofs.Trees.{accepts_there}
use Rattle.soundness.proofs.All.{legal_keeps_all}

pub all_versions : (rows : RowEvents) → All (IsVersion rows) (births rows)
all_versions [] = All-nil (IsVersion [])
all_versions (LeafAdded l ∷ rows) = all_versions rows
all_versions (RowEnded k e ∷ rows) = all_versions rows
all_versions (RowBorn v ∷ rows) = All-append (IsVersion (RowBorn v ∷ rows)) (births rows) (v ∷ []) (all_more (IsVersion rows) (IsVersion (RowBorn v ∷ rows)) (births rows) (λ x is. inr is) (all_versions rows)) (All-cons (IsVersion (RowBorn v ∷ rows)) v [] (inl refl) (All-nil (IsVersion (RowBorn v ∷ rows))))

only_found : (leaf : LeafId) (r : Result LeafId NoPartition) → Contains (found_leaf r) leaf → found_leaf r ≡ leaf ∷ []
only_found leaf (Ok own) (zero, lt, at) = ap (λ (l : LeafId). l ∷ []) at
only_found leaf (Ok own) (suc k, lt, at) = absurd (omega (arith, lt))
only_found leaf (Err f) (k, lt, at) = absurd (omega (arith, lt))

same_leaf : (a b : LeafId) → a.number ≡ b.number → a ≡ b
same_leaf a b is = ap (λ n. record { number = n }) is

leaf_accepts : (h : History) (session table : ℕ) (s : TakenSnapshot) (leaf : LeafId) (v : Version) → IsLegal h → InvariantOf h → IsLooking h session s → IsMade (catalogue_events h) table → Contains (leaves (tree_of h session table s)) leaf
    → IsVersion (row_events h) v → is_seen h s v ≡ true → v.leaf ≡ leaf → Contains (accepting v.row (tree_of h session table s)) leaf
unfolding Rattle.row_router.specs.Histories.tree_of
leaf_accepts h session table s leaf v legal i looking made at is shown same =
    let world = counts_world (tx_events h) session (sound_of h legal) in
    let fit = i.fit (counts (tx_events h) session) v world is (looking_shows h session s v legal i looking is shown) in
    let accept : (x : ℕ) → HasLeaf (catalogue_events h) x leaf → AcceptAbove (catalogue_events h) (counts (tx_events h) session) x v.row = λ x own. fit x (subst (λ (l : LeafId). HasLeaf (catalogue_events h) x l) (sym same) own) in
    accepts_there (catalogue_events h) (counts (tx_events h) session) v.row leaf (entries_shown h session s) table (all_shown h session s (sound_of h legal) (catalogue_sound_of h legal)) (λ e p. (i.entries.suited e p.0).child) accept made at

pub sessions_have_siblings : SessionsHaveSiblings
sessions_have_siblings h session legal permitted =
    let i = legal_keeps_all h legal permitted in
    present_siblings h session (sound_of h legal) (catalogue_sound_of h legal) (i.siblings (counts (tx_events h) session) (counts_world (tx_events h) session (sound_of h legal)))

pub one_leaf_accepts : OneLeafAccepts
one_leaf_accepts h legal permitted session table s leaf looking made at k d lt =
    let i = legal_keeps_all h legal permitted in
    let v : Version = get_or (seen h leaf.number s) k d in
    let test = filter_passes (λ (v : Version). (v.leaf.number == leaf.number) && is_seen h s v) (versions h) k d lt in
    let is = All-filter (λ (v : Version). (v.leaf.number == leaf.number) && is_seen h s v) (IsVersion (row_events h)) (versions h) (all_versions (row_events h)) k d lt in
    let parts = and_parts (v.leaf.number == leaf.number) (is_seen h s v) test in
    let same : v.leaf.number ≡ leaf.number = grind (arith, nat_tests, parts.0) in
    let accepts = leaf_accepts h session table s leaf v legal i looking made at is parts.1 (same_leaf v.leaf leaf same) in
    let sound = tree_sound h session table s (catalogue_sound_of h legal) (sessions_have_siblings h session legal permitted) in
    let one = one_leaf (table_at (tables_made (catalogue_events h)) table).columns v.row (tree_of h session table s) sound in
    one ∙ only_found leaf (routed v.row (tree_of h session table s)) (subst (λ l. Contains l leaf) one accepts)
