-- A row that passes the CHECKs of its leaf's path, and that the entries there accept, passes those of each world.
use Rattle.std.proofs.Common.{◌≡◌, ℕ, zero, true, ◌∷◌, inl, inr, refl, sym, subst, List}
use Rattle.pg_values.specs.declared.value.Value.{Value}
use Rattle.history.specs.declared.version.Version.{Version}
use Rattle.history.specs.declared.version.End.{End}
use Rattle.history.specs.Transactions.{IsRunning}
use Rattle.history.specs.Rows.{LeafAdded, RowBorn, RowEnded}
use Rattle.history.specs.History.{History, tx_events, snapshot_events, row_events, catalogue_events, lock_events}
use Rattle.soundness.specs.Worlds.{World, IsWorld, view, HasLeaf, Under, AcceptAbove}
use Rattle.soundness.specs.Parts.{WritesIn, InvariantOf}
use Rattle.soundness.proofs.Worlds.{split, other_sym}
use Rattle.soundness.proofs.Held.{clash_write, write_here}
use Rattle.soundness.proofs.Under.{under_above}
use Rattle.soundness.proofs.Rows.{above_written, ended_shows}
use Rattle.soundness.specs.Kept.{PassAbove, Checks, ChecksOf}
use Rattle.soundness.specs.Legal.{MayBear}
use Rattle.soundness.proofs.CheckRepeats.{passes_of, entry_mine}

pub pass_up : (h : History) (w : World) (t x : ℕ) (row : List Value) → InvariantOf h → ChecksOf h → IsWorld (tx_events h) w → IsRunning (tx_events h) t → w t ≡ true → WritesIn h (view (tx_events h) t) t x
    → AcceptAbove (catalogue_events h) (view (tx_events h) t) x row → PassAbove (catalogue_events h) (view (tx_events h) t) x row → PassAbove (catalogue_events h) w x row
pass_up h w t x row i k world acts own locked accept pass c n counts low =
    let writes = write_here h w t x world acts own locked in
    let to = above_written h w t x i world acts own writes in
    let way = under_above (catalogue_events h) (catalogue_events h) w (view (tx_events h) t) x to n zero c.table.number x refl low in
    elim (split (tx_events h) w t c.by.number world counts.1) [
      | inl mine ↦ pass c n (counts.0, mine) way
      | inr other ↦
          let r = k.opened.repeated c counts.0 other.0 in
          let e = r.0 in
          let down : Under (catalogue_events h) w n e.child.number x = subst (λ z. Under (catalogue_events h) w n z x) (sym r.1.repeats.child) low in
          let mine = entry_mine h w t c e world other.0 other.1 counts.1 r.1 (λ runs apart. clash_write h w e.by.number t x i world runs acts.runs (other_sym (tx_events h) t e.by.number apart) (i.open_entries.below w e n x world r.1.entry runs (r.1.born w world counts.1) down) writes) in
          let here : Under (catalogue_events h) (view (tx_events h) t) n e.child.number x = subst (λ z. Under (catalogue_events h) (view (tx_events h) t) n z x) (sym r.1.repeats.child) way in
          passes_of (catalogue_events h) (view (tx_events h) t) c e row r.1.repeats (accept e n mine here)
    ]

born_passes : (h : History) (v : Version) (w : World) (x : ℕ) → IsRunning (tx_events h) v.by.number → MayBear h v → InvariantOf h → ChecksOf h → IsWorld (tx_events h) w → w v.by.number ≡ true → HasLeaf (catalogue_events h) x v.leaf → PassAbove (catalogue_events h) w x v.row
born_passes h v w x acts may i k world own at = pass_up h w v.by.number x v.row i k world acts own (may.locked x at) (may.routed x at) (may.passes x at)

pub born_checks : (h : History) (v : Version) → IsRunning (tx_events h) v.by.number → MayBear h v → InvariantOf h → ChecksOf h → Checks (tx_events h) (snapshot_events h) (RowBorn v ∷ row_events h) (catalogue_events h) (lock_events h)
born_checks h v acts may i k = record {
  opened = k.opened;
  two = k.two;
  checked = λ w y x world is shows at. elim is [
    | inl new ↦ subst (λ (z : Version). PassAbove (catalogue_events h) w x z.row) new
        (born_passes h v w x acts may i k world (subst (λ (z : Version). w z.by.number ≡ true) (sym new) shows.0) (subst (λ (z : Version). HasLeaf (catalogue_events h) x z.leaf) (sym new) at))
    | inr old ↦ k.checked w y x world old shows at
  ];
}

pub ended_checks : (h : History) (n : ℕ) (y : End) → ChecksOf h → Checks (tx_events h) (snapshot_events h) (RowEnded n y ∷ row_events h) (catalogue_events h) (lock_events h)
ended_checks h n y k = record {
  opened = k.opened;
  two = k.two;
  checked = λ w v x world is shows at. k.checked w v x world is (ended_shows (tx_events h) (snapshot_events h) (row_events h) n y w v shows) at;
}

pub leaf_checks : (h : History) (l : ℕ) → ChecksOf h → Checks (tx_events h) (snapshot_events h) (LeafAdded l ∷ row_events h) (catalogue_events h) (lock_events h)
leaf_checks h l k = record { opened = k.opened; two = k.two; checked = k.checked }
