-- An entry that is added: what is below it passes the CHECKs above it.
use Rattle.std.proofs.Common.{◌≡◌, ℕ, ◌∷◌, true, inl, inr, sym, subst}
use Rattle.history.specs.declared.version.Version.{Version}
use Rattle.history.specs.declared.catalogue.Entry.{Entry}
use Rattle.history.specs.declared.catalogue.Check.{Check}
use Rattle.history.specs.Catalogue.{EntryAdded}
use Rattle.history.specs.History.{History, tx_events, snapshot_events, row_events, catalogue_events, lock_events}
use Rattle.soundness.specs.Versions.{IsVersion}
use Rattle.soundness.specs.Worlds.{World, IsWorld, HasLeaf, Under, view}
use Rattle.soundness.specs.Shown.{MayShow}
use Rattle.soundness.specs.Parts.{InvariantOf}
use Rattle.soundness.proofs.Worlds.{split}
use Rattle.soundness.proofs.Held.{clash, guarding, guard_here}
use Rattle.soundness.proofs.Added.{new_way, below_view, above_view, old_way_up}
use Rattle.soundness.proofs.AddedFit.{judged}
use Rattle.soundness.specs.Kept.{Passes, CountsIn, Checks, ChecksOf}
use Rattle.soundness.specs.Legal.{MayAdd}
use Rattle.soundness.proofs.CheckRepeats.{passes_of, entry_mine}

passes_through : (h : History) (e : Entry) (w : World) (v : Version) (x m n : ℕ) (c : Check) → MayAdd h e → InvariantOf h → ChecksOf h → IsWorld (tx_events h) w → w e.by.number ≡ true → IsVersion (row_events h) v → MayShow (tx_events h) (snapshot_events h) (row_events h) w v
    → HasLeaf (catalogue_events h) x v.leaf → CountsIn (catalogue_events h) w c → Under (catalogue_events h) w m c.table.number e.parent.number → Under (catalogue_events h) w n e.child.number x → Passes c v.row
passes_through h e w v x m n c may i k world own is shows at counts up low =
    let t = e.by.number in
    let acts = may.place.acts in
    let way = below_view h e w may i world own n x low in
    let j = judged h t w v x i world acts own at (may.child_locked n x way) is shows in
    let way_up = above_view h e w may i world own m c.table.number up in
    elim (split (tx_events h) w t c.by.number world counts.1) [
      | inl mine ↦ may.passes v n x is at way j c m (counts.0, mine) way_up
      | inr other ↦
          let r = k.opened.repeated c counts.0 other.0 in
          let f = r.0 in
          let down : Under (catalogue_events h) w m f.child.number e.parent.number = subst (λ z. Under (catalogue_events h) w m z e.parent.number) (sym r.1.repeats.child) up in
          let mine = entry_mine h w t c f world other.0 other.1 counts.1 r.1 (λ runs apart. clash h w t f.by.number e.parent.number i world acts.runs runs apart (guard_here h w t e.parent.number world acts own may.place.parent_locked) (guarding h w f.by.number e.parent.number (i.open_entries.below w f m e.parent.number world r.1.entry runs (r.1.born w world counts.1) down))) in
          let here : Under (catalogue_events h) (view (tx_events h) t) m f.child.number e.parent.number = subst (λ z. Under (catalogue_events h) (view (tx_events h) t) m z e.parent.number) (sym r.1.repeats.child) way_up in
          passes_of (catalogue_events h) (view (tx_events h) t) c f v.row r.1.repeats ((may.scanned v n x is at way j).1 f m mine here)
    ]

pub added_checks : (h : History) (e : Entry) → MayAdd h e → InvariantOf h → ChecksOf h → Checks (tx_events h) (snapshot_events h) (row_events h) (EntryAdded e ∷ catalogue_events h) (lock_events h)
added_checks h e may i k = record {
  opened = record {
    repeated = λ c is runs.
        let r = k.opened.repeated c is runs in (
          r.0,
          record {
            entry = inr r.1.entry;
            repeats = record { child = r.1.repeats.child; level = r.1.repeats.level; bound = r.1.repeats.bound; named = r.1.repeats.named };
            born = r.1.born;
            guarded = r.1.guarded;
            unended = r.1.unended;
          },
        );
    owned = k.opened.owned;
  };
  two = λ w world c d a b. k.two w world c d a b;
  checked = λ w v x world is shows at c n counts low. elim (new_way e (catalogue_events h) w n c.table.number x low) [
    | inl before ↦ k.checked w v x world is shows at c n counts before
    | inr through ↦ passes_through h e w v x through.1.0 through.2.0 c may i k world through.0 is shows at counts (old_way_up h e w may i world through.0 through.1.0 c.table.number through.1.1) through.2.1
  ];
}
