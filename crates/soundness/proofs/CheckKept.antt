-- A CHECK that is kept says of each row what the entry said that it repeats.
use Rattle.std.proofs.Common.{◌≡◌, ℕ, ◌∷◌, true, false, inl, inr, ap, sym, subst, ◌∙◌}
use Rattle.std.proofs.lemmas.Bool.{cases_Bool}
use Rattle.history.specs.declared.version.Version.{Version}
use Rattle.history.specs.declared.catalogue.Entry.{Entry}
use Rattle.history.specs.declared.catalogue.Check.{Check}
use Rattle.history.specs.Catalogue.{IsEntryEnd, CheckKept}
use Rattle.history.specs.History.{History, tx_events, snapshot_events, row_events, catalogue_events, lock_events}
use Rattle.soundness.specs.Versions.{IsVersion}
use Rattle.soundness.specs.Worlds.{World, IsWorld, HasLeaf, Present, Under, view}
use Rattle.soundness.specs.Shown.{MayShow}
use Rattle.soundness.specs.Parts.{OwnsIn, GuardsIn, InvariantOf}
use Rattle.soundness.proofs.Worlds.{both_ways, split, inside, alive, alive_world}
use Rattle.soundness.proofs.Held.{clash, guarding, guard_here, own_here}
use Rattle.soundness.proofs.Under.{under_map}
use Rattle.soundness.specs.Kept.{Passes, CountsIn, IsRepeated, Checks, ChecksOf}
use Rattle.soundness.specs.Legal.{MayKeep}
use Rattle.soundness.proofs.CheckRepeats.{passes_of}
use Rattle.soundness.proofs.CheckTables.{alive_of}

-- nobody has ended the entry, in any world
no_end : (h : History) (c : Check) → (may : MayKeep h c) → InvariantOf h → (w : World) (u : ℕ) → IsWorld (tx_events h) w → IsEntryEnd (catalogue_events h) may.from_entry.0.id.number u → w u ≡ false
no_end h c may i w u world end =
    let e = may.from_entry.0 in
    let t = c.by.number in
    let has = may.from_entry.1.has in
    elim (cases_Bool (w u)) [
      | inr out ↦ out
      | inl counts ↦ elim (split (tx_events h) w t u world counts) [
        | inl mine ↦ absurd (both_ways (view (tx_events h) t u) mine (has.2 u end))
        | inr other ↦
            let all = alive_world (tx_events h) in
            let here = guard_here h (alive (tx_events h)) t e.parent.number all may.acts (alive_of (tx_events h) t may.acts.runs) may.from_entry.1.guarded in
            let there = i.open_entries.ended (alive (tx_events h)) e u all has.0 end other.0 (alive_of (tx_events h) u other.0) in
            absurd (clash h (alive (tx_events h)) t u e.parent.number i all may.acts.runs other.0 other.1 here there)
      ]
    ]

is_repeated : (h : History) (c : Check) → (may : MayKeep h c) → InvariantOf h → IsRepeated (tx_events h) (CheckKept c ∷ catalogue_events h) (lock_events h) c may.from_entry.0
is_repeated h c may i = record {
  entry = may.from_entry.1.has.0;
  repeats = record { child = may.from_entry.1.repeats.child; level = may.from_entry.1.repeats.level; bound = may.from_entry.1.repeats.bound; named = may.from_entry.1.repeats.named };
  born = λ w world counts. inside (tx_events h) w c.by.number world may.acts counts may.from_entry.0.by.number may.from_entry.1.has.1;
  guarded = λ w world counts. guard_here h w c.by.number may.from_entry.0.parent.number world may.acts counts may.from_entry.1.guarded;
  unended = λ w u world out end. no_end h c may i w u world end;
}

still : (h : History) (c d : Check) (e : Entry) → IsRepeated (tx_events h) (catalogue_events h) (lock_events h) d e → IsRepeated (tx_events h) (CheckKept c ∷ catalogue_events h) (lock_events h) d e
still h c d e r = record {
  entry = r.entry;
  repeats = record { child = r.repeats.child; level = r.repeats.level; bound = r.repeats.bound; named = r.repeats.named };
  born = r.born;
  guarded = r.guarded;
  unended = r.unended;
}

-- what may be shown passes the new CHECK: its entry is there in each world that the CHECK counts in
passes_new : (h : History) (c : Check) (w : World) (v : Version) (x n : ℕ) → MayKeep h c → InvariantOf h → IsWorld (tx_events h) w → w c.by.number ≡ true → IsVersion (row_events h) v → MayShow (tx_events h) (snapshot_events h) (row_events h) w v
    → HasLeaf (catalogue_events h) x v.leaf → Under (catalogue_events h) w n c.table.number x → Passes c v.row
passes_new h c w v x n may i world counts is shows at low =
    let e = may.from_entry.0 in
    let has = may.from_entry.1.has in
    let here : Present (catalogue_events h) w e = (has.0, inside (tx_events h) w c.by.number world may.acts counts e.by.number has.1, λ u end. no_end h c may i w u world end) in
    let down : Under (catalogue_events h) w n e.child.number x = subst (λ z. Under (catalogue_events h) w n z x) (sym may.from_entry.1.repeats.child) low in
    passes_of (catalogue_events h) w c e v.row may.from_entry.1.repeats (i.fit w v world is shows x at e n here down)

-- no other CHECK of the table says the same, in any world of the transaction
none_same : (h : History) (c d : Check) (w : World) → MayKeep h c → InvariantOf h → ChecksOf h → IsWorld (tx_events h) w → w c.by.number ≡ true → CountsIn (catalogue_events h) w d → d.table.number ≡ c.table.number → d.kept ≡ c.kept → ⊥
none_same h c d w may i k world own counts same says = elim (split (tx_events h) w c.by.number d.by.number world counts.1) [
  | inl mine ↦ may.another d (counts.0, mine) same says
  | inr other ↦
      let here = guarding h w c.by.number c.table.number (own_here h w c.by.number c.table.number world may.acts own may.locked) in
      let there = guarding h w d.by.number d.table.number (k.opened.owned w d world counts.0 other.0 counts.1) in
      clash h w c.by.number d.by.number d.table.number i world may.acts.runs other.0 other.1 (subst (λ z. GuardsIn h w c.by.number z) (sym same) here) there
]

pub kept_checks : (h : History) (c : Check) → MayKeep h c → InvariantOf h → ChecksOf h → Checks (tx_events h) (snapshot_events h) (row_events h) (CheckKept c ∷ catalogue_events h) (lock_events h)
kept_checks h c may i k =
    let under = λ (w : World) (n top y : ℕ) (is : Under (CheckKept c ∷ catalogue_events h) w n top y). under_map (CheckKept c ∷ catalogue_events h) (catalogue_events h) w w (λ e p. p) n top y is in
    record {
      opened = record {
        repeated = λ d is runs. elim is [
          | inl new ↦ (may.from_entry.0, subst (λ (z : Check). IsRepeated (tx_events h) (CheckKept c ∷ catalogue_events h) (lock_events h) z may.from_entry.0) new (is_repeated h c may i))
          | inr old ↦ let r = k.opened.repeated d old runs in (r.0, still h c d r.0 r.1)
        ];
        owned = λ w d world is runs counts. elim is [
          | inl new ↦ subst (λ (z : Check). OwnsIn h w z.by.number z.table.number) new (own_here h w c.by.number c.table.number world may.acts (subst (λ (z : Check). w z.by.number ≡ true) (sym new) counts) may.locked)
          | inr old ↦ k.opened.owned w d world old runs counts
        ];
      };
      two = λ w world a b ca cb same says. elim ca.0 [
        | inl first ↦ elim cb.0 [
          | inl second ↦ sym first ∙ second
          | inr old ↦ absurd (none_same h c b w may i k world (subst (λ (z : Check). w z.by.number ≡ true) (sym first) ca.1) (old, cb.1) (sym same ∙ ap (λ (z : Check). z.table.number) (sym first)) (sym says ∙ ap (λ (z : Check). z.kept) (sym first)))
        ]
        | inr before ↦ elim cb.0 [
          | inl second ↦ absurd (none_same h c a w may i k world (subst (λ (z : Check). w z.by.number ≡ true) (sym second) cb.1) (before, ca.1) (same ∙ ap (λ (z : Check). z.table.number) (sym second)) (says ∙ ap (λ (z : Check). z.kept) (sym second)))
          | inr old ↦ k.two w world a b (before, ca.1) (old, cb.1) same says
        ]
      ];
      checked = λ w v x world is shows at d n counts low. elim counts.0 [
        | inl new ↦ subst (λ (z : Check). Passes z v.row) new
            (passes_new h c w v x n may i world (subst (λ (z : Check). w z.by.number ≡ true) (sym new) counts.1) is shows at (under w n c.table.number x (subst (λ (z : Check). Under (CheckKept c ∷ catalogue_events h) w n z.table.number x) (sym new) low)))
        | inr old ↦ k.checked w v x world is shows at d n (old, counts.1) (under w n d.table.number x low)
      ];
    }
