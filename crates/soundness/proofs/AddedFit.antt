-- Fit after an entry was added: the scan judged whatever may be shown below it.
use Rattle.std.proofs.Common.{◌≡◌, ◌≢◌, ◌||◌, ℕ, suc, Bool, true, false, ◌∷◌, inl, inr, refl, ap, sym, subst, ◌∙◌, List}
use Rattle.std.proofs.lemmas.Bool.{cases_Bool}
use Rattle.bound_forms.specs.Accepts.{accepts, is_default}
use Rattle.bound_forms.proofs.OverlapLaws.{default_alone}
use Rattle.pg_values.specs.declared.value.Value.{Value}
use Rattle.history.specs.declared.transaction.Fate.{Fate}
use Rattle.history.specs.declared.transaction.Fate.TheVariants.{Running, Committed, Aborted}
use Rattle.history.specs.declared.version.Version.{Version}
use Rattle.history.specs.declared.version.End.{End}
use Rattle.history.specs.declared.catalogue.Entry.{Entry}
use Rattle.history.specs.Transactions.{TxEvents, fate, is_committed, IsRunning}
use Rattle.history.specs.Catalogue.{EntryAdded}
use Rattle.history.specs.History.{History, tx_events, snapshot_events, row_events, catalogue_events}
use Rattle.soundness.specs.Versions.{IsVersion, IsEnd}
use Rattle.soundness.specs.Worlds.{World, IsPart, same_tx, is_running, IsWorld, HasLeaf, Present, Under, Accepts, key_at, view}
use Rattle.soundness.specs.Shown.{MayShow, Shows, IsJudged}
use Rattle.soundness.specs.Parts.{OwnsIn, IsFit, InvariantOf}
use Rattle.soundness.specs.Legal.{MayAdd}
use Rattle.soundness.proofs.Worlds.{both_ways, same_sym, same_trans, split, own_inside, alive, alive_world}
use Rattle.soundness.proofs.Sees.{seen_of, unseen_of}
use Rattle.soundness.proofs.Held.{clash_write, own_here}
use Rattle.soundness.proofs.Under.{under_top, accepts_map}
use Rattle.soundness.proofs.Added.{present_was, new_way, below_view, sibling_view, default_view, above_mine, above_view, above_sibling, old_way_up, old_way_down}

-- an end in a table that the transaction owns counts in each world of it, or its transaction is aborted
pub end_counts_by : (f : Fate) (b : Bool) → (f ≡ Committed → b ≡ true) → (f ≡ Running → b ≡ true) → f ≢ Aborted → b ≡ true
end_counts_by Committed b c r out = c refl
end_counts_by Running b c r out = r refl
end_counts_by Aborted b c r out = absurd (out refl)

alive_running : (f : Fate) → f ≡ Running → (is_committed f || is_running f) ≡ true
alive_running Running is = refl
alive_running Committed is = refl
alive_running Aborted is = absurd (cc)

open_end_counts : (h : History) (t : ℕ) (w : World) (v : Version) (p : ℕ) (x : End) → InvariantOf h → IsWorld (tx_events h) w → IsRunning (tx_events h) t → w t ≡ true → HasLeaf (catalogue_events h) p v.leaf → OwnsIn h (view (tx_events h) t) t p
    → IsVersion (row_events h) v → IsEnd (row_events h) v.id.number x → fate (tx_events h) x.by.number ≡ Running → w x.by.number ≡ true
open_end_counts h t w v p x i world acts own at owns is end runs = elim (cases_Bool (same_tx (tx_events h) t x.by.number)) [
  | inl y ↦ own_inside (tx_events h) w t x.by.number world acts own y runs
  | inr n ↦
      let all = alive_world (tx_events h) in
      let here = own_here h (alive (tx_events h)) t p all acts (alive_running (fate (tx_events h) t) acts.runs) owns in
      absurd (clash_write h (alive (tx_events h)) t x.by.number p i all acts.runs runs n here (i.open_versions.ended (alive (tx_events h)) v x p all is at end runs (alive_running (fate (tx_events h) x.by.number) runs)))
]

own_both : (txs : TxEvents) (k w : World) (t a b : ℕ) → IsPart txs k w → same_tx txs t a ≡ true → same_tx txs t b ≡ true → k a ≡ true → w b ≡ true → k b ≡ true
own_both txs k w t a b part sa sb ka wb = part.whole a b (same_trans txs a t b (same_sym txs t a sa) sb) ka wb

-- an end by the transaction itself, of a version that it made, counts wherever the version is shown; or it is aborted
own_end : (h : History) (t : ℕ) (w : World) (v : Version) (x : End) (k : World) → IsWorld (tx_events h) w → IsRunning (tx_events h) t → w t ≡ true → IsPart (tx_events h) k w
    → IsEnd (row_events h) v.id.number x → Shows (row_events h) k v → fate (tx_events h) x.by.number ≡ Running → same_tx (tx_events h) t x.by.number ≡ true → same_tx (tx_events h) t v.by.number ≡ true → ⊥
own_end h t w v x k world acts own part end shows runs by_t also =
    let counts : w x.by.number ≡ true = own_inside (tx_events h) w t x.by.number world acts own by_t runs in
    both_ways (k x.by.number) (own_both (tx_events h) k w t v.by.number x.by.number part also by_t shows.0 counts) (shows.1 x end)

-- whatever may be shown in a leaf that the transaction owns, a scan by it judges
pub judged : (h : History) (t : ℕ) (w : World) (v : Version) (p : ℕ) → InvariantOf h → IsWorld (tx_events h) w → IsRunning (tx_events h) t → w t ≡ true → HasLeaf (catalogue_events h) p v.leaf → OwnsIn h (view (tx_events h) t) t p
    → IsVersion (row_events h) v → MayShow (tx_events h) (snapshot_events h) (row_events h) w v → IsJudged (tx_events h) (snapshot_events h) (row_events h) t v
judged h t w v p i world acts own at owns is (counts, inl (k, k_world, part, shows)) = inl (
  elim (split (tx_events h) w t v.by.number world counts) [
    | inl mine ↦ mine
    | inr other ↦ absurd (clash_write h w t v.by.number p i world acts.runs other.0 other.1 (own_here h w t p world acts own owns) (i.open_versions.born w v p world is at other.0 counts))
  ],
  λ x end. (
    λ committed. both_ways (k x.by.number) (k_world.committed x.by.number committed) (shows.1 x end),
    λ runs by_t. elim (cases_Bool (same_tx (tx_events h) t v.by.number)) [
      | inr n ↦ n
      | inl also ↦ absurd (own_end h t w v x k world acts own part end shows runs by_t also)
    ],
  ),
)
judged h t w v p i world acts own at owns is (counts, inr (r, s, held, shows)) = inr (
  r,
  s,
  held,
  (
    seen_of (tx_events h) w s v.by.number v.cmd world shows.0,
    λ x end not_aborted.
        let c : w x.by.number ≡ true = end_counts_by (fate (tx_events h) x.by.number) (w x.by.number) (world.committed x.by.number) (open_end_counts h t w v p x i world acts own at owns is end) not_aborted in
        unseen_of (tx_events h) w s x.by.number x.cmd c (shows.1 x end),
  ),
)

out_of_default : (e g : Entry) (key : List Value) → e ≡ g → is_default e.bound ≡ true → accepts key g.bound ≡ false
out_of_default e g key new is = ap (λ (z : Entry). accepts key z.bound) (sym new) ∙ default_alone key e.bound is

-- the new entry accepts what may be shown below it
fit_new : (h : History) (e : Entry) (w : World) (v : Version) (p k : ℕ) → MayAdd h e → InvariantOf h → IsWorld (tx_events h) w → w e.by.number ≡ true → IsVersion (row_events h) v → MayShow (tx_events h) (snapshot_events h) (row_events h) w v
    → HasLeaf (catalogue_events h) p v.leaf → Under (catalogue_events h) w k e.child.number p → Accepts (EntryAdded e ∷ catalogue_events h) w e v.row
fit_new h e w v p k may i world own is shows at low =
    let way = below_view h e w may i world own k p low in
    let j = judged h e.by.number w v p i world may.place.acts own at (may.child_locked k p way) is shows in
    let key = key_at (catalogue_events h) e.parent.number v.row in
    accepts_map (EntryAdded e ∷ catalogue_events h) (catalogue_events h) w (view (tx_events h) e.by.number) e.parent.number e.bound key
    (λ by_default g q same. elim (present_was e (catalogue_events h) w g q) [
      | inl new ↦ inr (out_of_default e g key new.0 by_default)
      | inr old ↦ inl (sibling_view h e w g may i world own old same)
    ])
    (may.scanned v k p is at way j).0

-- an older entry, with an older way down to the leaf
fit_old : (h : History) (e : Entry) (w : World) (v : Version) (p : ℕ) (f : Entry) (n : ℕ) → MayAdd h e → InvariantOf h → IsWorld (tx_events h) w → IsVersion (row_events h) v → MayShow (tx_events h) (snapshot_events h) (row_events h) w v
    → HasLeaf (catalogue_events h) p v.leaf → Present (catalogue_events h) w f → Under (catalogue_events h) w n f.child.number p → Accepts (EntryAdded e ∷ catalogue_events h) w f v.row
fit_old h e w v p f n may i world is shows at q low =
    let key = key_at (catalogue_events h) f.parent.number v.row in
    accepts_map (EntryAdded e ∷ catalogue_events h) (catalogue_events h) w w f.parent.number f.bound key
    (λ by_default g r same. elim (present_was e (catalogue_events h) w g r) [
      | inl new ↦
          let parents : f.parent.number ≡ e.parent.number = sym (ap (λ (z : Entry). z.parent.number) new.0 ∙ same) in
          let mine = sibling_view h e w f may i world new.1 q parents in
          let way = default_view h e w f may i world new.1 q parents by_default n p low in
          let owns = may.place.default_locked f n p mine parents by_default way in
          let j = judged h e.by.number w v p i world may.place.acts new.1 at owns is shows in
          let out = may.place.default_scanned f v n p mine parents by_default is at way j in
          let here : accepts key e.bound ≡ false = subst (λ z. accepts (key_at (catalogue_events h) z v.row) e.bound ≡ false) (sym parents) out in
          inr (ap (λ (z : Entry). accepts key z.bound) (sym new.0) ∙ here)
      | inr old ↦ inl old
    ])
    (i.fit w v world is shows p at f n q low)

-- an older entry, with a way down through the new one
fit_through : (h : History) (e : Entry) (w : World) (v : Version) (p : ℕ) (f : Entry) (m k : ℕ) → MayAdd h e → InvariantOf h → IsWorld (tx_events h) w → w e.by.number ≡ true → IsVersion (row_events h) v → MayShow (tx_events h) (snapshot_events h) (row_events h) w v
    → HasLeaf (catalogue_events h) p v.leaf → Present (catalogue_events h) w f → Under (catalogue_events h) w m f.child.number e.parent.number → Under (catalogue_events h) w k e.child.number p → Accepts (EntryAdded e ∷ catalogue_events h) w f v.row
fit_through h e w v p f m k may i world own is shows at q up low =
    let way = below_view h e w may i world own k p low in
    let j = judged h e.by.number w v p i world may.place.acts own at (may.child_locked k p way) is shows in
    let mine = above_mine h e w f m may i world own q up in
    let way_up = above_view h e w may i world own m f.child.number up in
    accepts_map (EntryAdded e ∷ catalogue_events h) (catalogue_events h) w (view (tx_events h) e.by.number) f.parent.number f.bound (key_at (catalogue_events h) f.parent.number v.row)
    (λ by_default g r same. elim (present_was e (catalogue_events h) w g r) [
      | inl new ↦
          let parents : e.parent.number ≡ f.parent.number = ap (λ (z : Entry). z.parent.number) new.0 ∙ same in
          absurd ((i.siblings w world).no_cycle m f.parent.number (subst (λ z. Under (catalogue_events h) w (suc m) f.parent.number z) parents (under_top (catalogue_events h) w f q m e.parent.number up)))
      | inr old ↦ inl (above_sibling h e w f g m may i world own q by_default up old same)
    ])
    ((may.scanned v k p is at way j).1 f m mine way_up)

pub added_fit : (h : History) (e : Entry) → MayAdd h e → InvariantOf h → (w : World) (v : Version) → IsWorld (tx_events h) w → IsVersion (row_events h) v → MayShow (tx_events h) (snapshot_events h) (row_events h) w v → IsFit (EntryAdded e ∷ catalogue_events h) w v
added_fit h e may i w v world is shows p at f n q low = elim (present_was e (catalogue_events h) w f q) [
  | inl new ↦
      let down = old_way_down h e w n p (subst (λ (z : Entry). Under (EntryAdded e ∷ catalogue_events h) w n z.child.number p) (sym new.0) low) in
      subst (λ (z : Entry). Accepts (EntryAdded e ∷ catalogue_events h) w z v.row) new.0 (fit_new h e w v p down.0 may i world new.1 is shows at down.1)
  | inr old ↦ elim (new_way e (catalogue_events h) w n f.child.number p low) [
    | inl before ↦ fit_old h e w v p f n may i world is shows at old before
    | inr through ↦ fit_through h e w v p f through.1.0 through.2.0 may i world through.0 is shows at old (old_way_up h e w may i world through.0 through.1.0 f.child.number through.1.1) through.2.1
  ]
]
