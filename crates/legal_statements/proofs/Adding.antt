-- New partitions may follow.
use Rattle.std.proofs.Common.{◌≡◌, ◌≢◌, ℕ, zero, suc, ◌+◌, true, List, [], ◌∷◌, inl, inr, refl, sym, subst, ◌∙◌, Option, Some, None, length, arith}
use Rattle.std.specs.List.{Contains}
use Rattle.std.proofs.lemmas.List.Elements.{filter_passes}
use Rattle.std.proofs.lemmas.Bool.{cases_Bool}
use Rattle.std.proofs.lemmas.Bool.Decides.{nat_tests}
use Rattle.history.specs.declared.version.Version.{Version}
use Rattle.history.specs.declared.catalogue.Entry.{Entry}
use Rattle.history.specs.declared.catalogue.Check.{Check}
use Rattle.history.specs.Transactions.{open_of}
use Rattle.history.specs.Catalogue.{tables_made, entries_added}
use Rattle.history.specs.History.{History, tx_events, row_events, catalogue_events}
use Rattle.history.specs.Presence.{entries_present, is_present, checks_of, counts}
use Rattle.history.specs.Legal.{IsLegal}
use Rattle.row_router.specs.declared.path_part.PathPart.{PathPart}
use Rattle.row_router.specs.Histories.{path_of, above, is_over, parent_in, part_of, upwards}
use Rattle.soundness.specs.Versions.{IsVersion}
use Rattle.soundness.specs.Worlds.{HasLeaf, Present, table_in}
use Rattle.soundness.specs.Legal.{ArePermitted, Has, HasCheck, Below, Judges, HasPlace as HasFreePlace}
use Rattle.soundness.proofs.Listed.{none_in, cases_in, present_listed}
use Rattle.soundness.proofs.Measures.{children_are_counted, ways_are_short}
use Rattle.soundness.proofs.Leaves.{tree_has_all_below}
use Rattle.soundness.proofs.Paths.{agree, path_accepts}
use Rattle.soundness.proofs.Created.{create_is_add}
use Rattle.soundness.proofs.CheckPath.{path_passes, check_listed, check_counts}
use Rattle.part_catalog.specs.Full.{tables_up, tables_above}
use Rattle.legal_statements.specs.Entries.{IsScanned, IsNewPlace}
use Rattle.legal_statements.specs.Laws.{NewPartitionMayFollow, AttachMayFollow, SkipMayFollow, CheckMayFollow}
use Rattle.legal_statements.proofs.Holding.{session_runs, owns_of, guards_of}
use Rattle.legal_statements.proofs.Trees.{tree_is_whole}
use Rattle.legal_statements.proofs.Marks.{pending_for}
use Rattle.legal_statements.proofs.There.{listed_is_there}

-- what is present for the transaction is present for its session
pub present_for : (h : History) (session t : ℕ) (e : Entry) → IsLegal h → open_of (tx_events h) session ≡ Some t → Has h t e → Present (catalogue_events h) (counts (tx_events h) session) e
present_for h session t e legal own has =
    let same = λ (k : ℕ). agree (tx_events h) session t k own (session_runs h session t legal own).runs in
    (has.0, same e.by.number ∙ has.1, λ u end. same u ∙ has.2 u end)

pub listed_for : (h : History) (session t : ℕ) (e : Entry) → IsLegal h → open_of (tx_events h) session ≡ Some t → Has h t e → Contains (entries_present h session) e
listed_for h session t e legal own has = present_listed h session e (present_for h session t e legal own has)

pub present_test : (h : History) (session : ℕ) (e : Entry) → Contains (entries_present h session) e → is_present h session e ≡ true
present_test h session e at = subst (λ (z : Entry). is_present h session z ≡ true) at.2 (filter_passes (is_present h session) (entries_added (catalogue_events h)) at.0 e at.1)

scanned_for : (h : History) (session t top n x : ℕ) (v : Version) → IsLegal h → ArePermitted h → open_of (tx_events h) session ≡ Some t → IsVersion (row_events h) v → HasLeaf (catalogue_events h) x v.leaf → Below h t n top x → Judges h t v
    → IsScanned h session t top v
scanned_for h session t top n x v legal permitted own is at low judged = record {
  version = is;
  leaf = tree_has_all_below h session t top n x v.leaf legal permitted own low at;
  judged = judged;
}

maker_of : (h : History) (session t u : ℕ) → open_of (tx_events h) session ≡ Some t → open_of (tx_events h) session ≡ Some u → u ≡ t
maker_of h session t u a b = let both : Some u ≡ Some t = sym b ∙ a in cc

-- ---- how far it is up and down

up_long : (n : ℕ) (part : ℕ → PathPart) (up : ℕ → Option Entry) (o : Option ℕ) → length (upwards n part up o) ≡ tables_up n up o
up_long n part up None = refl
up_long zero part up (Some t) = refl
up_long (suc n) part up (Some t) = let rest = up_long n part up (parent_in (up t)) in omega (arith, rest)

path_long : (h : History) (session x : ℕ) → length (path_of h session x) ≡ tables_above (above (entries_present h session)) x
unfolding path_of tables_above
path_long h session x = up_long 8 (part_of (tables_made (catalogue_events h)) (entries_present h session) (checks_of h session)) (above (entries_present h session)) (Some x)

not_deep : (h : History) (session : ℕ) (e : Entry) → IsLegal h → ArePermitted h → IsNewPlace h session e → (n m top x : ℕ) → Below h e.by.number n top e.parent.number → Below h e.by.number m e.child.number x → n + m + 1 ≡ 8 → ⊥
not_deep h session e legal permitted new n m top x up low far =
    let above_it = (ways_are_short h session e.by.number n top e.parent.number legal permitted new.own up).0 in
    let below_it = (ways_are_short h session e.by.number m e.child.number x legal permitted new.own low).1 in
    let long = path_long h session e.parent.number in
    let levels = new.room.levels in
    omega (arith, above_it, below_it, long, levels, far)

-- ---- the place

place_of : (h : History) (session : ℕ) (e : Entry) → IsLegal h → ArePermitted h → IsNewPlace h session e → HasFreePlace h e
place_of h session e legal permitted new =
    let t = e.by.number in
    record {
      acts = session_runs h session t legal new.own;
      there = (new.parent_there, new.child_there);
      parent_locked = guards_of h session t e.parent.number legal new.own new.guarded;
      default_locked = λ d n x has of by_default low. owns_of h session t x legal new.own (new.default_owned d x (record { present = listed_for h session t d legal new.own has; of = of; default = by_default }) ((tree_is_whole h session t d.child.number legal permitted new.own).all n x low));
      roomy = λ es are. let few = children_are_counted h session t e.parent.number es legal new.own are in let room = new.room.partitions in omega (arith, few, room);
      together = λ g has. new.together g (listed_for h session t g legal new.own has);
      no_pending = λ g has of pending. new.no_pending g (listed_for h session t g legal new.own has) of (pending_for h session t g legal new.own (present_test h session g (listed_for h session t g legal new.own has)) pending);
      default_scanned = λ d v n x has of by_default is at low judged.
          new.default_scanned d v (record { present = listed_for h session t d legal new.own has; of = of; default = by_default }) (scanned_for h session t d.child.number n x v legal permitted new.own is at low judged);
    }

pub new_partition_may_follow : NewPartitionMayFollow
new_partition_may_follow h session e legal permitted new =
    let t = e.by.number in
    let place = new.place in (
      record {
        legal = (place.number, place.suits);
        in_order = place.command;
        permitted = inl (create_is_add h e (record {
          place = place_of h session e legal permitted place;
          made = (new.made.0, maker_of h session t (table_in (catalogue_events h) e.child.number).by.number place.own new.made.1);
          another = new.another;
          alone = λ g has. new.alone g (listed_for h session t g legal place.own has);
          empty = new.empty;
          shallow = λ n top up far. not_deep h session e legal permitted place n 0 top e.child.number up refl (omega (arith, far));
        }));
      },
      tt,
    )

-- where no entry is found above a table, none that is there has it as its child
none_above : (es : List Entry) (x : ℕ) (g : Entry) → above es x ≡ None → Contains es g → g.child.number ≢ x
none_above [] x g none at same = none_in g at
none_above (y ∷ es) x g none at same = elim (cases_Bool (is_over x y)) [
  | inl t ↦ absurd (let none' : Some y ≡ None = rw t at none in cc)
  | inr f ↦
      let none' = rw f at none in
      elim (cases_in y es g at) [
        | inl here ↦ absurd (let over : is_over x y ≡ true = subst (λ (z : Entry). is_over x z ≡ true) (sym here) (grind (arith, nat_tests, same)) in cc)
        | inr later ↦ none_above es x g none' later same
      ]
]

pub attach_may_follow : AttachMayFollow
attach_may_follow h session e legal permitted new =
    let t = e.by.number in
    let place = new.place in
    let tree = tree_is_whole h session t e.child.number legal permitted place.own in (
      record {
        legal = (place.number, place.suits);
        in_order = place.command;
        permitted = inl (record {
          place = place_of h session e legal permitted place;
          child_locked = λ n x low. owns_of h session t x legal place.own (new.child_owned x (tree.all n x low));
          no_partition = λ g has. none_above (entries_present h session) e.child.number g new.no_partition (listed_for h session t g legal place.own has);
          not_above = λ n low. new.not_above (tree.all n e.parent.number low);
          shallow = λ n m top x up low far. not_deep h session e legal permitted place n m top x up low far;
          scanned = λ v n x is at low judged.
              let row = new.scanned v (scanned_for h session t e.child.number n x v legal permitted place.own is at low judged) in
              (row.0, λ f k has up. path_accepts h session t e.parent.number v.row legal permitted place.own row.1 f k has up);
          passes = λ v n x is at low judged.
              let row = new.scanned v (scanned_for h session t e.child.number n x v legal permitted place.own is at low judged) in
              path_passes h session t e.parent.number v.row legal permitted place.own row.2;
        });
      },
      tt,
    )

-- a CHECK that counts for the session counts for its transaction, and the other way round
pub check_for : (h : History) (session t x : ℕ) (c : Check) → IsLegal h → open_of (tx_events h) session ≡ Some t → Contains (checks_of h session x) c → HasCheck h t c × (c.table.number ≡ x)
check_for h session t x c legal own at =
    let its = check_counts h session x c at in
    ((its.0.0, sym (agree (tx_events h) session t c.by.number own (session_runs h session t legal own).runs) ∙ its.0.1), its.1)

listed_check : (h : History) (session t x : ℕ) (c : Check) → IsLegal h → open_of (tx_events h) session ≡ Some t → HasCheck h t c → c.table.number ≡ x → Contains (checks_of h session x) c
listed_check h session t x c legal own is at = check_listed h session x c (is.0, agree (tx_events h) session t c.by.number own (session_runs h session t legal own).runs ∙ is.1) at

pub skip_may_follow : SkipMayFollow
skip_may_follow h session e legal permitted new =
    let t = e.by.number in
    let place = new.place in
    let tree = tree_is_whole h session t e.child.number legal permitted place.own in
    let kept = check_for h session t e.child.number new.check legal place.own new.kept in (
      record {
        legal = (place.number, place.suits);
        in_order = place.command;
        permitted = inr (record {
          place = place_of h session e legal permitted place;
          child_locked = λ n x low. owns_of h session t x legal place.own (new.child_owned x (tree.all n x low));
          no_partition = λ g has. none_above (entries_present h session) e.child.number g new.no_partition (listed_for h session t g legal place.own has);
          not_above = λ n low. new.not_above (tree.all n e.parent.number low);
          shallow = λ n m top x up low far. not_deep h session e legal permitted place n m top x up low far;
          parent_alone = λ g has. none_above (entries_present h session) e.parent.number g new.parent_alone (listed_for h session t g legal place.own has);
          parent_unchecked = λ d has at. none_in d (subst (λ ds. Contains ds d) new.parent_unchecked (listed_check h session t e.parent.number d legal place.own has at));
          implied = (new.check, record { kept = kept.0; child = kept.1; level = new.level; shape = new.shape; columns = new.columns; inside = new.inside });
          looking = λ r s held. (session_runs h r s.tx legal (new.looking r s held)).runs;
        });
      },
      tt,
    )

pub check_may_follow : CheckMayFollow
check_may_follow h session c e legal permitted new =
    let t = c.by.number in (
      record {
        legal = new.sound;
        in_order = new.command;
        permitted = record {
          acts = session_runs h session t legal new.own;
          from_entry = (
            e,
            record {
              has = (listed_is_there h session t e legal permitted new.own new.present).0;
              repeats = new.repeats;
              guarded = guards_of h session t e.parent.number legal new.own new.guarded;
            },
          );
          locked = owns_of h session t c.table.number legal new.own new.owned;
          another = λ d has at. new.another d (listed_check h session t c.table.number d legal new.own has at);
        };
      },
      tt,
    )
