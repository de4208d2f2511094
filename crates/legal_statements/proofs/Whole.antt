-- A table and all below it may be dropped.
use Rattle.std.proofs.Common.{◌≡◌, ◌≢◌, ℕ, zero, suc, List, [], ◌∷◌, inl, inr, refl, ap, sym, subst, ◌∙◌, Option, Some, None, arith}
use Rattle.std.specs.List.{AllPairs, Contains}
use Rattle.std.proofs.lemmas.Bool.{cases_Bool}
use Rattle.std.proofs.lemmas.Bool.Decides.{nat_tests}
use Rattle.std.proofs.lemmas.List.Elements.{Contains-append_left, Contains-append_right, Contains-append_cases}
use Rattle.bound_forms.proofs.PlainOrder.{pairs-head, pairs-tail}
use Rattle.history.specs.declared.catalogue.Entry.{Entry}
use Rattle.history.specs.Transactions.{open_of}
use Rattle.history.specs.History.{History, tx_events}
use Rattle.history.specs.Presence.{counts, entries_present}
use Rattle.history.specs.Legal.{IsLegal}
use Rattle.row_router.specs.Histories.{above, is_over}
use Rattle.soundness.specs.Worlds.{view}
use Rattle.soundness.specs.Parts.{InvariantOf}
use Rattle.soundness.specs.Legal.{Has, HasTable, Below}
use Rattle.soundness.proofs.Worlds.{view_world}
use Rattle.soundness.proofs.Listed.{none_in, first_in, later_in, cases_in, only_one}
use Rattle.soundness.proofs.Looking.{counts_world}
use Rattle.soundness.proofs.Paths.{found_above}
use Rattle.soundness.proofs.Sound.{sound_of}
use Rattle.soundness.proofs.All.{legal_keeps_all}
use Rattle.legal_statements.specs.Below.{numbers_from, IsWholeTree}
use Rattle.legal_statements.specs.Locked.{IsOwned, IsGuarded}
use Rattle.legal_statements.specs.Drops.{place_over, places_over, IsOf}
use Rattle.legal_statements.specs.Laws.{TableDropMayFollow}
use Rattle.legal_statements.proofs.Adding.{present_for}
use Rattle.legal_statements.proofs.Dropping.{drop_may_follow}
use Rattle.legal_statements.proofs.Pairs.{each_in, pairs_append, pairs_none, pairs_one}
use Rattle.legal_statements.proofs.There.{has_listed}
use Rattle.legal_statements.proofs.Trees.{tree_is_whole}

-- ---- the entries above tables

-- what is found above a table is listed, and has it as its child
found_over : (es : List Entry) (x : ℕ) (e : Entry) → above es x ≡ Some e → Contains es e × (e.child.number ≡ x)
found_over [] x e is = absurd (cc)
found_over (y ∷ es) x e is = elim (cases_Bool (is_over x y)) [
  | inl t ↦
      let is' : Some y ≡ Some e = rw t at is in
      let same : y ≡ e = cc in
      let over : y.child.number ≡ x = grind (arith, nat_tests, t) in
      (subst (Contains (y ∷ es)) same (first_in y es), ap (λ (z : Entry). z.child.number) (sym same) ∙ over)
  | inr f ↦ let is' = rw f at is in let its = found_over es x e is' in (later_in y es e its.0, its.1)
]

-- an entry among those above some tables
record IsOver (h : History) (session : ℕ) (xs : List ℕ) (k : ℕ) : Type 0 where
  table : ℕ
  among : Contains xs table
  entry : Entry
  found : above (entries_present h session) table ≡ Some entry
  number : entry.id.number ≡ k

place_was : (o : Option Entry) (k : ℕ) → Contains (place_over o) k → (e : Entry) × (o ≡ Some e) × (e.id.number ≡ k)
place_was None k at = absurd (none_in k at)
place_was (Some e) k at = (e, refl, only_one e.id.number k at)

places_was : (h : History) (session : ℕ) (xs : List ℕ) (k : ℕ) → Contains (places_over h session xs) k → IsOver h session xs k
places_was h session [] k at = absurd (none_in k at)
places_was h session (x ∷ xs) k at = elim (Contains-append_cases (place_over (above (entries_present h session) x)) (places_over h session xs) k at) [
  | inl here ↦ let its = place_was (above (entries_present h session) x) k here in record { table = x; among = first_in x xs; entry = its.0; found = its.1; number = its.2 }
  | inr later ↦ let its = places_was h session xs k later in record { table = its.table; among = later_in x xs its.table its.among; entry = its.entry; found = its.found; number = its.number }
]

place_in : (o : Option Entry) (e : Entry) → o ≡ Some e → Contains (place_over o) e.id.number
place_in o e is = subst (λ p. Contains (place_over p) e.id.number) (sym is) (first_in e.id.number [])

places_in : (h : History) (session : ℕ) (xs : List ℕ) (x : ℕ) (e : Entry) → Contains xs x → above (entries_present h session) x ≡ Some e → Contains (places_over h session xs) e.id.number
places_in h session [] x e at is = absurd (none_in x at)
places_in h session (y ∷ xs) x e at is = elim (cases_in y xs x at) [
  | inl here ↦ Contains-append_left (place_over (above (entries_present h session) y)) (places_over h session xs) e.id.number (place_in (above (entries_present h session) y) e (ap (above (entries_present h session)) here ∙ is))
  | inr later ↦ Contains-append_right (place_over (above (entries_present h session) y)) (places_over h session xs) e.id.number (places_in h session xs x e later is)
]

place_once : (o : Option Entry) → AllPairs (λ a b. a ≢ b) (place_over o)
place_once None = pairs_none (λ a b. a ≢ b)
place_once (Some e) = pairs_one (λ a b. a ≢ b) e.id.number

places_once : (h : History) (session t : ℕ) (xs : List ℕ) → IsLegal h → open_of (tx_events h) session ≡ Some t → InvariantOf h → AllPairs (λ a b. a ≢ b) xs → AllPairs (λ a b. a ≢ b) (places_over h session xs)
places_once h session t [] legal own i two = pairs_none (λ a b. a ≢ b)
places_once h session t (x ∷ xs) legal own i two =
    pairs_append (λ a b. a ≢ b) (place_over (above (entries_present h session) x)) (places_over h session xs) (place_once (above (entries_present h session) x))
    (places_once h session t xs legal own i (pairs-tail (λ a b. a ≢ b) x xs two))
    (λ a b at later same.
    let mine = place_was (above (entries_present h session) x) a at in
    let its = places_was h session xs b later in
    let e_over = found_over (entries_present h session) x mine.0 mine.1 in
    let f_over = found_over (entries_present h session) its.table its.entry its.found in
    let one : mine.0 ≡ its.entry = i.entries.numbered mine.0 its.entry (has_listed h session t mine.0 legal own e_over.0).0 (has_listed h session t its.entry legal own f_over.0).0 (mine.2 ∙ same ∙ sym its.number) in
    let tables : x ≡ its.table = sym e_over.1 ∙ ap (λ (z : Entry). z.child.number) one ∙ f_over.1 in
    each_in (λ c. x ≢ c) xs its.table (pairs-head (λ a b. a ≢ b) x xs two) its.among tables)

-- ---- the drop

-- a table below one that is there is there
below_there : (h : History) (t top n x : ℕ) → InvariantOf h → HasTable h t top → Below h t n top x → HasTable h t x
below_there h t top zero x i there is = subst (HasTable h t) is there
below_there h t top (suc n) x i there (e, p, child, rest) = subst (HasTable h t) child ((i.siblings (view (tx_events h) t) (view_world (tx_events h) t)).there e p).1

-- the session may change the partitions of the parent of each table in the tree
parent_guarded : (h : History) (session t top n x : ℕ) (e : Entry) → InvariantOf h → IsWholeTree h t top (numbers_from h session top) → ((y : ℕ) → Contains (numbers_from h session top) y → IsOwned h session y)
    → ((f : Entry) → above (entries_present h session) top ≡ Some f → IsGuarded h session f.parent.number) → above (entries_present h session) x ≡ Some e → Has h t e → e.child.number ≡ x → Below h t n top x → IsGuarded h session e.parent.number
parent_guarded h session t top zero x e i tree owned guarded found has child is = guarded e (ap (above (entries_present h session)) is ∙ found)
parent_guarded h session t top (suc n) x e i tree owned guarded found has child (f, p, over, rest) =
    let same : f ≡ e = (i.siblings (view (tx_events h) t) (view_world (tx_events h) t)).one_parent f e p has (over ∙ sym child) in
    subst (λ (z : Entry). IsGuarded h session z.parent.number) same (inr (owned f.parent.number (tree.all n f.parent.number rest)))

child_of : (h : History) (session t top : ℕ) (e : Entry) → IsWholeTree h t top (numbers_from h session top) → Has h t e → IsOf (numbers_from h session top) e → Contains (numbers_from h session top) e.child.number
child_of h session t top e tree has (inr at) = at
child_of h session t top e tree has (inl at) = let low = tree.only e.parent.number at in tree.all (suc low.0) e.child.number (e, has, refl, low.1)

pub table_drop_may_follow : TableDropMayFollow
table_drop_may_follow h session top s legal permitted is =
    let t = s.by.number in
    let i = legal_keeps_all h legal permitted in
    let tree = tree_is_whole h session t top legal permitted is.own in
    let numbers = numbers_from h session top in
    drop_may_follow h session s (places_over h session numbers) numbers legal permitted (record {
      own = is.own;
      command = is.command;
      entries_there = λ k at.
          let its = places_was h session numbers k at in
          let over = found_over (entries_present h session) its.table its.entry its.found in
          let has = has_listed h session t its.entry legal is.own over.0 in
          let low = tree.only its.table its.among in
          (its.entry, has, its.number, parent_guarded h session t top low.0 its.table its.entry i tree is.owned is.guarded its.found has over.1 low.1);
      entries_once = places_once h session t numbers legal is.own i tree.once;
      tables_there = λ x at. let low = tree.only x at in (below_there h t top low.0 x i is.there low.1, is.owned x at);
      tables_once = tree.once;
      none_left = λ e has of.
          let child = child_of h session t top e tree has of in
          let siblings = i.siblings (counts (tx_events h) session) (counts_world (tx_events h) session (sound_of h legal)) in
          let found = found_above h session e.child.number e legal siblings (present_for h session t e legal is.own has) refl in
          places_in h session numbers e.child.number e child found;
    })
