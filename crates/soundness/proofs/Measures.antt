-- How long ways are, and how many children a table has, by the trees, paths and lists of a session.
use Rattle.std.proofs.Common.{◌≡◌, ◌≢◌, ℕ, zero, suc, ◌+◌, ◌<◌, ◌≤◌, ◌==◌, arith, Bool, true, false, List, [], ◌∷◌, inl, inr, refl, sym, subst, ◌∙◌, Some, filter, map, length, get_or}
use Rattle.std.specs.List.{All, AllPairs, Contains}
use Rattle.std.proofs.lemmas.Bool.{cases_Bool}
use Rattle.std.proofs.lemmas.Bool.Decides.{nat_tests}
use Rattle.std.proofs.lemmas.List.Elements.{All-head, All-tail}
use Rattle.bound_forms.proofs.PlainOrder.{pairs-head, pairs-tail}
use Rattle.history.specs.declared.catalogue.TableShape.{TableShape}
use Rattle.history.specs.declared.catalogue.TableShape.TheVariants.{Leaf, Level}
use Rattle.history.specs.declared.catalogue.Entry.{Entry}
use Rattle.history.specs.Catalogue.{CatalogueEvents, tables_made}
use Rattle.history.specs.History.{History, tx_events, catalogue_events}
use Rattle.history.specs.Places.{TakesBound}
use Rattle.history.specs.Presence.{counts, entries_present, checks_of}
use Rattle.history.specs.Legal.{IsLegal}
use Rattle.history.proofs.Open.{open_runs}
use Rattle.row_router.specs.declared.node.Node.{Node}
use Rattle.row_router.specs.declared.path_part.PathPart.{PathPart}
use Rattle.row_router.specs.Trees.{TableTree, trees_of, height, heights}
use Rattle.row_router.specs.Histories.{ddl_tree, path_of, tree_within, grown, node_at, children, bound_of, child_of_entry, above, parent_in, part_of, upwards}
use Rattle.soundness.specs.Worlds.{World, table_in, Present, Under, view}
use Rattle.soundness.specs.Parts.{AreEntries, Siblings, InvariantOf}
use Rattle.soundness.specs.Laws.{ChildrenAreCounted, WaysAreShort}
use Rattle.soundness.proofs.Under.{under_map}
use Rattle.soundness.proofs.Sound.{sound_of}
use Rattle.soundness.proofs.Looking.{counts_world}
use Rattle.soundness.proofs.Listed.{none_in, cases_in, kept_in, present_listed, child_listed}
use Rattle.soundness.proofs.Counted.{is_other, AreTwo}
use Rattle.soundness.proofs.Paths.{few_steps, found_above, agree}
use Rattle.soundness.proofs.Leaves.{Down, down_of}
use Rattle.soundness.proofs.All.{legal_keeps_all}

-- ---- children

no_longer : (p : Entry → Bool) (ys : List Entry) → length (filter p ys) ≤ length ys
no_longer p [] = omega arith
no_longer p (y ∷ ys) = let rest = no_longer p ys in elim (cases_Bool (p y)) [ inl t ↦ rw t (omega (arith, rest)) | inr f ↦ rw f (omega (arith, rest)) ]

one_out : (e : Entry) (ys : List Entry) → Contains ys e → length (filter (is_other e.id.number) ys) + 1 ≤ length ys
one_out e [] at = absurd (none_in e at)
one_out e (y ∷ ys) at = elim (cases_in y ys e at) [
  | inl here ↦
      let same : (y.id.number == e.id.number) ≡ true = subst (λ (z : Entry). (z.id.number == e.id.number) ≡ true) (sym here) (grind (arith, nat_tests)) in
      let out : is_other e.id.number y ≡ false = rw same refl in
      let rest = no_longer (is_other e.id.number) ys in
      rw out (omega (arith, rest))
  | inr later ↦
      let rest = one_out e ys later in
      elim (cases_Bool (is_other e.id.number y)) [ inl t ↦ rw t (omega (arith, rest)) | inr f ↦ rw f (omega (arith, rest)) ]
]

-- entries of different numbers, all of them among others, are no more than these
no_more : (es ys : List Entry) → AllPairs AreTwo es → All (Contains ys) es → length es ≤ length ys
no_more [] ys two all = omega arith
no_more (e ∷ es) ys two all =
    let first = pairs-head AreTwo e es two in
    let rest = All-tail (Contains ys) e es all in
    let left : All (Contains (filter (is_other e.id.number) ys)) es = λ k d lt.
    let apart : e.id.number ≢ (get_or es k d).id.number = first k d lt in
    let away : ((get_or es k d).id.number == e.id.number) ≡ false = let other : (get_or es k d).id.number ≢ e.id.number = λ same. apart (sym same) in grind (arith, nat_tests) in
    kept_in (is_other e.id.number) ys (get_or es k d) (rest k d lt) (rw away refl) in
    let fewer = no_more es (filter (is_other e.id.number) ys) (pairs-tail AreTwo e es two) left in
    let less = one_out e ys (All-head (Contains ys) e es all) in
    omega (arith, fewer, less)

-- what is present for the transaction is present for its session
present_for : (h : History) (session t : ℕ) (e : Entry) → ((k : ℕ) → counts (tx_events h) session k ≡ view (tx_events h) t k) → Present (catalogue_events h) (view (tx_events h) t) e → Present (catalogue_events h) (counts (tx_events h) session) e
present_for h session t e same p = (p.0, same e.by.number ∙ p.1, λ u end. same u ∙ p.2 u end)

pub children_are_counted : ChildrenAreCounted
children_are_counted h session t x es legal opened are =
    let runs = (open_runs (tx_events h) session t (sound_of h legal) opened).runs in
    no_more es (children (entries_present h session) x) are.two (λ k d lt.
    let p = are.below k d lt in
    child_listed (entries_present h session) x (get_or es k d) (present_listed h session (get_or es k d) (present_for h session t (get_or es k d) (λ u. agree (tx_events h) session t u opened runs) p.0)) p.1)

-- ---- the height of a tree

some_height : (shape : TableShape) (node : Node) (es ks : List Entry) (f : Entry → TableTree) → 0 < height (grown shape node (map bound_of es) (map f ks))
some_height (Leaf leaf) node es ks f = omega arith
some_height (Level level) node es ks f = omega arith

kid_height : (f : ℕ → TableTree) (es : List Entry) (e : Entry) → Contains es e → height (f e.child.number) ≤ heights (trees_of (map (λ (e : Entry). f (child_of_entry e)) es))
kid_height f [] e at = absurd (none_in e at)
kid_height f (x ∷ es) e at = elim (cases_in x es e at) [
  | inl here ↦ subst (λ (z : Entry). height (f z.child.number) ≤ heights (trees_of (map (λ (e : Entry). f (child_of_entry e)) (x ∷ es)))) here (omega arith)
  | inr later ↦ let rest = kid_height f es e later in omega (arith, rest)
]

level_height : (entries : List Entry) (node : Node) (f : ℕ → TableTree) (n top : ℕ) (e : Entry) (shape : TableShape) → TakesBound shape e.bound → Contains (children entries top) e → n < height (f e.child.number)
    → suc n < height (grown shape node (map bound_of (children entries top)) (map (λ (e : Entry). f (child_of_entry e)) (children entries top)))
level_height entries node f n top e (Leaf own) takes at lt = absurd takes
level_height entries node f n top e (Level level) takes at lt = let kid = kid_height f (children entries top) e at in omega (arith, lt, kid)

deep : (cats : CatalogueEvents) (w : World) (entries : List Entry) (named : ℕ) → AreEntries cats → ((e : Entry) → Present cats w e → Contains entries e)
    → (n fuel top x : ℕ) → n ≤ fuel → Down cats w n top x → n < height (tree_within fuel (tables_made cats) entries named top)
deep cats w entries named are listed zero zero top x le is = some_height (table_in cats top).shape (node_at (tables_made cats) named top) [] [] (λ e. tree_within zero (tables_made cats) entries named (child_of_entry e))
deep cats w entries named are listed zero (suc fuel) top x le is = some_height (table_in cats top).shape (node_at (tables_made cats) named top) (children entries top) (children entries top) (λ e. tree_within fuel (tables_made cats) entries named (child_of_entry e))
deep cats w entries named are listed (suc n) zero top x le is = absurd (omega (arith, le))
deep cats w entries named are listed (suc n) (suc fuel) top x le (e, p, parent, rest) =
    let takes : TakesBound (table_in cats top).shape e.bound = subst (λ z. TakesBound (table_in cats z).shape e.bound) parent (are.suited e p.0).bound in
    level_height entries (node_at (tables_made cats) named top) (λ c. tree_within fuel (tables_made cats) entries named c) n top e (table_in cats top).shape takes (child_listed entries top e (listed e p) parent)
    (deep cats w entries named are listed n fuel e.child.number x (omega (arith, le)) rest)

low_way : (h : History) (session n top x : ℕ) → InvariantOf h → Siblings (catalogue_events h) (counts (tx_events h) session) → Under (catalogue_events h) (counts (tx_events h) session) n top x → n < height (ddl_tree h session top)
unfolding Rattle.row_router.specs.Histories.ddl_tree
low_way h session n top x i siblings low =
    let lt = few_steps (catalogue_events h) (counts (tx_events h) session) n top x siblings low in
    deep (catalogue_events h) (counts (tx_events h) session) (entries_present h session) top i.entries (λ e p. present_listed h session e p) n 7 top x (omega (arith, lt)) (down_of (catalogue_events h) (counts (tx_events h) session) n top x low)

-- ---- the length of a path

long : (h : History) (session : ℕ) (part : ℕ → PathPart) → IsLegal h → Siblings (catalogue_events h) (counts (tx_events h) session)
    → (n fuel x y : ℕ) → n < fuel → Under (catalogue_events h) (counts (tx_events h) session) n y x → n < length (upwards fuel part (above (entries_present h session)) (Some x))
long h session part legal siblings n zero x y lt is = absurd (omega (arith, lt))
long h session part legal siblings zero (suc fuel) x y lt is = omega arith
long h session part legal siblings (suc n) (suc fuel) x y lt (e, p, child, rest) =
    let at = found_above h session x e legal siblings p child in
    let more = long h session part legal siblings n fuel e.parent.number y (omega (arith, lt)) rest in
    rw at (omega (arith, more))

high_way : (h : History) (session n top x : ℕ) → IsLegal h → Siblings (catalogue_events h) (counts (tx_events h) session) → Under (catalogue_events h) (counts (tx_events h) session) n top x → n < length (path_of h session x)
unfolding Rattle.row_router.specs.Histories.path_of
high_way h session n top x legal siblings low =
    long h session (part_of (tables_made (catalogue_events h)) (entries_present h session) (checks_of h session)) legal siblings n 8 x top (few_steps (catalogue_events h) (counts (tx_events h) session) n top x siblings low) low

pub ways_are_short : WaysAreShort
ways_are_short h session t n top x legal permitted opened low =
    let i = legal_keeps_all h legal permitted in
    let runs = (open_runs (tx_events h) session t (sound_of h legal) opened).runs in
    let siblings = i.siblings (counts (tx_events h) session) (counts_world (tx_events h) session (sound_of h legal)) in
    let here = under_map (catalogue_events h) (catalogue_events h) (view (tx_events h) t) (counts (tx_events h) session) (λ e p. present_for h session t e (λ k. agree (tx_events h) session t k opened runs) p) n top x low in
    (high_way h session n top x legal siblings here, low_way h session n top x i siblings here)
