-- The trees of a history are sound where the entries that are present are siblings.
use Rattle.std.proofs.Common.{◌≡◌, ℕ, zero, suc, ◌<◌, arith, ap, refl, sym, subst, ◌∙◌, ◌&&◌, not, Bool, true, false, inl, inr, List, [], ◌∷◌, Some, filter, map, length, get_or}
use Rattle.std.specs.List.{All, AllZip, slice_get}
use Rattle.std.proofs.lemmas.List.{get_or-map, length-map}
use Rattle.std.proofs.lemmas.Bool.{cases_Bool}
use Rattle.std.proofs.lemmas.List.Elements.{filter_agree, All-cons, All-head, All-tail, All-nil}
use Rattle.pg_values.specs.declared.value.Kind.{Kind}
use Rattle.bound_forms.specs.declared.partition_bound.Bound.{Bound}
use Rattle.bound_forms.specs.declared.level.Level.{Level as OneLevel}
use Rattle.bound_forms.specs.Levels.{IsOfLevel}
use Rattle.history.specs.declared.catalogue.Column.{Column}
use Rattle.history.specs.declared.catalogue.TableShape.{TableShape}
use Rattle.history.specs.declared.catalogue.TableShape.TheVariants.{Leaf, Level}
use Rattle.history.specs.declared.catalogue.Table.{Table}
use Rattle.history.specs.declared.catalogue.Entry.{Entry}
use Rattle.history.specs.Snapshots.{TakenSnapshot}
use Rattle.history.specs.Catalogue.{tables_made, entries_added}
use Rattle.history.specs.History.{History, catalogue_events}
use Rattle.history.specs.Places.{table_at, LiesIn, KeysLieIn, TakesBound, IsColumnOf, HasColumnsOf, Suits, AreCatalogueSound}
use Rattle.history.specs.Presence.{is_present, is_shown, entries_present, entries_shown}
use Rattle.row_router.specs.Trees.{TableTree, Trees, trees_of, count, IsSound, AreSound}
use Rattle.row_router.specs.Histories.{tree_within, tree_of, ddl_tree, node_at, grown, children, bound_of, child_of_entry, is_under}
use Rattle.row_router.specs.Siblings.{AreSiblings}
use Rattle.row_router.specs.Laws.{TreesAreSound, SameMarksSameTree, UnseenMarksShow, sees_mark}
use Rattle.row_router.specs.declared.node.Node.{Node}
use Rattle.row_router.proofs.Order.{siblings_in_order, siblings_kept, all_children, all_kept, under_children}
use Rattle.row_router.proofs.Levels.{count_is}
use Rattle.row_router.proofs.Suited.{KeysLie, all_suit, all_keys_lie}

abbrev kind_of_column : Column → Kind
kind_of_column c = c.kind

same_kinds : (parent child : List Column) → HasColumnsOf parent child → map kind_of_column child ≡ map kind_of_column parent
same_kinds [] [] h = refl
same_kinds [] (c ∷ child) h = absurd h
same_kinds (p ∷ parent) [] h = absurd h
same_kinds (p ∷ parent) (c ∷ child) h = ap (λ k. k ∷ map kind_of_column child) (sym h.0.1) ∙ ap (λ ks. p.kind ∷ ks) (same_kinds parent child h.1)

-- what a level and the entries below it bring
record Below (tables : List Table) (t : ℕ) (e : Entry) : Type 0 where
  suits : Suits tables e
  under : e.parent.number ≡ t

all_below : (tables : List Table) (entries : List Entry) (t : ℕ) → All (Suits tables) entries → All (Below tables t) (children entries t)
all_below tables entries t h k d lt =
    record { suits = all_children (Suits tables) entries t h k d lt; under = under_children entries t k d lt }

bounds_suit : (tables : List Table) (t : ℕ) (level : OneLevel) (es : List Entry) → (table_at tables t).shape ≡ Level level → All (Below tables t) es → All (IsOfLevel level) (map bound_of es)
bounds_suit tables t level [] shape h = All-nil (IsOfLevel level)
bounds_suit tables t level (e ∷ es) shape h =
    let b : Below tables t e = All-head (Below tables t) e es h in
    let here : TakesBound (table_at tables t).shape e.bound = subst (λ n. TakesBound (table_at tables n).shape e.bound) b.under b.suits.bound in
    let takes : TakesBound (Level level) e.bound = subst (λ s. TakesBound s e.bound) shape here in
    All-cons (IsOfLevel level) e.bound (map bound_of es) takes (bounds_suit tables t level es shape (All-tail (Below tables t) e es h))

kids_sound : (columns : List Column) (tables : List Table) (t : ℕ) (f : ℕ → TableTree) (es : List Entry) → map kind_of_column (table_at tables t).columns ≡ map kind_of_column columns → ((c : ℕ) → map kind_of_column (table_at tables c).columns ≡ map kind_of_column columns → IsSound columns (f c)) → All (Below tables t) es → AreSound columns (trees_of (map (λ (e : Entry). f (child_of_entry e)) es))
kids_sound columns tables t f [] kinds each h = tt
kids_sound columns tables t f (e ∷ es) kinds each h =
    let b : Below tables t e = All-head (Below tables t) e es h in
    let cols : HasColumnsOf (table_at tables t).columns (table_at tables e.child.number).columns = subst (λ n. HasColumnsOf (table_at tables n).columns (table_at tables e.child.number).columns) b.under b.suits.columns in
    (each e.child.number (same_kinds (table_at tables t).columns (table_at tables e.child.number).columns cols ∙ kinds), kids_sound columns tables t f es kinds each (All-tail (Below tables t) e es h))

keys_in : (columns mine : List Column) (level : OneLevel) → map kind_of_column mine ≡ map kind_of_column columns → All (LiesIn mine) level.columns → All (LiesIn columns) level.columns
keys_in columns mine level kinds h k d lt = ap (λ ks. slice_get ks (get_or level.columns k d).position) (sym kinds) ∙ h k d lt

grown_sound : (columns : List Column) (tables : List Table) (entries : List Entry) (t : ℕ) (node : Node) (f : ℕ → TableTree) (shape : TableShape) → (table_at tables t).shape ≡ shape → map kind_of_column (table_at tables t).columns ≡ map kind_of_column columns → KeysLieIn (table_at tables t).columns shape → AreSiblings entries → All (Suits tables) entries → ((c : ℕ) → map kind_of_column (table_at tables c).columns ≡ map kind_of_column columns → IsSound columns (f c))
    → IsSound columns (grown shape node (map bound_of (children entries t)) (map (λ (e : Entry). f (child_of_entry e)) (children entries t)))
grown_sound columns tables entries t node f (Leaf leaf) is kinds keys siblings suit each = tt
grown_sound columns tables entries t node f (Level level) is kinds keys siblings suit each =
    let below = all_below tables entries t suit in (
      length-map (children entries t) bound_of ∙ sym (count_is (λ (e : Entry). f (child_of_entry e)) (children entries t)),
      bounds_suit tables t level (children entries t) is below,
      siblings_in_order entries t siblings,
      keys_in columns (table_at tables t).columns level kinds keys,
      kids_sound columns tables t f (children entries t) kinds each below,
    )

bare_sound : (columns : List Column) (tables : List Table) (t : ℕ) (node : Node) (shape : TableShape) → map kind_of_column (table_at tables t).columns ≡ map kind_of_column columns → KeysLieIn (table_at tables t).columns shape → IsSound columns (grown shape node [] [])
bare_sound columns tables t node (Leaf leaf) kinds keys = tt
bare_sound columns tables t node (Level level) kinds keys = (refl, All-nil (IsOfLevel level), siblings_in_order [] 0 (λ i j d lt le. absurd (omega arith)), keys_in columns (table_at tables t).columns level kinds keys, tt)

within_sound : (n : ℕ) (columns : List Column) (tables : List Table) (entries : List Entry) (named t : ℕ) → map kind_of_column (table_at tables t).columns ≡ map kind_of_column columns → ((k : ℕ) → KeysLie tables k) → AreSiblings entries → All (Suits tables) entries → IsSound columns (tree_within n tables entries named t)
within_sound zero columns tables entries named t kinds keys siblings suit = bare_sound columns tables t (node_at tables named t) (table_at tables t).shape kinds (keys t)
within_sound (suc n) columns tables entries named t kinds keys siblings suit =
    grown_sound columns tables entries t (node_at tables named t) (λ c. tree_within n tables entries named c) (table_at tables t).shape refl kinds (keys t) siblings suit
    (λ c same. within_sound n columns tables entries named c same keys siblings suit)

-- what is shown is a part of what is present
filter_within : (p q : Entry → Bool) → ((e : Entry) → p e ≡ true → q e ≡ true) → (es : List Entry) → filter p es ≡ filter p (filter q es)
filter_within p q part [] = refl
filter_within p q part (e ∷ es) =
    let rest = filter_within p q part es in
    elim (cases_Bool (p e)) [
      | inl y ↦ let z : q e ≡ true = part e y in rw (y, z, y) (ap (λ l. e ∷ l) rest)
      | inr n ↦ elim (cases_Bool (q e)) [ inl u ↦ rw (n, u, n) rest | inr v ↦ rw (n, v) rest ]
    ]

left_part : (a b : Bool) → a && b ≡ true → a ≡ true
left_part true b e = refl
left_part false b e = absurd (cc)

shown_siblings : (h : History) (session : ℕ) (snap : TakenSnapshot) → AreSiblings (entries_present h session) → AreSiblings (entries_shown h session snap)
shown_siblings h session snap siblings =
    let same = filter_within (is_shown h session snap) (is_present h session) (λ e shown. left_part (is_present h session e) _ shown) (entries_added (catalogue_events h)) in
    subst AreSiblings (sym same) (siblings_kept (is_shown h session snap) (entries_present h session) siblings)

pub tree_sound : (h : History) (session table : ℕ) (snap : TakenSnapshot) → AreCatalogueSound h → AreSiblings (entries_present h session) → IsSound (table_at (tables_made (catalogue_events h)) table).columns (tree_of h session table snap)
unfolding Rattle.row_router.specs.Histories.tree_of
tree_sound h session table snap sound siblings =
    within_sound 7 (table_at (tables_made (catalogue_events h)) table).columns (tables_made (catalogue_events h)) (entries_shown h session snap) table table refl (all_keys_lie h sound) (shown_siblings h session snap siblings)
    (all_kept (Suits (tables_made (catalogue_events h))) (is_shown h session snap) (entries_added (catalogue_events h)) (all_suit h sound))

pub ddl_tree_sound : (h : History) (session table : ℕ) → AreCatalogueSound h → AreSiblings (entries_present h session) → IsSound (table_at (tables_made (catalogue_events h)) table).columns (ddl_tree h session table)
unfolding Rattle.row_router.specs.Histories.ddl_tree
ddl_tree_sound h session table sound siblings =
    within_sound 7 (table_at (tables_made (catalogue_events h)) table).columns (tables_made (catalogue_events h)) (entries_present h session) table table refl (all_keys_lie h sound) siblings
    (all_kept (Suits (tables_made (catalogue_events h))) (is_present h session) (entries_added (catalogue_events h)) (all_suit h sound))

pub trees_are_sound : TreesAreSound
trees_are_sound h session table snap sound siblings = (tree_sound h session table snap sound siblings, ddl_tree_sound h session table sound siblings)

-- ---- which marks a snapshot sees

pub same_marks : SameMarksSameTree
unfolding Rattle.row_router.specs.Histories.tree_of
same_marks h session table a b same =
    ap (λ es. tree_within 7 (tables_made (catalogue_events h)) es table table)
    (filter_agree (is_shown h session a) (is_shown h session b) (λ e. ap (λ x. is_present h session e && not x) (same e)) (entries_added (catalogue_events h)))

and_true : (b : Bool) → b && not false ≡ b
and_true true = refl
and_true false = refl

unseen_shows : (h : History) (session : ℕ) (snap : TakenSnapshot) (e : Entry) → sees_mark h snap e ≡ false → is_shown h session snap e ≡ is_present h session e
unseen_shows h session snap e unseen = ap (λ x. is_present h session e && not x) unseen ∙ and_true (is_present h session e)

pub unseen_marks : UnseenMarksShow
unfolding Rattle.row_router.specs.Histories.tree_of Rattle.row_router.specs.Histories.ddl_tree
unseen_marks h session table snap unseen =
    ap (λ es. tree_within 7 (tables_made (catalogue_events h)) es table table)
    (filter_agree (is_shown h session snap) (is_present h session) (λ e. unseen_shows h session snap e (unseen e)) (entries_added (catalogue_events h)))
