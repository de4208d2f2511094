-- The scans among the lines of a plan.
use Rattle.std.proofs.Common.{◌≡◌, ℕ, zero, suc, ◌+◌, ◌-◌, ◌*◌, ◌==◌, ◌&&◌, ◌||◌, arith, length, Bool, true, false, if◌then◌else◌, List, [], ◌∷◌, ◌++◌, map, replicate, refl, sym, ap, ◌∙◌, append-nil, append_assoc}
use Rattle.std.specs.Prelude.{Option, Some, None, codes, decimal}
use Rattle.std.specs.List.{flat_map, list_any}
use Rattle.std.proofs.lemmas.List.{map-append}
use Rattle.std.proofs.lemmas.List.Concat.{flat_map-append}
use Rattle.cond_logic.specs.declared.select.SortKey.{SortKey}
use Rattle.cond_logic.specs.Asked.{OutputTree, SelectMeant}
use Rattle.cond_logic.specs.Tables.{Leaf}
use Rattle.plan_tree.specs.OrderedAppends.{parts_joined, sorted_parts}
use Rattle.plan_tree.specs.Counts.{given_count}
use Rattle.plan_tree.specs.Plans.{PlannedItem, Planned, Pair, both as items_of, behind, paired, unpaired, scanned_items, is_none, keeps_none, is_empty, scan_conjuncts, hash_conds, join_filter}
use Rattle.plan_tree.specs.declared.join_kind.JoinKind.{JoinKind}
use Rattle.plan_tree.specs.declared.join_kind.JoinKind.TheVariants.{NestedLoop, HashJoin}
use Rattle.plan_tree.proofs.OrderedParts.{AreAll, parts_are_all}
use Rattle.plan_text.specs.declared.named_item.NamedItem.{NamedItem}
use Rattle.plan_text.specs.Conditions.{several}
use Rattle.plan_text.specs.Names.{alias_behind}
use Rattle.plan_text.specs.Nodes.{Node, arrow, detail_line, alone, over, each, both}
use Rattle.plan_text.specs.Plans.{Counts, detail, filters, join_details, scan_text, scan, scans, is_one_scan, removed_detail, item_scans, item, join_text, join, joined, joins, never, pair_joins, all_joins, items, rows, sort_detail, sorted, part_scans, sorted_part, ordered_append, in_order, limited}
use Rattle.plan_text.specs.ScanLines.{unspaced, following, first_or, behind_arrow, scan_in, item_leaves, plan_leaves, ScansAreOfTheLeaves}

-- ---- a line

after_spaces : (k : ℕ) (bs : List ℕ) → unspaced (replicate k 32 ++ bs) ≡ unspaced bs
after_spaces zero bs = refl
after_spaces (suc k) bs = after_spaces k bs

-- the text of a node begins with no space and no arrow
pub record IsText (text : List ℕ) : Type 0 where
  pub spaces : unspaced text ≡ text
  pub unarrowed : following (codes "->  ") text ≡ []

-- it stands behind its arrow
node_text : (d : ℕ) (text : List ℕ) → IsText text → behind_arrow (unspaced (arrow d ++ text)) ≡ text
node_text d text is = by (d == 0)
  where
    by : (b : Bool) → behind_arrow (unspaced ((if b then [] else replicate (6 * d - 4) 32 ++ codes "->  ") ++ text)) ≡ text
    by true = ap behind_arrow is.spaces ∙ ap (λ l. first_or l text) is.unarrowed
    by false =
        ap (λ l. behind_arrow (unspaced l)) (append_assoc (replicate (6 * d - 4) 32) (codes "->  ") text)
        ∙ ap behind_arrow (after_spaces (6 * d - 4) (codes "->  " ++ text))

scan_of_node : (d : ℕ) (text : List ℕ) → IsText text → scan_in (arrow d ++ text) ≡ following (codes "Seq Scan on ") text
scan_of_node d text is = ap (following (codes "Seq Scan on ")) (node_text d text is)

-- ---- details are no scans

abbrev IsDetail : List ℕ → Type 0
IsDetail text = following (codes "Seq Scan on ") (behind_arrow (unspaced text)) ≡ []

abbrev AreDetails : List (List ℕ) → Type 0
AreDetails [] = Unit {0}
AreDetails (t ∷ ts) = IsDetail t × AreDetails ts

details_scan_nothing : (d : ℕ) (ts : List (List ℕ)) → AreDetails ts → flat_map scan_in (map (detail_line d) ts) ≡ []
details_scan_nothing d [] h = refl
details_scan_nothing d (t ∷ ts) h =
    let line : scan_in (detail_line d t) ≡ [] = ap (λ l. following (codes "Seq Scan on ") (behind_arrow l)) (after_spaces (6 * d + 2) t) ∙ h.0 in
    ap (λ l. l ++ flat_map scan_in (map (detail_line d) ts)) line ∙ details_scan_nothing d ts h.1

filter_details : (ts : List (List ℕ)) → AreDetails (detail (codes "Filter: ") ts)
filter_details [] = tt
filter_details (t ∷ ts) = (refl, tt)

hash_details : (ts : List (List ℕ)) → AreDetails (detail (codes "Hash Cond: ") ts)
hash_details [] = tt
hash_details (t ∷ ts) = (refl, tt)

join_filter_details : (ts : List (List ℕ)) → AreDetails (detail (codes "Join Filter: ") ts)
join_filter_details [] = tt
join_filter_details (t ∷ ts) = (refl, tt)

all_details : (xs ys : List (List ℕ)) → AreDetails xs → AreDetails ys → AreDetails (xs ++ ys)
all_details [] ys h k = k
all_details (x ∷ xs) ys h k = (h.0, all_details xs ys h.1 k)

of_join : (ns : List NamedItem) (i : PlannedItem) → AreDetails (join_details ns i)
of_join ns i =
    let conds = several ns (hash_conds i) in
    let asked = several ns (join_filter i) in
    all_details (detail (codes "Hash Cond: ") conds) (detail (codes "Join Filter: ") asked) (hash_details conds) (join_filter_details asked)

removed_details : (removed : ℕ) → AreDetails (removed_detail removed)
removed_details removed = by (removed == 0)
  where
    by : (b : Bool) → AreDetails (if b then [] else (codes "Subplans Removed: " ++ decimal removed) ∷ [])
    by true = tt
    by false = (refl, tt)

-- ---- nodes

-- a text that is no scan
pub record IsOther (text : List ℕ) : Type 0 where
  pub is_text : IsText text
  pub scan : following (codes "Seq Scan on ") text ≡ []

alone_scans : (text : List ℕ) (details : List (List ℕ)) (d : ℕ) → IsOther text → AreDetails details → flat_map scan_in (alone text details d) ≡ []
alone_scans text details d is h =
    ap (λ l. l ++ flat_map scan_in (map (detail_line d) details)) (scan_of_node d text is.is_text ∙ is.scan) ∙ details_scan_nothing d details h

-- a node over others scans what they scan
over_scans : (text : List ℕ) (details : List (List ℕ)) (below : Node) (leaves : List (List ℕ)) → IsOther text → AreDetails details → ((d : ℕ) → flat_map scan_in (below d) ≡ leaves) → (d : ℕ) → flat_map scan_in (over text details below d) ≡ leaves
over_scans text details below leaves is h of_below d =
    flat_map-append scan_in (alone text details d) (below (d + 1))
    ∙ ap (λ l. l ++ flat_map scan_in (below (d + 1))) (alone_scans text details d is h) ∙ of_below (d + 1)

append_is : IsOther (codes "Append")
append_is = record { is_text = record { spaces = refl; unarrowed = refl }; scan = refl }

join_is : (k : JoinKind) → IsOther (join_text k)
join_is NestedLoop = record { is_text = record { spaces = refl; unarrowed = refl }; scan = refl }
join_is HashJoin = record { is_text = record { spaces = refl; unarrowed = refl }; scan = refl }

result_is : IsOther (codes "Result")
result_is = record { is_text = record { spaces = refl; unarrowed = refl }; scan = refl }

sort_is : IsOther (codes "Sort")
sort_is = record { is_text = record { spaces = refl; unarrowed = refl }; scan = refl }

ordered_is : IsOther (codes "Ordered Append")
ordered_is = record { is_text = record { spaces = refl; unarrowed = refl }; scan = refl }

limit_is : IsOther (codes "Limit")
limit_is = record { is_text = record { spaces = refl; unarrowed = refl }; scan = refl }

-- ---- items, of a plan that was not run

abbrev unrun : Counts
unrun = None

module _ (ns : List NamedItem) where
  scan_is : (n : ℕ) (leaf : Leaf) → IsText (scan_text ns n leaf)
  scan_is n leaf = record { spaces = refl; unarrowed = refl }

  scan_scans : (n : ℕ) (details : List (List ℕ)) (leaf : Leaf) (d : ℕ) → AreDetails details → flat_map scan_in (scan ns unrun n details leaf d) ≡ (leaf.name ++ alias_behind ns n) ∷ []
  scan_scans n details leaf d h =
      ap (λ l. l ++ flat_map scan_in (map (detail_line d) details)) (scan_of_node d (scan_text ns n leaf) (scan_is n leaf))
      ∙ ap (λ l. (leaf.name ++ alias_behind ns n) ∷ l) (details_scan_nothing d details h)

  scans_scan : (n : ℕ) (details : List (List ℕ)) (ls : List Leaf) (d : ℕ) → AreDetails details → flat_map scan_in (scans ns unrun n details ls d) ≡ map (λ leaf. leaf.name ++ alias_behind ns n) ls
  scans_scan n details [] d h = refl
  scans_scan n details (l ∷ ls) d h =
      flat_map-append scan_in (scan ns unrun n details l d) (scans ns unrun n details ls d)
      ∙ ap (λ x. x ++ flat_map scan_in (scans ns unrun n details ls d)) (scan_scans n details l d h)
      ∙ ap (λ x. (l.name ++ alias_behind ns n) ∷ x) (scans_scan n details ls d h)

  item_scan : (i : PlannedItem) (d : ℕ) → flat_map scan_in (item ns unrun i d) ≡ item_leaves ns i
  item_scan i d = by (is_one_scan i)
    where
      here : (e : ℕ) → flat_map scan_in (item_scans ns unrun i e) ≡ item_leaves ns i
      here e = scans_scan i.number (filters ns i) i.leaves e (filter_details (several ns (scan_conjuncts i)))

      by : (b : Bool) → flat_map scan_in ((if b then item_scans ns unrun i else over (codes "Append") (removed_detail i.removed) (item_scans ns unrun i)) d) ≡ item_leaves ns i
      by true = here d
      by false = over_scans (codes "Append") (removed_detail i.removed) (item_scans ns unrun i) (item_leaves ns i) append_is (removed_details i.removed) here d

  joined_scan : (is : List PlannedItem) (left : Node) (leaves : List (List ℕ)) → ((d : ℕ) → flat_map scan_in (left d) ≡ leaves) → (d : ℕ) → flat_map scan_in (joined ns unrun left is d) ≡ leaves ++ flat_map (item_leaves ns) is
  joined_scan [] left leaves of_left d = of_left d ∙ sym (append-nil leaves)
  joined_scan (i ∷ is) left leaves of_left d =
      joined_scan is (join ns unrun left i) (leaves ++ item_leaves ns i) here d ∙ append_assoc leaves (item_leaves ns i) (flat_map (item_leaves ns) is)
    where
      sides : (e : ℕ) → flat_map scan_in (both left (item ns unrun i) e) ≡ leaves ++ item_leaves ns i
      sides e =
          flat_map-append scan_in (left e) (item ns unrun i e) ∙ ap (λ l. l ++ flat_map scan_in (item ns unrun i e)) (of_left e)
          ∙ ap (λ l. leaves ++ l) (item_scan i e)

      here : (e : ℕ) → flat_map scan_in (join ns unrun left i e) ≡ leaves ++ item_leaves ns i
      here = over_scans (join_text i.join) (join_details ns i) (both left (item ns unrun i)) (leaves ++ item_leaves ns i) (join_is i.join) (of_join ns i) sides

  items_scan : (is : List PlannedItem) (d : ℕ) → flat_map scan_in (items ns unrun is d) ≡ flat_map (item_leaves ns) is
  items_scan [] d = alone_scans (codes "Result") [] d result_is tt
  items_scan (i ∷ is) d = joined_scan is (item ns unrun i) (item_leaves ns i) (item_scan i) d

  joins_scan : (is : List PlannedItem) (d : ℕ) → flat_map scan_in (joins ns unrun is d) ≡ flat_map (item_leaves ns) is
  joins_scan [] d = refl
  joins_scan (i ∷ is) d = joined_scan is (item ns unrun i) (item_leaves ns i) (item_scan i) d

  -- ---- pairs

  each_scan : (ps : List Pair) (d : ℕ) → flat_map scan_in (each (λ p. joins ns unrun (items_of p)) ps d) ≡ flat_map (item_leaves ns) (flat_map items_of ps)
  each_scan [] d = refl
  each_scan (p ∷ ps) d =
      flat_map-append scan_in (joins ns unrun (items_of p) d) (each (λ q. joins ns unrun (items_of q)) ps d)
      ∙ ap (λ l. l ++ flat_map scan_in (each (λ q. joins ns unrun (items_of q)) ps d)) (joins_scan (items_of p) d)
      ∙ ap (λ l. flat_map (item_leaves ns) (items_of p) ++ l) (each_scan ps d)
      ∙ sym (flat_map-append (item_leaves ns) (items_of p) (flat_map items_of ps))

  pairs_scan : (ps : List Pair) (d : ℕ) → flat_map scan_in (pair_joins ns unrun ps d) ≡ flat_map (item_leaves ns) (flat_map items_of ps)
  pairs_scan [] d = alone_scans (codes "Result") (codes "One-Time Filter: false" ∷ []) d result_is (refl, tt)
  pairs_scan (p ∷ []) d = joins_scan (items_of p) d
  pairs_scan (p ∷ q ∷ ps) d =
      over_scans (codes "Append") [] (each (λ r. joins ns unrun (items_of r)) (p ∷ q ∷ ps)) (flat_map (item_leaves ns) (flat_map items_of (p ∷ q ∷ ps))) append_is tt (each_scan (p ∷ q ∷ ps)) d

  all_joins_scan : (ps : Option (List Pair)) (is : List PlannedItem) (d : ℕ) → flat_map scan_in (all_joins ns unrun ps is d) ≡ flat_map (item_leaves ns) (paired ps ++ is)
  all_joins_scan None is d = items_scan is d
  all_joins_scan (Some ps) is d =
      joined_scan is (pair_joins ns unrun ps) (flat_map (item_leaves ns) (flat_map items_of ps)) (pairs_scan ps) d ∙ sym (flat_map-append (item_leaves ns) (flat_map items_of ps) is)

  rows_scan : (p : Planned) (d : ℕ) → flat_map scan_in (rows ns unrun p d) ≡ plan_leaves ns p
  rows_scan p d = by (is_empty p)
    where
      by : (b : Bool) → flat_map scan_in ((if b then never given_count unrun else all_joins ns unrun p.pairs (unpaired p)) d) ≡ (if b then [] else flat_map (item_leaves ns) (scanned_items p))
      by true = alone_scans (codes "Result") (codes "One-Time Filter: false" ∷ []) d result_is (refl, tt)
      by false = all_joins_scan p.pairs (unpaired p) d

  sorted_scan : (os : List OutputTree) (ks : List SortKey) (n : Node) (leaves : List (List ℕ)) → ((d : ℕ) → flat_map scan_in (n d) ≡ leaves) → (d : ℕ) → flat_map scan_in (sorted ns unrun os ks n d) ≡ leaves
  sorted_scan os [] n leaves of_node d = of_node d
  sorted_scan os (k ∷ ks) n leaves of_node d = over_scans (codes "Sort") (sort_detail ns os (k ∷ ks)) n leaves sort_is (refl, tt) of_node d

  -- ---- parts that are sorted by themselves

  abbrev named : PlannedItem → List Leaf → List (List ℕ)
  named i ls = map (λ (leaf : Leaf). leaf.name ++ alias_behind ns i.number) ls

  part_scan : (i : PlannedItem) (part : List Leaf) (d : ℕ) → flat_map scan_in (part_scans ns unrun i part d) ≡ named i part
  part_scan i part d = by (length part == 1)
    where
      here : (e : ℕ) → flat_map scan_in (scans ns unrun i.number (filters ns i) part e) ≡ named i part
      here e = scans_scan i.number (filters ns i) part e (filter_details (several ns (scan_conjuncts i)))

      by : (b : Bool) → flat_map scan_in ((if b then scans ns unrun i.number (filters ns i) part else over (codes "Append") [] (scans ns unrun i.number (filters ns i) part)) d) ≡ named i part
      by true = here d
      by false = over_scans (codes "Append") [] (scans ns unrun i.number (filters ns i) part) (named i part) append_is tt here d

  module _ (keys : List (List ℕ)) (h : AreDetails keys) where
    one_part : (i : PlannedItem) (part : List Leaf) (d : ℕ) → flat_map scan_in (sorted_part ns unrun keys i part d) ≡ named i part
    one_part i part d = over_scans (codes "Sort") keys (part_scans ns unrun i part) (named i part) sort_is h (part_scan i part) d

    parts_scan : (i : PlannedItem) (parts : List (List Leaf)) (d : ℕ) → flat_map scan_in (each (sorted_part ns unrun keys i) parts d) ≡ named i (parts_joined parts)
    parts_scan i [] d = refl
    parts_scan i (part ∷ parts) d =
        flat_map-append scan_in (sorted_part ns unrun keys i part d) (each (sorted_part ns unrun keys i) parts d)
        ∙ ap (λ l. l ++ flat_map scan_in (each (sorted_part ns unrun keys i) parts d)) (one_part i part d)
        ∙ ap (λ l. named i part ++ l) (parts_scan i parts d)
        ∙ sym (map-append (λ (leaf : Leaf). leaf.name ++ alias_behind ns i.number) part (parts_joined parts))

    ordered_scan : (i : PlannedItem) (parts : List (List Leaf)) (d : ℕ) → flat_map scan_in (ordered_append ns unrun keys (i ∷ []) parts d) ≡ named i (parts_joined parts)
    ordered_scan i parts d = over_scans (codes "Ordered Append") [] (each (sorted_part ns unrun keys i) parts) (named i (parts_joined parts)) ordered_is tt (parts_scan i parts) d

  -- an item without a leaf has none to tell
  no_leaf : (ls : List Leaf) (z : Bool) → true ≡ ((is_none ls && z) || false) → ls ≡ []
  no_leaf [] z is = refl
  no_leaf (l ∷ ls) z is = absurd (cc)

  one_plan : (i : PlannedItem) (b : Bool) → b ≡ list_any keeps_none (i ∷ []) → item_leaves ns i ≡ (if b then [] else flat_map (item_leaves ns) (i ∷ []))
  one_plan i false is = sym (append-nil (item_leaves ns i))
  one_plan i true is = ap (named i) (no_leaf i.leaves (i.removed == 0) is)

  all_scan : (keys : List (List ℕ)) → AreDetails keys → (p : Planned) (parts : List (List Leaf)) (d : ℕ) → AreAll p.pairs p.items parts → flat_map scan_in (ordered_append ns unrun keys p.items parts d) ≡ plan_leaves ns p
  all_scan keys h p parts d all =
      ap (λ is. flat_map scan_in (ordered_append ns unrun keys is parts d)) all.alone
      ∙ ordered_scan keys h all.item parts d
      ∙ ap (named all.item) all.over.whole
      ∙ one_plan all.item (list_any keeps_none (all.item ∷ [])) refl
      ∙ ap (λ is. if list_any keeps_none is then [] else flat_map (item_leaves ns) is) (sym all.alone)
      ∙ ap (λ ps. if is_empty p then [] else flat_map (item_leaves ns) (paired ps ++ behind ps p.items)) (sym all.unpaired)

  in_order_scan : (m : SelectMeant) (p : Planned) (d : ℕ) → flat_map scan_in (in_order ns unrun m p (sorted_parts m p) d) ≡ plan_leaves ns p
  in_order_scan m p d = by (sorted_parts m p) refl
    where
      by : (parts : List (List Leaf)) → parts ≡ sorted_parts m p → flat_map scan_in (in_order ns unrun m p parts d) ≡ plan_leaves ns p
      by [] is = sorted_scan m.outputs m.order (rows ns unrun p) (plan_leaves ns p) (rows_scan p) d
      by (part ∷ parts) is = all_scan (sort_detail ns m.outputs m.order) (refl, tt) p (part ∷ parts) d (parts_are_all m p.pairs p.items (part ∷ parts) is (omega arith))

limited_scan : (is_cut : Bool) (n : Node) (leaves : List (List ℕ)) → ((d : ℕ) → flat_map scan_in (n d) ≡ leaves) → (d : ℕ) → flat_map scan_in (limited unrun is_cut n d) ≡ leaves
limited_scan false n leaves of_node d = of_node d
limited_scan true n leaves of_node d = over_scans (codes "Limit") [] n leaves limit_is tt of_node d

pub of_the_leaves : ScansAreOfTheLeaves
of_the_leaves ns is_cut m p = limited_scan is_cut (in_order ns unrun m p (sorted_parts m p)) (plan_leaves ns p) (in_order_scan ns m p) 0
