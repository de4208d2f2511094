-- What each part of a condition keeps of a level, beside what is known.
use Rattle.std.proofs.Common.{◌≡◌, ℕ, zero, suc, ◌+◌, ◌*◌, ◌^◌, ◌<◌, ◌≤◌, Bool, true, false, ◌&&◌, List, [], ◌∷◌, ◌++◌, map, length, get_or, refl, sym, ap, ◌∙◌, arith, subst, nat_lt, if◌then◌else◌}
use Rattle.std.specs.Prelude.{Option, Some, None, slice_get}
use Rattle.std.specs.List.{All}
use Rattle.std.proofs.Math.Nat.{mul-zero, mul-one}
use Rattle.pg_values.specs.declared.value.Value.{Value}
use Rattle.pg_values.specs.declared.strategy.Strategy.{Strategy}
use Rattle.pg_values.specs.declared.strategy.Strategy.TheVariants.{Range as ByRange, List as ByList, Hash as ByHash}
use Rattle.bound_forms.specs.declared.level.KeyColumn.{KeyColumn}
use Rattle.bound_forms.specs.declared.level.Level.{Level}
use Rattle.bound_forms.specs.declared.partition_bound.Bound.{Bound}
use Rattle.bound_forms.specs.declared.partition_bound.Bound.TheVariants.{Default}
use Rattle.bound_forms.specs.Accepts.{accepts}
use Rattle.bound_forms.specs.Levels.{IsOfLevel}
use Rattle.cond_logic.specs.declared.cond.CompareOp.{CompareOp}
use Rattle.cond_logic.specs.declared.cond.CompareOp.TheVariants.{Eq, Ne, Lt, Le, Gt, Ge}
use Rattle.cond_logic.specs.declared.cond.Cond.{Cond}
use Rattle.cond_logic.specs.declared.cond.CondList.{CondList}
use Rattle.cond_logic.specs.declared.cond.Cond.TheVariants.{Compare, IsNull, Const}
use Rattle.cond_logic.specs.declared.cond.Cond.TheViews.{And, Or}
use Rattle.cond_logic.specs.declared.cond.Operand.{Operand}
use Rattle.cond_logic.specs.declared.truth.Truth3.{Truth3}
use Rattle.cond_logic.specs.Trees.{CondTree, any_of, inverted, listed, cond_tree, cond_trees}
use Rattle.part_bounds.specs.Stored.{stored}
use Rattle.prune_steps.specs.declared.asking.Asking.{Asking}
use Rattle.prune_steps.specs.declared.asking.Read.{Read}
use Rattle.prune_steps.specs.declared.chain.ChainOp.{ChainOp}
use Rattle.prune_steps.specs.AskedBy.{AskedByRange, AskedByList}
use Rattle.prune_steps.specs.Asking.{asked_by, operand_known, known_in, reading_of, given_values}
use Rattle.prune_steps.specs.Atoms.{Asked, key_of, reading, suits, given, values_before, Reading, On, ReadingFits}
use Rattle.prune_steps.specs.Bits.{bit, AreBits}
use Rattle.prune_steps.specs.Chains.{chain_keeps}
use Rattle.prune_steps.specs.Kept.{range_keeps, on_keeps, reading_keeps, null_keeps, not_null_keeps, inverted_keeps, is_not_no, key_keeps, full_key, part_keeps, parts_keep, choices_keep, whole_keeps}
use Rattle.prune_steps.specs.Runs.{chain_op, ends_of}
use Rattle.prune_steps.specs.Searches.{searches_by_range, on_searches, reading_searches, part_searches, parts_search, choices_search}
use Rattle.prune_steps.proofs.AskLaws.{suit_more, asks_range, asks_list}
use Rattle.prune_steps.proofs.KnownTrees.{and_known, or_known, is_one_known, not_one_known, whole}
use Rattle.prune_steps.proofs.CondTrees.{compares_is, null_is, const_is}
use Rattle.prune_steps.proofs.Fitting.{pushed_long, prefix_is, ends_are}

-- ---- by range

pub chain_asked : (a : Asked) (t : CondTree) (j : ℕ) (o : ChainOp) (v : Value) (bounds : List Bound) → a.level.strategy ≡ ByRange → All (IsOfLevel a.level) bounds → suits (slice_get a.level.columns j) v ≡ true
    → values_before (given a false t) j ≡ Some (given_values (given a false t) j) → AskedByRange bounds o (length a.level.columns + 1) (given_values (given a false t) j ++ v ∷ [])
chain_asked a t j o v bounds is all fits before =
    let p = given_values (given a false t) j in
    let pre = prefix_is a t j p before in
    let m = pushed_long p v in
    asks_range a.level bounds o (p ++ v ∷ []) is all (omega (arith, m)) (suit_more a.level.columns p v pre.suit (rw (pre.long) fits))

pub chain_is : (f : ℕ → Option Value) (n j : ℕ) (op : CompareOp) (o : ChainOp) (v : Value) (bounds : List Bound) (b : Bound) → chain_op op ≡ Some o → values_before f j ≡ Some (given_values f j)
    → chain_keeps bounds (nat_lt (j + 1) n) (ends_of (n + 1) o (given_values f j ++ v ∷ [])) b ≡ range_keeps bounds n (values_before f j) j op v b
chain_is f n j op o v bounds b e before = rw (before, ends_are (n + 1) op o (given_values f j) v e) refl

pub all_before : (n j : ℕ) (op : CompareOp) (v : Value) (bounds : List Bound) (b : Bound) (r : Option (List Value)) → r ≡ None → true ≡ range_keeps bounds n r j op v b
all_before n j op v bounds b r none = rw none refl

pub one_search : (op : CompareOp) (o : ChainOp) (p : List Value) (r : Option (List Value)) → chain_op op ≡ Some o → r ≡ Some p → searches_by_range r op ≡ 1
one_search op o p r e is = ap (λ q. searches_by_range q op) is ∙ by op e
  where
    by : (q : CompareOp) → chain_op q ≡ Some o → searches_by_range (Some p) q ≡ 1
    by Eq h = refl
    by Ne h = cc
    by Lt h = refl
    by Le h = refl
    by Gt h = refl
    by Ge h = refl

pub no_search : (op : CompareOp) (r : Option (List Value)) → chain_op op ≡ None → searches_by_range r op ≡ 0
no_search op None e = refl
no_search Ne (Some p) e = refl
no_search Eq (Some p) e = cc
no_search Lt (Some p) e = cc
no_search Le (Some p) e = cc
no_search Gt (Some p) e = cc
no_search Ge (Some p) e = cc

pub unsearched : (op : CompareOp) (r : Option (List Value)) → r ≡ None → searches_by_range r op ≡ 0
unsearched op r none = ap (λ q. searches_by_range q op) none

pub suits_within : (columns : List KeyColumn) (j : ℕ) (v : Value) → suits (slice_get columns j) v ≡ true → j < length columns
suits_within [] j v h = cc
suits_within (c ∷ cs) zero v h = omega arith
suits_within (c ∷ cs) (suc j) v h = let w = suits_within cs j v h in omega (arith, w)

-- ---- by list

only_column : (columns : List KeyColumn) (j : ℕ) (v : Value) → length columns ≡ 1 → suits (slice_get columns j) v ≡ true → suits (slice_get columns 0) v ≡ true
only_column columns zero v l s = s
only_column [] (suc i) v l s = cc
only_column (d ∷ []) (suc i) v l s = cc
only_column (d ∷ (e ∷ columns)) (suc i) v l s = absurd (omega (arith, l))

pub list_asked : (level : Level) (j : ℕ) (v : Value) (bounds : List Bound) → level.strategy ≡ ByList → All (IsOfLevel level) bounds → suits (slice_get level.columns j) v ≡ true → AskedByList bounds (v ∷ [])
list_asked level j v bounds is all fits = asks_list level bounds v is all (only_column level.columns j v (level.one_if_list is) fits)

-- ---- a reading

pub On_fits : (columns : List KeyColumn) (reading : Read) (j : ℕ) (op : CompareOp) (v : Value) → reading_of reading ≡ On j op v → ReadingFits columns (reading_of reading) → suits (slice_get columns j) v ≡ true
On_fits columns reading j op v is h = subst (ReadingFits columns) is h

pub on_kept : (a : Asked) (bounds : List Bound) (f : ℕ → Option Value) (r : Reading) (s : Strategy) (j : ℕ) (op : CompareOp) (v : Value) (bits : List ℕ) → r ≡ On j op v → a.level.strategy ≡ s
    → AreBits (length bounds) bits (λ k. on_keeps a bounds f s j op v (get_or bounds k Default)) → AreBits (length bounds) bits (λ k. reading_keeps a bounds f r (get_or bounds k Default))
on_kept a bounds f r s j op v bits at is h k lt =
    h k lt ∙ (ap (λ q. on_keeps a bounds f q j op v (get_or bounds k Default)) (sym is) ∙ ap (λ q. reading_keeps a bounds f q (get_or bounds k Default)) (sym at))

pub on_searched : (a : Asked) (f : ℕ → Option Value) (r : Reading) (s : Strategy) (j : ℕ) (op : CompareOp) (v : Value) → r ≡ On j op v → a.level.strategy ≡ s → on_searches f s j op ≡ reading_searches a f r
on_searched a f r s j op v at is = ap (λ q. on_searches f q j op) (sym is) ∙ ap (reading_searches a f) (sym at)

-- ---- by hash

pub key_met : (s : Strategy) (r : Option (List Value)) (key : List Value) (bounds : List Bound) (old new : List ℕ) → s ≡ ByHash → r ≡ Some key
    → AreBits (length bounds) new (λ k. bit old k && accepts key (get_or bounds k Default)) → AreBits (length bounds) new (λ k. key_keeps s r (get_or bounds k Default) && bit old k)
key_met s r key bounds old new is at met k lt =
    met k lt ∙ (turn (bit old k) (accepts key (get_or bounds k Default)) ∙ ap (λ t. t && bit old k) keeps)
  where
    turn : (s t : Bool) → (s && t) ≡ (t && s)
    turn true true = refl
    turn true false = refl
    turn false true = refl
    turn false false = refl

    keeps : accepts key (get_or bounds k Default) ≡ key_keeps s r (get_or bounds k Default)
    keeps = rw (is, at) refl

-- of the set those that are in the other too
pub set_met : (n : ℕ) (old own new : List ℕ) (f : ℕ → Bool) → n ≤ 1024 → AreBits n own f → AreBits 1024 new (λ k. bit old k && bit own k) → AreBits n new (λ k. bit old k && f k)
set_met n old own new f small mine both k lt = both k (omega (arith, lt, small)) ∙ ap (λ t. bit old k && t) (mine k lt)

pub no_key_met : (s : Strategy) (r : Option (List Value)) (bounds : List Bound) (old : List ℕ) → r ≡ None → AreBits (length bounds) old (λ k. key_keeps s r (get_or bounds k Default) && bit old k)
no_key_met s r bounds old none k lt = sym (ap (λ t. t && bit old k) (ap (λ q. key_keeps s q (get_or bounds k Default)) none ∙ by s (get_or bounds k Default)))
  where
    by : (s : Strategy) (b : Bound) → key_keeps s None b ≡ true
    by ByRange b = refl
    by ByList b = refl
    by ByHash b = refl

pub by_range_all : (s : Strategy) (r : Option (List Value)) (bounds : List Bound) (old : List ℕ) → s ≡ ByRange → AreBits (length bounds) old (λ k. key_keeps s r (get_or bounds k Default) && bit old k)
by_range_all s r bounds old is k lt = sym (ap (λ q. key_keeps q r (get_or bounds k Default) && bit old k) is)

pub by_list_all : (s : Strategy) (r : Option (List Value)) (bounds : List Bound) (old : List ℕ) → s ≡ ByList → AreBits (length bounds) old (λ k. key_keeps s r (get_or bounds k Default) && bit old k)
by_list_all s r bounds old is k lt = sym (ap (λ q. key_keeps q r (get_or bounds k Default) && bit old k) is)

pub whole_kept : (a : Asked) (bounds : List Bound) (t : CondTree) (old new : List ℕ) → AreBits (length bounds) old (λ k. part_keeps a bounds (given a false t) t (get_or bounds k Default))
    → AreBits (length bounds) new (λ k. key_keeps a.level.strategy (full_key a t) (get_or bounds k Default) && bit old k) → AreBits (length bounds) new (λ k. whole_keeps a bounds t (get_or bounds k Default))
whole_kept a bounds t old new part met k lt = met k lt ∙ ap (λ s. key_keeps a.level.strategy (full_key a t) (get_or bounds k Default) && s) (part k lt)

-- ---- how often is compared

pub cost_as : (bounds : List Bound) (old new n m : ℕ) → n ≡ m → ((d : ℕ) → 2 * length (stored bounds) + 2 < 2 ^ (d + 1) → new ≤ old + 2 * d * n) → (d : ℕ) → 2 * length (stored bounds) + 2 < 2 ^ (d + 1) → new ≤ old + 2 * d * m
cost_as bounds old new n m is h d most = subst (λ s. new ≤ old + 2 * d * s) is (h d most)

pub counted_as : (bounds : List Bound) (old new n m : ℕ) → n ≡ m → ((d : ℕ) → 2 ^ d ≤ length (stored bounds) + 1 → old + d * n ≤ new) → (d : ℕ) → 2 ^ d ≤ length (stored bounds) + 1 → old + d * m ≤ new
counted_as bounds old new n m is h d few = subst (λ s. old + d * s ≤ new) is (h d few)

-- without a search
pub cost_none : (bounds : List Bound) (now n : ℕ) → n ≡ 0 → (d : ℕ) → 2 * length (stored bounds) + 2 < 2 ^ (d + 1) → now ≤ now + 2 * d * n
cost_none bounds now n is d most = omega arith

pub counted_none : (bounds : List Bound) (now n : ℕ) → n ≡ 0 → (d : ℕ) → 2 ^ d ≤ length (stored bounds) + 1 → now + d * n ≤ now
counted_none bounds now n is d few = let z = mul-zero d in let e : d * n ≡ 0 = ap (λ m. d * m) is ∙ z in omega (arith, e)

-- by one search
pub cost_one : (bounds : List Bound) (old new n : ℕ) → n ≡ 1 → ((d : ℕ) → 2 * length (stored bounds) + 2 < 2 ^ (d + 1) → new ≤ old + 2 * d) → (d : ℕ) → 2 * length (stored bounds) + 2 < 2 ^ (d + 1) → new ≤ old + 2 * d * n
cost_one bounds old new n is h d most = let a = h d most in let e : 2 * d * n ≡ 2 * d = ap (λ m. 2 * d * m) is ∙ mul-one (2 * d) in omega (arith, a, e)

pub counted_one : (bounds : List Bound) (old new n : ℕ) → n ≡ 1 → ((d : ℕ) → 2 ^ d ≤ length (stored bounds) + 1 → old + d ≤ new) → (d : ℕ) → 2 ^ d ≤ length (stored bounds) + 1 → old + d * n ≤ new
counted_one bounds old new n is h d few = let a = h d few in let e : d * n ≡ d = ap (λ m. d * m) is ∙ mul-one d in omega (arith, a, e)

-- by the two searches of a chain
pub counted_two : (bounds : List Bound) (old new n : ℕ) → n ≡ 1 → ((d : ℕ) → 2 ^ d ≤ length (stored bounds) + 1 → old + 2 * d ≤ new) → (d : ℕ) → 2 ^ d ≤ length (stored bounds) + 1 → old + d * n ≤ new
counted_two bounds old new n is h d few = let a = h d few in let e : d * n ≡ d = ap (λ m. d * m) is ∙ mul-one d in omega (arith, a, e)

-- ---- the parts of a condition

module _ (g : Asking) (bounds : List Bound) (f : ℕ → Option Value) where
  abbrev PartKept : CondTree → List ℕ → Type 0
  PartKept t bits = AreBits (length bounds) bits (λ k. part_keeps (asked_by g) bounds f t (get_or bounds k Default))

  pub and_kept : (cond : Cond) (l : CondList) (xs : List Cond) (bits : List ℕ) → cond ≡ And l → listed (map cond_tree xs) ≡ cond_trees l
      → AreBits (length bounds) bits (λ k. parts_keep (asked_by g) bounds f (whole g xs) (get_or bounds k Default)) → PartKept (known_in g (cond_tree cond)) bits
  and_kept cond l xs bits is at h = subst (λ t. PartKept t bits) (sym (and_known g cond l xs is at)) h

  pub and_searched : (cond : Cond) (l : CondList) (xs : List Cond) → cond ≡ And l → listed (map cond_tree xs) ≡ cond_trees l → parts_search (asked_by g) f (whole g xs) ≡ part_searches (asked_by g) f (known_in g (cond_tree cond))
  and_searched cond l xs is at = sym (ap (part_searches (asked_by g) f) (and_known g cond l xs is at))

  pub one_kept : (cond : Cond) (l : CondList) (xs : List Cond) (bits : List ℕ) → cond ≡ Or l → listed (map cond_tree xs) ≡ cond_trees l → length xs ≡ 1
      → AreBits (length bounds) bits (λ k. parts_keep (asked_by g) bounds f (whole g xs) (get_or bounds k Default)) → PartKept (known_in g (cond_tree cond)) bits
  one_kept cond l xs bits is at one h = subst (λ t. PartKept t bits) (sym (or_known g cond l xs is at)) (λ k lt. h k lt ∙ sym (by k))
    where
      by : (k : ℕ) → part_keeps (asked_by g) bounds f (any_of (whole g xs)) (get_or bounds k Default) ≡ parts_keep (asked_by g) bounds f (whole g xs) (get_or bounds k Default)
      by k = ap (λ (t : Bool). if t then parts_keep (asked_by g) bounds f (whole g xs) (get_or bounds k Default) else choices_keep (asked_by g) bounds (whole g xs) (get_or bounds k Default)) (is_one_known g xs one)

  pub one_searched : (cond : Cond) (l : CondList) (xs : List Cond) → cond ≡ Or l → listed (map cond_tree xs) ≡ cond_trees l → length xs ≡ 1 → parts_search (asked_by g) f (whole g xs) ≡ part_searches (asked_by g) f (known_in g (cond_tree cond))
  one_searched cond l xs is at one =
      sym (ap (part_searches (asked_by g) f) (or_known g cond l xs is at) ∙ ap (λ (t : Bool). if t then parts_search (asked_by g) f (whole g xs) else choices_search (asked_by g) (whole g xs)) (is_one_known g xs one))

  pub many_kept : (cond : Cond) (l : CondList) (xs : List Cond) (bits : List ℕ) → cond ≡ Or l → listed (map cond_tree xs) ≡ cond_trees l → (length xs ≡ 1 → ⊥)
      → AreBits (length bounds) bits (λ k. choices_keep (asked_by g) bounds (whole g xs) (get_or bounds k Default)) → PartKept (known_in g (cond_tree cond)) bits
  many_kept cond l xs bits is at many h = subst (λ t. PartKept t bits) (sym (or_known g cond l xs is at)) (λ k lt. h k lt ∙ sym (by k))
    where
      by : (k : ℕ) → part_keeps (asked_by g) bounds f (any_of (whole g xs)) (get_or bounds k Default) ≡ choices_keep (asked_by g) bounds (whole g xs) (get_or bounds k Default)
      by k = ap (λ (t : Bool). if t then parts_keep (asked_by g) bounds f (whole g xs) (get_or bounds k Default) else choices_keep (asked_by g) bounds (whole g xs) (get_or bounds k Default)) (not_one_known g xs many)

  pub many_searched : (cond : Cond) (l : CondList) (xs : List Cond) → cond ≡ Or l → listed (map cond_tree xs) ≡ cond_trees l → (length xs ≡ 1 → ⊥) → choices_search (asked_by g) (whole g xs) ≡ part_searches (asked_by g) f (known_in g (cond_tree cond))
  many_searched cond l xs is at many =
      sym (ap (part_searches (asked_by g) f) (or_known g cond l xs is at) ∙ ap (λ (t : Bool). if t then parts_search (asked_by g) f (whole g xs) else choices_search (asked_by g) (whole g xs)) (not_one_known g xs many))

  pub not_kept : (cond : Cond) (t : CondTree) (bits : List ℕ) → cond_tree cond ≡ inverted t → AreBits (length bounds) bits (λ k. inverted_keeps (asked_by g) (known_in g t) (get_or bounds k Default)) → PartKept (known_in g (cond_tree cond)) bits
  not_kept cond t bits is h = subst (λ u. PartKept u bits) (sym (ap (known_in g) is)) h

  pub not_searched : (cond : Cond) (t : CondTree) → cond_tree cond ≡ inverted t → part_searches (asked_by g) f (known_in g (cond_tree cond)) ≡ 0
  not_searched cond t is = ap (λ u. part_searches (asked_by g) f (known_in g u)) is

  pub compared_kept : (cond : Cond) (op : CompareOp) (x y : Operand) (r : Reading) (bits : List ℕ) → cond ≡ Compare op x y → r ≡ reading (asked_by g) op (operand_known g x) (operand_known g y)
      → AreBits (length bounds) bits (λ k. reading_keeps (asked_by g) bounds f r (get_or bounds k Default)) → PartKept (known_in g (cond_tree cond)) bits
  compared_kept cond op x y r bits is e h =
      subst (λ u. PartKept u bits) (sym (ap (known_in g) (ap cond_tree is ∙ compares_is op x y))) (subst (λ q. AreBits (length bounds) bits (λ k. reading_keeps (asked_by g) bounds f q (get_or bounds k Default))) e h)

  pub compared_searched : (cond : Cond) (op : CompareOp) (x y : Operand) (r : Reading) → cond ≡ Compare op x y → r ≡ reading (asked_by g) op (operand_known g x) (operand_known g y) → reading_searches (asked_by g) f r ≡ part_searches (asked_by g) f (known_in g (cond_tree cond))
  compared_searched cond op x y r is e = ap (reading_searches (asked_by g) f) e ∙ sym (ap (λ u. part_searches (asked_by g) f (known_in g u)) (ap cond_tree is ∙ compares_is op x y))

  pub null_kept : (cond : Cond) (x : Operand) (key : Option ℕ) (bits : List ℕ) → cond ≡ IsNull x → key ≡ key_of (asked_by g) (operand_known g x)
      → AreBits (length bounds) bits (λ k. null_keeps (asked_by g).level.strategy bounds key (get_or bounds k Default)) → PartKept (known_in g (cond_tree cond)) bits
  null_kept cond x key bits is e h =
      subst (λ u. PartKept u bits) (sym (ap (known_in g) (ap cond_tree is ∙ null_is x))) (subst (λ q. AreBits (length bounds) bits (λ k. null_keeps (asked_by g).level.strategy bounds q (get_or bounds k Default))) e h)

  pub null_searched : (cond : Cond) (x : Operand) → cond ≡ IsNull x → part_searches (asked_by g) f (known_in g (cond_tree cond)) ≡ 0
  null_searched cond x is = ap (λ u. part_searches (asked_by g) f (known_in g u)) (ap cond_tree is ∙ null_is x)

  pub const_searched : (cond : Cond) (t : Truth3) → cond ≡ Const t → part_searches (asked_by g) f (known_in g (cond_tree cond)) ≡ 0
  const_searched cond t is = ap (λ u. part_searches (asked_by g) f (known_in g u)) (ap cond_tree is ∙ const_is t)

  pub const_kept : (cond : Cond) (t : Truth3) (kept : Bool) (bits : List ℕ) → length bounds ≤ 1024 → cond ≡ Const t → kept ≡ is_not_no t → AreBits 1024 bits (λ k. kept) → PartKept (known_in g (cond_tree cond)) bits
  const_kept cond t kept bits small is e h = subst (λ u. PartKept u bits) (sym (ap (known_in g) (ap cond_tree is ∙ const_is t))) (λ k lt. h k (omega (arith, lt, small)) ∙ e)

pub inverted_kept : (g : Asking) (bounds : List Bound) (inner : Cond) (x : Operand) (key : Option ℕ) (bits : List ℕ) → inner ≡ IsNull x → key ≡ key_of (asked_by g) (operand_known g x)
    → AreBits (length bounds) bits (λ k. not_null_keeps (asked_by g).level.strategy key (get_or bounds k Default)) → AreBits (length bounds) bits (λ k. inverted_keeps (asked_by g) (known_in g (cond_tree inner)) (get_or bounds k Default))
inverted_kept g bounds inner x key bits is e h =
    subst (λ u. AreBits (length bounds) bits (λ k. inverted_keeps (asked_by g) (known_in g u) (get_or bounds k Default))) (sym (ap cond_tree is ∙ null_is x))
    (subst (λ q. AreBits (length bounds) bits (λ k. not_null_keeps (asked_by g).level.strategy q (get_or bounds k Default))) e h)
