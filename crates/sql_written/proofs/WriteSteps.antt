-- What is appended one after another is the text of a tree; and how much is left to write.
use Rattle.std.proofs.Common.{Box, Global, add-one, drop-cons, take, ◌-◌, zero, ◌≡◌, ℕ, suc, ◌+◌, ◌<◌, ◌≤◌, Bool, true, false, List, [], ◌∷◌, ◌++◌, Result, Ok, Err, map, length, drop, get_or, refl, sym, ap, ◌∙◌, subst, append_assoc, arith}
use Rattle.std.specs.Prelude.{OnOk, nat_lt}
use Rattle.std.proofs.lemmas.Grind.{common_steps}
use Rattle.sql_ast.specs.declared.expr.Expr.{Binary, Between, Expr, In, IsNull, Not}
use Rattle.sql_ast.specs.declared.expr.Expr.TheFolds.{fold-roll-Expr}
use Rattle.sql_ast.specs.declared.expr.Expr.TheOpen.{Binary as binary-F, Between as between-F, In as in-F, IsNull as null-F, Not as not-F}
use Rattle.sql_ast.specs.declared.expr.Expr.TheVariants.{rolls-Between, rolls-Binary, rolls-In, rolls-IsNull, rolls-Not}
use Rattle.sql_ast.specs.declared.expr.ExprList.{ExprList}
use Rattle.sql_ast.specs.Expressions.{layer, list_layer, tree, trees, Tree, Trees, no_more, and_more, leaf, call, call_of_all, negated, binary, in_list, between, is_null, inverted, all_of, any_of, listed}
use Rattle.sql_ast.specs.declared.leaf.Operator.{Operator}
use Rattle.sql_written.specs.Marks.{Mark, blank, text_of}
use Rattle.sql_written.specs.Precedence.{Level, disjunction, rank, level_of, left_place, right_place}
use Rattle.sql_written.specs.Spelling as spelled
use Rattle.sql_written.specs.Written.{behind_part, in_parentheses, marks, more, not_before, chain}
use Rattle.sql_written.proofs.MarkTokens.{text_append}

-- how much is written of a tree
abbrev mutual
  pub weight : Tree → ℕ
  weight (leaf l) = 1
  weight (call f ts) = suc (weights ts)
  weight (call_of_all f) = 1
  weight (negated e) = suc (weight e)
  weight (binary op x y) = suc (weight x + weight y)
  weight (in_list b x ts) = suc (weight x + weights ts)
  weight (between b x from to) = suc (weight x + (weight from + weight to))
  weight (is_null b x) = suc (weight x)
  weight (inverted e) = suc (weight e)
  weight (all_of ts) = suc (weights ts)
  weight (any_of ts) = suc (weights ts)

  pub weights : Trees → ℕ
  weights no_more = 0
  weights (and_more t ts) = weight t + weights ts

-- an operand in its place
abbrev pub operand : ℕ → Tree → List ℕ
operand place t = text_of (in_parentheses (nat_lt (rank (level_of t)) place) (marks t))

pub on_ok : {A E P Q : Type 0} (r : Result A E) → (P → Q) → OnOk r P → OnOk r Q
on_ok (Ok x) f h = f h
on_ok (Err e) f h = h

-- one text behind another
pub behind : (xs ys : List Mark) (o0 o1 o2 : List ℕ) → o1 ≡ o0 ++ text_of xs → o2 ≡ o1 ++ text_of ys → o2 ≡ o0 ++ text_of (xs ++ ys)
behind xs ys o0 o1 o2 h k = rw (k, h, append_assoc o0 (text_of xs) (text_of ys)) (ap (λ z. o0 ++ z) (sym (text_append xs ys)))

abbrev pub placed : ℕ → Tree → List Mark
placed place t = in_parentheses (nat_lt (rank (level_of t)) place) (marks t)

pub parentheses_text : (b : Bool) (ms : List Mark) (o0 o1 o2 o3 : List ℕ) → b ≡ true → o1 ≡ o0 ++ 40 ∷ [] → o2 ≡ o1 ++ text_of ms → o3 ≡ o2 ++ 41 ∷ [] → o3 ≡ o0 ++ text_of (in_parentheses b ms)
parentheses_text true ms o0 o1 o2 o3 b h k l = behind (spelled.opening ∷ []) (ms ++ spelled.closing ∷ []) o0 o1 o3 h (behind ms (spelled.closing ∷ []) o1 o2 o3 k l)
parentheses_text false ms o0 o1 o2 o3 b h k l = cc

pub list_text : (ts us : Trees) (o0 o1 o2 o3 : List ℕ) → us ≡ ts → o1 ≡ o0 ++ 40 ∷ [] → o2 ≡ o1 ++ text_of (chain behind_part disjunction us) → o3 ≡ o2 ++ 41 ∷ [] →
    o3 ≡ o0 ++ text_of (spelled.opening ∷ (chain behind_part disjunction ts ++ spelled.closing ∷ []))
list_text ts us o0 o1 o2 o3 e h k l =
    subst (λ vs. o3 ≡ o0 ++ text_of (spelled.opening ∷ (chain behind_part disjunction vs ++ spelled.closing ∷ []))) e
    (behind (spelled.opening ∷ []) (chain behind_part disjunction us ++ spelled.closing ∷ []) o0 o1 o3 h (behind (chain behind_part disjunction us) (spelled.closing ∷ []) o1 o2 o3 k l))

pub binary_text : (op : Operator) (x y t : Tree) (p q : ℕ) (o0 o1 o2 o3 : List ℕ) → t ≡ binary op x y → p ≡ rank (left_place op) → q ≡ rank (right_place op) → o1 ≡ o0 ++ text_of (placed p x) →
    o2 ≡ o1 ++ text_of (blank ∷ spelled.sign op ∷ blank ∷ []) → o3 ≡ o2 ++ text_of (placed q y) → o3 ≡ o0 ++ text_of (marks t)
binary_text op x y t p q o0 o1 o2 o3 e i j h k l =
    subst (λ u. o3 ≡ o0 ++ text_of (marks u)) (sym e)
    (subst (λ n. o3 ≡ o0 ++ text_of (placed n x ++ blank ∷ spelled.sign op ∷ blank ∷ placed (rank (right_place op)) y)) i
    (subst (λ m. o3 ≡ o0 ++ text_of (placed p x ++ blank ∷ spelled.sign op ∷ blank ∷ placed m y)) j
    (behind (placed p x) (blank ∷ spelled.sign op ∷ blank ∷ placed q y) o0 o1 o3 h (behind (blank ∷ spelled.sign op ∷ blank ∷ []) (placed q y) o1 o2 o3 k l))))

pub in_text : (b : Bool) (x t : Tree) (ts : Trees) (o0 o1 o2 o3 o4 o5 : List ℕ) → t ≡ in_list b x ts → o1 ≡ o0 ++ text_of (placed 6 x) → o2 ≡ o1 ++ 32 ∷ [] → o3 ≡ o2 ++ text_of (not_before b) →
    o4 ≡ o3 ++ text_of (spelled.in_word ∷ blank ∷ []) → o5 ≡ o4 ++ text_of (spelled.opening ∷ (chain behind_part disjunction ts ++ spelled.closing ∷ [])) → o5 ≡ o0 ++ text_of (marks t)
in_text b x t ts o0 o1 o2 o3 o4 o5 e h1 h2 h3 h4 h5 =
    let list = spelled.opening ∷ (chain behind_part disjunction ts ++ spelled.closing ∷ []) in
    subst (λ u. o5 ≡ o0 ++ text_of (marks u)) (sym e)
    (behind (placed 6 x) (blank ∷ (not_before b ++ spelled.in_word ∷ blank ∷ list)) o0 o1 o5 h1
    (behind (blank ∷ []) (not_before b ++ spelled.in_word ∷ blank ∷ list) o1 o2 o5 h2
    (behind (not_before b) (spelled.in_word ∷ blank ∷ list) o2 o3 o5 h3
    (behind (spelled.in_word ∷ blank ∷ []) list o3 o4 o5 h4 h5))))

pub between_text : (b : Bool) (x y z t : Tree) (o0 o1 o2 o3 o4 o5 o6 o7 : List ℕ) → t ≡ between b x y z → o1 ≡ o0 ++ text_of (placed 6 x) → o2 ≡ o1 ++ 32 ∷ [] → o3 ≡ o2 ++ text_of (not_before b) →
    o4 ≡ o3 ++ text_of (spelled.between_word ∷ blank ∷ []) → o5 ≡ o4 ++ text_of (placed 6 y) → o6 ≡ o5 ++ text_of (blank ∷ spelled.and_word ∷ blank ∷ []) → o7 ≡ o6 ++ text_of (placed 6 z) → o7 ≡ o0 ++ text_of (marks t)
between_text b x y z t o0 o1 o2 o3 o4 o5 o6 o7 e h1 h2 h3 h4 h5 h6 h7 =
    let last = blank ∷ spelled.and_word ∷ blank ∷ placed 6 z in
    let rest = placed 6 y ++ last in
    subst (λ u. o7 ≡ o0 ++ text_of (marks u)) (sym e)
    (behind (placed 6 x) (blank ∷ (not_before b ++ spelled.between_word ∷ blank ∷ rest)) o0 o1 o7 h1
    (behind (blank ∷ []) (not_before b ++ spelled.between_word ∷ blank ∷ rest) o1 o2 o7 h2
    (behind (not_before b) (spelled.between_word ∷ blank ∷ rest) o2 o3 o7 h3
    (behind (spelled.between_word ∷ blank ∷ []) rest o3 o4 o7 h4
    (behind (placed 6 y) last o4 o5 o7 h5
    (behind (blank ∷ spelled.and_word ∷ blank ∷ []) (placed 6 z) o5 o6 o7 h6 h7))))))

pub null_text : (b : Bool) (x t : Tree) (o0 o1 o2 o3 o4 : List ℕ) → t ≡ is_null b x → o1 ≡ o0 ++ text_of (placed 3 x) → o2 ≡ o1 ++ text_of (blank ∷ spelled.is_word ∷ blank ∷ []) → o3 ≡ o2 ++ text_of (not_before b) →
    o4 ≡ o3 ++ text_of (spelled.null_word ∷ []) → o4 ≡ o0 ++ text_of (marks t)
null_text b x t o0 o1 o2 o3 o4 e h1 h2 h3 h4 =
    subst (λ u. o4 ≡ o0 ++ text_of (marks u)) (sym e)
    (behind (placed 3 x) (blank ∷ spelled.is_word ∷ blank ∷ (not_before b ++ spelled.null_word ∷ [])) o0 o1 o4 h1
    (behind (blank ∷ spelled.is_word ∷ blank ∷ []) (not_before b ++ spelled.null_word ∷ []) o1 o2 o4 h2
    (behind (not_before b) (spelled.null_word ∷ []) o2 o3 o4 h3 h4)))

pub not_text : (x t : Tree) (o0 o1 o2 : List ℕ) → t ≡ inverted x → o1 ≡ o0 ++ text_of (spelled.not_word ∷ blank ∷ []) → o2 ≡ o1 ++ text_of (placed 2 x) → o2 ≡ o0 ++ text_of (marks t)
not_text x t o0 o1 o2 e h1 h2 = subst (λ u. o2 ≡ o0 ++ text_of (marks u)) (sym e) (behind (spelled.not_word ∷ blank ∷ []) (placed 2 x) o0 o1 o2 h1 h2)

-- chains
pub chain_text : (sign : List Mark) (place : Level) (t : Tree) (us ts : Trees) (p : ℕ) (o0 o1 o2 : List ℕ) → us ≡ and_more t ts → p ≡ rank place → o1 ≡ o0 ++ text_of (placed p t) → o2 ≡ o1 ++ text_of (more sign place ts) → o2 ≡ o0 ++ text_of (chain sign place us)
chain_text sign place t us ts p o0 o1 o2 e i h k =
    subst (λ (vs : Trees). o2 ≡ o0 ++ text_of (chain sign place vs)) (sym e)
    (subst (λ n. o2 ≡ o0 ++ text_of (placed n t ++ more sign place ts)) i (behind (placed p t) (more sign place ts) o0 o1 o2 h k))

pub more_step : (sign : List Mark) (place : Level) (t : Tree) (us ts : Trees) (p : ℕ) (o0 o1 o2 all : List ℕ) → us ≡ and_more t ts → p ≡ rank place → o1 ≡ o0 ++ text_of sign → o2 ≡ o1 ++ text_of (placed p t) →
    o0 ++ text_of (more sign place us) ≡ all → o2 ++ text_of (more sign place ts) ≡ all
more_step sign place t us ts p o0 o1 o2 all e i h k w =
    let j : o2 ≡ o0 ++ text_of (sign ++ placed p t) = behind sign (placed p t) o0 o1 o2 h k in
    let a : o2 ++ text_of (more sign place ts) ≡ o0 ++ text_of ((sign ++ placed p t) ++ more sign place ts) = behind (sign ++ placed p t) (more sign place ts) o0 o2 _ j refl in
    a ∙ (ap (λ ms. o0 ++ text_of ms) (append_assoc sign (placed p t) (more sign place ts))
    ∙ (ap (λ n. o0 ++ text_of (sign ++ (placed n t ++ more sign place ts))) i ∙ (ap (λ vs. o0 ++ text_of (more sign place vs)) (sym e) ∙ w)))

-- slices, part by part
module _ {X A : Type 0} (f : X → A) where
  pub slice_step : (xs : List X) (i : ℕ) (x : X) → i < length xs → x ≡ get_or xs i x → map f (drop i xs) ≡ f x ∷ map f (drop (i + 1) xs)
  slice_step xs i x h e =
      ap (λ l. map f l) (drop-cons xs i x h)
      ∙ (ap (λ y. f y ∷ map f (drop (suc i) xs)) (sym e) ∙ ap (λ n. f x ∷ map f (drop n xs)) (sym (add-one i)))

  pub slice_split : (xs : List X) (x : X) → 1 ≤ length xs → x ≡ get_or xs 0 x → map f xs ≡ f x ∷ map f (take (length xs - 1) (drop 1 xs))
  slice_split [] x h e = absurd (omega arith)
  slice_split (y ∷ ys) x h e =
      let n : suc (length ys) - 1 ≡ length ys = omega arith in
      let all : take (length ys) ys ≡ ys = grind (arith, common_steps) in
      ap (λ z. f z ∷ map f ys) (sym e) ∙ ap (λ l. f x ∷ map f l) (sym (ap (λ m. take m ys) n ∙ all))

-- slices of expressions
pub parts_step : (parts : List Expr) (i : ℕ) (x : Expr) → i < length parts → x ≡ get_or parts i x → listed (map tree (drop i parts)) ≡ and_more (tree x) (listed (map tree (drop (i + 1) parts)))
parts_step parts i x h e = ap listed (slice_step tree parts i x h e)

pub parts_split : (parts : List Expr) (x : Expr) → 1 ≤ length parts → x ≡ get_or parts 0 x → listed (map tree parts) ≡ and_more (tree x) (listed (map tree (take (length parts - 1) (drop 1 parts))))
parts_split parts x h e = ap listed (slice_split tree parts x h e)

pub part_less : (parts : List Expr) (i : ℕ) (x : Expr) → i < length parts → x ≡ get_or parts i x → weight (tree x) ≤ weights (listed (map tree parts))
part_less [] i x h e = absurd (omega arith)
part_less (y ∷ ys) zero x h e = let w = ap (λ z. weight (tree z)) e in omega (arith, w)
part_less (y ∷ ys) (suc i) x h e = let w = part_less ys i x (omega arith) e in omega (arith, w)

pub less_is : (r n m : ℕ) → r ≡ n → r < m → nat_lt n m ≡ true
less_is r n m e h = grind (arith, e, h)

-- the tree of an expression, by its operands
module _ (b : Bool) (e l r : Box Expr Global) where
  pub binary_is : (op : Operator) → tree (Binary op l r) ≡ binary op (tree l.value) (tree r.value)
  binary_is op = ap tree (sym (rolls-Binary op l r)) ∙ fold-roll-Expr Tree Trees layer list_layer (binary-F op l r)

  pub in_is : (list : ExprList) → tree (In b e list) ≡ in_list b (tree e.value) (trees list)
  in_is list = ap tree (sym (rolls-In b e list)) ∙ fold-roll-Expr Tree Trees layer list_layer (in-F b e list)

  pub between_is : tree (Between b e l r) ≡ between b (tree e.value) (tree l.value) (tree r.value)
  between_is = ap tree (sym (rolls-Between b e l r)) ∙ fold-roll-Expr Tree Trees layer list_layer (between-F b e l r)

  pub null_is : tree (IsNull b e) ≡ is_null b (tree e.value)
  null_is = ap tree (sym (rolls-IsNull b e)) ∙ fold-roll-Expr Tree Trees layer list_layer (null-F b e)

  pub not_is : tree (Not e) ≡ inverted (tree e.value)
  not_is = ap tree (sym (rolls-Not e)) ∙ fold-roll-Expr Tree Trees layer list_layer (not-F e)
