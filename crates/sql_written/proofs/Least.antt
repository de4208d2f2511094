-- No text of a tree opens fewer parentheses or is less deep than what is written of it; and what its tokens can say can
-- be spelled.
use Rattle.std.proofs.Common.{◌≡◌, ℕ, suc, ◌+◌, ◌≤◌, Bool, true, false, cond, not, ◌||◌, max, List, [], ◌∷◌, ◌++◌, refl, sym, ap, ◌∙◌, subst, arith}
use Rattle.std.specs.Prelude.{nat_lt}
use Rattle.sql_tokens.specs.declared.kind.TokenKind.{TokenKind}
use Rattle.sql_tokens.specs.declared.kind.TokenKind.TheVariants as kinds
use Rattle.sql_tokens.specs.declared.token.Token.{Token}
use Rattle.sql_tokens.proofs.EachKind.{each_kind}
use Rattle.sql_expressions.specs.Levels as level
use Rattle.sql_expressions.specs.Levels.{Deep, Parts}
use Rattle.sql_ast.specs.Expressions.{Tree, binary, listed}
use Rattle.sql_tokens.specs.Classes.{a}
use Rattle.sql_ast.specs.declared.leaf.Operator.{Operator}
use Rattle.sql_ast.specs.declared.leaf.Operator.TheVariants as operator
use Rattle.sql_written.specs.Parentheses.{opened}
use Rattle.sql_written.specs.Precedence.{Level, comparison, test, sum, product, unary, rank, level_of, level_of_operator, left_place, right_place, needs_parentheses}
use Rattle.sql_written.specs.Writable.{HasOne, HasText, HaveTexts, deeper_by, depth, chain_depth}
use Rattle.sql_written.proofs.Costs.{cost, opens, chain_opens}

-- arithmetic of parentheses
deeper_less : (b c : Bool) (n : ℕ) → (b ≡ true → c ≡ true) → deeper_by b n ≤ deeper_by c n
deeper_less true true n h = omega arith
deeper_less true false n h = let e : false ≡ true = h refl in cc
deeper_less false true n h = omega arith
deeper_less false false n h = omega arith

pub deeper_some : (b : Bool) (n : ℕ) → n ≤ deeper_by b n
deeper_some true n = omega arith
deeper_some false n = omega arith

pub deeper_one : (b : Bool) (n : ℕ) → deeper_by b n ≤ suc n
deeper_one true n = omega arith
deeper_one false n = omega arith

pub less_more : (n a b : ℕ) → a ≤ b → nat_lt n a ≡ true → nat_lt n b ≡ true
less_more n a b h e = grind (arith, h, e)

never_less : (n : ℕ) → nat_lt n n ≡ false
never_less n = grind arith

pub opened_append : (x y : List Token) → opened (x ++ y) ≡ opened x + opened y
opened_append [] y = omega arith
opened_append (t ∷ x) y = omega (arith, opened_append x y)

pub opened_of : (ts x y : List Token) → ts ≡ x ++ y → opened ts ≡ opened x + opened y
opened_of ts x y e = ap opened e ∙ opened_append x y

one_if : (b : Bool) → b ≡ true → ◌≡◌ {A = ℕ} (cond b 1 0) 1
one_if true h = refl
one_if false h = cc

pub opened_one : (t : Token) (x : List Token) → x ≡ t ∷ [] → a kinds.OpenParenthesis t ≡ true → opened x ≡ 1
opened_one t x e h = ap opened e ∙ omega (arith, one_if (a kinds.OpenParenthesis t) h)

-- chains of trees, from the left
pub chain_opens_end : (s : Level) (ts : List Tree) (t : Tree) → chain_opens s (listed (ts ++ t ∷ [])) ≡ chain_opens s (listed ts) + cost s t
chain_opens_end s [] t = omega arith
chain_opens_end s (u ∷ ts) t = omega (arith, chain_opens_end s ts t)

pub chain_depth_end : (s : Level) (ts : List Tree) (t : Tree) → chain_depth s (listed (ts ++ t ∷ [])) ≡ max (chain_depth s (listed ts)) (deeper_by (needs_parentheses s t) (depth t))
chain_depth_end s [] t = omega arith
chain_depth_end s (u ∷ ts) t = omega (arith, chain_depth_end s ts t)

pub texts_end : (ts : List Tree) (t : Tree) → HaveTexts (listed ts) → HasText t → HaveTexts (listed (ts ++ t ∷ []))
texts_end [] t h k = (k, tt)
texts_end (u ∷ ts) t h k = (h.0, texts_end ts t h.1 k)

pub one_end : (ts : List Tree) (t : Tree) → HasOne (listed (ts ++ t ∷ []))
one_end [] t = tt
one_end (u ∷ ts) t = tt

-- the least of a tree at a level: n parentheses are opened for it, and where E holds it has a text
pub record Least (s : Level) (n : ℕ) (E : Type 0) (x : Deep) : Type 0 where
  pub fewest : cost s x.0 ≤ n
  pub lowest : deeper_by (needs_parentheses s x.0) (depth x.0) ≤ x.1
  pub has : E → HasText x.0

pub record LeastChain (s : Level) (n : ℕ) (E : Type 0) (p : Parts) : Type 0 where
  pub fewest : chain_opens s (listed p.0) ≤ n
  pub lowest : chain_depth s (listed p.0) ≤ p.1
  pub has : E → HaveTexts (listed p.0)
  pub some : HasOne (listed p.0)

pub loosen : (s r : Level) (n : ℕ) (E : Type 0) (x : Deep) → rank s ≤ rank r → Least r n E x → Least s n E x
loosen s r n E x h l =
    let m : cost s x.0 ≤ cost r x.0 = deeper_less (needs_parentheses s x.0) (needs_parentheses r x.0) (opens x.0) (λ e. less_more (rank (level_of x.0)) (rank s) (rank r) h e) in
    let d : deeper_by (needs_parentheses s x.0) (depth x.0) ≤ deeper_by (needs_parentheses r x.0) (depth x.0) =
    deeper_less (needs_parentheses s x.0) (needs_parentheses r x.0) (depth x.0) (λ e. less_more (rank (level_of x.0)) (rank s) (rank r) h e) in
    record { fewest = omega (arith, m, l.fewest); lowest = omega (arith, d, l.lowest); has = l.has }

pub wider : (s : Level) (n m : ℕ) (E F : Type 0) (x : Deep) → n ≤ m → (F → E) → Least s n E x → Least s m F x
wider s n m E F x h f l = record { fewest = omega (arith, h, l.fewest); lowest = l.lowest; has = λ e. l.has (f e) }

-- at its own level a tree needs no parentheses
pub own_least : (e : Tree) (n : ℕ) (E : Type 0) (d : ℕ) → opens e ≤ n → depth e ≤ d → (E → HasText e) → Least (level_of e) n E (e, d)
own_least e n E d h k f =
    let no : needs_parentheses (level_of e) e ≡ false = never_less (rank (level_of e)) in
    record { fewest = rw no h; lowest = rw no k; has = f }

binary_least : (op : Operator) (l r : Deep) (m n : ℕ) (E F : Type 0) → Least (left_place op) m E l → Least (right_place op) n F r → Least (level_of_operator op) (m + n) (E × F) (binary op l.0 r.0, suc (max l.1 r.1))
binary_least op l r m n E F h k =
    own_least (binary op l.0 r.0) (m + n) (E × F) (suc (max l.1 r.1)) (omega (arith, h.fewest, k.fewest)) (omega (arith, h.lowest, k.lowest)) (λ e. (h.has e.0, k.has e.1))

-- which operators stand at which level
pub record Stands (s l r : Level) (op : Operator) : Type 0 where
  pub own : level_of_operator op ≡ s
  pub left : left_place op ≡ l
  pub right : right_place op ≡ r

pub stands_least : (s l r : Level) (op : Operator) → Stands s l r op → (x y : Deep) (m n : ℕ) (E F : Type 0) → Least l m E x → Least r n F y → Least s (m + n) (E × F) (binary op x.0 y.0, suc (max x.1 y.1))
stands_least s l r op st x y m n E F h k =
    subst (λ (z : Level). Least z (m + n) (E × F) (binary op x.0 y.0, suc (max x.1 y.1))) st.own
    (binary_least op x y m n E F (subst (λ (z : Level). Least z m E x) (sym st.left) h) (subst (λ (z : Level). Least z n F y) (sym st.right) k))

abbrev of_products : Operator → Bool
of_products operator.Multiply = true
of_products operator.Divide = true
of_products operator.Remainder = true
of_products _ = false

abbrev of_sums : Operator → Bool
of_sums operator.Add = true
of_sums operator.Subtract = true
of_sums _ = false

abbrev of_comparisons : Operator → Bool
of_comparisons operator.Equal = true
of_comparisons operator.NotEqual = true
of_comparisons operator.Less = true
of_comparisons operator.LessEqual = true
of_comparisons operator.Greater = true
of_comparisons operator.GreaterEqual = true
of_comparisons _ = false

products_stand : (op : Operator) → of_products op ≡ true → Stands product product unary op
products_stand operator.Multiply h = record { own = refl; left = refl; right = refl }
products_stand operator.Divide h = record { own = refl; left = refl; right = refl }
products_stand operator.Remainder h = record { own = refl; left = refl; right = refl }
products_stand _ h = cc

sums_stand : (op : Operator) → of_sums op ≡ true → Stands sum sum product op
sums_stand operator.Add h = record { own = refl; left = refl; right = refl }
sums_stand operator.Subtract h = record { own = refl; left = refl; right = refl }
sums_stand _ h = cc

comparisons_stand : (op : Operator) → of_comparisons op ≡ true → Stands comparison test test op
comparisons_stand operator.Equal h = record { own = refl; left = refl; right = refl }
comparisons_stand operator.NotEqual h = record { own = refl; left = refl; right = refl }
comparisons_stand operator.Less h = record { own = refl; left = refl; right = refl }
comparisons_stand operator.LessEqual h = record { own = refl; left = refl; right = refl }
comparisons_stand operator.Greater h = record { own = refl; left = refl; right = refl }
comparisons_stand operator.GreaterEqual h = record { own = refl; left = refl; right = refl }
comparisons_stand _ h = cc

pub implied : (b c : Bool) → (not b || c) ≡ true → b ≡ true → c ≡ true
implied true c h e = h
implied false c h e = cc

abbrev a_token : TokenKind → Token
a_token k = record { kind = k; start = 0; end = 0 }

pub product_sign : (t : Token) → level.is_product t ≡ true → Stands product product unary (level.operator_of t)
product_sign t h = products_stand (level.operator_of t) (implied (level.is_product t) _ (each_kind (λ k. not (level.is_product (a_token k)) || of_products (level.operator_of (a_token k))) refl t.kind) h)

pub sum_sign : (t : Token) → level.is_sum t ≡ true → Stands sum sum product (level.operator_of t)
sum_sign t h = sums_stand (level.operator_of t) (implied (level.is_sum t) _ (each_kind (λ k. not (level.is_sum (a_token k)) || of_sums (level.operator_of (a_token k))) refl t.kind) h)

pub comparison_sign : (t : Token) → level.is_comparison t ≡ true → Stands comparison test test (level.operator_of t)
comparison_sign t h = comparisons_stand (level.operator_of t) (implied (level.is_comparison t) _ (each_kind (λ k. not (level.is_comparison (a_token k)) || of_comparisons (level.operator_of (a_token k))) refl t.kind) h)
