-- How the logic tells apart what is left to statements: a tree is a list of tokens, each behind its parts.
use Rattle.std.proofs.Common.{◌≡◌, ℕ, Bool, true, false, List, [], ◌∷◌, ◌++◌, ◌⊎◌, inl, inr, refl, ap, ◌∙◌, Option, Some, None}
use Rattle.std.specs.Coded.{Coded, code_by, coded×, coded⊎, coded_bool, coded_list, coded_option, coded_ℕ}
use Rattle.pg_values.specs.declared.value.Value.{Value}
use Rattle.pg_values.specs.declared.ids.LeafId.{LeafId}
use Rattle.pg_values.specs.declared.ids.TableNo.{TableNo}
use Rattle.bound_forms.specs.declared.level.Level.{Level}
use Rattle.bound_forms.specs.declared.partition_bound.Bound.{Bound}
use Rattle.history.specs.declared.transaction.TxId.{TxId}
use Rattle.row_router.specs.declared.node.Node.{Node}
use Rattle.row_router.specs.declared.path_part.PathPart.{PathPart}
use Rattle.row_router.specs.Trees.{TableTree, LeafTable, LevelTable, Trees, End, More}
use Rattle.value_rules.specs.declared.operators.Arith.{Arith as Operation}
use Rattle.cond_logic.specs.Asked.{ChangeMeant, SettingMeant}
use Rattle.cond_logic.specs.declared.cond.ColumnId.{ColumnId}
use Rattle.cond_logic.specs.declared.cond.CompareOp.{CompareOp}
use Rattle.cond_logic.specs.declared.cond.Operand.{Operand}
use Rattle.cond_logic.specs.declared.truth.Truth3.{Truth3}
use Rattle.cond_logic.specs.Trees.{CondTree, CondTrees, all_of, any_of, inverted, compares, null_test, known, no_more, and_more}
use Rattle.cond_logic.specs.Scalars.{ScalarTree, column, literal, table_name, computes, cancels}
use Rattle.statement_steps.specs.Gathered.{Found, RowsLeft}
use Rattle.statement_steps.specs.declared.rest.TargetRow.{TargetRow}

-- ---- trees of tables

-- a table with a leaf, one with a level behind its trees, the end of trees, or one more before them
abbrev TableToken : Type 0
TableToken = (Node × LeafId) ⊎ ((Node × (Level × List Bound)) ⊎ Bool)

abbrev TableStack : Type 0
TableStack = List (TableTree ⊎ Trees)

abbrev push_table : TableToken → TableStack → TableStack
push_table (inl (n, l)) st = inl (LeafTable n l) ∷ st
push_table (inr (inl (n, (v, bs)))) (inr kids ∷ st) = inl (LevelTable n v bs kids) ∷ st
push_table (inr (inl (n, (v, bs)))) (inl t ∷ st) = st
push_table (inr (inl (n, (v, bs)))) [] = []
push_table (inr (inr false)) st = inr End ∷ st
push_table (inr (inr true)) (inr ks ∷ (inl k ∷ st)) = inr (More k ks) ∷ st
push_table (inr (inr true)) (inr ks ∷ (inr k ∷ st)) = st
push_table (inr (inr true)) (inr ks ∷ []) = []
push_table (inr (inr true)) (inl t ∷ st) = st
push_table (inr (inr true)) [] = []

abbrev all_tables_pushed : List TableToken → TableStack → TableStack
all_tables_pushed [] st = st
all_tables_pushed (t ∷ ts) st = all_tables_pushed ts (push_table t st)

abbrev mutual
  table_tokens : TableTree → List TableToken
  table_tokens (LeafTable n l) = inl (n, l) ∷ []
  table_tokens (LevelTable n v bs kids) = trees_tokens kids ++ (inr (inl (n, (v, bs))) ∷ [])

  trees_tokens : Trees → List TableToken
  trees_tokens End = inr (inr false) ∷ []
  trees_tokens (More k ks) = table_tokens k ++ (trees_tokens ks ++ (inr (inr true) ∷ []))

tables_behind : (a b : List TableToken) (st : TableStack) → all_tables_pushed (a ++ b) st ≡ all_tables_pushed b (all_tables_pushed a st)
tables_behind [] b st = refl
tables_behind (t ∷ a) b st = tables_behind a b (push_table t st)

mutual
  table_back : (t : TableTree) (st : TableStack) → all_tables_pushed (table_tokens t) st ≡ inl t ∷ st
  table_back (LeafTable n l) st = refl
  table_back (LevelTable n v bs kids) st =
      tables_behind (trees_tokens kids) (inr (inl (n, (v, bs))) ∷ []) st ∙ ap (λ s. push_table (inr (inl (n, (v, bs)))) s) (trees_back kids st)

  trees_back : (ts : Trees) (st : TableStack) → all_tables_pushed (trees_tokens ts) st ≡ inr ts ∷ st
  trees_back End st = refl
  trees_back (More k ks) st =
      tables_behind (table_tokens k) (trees_tokens ks ++ (inr (inr true) ∷ [])) st
      ∙ (ap (λ s. all_tables_pushed (trees_tokens ks ++ (inr (inr true) ∷ [])) s) (table_back k st)
      ∙ (tables_behind (trees_tokens ks) (inr (inr true) ∷ []) (inl k ∷ st) ∙ ap (λ s. push_table (inr (inr true)) s) (trees_back ks (inl k ∷ st))))

abbrev top_table : Node → TableStack → TableTree
top_table n [] = LeafTable n (record { number = 0 })
top_table n (inl t ∷ st) = t
top_table n (inr ts ∷ st) = LeafTable n (record { number = 0 })

abbrev own_node : TableTree → Node
own_node (LeafTable n l) = n
own_node (LevelTable n v bs kids) = n

pub table_code : Coded Node → Coded LeafId → Coded Level → Coded Bound → Coded TableTree
table_code node leaf level bound =
    code_by (Node × List TableToken) (coded× node (coded_list (coded⊎ (coded× node leaf) (coded⊎ (coded× node (coded× level (coded_list bound))) coded_bool))))
    (λ t. (own_node t, table_tokens t)) (λ p. top_table p.0 (all_tables_pushed p.1 [])) (λ t. ap (top_table (own_node t)) (table_back t []))

-- ---- values that are computed

abbrev ScalarToken : Type 0
ScalarToken = ColumnId ⊎ (Value ⊎ (ℕ ⊎ Option Operation))

abbrev push_scalar : ScalarToken → List ScalarTree → List ScalarTree
push_scalar (inl c) st = column c ∷ st
push_scalar (inr (inl v)) st = literal v ∷ st
push_scalar (inr (inr (inl n))) st = table_name n ∷ st
push_scalar (inr (inr (inr (Some op)))) (y ∷ (x ∷ st)) = computes op x y ∷ st
push_scalar (inr (inr (inr (Some op)))) (y ∷ []) = []
push_scalar (inr (inr (inr (Some op)))) [] = []
push_scalar (inr (inr (inr None))) (x ∷ st) = cancels x ∷ st
push_scalar (inr (inr (inr None))) [] = []

abbrev all_scalars_pushed : List ScalarToken → List ScalarTree → List ScalarTree
all_scalars_pushed [] st = st
all_scalars_pushed (t ∷ ts) st = all_scalars_pushed ts (push_scalar t st)

abbrev scalar_tokens : ScalarTree → List ScalarToken
scalar_tokens (column c) = inl c ∷ []
scalar_tokens (literal v) = inr (inl v) ∷ []
scalar_tokens (table_name n) = inr (inr (inl n)) ∷ []
scalar_tokens (computes op x y) = scalar_tokens x ++ (scalar_tokens y ++ (inr (inr (inr (Some op))) ∷ []))
scalar_tokens (cancels x) = scalar_tokens x ++ (inr (inr (inr None)) ∷ [])

scalars_behind : (a b : List ScalarToken) (st : List ScalarTree) → all_scalars_pushed (a ++ b) st ≡ all_scalars_pushed b (all_scalars_pushed a st)
scalars_behind [] b st = refl
scalars_behind (t ∷ a) b st = scalars_behind a b (push_scalar t st)

scalar_back : (t : ScalarTree) (st : List ScalarTree) → all_scalars_pushed (scalar_tokens t) st ≡ t ∷ st
scalar_back (column c) st = refl
scalar_back (literal v) st = refl
scalar_back (table_name n) st = refl
scalar_back (computes op x y) st =
    scalars_behind (scalar_tokens x) (scalar_tokens y ++ (inr (inr (inr (Some op))) ∷ [])) st
    ∙ (ap (λ s. all_scalars_pushed (scalar_tokens y ++ (inr (inr (inr (Some op))) ∷ [])) s) (scalar_back x st)
    ∙ (scalars_behind (scalar_tokens y) (inr (inr (inr (Some op))) ∷ []) (x ∷ st) ∙ ap (λ s. push_scalar (inr (inr (inr (Some op)))) s) (scalar_back y (x ∷ st))))
scalar_back (cancels x) st = scalars_behind (scalar_tokens x) (inr (inr (inr None)) ∷ []) st ∙ ap (λ s. push_scalar (inr (inr (inr None))) s) (scalar_back x st)

abbrev top_scalar : List ScalarTree → ScalarTree
top_scalar [] = table_name 0
top_scalar (t ∷ st) = t

pub scalar_code : Coded ColumnId → Coded Value → Coded Operation → Coded ScalarTree
scalar_code id value op =
    code_by (List ScalarToken) (coded_list (coded⊎ id (coded⊎ value (coded⊎ coded_ℕ (coded_option op)))))
    scalar_tokens (λ ts. top_scalar (all_scalars_pushed ts [])) (λ t. ap top_scalar (scalar_back t []))

-- ---- conditions

-- two operands compared, one tested, a truth; or all, any, the inverse, no more, one more
data Joint : Type 0 where
  Each : Joint
  One : Joint
  Inverse : Joint
  NoMore : Joint
  OneMore : Joint

abbrev joint_number : Joint → Bool × (Bool × Bool)
joint_number Each = (true, (true, true))
joint_number One = (true, (true, false))
joint_number Inverse = (true, (false, true))
joint_number NoMore = (true, (false, false))
joint_number OneMore = (false, (false, false))

abbrev joint_of : Bool × (Bool × Bool) → Joint
joint_of (true, (true, true)) = Each
joint_of (true, (true, false)) = One
joint_of (true, (false, true)) = Inverse
joint_of (true, (false, false)) = NoMore
joint_of (false, p) = OneMore

joint_back : (j : Joint) → joint_of (joint_number j) ≡ j
joint_back Each = refl
joint_back One = refl
joint_back Inverse = refl
joint_back NoMore = refl
joint_back OneMore = refl

abbrev joint_code : Coded Joint
joint_code = code_by (Bool × (Bool × Bool)) (coded× coded_bool (coded× coded_bool coded_bool)) joint_number joint_of joint_back

abbrev CondToken : Type 0
CondToken = (CompareOp × (Operand × Operand)) ⊎ (Operand ⊎ (Truth3 ⊎ Joint))

abbrev CondStack : Type 0
CondStack = List (CondTree ⊎ CondTrees)

abbrev join_conds : Joint → CondStack → CondStack
join_conds Each (inr cs ∷ st) = inl (all_of cs) ∷ st
join_conds Each (inl c ∷ st) = st
join_conds Each [] = []
join_conds One (inr cs ∷ st) = inl (any_of cs) ∷ st
join_conds One (inl c ∷ st) = st
join_conds One [] = []
join_conds Inverse (inl c ∷ st) = inl (inverted c) ∷ st
join_conds Inverse (inr cs ∷ st) = st
join_conds Inverse [] = []
join_conds NoMore st = inr no_more ∷ st
join_conds OneMore (inr cs ∷ (inl c ∷ st)) = inr (and_more c cs) ∷ st
join_conds OneMore (inr cs ∷ (inr ds ∷ st)) = st
join_conds OneMore (inr cs ∷ []) = []
join_conds OneMore (inl c ∷ st) = st
join_conds OneMore [] = []

abbrev push_cond : CondToken → CondStack → CondStack
push_cond (inl (op, (x, y))) st = inl (compares op x y) ∷ st
push_cond (inr (inl x)) st = inl (null_test x) ∷ st
push_cond (inr (inr (inl t))) st = inl (known t) ∷ st
push_cond (inr (inr (inr j))) st = join_conds j st

abbrev all_conds_pushed : List CondToken → CondStack → CondStack
all_conds_pushed [] st = st
all_conds_pushed (t ∷ ts) st = all_conds_pushed ts (push_cond t st)

abbrev joined_by : Joint → List CondToken
joined_by j = inr (inr (inr j)) ∷ []

abbrev mutual
  cond_tokens : CondTree → List CondToken
  cond_tokens (all_of cs) = conds_tokens cs ++ joined_by Each
  cond_tokens (any_of cs) = conds_tokens cs ++ joined_by One
  cond_tokens (inverted c) = cond_tokens c ++ joined_by Inverse
  cond_tokens (compares op x y) = inl (op, (x, y)) ∷ []
  cond_tokens (null_test x) = inr (inl x) ∷ []
  cond_tokens (known t) = inr (inr (inl t)) ∷ []

  conds_tokens : CondTrees → List CondToken
  conds_tokens no_more = joined_by NoMore
  conds_tokens (and_more c cs) = cond_tokens c ++ (conds_tokens cs ++ joined_by OneMore)

conds_behind : (a b : List CondToken) (st : CondStack) → all_conds_pushed (a ++ b) st ≡ all_conds_pushed b (all_conds_pushed a st)
conds_behind [] b st = refl
conds_behind (t ∷ a) b st = conds_behind a b (push_cond t st)

mutual
  cond_back : (t : CondTree) (st : CondStack) → all_conds_pushed (cond_tokens t) st ≡ inl t ∷ st
  cond_back (all_of cs) st = conds_behind (conds_tokens cs) (joined_by Each) st ∙ ap (join_conds Each) (conds_back cs st)
  cond_back (any_of cs) st = conds_behind (conds_tokens cs) (joined_by One) st ∙ ap (join_conds One) (conds_back cs st)
  cond_back (inverted c) st = conds_behind (cond_tokens c) (joined_by Inverse) st ∙ ap (join_conds Inverse) (cond_back c st)
  cond_back (compares op x y) st = refl
  cond_back (null_test x) st = refl
  cond_back (known t) st = refl

  conds_back : (cs : CondTrees) (st : CondStack) → all_conds_pushed (conds_tokens cs) st ≡ inr cs ∷ st
  conds_back no_more st = refl
  conds_back (and_more c cs) st =
      conds_behind (cond_tokens c) (conds_tokens cs ++ joined_by OneMore) st
      ∙ (ap (all_conds_pushed (conds_tokens cs ++ joined_by OneMore)) (cond_back c st)
      ∙ (conds_behind (conds_tokens cs) (joined_by OneMore) (inl c ∷ st) ∙ ap (join_conds OneMore) (conds_back cs (inl c ∷ st))))

abbrev top_cond : CondStack → CondTree
top_cond [] = all_of no_more
top_cond (inl t ∷ st) = t
top_cond (inr cs ∷ st) = all_of no_more

pub cond_code : Coded CompareOp → Coded Operand → Coded Truth3 → Coded CondTree
cond_code op operand truth =
    code_by (List CondToken) (coded_list (coded⊎ (coded× op (coded× operand operand)) (coded⊎ operand (coded⊎ truth joint_code))))
    cond_tokens (λ ts. top_cond (all_conds_pushed ts [])) (λ t. ap top_cond (cond_back t []))

-- ---- what is asked, gathered and left

abbrev pub setting_code : Coded ScalarTree → Coded SettingMeant
setting_code value = code_by (ℕ × ScalarTree) (coded× coded_ℕ value) (λ s. (s.column, s.value)) (λ p. record { column = p.0; value = p.1 }) (λ s. refl)

abbrev pub asked_code : Coded ScalarTree → Coded CondTree → Coded ChangeMeant
asked_code value cond =
    code_by (List SettingMeant × Option CondTree) (coded× (coded_list (setting_code value)) (coded_option cond)) (λ m. (m.settings, m.condition)) (λ p. record { settings = p.0; condition = p.1 }) (λ m. refl)

abbrev pub found_code : Coded TableNo → Coded TableTree → Coded PathPart → Coded ChangeMeant → Coded LeafId → Coded Found
found_code table tree part asked leaf =
    code_by (TableNo × (TableTree × (List PathPart × (ChangeMeant × (List LeafId × Bool))))) (coded× table (coded× tree (coded× (coded_list part) (coded× asked (coded× (coded_list leaf) coded_bool)))))
    (λ g. (g.table, (g.tree, (g.path, (g.asked, (g.leaves, g.moves))))))
    (λ p. record { table = p.0; tree = p.1.0; path = p.1.1.0; asked = p.1.1.1.0; leaves = p.1.1.1.1.0; moves = p.1.1.1.1.1 }) (λ g. refl)

abbrev pub left_code : Coded TxId → Coded Found → Coded TargetRow → Coded RowsLeft
left_code by found row =
    code_by (TxId × (Found × (List TargetRow × ℕ))) (coded× by (coded× found (coded× (coded_list row) coded_ℕ)))
    (λ r. (r.by, (r.found, (r.left, r.changed)))) (λ p. record { by = p.0; found = p.1.0; left = p.1.1.0; changed = p.1.1.1 }) (λ r. refl)
