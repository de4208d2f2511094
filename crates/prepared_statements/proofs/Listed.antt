-- Statements by their names, as they are kept and as they are seen.
use Rattle.std.proofs.Common.{◌≡◌, ℕ, Bool, true, false, not, ◌||◌, List, [], ◌∷◌, ◌++◌, Option, Some, None, Ok, Err, map, option_map, find, ok_or, refl, sym, ap, ◌∙◌, if◌then◌else◌}
use Rattle.std.proofs.lemmas.List.{map-append}
use Rattle.std.specs.List.{list_any}
use Rattle.std.specs.Str.{bytes_eq}
use Rattle.pg_values.specs.declared.fault.Fault.{Fault}
use Rattle.pg_values.specs.declared.value.Kind.{Kind}
use Rattle.refusals.specs.Refusals.{no_prepared_statement, prepared_statement_is_there}
use Rattle.sql_ast.specs.Queries.{RowTree}
use Rattle.expression_binder.specs.Firsts.{or_first, unless}
use Rattle.expression_binder.proofs.Firsts.{none_found, value_of}
use Rattle.indexmap.specs.IndexSet.{insert_key, remove_key}
use Rattle.table_binder.specs.Columns.{kind_or_text}
use Rattle.prepared_statements.specs.declared.prepared_statement.PreparedStatement.{PreparedStatement}
use Rattle.prepared_statements.specs.Kept.{seen}
use Rattle.prepared_statements.specs.Names.{name_of}
use Rattle.prepared_statements.specs.Prepared.{Prepared, is_called, name_faults, types_faults, prepared, found, without, deallocated}

abbrev pub has_name : List ℕ → PreparedStatement → Bool
has_name n s = bytes_eq n (name_of s)

pub any_seen : (n : List ℕ) (ks : List PreparedStatement) → list_any (is_called n) (map seen ks) ≡ list_any (has_name n) ks
any_seen n [] = refl
any_seen n (k ∷ ks) = ap (λ b. has_name n k || b) (any_seen n ks)

pub find_seen : (n : List ℕ) (ks : List PreparedStatement) → find (is_called n) (map seen ks) ≡ option_map seen (find (has_name n) ks)
find_seen n [] = refl
find_seen n (k ∷ ks) = by (has_name n k) refl (find_seen n ks)
  where
    by : (b : Bool) → has_name n k ≡ b → find (is_called n) (map seen ks) ≡ option_map seen (find (has_name n) ks) → find (is_called n) (map seen (k ∷ ks)) ≡ option_map seen (find (has_name n) (k ∷ ks))
    by true e rest = rw e refl
    by false e rest = rw e rest

pub without_seen : (n : List ℕ) (ks : List PreparedStatement) → without n (map seen ks) ≡ map seen (remove_key (has_name n) ks)
without_seen n [] = refl
without_seen n (k ∷ ks) = by (has_name n k) refl (without_seen n ks)
  where
    by : (b : Bool) → has_name n k ≡ b → without n (map seen ks) ≡ map seen (remove_key (has_name n) ks) → without n (map seen (k ∷ ks)) ≡ map seen (remove_key (has_name n) (k ∷ ks))
    by true e rest = rw e refl
    by false e rest = rw e (ap (λ (ps : List Prepared). seen k ∷ ps) rest)

-- one more, unless its name is there
abbrev same_name : PreparedStatement → PreparedStatement → Bool
same_name s t = bytes_eq (name_of s) (name_of t)

pub more_seen : (s : PreparedStatement) (ks : List PreparedStatement) → map seen (insert_key same_name ks s) ≡ (if list_any (is_called (name_of s)) (map seen ks) then map seen ks else map seen ks ++ seen s ∷ [])
more_seen s ks = rw (any_seen (name_of s) ks) (by (list_any (has_name (name_of s)) ks) refl)
  where
    by : (b : Bool) → list_any (has_name (name_of s)) ks ≡ b → map seen (if b then ks else ks ++ s ∷ []) ≡ (if b then map seen ks else map seen ks ++ seen s ∷ [])
    by true e = refl
    by false e = map-append seen ks (s ∷ [])

-- ---- EXECUTE

pub is_found : (n : List ℕ) (ks : List PreparedStatement) (s : PreparedStatement) → Some s ≡ find (has_name n) ks → found (map seen ks) n ≡ Ok (seen s)
is_found n ks s h = ap (λ (o : Option Prepared). ok_or o (no_prepared_statement n)) (find_seen n ks ∙ ap (option_map seen) (sym h))

pub not_found : (n : List ℕ) (ks : List PreparedStatement) → None ≡ find (has_name n) ks → found (map seen ks) n ≡ Err (no_prepared_statement n)
not_found n ks h = ap (λ (o : Option Prepared). ok_or o (no_prepared_statement n)) (find_seen n ks ∙ ap (option_map seen) (sym h))

-- ---- DEALLOCATE

pub is_deallocated : (n : List ℕ) (ks left : List PreparedStatement) → true ≡ list_any (has_name n) ks → left ≡ remove_key (has_name n) ks → deallocated (map seen ks) n ≡ Ok (map seen left)
is_deallocated n ks left there h =
    ap (λ (b : Bool). or_first (unless b (no_prepared_statement n)) (without n (map seen ks))) (any_seen n ks ∙ sym there)
    ∙ ap Ok (without_seen n ks ∙ ap (map seen) (sym h))

pub not_deallocated : (n : List ℕ) (ks : List PreparedStatement) → false ≡ list_any (has_name n) ks → deallocated (map seen ks) n ≡ Err (no_prepared_statement n)
not_deallocated n ks absent = ap (λ (b : Bool). or_first (unless b (no_prepared_statement n)) (without n (map seen ks))) (any_seen n ks ∙ sym absent)

-- ---- PREPARE

new_name : (ps : List Prepared) (n : List ℕ) → name_faults ps n ≡ [] → list_any (is_called n) ps ≡ false
new_name ps n h = by (list_any (is_called n) ps) refl
  where
    by : (b : Bool) → list_any (is_called n) ps ≡ b → list_any (is_called n) ps ≡ false
    by true e = let g : prepared_statement_is_there n ∷ [] ≡ [] = ap (λ (c : Bool). unless (not c) (prepared_statement_is_there n)) (sym e) ∙ h in cc
    by false e = e

-- a new name, and types that are all there
pub is_prepared : (ps more : List Prepared) (n : List ℕ) (ts : List (List ℕ)) (s : RowTree) (ks : List Kind) (p : Prepared) (u : Unit {0})
    → or_first (name_faults ps n) tt ≡ Ok u → or_first (types_faults ts) (map kind_or_text ts) ≡ Ok ks → p ≡ record { name = n; kinds = ks; statement = s }
    → more ≡ (if list_any (is_called n) ps then ps else ps ++ p ∷ []) → prepared ps n ts s ≡ Ok more
is_prepared ps more n ts s ks p u new known is h =
    let none = none_found (name_faults ps n) tt u new in
    let all = value_of (types_faults ts) (map kind_or_text ts) ks known in
    let last : Prepared = record { name = n; kinds = map kind_or_text ts; statement = s } in
    let same : p ≡ last = is ∙ ap (λ (k : List Kind). let q : Prepared = record { name = n; kinds = k; statement = s } in q) (sym all.1) in
    let made : more ≡ ps ++ last ∷ [] = h ∙ (ap (λ (b : Bool). if b then ps else ps ++ p ∷ []) (new_name ps n none) ∙ ap (λ (q : Prepared). ps ++ q ∷ []) same) in
    ap (λ (fs : List Fault). or_first (fs ++ types_faults ts) (ps ++ last ∷ [])) none ∙ (ap (λ (fs : List Fault). or_first fs (ps ++ last ∷ [])) all.0 ∙ ap Ok (sym made))
