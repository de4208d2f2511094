-- Levels that are told to be the same are.
use Rattle.std.proofs.Common.{◌≡◌, ℕ, ◌<◌, ◌==◌, true, false, arith, List, [], ◌∷◌, drop, drop-cons, length, refl, sym, ap, ◌∙◌, subst}
use Rattle.std.proofs.lemmas.Bool.{and_parts}
use Rattle.pg_values.specs.declared.value.Kind.{Kind}
use Rattle.pg_values.specs.declared.value.Kind.TheVariants as kinds
use Rattle.bound_forms.specs.declared.level.KeyColumn.{KeyColumn}
use Rattle.bound_forms.specs.declared.level.Level.{Level}
use Rattle.pg_values.specs.declared.strategy.Strategy.{Strategy}
use Rattle.pg_values.specs.declared.strategy.Strategy.TheVariants as strategies
use Rattle.bound_forms.specs.declared.partition_bound.Bound.{Bound}
use Rattle.bound_forms.specs.Levels.{IsBoundAt, IsOfLevel}
use Rattle.ddl_steps.specs.Checks.{same_strategy, same_kind, same_column, same_columns, same_level}
use Rattle.ddl_steps.proofs.Below.{same_number}

strategy_is : (a b : Strategy) → same_strategy a b ≡ true → a ≡ b
strategy_is strategies.Range strategies.Range e = refl
strategy_is strategies.Range strategies.List e = absurd (let c = e in cc)
strategy_is strategies.Range strategies.Hash e = absurd (let c = e in cc)
strategy_is strategies.List strategies.Range e = absurd (let c = e in cc)
strategy_is strategies.List strategies.List e = refl
strategy_is strategies.List strategies.Hash e = absurd (let c = e in cc)
strategy_is strategies.Hash strategies.Range e = absurd (let c = e in cc)
strategy_is strategies.Hash strategies.List e = absurd (let c = e in cc)
strategy_is strategies.Hash strategies.Hash e = refl

pub kind_is : (a b : Kind) → same_kind a b ≡ true → a ≡ b
kind_is kinds.Int4 kinds.Int4 e = refl
kind_is kinds.Int4 kinds.Int8 e = absurd (let c = e in cc)
kind_is kinds.Int4 kinds.Text e = absurd (let c = e in cc)
kind_is kinds.Int4 kinds.Day e = absurd (let c = e in cc)
kind_is kinds.Int4 kinds.Truth e = absurd (let c = e in cc)
kind_is kinds.Int8 kinds.Int4 e = absurd (let c = e in cc)
kind_is kinds.Int8 kinds.Int8 e = refl
kind_is kinds.Int8 kinds.Text e = absurd (let c = e in cc)
kind_is kinds.Int8 kinds.Day e = absurd (let c = e in cc)
kind_is kinds.Int8 kinds.Truth e = absurd (let c = e in cc)
kind_is kinds.Text kinds.Int4 e = absurd (let c = e in cc)
kind_is kinds.Text kinds.Int8 e = absurd (let c = e in cc)
kind_is kinds.Text kinds.Text e = refl
kind_is kinds.Text kinds.Day e = absurd (let c = e in cc)
kind_is kinds.Text kinds.Truth e = absurd (let c = e in cc)
kind_is kinds.Day kinds.Int4 e = absurd (let c = e in cc)
kind_is kinds.Day kinds.Int8 e = absurd (let c = e in cc)
kind_is kinds.Day kinds.Text e = absurd (let c = e in cc)
kind_is kinds.Day kinds.Day e = refl
kind_is kinds.Day kinds.Truth e = absurd (let c = e in cc)
kind_is kinds.Truth kinds.Int4 e = absurd (let c = e in cc)
kind_is kinds.Truth kinds.Int8 e = absurd (let c = e in cc)
kind_is kinds.Truth kinds.Text e = absurd (let c = e in cc)
kind_is kinds.Truth kinds.Day e = absurd (let c = e in cc)
kind_is kinds.Truth kinds.Truth e = refl

column_is : (a b : KeyColumn) → same_column a b ≡ true → a ≡ b
column_is a b e =
    let parts = and_parts (a.position == b.position) (same_kind a.kind b.kind) e in
    let place : a.position ≡ b.position = same_number a.position b.position parts.0 in
    let kind : a.kind ≡ b.kind = kind_is a.kind b.kind parts.1 in
    ap (λ (n : ℕ). record { position = n; kind = a.kind }) place ∙ ap (λ (k : Kind). record { position = b.position; kind = k }) kind

pub columns_are : (a b : List KeyColumn) → same_columns a b ≡ true → a ≡ b
columns_are [] [] e = refl
columns_are [] (y ∷ b) e = absurd (let c = e in cc)
columns_are (x ∷ a) [] e = absurd (let c = e in cc)
columns_are (x ∷ a) (y ∷ b) e =
    let parts = and_parts (same_column x y) (same_columns a b) e in
    ap (λ (z : KeyColumn). z ∷ a) (column_is x y parts.0) ∙ ap (λ (zs : List KeyColumn). y ∷ zs) (columns_are a b parts.1)

-- a bound of the one is one of the other
pub of_same_level : (a b : Level) (x : Bound) → same_level a b ≡ true → IsOfLevel b x → IsOfLevel a x
of_same_level a b x e is =
    let parts = and_parts (same_strategy a.strategy b.strategy) (same_columns a.columns b.columns) e in
    let columns : List KeyColumn = a.columns in
    subst (λ (s : Strategy). IsBoundAt s columns x) (sym (strategy_is a.strategy b.strategy parts.0)) (subst (λ (cs : List KeyColumn). IsBoundAt b.strategy cs x) (sym (columns_are a.columns b.columns parts.1)) is)

-- ---- columns one by one

pub no_columns : (xs : List KeyColumn) → length xs ≡ 0 → xs ≡ []
no_columns [] e = refl
no_columns (x ∷ xs) e = absurd (omega (arith, e))

-- one that is left has none beside it
pub none_beside : (a : List KeyColumn) (k : ℕ) → k < length a → same_columns (drop k a) [] ≡ false
none_beside [] k lt = absurd (omega (arith, lt))
none_beside (x ∷ a) k lt = ap (λ (xs : List KeyColumn). same_columns xs []) (drop-cons (x ∷ a) k x lt)
