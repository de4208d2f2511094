-- What a key of ORDER BY may name, where the output columns are found by their names.
use Rattle.std.specs.Prelude.{◌≡◌, ℕ, ◌+◌, ◌&&◌, Bool, true, List, [], ◌∷◌, Option, Some, None}
use Rattle.std.specs.Borrow.{Bor}
use Rattle.std.specs.Map.{lookup}
use Rattle.std.specs.Str.{bytes_eq}
use Rattle.sql_ast.specs.Expressions.{Tree, tree}
use Rattle.sql_ast.specs.Queries.{Key}
use Rattle.expression_binder.specs.Scopes.{Item}
use Rattle.sql_binder.specs.declared.key_names.FirstOutput.{FirstOutput}
use Rattle.sql_binder.specs.declared.keys.Named.{Named}
use Rattle.sql_binder.specs.declared.keys.Named.TheVariants as named
use Rattle.sql_binder.specs.Items.{HeadingView}
use Rattle.sql_binder.specs.Keys.{give_all, one_of, output_named}
use Rattle.sql_binder.specs.Same.{same}

-- the first output column of a name, and whether all of that name that were seen give its expression
pub record FirstView : Type 0 where
  pub place : ℕ
  pub value : Tree
  pub is_one : Bool

abbrev pub seen : Option FirstOutput → Option FirstView
seen None = None
seen (Some f) = Some (record { place = f.place; value = tree f.value.now; is_one = f.is_one })

-- what is known of a name once one more output column has it
abbrev pub with_output : List Item → Option FirstView → (place : ℕ) → Tree → FirstView
with_output items None place t = record { place = place; value = t; is_one = true }
with_output items (Some f) place t = record { place = f.place; value = f.value; is_one = f.is_one && same items t f.value }

abbrev pub found : Option FirstView → Named
found None = named.Missing
found (Some f) = one_of f.place f.is_one

-- what a name stands for, of which this is known, where these output columns are still to be seen
abbrev pub named_with : List Item → (name : List ℕ) → Option FirstView → (place : ℕ) → List HeadingView → Named
named_with items name None place hs = output_named items name place hs
named_with items name (Some f) place hs = one_of f.place (f.is_one && give_all items name f.value hs)

abbrev pub first_named : (name : List ℕ) → List (Bor (List ℕ) × FirstOutput) → Option FirstView
first_named name firsts = seen (lookup (λ k. bytes_eq name k.now) firsts)

-- the next output column is noted
abbrev pub Notes : List Item → (place : ℕ) → HeadingView → (old new : List (Bor (List ℕ) × FirstOutput)) → Type 0
Notes items place h old new = (name : Bor (List ℕ)) (hs : List HeadingView)
    → named_with items name.now (first_named name.now new) (place + 1) hs ≡ named_with items name.now (first_named name.now old) place (h ∷ hs)

-- each name is found as if all output columns were gone through
abbrev pub AreFirsts : List Item → List HeadingView → List (Bor (List ℕ) × FirstOutput) → Type 0
AreFirsts items hs firsts = (name : Bor (List ℕ)) → found (first_named name.now firsts) ≡ output_named items name.now 0 hs

-- output columns are asked for where there is a key
abbrev pub asked_for : List Key → List HeadingView → List HeadingView
asked_for [] hs = []
asked_for (k ∷ ks) hs = hs
