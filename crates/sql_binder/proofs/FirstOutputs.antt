-- The first output column of each name.
use Rattle.std.proofs.Common.{◌≡◌, ◌≤◌, ℕ, ◌+◌, Bool, true, false, cond, not, ◌&&◌, List, [], ◌∷◌, map, length, Option, Some, None, arith, refl, sym, ap, ◌∙◌, if◌then◌else◌}
use Rattle.std.specs.Str.{bytes_eq}
use Rattle.std.proofs.lemmas.Slice.Eq.{bytes_eq-Decides}
use Rattle.sql_ast.specs.Queries.{Key}
use Rattle.expression_binder.specs.Scopes.{Item, Scope}
use Rattle.sql_binder.specs.declared.key_names.FirstOutput.{FirstOutput}
use Rattle.sql_binder.specs.declared.keys.Named.{Named}
use Rattle.sql_binder.specs.Items.{HeadingView}
use Rattle.sql_binder.specs.Keys.{give_all, one_of, output_named, keys_faults, sort_keys}
use Rattle.sql_binder.specs.KeyNames.{FirstView, seen, with_output, found, named_with, asked_for}
use Rattle.sql_binder.specs.Same.{same}

-- ---- one output column more

both : (a s g : Bool) → ((a && s) && g) ≡ (a && (if true && not s then false else g))
both false s g = refl
both true false g = refl
both true true g = refl

module _ (items : List Item) (name : List ℕ) (place : ℕ) (h : HeadingView) (hs : List HeadingView) where
  -- by whether the output column has the name
  abbrev rest : Option FirstView → Bool → Named
  rest None t = if t then one_of place (give_all items name h.value hs) else output_named items name (place + 1) hs
  rest (Some f) t = one_of f.place (f.is_one && (if t && not (same items h.value f.value) then false else give_all items name f.value hs))

  rest_is : (o : Option FirstView) → rest o (bytes_eq h.name name) ≡ named_with items name o place (h ∷ hs)
  rest_is None = refl
  rest_is (Some f) = refl

  noted_own : (o : Option FirstView) → named_with items name (Some (with_output items o place h.value)) (place + 1) hs ≡ rest o true
  noted_own None = refl
  noted_own (Some f) = ap (one_of f.place) (both f.is_one (same items h.value f.value) (give_all items name f.value hs))

  noted_other : (o : Option FirstView) → named_with items name o (place + 1) hs ≡ rest o false
  noted_other None = refl
  noted_other (Some f) = refl

  noted_by : (o own : Option FirstView) (t : Bool) → (t ≡ true → own ≡ o) → named_with items name (cond t (Some (with_output items own place h.value)) o) (place + 1) hs ≡ rest o t
  noted_by o own true agree = ap (λ w. named_with items name (Some (with_output items w place h.value)) (place + 1) hs) (agree refl) ∙ noted_own o
  noted_by o own false agree = noted_other o

  -- at says what was known of each name, and more what is known of this one now
  pub noted : (at : List ℕ → Option FirstView) (key : List ℕ) (first more : Option FirstView) → key ≡ h.name → first ≡ Some (with_output items (at key) place h.value)
      → more ≡ cond (bytes_eq key name) first (at name)
      → named_with items name more (place + 1) hs ≡ named_with items name (at name) place (h ∷ hs)
  noted at key first more is made put =
      ap (λ o. named_with items name o (place + 1) hs) (put ∙ ap (λ f. cond (bytes_eq key name) f (at name)) made)
      ∙ (noted_by (at name) (at key) (bytes_eq key name) (λ same_name. ap at ((bytes_eq-Decides key name).0 same_name))
      ∙ (ap (λ n. rest (at name) (bytes_eq n name)) is ∙ rest_is (at name)))

pub seen_put : (t : Bool) (one other : Option FirstOutput) → seen (cond t one other) ≡ cond t (seen one) (seen other)
seen_put true one other = refl
seen_put false one other = refl

-- ---- all of them

and_true : (b : Bool) → b ≡ (b && true)
and_true false = refl
and_true true = refl

pub found_at_end : (items : List Item) (name : List ℕ) (place : ℕ) (o : Option FirstView) → found o ≡ named_with items name o place []
found_at_end items name place None = refl
found_at_end items name place (Some f) = ap (one_of f.place) (and_true f.is_one)

-- ---- whether there is a key

pub some_asked : {A : Type 0} (f : A → Key) (xs : List A) (hs : List HeadingView) → 1 ≤ length xs → asked_for (map f xs) hs ≡ hs
some_asked f [] hs some = absurd (omega (arith, some))
some_asked f (x ∷ xs) hs some = refl

pub faults_asked : (s : Scope) (hs : List HeadingView) (ks : List Key) → keys_faults s (asked_for ks hs) ks ≡ keys_faults s hs ks
faults_asked s hs [] = refl
faults_asked s hs (k ∷ ks) = refl

pub sorted_asked : (s : Scope) (hs : List HeadingView) (ks : List Key) → sort_keys s (asked_for ks hs) ks ≡ sort_keys s hs ks
sorted_asked s hs [] = refl
sorted_asked s hs (k ∷ ks) = refl
