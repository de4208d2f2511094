-- A look-up by bytes, after an insertion; and the last number that passes a test.
use Rattle.std.proofs.Common.{◌≡◌, ℕ, zero, suc, ◌+◌, ◌<◌, ◌++◌, arith, ap, refl, sym, ◌∙◌, Bool, true, false, cond, ◌&&◌, if◌then◌else◌, List, [], ◌∷◌, Option, Some, None, inl, inr, length, slice_index_or}
use Rattle.std.proofs.lemmas.Grind.{common_steps, elements}
use Rattle.std.proofs.lemmas.Bool.{cases_Bool, cases_lt}
use Rattle.std.proofs.lemmas.List.{length-append}
use Rattle.std.specs.Str.{bytes_eq}
use Rattle.std.specs.Map.{lookup}
use Rattle.indexmap.specs.IndexMap.{insert_entry}
use Rattle.std.proofs.lemmas.Slice.Eq.{bytes_eq-Decides}
use Rattle.part_catalog.specs.Names.{last_below, has_name}

bytes_same : (xs ys : List ℕ) → bytes_eq xs ys ≡ true → xs ≡ ys
bytes_same xs ys h = (bytes_eq-Decides xs ys).0 h

bytes_alike : (xs ys : List ℕ) → xs ≡ ys → bytes_eq xs ys ≡ true
bytes_alike xs ys h = (bytes_eq-Decides xs ys).1 h

-- a name is one of two that differ at most
not_both : (name xs ys : List ℕ) → bytes_eq xs ys ≡ false → (bytes_eq name xs && bytes_eq name ys) ≡ false
not_both name xs ys differ = elim (cases_Bool (bytes_eq name xs)) [
  | inl a ↦ elim (cases_Bool (bytes_eq name ys)) [
    | inl b ↦ let same = bytes_alike xs ys (sym (bytes_same name xs a) ∙ bytes_same name ys b) in absurd (cc)
    | inr b ↦ rw (a, b) refl
  ]
  | inr a ↦ rw a refl
]

by_same : {X : Type 0} (b : Bool) (v w : X) (o : Option X) → cond b (Some v) o ≡ cond b (Some v) (cond b (Some w) o)
by_same true v w o = refl
by_same false v w o = refl

by_other : {X : Type 0} (a b : Bool) (v w : X) (o : Option X) → (a && b) ≡ false → cond b (Some w) (cond a (Some v) o) ≡ cond a (Some v) (cond b (Some w) o)
by_other true true v w o h = absurd (cc)
by_other true false v w o h = refl
by_other false true v w o h = refl
by_other false false v w o h = refl

-- keys that are told apart by their bytes alone
module _ {K X : Type 0} (bytes : K → List ℕ) where
  pub lookup_put : (name : List ℕ) (es : List (K × X)) (k : K) (v : X) → lookup (λ x. bytes_eq name (bytes x)) (insert_entry (λ x y. bytes_eq (bytes x) (bytes y)) es k v) ≡ cond (bytes_eq name (bytes k)) (Some v) (lookup (λ x. bytes_eq name (bytes x)) es)
  lookup_put name [] k v = refl
  lookup_put name (e ∷ es) k v = elim (cases_Bool (bytes_eq (bytes k) (bytes e.0))) [
    | inl same ↦
        let alike : bytes k ≡ bytes e.0 = bytes_same (bytes k) (bytes e.0) same in
        rw same (rw alike (by_same (bytes_eq name (bytes e.0)) v e.1 _))
    | inr other ↦ rw (other, lookup_put name es k v) (by_other (bytes_eq name (bytes k)) (bytes_eq name (bytes e.0)) v e.1 _ (not_both name (bytes k) (bytes e.0) other))
  ]

  pub newest_step : (name : List ℕ) (old new : List (K × X)) (k : K) (v w : X) (o : Option X) → new ≡ insert_entry (λ x y. bytes_eq (bytes x) (bytes y)) old k v → v ≡ w → lookup (λ x. bytes_eq name (bytes x)) old ≡ o → lookup (λ x. bytes_eq name (bytes x)) new ≡ cond (bytes_eq name (bytes k)) (Some w) o
  newest_step name old new k v w o put is was = rw (put, lookup_put name old k v, was, is) refl

-- ---- the last number below another

pub last_agree : (p q : ℕ → Bool) (n : ℕ) → ((k : ℕ) → k < n → p k ≡ q k) → last_below p n ≡ last_below q n
last_agree p q zero same = refl
last_agree p q (suc n) same =
    let first : p n ≡ q n = same n (omega arith) in
    let rest = last_agree p q n (λ k lt. same k (omega (arith, lt))) in
    rw (first, rest) refl

name_before : (named : List (List ℕ)) (n name : List ℕ) (k : ℕ) → k < length named → has_name (named ++ n ∷ []) name k ≡ has_name named name k
name_before named n name k lt = grind (arith, common_steps, elements)

pub last_before : (named : List (List ℕ)) (n name : List ℕ) (k : ℕ) → k < length named + 1 → last_below (has_name (named ++ n ∷ []) name) k ≡ last_below (has_name named name) k
last_before named n name k lt = last_agree (has_name (named ++ n ∷ []) name) (has_name named name) k (λ j below. name_before named n name j (omega (arith, below, lt)))

pub last_added : (named : List (List ℕ)) (n name : List ℕ) → last_below (has_name (named ++ n ∷ []) name) (length (named ++ n ∷ [])) ≡ (if bytes_eq name n then Some (length named) else last_below (has_name named name) (length named))
last_added named n name =
    let count : length (named ++ n ∷ []) ≡ suc (length named) = omega (arith, length-append named (n ∷ [])) in
    let here : has_name (named ++ n ∷ []) name (length named) ≡ bytes_eq name n = grind (arith, common_steps, elements) in
    let rest = last_before named n name (length named) (omega arith) in
    rw (count, here, rest) refl

pub earlier_step : (named : List (List ℕ)) (n : List ℕ) (earlier : List (Option ℕ)) (before : Option ℕ) → length earlier ≡ length named → ((k : ℕ) → k < length named → slice_index_or earlier k None ≡ last_below (has_name named (slice_index_or named k [])) k) → before ≡ last_below (has_name named n) (length named)
    → (k : ℕ) → k < length (named ++ n ∷ []) → slice_index_or (earlier ++ before ∷ []) k None ≡ last_below (has_name (named ++ n ∷ []) (slice_index_or (named ++ n ∷ []) k [])) k
earlier_step named n earlier before count old here k lt =
    let more : length (named ++ n ∷ []) ≡ length named + 1 = omega (arith, length-append named (n ∷ [])) in
    elim (cases_lt k (length named)) [
      | inl within ↦
          let a : slice_index_or (earlier ++ before ∷ []) k None ≡ slice_index_or earlier k None = grind (arith, common_steps, elements, count) in
          let b : slice_index_or (named ++ n ∷ []) k [] ≡ slice_index_or named k [] = grind (arith, common_steps, elements) in
          a ∙ old k within ∙ sym (last_before named n (slice_index_or named k []) k (omega (arith, within))) ∙ ap (λ name. last_below (has_name (named ++ n ∷ []) name) k) (sym b)
      | inr past ↦
          let at : k ≡ length named = omega (arith, past, more, lt) in
          let a : slice_index_or (earlier ++ before ∷ []) k None ≡ before = grind (arith, common_steps, elements, count, at) in
          let b : slice_index_or (named ++ n ∷ []) k [] ≡ n = grind (arith, common_steps, elements, at) in
          a ∙ here ∙ ap (last_below (has_name named n)) (sym at) ∙ sym (last_before named n n k (omega (arith, at))) ∙ ap (λ name. last_below (has_name (named ++ n ∷ []) name) k) (sym b)
    ]
