-- Sessions of a cycle one after the other, and tables by their names.
use Rattle.std.proofs.Common.{◌≡◌, ℕ, ◌+◌, ◌≤◌, ◌==◌, ◌&&◌, ◌||◌, Bool, true, false, List, [], ◌∷◌, ◌++◌, refl, ap, sym, ◌∙◌, arith, inl, inr, Option, Some, None, IsSome, map, take, length, get_or, slice_get}
use Rattle.std.proofs.lemmas.Grind.{common_steps}
use Rattle.std.proofs.lemmas.Bool.Decides.{nat_tests}
use Rattle.std.proofs.lemmas.List.{map-append, take_all, take_more, length-take}
use Rattle.std.proofs.lemmas.Option.{slice_get_cases}
use Rattle.pg_values.specs.Lists.{listed}
use Rattle.pg_values.specs.declared.session_list.SessionList.{SessionList}
use Rattle.history.specs.Transactions.{open_of, is_committed}
use Rattle.history.specs.History.{History, tx_events, catalogue_events}
use Rattle.soundness.specs.Worlds.{same_tx, table_in}
use Rattle.soundness.specs.Legal.{HasTable}
use Rattle.soundness.specs.Parts.{IsKnown}

-- ---- lists one by one

pub none_left : (xs : List ℕ) (n : ℕ) → slice_get xs n ≡ None → take n xs ≡ xs
none_left xs n e = elim (slice_get_cases xs n).1 [ inl (x, lt, is, at) ↦ absurd (let c = sym is ∙ e in cc) | inr (le, none) ↦ take_all n xs le ]

pub one_more_taken : (f : ℕ → List ℕ) (xs : List ℕ) (n x : ℕ) (done next : List (List ℕ)) → slice_get xs n ≡ Some x → done ≡ map f (take n xs) → next ≡ done ++ f x ∷ [] → next ≡ map f (take (n + 1) xs)
one_more_taken f xs n x done next e is added =
    elim (slice_get_cases xs n).1 [
      | inl (y, lt, got, at) ↦
          let same : x ≡ y = (let c = sym e ∙ got in cc) in
          let last : get_or xs n y ≡ x = at ∙ sym same in
          let more : take (n + 1) xs ≡ take n xs ++ x ∷ [] = take_more xs n y lt ∙ ap (λ z. take n xs ++ z ∷ []) last in
          added ∙ (ap (λ d. d ++ f x ∷ []) is ∙ (sym (map-append f (take n xs) (x ∷ [])) ∙ ap (map f) (sym more)))
      | inr (le, none) ↦ absurd (let c = sym e ∙ none in cc)
    ]

-- ---- what the session has is known to it

own_of : (committed running : Bool) (k t : ℕ) → (committed || ((k == t) && running)) ≡ true → committed ≡ false → t ≡ k
own_of committed running k t e none = grind (arith, common_steps, nat_tests, e, none)

pub has_known : (h : History) (s t x : ℕ) → open_of (tx_events h) s ≡ Some t → HasTable h t x → IsKnown (tx_events h) (catalogue_events h) s x
unfolding same_tx
has_known h s t x own (made, counts, kept) = (
  made,
  λ runs.
      own ∙ ap Some (own_of _ _ (table_in (catalogue_events h) x).by.number t counts (ap is_committed runs)),
)

pub some_of : (o : Option ℕ) → IsSome o → (t : ℕ) × (o ≡ Some t)
some_of None e = absurd (cc)
some_of (Some t) e = (t, refl)

pub few_listed : (l : SessionList) (n : ℕ) → 65 ≤ n → length (listed l) ≤ n
few_listed l n le = let short = length-take l.count l.places in omega (arith, short, l.within, le)
