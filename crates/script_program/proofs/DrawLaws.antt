-- Texts that stand one behind another.
use Rattle.std.proofs.Common.{◌≡◌, ◌∙◌, ◌+◌, ℕ, List, [], ◌∷◌, ◌++◌, map, replicate, refl, sym, ap, subst, append-nil, append_assoc}
use Rattle.std.proofs.lemmas.Grind.{replicate_next}
use Rattle.std.proofs.lemmas.List.FromFn.{map-range_with_len_more}
use Rattle.std.specs.List.{range_with_len}
use Rattle.script_program.specs.Draws.{Drawn, Moves, draw, fixed, for_each, in_turn, next_state, repeated, with_draw}

module _ {S : Type 0} where
  pub none : {s : S} {text : List ℕ} → Moves (in_turn []) s text s text
  unfolding in_turn
  none {s} {text} = record { appends = sym (append-nil text); goes_on = refl }

  -- one text, and then others
  pub first : (ds : List (Drawn S)) {d : Drawn S} {s s' s'' : S} {t t' t'' : List ℕ}
      → Moves d s t s' t' → Moves (in_turn ds) s' t' s'' t'' → Moves (in_turn (d ∷ ds)) s t s'' t''
  unfolding in_turn
  first ds {d} {s} {s'} {s''} {t} {t'} {t''} one rest = record {
    appends = rest.appends ∙ ap (λ p. p ++ (in_turn ds s').0) one.appends
        ∙ ap (λ p. (t ++ (d s).0) ++ (in_turn ds p).0) one.goes_on ∙ append_assoc t (d s).0 (in_turn ds (d s).1).0;
    goes_on = rest.goes_on ∙ ap (λ p. (in_turn ds p).1) one.goes_on;
  }

  -- the last text
  pub last : {d : Drawn S} {s s' : S} {t t' : List ℕ} → Moves d s t s' t' → Moves (in_turn (d ∷ [])) s t s' t'
  last {d} {s} {s'} {t} {t'} one = first [] {d = d} {s = s} {s' = s'} {s'' = s'} {t = t} {t' = t'} {t'' = t'} one none

  -- some texts, and then one more
  pub then_one : (ds : List (Drawn S)) (d : Drawn S) {s s' s'' : S} {t t' t'' : List ℕ}
      → Moves (in_turn ds) s t s' t' → Moves d s' t' s'' t'' → Moves (in_turn (ds ++ d ∷ [])) s t s'' t''
  unfolding in_turn
  then_one [] d {s} {s'} {s''} {t} {t'} {t''} some one =
      let same : t' ≡ t = some.appends ∙ append-nil t in
      last {d = d} {s = s} {s' = s''} {t = t} {t' = t''} (record {
        appends = one.appends ∙ ap (λ p. p ++ (d s').0) same ∙ ap (λ p. t ++ (d p).0) some.goes_on;
        goes_on = one.goes_on ∙ ap (λ p. (d p).1) some.goes_on;
      })
  then_one (e ∷ ds) d {s} {s'} {s''} {t} {t'} {t''} some one =
      let behind : Moves (in_turn ds) (e s).1 (t ++ (e s).0) s' t' =
      record { appends = some.appends ∙ sym (append_assoc t (e s).0 (in_turn ds (e s).1).0); goes_on = some.goes_on } in
      let rest = then_one ds d {s = (e s).1} {s' = s'} {s'' = s''} {t = t ++ (e s).0} {t' = t'} {t'' = t''} behind one in
      record { appends = rest.appends ∙ append_assoc t (e s).0 (in_turn (ds ++ d ∷ []) (e s).1).0; goes_on = rest.goes_on }

  pub once_more : (k : ℕ) (d : Drawn S) {s s' s'' : S} {t t' t'' : List ℕ}
      → Moves (repeated k d) s t s' t' → Moves d s' t' s'' t'' → Moves (repeated (k + 1) d) s t s'' t''
  once_more k d {s} {s'} {s''} {t} {t'} {t''} some one =
      subst (λ (ds : List (Drawn S)). Moves (in_turn ds) s t s'' t'') (sym (replicate_next k d))
      (then_one (replicate k d) d {s = s} {s' = s'} {s'' = s''} {t = t} {t' = t'} {t'' = t''} some one)

  pub for_one_more : (a k j : ℕ) (d : ℕ → Drawn S) {s s' s'' : S} {t t' t'' : List ℕ} → a + k ≡ j
      → Moves (for_each a k d) s t s' t' → Moves (d j) s' t' s'' t'' → Moves (for_each a (k + 1) d) s t s'' t''
  for_one_more a k j d {s} {s'} {s''} {t} {t'} {t''} at some one =
      subst (λ (ds : List (Drawn S)). Moves (in_turn ds) s t s'' t'') (sym (map-range_with_len_more d a k j at))
      (then_one (map d (range_with_len a k)) (d j) {s = s} {s' = s'} {s'' = s''} {t = t} {t' = t'} {t'' = t''} some one)

  -- fixed texts are joined
  pub joined : (a b : List ℕ) {s s' s'' : S} {t t' t'' : List ℕ}
      → Moves (fixed a) s t s' t' → Moves (fixed b) s' t' s'' t'' → Moves (fixed (a ++ b)) s t s'' t''
  joined a b {s} {s'} {s''} {t} {t'} {t''} one more = record {
    appends = more.appends ∙ ap (λ p. p ++ b) one.appends ∙ append_assoc t a b;
    goes_on = more.goes_on ∙ one.goes_on;
  }

-- a number is drawn, and then the text is the one for it
pub by_draw : (n x : ℕ) (d : ℕ → Drawn ℕ) {s s' s'' : ℕ} {t t' t'' : List ℕ} → x ≡ draw n s → s' ≡ next_state s → t' ≡ t
    → Moves (d x) s' t' s'' t'' → Moves (with_draw n d) s t s'' t''
by_draw n x d {s} {s'} {s''} {t} {t'} {t''} number state same one = record {
  appends = one.appends ∙ (λ i. same i ++ (d (number i) (state i)).0);
  goes_on = one.goes_on ∙ (λ i. (d (number i) (state i)).1);
}
