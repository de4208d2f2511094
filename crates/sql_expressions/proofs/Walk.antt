-- What stands where in a text of an expression: a walk over its tokens knows where an operand has just ended, and where
-- one must begin. BETWEEN may be a name too; it is the operator just where an operand, or a NOT behind one, stands before.
use Rattle.std.proofs.Common.{◌≡◌, ℕ, zero, suc, Bool, true, false, not, ◌||◌, if◌then◌else◌, List, [], ◌∷◌, ◌++◌, inl, inr, refl, sym, ◌∙◌, ap, subst, eqb-true}
use Rattle.std.specs.Prelude.{◌⊎◌, nat_eq}
use Rattle.std.proofs.lemmas.List.{append-nil, append_assoc}
use Rattle.grammar.specs.KindClasses.{every}
use Rattle.grammar.specs.Reading.{Class, one_texts, nothing_texts, both_texts, follow_texts, value_texts, either_texts}
use Rattle.grammar.specs.Repeats.{all_repeats, repeats_texts, step_to, second_of}
use Rattle.grammar.proofs.Depths.{Inside, value_inside}
use Rattle.grammar.proofs.Laws.{head_eq, tail_eq}
use Rattle.sql_tokens.specs.Words as words
use Rattle.sql_tokens.specs.declared.kind.TokenKind.{TokenKind}
use Rattle.sql_tokens.specs.declared.kind.TokenKind.TheVariants as word
use Rattle.sql_tokens.specs.declared.token.Token.{Token}
use Rattle.sql_tokens.specs.Classes.{a, a_name}
use Rattle.sql_expressions.proofs.LevelLaws.{begins_leaf, begins_unary}
use Rattle.sql_expressions.proofs.WordLaws.{sample, within}

abbrev pub Of : Type 0 → Type 1
Of A = List Token → A → Type 0

-- where the walk stands: an operand or NOT may begin, an operand of BETWEEN must, a name must behind ".", an operand stands
-- before and NOT behind it, an operand stands before; or in no text
pub data Place : Type 0 where
  before : Place
  bound : Place
  dot : Place
  denied : Place
  behind : Place
  nowhere : Place

abbrev pub ends_operand : Class Token
ends_operand t = a word.CloseParenthesis t || begins_leaf t

abbrev pub from_before : Token → Place
from_before t = if ends_operand t then behind else before

abbrev pub step : Place → Token → Place
step before t = from_before t
step bound t = if begins_unary t then from_before t else nowhere
step dot t = if a_name t then behind else nowhere
step denied t = if a word.Between t then bound else (if a word.In t then before else nowhere)
step behind t =
    if a word.Between t then bound
    else (if a word.Dot t then dot
    else (if a word.Not t then denied
    else (if a word.CloseParenthesis t || a word.Text t then behind
    else before)))
step nowhere t = nowhere

abbrev pub run : Place → List Token → Place
run p [] = p
run p (t ∷ ts) = run (step p t) ts

pub run_append : (p : Place) (x y : List Token) → run p (x ++ y) ≡ run (run p x) y
run_append p [] y = refl
run_append p (t ∷ x) y = run_append (step p t) x y

pub run_nowhere : (x : List Token) → run nowhere x ≡ nowhere
run_nowhere [] = refl
run_nowhere (t ∷ x) = run_nowhere x

-- places by number, to compare them
abbrev pub number : Place → ℕ
number before = 0
number bound = 1
number dot = 2
number denied = 3
number behind = 4
number nowhere = 5

abbrev place_of : ℕ → Place
place_of zero = before
place_of (suc zero) = bound
place_of (suc (suc zero)) = dot
place_of (suc (suc (suc zero))) = denied
place_of (suc (suc (suc (suc zero)))) = behind
place_of (suc (suc (suc (suc (suc n))))) = nowhere

place_back : (p : Place) → place_of (number p) ≡ p
place_back before = refl
place_back bound = refl
place_back dot = refl
place_back denied = refl
place_back behind = refl
place_back nowhere = refl

abbrev pub same : Place → Place → Bool
same p q = nat_eq (number p) (number q)

same_place : (p q : Place) → same p q ≡ true → p ≡ q
same_place p q h = sym (place_back p) ∙ ap place_of (eqb-true (number p) (number q) h) ∙ place_back q

-- a token of the class leads from p to q
abbrev pub Leads : Place → Class Token → Place → Type 0
Leads p c q = (t : Token) → c t ≡ true → step p t ≡ q

pub leads : (p q : Place) (c : Class Token) → ((t : Token) → (not (c t) || same (step p t) q) ≡ (not (c (sample t.kind)) || same (step p (sample t.kind)) q)) →
    every (λ k. not (c (sample k)) || same (step p (sample k)) q) words.kinds_list ≡ true → Leads p c q
leads p q c kind h t e = same_place (step p t) q (within c (λ t. same (step p t) q) kind h t e)

abbrev pub NotBound : Place → Type 0
NotBound p = p ≡ bound → ⊥

pub not_bound : (p : Place) → same p bound ≡ false → NotBound p
not_bound p h e = let i : same bound bound ≡ false = subst (λ q. same q bound ≡ false) e h in cc

-- a place inside of one text after another
abbrev Cut : List Token → List Token → List Token → Token → List Token → Type 0
Cut x y v s w = ((w' : List Token) × (x ≡ v ++ s ∷ w')) ⊎ ((v' : List Token) × (v ≡ x ++ v') × (y ≡ v' ++ s ∷ w))

further : (t r : Token) (x y v w : List Token) (s : Token) → t ≡ r → Cut x y v s w → Cut (t ∷ x) y (r ∷ v) s w
further t r x y v w s e (inl c) = inl (c.0, ap (λ z. t ∷ z) c.1 ∙ ap (λ z. z ∷ (v ++ s ∷ c.0)) e)
further t r x y v w s e (inr c) = inr (c.0, ap (λ z. r ∷ z) c.1 ∙ ap (λ z. z ∷ (x ++ c.0)) (sym e), c.2)

cut : (x y v : List Token) (s : Token) (w : List Token) → x ++ y ≡ v ++ s ∷ w → Cut x y v s w
cut [] y v s w e = inr (v, refl, e)
cut (t ∷ x) y [] s w e = inl (x, ap (λ z. z ∷ x) (head_eq e))
cut (t ∷ x) y (r ∷ v) s w e = further t r x y v w s (head_eq e) (cut x y v s w (tail_eq e))

nil_cut : (v w : List Token) (s : Token) → [] ≡ v ++ s ∷ w → ⊥
nil_cut [] w s e = cc
nil_cut (r ∷ v) w s e = cc

single_cut : (t : Token) (v w : List Token) (s : Token) → t ∷ [] ≡ v ++ s ∷ w → v ≡ []
single_cut t [] w s e = refl
single_cut t (r ∷ v) w s e = absurd (nil_cut v w s (tail_eq e))

-- a token with which an operand begins
module _ (u : Token) (h : begins_unary u ≡ true) where
  -- a text that goes on with it behind v
  abbrev pub Some : {A : Type 0} → Of A → List Token → Type 0
  Some {A} U v = (more : List Token) × (b : A) × U (v ++ u ∷ more) b

  -- where an operand of BETWEEN begins in a text of P, it may be another that begins with the token u, in a text of U
  abbrev pub Swaps : {A : Type 0} → Place → Of A → Of A → Type 0
  Swaps {A} p P U = (ts v w : List Token) (s : Token) (x : A) → P ts x → ts ≡ v ++ s ∷ w → run p v ≡ bound → Some U v

  -- the texts of P, which are texts of U too, lead from p to q
  pub record Fits {A : Type 0} (p q : Place) (P U : Of A) : Type 0 where
    pub goes : (ts : List Token) (x : A) → P ts x → run p ts ≡ q
    pub inside : Inside P U
    pub swaps : Swaps p P U

  pub into : {A : Type 0} {p q : Place} {P U U' : Of A} → Fits p q P U → Inside U U' → Fits p q P U'
  into l i = record {
    goes = l.goes;
    inside = λ ts x k. i ts x (l.inside ts x k);
    swaps = λ ts v w s x k e r. let m = l.swaps ts v w s x k e r in (m.0, m.1, i _ m.1 m.2);
  }

  pub one_fits : {p q : Place} (c : Class Token) → NotBound p → Leads p c q → Fits p q (one_texts c) (one_texts c)
  one_fits {p = p} {q = q} c n l = record {
    goes = λ ts t k. subst (λ z. run p z ≡ q) (sym k.0) (l t k.1);
    inside = λ ts t k. k;
    swaps = λ ts v w s t k e r. absurd (n (subst (λ z. run p z ≡ bound) (single_cut t v w s (sym k.0 ∙ e)) r));
  }

  pub nothing_fits : {A : Type 0} {p : Place} (x : A) → Fits p p (nothing_texts x) (nothing_texts x)
  nothing_fits {p = p} x = record {
    goes = λ ts y k. subst (λ z. run p z ≡ p) (sym k.0) refl;
    inside = λ ts y k. k;
    swaps = λ ts v w s y k e r. absurd (nil_cut v w s (sym k.0 ∙ e));
  }

  pub value_fits : {A B : Type 0} {p q : Place} {P U : Of A} (f : A → B) → Fits p q P U → Fits p q (value_texts f P) (value_texts f U)
  value_fits f l = record {
    goes = λ ts y k. l.goes ts k.0 k.1;
    inside = value_inside f l.inside;
    swaps = λ ts v w s y k e r. let m = l.swaps ts v w s k.0 k.1 e r in (m.0, f m.1, (m.1, m.2, refl));
  }

  module _ {A : Type 0} {p q : Place} {P U Q V : Of A} (l : Fits p q P U) (m : Fits p q Q V) where
    either_goes : (ts : List Token) (x : A) → either_texts P Q ts x → run p ts ≡ q
    either_goes ts x (inl k) = l.goes ts x k
    either_goes ts x (inr k) = m.goes ts x k

    either_into : Inside (either_texts P Q) (either_texts U V)
    either_into ts x (inl k) = inl (l.inside ts x k)
    either_into ts x (inr k) = inr (m.inside ts x k)

    either_swaps : Swaps p (either_texts P Q) (either_texts U V)
    either_swaps ts v w s x (inl k) e r = let o = l.swaps ts v w s x k e r in (o.0, o.1, inl o.2)
    either_swaps ts v w s x (inr k) e r = let o = m.swaps ts v w s x k e r in (o.0, o.1, inr o.2)

    pub either_fits : Fits p q (either_texts P Q) (either_texts U V)
    either_fits = record { goes = either_goes; inside = either_into; swaps = either_swaps }

  -- one text after another; where the first becomes another, some second follows it
  module _ {A B : Type 0} {p r : Place} {P U : Of A} {Q V : A → Of B} (i : Inside P U) (m : Swaps p P U)
      (l : (x : List Token) (c : A) → P x c → Fits (run p x) r (Q c) (V c)) (some : (c d : A) (y : List Token) (b : B) → Q c y b → (z : List Token) × (e : B) × V d z e) where
    follow_goes : (ts : List Token) (x : A × B) → follow_texts P Q ts x → run p ts ≡ r
    follow_goes ts x k = subst (λ z. run p z ≡ r) (sym k.2) (run_append p k.0 k.1 ∙ (l k.0 x.0 k.3).goes k.1 x.1 k.4)

    follow_cut : (v w : List Token) (s : Token) (x : A × B) (y z : List Token) → P y x.0 → Q x.0 z x.1 → Cut y z v s w → run p v ≡ bound → Some (follow_texts U V) v
    follow_cut v w s x y z k k' (inl c) g =
        let o = m y v c.0 s x.0 k c.1 g in
        let n = some x.0 o.1 z x.1 k' in
        (o.0 ++ n.0, (o.1, n.1), (v ++ u ∷ o.0, n.0, sym (append_assoc v (u ∷ o.0) n.0), o.2, n.2))
    follow_cut v w s x y z k k' (inr c) g =
        let o = (l y x.0 k).swaps z c.0 w s x.1 k' c.2 (sym (run_append p y c.0) ∙ subst (λ e. run p e ≡ bound) c.1 g) in
        (o.0, (x.0, o.1), (y, c.0 ++ u ∷ o.0, ap (λ e. e ++ u ∷ o.0) c.1 ∙ append_assoc y c.0 (u ∷ o.0), i y x.0 k, o.2))

    follow_by : Fits p r (follow_texts P Q) (follow_texts U V)
    follow_by = record {
      goes = follow_goes;
      inside = λ ts x k. (k.0, k.1, k.2, i k.0 x.0 k.3, (l k.0 x.0 k.3).inside k.1 x.1 k.4);
      swaps = λ ts v w s x k e g. follow_cut v w s x k.0 k.1 k.3 k.4 (cut k.0 k.1 v s w (sym k.2 ∙ e)) g;
    }

  pub follow_fits : {A B : Type 0} {p q r : Place} {P U : Of A} {Q V : A → Of B} → Fits p q P U → ((c : A) → Fits q r (Q c) (V c)) →
      ((c d : A) (y : List Token) (b : B) → Q c y b → (z : List Token) × (e : B) × V d z e) → Fits p r (follow_texts P Q) (follow_texts U V)
  follow_fits {r = r} {Q = Q} {V = V} l m some = follow_by {Q = Q} {V = V} l.inside l.swaps (λ x c k. subst (λ z. Fits z r (Q c) (V c)) (sym (l.goes x c k)) (m c)) some

  pub both_fits : {A B : Type 0} {p q r : Place} {P U : Of A} {Q V : Of B} → Fits p q P U → Fits q r Q V → Fits p r (both_texts P Q) (both_texts U V)
  both_fits {P = P} {U = U} {Q = Q} {V = V} l m =
      let o = follow_fits {P = P} {U = U} {Q = λ _. Q} {V = λ _. V} l (λ _. m) (λ c d y b k. (y, b, m.inside y b k)) in
      record { goes = o.goes; inside = o.inside; swaps = o.swaps }

  -- a word before
  pub behind_fits : {A : Type 0} {p q r : Place} {P U : Of A} (k : TokenKind) → NotBound p → Leads p (a k) q → Fits q r P U →
      Fits p r (value_texts (λ (x : Token × A). x.1) (both_texts (one_texts (a k)) P)) (value_texts (λ (x : Token × A). x.1) (both_texts (one_texts (a k)) U))
  behind_fits {A} k n e l = value_fits (λ (x : Token × A). x.1) (both_fits (one_fits (a k) n e) l)

  -- a closing parenthesis behind: a text may end where one leads behind an operand
  pub record Shut {A : Type 0} (p : Place) (P U : Of A) : Type 0 where
    pub ends : (ts : List Token) (x : A) → P ts x → Leads (run p ts) (a word.CloseParenthesis) behind
    pub inside : Inside P U
    pub swaps : Swaps p P U

  pub shut : {A : Type 0} {p q : Place} {P U : Of A} → Leads q (a word.CloseParenthesis) behind → Fits p q P U → Shut p P U
  shut e l = record { ends = λ ts x k. subst (λ z. Leads z (a word.CloseParenthesis) behind) (sym (l.goes ts x k)) e; inside = l.inside; swaps = l.swaps }

  pub value_shut : {A B : Type 0} {p : Place} {P U : Of A} (f : A → B) → Shut p P U → Shut p (value_texts f P) (value_texts f U)
  value_shut f l = record {
    ends = λ ts y k. l.ends ts k.0 k.1;
    inside = value_inside f l.inside;
    swaps = λ ts v w s y k e r. let m = l.swaps ts v w s k.0 k.1 e r in (m.0, f m.1, (m.1, m.2, refl));
  }

  module _ {A : Type 0} {p : Place} {P U Q V : Of A} (l : Shut p P U) (m : Shut p Q V) where
    shut_ends : (ts : List Token) (x : A) → either_texts P Q ts x → Leads (run p ts) (a word.CloseParenthesis) behind
    shut_ends ts x (inl k) = l.ends ts x k
    shut_ends ts x (inr k) = m.ends ts x k

    shut_into : Inside (either_texts P Q) (either_texts U V)
    shut_into ts x (inl k) = inl (l.inside ts x k)
    shut_into ts x (inr k) = inr (m.inside ts x k)

    shut_swaps : Swaps p (either_texts P Q) (either_texts U V)
    shut_swaps ts v w s x (inl k) e r = let o = l.swaps ts v w s x k e r in (o.0, o.1, inl o.2)
    shut_swaps ts v w s x (inr k) e r = let o = m.swaps ts v w s x k e r in (o.0, o.1, inr o.2)

    pub either_shut : Shut p (either_texts P Q) (either_texts U V)
    either_shut = record { ends = shut_ends; inside = shut_into; swaps = shut_swaps }

  closed : (p : Place) → Leads p (a word.CloseParenthesis) behind → NotBound p
  closed p l e = let i : nowhere ≡ behind = subst (λ q. step q (sample word.CloseParenthesis) ≡ behind) e (l (sample word.CloseParenthesis) refl) in cc

  pub before_fits : {A : Type 0} {p : Place} {P U : Of A} → Shut p P U →
      Fits p behind (value_texts (λ (x : A × Token). x.0) (both_texts P (one_texts (a word.CloseParenthesis)))) (value_texts (λ (x : A × Token). x.0) (both_texts U (one_texts (a word.CloseParenthesis))))
  before_fits {A} {p = p} {P = P} {U = U} l =
      let o = follow_by {P = P} {U = U} {Q = λ _. one_texts (a word.CloseParenthesis)} {V = λ _. one_texts (a word.CloseParenthesis)} l.inside l.swaps
      (λ x c k. one_fits (a word.CloseParenthesis) (closed (run p x) (l.ends x c k)) (l.ends x c k)) (λ c d y b k. (y, b, k)) in
      value_fits (λ (x : A × Token). x.0) (record { goes = o.goes; inside = o.inside; swaps = o.swaps })

  -- chains
  module _ {A B : Type 0} (guard : A → Bool) (join : A → Token → B → A) (P U : A → Of (Token × B)) (l : (c : A) → Fits behind behind (P c) (U c)) where
    all_goes : (c : A) (xs : List (Token × B)) (ts : List Token) (x : A) → all_repeats guard join P c xs ts x → run behind ts ≡ behind
    all_goes c [] ts x k = subst (λ z. run behind z ≡ behind) (sym k.0) refl
    all_goes c (b ∷ xs) ts x k =
        subst (λ z. run behind z ≡ behind) (sym k.3)
        (run_append behind k.1 k.2 ∙ ap (λ z. run z k.2) ((l c).goes k.1 b k.4) ∙ all_goes (step_to join c b) xs k.2 x k.5)

    all_into : (c : A) (xs : List (Token × B)) → Inside (all_repeats guard join P c xs) (all_repeats guard join U c xs)
    all_into c [] ts x k = k
    all_into c (b ∷ xs) ts x k = (k.0, k.1, k.2, k.3, (l c).inside k.1 b k.4, all_into (step_to join c b) xs k.2 x k.5)

    first_cut : (c : A) (y v w : List Token) (s : Token) (b : Token × B) → guard c ≡ true → P c y b → y ≡ v ++ s ∷ w → run behind v ≡ bound → Some (repeats_texts guard join U c) v
    first_cut c y v w s b t k e g =
        let o = (l c).swaps y v w s b k e g in
        (o.0, step_to join c o.1, (o.1 ∷ [], (t, v ++ u ∷ o.0, [], sym (append-nil (v ++ u ∷ o.0)), o.2, (refl, refl))))

    later_cut : (c : A) (y v v' : List Token) (b : Token × B) → guard c ≡ true → P c y b → v ≡ y ++ v' → Some (repeats_texts guard join U (step_to join c b)) v' → Some (repeats_texts guard join U c) v
    later_cut c y v v' b t k e o =
        (o.0, o.1, (b ∷ o.2.0, (t, y, v' ++ u ∷ o.0, ap (λ z. z ++ u ∷ o.0) e ∙ append_assoc y v' (u ∷ o.0), (l c).inside y b k, o.2.1)))

    all_swaps : (c : A) (xs : List (Token × B)) → Swaps behind (all_repeats guard join P c xs) (repeats_texts guard join U c)
    all_swaps c [] ts v w s x k e g = absurd (nil_cut v w s (sym k.0 ∙ e))
    all_swaps c (b ∷ xs) ts v w s x k e g = elim (cut k.1 k.2 v s w (sym k.3 ∙ e)) [
      | inl o ↦ first_cut c k.1 v o.0 s b k.0 k.4 o.1 g
      | inr o ↦ later_cut c k.1 v o.0 b k.0 k.4 o.1 (all_swaps (step_to join c b) xs k.2 o.0 w s x k.5 o.2
          (sym (ap (λ z. run z o.0) ((l c).goes k.1 b k.4)) ∙ sym (run_append behind k.1 o.0) ∙ subst (λ z. run behind z ≡ bound) o.1 g))
    ]

    repeats_fit : (c : A) → Fits behind behind (repeats_texts guard join P c) (repeats_texts guard join U c)
    repeats_fit c = record {
      goes = λ ts x k. all_goes c k.0 ts x k.1;
      inside = λ ts x k. (k.0, all_into c k.0 ts x k.1);
      swaps = λ ts v w s x k e g. all_swaps c k.0 ts v w s x k.1 e g;
    }

  abbrev pub chain_texts : {A B C : Type 0} → Class Token → (A → Bool) → (C → A) → (A → Token → B → A) → Of C → Of B → Of A
  chain_texts {A} sign guard first join Q P = value_texts second_of (follow_texts Q (λ c. repeats_texts guard join (λ (l : A). both_texts (one_texts sign) P) (first c)))

  pub chain_fits : {A B C : Type 0} {p : Place} {H Q : Of C} {G P : Of B} (sign : Class Token) (guard : A → Bool) (first : C → A) (join : A → Token → B → A) → Leads behind sign before → Fits p behind H Q → Fits before behind G P →
      Fits p behind (chain_texts sign guard first join H G) (chain_texts sign guard first join Q P)
  chain_fits {A} {H = H} {Q = Q} {G = G} {P = P} sign guard first join e l m =
      value_fits second_of (follow_fits {P = H} {U = Q}
      {Q = λ c. repeats_texts guard join (λ (x : A). both_texts (one_texts sign) G) (first c)} {V = λ c. repeats_texts guard join (λ (x : A). both_texts (one_texts sign) P) (first c)} l
      (λ c. repeats_fit guard join (λ (x : A). both_texts (one_texts sign) G) (λ (x : A). both_texts (one_texts sign) P) (λ x. both_fits (one_fits sign (not_bound behind refl) e) m) (first c))
      (λ c d y b k. ([], first d, ([], (refl, refl)))))

  -- behind an operator BETWEEN
  same_start : (t : Token) → begins_unary t ≡ true → step bound t ≡ step before t
  same_start t e = rw e refl

  module _ {A : Type 0} {P U : Of A} (begins : (t : Token) (x : List Token) (c : A) → U (t ∷ x) c → begins_unary t ≡ true) (empty : (c : A) → U [] c → ⊥) (opened : Some U []) (l : Fits before behind P U) where
    bound_goes : (ts : List Token) (x : A) → P ts x → run bound ts ≡ behind
    bound_goes [] x k = absurd (empty x (l.inside [] x k))
    bound_goes (t ∷ ts) x k = ap (λ z. run z ts) (same_start t (begins t ts x (l.inside (t ∷ ts) x k))) ∙ l.goes (t ∷ ts) x k

    bound_swaps : Swaps bound P U
    bound_swaps ts [] w s x k e g = opened
    bound_swaps ts (t ∷ v) w s x k e g =
        let i = begins t (v ++ s ∷ w) x (subst (λ z. U z x) e (l.inside ts x k)) in
        l.swaps ts (t ∷ v) w s x k e (ap (λ z. run z v) (sym (same_start t i)) ∙ g)

    pub from_bound : Fits bound behind P U
    from_bound = record { goes = bound_goes; inside = l.inside; swaps = bound_swaps }
