-- What is written of a tree is a text of it, of the depth that the tree has as it is written.
use Rattle.std.proofs.Common.{◌≡◌, ℕ, suc, Bool, true, false, max, List, [], ◌∷◌, ◌++◌, inl, inr, refl, sym, ap, ◌∙◌, subst, arith, append_assoc, append-nil}
use Rattle.std.specs.Prelude.{codes}
use Rattle.grammar.specs.Reading.{one_texts, both_texts}
use Rattle.grammar.specs.Repeats.{repeats_texts, always}
use Rattle.sql_tokens.specs.Words.{is}
use Rattle.sql_tokens.specs.declared.kind.TokenKind.{TokenKind}
use Rattle.sql_tokens.specs.declared.kind.TokenKind.TheVariants as kinds
use Rattle.sql_tokens.specs.declared.token.Token.{Token}
use Rattle.sql_expressions.specs.Grammar.{any}
use Rattle.sql_expressions.specs.Levels as level
use Rattle.sql_expressions.specs.Levels.{Deep, Parts}
use Rattle.sql_ast.specs.Expressions.{Tree, Trees, no_more, and_more, leaf, call, call_of_all, negated, binary, in_list, between, is_null, inverted, all_of, any_of, listed}
use Rattle.sql_tokens.specs.Classes.{a}
use Rattle.sql_expressions.specs.Words.{name}
use Rattle.sql_ast.specs.declared.leaf.Operator.{Operator}
use Rattle.sql_ast.specs.declared.leaf.Operator.TheVariants as operator
use Rattle.sql_expressions.proofs.DepthLaws.{unary_to}
use Rattle.sql_written.specs.Marks.{Mark, blank}
use Rattle.sql_written.specs.Precedence.{Level, disjunction, conjunction, negation, nullity, sum, unary, level_of, level_of_operator, left_place, right_place, needs_parentheses}
use Rattle.sql_written.specs.Spelling as spelled
use Rattle.sql_written.specs.Writable.{HasTwo, HasOne, HasText, HaveTexts, deeper_by, depth, chain_depth}
use Rattle.sql_written.specs.Written.{and_between, behind_minus, behind_part, in_parentheses, marks, more, not_before, or_between, chain}
use Rattle.sql_written.proofs.Said.{Are, token, parted}
use Rattle.sql_written.proofs.LeafTexts.{leaf_texts, name_texts, only}
use Rattle.sql_written.proofs.TreeApart.{two_one}
use Rattle.sql_written.proofs.LevelTexts.{Of, chain_texts, chain_on, texts_at, comparison_texts, operand, minus_texts, not_texts, sign_kind, binary_at}

abbrev pub of_trees : Trees → List Tree
of_trees no_more = []
of_trees (and_more t ts) = t ∷ of_trees ts

pub listed_back : (ts : Trees) → listed (of_trees ts) ≡ ts
listed_back no_more = refl
listed_back (and_more t ts) = ap (and_more t) (listed_back ts)

module _ (text : List ℕ) where
  -- a sign and what stands behind it
  abbrev Behind : TokenKind → List Token → List Mark → Type 0
  Behind k ts ms = (from : ℕ) × (to : ℕ) × (rest : List Token) × (ts ≡ token k from to ∷ rest) × Are text rest ms

  behind_sign : (op : Operator) (ts : List Token) (ms : List Mark) → Are text ts (spelled.sign op ∷ ms) → Behind (sign_kind text op) ts ms
  behind_sign operator.Add ts ms h = (h.0, h.1, h.2, h.3, h.5)
  behind_sign operator.Subtract ts ms h = (h.0, h.1, h.2, h.3, h.5)
  behind_sign operator.Multiply ts ms h = (h.0, h.1, h.2, h.3, h.5)
  behind_sign operator.Divide ts ms h = (h.0, h.1, h.2, h.3, h.5)
  behind_sign operator.Remainder ts ms h = (h.0, h.1, h.2, h.3, h.5)
  behind_sign operator.Equal ts ms h = (h.0, h.1, h.2, h.3, h.5)
  behind_sign operator.NotEqual ts ms h = (h.0, h.1, h.2, h.3, h.5)
  behind_sign operator.Less ts ms h = (h.0, h.1, h.2, h.3, h.5)
  behind_sign operator.LessEqual ts ms h = (h.0, h.1, h.2, h.3, h.5)
  behind_sign operator.Greater ts ms h = (h.0, h.1, h.2, h.3, h.5)
  behind_sign operator.GreaterEqual ts ms h = (h.0, h.1, h.2, h.3, h.5)

  behind_blank : (e : Tree) (ts : List Token) (ms : List Mark) → Are text ts (behind_minus e ++ ms) → Are text ts ms
  behind_blank (negated _) ts ms h = h
  behind_blank (leaf _) ts ms h = h
  behind_blank (call _ _) ts ms h = h
  behind_blank (call_of_all _) ts ms h = h
  behind_blank (binary _ _ _) ts ms h = h
  behind_blank (in_list _ _ _) ts ms h = h
  behind_blank (between _ _ _ _) ts ms h = h
  behind_blank (is_null _ _) ts ms h = h
  behind_blank (inverted _) ts ms h = h
  behind_blank (all_of _) ts ms h = h
  behind_blank (any_of _) ts ms h = h

  -- calls
  called : (k : TokenKind) (f : List ℕ) (x y ts : List Token) (d : Deep) → ts ≡ x ++ y → (name text).free x (k, f) → (level.call_of (any text).expression f).texts y d → (any text).unary.texts ts d
  called k f x y ts d e n c = unary_to text ts d (inr (inl (((k, f), d), (x, y, e, n, inl c), refl)))

  call_texts : (f : List ℕ) (from to m n : ℕ) (x v y : List Token) (p : Parts) → y ≡ token kinds.OpenParenthesis from to ∷ v → v ≡ x ++ token kinds.CloseParenthesis m n ∷ [] →
      (level.arguments (any text).expression).texts x p → (level.call_of (any text).expression f).texts y (level.call_value f p)
  call_texts f from to m n x v y p d e h =
      let s = token kinds.OpenParenthesis from to in
      let t = token kinds.CloseParenthesis m n in
      let w = level.call_value f p in
      ((s, w), (s ∷ [], v, d, (refl, refl), ((w, t), (x, t ∷ [], e, inr (p, h, refl), (refl, refl)), refl)), refl)

  all_call_texts : (f : List ℕ) (from to i j m n : ℕ) (y : List Token) → y ≡ token kinds.OpenParenthesis from to ∷ token kinds.Star i j ∷ token kinds.CloseParenthesis m n ∷ [] →
      (level.call_of (any text).expression f).texts y (call_of_all f, 1)
  all_call_texts f from to i j m n y d =
      let s = token kinds.OpenParenthesis from to in
      let r = token kinds.Star i j in
      let t = token kinds.CloseParenthesis m n in
      ((s, (call_of_all f, 1)), (s ∷ [], r ∷ t ∷ [], d, (refl, refl), (((call_of_all f, 1), t), (r ∷ [], t ∷ [], refl, inl (r, (refl, refl), refl), (refl, refl)), refl)), refl)

  -- lists and chains
  abbrev pub parts_texts : TokenKind → Level → Of Parts
  parts_texts k place = chain_texts (a k) level.only_part level.add_part (texts_at text place) (texts_at text place)

  abbrev more_texts : TokenKind → Level → Parts → Of Parts
  more_texts k place p = repeats_texts always level.add_part (λ (l : Parts). both_texts (one_texts (a k)) (texts_at text place)) p

  -- marks that say one token of a kind
  record Says (k : TokenKind) (sign : List Mark) : Type 0 where
    self : is k k ≡ true
    one : (ts : List Token) (ms : List Mark) → Are text ts (sign ++ ms) → Behind k ts ms

  comma_says : Says kinds.Comma behind_part
  comma_says = record { self = refl; one = λ ts ms h. (h.0, h.1, h.2, h.3, h.5) }

  and_says : Says kinds.And and_between
  and_says = record { self = refl; one = λ ts ms h. (h.0, h.1, h.2, h.3, h.5) }

  or_says : Says kinds.Or or_between
  or_says = record { self = refl; one = λ ts ms h. (h.0, h.1, h.2, h.3, h.5) }

  ended : (p : Parts) → ◌≡◌ {A = Parts} (p.0 ++ [], max p.1 0) p
  ended p = let n : max p.1 0 ≡ p.1 = omega arith in rw (append-nil p.0, n) refl

  grown : (p : Parts) (t : Tree) (d r : ℕ) (ts : List Tree) → ◌≡◌ {A = Parts} ((p.0 ++ t ∷ []) ++ ts, max (max p.1 d) r) (p.0 ++ t ∷ ts, max p.1 (max d r))
  grown p t d r ts = let n : max (max p.1 d) r ≡ max p.1 (max d r) = omega arith in rw (append_assoc p.0 (t ∷ []) ts, n) refl

  two_value : (f : Trees → Tree) (ts : Trees) (d : ℕ) → HasTwo ts → ◌≡◌ {A = Deep} (f ts, suc d) (level.node_of (λ us. f (listed us)) (of_trees ts) d)
  two_value f no_more d h = absurd h
  two_value f (and_more t no_more) d h = absurd h
  two_value f (and_more t (and_more u ts)) d h = ap (λ us. (f (and_more t (and_more u us)), suc d)) (sym (listed_back ts))

  conjunction_of : (ts : Trees) (d : ℕ) (x : List Token) → HasTwo ts → parts_texts kinds.And negation x (of_trees ts, d) → (any text).conjunction.texts x (all_of ts, suc d)
  conjunction_of ts d x h w = ((of_trees ts, d), w, two_value all_of ts d h)

  disjunction_of : (ts : Trees) (d : ℕ) (x : List Token) → HasTwo ts → parts_texts kinds.Or conjunction x (of_trees ts, d) → (any text).expression.texts x (any_of ts, suc d)
  disjunction_of ts d x h w = ((of_trees ts, d), w, two_value any_of ts d h)

  -- IN, BETWEEN, IS NULL
  tested_by : (b : Bool) (y : List Token) (ms : List Mark) (x v : Deep) → Are text y (not_before b ++ ms) → ((z : List Token) → Are text z ms → (level.in_or_between (any text) b x).texts z v) → (level.tested (any text) x).texts y v
  tested_by true y ms x v h on = let s = token kinds.Not h.0 h.1 in inl ((s, v), (s ∷ [], h.2, h.3, (refl, refl), on h.2 h.5), refl)
  tested_by false y ms x v h on = inr (on y h)

  test_on : (x : Deep) (y z ts : List Token) (v : Deep) → ts ≡ y ++ z → (any text).sum.texts y x → (level.tested (any text) x).texts z v → (any text).test.texts ts v
  test_on x y z ts v e h k = ((x, v), (y, z, e, h, inl k), refl)

  null_by : (b : Bool) (y : List Token) → Are text y (not_before b ++ spelled.null_word ∷ []) → level.null_or_not.free y b
  null_by true y h =
      let s = token kinds.Not h.0 h.1 in
      let t = token kinds.Null h.5.0 h.5.1 in
      inl (t, ((s, t), (s ∷ [], h.2, h.3, (refl, refl), (only text kinds.Null (codes "NULL") h.2 h.5, refl)), refl), refl)
  null_by false y h = inr (token kinds.Null h.0 h.1, (only text kinds.Null (codes "NULL") y h, refl), refl)

  in_texts : (b : Bool) (x : Deep) (us : Trees) (d : ℕ) (z : List Token) → Are text z (spelled.in_word ∷ blank ∷ spelled.opening ∷ (chain behind_part disjunction us ++ spelled.closing ∷ [])) →
      ((y : List Token) → Are text y (chain behind_part disjunction us) → parts_texts kinds.Comma disjunction y (of_trees us, d)) → (level.in_or_between (any text) b x).texts z (in_list b x.0 us, suc (max x.1 d))
  in_texts b x us d z h on =
      let i = h.5 in
      let q = parted text i.2 (chain behind_part disjunction us) (spelled.closing ∷ []) i.5 in
      let s = token kinds.In h.0 h.1 in
      let o = token kinds.OpenParenthesis i.0 i.1 in
      let c = token kinds.CloseParenthesis q.4.0 q.4.1 in
      let p : Parts = (of_trees us, d) in
      let e : i.2 ≡ q.0 ++ c ∷ [] = q.2 ∙ ap (λ r. q.0 ++ r) (only text kinds.CloseParenthesis (codes ")") q.1 q.4) in
      inl (
        p,
        ((s, p), (s ∷ [], h.2, h.3, (refl, refl), ((o, p), (o ∷ [], i.2, i.3, (refl, refl), ((p, c), (q.0, c ∷ [], e, on q.0 q.3, (refl, refl)), refl)), refl)), refl),
        ap (λ vs. (in_list b x.0 vs, suc (max x.1 d))) (sym (listed_back us)),
      )

  between_texts : (b : Bool) (x y v : Deep) (z : List Token) (ys vs : List Mark) → Are text z (spelled.between_word ∷ blank ∷ (ys ++ blank ∷ spelled.and_word ∷ blank ∷ vs)) →
      ((u : List Token) → Are text u ys → (any text).sum.texts u y) → ((u : List Token) → Are text u vs → (any text).sum.texts u v) → (level.in_or_between (any text) b x).texts z (between b x.0 y.0 v.0, suc (max x.1 (max y.1 v.1)))
  between_texts b x y v z ys vs h on upto =
      let q = parted text h.2 ys (blank ∷ spelled.and_word ∷ blank ∷ vs) h.5 in
      let s = token kinds.Between h.0 h.1 in
      let t = token kinds.And q.4.0 q.4.1 in
      inr ((y, v), ((s, (y, v)), (s ∷ [], h.2, h.3, (refl, refl), (q.0, q.1, q.2, on q.0 q.3, ((t, v), (t ∷ [], q.4.2, q.4.3, (refl, refl), upto q.4.2 q.4.5), refl))), refl), refl)

  call_back : (f : List ℕ) (us : Trees) (from to m n : ℕ) (x v y : List Token) → y ≡ token kinds.OpenParenthesis from to ∷ v → v ≡ x ++ token kinds.CloseParenthesis m n ∷ [] →
      Are text x (chain behind_part disjunction us) → (HasOne us → parts_texts kinds.Comma disjunction x (of_trees us, chain_depth disjunction us)) → (level.call_of (any text).expression f).texts y (call f us, suc (chain_depth disjunction us))
  call_back f no_more from to m n x v y d e h on = call_texts f from to m n x v y ([], 0) d e (inr (h, refl))
  call_back f (and_more t us) from to m n x v y d e h on =
      let p : Parts = (of_trees (and_more t us), chain_depth disjunction (and_more t us)) in
      subst (λ (vs : Trees). (level.call_of (any text).expression f).texts y (call f (and_more t vs), suc p.1)) (listed_back us) (call_texts f from to m n x v y p d e (inl (on tt)))

  -- every tree
  mutual
    pub back : (e : Tree) → HasText e → (ts : List Token) → Are text ts (marks e) → texts_at text (level_of e) ts (e, depth e)
    back (leaf l) w ts h = leaf_texts text l w ts h
    back (call f us) w ts h =
        let p = parted text ts (spelled.name f ∷ []) (spelled.opening ∷ (chain behind_part disjunction us ++ spelled.closing ∷ [])) h in
        let n = name_texts text f w.0 p.0 p.3 in
        let q = parted text p.4.2 (chain behind_part disjunction us) (spelled.closing ∷ []) p.4.5 in
        called n.0 f p.0 p.1 ts (call f us, suc (chain_depth disjunction us)) p.2 n.1 (call_back f us p.4.0 p.4.1 q.4.0 q.4.1 q.0 p.4.2 p.1 p.4.3 (q.2 ∙ ap (λ r. q.0 ++ r) (only text kinds.CloseParenthesis (codes ")") q.1 q.4)) q.3
        (λ one. back_chain kinds.Comma behind_part comma_says disjunction us one w.1 q.0 q.3))
    back (call_of_all f) w ts h =
        let p = parted text ts (spelled.name f ∷ []) (spelled.opening ∷ spelled.star ∷ spelled.closing ∷ []) h in
        let n = name_texts text f w p.0 p.3 in
        let q = p.4.5 in
        called n.0 f p.0 p.1 ts (call_of_all f, 1) p.2 n.1
        (all_call_texts f p.4.0 p.4.1 q.0 q.1 q.5.0 q.5.1 p.1 (p.4.3 ∙ ap (λ r. token kinds.OpenParenthesis p.4.0 p.4.1 ∷ r) (q.3 ∙ ap (λ r. token kinds.Star q.0 q.1 ∷ r) (only text kinds.CloseParenthesis (codes ")") q.2 q.5))))
    back (negated e) w ts h =
        minus_texts text h.0 h.1 h.2 ts (e, deeper_by (needs_parentheses unary e) (depth e)) h.3
        (operand text unary (level_of e) e (marks e) (depth e) (needs_parentheses unary e) refl (λ us k. back e w us k) h.2 (behind_blank e h.2 _ h.5))
    back (binary op x y) w ts h =
        let p = parted text ts (in_parentheses (needs_parentheses (left_place op) x) (marks x)) _ h in
        let q = behind_sign op p.1 _ p.4 in
        let l : Deep = (x, deeper_by (needs_parentheses (left_place op) x) (depth x)) in
        let r : Deep = (y, deeper_by (needs_parentheses (right_place op) y) (depth y)) in
        subst (λ z. texts_at text (level_of_operator op) z (binary op x y, suc (max l.1 r.1))) (sym (p.2 ∙ ap (λ z. p.0 ++ z) q.3))
        (binary_at text op q.0 q.1 p.0 q.2 l r
        (operand text (left_place op) (level_of x) x (marks x) (depth x) (needs_parentheses (left_place op) x) refl (λ us k. back x w.0 us k) p.0 p.3)
        (operand text (right_place op) (level_of y) y (marks y) (depth y) (needs_parentheses (right_place op) y) refl (λ us k. back y w.1 us k) q.2 q.4))
    back (in_list b x us) w ts h =
        let p = parted text ts (in_parentheses (needs_parentheses sum x) (marks x)) _ h in
        let l : Deep = (x, deeper_by (needs_parentheses sum x) (depth x)) in
        test_on l p.0 p.1 ts (in_list b x us, suc (max l.1 (chain_depth disjunction us))) p.2
        (operand text sum (level_of x) x (marks x) (depth x) (needs_parentheses sum x) refl (λ vs k. back x w.0 vs k) p.0 p.3)
        (tested_by b p.1 (spelled.in_word ∷ blank ∷ spelled.opening ∷ (chain behind_part disjunction us ++ spelled.closing ∷ [])) l (in_list b x us, suc (max l.1 (chain_depth disjunction us))) p.4
        (λ z k. in_texts b l us (chain_depth disjunction us) z k (λ y i. back_chain kinds.Comma behind_part comma_says disjunction us w.1 w.2 y i)))
    back (between b x from to) w ts h =
        let p = parted text ts (in_parentheses (needs_parentheses sum x) (marks x)) _ h in
        let l : Deep = (x, deeper_by (needs_parentheses sum x) (depth x)) in
        let y : Deep = (from, deeper_by (needs_parentheses sum from) (depth from)) in
        let v : Deep = (to, deeper_by (needs_parentheses sum to) (depth to)) in
        let ys = in_parentheses (needs_parentheses sum from) (marks from) in
        let vs = in_parentheses (needs_parentheses sum to) (marks to) in
        test_on l p.0 p.1 ts (between b x from to, suc (max l.1 (max y.1 v.1))) p.2
        (operand text sum (level_of x) x (marks x) (depth x) (needs_parentheses sum x) refl (λ us k. back x w.0 us k) p.0 p.3)
        (tested_by b p.1 (spelled.between_word ∷ blank ∷ (ys ++ blank ∷ spelled.and_word ∷ blank ∷ vs)) l (between b x from to, suc (max l.1 (max y.1 v.1))) p.4
        (λ z k. between_texts b l y v z ys vs k
        (λ u i. operand text sum (level_of from) from (marks from) (depth from) (needs_parentheses sum from) refl (λ us j. back from w.1 us j) u i)
        (λ u i. operand text sum (level_of to) to (marks to) (depth to) (needs_parentheses sum to) refl (λ us j. back to w.2 us j) u i)))
    back (is_null b x) w ts h =
        let p = parted text ts (in_parentheses (needs_parentheses nullity x) (marks x)) _ h in
        let l : Deep = (x, deeper_by (needs_parentheses nullity x) (depth x)) in
        subst (λ z. texts_at text nullity z (is_null b x, suc l.1)) (sym (p.2 ∙ ap (λ z. p.0 ++ z) p.4.3))
        (chain_on (a kinds.Is) level.itself level.null_join (comparison_texts text) level.null_or_not.free p.0 p.4.2 l (token kinds.Is p.4.0 p.4.1) b refl
        (operand text nullity (level_of x) x (marks x) (depth x) (needs_parentheses nullity x) refl (λ us k. back x w us k) p.0 p.3) (null_by b p.4.2 p.4.5))
    back (inverted e) w ts h =
        not_texts text h.0 h.1 h.2 ts (e, deeper_by (needs_parentheses negation e) (depth e)) h.3
        (operand text negation (level_of e) e (marks e) (depth e) (needs_parentheses negation e) refl (λ us k. back e w us k) h.2 h.5)
    back (all_of us) w ts h = conjunction_of us (chain_depth negation us) ts w.0 (back_chain kinds.And and_between and_says negation us (two_one us w.0) w.1 ts h)
    back (any_of us) w ts h = disjunction_of us (chain_depth conjunction us) ts w.0 (back_chain kinds.Or or_between or_says conjunction us (two_one us w.0) w.1 ts h)

    back_chain : (k : TokenKind) (sign : List Mark) → Says k sign → (place : Level) (us : Trees) → HasOne us → HaveTexts us → (ts : List Token) → Are text ts (chain sign place us) → parts_texts k place ts (of_trees us, chain_depth place us)
    back_chain k sign s place no_more one w ts h = absurd one
    back_chain k sign s place (and_more t us) one w ts h =
        let p = parted text ts (in_parentheses (needs_parentheses place t) (marks t)) (more sign place us) h in
        let x : Deep = (t, deeper_by (needs_parentheses place t) (depth t)) in (
          (x, (t ∷ of_trees us, max x.1 (chain_depth place us))),
          (
            p.0,
            p.1,
            p.2,
            operand text place (level_of t) t (marks t) (depth t) (needs_parentheses place t) refl (λ vs i. back t w.0 vs i) p.0 p.3,
            back_more k sign s place us w.1 (level.only_part x) p.1 p.4,
          ),
          refl,
        )

    back_more : (k : TokenKind) (sign : List Mark) → Says k sign → (place : Level) (us : Trees) → HaveTexts us → (p : Parts) (ts : List Token) → Are text ts (more sign place us) → more_texts k place p ts (p.0 ++ of_trees us, max p.1 (chain_depth place us))
    back_more k sign s place no_more w p ts h = ([], (h, ended p))
    back_more k sign s place (and_more t us) w p ts h =
        let q = s.one ts (in_parentheses (needs_parentheses place t) (marks t) ++ more sign place us) h in
        let r = parted text q.2 (in_parentheses (needs_parentheses place t) (marks t)) (more sign place us) q.4 in
        let x : Deep = (t, deeper_by (needs_parentheses place t) (depth t)) in
        let on = back_more k sign s place us w.1 (level.add_part p (token k q.0 q.1) x) r.1 r.4 in
        let c = token k q.0 q.1 in
        subst (λ (v : Parts). more_texts k place p ts v) (grown p t x.1 (chain_depth place us) (of_trees us)) (
          (c, x) ∷ on.0,
          (
            refl,
            c ∷ r.0,
            r.1,
            q.3 ∙ ap (λ z. c ∷ z) r.2,
            (c ∷ [], r.0, refl, (refl, s.self), operand text place (level_of t) t (marks t) (depth t) (needs_parentheses place t) refl (λ vs i. back t w.0 vs i) r.0 r.3),
            on.1,
          ),
        )
