-- A rule whose values depend on their texts keeps the law.
use Rattle.std.proofs.Common.{◌≡◌, ◌-◌, Bool, List, ◌∷◌, ◌++◌, length, take, Ok, Err, refl, sym, ◌∙◌, ap, arith, length-append}
use Rattle.std.proofs.Math.Seq.{take-append_seam}
use Rattle.grammar.specs.Reading.{Class, Reading, Rule, syntax_at, limit_at, ◌>>=◌}
use Rattle.grammar.proofs.Laws.{Law, Reads}
use Rattle.sql_tokens.specs.declared.token.Token.{Token}
use Rattle.sql_syntax.specs.CommandGrammar.{by_text}

-- what stands before the rest
taken : (ts front rest : List Token) → ts ≡ front ++ rest → take (length ts - length rest) ts ≡ front
taken ts front rest e =
    let n : length (front ++ rest) - length rest ≡ length front = omega (arith, length-append front rest) in
    rw (e, n) (take-append_seam front rest)

same_front : (front z more : List Token) → front ++ more ≡ z ++ more → z ≡ front
same_front front z more e = sym (taken (front ++ more) z more e) ∙ taken (front ++ more) front more refl

module _ {A B : Type 0} (f : List Token → A → B) (p : Rule Token A) (g : Class Token) (n : Bool) (c : Class Token) (l : Law p g n c) where
  reads : (ts : List Token) (r : Reading Token A) → Reads p.texts p.free c ts r → Reads (by_text f p).texts (by_text f p).free c ts (r >>= λ x. Ok (f (take (length ts - length x.1) ts) x.0, x.1))
  reads ts (Ok x) h =
      let e : take (length ts - length x.1) ts ≡ h.front = taken ts h.front x.1 h.whole in
      record {
        front = h.front;
        whole = h.whole;
        is = (x.0, h.is, ap (λ z. f z x.0) e);
        only = λ more z y b same k w s.
            let o = h.only more z y w.0 same k w.1 s in
            let d : z ≡ h.front = same_front h.front z more (k ∙ ap (λ v. z ++ v) o.0) in
            (o.0, w.2 ∙ (ap (λ v. f v w.0) d ∙ (ap (λ v. f h.front v) o.1 ∙ ap (λ v. f v x.0) (sym e))));
      }
  reads ts (Err (syntax_at m)) h = record {
    front = h.front;
    rest = h.rest;
    whole = h.whole;
    left_is = h.left_is;
    more = h.more;
    value = f (h.front ++ h.more) h.value;
    viable = (h.value, h.viable, refl);
    dead = λ more x y b same e w s. h.dead more x y w.0 same e w.1 s;
  }
  reads ts (Err (limit_at m)) h = (
    record {
      front = h.0.front;
      rest = h.0.rest;
      whole = h.0.whole;
      left_is = h.0.left_is;
      more = h.0.more;
      value = f (h.0.front ++ h.0.more) h.0.value;
      viable = (h.0.value, h.0.viable, refl);
      dead = λ more x y b same e w s. h.0.dead more x y w.0 same e w.1 s;
    },
    record {
      front = h.1.front;
      next = h.1.next;
      rest = h.1.rest;
      whole = h.1.whole;
      left_is = h.1.left_is;
      more = h.1.more;
      value = f (h.1.front ++ h.1.next ∷ h.1.more) h.1.value;
      alive = (h.1.value, h.1.alive, refl);
    },
  )

  pub by_text_law : Law (by_text f p) g n c
  by_text_law = record {
    shape = record {
      begins = λ t x b w. l.shape.begins t x w.0 w.1;
      empty = λ b w. l.shape.empty w.0 w.1;
      within = λ x b w. (w.0, l.shape.within x w.0 w.1, w.2);
      text = l.shape.text;
      value = f l.shape.text l.shape.value;
      sample = (l.shape.value, l.shape.sample, refl);
    };
    reads = λ ts. reads ts (p.read ts) (l.reads ts);
  }
