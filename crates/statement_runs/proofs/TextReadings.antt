-- What is promised of the answer to a text is what is read of it.
use Rattle.std.proofs.Common.{◌≡◌, ℕ, Bool, true, false, cond, List, Option, Some, None, Result, Ok, Err, refl, sym, ◌∙◌, ap}
use Rattle.grammar.specs.Parses.{IsOnly}
use Rattle.grammar.specs.Reading.{Class, Rule, Stop, syntax_at, limit_at, read_whole}
use Rattle.grammar.specs.declared.refused.Refused.TheVariants as stopped
use Rattle.grammar.proofs.Laws.{Law}
use Rattle.grammar.specs.Places.{token_at}
use Rattle.pg_values.specs.declared.fault.Fault.{Fault}
use Rattle.refusals.specs.Refusals.{left_out, syntax_error, too_many}
use Rattle.sql_tokens.specs.Contents.{called}
use Rattle.sql_tokens.specs.Tokens.{tokens_of}
use Rattle.sql_tokens.specs.Words.{is_left_out}
use Rattle.sql_tokens.specs.declared.token.Token.{Token}
use Rattle.sql_expressions.specs.Parsed as parsed
use Rattle.sql_expressions.proofs.ParseLaws.{read_as, refused_as}
use Rattle.sql_expressions.specs.declared.refused.ParseRefused.{ParseRefused}
use Rattle.sql_expressions.specs.declared.refused.ParseRefused.TheVariants as refusals
use Rattle.statement_runs.specs.Faults.{fault}
use Rattle.statement_runs.specs.Reading.{misfit, or_fault, read_text}
use Rattle.statement_runs.proofs.Fixed.{reads_all, stops_there, limits_there}

-- the fault of a misfit is that of its refusal
misfit_fault : (text : List ℕ) (o : Option Token) → fault (parsed.misfit text o) ≡ Some (misfit text o)
misfit_fault text None = refl
misfit_fault text (Some t) = go (is_left_out t.kind)
  where
    go : (b : Bool) → fault (cond b (refusals.Left (called text t)) (refusals.Syntax t.start)) ≡ Some (cond b (left_out (called text t)) (syntax_error t.start))
    go true = refl
    go false = refl

some_eq : {A : Type 0} (a b : A) → Some a ≡ Some b → a ≡ b
some_eq a b e = cc

module _ {A : Type 0} (limit : parsed.LimitOf) (rule : List ℕ → Rule Token A) (text : List ℕ) (f : Class Token) (n : Bool) (c : Class Token) (law : Law (rule text) f n c) where
  abbrev pub MatchRead : Result A Fault → Type 0
  MatchRead (Ok a) = IsOnly (rule text).texts (rule text).free (tokens_of text) a
  MatchRead (Err g) = (r : ParseRefused) × parsed.IsRefused limit rule text r × (fault r ≡ Some g)

  -- what was parsed was read
  pub whole_read : (a : A) → IsOnly (rule text).texts (rule text).free (tokens_of text) a → read_text limit rule text ≡ Ok a
  whole_read a h = ap (or_fault limit text) (reads_all (rule text) f n c law (tokens_of text) a h)

  misfit_read : (r : ParseRefused) (wanted : Fault) (left : ℕ) → r ≡ parsed.misfit text (token_at (tokens_of text) left) → fault r ≡ Some wanted → read_whole (rule text) (tokens_of text) ≡ Err (syntax_at left) → read_text limit rule text ≡ Err wanted
  misfit_read r wanted left e i j =
      let o = token_at (tokens_of text) left in
      let k : misfit text o ≡ wanted = some_eq (misfit text o) wanted (sym (misfit_fault text o) ∙ ap fault (sym e) ∙ i) in
      ap (or_fault limit text) j ∙ ap (λ z. Err z) k

  -- a refusal says where the reader stopped, and why
  pub refusal_read : (r : ParseRefused) (wanted : Fault) → parsed.IsRefused limit rule text r → fault r ≡ Some wanted → read_text limit rule text ≡ Err wanted
  refusal_read refusals.NoMemory wanted h e = cc
  refusal_read (refusals.Syntax at) wanted h e = misfit_read (refusals.Syntax at) wanted h.0 h.2 e (stops_there (rule text) f n c law (tokens_of text) h.0 h.1)
  refusal_read (refusals.Left word) wanted h e = misfit_read (refusals.Left word) wanted h.0 h.2 e (stops_there (rule text) f n c law (tokens_of text) h.0 h.1)
  refusal_read (refusals.TooMany which) wanted h e =
      let j = limits_there (rule text) f n c law (tokens_of text) h.0 h.1 h.2 in
      let k : too_many (limit text (tokens_of text) h.0) ≡ wanted = ap too_many (sym h.3) ∙ some_eq (too_many which) wanted e in
      ap (or_fault limit text) j ∙ ap (λ z. Err z) k

  -- and what was read is promised
  pub read_is : MatchRead (read_text limit rule text)
  read_is = go (read_whole (rule text) (tokens_of text)) refl
    where
      there : (left : ℕ) → read_whole (rule text) (tokens_of text) ≡ Err (syntax_at left) → parsed.IsRefused limit rule text (parsed.misfit text (token_at (tokens_of text) left))
      there left is = refused_as limit rule (λ (a : A). a) text f n c law (tokens_of text) (stopped.Syntax left) (parsed.misfit text (token_at (tokens_of text) left)) refl is refl

      past : (left : ℕ) → read_whole (rule text) (tokens_of text) ≡ Err (limit_at left) → parsed.IsRefused limit rule text (refusals.TooMany (limit text (tokens_of text) left))
      past left is = refused_as limit rule (λ (a : A). a) text f n c law (tokens_of text) (stopped.Limit left) (refusals.TooMany (limit text (tokens_of text) left)) refl is refl

      go : (w : Result A Stop) → read_whole (rule text) (tokens_of text) ≡ w → MatchRead (or_fault limit text w)
      go (Ok a) is = read_as limit rule (λ (a : A). a) text f n c law (tokens_of text) a refl is
      go (Err (syntax_at left)) is = (parsed.misfit text (token_at (tokens_of text) left), there left is, misfit_fault text (token_at (tokens_of text) left))
      go (Err (limit_at left)) is = (refusals.TooMany (limit text (tokens_of text) left), past left is, refl)
