-- What a text is read as, or where it is refused, from the law of its rule.
use Rattle.std.proofs.Common.{◌≡◌, ℕ, Bool, true, false, cond, List, [], ◌∷◌, Option, Some, None, Result, Ok, Err, refl, sym, subst}
use Rattle.std.specs.Prelude.{MatchResult}
use Rattle.grammar.specs.Gives.{Gives, Refuses}
use Rattle.grammar.specs.Parses.{FailsAt, Parses, SameNext}
use Rattle.grammar.specs.Reading.{Class, Rule, read_whole}
use Rattle.grammar.specs.declared.refused.Refused.{Refused}
use Rattle.grammar.specs.declared.refused.Refused.TheVariants as refused
use Rattle.grammar.proofs.Laws.{Law}
use Rattle.grammar.proofs.WholeLaws.{parses}
use Rattle.sql_tokens.specs.Contents.{called}
use Rattle.sql_tokens.specs.Tokens.{tokens_of}
use Rattle.sql_tokens.specs.Words.{is_left_out}
use Rattle.sql_tokens.specs.declared.token.Token.{Token}
use Rattle.grammar.specs.Places.{token_at}
use Rattle.sql_expressions.specs.Parsed.{IsRefused, ParsesText, LimitOf, misfit, refusal_of}
use Rattle.sql_expressions.specs.declared.refused.ParseRefused.{ParseRefused}
use Rattle.sql_expressions.specs.declared.refused.ParseRefused.TheVariants as refusals

same_next : (ts : List Token) → SameNext ts ts
same_next [] = refl
same_next (t ∷ ts) = (ts, refl)

-- what is a text stops nowhere
never_fails : {A : Type 0} {P Q : List Token → A → Type 0} (ts : List Token) (left : ℕ) (x : A) → Q ts x → FailsAt P Q ts left → ⊥
never_fails {Q = Q} ts left x h f = f.no_more f.after x (same_next f.after) (subst (λ z. Q z x) f.whole h)

module _ {X A : Type 0} (limit : LimitOf) (rule : List ℕ → Rule Token A) (view : X → A) (text : List ℕ) (f : Class Token) (n : Bool) (c : Class Token) (law : Law (rule text) f n c) where
  parsed : (r : Result X Refused) → Gives view r (read_whole (rule text) (tokens_of text)) → Parses (rule text) view (tokens_of text) r
  parsed r h = parses view (tokens_of text) r law h

  pub read_as : (tokens : List Token) (x : X) → tokens ≡ tokens_of text → read_whole (rule text) tokens ≡ Ok (view x) → ParsesText limit rule view text (Ok x)
  read_as tokens x e h = parsed (Ok x) (subst (λ z. read_whole (rule text) z ≡ Ok (view x)) e h)

  is_misfit : (left : ℕ) → FailsAt (rule text).texts (rule text).free (tokens_of text) left → (r : ParseRefused) → r ≡ misfit text (token_at (tokens_of text) left) → IsRefused limit rule text r
  is_misfit left h refusals.NoMemory e = tt
  is_misfit left h (refusals.Syntax at) e = (left, h, e)
  is_misfit left h (refusals.Left word) e = (left, h, e)
  is_misfit left h (refusals.TooMany w) e = absurd (none_too_many (token_at (tokens_of text) left) e)
    where
      choose : (b : Bool) (t : Token) → refusals.TooMany w ≡ cond b (refusals.Left (called text t)) (refusals.Syntax t.start) → ⊥
      choose true t e = cc
      choose false t e = cc

      none_too_many : (o : Option Token) → refusals.TooMany w ≡ misfit text o → ⊥
      none_too_many None e = cc
      none_too_many (Some t) e = choose (is_left_out t.kind) t e

  refused_there : (e : Refused) → Refuses e (read_whole (rule text) (tokens_of text)) → ParsesText limit rule view text (Err (refusal_of limit text (tokens_of text) e))
  refused_there refused.NoMemory h = tt
  refused_there (refused.Syntax left) h = is_misfit left (parsed (Err (refused.Syntax left)) h) (misfit text (token_at (tokens_of text) left)) refl
  refused_there (refused.Limit left) h = let p = parsed (Err (refused.Limit left)) h in (left, p.0, p.1, refl)

  pub refused_as : (tokens : List Token) (e : Refused) (r : ParseRefused) → tokens ≡ tokens_of text → Refuses e (read_whole (rule text) tokens) → r ≡ refusal_of limit text tokens e → ParsesText limit rule view text (Err r)
  refused_as tokens e r i h k =
      subst (λ z. ParsesText limit rule view text (Err z)) (sym k)
      (subst (λ z. ParsesText limit rule view text (Err (refusal_of limit text z e))) (sym i) (refused_there e (subst (λ z. Refuses e (read_whole (rule text) z)) i h)))

  -- a text of a value is read as that value, unless there is no memory
  pub read_back : (x : A) → (rule text).texts (tokens_of text) x → (r : Result X ParseRefused) → ParsesText limit rule view text r → MatchResult r (λ y. view y ≡ x) (λ e. e ≡ refusals.NoMemory)
  read_back x w (Ok y) h = sym (h.only x (law.shape.within (tokens_of text) x w))
  read_back x w (Err refusals.NoMemory) h = refl
  read_back x w (Err (refusals.Syntax at)) h = absurd (never_fails (tokens_of text) h.0 x (law.shape.within (tokens_of text) x w) h.1)
  read_back x w (Err (refusals.Left word)) h = absurd (never_fails (tokens_of text) h.0 x (law.shape.within (tokens_of text) x w) h.1)
  read_back x w (Err (refusals.TooMany which)) h = absurd (never_fails (tokens_of text) h.0 x w h.1)
