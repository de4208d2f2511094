-- How calls end.
use Rattle.std.proofs.Common.{◌≡◌, inl, inr, ℕ, List, [], Result, Ok, Err, IfOk, OnOk, MatchResult, rules, refl, sym, subst, ◌∙◌}
use Rattle.std.proofs.KnownBytes.{Appends-nil}
use Rattle.pg_values.specs.declared.outside.Sink.{Ghosts}
use Rattle.schedule.proofs.Pieces.{nothing_yet, all_of_it}
use Rattle.script_program.specs.declared.ended.Ended.{Ended}
use Rattle.script_program.specs.declared.ended.Ended.TheVariants.{Done, ScriptRefused, NoMemory}
use Rattle.script_program.specs.Outcomes.{Outcome, refusal, IsTold, Takes, TakesFirst, Fails, Ends, Written, CutOnOut, CutOnErr, Stopped}

module _ {K : Type 0} (k : Ghosts K) (sink : K) where
  -- nothing was written
  pub nothing : Takes k sink sink []
  nothing = (Appends-nil (k.taken sink), refl)

  pub nothing_of : (bytes : List ℕ) → TakesFirst k sink sink bytes
  nothing_of bytes = (nothing_yet (k.taken sink) bytes, refl)

pub always : {T F : Type 0} (r : Result T F) (A : Type 0) → A → OnOk r A
always (Ok x) A a = a
always (Err e) A a = search rules

module _ {K E : Type 0} (k : Ghosts K) (e : Ghosts E) (A : Outcome → Type 0) (P : List ℕ → Type 0) (out out' : K) (err err' : E) (r : Ended) where
  -- an outcome has come, and what it has on `out` was written
  pub told : (o : Outcome) → A o → Takes k out out' o.out → IsTold e err err' o r → Ends k e A P out out' err err' r
  told o a t (inl h) = Written o a h.0 t h.1
  told o a t (inr h) = CutOnErr o a h.0 t h.1

  -- .. that is written on `out` at once
  pub told_on_out : (o : Outcome) → A o → P o.out → o.ended ≡ Done → o.err ≡ [] → IsTold k out out' (refusal Done o.out) r → Takes e err err' [] → Ends k e A P out out' err err' r
  told_on_out o a p done none (inl h) t = Written o a (h.0 ∙ sym done) h.1 (subst (Takes e err err') (sym none) t)
  told_on_out o a p done none (inr h) t = CutOnOut o.out p h.0 h.1 t

  -- .. where memory may run out before its line is made
  pub refused : {T F : Type 0} (line : Result T F) (bytes : T → List ℕ) (o : Outcome) → OnOk line (A o) → P o.out → o.ended ≡ ScriptRefused → Takes k out out' o.out → IfOk line (λ l. bytes l ≡ o.err)
      → MatchResult line (λ l. IsTold e err err' (refusal ScriptRefused (bytes l)) r) (λ _. (r ≡ NoMemory) × Takes e err err' []) → Ends k e A P out out' err err' r
  refused (Ok l) bytes o a p is t same h = told o a t (is_told (bytes l) o is same h)
    where
      is_told : (line : List ℕ) (o : Outcome) → o.ended ≡ ScriptRefused → line ≡ o.err → IsTold e err err' (refusal ScriptRefused line) r → IsTold e err err' o r
      is_told line o is same (inl h) = inl (h.0 ∙ sym is, subst (Takes e err err') same h.1)
      is_told line o is same (inr h) = inr (h.0, subst (Fails e err err') same h.1)
  refused (Err x) bytes o a p is t same h = Stopped o.out p h.0 (all_of_it (k.taken out) (k.taken out') o.out t.0, t.1) h.1

  -- what ends so ends so of more outcomes
  pub ends_more : (B : Outcome → Type 0) (Q : List ℕ → Type 0) → ((o : Outcome) → A o → B o) → ((bytes : List ℕ) → P bytes → Q bytes) → Ends k e A P out out' err err' r → Ends k e B Q out out' err err' r
  ends_more B Q f g (Written o a is t u) = Written o (f o a) is t u
  ends_more B Q f g (CutOnOut bytes p is t u) = CutOnOut bytes (g bytes p) is t u
  ends_more B Q f g (CutOnErr o a is t u) = CutOnErr o (f o a) is t u
  ends_more B Q f g (Stopped bytes p is t u) = Stopped bytes (g bytes p) is t u
