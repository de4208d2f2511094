-- Rules that repeat: { p }, and { sign p } behind a value that stands there, which is joined from the
-- left with each sign and text that is read. A guard may tell it to stop there.
use Rattle.std.specs.Prelude.{◌≡◌, ℕ, zero, suc, Bool, true, false, List, [], ◌∷◌, ◌++◌, length, Ok, Err, if◌then◌else◌}
use Rattle.grammar.specs.Reading.{Class, Reading, limit_at, given, ◌>>=◌, Rule, begins_in, read_one, one, both, follow_texts, value_texts}

-- Any number of texts, one after another.
abbrev pub many_texts : {T A : Type 0} → (List T → A → Type 0) → List A → List T → Type 0
many_texts p [] ts = ts ≡ []
many_texts {T} p (a ∷ as') ts = (x : List T) × (y : List T) × (ts ≡ x ++ y) × p x a × many_texts p as' y

unfoldable pub read_many : {T A : Type 0} → Class T → (List T → Reading T A) → ℕ → List T → Reading T (List A)
read_many c p zero ts = Ok ([], ts)
read_many c p (suc n) ts = if begins_in c ts then (p ts >>= λ x. read_many c p n x.1 >>= λ xs. Ok (x.0 ∷ xs.0, xs.1)) else Ok ([], ts)

-- { p }
abbrev pub many : {T A : Type 0} → Class T → Rule T A → Rule T (List A)
many c p = record {
  texts = λ ts as'. many_texts p.texts as' ts;
  free = λ ts as'. many_texts p.free as' ts;
  read = λ ts. read_many c p.read (length ts) ts;
}

-- What stands before, joined with one more sign and the value behind it.
abbrev pub step_to : {T A B : Type 0} → (A → T → B → A) → A → T × B → A
step_to join l x = join l x.0 x.1

-- The texts of the signs and values xs behind l, taken together as a; each where the guard lets what
-- stands before it grow.
abbrev pub all_repeats : {T A B : Type 0} → (A → Bool) → (A → T → B → A) → (A → List T → T × B → Type 0) → A → List (T × B) → List T → A → Type 0
all_repeats guard join P l [] ts a = (ts ≡ []) × (a ≡ l)
all_repeats {T} guard join P l (x ∷ xs) ts a = (guard l ≡ true) × (u : List T) × (v : List T) × (ts ≡ u ++ v) × P l u x × all_repeats guard join P (step_to join l x) xs v a

abbrev pub repeats_texts : {T A B : Type 0} → (A → Bool) → (A → T → B → A) → (A → List T → T × B → Type 0) → A → List T → A → Type 0
repeats_texts {T} {A} {B} guard join P l ts a = (xs : List (T × B)) × all_repeats guard join P l xs ts a

-- A guard that lets everything grow.
abbrev pub always : {A : Type 0} → A → Bool
always a = true

-- A sign and one more text behind it, joined to what stands before; or false, and nothing read.
unfoldable pub read_step : {T A B : Type 0} → Class T → (A → Bool) → (A → T → B → A) → (A → List T → Reading T B) → A → List T → Reading T (Bool × A)
read_step sign guard join p l ts =
    if begins_in sign ts
    then (if guard l then (read_one sign ts >>= λ t. p l t.1 >>= λ x. given (true, join l t.0 x.0) x.1) else Err (limit_at (length ts)))
    else given (false, l) ts

-- Such steps, until one reads nothing.
unfoldable pub read_repeats : {T A B : Type 0} → Class T → (A → Bool) → (A → T → B → A) → (A → List T → Reading T B) → ℕ → A → List T → Reading T A
read_repeats sign guard join p zero l ts = given l ts
read_repeats sign guard join p (suc n) l ts = read_step sign guard join p l ts >>= λ x. if x.0.0 then read_repeats sign guard join p n x.0.1 x.1 else given x.0.1 x.1

-- { sign p } behind l, each only where the guard lets what stands before grow; p may depend on that.
abbrev pub repeats : {T A B : Type 0} → Class T → (A → Bool) → (A → T → B → A) → (A → Rule T B) → A → Rule T A
repeats sign guard join p l = record {
  texts = repeats_texts guard join (λ a. (both (one sign) (p a)).texts) l;
  free = repeats_texts always join (λ a. (both (one sign) (p a)).free) l;
  read = λ ts. read_repeats sign guard join (λ a. (p a).read) (length ts) l ts;
}

-- { sign p } behind l
abbrev pub more_of : {T A B : Type 0} → Class T → (A → T → B → A) → Rule T B → A → Rule T A
more_of sign join p l = repeats sign always join (λ _. p) l

-- The second of two values.
abbrev pub second_of : {A B : Type 0} → A × B → B
second_of x = x.1

-- q { sign p }, taken together from the left, each more only where the guard lets what stands before grow.
abbrev pub chain_by : {T A B C : Type 0} → Class T → (A → Bool) → (C → A) → (A → T → B → A) → Rule T C → (A → Rule T B) → Rule T A
chain_by sign guard first join q p = record {
  texts = value_texts second_of (follow_texts q.texts (λ c. (repeats sign guard join p (first c)).texts));
  free = value_texts second_of (follow_texts q.free (λ c. (repeats sign guard join p (first c)).free));
  read = λ ts. q.read ts >>= λ x. (repeats sign guard join p (first x.0)).read x.1;
}

-- q { sign p }
abbrev pub chain_after : {T A B C : Type 0} → Class T → (C → A) → (A → T → B → A) → Rule T C → Rule T B → Rule T A
chain_after sign first join q p = chain_by sign always first join q (λ _. p)

-- p { sign p }
abbrev pub chain : {T A B : Type 0} → Class T → (B → A) → (A → T → B → A) → Rule T B → Rule T A
chain sign first join p = chain_after sign first join p p
