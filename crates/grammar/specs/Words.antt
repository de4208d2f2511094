-- What grammars say again and again, over any type of token: a word and what stands behind or before it, one of two,
-- a token or none, brackets, and lists with signs between or without.
use Rattle.std.specs.Prelude.{◌||◌, List, [], ◌∷◌, ◌++◌, Option}
use Rattle.grammar.specs.Reading.{Class, Rule, one, both, as_value, optional, behind, before}
use Rattle.grammar.specs.Repeats.{chain, many, more_of}

-- a token of the class, then p
infixr 20 ◌>>◌
abbrev pub ◌>>◌ : {T A : Type 0} → Class T → Rule T A → Rule T A
c >> p = behind c p

-- p, then a token of the class
infixr 20 ◌<<◌
abbrev pub ◌<<◌ : {T A : Type 0} → Rule T A → Class T → Rule T A
p << c = before c p

-- p, then q, with both values
infixr 20 ◌&◌
abbrev pub ◌&◌ : {T A B : Type 0} → Rule T A → Rule T B → Rule T (A × B)
p & q = both p q

-- a token of one of two classes
abbrev pub one_of : {T : Type 0} → Class T → Class T → Class T
one_of c d t = c t || d t

-- a value that the tokens say by themselves
abbrev pub means : {T A B : Type 0} → A → Rule T B → Rule T A
means {B = B} a p = as_value (λ (x : B). a) p

-- a token of the class, or none
abbrev pub maybe : {T : Type 0} → Class T → Rule T (Option T)
maybe c = optional c (one c)

-- p between a token that opens and one that closes
abbrev pub between : {T A : Type 0} → Class T → Class T → Rule T A → Rule T A
between open_sign close_sign p = open_sign >> p << close_sign

-- p { sign p }
abbrev pub only : {A : Type 0} → A → List A
only x = x ∷ []

abbrev pub snoc : {T A : Type 0} → List A → T → A → List A
snoc xs sign x = xs ++ x ∷ []

abbrev pub separated : {T A : Type 0} → Class T → Rule T A → Rule T (List A)
separated sign p = chain sign only snoc p

-- { sign p } behind those that stand there
abbrev pub more_separated : {T A : Type 0} → Class T → Rule T A → List A → Rule T (List A)
more_separated sign p xs = more_of sign snoc p xs

-- p { p }, where a token of the class says that one more comes
abbrev pub cons_of : {A : Type 0} → A × List A → List A
cons_of x = x.0 ∷ x.1

abbrev pub some : {T A : Type 0} → Class T → Rule T A → Rule T (List A)
some c p = as_value cons_of (p & many c p)
