-- A fact about every kind, by computation over their list; and the side conditions of laws, which are such facts.
use Rattle.std.proofs.Common.{◌≡◌, ℕ, zero, suc, ◌<◌, lit<, arith, length, get_or, Bool, true, false, ◌&&◌, ◌||◌, not, List, [], ◌∷◌, refl}
use Rattle.grammar.specs.KindClasses.{every}
use Rattle.grammar.specs.Reading.{Class}
use Rattle.grammar.proofs.KindClasses as sides
use Rattle.grammar.proofs.Laws.{Disjoint, Within}
use Rattle.spec_reader.specs.Words.{kinds_list}
use Rattle.spec_reader.specs.declared.kind.ScriptTokenKind.{ScriptTokenKind}
use Rattle.spec_reader.specs.declared.kind.ScriptTokenKind.TheVariants as kinds
use Rattle.spec_reader.specs.declared.token.Token.{Token}

and_left : (a b : Bool) → (a && b) ≡ true → a ≡ true
and_left true b h = refl
and_left false b h = cc

and_right : (a b : Bool) → (a && b) ≡ true → b ≡ true
and_right true b h = h
and_right false b h = cc

every_at : (p : ScriptTokenKind → Bool) (ks : List ScriptTokenKind) (n : ℕ) → every p ks ≡ true → n < length ks → p (get_or ks n kinds.Name) ≡ true
every_at p [] n h g = absurd (omega arith)
every_at p (k ∷ ks) zero h g = and_left (p k) (every p ks) h
every_at p (k ∷ ks) (suc n) h g = every_at p ks n (and_right (p k) (every p ks) h) (omega arith)

pub each_kind : (p : ScriptTokenKind → Bool) → every p kinds_list ≡ true → (k : ScriptTokenKind) → p k ≡ true
each_kind p h kinds.Setup = every_at p kinds_list 0 h (lit< tt)
each_kind p h kinds.Teardown = every_at p kinds_list 1 h (lit< tt)
each_kind p h kinds.Session = every_at p kinds_list 2 h (lit< tt)
each_kind p h kinds.Step = every_at p kinds_list 3 h (lit< tt)
each_kind p h kinds.Permutation = every_at p kinds_list 4 h (lit< tt)
each_kind p h kinds.Notices = every_at p kinds_list 5 h (lit< tt)
each_kind p h kinds.Name = every_at p kinds_list 6 h (lit< tt)
each_kind p h kinds.QuotedName = every_at p kinds_list 7 h (lit< tt)
each_kind p h kinds.Block = every_at p kinds_list 8 h (lit< tt)
each_kind p h kinds.Number = every_at p kinds_list 9 h (lit< tt)
each_kind p h kinds.OpenParenthesis = every_at p kinds_list 10 h (lit< tt)
each_kind p h kinds.CloseParenthesis = every_at p kinds_list 11 h (lit< tt)
each_kind p h kinds.Comma = every_at p kinds_list 12 h (lit< tt)
each_kind p h kinds.Star = every_at p kinds_list 13 h (lit< tt)
each_kind p h kinds.Fault = every_at p kinds_list 14 h (lit< tt)

-- a token of each kind
abbrev pub sample : ScriptTokenKind → Token
sample k = record { kind = k; start = 0; end = 0 }

abbrev kind_of : Token → ScriptTokenKind
kind_of t = t.kind

complete : (p : ScriptTokenKind → Bool) → every p kinds_list ≡ true → (k : ScriptTokenKind) → p k ≡ true
complete p h k = each_kind p h k

pub apart : (f c : Class Token) → ((t : Token) → (f t && c t) ≡ (f (sample t.kind) && c (sample t.kind))) → every (λ k. not (f (sample k) && c (sample k))) kinds_list ≡ true → Disjoint f c
apart f c same h = sides.apart kind_of kinds_list complete sample f c same h

pub within : (f g : Class Token) → ((t : Token) → (not (f t) || g t) ≡ (not (f (sample t.kind)) || g (sample t.kind))) → every (λ k. not (f (sample k)) || g (sample k)) kinds_list ≡ true → Within f g
within f g same h = sides.within kind_of kinds_list complete sample f g same h
