-- The law of each production of the worked example.
use Rattle.std.proofs.Common.{◌≡◌, Bool, true, false, ◌&&◌, ◌||◌, not, List, [], ◌∷◌, refl, lit<}
use Rattle.grammar.specs.declared.example.SampleKind.{SampleKind}
use Rattle.grammar.specs.declared.example.SampleKind.TheVariants as kinds
use Rattle.grammar.specs.declared.example.Token.{Token}
use Rattle.grammar.specs.declared.example.Entry.TheVariants.{Name}
use Rattle.grammar.specs.Reading.{Class}
use Rattle.grammar.specs.KindClasses.{every}
use Rattle.grammar.specs.Repeats.{second_of}
use Rattle.grammar.specs.Example as grammar
use Rattle.grammar.proofs.Laws.{Law, Disjoint, Within}
use Rattle.grammar.proofs.Chain.{none, with}
use Rattle.grammar.proofs.KindClasses as sides
use Rattle.grammar.proofs.Build.{token, empty, valued, wide, maybe, alt, then_by, chained_by}

-- Every kind, a proof that there is no other, and a token of each.
abbrev kinds_list : List SampleKind
kinds_list = kinds.Comma ∷ kinds.Name ∷ kinds.Each ∷ kinds.Number ∷ []

complete : (p : SampleKind → Bool) → every p kinds_list ≡ true → (k : SampleKind) → p k ≡ true
complete p h kinds.Comma = sides.every_at p kinds_list kinds.Comma 0 h (lit< tt)
complete p h kinds.Name = sides.every_at p kinds_list kinds.Comma 1 h (lit< tt)
complete p h kinds.Each = sides.every_at p kinds_list kinds.Comma 2 h (lit< tt)
complete p h kinds.Number = sides.every_at p kinds_list kinds.Comma 3 h (lit< tt)

abbrev sample : SampleKind → Token
sample k = record { kind = k; value = 0 }

-- The side conditions, by computation over the kinds.
apart : (f c : Class Token) → ((t : Token) → (f t && c t) ≡ (f (sample t.kind) && c (sample t.kind))) → every (λ k. not (f (sample k) && c (sample k))) kinds_list ≡ true → Disjoint f c
apart f c same h = sides.apart grammar.kind_of kinds_list complete sample f c same h

within : (f g : Class Token) → ((t : Token) → (not (f t) || g t) ≡ (not (f (sample t.kind)) || g (sample t.kind))) → every (λ k. not (f (sample k)) || g (sample k)) kinds_list ≡ true → Within f g
within f g same h = sides.within grammar.kind_of kinds_list complete sample f g same h

-- What begins an entry.
abbrev begins_entry : Class Token
begins_entry t = grammar.is_name t || grammar.is_number t

-- A number behind "each", or nothing: one pair of classes bounds both.
behind_law : (b : Bool) (t : Token) → Law (grammar.behind_if b t) grammar.is_number true none
behind_law true t = maybe (valued grammar.each_of (token _ (sample kinds.Number) refl))
behind_law false t = wide (empty (Name t.value)) (λ k h. cc) (λ k h. h)

entry_law : Law grammar.entry begins_entry false grammar.is_number
entry_law =
    wide
    (alt grammar.is_name
    (valued second_of (then_by (token grammar.is_name (sample kinds.Name) refl) (λ t. behind_law (grammar.each t.kind) t) (λ k h. refl)))
    (within _ _ (λ t. refl) refl)
    (valued grammar.number_of (token grammar.is_number (sample kinds.Number) refl))
    (apart _ _ (λ t. refl) refl))
    (within _ _ (λ t. refl) refl)
    (within _ _ (λ t. refl) refl)

pub list_law : Law grammar.entry_list begins_entry false (with grammar.is_number grammar.is_comma)
list_law =
    wide (chained_by grammar.is_comma (sample kinds.Comma) refl grammar.has_room grammar.only grammar.snoc entry_law (λ _. entry_law) (apart _ _ (λ t. refl) refl))
    (within _ _ (λ t. refl) refl)
    (within _ _ (λ t. refl) refl)
