-- What is wanted of one more parameter, by the kind that its first place gives it.
use Rattle.std.proofs.Common.{◌≡◌, ℕ, ◌+◌, ◌<◌, List, [], ◌∷◌, ◌++◌, Option, None, drop, length, get_or, sym, ap, ◌∙◌, append_assoc}
use Rattle.std.proofs.lemmas.List.{drop_more}
use Rattle.pg_values.specs.declared.value.Kind.{Kind}
use Rattle.sql_binder.specs.declared.arguments.Wanted.{Wanted}
use Rattle.prepared_statements.specs.Firsts.{noted, none_known}
use Rattle.prepared_statements.specs.Parameters.{wanted_for, wanted_from}
use Rattle.prepared_statements.specs.ParameterPlaces.{Place, kind_of}
use Rattle.prepared_statements.proofs.Firsts.{place_told}

pub wanted_step : (ps : List Place) (ds ks : List (Option Kind)) (i : ℕ) (d k : Option Kind) (w : Wanted) (before after all : List Wanted) → ks ≡ noted (none_known (length ds)) ps → i < length ds → d ≡ get_or ds i None →
    k ≡ get_or ks i None → w ≡ wanted_for d k → after ≡ before ++ w ∷ [] → before ++ wanted_from ps (i + 1) (drop i ds) ≡ all → after ++ wanted_from ps ((i + 1) + 1) (drop (i + 1) ds) ≡ all
wanted_step ps ds ks i d k w before after all known within is read made pushed so_far =
    let rest = wanted_from ps ((i + 1) + 1) (drop (i + 1) ds) in
    let placed : k ≡ kind_of (i + 1) ps = read ∙ (ap (λ l. get_or l i None) known ∙ place_told (length ds) i ps within) in
    let left : drop i ds ≡ d ∷ drop (i + 1) ds = drop_more ds i None within ∙ ap (λ e. e ∷ drop (i + 1) ds) (sym is) in
    let these : w ∷ rest ≡ wanted_from ps (i + 1) (drop i ds) = ap (λ v. v ∷ rest) (made ∙ ap (wanted_for d) placed) ∙ sym (ap (wanted_from ps (i + 1)) left) in
    ap (λ ws. ws ++ rest) pushed ∙ (append_assoc before (w ∷ []) rest ∙ (ap (λ ws. before ++ ws) these ∙ so_far))
