-- Of a path only its CHECKs are asked of a row that comes from above, and nothing where no CHECK was kept.
use Rattle.std.proofs.Common.{◌≡◌, ℕ, refl, sym, subst, ap, false, List, [], ◌∷◌, ◌∙◌, Option, Some, None, map, length}
use Rattle.std.specs.Prelude.{filter, if◌then◌else◌}
use Rattle.std.specs.List.{All, list_any}
use Rattle.std.proofs.lemmas.List.Elements.{All-head, All-tail, All-nil, All-cons}
use Rattle.pg_values.specs.declared.ids.TableNo.{TableNo}
use Rattle.pg_values.specs.declared.value.Value.{Value}
use Rattle.history.specs.declared.catalogue.Check.{Check}
use Rattle.history.specs.Catalogue.{tables_made, checks_kept}
use Rattle.history.specs.History.{History, tx_events, catalogue_events}
use Rattle.history.specs.Presence.{entries_present, checks_of, is_check_of}
use Rattle.row_router.specs.declared.path_part.PathPart.{PathPart}
use Rattle.row_router.specs.Histories.{path_of, part_of, above, kept_of, parent_in}
use Rattle.row_router.specs.declared.path.PathTest.TheVariants.{Checks}
use Rattle.row_router.specs.Paths.{refused, check_refuses, PartFits}
use Rattle.part_catalog.specs.Answers.{without_place}
use Rattle.row_change.specs.Placing.{IsPartNumbered}
use Rattle.row_change.specs.Targets.{HasChecksOf}
use Rattle.row_change.proofs.Made.{upwards_all, IsHere}

abbrev IsUnchecked : PathPart → Type 0
IsUnchecked p = p.checks ≡ []

none_refuse : (row : List Value) (path : List PathPart) → All IsUnchecked path → refused Checks row path ≡ None
none_refuse row [] all = refl
none_refuse row (p ∷ ps) all =
    let here : list_any (check_refuses row) p.checks ≡ false = ap (λ cs. list_any (check_refuses row) cs) (All-head IsUnchecked p ps all) in
    ap (λ b. if b then Some p.table else refused Checks row ps) here ∙ none_refuse row ps (All-tail IsUnchecked p ps all)

none_of : (h : History) (session t : ℕ) → checks_kept (catalogue_events h) ≡ [] → map kept_of (checks_of h session t) ≡ []
none_of h session t none = ap (λ (cs : List Check). map kept_of (filter (is_check_of (tx_events h) session t) cs)) none

path_is : (h : History) (session t : ℕ) → checks_kept (catalogue_events h) ≡ [] → All IsUnchecked (path_of h session t)
unfolding Rattle.row_router.specs.Histories.path_of
path_is h session t none =
    upwards_all (λ n. Unit {0}) IsUnchecked (part_of (tables_made (catalogue_events h)) (entries_present h session) (checks_of h session)) (above (entries_present h session))
    (λ n here. goes (parent_in (above (entries_present h session) n))) (λ n here. none_of h session n none) 8 (Some t) tt
  where
    goes : (o : Option ℕ) → IsHere (λ n. Unit {0}) o
    goes None = tt
    goes (Some n) = tt

empty : {T : Type 0} (xs : List T) → 0 ≡ length xs → xs ≡ []
empty [] is = refl
empty (x ∷ xs) is = absurd (cc)

pub nothing_asked : (h : History) (session t count : ℕ) → count ≡ 0 → count ≡ length (checks_kept (catalogue_events h)) → HasChecksOf (path_of h session t) []
nothing_asked h session t count is kept =
    let all = path_is h session t (empty (checks_kept (catalogue_events h)) (sym is ∙ kept)) in
    record {
      refuses = λ row. sym (none_refuse row (path_of h session t) all);
      fits = λ row fit. All-nil (PartFits row);
      numbered = λ n made. All-nil (IsPartNumbered n);
    }

-- ---- a path with its CHECKs alone

same_refuse : (row : List Value) (path : List PathPart) → refused Checks row (map without_place path) ≡ refused Checks row path
same_refuse row [] = refl
same_refuse row (p ∷ ps) = ap (λ (o : Option TableNo). if list_any (check_refuses row) p.checks then Some p.table else o) (same_refuse row ps)

less_fit : (row : List Value) (path : List PathPart) → All (PartFits row) path → All (PartFits row) (map without_place path)
less_fit row [] all = All-nil (PartFits row)
less_fit row (p ∷ ps) all = All-cons (PartFits row) (without_place p) (map without_place ps) (tt, (All-head (PartFits row) p ps all).1) (less_fit row ps (All-tail (PartFits row) p ps all))

same_tables : (n : ℕ) (path : List PathPart) → All (IsPartNumbered n) path → All (IsPartNumbered n) (map without_place path)
same_tables n [] all = All-nil (IsPartNumbered n)
same_tables n (p ∷ ps) all = All-cons (IsPartNumbered n) (without_place p) (map without_place ps) (All-head (IsPartNumbered n) p ps all) (same_tables n ps (All-tail (IsPartNumbered n) p ps all))

checks_alone : (path : List PathPart) → HasChecksOf path (map without_place path)
checks_alone path = record {
  refuses = λ row. same_refuse row path;
  fits = λ row fit. less_fit row path fit;
  numbered = λ n made. same_tables n path made;
}

pub checks_asked : (path parts : List PathPart) → parts ≡ map without_place path → HasChecksOf path parts
checks_asked path parts is = subst (HasChecksOf path) (sym is) (checks_alone path)
