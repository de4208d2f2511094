-- The way upwards, over the entries that are flagged.
use Rattle.std.proofs.Common.{◌≡◌, ℕ, zero, suc, ◌+◌, arith, ap, refl, ◌∙◌, Bool, List, [], ◌∷◌, Option, Some, None, filter, map, inl, inr}
use Rattle.std.specs.List.{find, position_or_len}
use Rattle.std.proofs.lemmas.Bool.{cases_Bool}
use Rattle.history.specs.declared.catalogue.Entry.{Entry}
use Rattle.row_router.specs.declared.path_part.PathPart.{PathPart}
use Rattle.row_router.specs.Histories.{above, is_over, is_entry, parent_in, upwards, children}
use Rattle.row_router.proofs.Order.{children_of_part}
use Rattle.part_catalog.specs.declared.stored.StoredEntry.{StoredEntry}
use Rattle.part_catalog.specs.Kept.{number_of, by_place}
use Rattle.part_catalog.specs.Stands.{is_flagged, flagged_number, is_number, flagged_above}
use Rattle.part_catalog.specs.Answers.{parent_told, number_told}
use Rattle.part_catalog.specs.Full.{tables_up}
use Rattle.part_catalog.proofs.Told.{find_filter}

-- the first that passes both tests
pub above_flagged : (flags : List Bool) (es : List Entry) (t : ℕ) → find (flagged_above flags t) es ≡ above (filter (is_flagged flags) es) t
above_flagged flags es t = find_filter (is_over t) (is_flagged flags) es

pub parent_number : (o : Option Entry) → number_told (parent_told o) ≡ parent_in o
parent_number None = refl
parent_number (Some e) = refl

-- ---- numbers and entries

filter_numbers : (flags : List Bool) (kids : List Entry) → filter (flagged_number flags) (map number_of kids) ≡ map number_of (filter (is_flagged flags) kids)
filter_numbers flags [] = refl
filter_numbers flags (e ∷ kids) = elim (cases_Bool (is_flagged flags e)) [
  | inl y ↦ rw y (ap (λ ns. e.id.number ∷ ns) (filter_numbers flags kids))
  | inr n ↦ rw n (filter_numbers flags kids)
]

position_numbers : (e : Entry) (kids : List Entry) → position_or_len (is_number e.id.number) (map number_of kids) ≡ position_or_len (is_entry e) kids
position_numbers e [] = refl
position_numbers e (x ∷ kids) = elim (cases_Bool (is_entry e x)) [
  | inl y ↦ rw y refl
  | inr n ↦ rw n (ap (λ i. 1 + i) (position_numbers e kids))
]

-- the place of an entry among those that are flagged below its table
pub place_is : (entries : List StoredEntry) (flags : List Bool) (numbers : List ℕ) (t : ℕ) (e : Entry) → numbers ≡ map number_of (children (by_place entries) t) → position_or_len (is_number e.id.number) (filter (flagged_number flags) numbers) ≡ position_or_len (is_entry e) (children (filter (is_flagged flags) (by_place entries)) t)
place_is entries flags numbers t e are =
    ap (λ ns. position_or_len (is_number e.id.number) (filter (flagged_number flags) ns)) are
    ∙ ap (position_or_len (is_number e.id.number)) (filter_numbers flags (children (by_place entries) t))
    ∙ position_numbers e (filter (is_flagged flags) (children (by_place entries) t))
    ∙ ap (position_or_len (is_entry e)) (children_of_part (is_flagged flags) (by_place entries) t)

-- ---- one step

pub upwards_none : (n : ℕ) (part : ℕ → PathPart) (up : ℕ → Option Entry) → upwards n part up None ≡ []
upwards_none zero part up = refl
upwards_none (suc n) part up = refl

pub upwards_out : (n : ℕ) (part : ℕ → PathPart) (up : ℕ → Option Entry) (o : Option ℕ) → n ≡ 0 → upwards n part up o ≡ []
upwards_out n part up None is = upwards_none n part up
upwards_out zero part up (Some t) is = refl
upwards_out (suc n) part up (Some t) is = absurd (omega arith)

pub upwards_step : (n m : ℕ) (part : ℕ → PathPart) (up : ℕ → Option Entry) (t : ℕ) → n ≡ suc m → upwards n part up (Some t) ≡ part t ∷ upwards m part up (parent_in (up t))
upwards_step n m part up t is = ap (λ k. upwards k part up (Some t)) is

pub tables_none : (n : ℕ) (up : ℕ → Option Entry) → tables_up n up None ≡ 0
tables_none zero up = refl
tables_none (suc n) up = refl

pub tables_out : (n : ℕ) (up : ℕ → Option Entry) (o : Option ℕ) → n ≡ 0 → tables_up n up o ≡ 0
tables_out n up None is = tables_none n up
tables_out zero up (Some t) is = refl
tables_out (suc n) up (Some t) is = absurd (omega arith)

pub tables_step : (n m : ℕ) (up : ℕ → Option Entry) (t : ℕ) → n ≡ suc m → tables_up n up (Some t) ≡ tables_up m up (parent_in (up t)) + 1
tables_step n m up t is = ap (λ k. tables_up k up (Some t)) is
