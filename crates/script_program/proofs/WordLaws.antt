-- What is read from the parts of a call, from its matches and from its words.
use Rattle.std.proofs.Common.{◌≡◌, ◌∙◌, ◌<◌, ◌^◌, ◌&&◌, ◌||◌, ℕ, ℤ, Bool, true, false, true≢false, List, [], ◌∷◌, length, nat_lt, codes, Option, Some, None, Result, Ok, Err, refl, sym, ap, subst, lt-ltb, ltb-true}
use Rattle.std.specs.Prelude.{if◌then◌else◌}
use Rattle.std.specs.Char.{digit_value}
use Rattle.std.specs.List.{list_all}
use Rattle.std.specs.Result.{result_ok}
use Rattle.std.specs.Str.Parse.{AllDigits, ParsesUnsigned, digits_value, without_leading_plus}
use Rattle.clap.proofs.WalkLemmas.{both}
use Rattle.clap.specs.Faults.{fault_of}
use Rattle.clap.specs.Kinds.{Kinds}
use Rattle.clap.specs.Simple.{matches_of}
use Rattle.clap.specs.ValueTests.{is_numeral}
use Rattle.clap.specs.Walk.{Row, Text, first_of, is_empty, one_of}
use Rattle.script_program.specs.CommandLine.{IsRead, asked_by, asked_in, asked_of, command_line, day_in, flag_in, mode_in, seed_in, seed_named}
use Rattle.script_program.specs.declared.asked.Asked.{Asked}
use Rattle.script_program.specs.declared.asked.Mode.{Mode}
use Rattle.script_program.specs.declared.asked.WordsRefused.{WordsRefused}
use Rattle.script_program.specs.declared.asked.WordsRefused.TheVariants.{Usage, NoMemory}

-- ---- a seed

digits_pass : (ds : List ℕ) → AllDigits 10 ds → list_all (λ d. nat_lt (digit_value d) 10) ds ≡ true
digits_pass [] h = refl
digits_pass (d ∷ ds) h = rw (lt-ltb (digit_value d) 10 h.0) (digits_pass ds h.1)

digits_from : (ds : List ℕ) → list_all (λ d. nat_lt (digit_value d) 10) ds ≡ true → AllDigits 10 ds
digits_from [] e = tt
digits_from (d ∷ ds) e =
    let parts = both _ _ e in
    (ltb-true _ _ parts.0, digits_from ds parts.1)

-- what `parse` reads
pub seed_parsed : {E : Type 0} (text : Text) (r : Result ℕ E) → ParsesUnsigned 64 10 text r → seed_named text ≡ result_ok r
seed_parsed text (Ok n) h =
    let ds = without_leading_plus text in
    rw (lt-ltb 0 (length ds) h.0.0.0, digits_pass ds h.0.0.1, lt-ltb (digits_value 10 ds) (2 ^ 64) h.0.1) (ap Some (sym h.1))
seed_parsed text (Err e) h = go (is_numeral (without_leading_plus text) && nat_lt (digits_value 10 (without_leading_plus text)) (2 ^ 64)) refl
  where
    go : (b : Bool) → (is_numeral (without_leading_plus text) && nat_lt (digits_value 10 (without_leading_plus text)) (2 ^ 64)) ≡ b → seed_named text ≡ None
    go false t = ap (λ p. if p then Some (digits_value 10 (without_leading_plus text)) else None) t
    go true t =
        let outer = both _ _ t in
        let inner = both _ _ outer.0 in
        absurd (h ((ltb-true _ _ inner.0, digits_from (without_leading_plus text) inner.1), ltb-true _ _ outer.1))

-- ---- the parts

-- what an error says of a part it says of the whole, where that is nothing without the part
error_told : {A B : Type 0} (part : Option A) (whole : Option B) (e : WordsRefused) → (part ≡ None → whole ≡ None)
    → IsRead {T = A} part (Err e) → IsRead {T = B} whole (Err e)
error_told part whole Usage none h = none h
error_told part whole NoMemory none h = tt

module _ (rows : List Row) (mode today seed : Option Text) (mode_is : mode ≡ first_of (codes "mode") rows) (today_is : today ≡ first_of (codes "today") rows)
    (seed_is : seed ≡ first_of (codes "seed") rows) where
  by_parts : asked_in rows ≡ asked_of (mode_in mode) (day_in today) (flag_in (one_of (codes "trail") rows)) (seed_in seed)
  by_parts = λ i. asked_of (mode_in (sym mode_is i)) (day_in (sym today_is i)) (flag_in (one_of (codes "trail") rows)) (seed_in (sym seed_is i))

  pub mode_refused : (e : WordsRefused) → IsRead (mode_in mode) (Err e) → IsRead (asked_in rows) (Err e)
  mode_refused e = error_told (mode_in mode) (asked_in rows) e
      (λ none. by_parts ∙ ap (λ m. asked_of m (day_in today) (flag_in (one_of (codes "trail") rows)) (seed_in seed)) none)

  pub day_refused : (m : Mode) (e : WordsRefused) → mode_in mode ≡ Some m → IsRead (day_in today) (Err e) → IsRead (asked_in rows) (Err e)
  day_refused m e some = error_told (day_in today) (asked_in rows) e
      (λ none. by_parts ∙ (λ i. asked_of (some i) (none i) (flag_in (one_of (codes "trail") rows)) (seed_in seed)))

  pub seed_refused : (m : Mode) (d : Option ℤ) (e : WordsRefused) → mode_in mode ≡ Some m → day_in today ≡ Some d → IsRead (seed_in seed) (Err e)
      → IsRead (asked_in rows) (Err e)
  seed_refused m d e some day = error_told (seed_in seed) (asked_in rows) e
      (λ none. by_parts ∙ (λ i. asked_of (some i) (day i) (flag_in (one_of (codes "trail") rows)) (none i)))

  pub all_read : (m : Mode) (d : Option ℤ) (b : Bool) (n : ℕ) → mode_in mode ≡ Some m → day_in today ≡ Some d → b ≡ flag_in (one_of (codes "trail") rows)
      → seed_in seed ≡ Some n → asked_in rows ≡ Some (record { mode = m; today = d; trail = b; seed = n })
  all_read m d b n some day trail number = by_parts ∙ (λ i. asked_of (some i) (day i) (sym trail i) (number i))

-- ---- the words

-- clap finds nothing wrong with them, and these matches
pub by_matches : (words : List Text) (rows : List Row) (r : Result Asked WordsRefused) → fault_of command_line words ≡ [] → rows ≡ matches_of command_line words
    → IsRead (asked_in rows) r → IsRead (asked_by words) r
by_matches words rows r fine found h =
    let its : IsRead (asked_in (matches_of command_line words)) r = subst (λ rs. IsRead (asked_in rs) r) found h in
    subst (λ (ks : Kinds). IsRead (if is_empty ks then asked_in (matches_of command_line words) else None) r) (sym fine) its
