-- The present entry by which one table is a partition of another.
use Rattle.std.proofs.Common.{◌≡◌, ℕ, suc, ◌+◌, ◌==◌, ◌&&◌, ◌<◌, ◌≤◌, arith, ap, refl, sym, ◌∙◌, Bool, true, false, cond, ltb, List, [], ◌∷◌, Some, None, length, map, get_or, inl, inr}
use Rattle.std.specs.List.{find, position, position_or_len}
use Rattle.std.specs.Option.{option_map}
use Rattle.std.proofs.lemmas.Bool.{cases_Bool, cases_lt}
use Rattle.std.proofs.lemmas.Bool.Decides.{nat_tests}
use Rattle.history.specs.declared.catalogue.Entry.{Entry}
use Rattle.history.specs.Transactions.{IsSound}
use Rattle.history.specs.Catalogue.{entries_added}
use Rattle.history.specs.History.{History, tx_events, catalogue_events}
use Rattle.history.specs.Presence.{is_present}
use Rattle.part_catalog.specs.declared.stored.StoredEntry.{StoredEntry}
use Rattle.part_catalog.specs.Forgotten.{IsGone}
use Rattle.part_catalog.specs.Kept.{KeptCatalogue, entry_in, no_entry}
use Rattle.part_catalog.specs.Answers.{is_between, entry_between}
use Rattle.part_catalog.specs.Stands.{CatalogueStands, between_by}
use Rattle.part_catalog.proofs.Forgotten.{gone_are_hidden, thin_find}
use Rattle.part_catalog.proofs.Told.{found_agree, present_told}

-- ---- a place and what stands there

place_of_first : (n m k : ℕ) → Some k ≡ cond (ltb n m) (Some n) None → (k ≡ n) × (n < m)
place_of_first n m k is = elim (cases_lt n m) [
  | inl lt ↦
      let test : ltb n m ≡ true = grind (arith, nat_tests) in
      let same : Some k ≡ Some n = rw test at is in
      (cc, lt)
  | inr ge ↦
      let test : ltb n m ≡ false = grind (arith, nat_tests) in
      let same : Some k ≡ None = rw test at is in
      absurd (cc)
]

no_place : (n m : ℕ) → None ≡ cond (ltb n m) (Some n) None → m ≤ n
no_place n m is = elim (cases_lt n m) [
  | inl lt ↦
      let test : ltb n m ≡ true = grind (arith, nat_tests) in
      let same : None ≡ Some n = rw test at is in
      absurd (cc)
  | inr ge ↦ omega arith
]

first_found : (p : StoredEntry → Bool) (xs : List StoredEntry) → position_or_len p xs < length xs → find p xs ≡ Some (get_or xs (position_or_len p xs) no_entry)
first_found p [] lt = absurd (omega arith)
first_found p (x ∷ xs) lt = elim (cases_Bool (p x)) [
  | inl y ↦ rw y refl
  | inr n ↦
      let next : 1 + position_or_len p xs ≡ suc (position_or_len p xs) = omega arith in
      let less : 1 + position_or_len p xs < suc (length xs) = rw n at lt in
      rw (n, next) (first_found p xs (omega (arith, less)))
]

none_found : (p : StoredEntry → Bool) (xs : List StoredEntry) → length xs ≤ position_or_len p xs → find p xs ≡ None
none_found p [] le = refl
none_found p (x ∷ xs) le = elim (cases_Bool (p x)) [
  | inl y ↦ let less : suc (length xs) ≤ 0 = rw y at le in absurd (omega (arith, less))
  | inr n ↦
      let less : suc (length xs) ≤ 1 + position_or_len p xs = rw n at le in
      rw n (none_found p xs (omega (arith, less)))
]

-- ---- in the history

last_false : (a b : Bool) → b ≡ false → a && b ≡ false
last_false true b f = f
last_false false b f = refl

between_told : (kept : KeptCatalogue) (h : History) (s p c : ℕ) → IsSound (tx_events h) → CatalogueStands kept h → option_map entry_in (find (between_by (tx_events h) s p c) kept.entries) ≡ entry_between h s p c
between_told kept h s p c sound st =
    found_agree (between_by (tx_events h) s p c) (is_between h s p c) kept.entries (λ k lt. ap (λ b. (((get_or kept.entries k no_entry).entry.parent.number == p) && ((get_or kept.entries k no_entry).entry.child.number == c)) && b) (present_told kept h s k st lt))
    ∙ thin_find (IsGone h) (is_between h s p c) (λ e gone. last_false ((e.parent.number == p) && (e.child.number == c)) (is_present h s e) (gone_are_hidden h s e sound st.sound gone)) (entries_added (catalogue_events h)) (map entry_in kept.entries) st.entries

-- it is the entry at that place
pub between_is : (kept : KeptCatalogue) (h : History) (s p c k : ℕ) (e : Entry) → IsSound (tx_events h) → CatalogueStands kept h → Some k ≡ position (between_by (tx_events h) s p c) kept.entries → entry_between h s p c ≡ Some e → e.id.number ≡ (get_or kept.entries k no_entry).entry.id.number
between_is kept h s p c k e sound st at is =
    let test = between_by (tx_events h) s p c in
    let place = place_of_first (position_or_len test kept.entries) (length kept.entries) k at in
    let found : Some (get_or kept.entries (position_or_len test kept.entries) no_entry).entry ≡ Some e = ap (option_map entry_in) (sym (first_found test kept.entries place.1)) ∙ between_told kept h s p c sound st ∙ is in
    let same : (get_or kept.entries (position_or_len test kept.entries) no_entry).entry ≡ e = cc in
    ap (λ (x : Entry). x.id.number) (sym same) ∙ ap (λ i. (get_or kept.entries i no_entry).entry.id.number) (sym place.0)

pub none_between : (kept : KeptCatalogue) (h : History) (s p c : ℕ) (e : Entry) → IsSound (tx_events h) → CatalogueStands kept h → None ≡ position (between_by (tx_events h) s p c) kept.entries → entry_between h s p c ≡ Some e → ⊥
none_between kept h s p c e sound st at is =
    let test = between_by (tx_events h) s p c in
    let over = no_place (position_or_len test kept.entries) (length kept.entries) at in
    let found : None ≡ Some e = ap (option_map entry_in) (sym (none_found test kept.entries over)) ∙ between_told kept h s p c sound st ∙ is in
    absurd (cc)
