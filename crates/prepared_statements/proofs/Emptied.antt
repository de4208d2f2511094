-- A list of places as the list of its statements: one that is found, one more, one that is emptied, and all empty ones taken out.
use Rattle.std.proofs.Common.{◌≡◌, ℕ, zero, suc, ◌+◌, ◌-◌, ◌<◌, Bool, true, false, not, cond, ◌&&◌, ◌||◌, List, [], ◌∷◌, ◌++◌, Option, Some, None, Result, Ok, Err, IfSome, IfOk, OnErr, length, length-append, length-set, take, take_all, set, get_or, slice_get, position, find, filter, swap_remove, nat_eq, nat_lt, refl, sym, ap, subst, ◌∙◌, if◌then◌else◌, true≢false, eqb-true, eq-eqb, ne_eqb, arith}
use Rattle.std.proofs.lemmas.List.{get_or_push, set-append_left, take-append-le}
use Rattle.std.proofs.lemmas.Option.{slice_get-get_or}
use Rattle.std.specs.List.{list_any, position_or_len}
use Rattle.indexmap.specs.IndexSet.{remove_key}
use Rattle.prepared_statements.specs.declared.place.Place.{Place}
use Rattle.prepared_statements.specs.declared.place.Place.TheVariants.{Taken, Empty}
use Rattle.prepared_statements.specs.declared.prepared_statement.PreparedStatement.{PreparedStatement}
use Rattle.prepared_statements.specs.Names.{name_of, has_name, bears, key_of}
use Rattle.prepared_statements.specs.Taken.{is_taken, taken, are_numbered}
use Rattle.std.specs.Str.{bytes_eq}

both : (a b : Bool) → (a && b) ≡ true → (a ≡ true) × (b ≡ true)
both true b h = (refl, h)
both false b h = absurd (true≢false (sym h))

-- ---- the statement of a name

pub any_taken : (n : List ℕ) (ps : List Place) → list_any (bears n) ps ≡ list_any (has_name n) (taken ps)
any_taken n [] = refl
any_taken n (Taken s ∷ ps) = ap (λ (b : Bool). has_name n s || b) (any_taken n ps)
any_taken n (Empty k ∷ ps) = any_taken n ps

abbrev pub statement_at : Option Place → Option PreparedStatement
statement_at None = None
statement_at (Some (Taken s)) = Some s
statement_at (Some (Empty k)) = None

pub find_taken : (n : List ℕ) (ps : List Place) → find (has_name n) (taken ps) ≡ statement_at (find (bears n) ps)
find_taken n [] = refl
find_taken n (Taken s ∷ ps) = ap (λ (o : Option PreparedStatement). cond (has_name n s) (Some s) o) (find_taken n ps) ∙ by (has_name n s)
  where
    by : (b : Bool) → cond b (Some s) (statement_at (find (bears n) ps)) ≡ statement_at (cond b (Some (Taken s)) (find (bears n) ps))
    by true = refl
    by false = refl
find_taken n (Empty k ∷ ps) = find_taken n ps

-- ---- one more

taken-append : (ps : List Place) (s : PreparedStatement) → taken (ps ++ Taken s ∷ []) ≡ taken ps ++ s ∷ []
taken-append [] s = refl
taken-append (Taken t ∷ ps) s = ap (λ (l : List PreparedStatement). t ∷ l) (taken-append ps s)
taken-append (Empty k ∷ ps) s = taken-append ps s

pub taken_more : (s : PreparedStatement) (ps : List Place) → taken (if list_any (bears (name_of s)) ps then ps else ps ++ Taken s ∷ []) ≡ (if list_any (has_name (name_of s)) (taken ps) then taken ps else taken ps ++ s ∷ [])
taken_more s ps = by (list_any (bears (name_of s)) ps) ∙ ap (λ (b : Bool). if b then taken ps else taken ps ++ s ∷ []) (any_taken (name_of s) ps)
  where
    by : (b : Bool) → taken (if b then ps else ps ++ Taken s ∷ []) ≡ (if b then taken ps else taken ps ++ s ∷ [])
    by true = refl
    by false = taken-append ps s

numbered-append : (i : ℕ) (ps : List Place) (s : PreparedStatement) → are_numbered i (ps ++ Taken s ∷ []) ≡ are_numbered i ps
numbered-append i [] s = refl
numbered-append i (Taken t ∷ ps) s = numbered-append (i + 1) ps s
numbered-append i (Empty k ∷ ps) s = ap (λ (b : Bool). nat_eq k i && b) (numbered-append (i + 1) ps s)

numbered_more : (b : Bool) (s : PreparedStatement) (ps : List Place) → are_numbered 0 ps ≡ true → are_numbered 0 (if b then ps else ps ++ Taken s ∷ []) ≡ true
numbered_more true s ps h = h
numbered_more false s ps h = numbered-append 0 ps s ∙ h

pub numbered_added : {E : Type 0} (r : Result Bool E) (s : PreparedStatement) (ps new : List Place) → IfOk r (λ b. new ≡ (if list_any (bears (name_of s)) ps then ps else ps ++ Taken s ∷ [])) → OnErr r (new ≡ ps)
    → are_numbered 0 ps ≡ true → are_numbered 0 new ≡ true
numbered_added (Ok b) s ps new is kept h = ap (are_numbered 0) is ∙ numbered_more (list_any (bears (name_of s)) ps) s ps h
numbered_added (Err e) s ps new is kept h = ap (are_numbered 0) kept ∙ h

-- ---- the place of a name

abbrev pub IsFirst : List ℕ → List Place → ℕ → Type 0
IsFirst n [] i = ⊥
IsFirst n (p ∷ ps) zero = bears n p ≡ true
IsFirst n (p ∷ ps) (suc i) = (bears n p ≡ false) × IsFirst n ps i

is_first : (n : List ℕ) (ps : List Place) (i : ℕ) → i ≡ position_or_len (bears n) ps → i < length ps → IsFirst n ps i
is_first n [] i is within = absurd (omega (arith, within))
is_first n (p ∷ ps) i is within = by (bears n p) refl (λ below. is_first n ps (position_or_len (bears n) ps) refl below)
  where
    by : (b : Bool) → bears n p ≡ b → (position_or_len (bears n) ps < length ps → IsFirst n ps (position_or_len (bears n) ps)) → IsFirst n (p ∷ ps) i
    by true e rest =
        let zeroth : i ≡ 0 = is ∙ ap (λ (b : Bool). cond (not b) (1 + position_or_len (bears n) ps) 0) e in
        subst (IsFirst n (p ∷ ps)) (sym zeroth) e
    by false e rest =
        let next : i ≡ 1 + position_or_len (bears n) ps = is ∙ ap (λ (b : Bool). cond (not b) (1 + position_or_len (bears n) ps) 0) e in
        let later : i ≡ suc (position_or_len (bears n) ps) = omega (arith, next) in
        subst (IsFirst n (p ∷ ps)) (sym later) (e, rest (omega (arith, next, within)))

first_at : (n : List ℕ) (ps : List Place) (i : ℕ) → Some i ≡ position (bears n) ps → i < length ps → IsFirst n ps i
first_at n ps i h within = by (nat_lt (position_or_len (bears n) ps) (length ps)) refl
  where
    by : (b : Bool) → nat_lt (position_or_len (bears n) ps) (length ps) ≡ b → IsFirst n ps i
    by true e =
        let found : Some i ≡ Some (position_or_len (bears n) ps) = h ∙ ap (λ (b : Bool). cond b (Some (position_or_len (bears n) ps)) None) e in
        let same : i ≡ position_or_len (bears n) ps = cc in
        is_first n ps i same within
    by false e = let none : Some i ≡ None = h ∙ ap (λ (b : Bool). cond b (Some (position_or_len (bears n) ps)) None) e in cc

-- ---- an empty place that bears its number is new

abbrev pub is_number : ℕ → Place → Bool
is_number i p = bytes_eq (1 ∷ i ∷ []) (key_of p)

no_lower : (j i : ℕ) (ps : List Place) → are_numbered j ps ≡ true → i < j → list_any (is_number i) ps ≡ false
no_lower j i [] h below = refl
no_lower j i (Taken s ∷ ps) h below = no_lower (j + 1) i ps h (omega (arith, below))
no_lower j i (Empty k ∷ ps) h below =
    let parts = both (nat_eq k j) (are_numbered (j + 1) ps) h in
    let same : k ≡ j = eqb-true k j parts.0 in
    let other : nat_eq i k ≡ false = ne_eqb i k (λ (e : i ≡ k). omega (arith, e, same, below)) in
    ap (λ (b : Bool). (b && true) || list_any (is_number i) ps) other ∙ no_lower (j + 1) i ps parts.1 (omega (arith, below))

is_new : (n : List ℕ) (j i k : ℕ) (ps : List Place) → IsFirst n ps i → are_numbered j ps ≡ true → k ≡ j + i → list_any (is_number k) ps ≡ false
is_new n j i k [] first h is = absurd first
is_new n j zero k (Taken s ∷ ps) first h is = no_lower (j + 1) k ps h (omega (arith, is))
is_new n j zero k (Empty m ∷ ps) first h is = absurd (true≢false (sym first))
is_new n j (suc i) k (Taken s ∷ ps) first h is = is_new n (j + 1) i k ps first.1 h (omega (arith, is))
is_new n j (suc i) k (Empty m ∷ ps) first h is =
    let parts = both (nat_eq m j) (are_numbered (j + 1) ps) h in
    let same : m ≡ j = eqb-true m j parts.0 in
    let other : nat_eq k m ≡ false = ne_eqb k m (λ (e : k ≡ m). omega (arith, e, same, is)) in
    ap (λ (b : Bool). (b && true) || list_any (is_number k) ps) other ∙ is_new n (j + 1) i k ps first.1 parts.1 (omega (arith, is))

-- ---- the last one in the place of another one

moved_last : {X : Type 0} (xs : List X) (x d : X) (i : ℕ) → i < length xs → swap_remove (xs ++ x ∷ []) i d ≡ set xs i x
moved_last xs x d i within =
    let long : length (xs ++ x ∷ []) - 1 ≡ length xs = omega (arith, length-append xs (x ∷ [])) in
    ap (λ (m : ℕ). take m (set (xs ++ x ∷ []) i (get_or (xs ++ x ∷ []) m d))) long
    ∙ ap (λ y. take (length xs) (set (xs ++ x ∷ []) i y)) (get_or_push xs x d (length xs) refl)
    ∙ ap (take (length xs)) (set-append_left xs (x ∷ []) i x within)
    ∙ take-append-le (length xs) (set xs i x) (x ∷ []) (omega (arith, length-set xs i x))
    ∙ take_all (length xs) (set xs i x) (omega (arith, length-set xs i x))

-- what `swap_remove_index` leaves of the places with one more, where it finds a place
left_by : (ps new : List Place) (e : Place) (i : ℕ) (gone : Option Place) → i < length ps → gone ≡ slice_get (ps ++ e ∷ []) i → IfSome gone (λ p. new ≡ swap_remove (ps ++ e ∷ []) i p) → new ≡ set ps i e
left_by ps new e i None within is left =
    let here : slice_get (ps ++ e ∷ []) i ≡ Some (get_or (ps ++ e ∷ []) i e) = slice_get-get_or (ps ++ e ∷ []) i e (omega (arith, within, length-append ps (e ∷ []))) in
    let none : None ≡ Some (get_or (ps ++ e ∷ []) i e) = is ∙ here in cc
left_by ps new e i (Some p) within is left = left ∙ moved_last ps e p i within

-- ---- a place that is emptied

taken_emptied : (n : List ℕ) (i k : ℕ) (ps : List Place) → IsFirst n ps i → taken (set ps i (Empty k)) ≡ remove_key (has_name n) (taken ps)
taken_emptied n i k [] first = absurd first
taken_emptied n zero k (Taken s ∷ ps) first = sym (ap (λ (b : Bool). cond b (taken ps) (s ∷ remove_key (has_name n) (taken ps))) first)
taken_emptied n zero k (Empty m ∷ ps) first = absurd (true≢false (sym first))
taken_emptied n (suc i) k (Taken s ∷ ps) first =
    ap (λ (l : List PreparedStatement). s ∷ l) (taken_emptied n i k ps first.1)
    ∙ sym (ap (λ (b : Bool). cond b (taken ps) (s ∷ remove_key (has_name n) (taken ps))) first.0)
taken_emptied n (suc i) k (Empty m ∷ ps) first = taken_emptied n i k ps first.1

numbered_emptied : (n : List ℕ) (j i k : ℕ) (ps : List Place) → IsFirst n ps i → are_numbered j ps ≡ true → k ≡ j + i → are_numbered j (set ps i (Empty k)) ≡ true
numbered_emptied n j i k [] first h is = absurd first
numbered_emptied n j zero k (Taken s ∷ ps) first h is =
    let same : k ≡ j = omega (arith, is) in
    ap (λ (b : Bool). b && are_numbered (j + 1) ps) (eq-eqb k j same) ∙ h
numbered_emptied n j zero k (Empty m ∷ ps) first h is = absurd (true≢false (sym first))
numbered_emptied n j (suc i) k (Taken s ∷ ps) first h is = numbered_emptied n (j + 1) i k ps first.1 h (omega (arith, is))
numbered_emptied n j (suc i) k (Empty m ∷ ps) first h is =
    let parts = both (nat_eq m j) (are_numbered (j + 1) ps) h in
    ap (λ (b : Bool). b && are_numbered (j + 1) (set ps i (Empty k))) parts.0 ∙ numbered_emptied n (j + 1) i k ps first.1 parts.1 (omega (arith, is))

-- a place is emptied: one more that bears its number, which is then moved to it
pub emptied : (n : List ℕ) (i : ℕ) (ps more new : List Place) (gone : Option Place) → Some i ≡ position (bears n) ps → i < length ps → are_numbered 0 ps ≡ true
    → more ≡ (if list_any (is_number i) ps then ps else ps ++ Empty i ∷ []) → gone ≡ slice_get more i → IfSome gone (λ p. new ≡ swap_remove more i p)
    → (taken new ≡ remove_key (has_name n) (taken ps)) × (are_numbered 0 new ≡ true)
emptied n i ps more new gone at within h added is left =
    let first = first_at n ps i at within in
    let number : i ≡ 0 + i = omega arith in
    let longer : more ≡ ps ++ Empty i ∷ [] = added ∙ ap (λ (b : Bool). if b then ps else ps ++ Empty i ∷ []) (is_new n 0 i i ps first h number) in
    let one : new ≡ set ps i (Empty i) = left_by ps new (Empty i) i gone within (subst (λ (l : List Place). gone ≡ slice_get l i) longer is) (subst (λ (l : List Place). IfSome gone (λ p. new ≡ swap_remove l i p)) longer left) in
    (ap taken one ∙ taken_emptied n i i ps first, ap (are_numbered 0) one ∙ numbered_emptied n 0 i i ps first h number)

-- ---- the empty ones are taken out

pub all_taken : (ps : List Place) → taken (filter is_taken ps) ≡ taken ps
all_taken [] = refl
all_taken (Taken s ∷ ps) = ap (λ (l : List PreparedStatement). s ∷ l) (all_taken ps)
all_taken (Empty k ∷ ps) = all_taken ps

pub all_numbered : (i : ℕ) (ps : List Place) → are_numbered i (filter is_taken ps) ≡ true
all_numbered i [] = refl
all_numbered i (Taken s ∷ ps) = all_numbered (i + 1) ps
all_numbered i (Empty k ∷ ps) = all_numbered i ps

-- ---- a name that is not there

pub none_removed : (n : List ℕ) (ss : List PreparedStatement) → list_any (has_name n) ss ≡ false → ss ≡ remove_key (has_name n) ss
none_removed n [] h = refl
none_removed n (s ∷ ss) h = by (has_name n s) refl (λ none. none_removed n ss none)
  where
    by : (b : Bool) → has_name n s ≡ b → (list_any (has_name n) ss ≡ false → ss ≡ remove_key (has_name n) ss) → s ∷ ss ≡ remove_key (has_name n) (s ∷ ss)
    by true e rest = absurd (true≢false (sym (ap (λ (b : Bool). b || list_any (has_name n) ss) e) ∙ h))
    by false e rest =
        let none : list_any (has_name n) ss ≡ false = sym (ap (λ (b : Bool). b || list_any (has_name n) ss) e) ∙ h in
        ap (λ (l : List PreparedStatement). s ∷ l) (rest none) ∙ sym (ap (λ (b : Bool). cond b ss (s ∷ remove_key (has_name n) ss)) e)
