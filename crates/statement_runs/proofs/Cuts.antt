-- Those whose waits statements of others have cancelled.
use Rattle.std.proofs.Common.{◌≡◌, ◌≢◌, ℕ, zero, suc, ◌+◌, ◌==◌, ◌<◌, ◌≤◌, ◌&&◌, ◌||◌, Bool, true, false, if◌then◌else◌, List, [], ◌∷◌, ◌++◌, refl, ap, sym, ◌∙◌, subst, arith, inl, inr, Option, Some, None, is_some, length, drop, get_or, add-one, drop-cons, slice_index_or, slice_set}
use Rattle.std.proofs.lemmas.Grind.{common_steps}
use Rattle.std.proofs.lemmas.Bool.{and_parts, cases_Bool, cases_eq}
use Rattle.std.proofs.lemmas.Bool.Decides.{nat_tests}
use Rattle.std.proofs.lemmas.List.{get_or_past}
use Rattle.history.specs.declared.wait.Wanted.{Wanted}
use Rattle.schedule.specs.declared.tally.Tally.{Tally}
use Rattle.schedule.specs.Lists.{first, is_in, without}
use Rattle.stores.specs.Events.{resumed, withdrawn}
use Rattle.prepared_statements.specs.Prepared.{Prepared}
use Rattle.statement_runs.specs.Database.{Database, anew, empty, is_cancelled, waits, cancels, cuts, all_cut, interrupted, is_ready, resumes, happened}
use Rattle.statement_runs.specs.declared.options.Options.{Options}
use Rattle.statement_runs.specs.Kept.{KeptSeats, AreSeated, AreKept, Adds, StandsFor, waits_in, due_in, interrupted_in, may_go_on}
use Rattle.statement_runs.specs.Weight.{of_mark, sum_below, slack, most, cut_of, left, most_left}
use Rattle.statement_runs.proofs.Weights.{sum_less, sum_most}

-- ---- who is first

pub is_itself : (s : ℕ) → is_ready (Some s) s ≡ true
is_itself s = grind (arith, common_steps, nat_tests)

or_left : (b c : Bool) → b ≡ true → (b || c) ≡ true
or_left true c e = refl
or_left false c e = absurd (cc)

or_right : (b c : Bool) → c ≡ true → (b || c) ≡ true
or_right true c e = refl
or_right false c e = e

pub or_other : (b c : Bool) → (b || c) ≡ true → b ≡ false → c ≡ true
or_other true c e f = absurd (cc)
or_other false c e f = e

pub first_goes_on : (e : KeptSeats) (cut : List ℕ) (s : ℕ) → interrupted_in e cut ≡ Some s → may_go_on e cut s ≡ true
first_goes_on e cut s is = or_left (is_ready (interrupted_in e cut) s) (due_in e s) (ap (λ o. is_ready o s) is ∙ is_itself s)

pub ready_goes_on : (e : KeptSeats) (cut : List ℕ) (s : ℕ) → due_in e s ≡ true → may_go_on e cut s ≡ true
ready_goes_on e cut s due = or_right (is_ready (interrupted_in e cut) s) (due_in e s) due

pub ready_some : (o : Option ℕ) (s : ℕ) → is_ready o s ≡ true → o ≡ Some s
ready_some None s e = absurd (cc)
ready_some (Some r) s e = let same : r ≡ s = grind (arith, common_steps, nat_tests, e) in ap Some same

found_here : (p : ℕ → Bool) (x : ℕ) (xs : List ℕ) → p x ≡ true → first p (x ∷ xs) ≡ Some x
found_here p x xs t = rw t refl

found_later : (p : ℕ → Bool) (x : ℕ) (xs : List ℕ) → p x ≡ false → first p (x ∷ xs) ≡ first p xs
found_later p x xs f = rw f refl

in_head : (s : ℕ) (xs : List ℕ) → is_in s (s ∷ xs) ≡ true
in_head s xs = grind (arith, common_steps, nat_tests)

pub first_passes : (p : ℕ → Bool) (xs : List ℕ) (s : ℕ) → first p xs ≡ Some s → p s ≡ true
first_passes p [] s e = absurd (cc)
first_passes p (x ∷ xs) s e =
    elim (cases_Bool (p x)) [
      | inl t ↦ let is : Some x ≡ Some s = sym (found_here p x xs t) ∙ e in let same : x ≡ s = cc in subst (λ y. p y ≡ true) same t
      | inr f ↦ first_passes p xs s (sym (found_later p x xs f) ∙ e)
    ]

pub first_in : (p : ℕ → Bool) (xs : List ℕ) (s : ℕ) → first p xs ≡ Some s → is_in s xs ≡ true
first_in p [] s e = absurd (cc)
first_in p (x ∷ xs) s e =
    elim (cases_Bool (p x)) [
      | inl t ↦ let is : Some x ≡ Some s = sym (found_here p x xs t) ∙ e in let same : x ≡ s = cc in subst (λ y. is_in y (x ∷ xs) ≡ true) same (in_head x xs)
      | inr f ↦ or_right (x == s) (is_in s xs) (first_in p xs s (sym (found_later p x xs f) ∙ e))
    ]

-- ---- how many there are

mark_le : (b : Bool) → of_mark b ≤ 1
mark_le true = omega arith
mark_le false = omega arith

mark_more : (b c : Bool) → of_mark b ≤ of_mark c + 1
mark_more true c = omega arith
mark_more false c = omega arith

mark_mono : (b c : Bool) → (b ≡ true → c ≡ true) → of_mark b ≤ of_mark c
mark_mono true c f = let e = f refl in rw e (omega arith)
mark_mono false c f = omega arith

mark_less : (b c : Bool) → b ≡ false → c ≡ true → of_mark b < of_mark c
mark_less b c f t = rw (f, t) (omega arith)

mark_same : (b c : Bool) → b ≡ c → of_mark b ≤ of_mark c
mark_same b c e = rw e (omega arith)

pub cut_most : (n : ℕ) (cut : List ℕ) → cut_of n cut ≤ n
cut_most n cut = let le = sum_most n 1 (λ s. of_mark (is_in s cut)) (λ s. mark_le (is_in s cut)) in omega (arith, le)

pub left_most : (e : KeptSeats) (cut : List ℕ) → slack e ≤ most → length e.opened ≤ 65 → left e cut ≤ most_left
left_most e cut less few = let b = cut_most (length e.opened) cut in omega (arith, less, few, b)

-- one more

sum_past : (n s : ℕ) (f g : ℕ → ℕ) → ((r : ℕ) → s ≢ r → f r ≤ g r) → n ≤ s → sum_below n f ≤ sum_below n g
sum_past zero s f g others past = omega arith
sum_past (suc n) s f g others past = let h = sum_past n s f g others (omega (arith, past)) in let k = others n (λ same. omega (arith, past, same)) in omega (arith, h, k)

sum_one_more : (n s : ℕ) (f g : ℕ → ℕ) → ((r : ℕ) → s ≢ r → f r ≤ g r) → f s ≤ g s + 1 → sum_below n f ≤ sum_below n g + 1
sum_one_more zero s f g others own = omega arith
sum_one_more (suc n) s f g others own =
    elim (cases_eq s n) [
      | inl same ↦ let h = sum_past n s f g others (omega (arith, same)) in let k = subst (λ x. f x ≤ g x + 1) same own in omega (arith, h, k)
      | inr other ↦ let h = sum_one_more n s f g others own in let k = others n other in omega (arith, h, k)
    ]

in_added : (s r : ℕ) (cut : List ℕ) → s ≢ r → is_in r (cut ++ s ∷ []) ≡ is_in r cut
in_added s r [] other = grind (arith, common_steps, nat_tests, other)
in_added s r (x ∷ cut) other = ap (λ b. (x == r) || b) (in_added s r cut other)

pub cut_added : (n s : ℕ) (cut : List ℕ) → cut_of n (cut ++ s ∷ []) ≤ cut_of n cut + 1
cut_added n s cut = sum_one_more n s (λ r. of_mark (is_in r (cut ++ s ∷ []))) (λ r. of_mark (is_in r cut))
    (λ r other. mark_same (is_in r (cut ++ s ∷ [])) (is_in r cut) (in_added s r cut other)) (mark_more (is_in s (cut ++ s ∷ [])) (is_in s cut))

-- one less

dropped_here : (s x : ℕ) (cut : List ℕ) → (x == s) ≡ true → without s (x ∷ cut) ≡ without s cut
dropped_here s x cut t = rw t refl

kept_here : (s x : ℕ) (cut : List ℕ) → (x == s) ≡ false → without s (x ∷ cut) ≡ x ∷ without s cut
kept_here s x cut f = rw f refl

gone : (s : ℕ) (cut : List ℕ) → is_in s (without s cut) ≡ false
gone s [] = refl
gone s (x ∷ cut) =
    elim (cases_Bool (x == s)) [
      | inl t ↦ ap (is_in s) (dropped_here s x cut t) ∙ gone s cut
      | inr f ↦ ap (is_in s) (kept_here s x cut f) ∙ (ap (λ b. b || is_in s (without s cut)) f ∙ gone s cut)
    ]

in_before : (s r : ℕ) (cut : List ℕ) → is_in r (without s cut) ≡ true → is_in r cut ≡ true
in_before s r [] e = e
in_before s r (x ∷ cut) e =
    elim (cases_Bool (x == s)) [
      | inl t ↦ or_right (x == r) (is_in r cut) (in_before s r cut (sym (ap (is_in r) (dropped_here s x cut t)) ∙ e))
      | inr f ↦
          elim (cases_Bool (x == r)) [
            | inl t ↦ or_left (x == r) (is_in r cut) t
            | inr g ↦ or_right (x == r) (is_in r cut) (in_before s r cut (or_other (x == r) (is_in r (without s cut)) (sym (ap (is_in r) (kept_here s x cut f)) ∙ e) g))
          ]
    ]

pub cut_gone : (n s : ℕ) (cut : List ℕ) → s < n → is_in s cut ≡ true → cut_of n (without s cut) < cut_of n cut
cut_gone n s cut lt among = sum_less n s (λ r. of_mark (is_in r (without s cut))) (λ r. of_mark (is_in r cut))
    (λ r. mark_mono (is_in r (without s cut)) (is_in r cut) (in_before s r cut)) lt (mark_less (is_in s (without s cut)) (is_in s cut) (gone s cut) among)

-- ---- less is left

pub cut_lower : (e new : KeptSeats) (cut xs : List ℕ) (s : ℕ) → slack new < slack e → new.opened ≡ e.opened → xs ≡ cut ++ s ∷ [] → left new xs ≤ left e cut
cut_lower e new cut xs s less opened added =
    let at : cut_of (length new.opened) xs ≡ cut_of (length e.opened) (cut ++ s ∷ []) = ap (λ os. cut_of (length os) xs) opened ∙ ap (cut_of (length e.opened)) added in
    let more = cut_added (length e.opened) s cut in
    omega (arith, less, at, more)

pub resume_lower : (e : KeptSeats) (cut xs : List ℕ) (s : ℕ) → s < length e.opened → is_ready (interrupted_in e cut) s ≡ true → xs ≡ without s cut → left e xs < left e cut
resume_lower e cut xs s lt ready gone =
    let among = first_in (λ r. slice_index_or e.cancelled r false) cut s (ready_some (interrupted_in e cut) s ready) in
    let less = cut_gone (length e.opened) s cut lt among in
    let at : cut_of (length e.opened) xs ≡ cut_of (length e.opened) (without s cut) = ap (cut_of (length e.opened)) gone in
    omega (arith, less, at)

pub wait_lower : (e new : KeptSeats) (cut : List ℕ) → slack new < slack e → new.opened ≡ e.opened → left new cut < left e cut
wait_lower e new cut less opened = let at : cut_of (length new.opened) cut ≡ cut_of (length e.opened) cut = ap (λ os. cut_of (length os) cut) opened in omega (arith, less, at)

pub run_lower : (old mid new : KeptSeats) (before cut : List ℕ) → left mid cut ≤ left old before → slack new ≤ slack mid → new.opened ≡ mid.opened → left new cut ≤ left old before
run_lower old mid new before cut le less opened = let at : cut_of (length new.opened) cut ≡ cut_of (length mid.opened) cut = ap (λ os. cut_of (length os) cut) opened in omega (arith, le, less, at)

-- ---- the database that they stand for

-- who waits
pub same_waits : (o : Options) (e : KeptSeats) (lists : List (List Prepared)) (cut : List ℕ) (n : Tally) (v : Database) (s : ℕ) → StandsFor o e lists cut n v → waits_in e s ≡ waits v s
same_waits o e lists cut n v s stands = ap (λ b. b && is_some (slice_index_or e.stores.locks.wants s None)) stands.whole ∙ ap is_some (stands.tells.stands.all.locks.tells.wants s)

pub cut_stands : (o : Options) (e new : KeptSeats) (lists : List (List Prepared)) (cut xs : List ℕ) (n : Tally) (v : Database) (s : ℕ) → waits_in e s ≡ true → Adds e new (λ h. withdrawn s) → new.opened ≡ e.opened → new.commands ≡ e.commands
    → new.cancelled ≡ slice_set e.cancelled s true → new.rests ≡ e.rests → xs ≡ cut ++ s ∷ [] → StandsFor o e lists cut n v → StandsFor o new lists xs n (cuts v s)
cut_stands o e new lists cut xs n v s waiting adds opened commands cancelled rests added stands =
    let is : waits v s ≡ true = sym (same_waits o e lists cut n v s stands) ∙ waiting in
    subst (λ b. StandsFor o new lists xs n (if b then record (cancels v s) { cut = v.cut ++ s ∷ [] } else v)) (sym is) (record {
      whole = adds.whole ∙ stands.whole;
      options = stands.options;
      sessions = ap length opened ∙ stands.sessions;
      tells = adds.tells stands.whole v.history stands.tells;
      commands = commands ∙ stands.commands;
      cancelled = cancelled ∙ ap (λ cs. slice_set cs s true) stands.cancelled;
      rests = rests ∙ stands.rests;
      prepared = stands.prepared;
      cut = added ∙ ap (λ c. c ++ s ∷ []) stands.cut;
      given = stands.given;
    })

pub uncut_stands : (o : Options) (e : KeptSeats) (lists : List (List Prepared)) (cut : List ℕ) (n : Tally) (v : Database) (s : ℕ) → waits_in e s ≡ false → StandsFor o e lists cut n v → StandsFor o e lists cut n (cuts v s)
uncut_stands o e lists cut n v s waiting stands =
    let is : waits v s ≡ false = sym (same_waits o e lists cut n v s stands) ∙ waiting in
    subst (λ b. StandsFor o e lists cut n (if b then record (cancels v s) { cut = v.cut ++ s ∷ [] } else v)) (sym is) stands

-- one after the other
pub next_cut : (P : Database → Type 0) (v w : Database) (ss : List ℕ) (i s : ℕ) → i < length ss → s ≡ get_or ss i 0 → all_cut w (drop i ss) ≡ all_cut v ss → P (cuts w s)
    → (x : Database) × P x × (all_cut x (drop (i + 1) ss) ≡ all_cut v ss)
next_cut P v w ss i s lt is e p =
    (cuts w s, p, ap (λ n. all_cut (cuts w s) (drop n ss)) (add-one i) ∙ (ap (λ x. all_cut (cuts w x) (drop (suc i) ss)) is ∙ (sym (ap (all_cut w) (drop-cons ss i 0 lt)) ∙ e)))

-- who goes on
pub same_interrupted : (o : Options) (e : KeptSeats) (lists : List (List Prepared)) (cut : List ℕ) (n : Tally) (v : Database) → StandsFor o e lists cut n v → interrupted_in e cut ≡ interrupted v
same_interrupted o e lists cut n v stands = ap (λ cs. first (λ s. slice_index_or cs s false) cut) stands.cancelled ∙ ap (first (is_cancelled v)) stands.cut

pub cut_resumes : (o : Options) (e : KeptSeats) (lists : List (List Prepared)) (cut xs : List ℕ) (n : Tally) (v : Database) (s : ℕ) → is_ready (interrupted_in e cut) s ≡ true → xs ≡ without s cut → StandsFor o e lists cut n v → StandsFor o e lists xs n (resumes v s)
cut_resumes o e lists cut xs n v s ready left stands =
    let is : is_ready (interrupted v) s ≡ true = sym (ap (λ r. is_ready r s) (same_interrupted o e lists cut n v stands)) ∙ ready in
    subst (λ b. StandsFor o e lists xs n (if b then record v { cut = without s v.cut } else happened v (resumed s))) (sym is) (record {
      whole = stands.whole;
      options = stands.options;
      sessions = stands.sessions;
      tells = stands.tells;
      commands = stands.commands;
      cancelled = stands.cancelled;
      rests = stands.rests;
      prepared = stands.prepared;
      cut = left ∙ ap (without s) stands.cut;
      given = stands.given;
    })

pub wait_resumes : (o : Options) (e new : KeptSeats) (lists : List (List Prepared)) (cut : List ℕ) (n : Tally) (v : Database) (s : ℕ) → is_ready (interrupted_in e cut) s ≡ false → Adds e new (λ h. resumed s) → new.opened ≡ e.opened → new.commands ≡ e.commands
    → new.cancelled ≡ e.cancelled → new.rests ≡ e.rests → StandsFor o e lists cut n v → StandsFor o new lists cut n (resumes v s)
wait_resumes o e new lists cut n v s ready adds opened commands cancelled rests stands =
    let is : is_ready (interrupted v) s ≡ false = sym (ap (λ r. is_ready r s) (same_interrupted o e lists cut n v stands)) ∙ ready in
    subst (λ b. StandsFor o new lists cut n (if b then record v { cut = without s v.cut } else happened v (resumed s))) (sym is) (record {
      whole = adds.whole ∙ stands.whole;
      options = stands.options;
      sessions = ap length opened ∙ stands.sessions;
      tells = adds.tells stands.whole v.history stands.tells;
      commands = commands ∙ stands.commands;
      cancelled = cancelled ∙ stands.cancelled;
      rests = rests ∙ stands.rests;
      prepared = stands.prepared;
      cut = stands.cut;
      given = stands.given;
    })

-- ---- whose statement is to be refused does not wait

pub cancelled_idle : (e : KeptSeats) (s : ℕ) → AreKept e → slice_index_or e.cancelled s false ≡ true → waits_in e s ≡ false
cancelled_idle e s kept flag =
    elim (cases_Bool (waits_in e s)) [
      | inl w ↦
          let both = and_parts e.whole (is_some (slice_index_or e.stores.locks.wants s None)) w in
          let sound = kept.sound both.0 in
          let off = sound.1.waits.standing s (ap is_some (sym (sound.1.stands.all.locks.tells.wants s)) ∙ both.1) in
          absurd (let c : false ≡ true = sym off ∙ flag in cc)
      | inr f ↦ f
    ]

-- ---- who waits

and_off : (w : Bool) → (w && false) ≡ false
and_off true = refl
and_off false = refl

-- where a wait is withdrawn nobody waits who did not
pub withdrawn_idle : (w : Bool) (old new : List (Option Wanted)) (s r : ℕ) → slice_index_or new s None ≡ None → ((x : ℕ) → x ≢ s → slice_index_or new x None ≡ slice_index_or old x None)
    → (w && is_some (slice_index_or old r None)) ≡ false → (w && is_some (slice_index_or new r None)) ≡ false
withdrawn_idle w old new s r idle others is =
    elim (cases_eq r s) [
      | inl same ↦ ap (λ x. w && is_some (slice_index_or new x None)) same ∙ (ap (λ o. w && is_some o) idle ∙ and_off w)
      | inr other ↦ ap (λ o. w && is_some o) (others r other) ∙ is
    ]

-- who is no session does not wait
pub past_idle : (e : KeptSeats) (s : ℕ) → AreSeated e → length e.opened ≤ s → waits_in e s ≡ false
past_idle e s seated past = ap (λ o. e.whole && is_some o) (get_or_past e.stores.locks.wants s None (rw seated.waits past)) ∙ and_off e.whole

-- ---- a fresh one

pub fresh_stands : (o p : Options) (e : KeptSeats) (lists : List (List Prepared)) (cut : List ℕ) (n m : Tally) (k : ℕ) (v : Database) → StandsFor o e lists cut n (empty p k) → p ≡ v.options → k ≡ v.sessions → m ≡ v.tally → StandsFor o e lists cut m (anew v)
fresh_stands o p e lists cut n m k v stands same count given =
    let x = subst (λ j. StandsFor o e lists cut n (empty v.options j)) count (subst (λ q. StandsFor o e lists cut n (empty q k)) same stands) in
    record { whole = x.whole; options = x.options; sessions = x.sessions; tells = x.tells; commands = x.commands; cancelled = x.cancelled; rests = x.rests; prepared = x.prepared; cut = x.cut; given = given }
