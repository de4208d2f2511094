-- A call has one outcome.
use Rattle.std.proofs.Common.{◌≡◌, ℕ, Bool, true, false, List, [], ◌++◌, Some, refl, sym, ap, subst, ◌∙◌}
use Rattle.script_program.specs.Outcomes.{Outcome}
use Rattle.script_program.specs.Program.{Answers, Misused, Swamped, Unreadable, Read, Made, Begins, InWords, InReading, Behind, Making}
use Rattle.script_program.specs.Reading.{Reading, Unread, Whole}
use Rattle.script_program.specs.Work.{reads_input, work_by}
use Rattle.script_program.specs.declared.work.Work.{Work}

same_text : (r : Reading) (s t : List ℕ) → r ≡ Whole s → r ≡ Whole t → t ≡ s
same_text r s t h k = cc

some_is : (v w : Work) → Some v ≡ Some w → w ≡ v
some_is v w h = cc

same_work : (words : List (List ℕ)) (v w : Work) → work_by words ≡ Some v → work_by words ≡ Some w → w ≡ v
same_work words v w h k = some_is v w (sym h ∙ k)

-- it reads its input, or it does not
reads_or_not : (words : List (List ℕ)) (v w : Work) → work_by words ≡ Some v → work_by words ≡ Some w → reads_input v ≡ true → reads_input w ≡ false → ⊥
reads_or_not words v w h k reads not = let same : reads_input w ≡ reads_input v = ap reads_input (same_work words v w h k) in absurd (cc)

module _ (ends : Work → List ℕ → Outcome → Type 0) (words : List (List ℕ)) where
  pub read_ends : (r : Reading) (work : Work) (text : List ℕ) (o : Outcome) → work_by words ≡ Some work → r ≡ Whole text → Answers ends words r o → ends work text o
  read_ends r work text o asked whole (Misused none h is) = absurd (cc)
  read_ends r work text o asked whole (Swamped other call reads h is) = absurd (cc)
  read_ends r work text o asked whole (Unreadable other call reads h is) = absurd (cc)
  read_ends r work text o asked whole (Read other t call reads h does) = subst (λ v. ends v text o) (same_work words work other asked call) (subst (λ s. ends other s o) (same_text r text t whole h) does)
  read_ends r work text o asked whole (Made other call not h does) = absurd (cc)

  -- that reads no input
  pub made_ends : (r : Reading) (work : Work) (o : Outcome) → work_by words ≡ Some work → reads_input work ≡ false → Answers ends words r o → (r ≡ Unread) × ends work [] o
  made_ends r work o asked not (Misused none h is) = absurd (cc)
  made_ends r work o asked not (Swamped other call reads h is) = absurd (reads_or_not words other work call asked reads not)
  made_ends r work o asked not (Unreadable other call reads h is) = absurd (reads_or_not words other work call asked reads not)
  made_ends r work o asked not (Read other text call reads h does) = absurd (reads_or_not words other work call asked reads not)
  made_ends r work o asked not (Made other call not' h does) = (h, subst (λ v. ends v [] o) (same_work words work other asked call) does)

  pub one_answer : ((work : Work) (text : List ℕ) (a b : Outcome) → ends work text a → ends work text b → a ≡ b) → (r : Reading) (a b : Outcome) → Answers ends words r a → Answers ends words r b → a ≡ b
  one_answer one r a b (Misused none h is) (Misused none' h' is') = is ∙ sym is'
  one_answer one r a b (Misused none h is) (Swamped work' call' reads' h' is') = absurd (cc)
  one_answer one r a b (Misused none h is) (Unreadable work' call' reads' h' is') = absurd (cc)
  one_answer one r a b (Misused none h is) (Read work' text call' reads' h' does) = absurd (cc)
  one_answer one r a b (Misused none h is) (Made work' call' not' h' does) = absurd (cc)
  one_answer one r a b (Swamped work call reads h is) (Misused none' h' is') = absurd (cc)
  one_answer one r a b (Swamped work call reads h is) (Swamped work' call' reads' h' is') = is ∙ sym is'
  one_answer one r a b (Swamped work call reads h is) (Unreadable work' call' reads' h' is') = absurd (cc)
  one_answer one r a b (Swamped work call reads h is) (Read work' text call' reads' h' does) = absurd (cc)
  one_answer one r a b (Swamped work call reads h is) (Made work' call' not' h' does) = absurd (cc)
  one_answer one r a b (Unreadable work call reads h is) (Misused none' h' is') = absurd (cc)
  one_answer one r a b (Unreadable work call reads h is) (Swamped work' call' reads' h' is') = absurd (cc)
  one_answer one r a b (Unreadable work call reads h is) (Unreadable work' call' reads' h' is') = is ∙ sym is'
  one_answer one r a b (Unreadable work call reads h is) (Read work' text call' reads' h' does) = absurd (cc)
  one_answer one r a b (Unreadable work call reads h is) (Made work' call' not' h' does) = absurd (cc)
  one_answer one r a b (Read work text call reads h does) q = one work text a b does (read_ends r work text b call h q)
  one_answer one r a b (Made work call not h does) q = one work [] a b does (made_ends r work b call not q).1

  pub answer_begins : (begins : Work → List ℕ → List ℕ → Type 0) → ((work : Work) (text out : List ℕ) (o : Outcome) → begins work text out → ends work text o → (rest : List ℕ) × (out ++ rest ≡ o.out))
      → (r : Reading) (out : List ℕ) (o : Outcome) → Begins begins words r out → Answers ends words r o → (rest : List ℕ) × (out ++ rest ≡ o.out)
  answer_begins begins more r out o (InWords h none) q = (o.out, rw none refl)
  answer_begins begins more r out o (InReading work call reads h none) q = (o.out, rw none refl)
  answer_begins begins more r out o (Behind work text call reads h does) q = more work text out o does (read_ends r work text o call h q)
  answer_begins begins more r out o (Making work call not h does) q = more work [] out o does (made_ends r work o call not q).1

-- what comes of a text comes to more
pub answers_more : (A B : Work → List ℕ → Outcome → Type 0) (words : List (List ℕ)) → ((work : Work) (text : List ℕ) (o : Outcome) → A work text o → B work text o) → (r : Reading) (o : Outcome) → Answers A words r o → Answers B words r o
answers_more A B words f r o (Misused none h is) = Misused none h is
answers_more A B words f r o (Swamped work call reads h is) = Swamped work call reads h is
answers_more A B words f r o (Unreadable work call reads h is) = Unreadable work call reads h is
answers_more A B words f r o (Read work text call reads h does) = Read work text call reads h (f work text o does)
answers_more A B words f r o (Made work call not h does) = Made work call not h (f work [] o does)

pub begins_more : (A B : Work → List ℕ → List ℕ → Type 0) (words : List (List ℕ)) → ((work : Work) (text out : List ℕ) → A work text out → B work text out) → (r : Reading) (out : List ℕ) → Begins A words r out → Begins B words r out
begins_more A B words f r out (InWords h none) = InWords h none
begins_more A B words f r out (InReading work call reads h none) = InReading work call reads h none
begins_more A B words f r out (Behind work text call reads h does) = Behind work text call reads h (f work text out does)
begins_more A B words f r out (Making work call not h does) = Making work call not h (f work [] out does)
