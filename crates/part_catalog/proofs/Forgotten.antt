-- What is gone is seen by nobody, and stays gone.
use Rattle.std.proofs.Common.{◌≡◌, ◌≢◌, ℕ, arith, ap, refl, sym, subst, ◌∙◌, Bool, true, false, ◌==◌, ◌||◌, ◌++◌, List, [], ◌∷◌, Option, Some, None, filter, inl, inr}
use Rattle.std.specs.List.{All, find}
use Rattle.std.proofs.lemmas.Bool.{cases_Bool}
use Rattle.std.proofs.lemmas.Bool.Decides.{nat_tests}
use Rattle.std.proofs.lemmas.Grind.{common_steps}
use Rattle.std.proofs.lemmas.List.Elements.{All-cons, All-head, All-tail}
use Rattle.history.specs.declared.transaction.Fate.TheVariants.{Running, Aborted}
use Rattle.history.specs.declared.catalogue.Entry.{Entry}
use Rattle.history.specs.declared.catalogue.Stamp.{Stamp}
use Rattle.history.specs.Transactions.{TxEvents, TxEvent, fate, open_of, was_aborted, is_committed, IsSound}
use Rattle.history.specs.Catalogue.{EntryEnded, entries_added, entry_ends, newest_of, counted_of, standing}
use Rattle.history.specs.History.{History, TxChange, CatalogueChange, tx_events, catalogue_events}
use Rattle.history.specs.Places.{AreCatalogueSound}
use Rattle.history.specs.Presence.{is_own, counts, stamp_counts, is_present, is_shown}
use Rattle.history.proofs.Open.{open_runs}
use Rattle.history.proofs.Settled.{settled, aborts_stay}
use Rattle.history.proofs.Stamps.{newest_end_counts}
use Rattle.part_catalog.specs.Forgotten.{is_over, is_gone, IsGone, Thins, GoneAreHidden, GoneStayGone, ForgottenAreNotMissed, ThinStaysThin}

-- ---- what is gone is there for no session

own_runs : (txs : TxEvents) (session tx : ℕ) (o : Option ℕ) → IsSound txs → open_of txs session ≡ o → was_aborted txs tx ≡ true → is_own o tx ≡ false
own_runs txs session tx None sound e gone = refl
own_runs txs session tx (Some t) sound e gone = elim (cases_Bool (t == tx)) [
  | inl same ↦
      let at : t ≡ tx = grind (arith, nat_tests, same) in
      let runs : fate txs tx ≡ Running = ap (fate txs) (sym at) ∙ (open_runs txs session t sound e).runs in
      let over : fate txs tx ≡ Aborted = rw gone refl in
      let both : Running ≡ Aborted = sym runs ∙ over in
      absurd (cc)
  | inr n ↦ n
]

aborted_counts : (txs : TxEvents) (session tx : ℕ) → IsSound txs → was_aborted txs tx ≡ true → counts txs session tx ≡ false
aborted_counts txs session tx sound gone =
    let own = own_runs txs session tx (open_of txs session) sound refl gone in
    rw (gone, own) refl

over_counts : (txs : TxEvents) (session : ℕ) (o : Option Stamp) → is_over txs o ≡ true → stamp_counts txs session (standing txs o) ≡ true
over_counts txs session None over = absurd (cc)
over_counts txs session (Some s) over = grind (arith, common_steps, over)

left_only : (b c : Bool) → b ≡ false → (b || c) ≡ true → c ≡ true
left_only true c off e = absurd (cc)
left_only false c off e = e

pub gone_are_hidden : GoneAreHidden
gone_are_hidden h session e sound cat gone =
    let txs = tx_events h in
    let newest = newest_of (entry_ends (catalogue_events h)) e.id.number in
    elim (cases_Bool (was_aborted txs e.by.number)) [
      | inl y ↦ let off = aborted_counts txs session e.by.number sound y in rw off refl
      | inr n ↦
          let over : is_over txs newest ≡ true = left_only (was_aborted txs e.by.number) (is_over txs newest) n gone in
          let told = newest_end_counts h e.id.number cat in
          let on : stamp_counts txs session (counted_of txs (entry_ends (catalogue_events h)) e.id.number) ≡ true = ap (stamp_counts txs session) told ∙ over_counts txs session newest over in
          elim (cases_Bool (counts txs session e.by.number)) [ inl u ↦ rw (u, on) refl | inr v ↦ rw v refl ]
    ]

-- ---- it stays gone

fate_stays : (e : TxEvent) (txs : TxEvents) (tx : ℕ) → IsSound (e ∷ txs) → is_committed (fate txs tx) ≡ true → is_committed (fate (e ∷ txs) tx) ≡ true
fate_stays e txs tx sound holds =
    let over : fate txs tx ≢ Running = λ runs. absurd (let a : false ≡ true = ap is_committed (sym runs) ∙ holds in cc) in
    ap is_committed (settled (e ∷ []) txs tx sound over) ∙ holds

over_stays : (e : TxEvent) (txs : TxEvents) (o : Option Stamp) → IsSound (e ∷ txs) → is_over txs o ≡ true → is_over (e ∷ txs) o ≡ true
over_stays e txs None sound y = y
over_stays e txs (Some s) sound y = fate_stays e txs s.by.number sound y

or_two : (a b x y : Bool) → (a ≡ true → x ≡ true) → (b ≡ true → y ≡ true) → (a || b) ≡ true → (x || y) ≡ true
or_two true b x y f g e = let p = f refl in rw p refl
or_two false true x y f g e = let q = g refl in elim (cases_Bool x) [ inl u ↦ rw u refl | inr v ↦ rw (v, q) refl ]
or_two false false x y f g e = absurd (cc)

over_stands : (txs : TxEvents) (o : Option Stamp) → is_over txs o ≡ true → standing txs o ≡ None → ⊥
over_stands txs None over none = absurd (cc)
over_stands txs (Some s) over none = elim (cases_Bool (was_aborted txs s.by.number)) [
  | inl y ↦ let off : is_committed (fate txs s.by.number) ≡ false = rw y refl in absurd (cc)
  | inr n ↦ let some : standing txs (Some s) ≡ Some s = rw n refl in absurd (cc)
]

-- an end of an entry that is gone: its birth was aborted, since no end of it counts
pub ended_gone : (h : History) (n : ℕ) (s : Stamp) (e : Entry) → AreCatalogueSound h → counted_of (tx_events h) (entry_ends (catalogue_events h)) n ≡ None → is_gone h e ≡ true → is_gone (CatalogueChange (EntryEnded n s) ∷ h) e ≡ true
ended_gone h n s e cat none gone = elim (cases_Bool (n == e.id.number)) [
  | inl y ↦
      let txs = tx_events h in
      let newest = newest_of (entry_ends (catalogue_events h)) e.id.number in
      elim (cases_Bool (was_aborted txs e.by.number)) [
        | inl a ↦ rw a refl
        | inr b ↦
            let same : n ≡ e.id.number = grind (arith, nat_tests, y) in
            let over : is_over txs newest ≡ true = left_only (was_aborted txs e.by.number) (is_over txs newest) b gone in
            let off : standing txs newest ≡ None = sym (newest_end_counts h e.id.number cat) ∙ ap (counted_of txs (entry_ends (catalogue_events h))) (sym same) ∙ none in
            absurd (over_stands txs newest over off)
      ]
  | inr other ↦ rw other gone
]

pub gone_stay_gone : GoneStayGone
gone_stay_gone (TxChange t) h e sound cat gone =
    let newest = newest_of (entry_ends (catalogue_events h)) e.id.number in
    or_two (was_aborted (tx_events h) e.by.number) (is_over (tx_events h) newest) (was_aborted (t ∷ tx_events h) e.by.number) (is_over (t ∷ tx_events h) newest) (aborts_stay t (tx_events h) e.by.number) (over_stays t (tx_events h) newest sound) gone
gone_stay_gone (CatalogueChange (EntryEnded n s)) h e sound cat gone = ended_gone h n s e cat.1 cat.0.1 gone
gone_stay_gone (CatalogueChange c) h e sound cat gone = gone
gone_stay_gone event h e sound cat gone = gone

-- ---- lists without some that are gone

pub thin_filter : (P : Entry → Type 0) (p : Entry → Bool) → ((e : Entry) → P e → p e ≡ false) → (xs ys : List Entry) → Thins P xs ys → filter p ys ≡ filter p xs
thin_filter P p hides [] [] t = refl
thin_filter P p hides [] (y ∷ ys) t = absurd t
thin_filter P p hides (x ∷ xs) ys t = elim t [
  | inl gone ↦ let off : p x ≡ false = hides x gone.0 in rw off (thin_filter P p hides xs ys gone.1)
  | inr kept ↦
      let rest = thin_filter P p hides xs kept.0 kept.2 in
      elim (cases_Bool (p x)) [
        | inl y ↦ rw (kept.1, y) (ap (λ es. x ∷ es) rest)
        | inr n ↦ rw (kept.1, n) rest
      ]
]

pub thin_weaker : (P Q : Entry → Type 0) → ((e : Entry) → P e → Q e) → (xs ys : List Entry) → Thins P xs ys → Thins Q xs ys
thin_weaker P Q weaker [] [] t = t
thin_weaker P Q weaker [] (y ∷ ys) t = t
thin_weaker P Q weaker (x ∷ xs) ys t = elim t [
  | inl gone ↦ inl (weaker x gone.0, thin_weaker P Q weaker xs ys gone.1)
  | inr kept ↦ inr (kept.0, kept.1, thin_weaker P Q weaker xs kept.0 kept.2)
]

-- one more stands at the end of both
pub thin_more : (P : Entry → Type 0) (xs ys : List Entry) (e : Entry) → Thins P xs ys → Thins P (xs ++ e ∷ []) (ys ++ e ∷ [])
thin_more P [] [] e t = inr ([], refl, tt)
thin_more P [] (y ∷ ys) e t = absurd t
thin_more P (x ∷ xs) ys e t = elim t [
  | inl gone ↦ inl (gone.0, thin_more P xs ys e gone.1)
  | inr kept ↦ inr (kept.0 ++ e ∷ [], ap (λ es. es ++ e ∷ []) kept.1, thin_more P xs kept.0 e kept.2)
]

-- the first that passes
pub thin_find : (P : Entry → Type 0) (p : Entry → Bool) → ((e : Entry) → P e → p e ≡ false) → (xs ys : List Entry) → Thins P xs ys → find p ys ≡ find p xs
thin_find P p hides [] [] t = refl
thin_find P p hides [] (y ∷ ys) t = absurd t
thin_find P p hides (x ∷ xs) ys t = elim t [
  | inl gone ↦ let off : p x ≡ false = hides x gone.0 in rw off (thin_find P p hides xs ys gone.1)
  | inr kept ↦
      let rest = thin_find P p hides xs kept.0 kept.2 in
      elim (cases_Bool (p x)) [ inl y ↦ rw (kept.1, y) refl | inr n ↦ rw (kept.1, n) rest ]
]

-- what holds of all holds of those that are left
pub thin_all : (P Q : Entry → Type 0) (xs ys : List Entry) → Thins P xs ys → All Q xs → All Q ys
thin_all P Q [] [] t all = all
thin_all P Q [] (y ∷ ys) t all = absurd t
thin_all P Q (x ∷ xs) ys t all = elim t [
  | inl gone ↦ thin_all P Q xs ys gone.1 (All-tail Q x xs all)
  | inr kept ↦ subst (All Q) (sym kept.1) (All-cons Q x kept.0 (All-head Q x xs all) (thin_all P Q xs kept.0 kept.2 (All-tail Q x xs all)))
]

pub forgotten_are_not_missed : ForgottenAreNotMissed
forgotten_are_not_missed h session snap kept sound cat thin =
    let all = entries_added (catalogue_events h) in (
      thin_filter (IsGone h) (is_present h session) (λ e gone. gone_are_hidden h session e sound cat gone) all kept thin,
      thin_filter (IsGone h) (is_shown h session snap) (λ e gone. let off = gone_are_hidden h session e sound cat gone in rw off refl) all kept thin,
    )

pub thin_stays_thin : ThinStaysThin
thin_stays_thin event h all kept sound cat thin = thin_weaker (IsGone h) (IsGone (event ∷ h)) (λ e gone. gone_stay_gone event h e sound cat gone) all kept thin
