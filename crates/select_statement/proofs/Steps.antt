-- The parts of a SELECT.
use Rattle.std.proofs.Common.{Bool, Err, List, None, Ok, Result, ℕ, [], ap, false, refl, subst, sym, true, ◌+◌, ◌-◌, ◌∙◌, ◌≡◌}
use Rattle.pg_values.specs.Refusals.{IsAnswer}
use Rattle.pg_values.specs.declared.answer.Answer.{Answer}
use Rattle.pg_values.specs.declared.fault.Fault.{Fault}
use Rattle.pg_values.specs.declared.fault.Refusal.{Refusal}
use Rattle.pg_values.specs.declared.fault.Refusal.TheVariants.{Sql, NoMemory}
use Rattle.pg_values.specs.declared.value.Value.{Value}
use Rattle.pg_values.specs.declared.ids.LeafId.{LeafId}
use Rattle.refusals.specs.Refusals.{statement_cancelled}
use Rattle.history.specs.History.{History}
use Rattle.history.specs.Snapshots.{TakenSnapshot}
use Rattle.tx_table.specs.Kept.{KeptSnapshot}
use Rattle.plan_tree.specs.Laws.{shown}
use Rattle.expression_binder.specs.Firsts.{IsAnswerBy}
use Rattle.cond_logic.specs.Asked.{SelectMeant}
use Rattle.plan_tree.specs.Plans.{Planned}
use Rattle.select_answer.specs.Answer.{AreLent, answer_of, select_course}
use Rattle.select_answer.specs.Course.{Course, IsRead, reads_of}
use Rattle.stores.specs.Events.{look_of}
use Rattle.stores.specs.Stand.{Stands}
use Rattle.stores.specs.declared.stores.Stores.{Stores}
use Rattle.statement_steps.specs.Made.{Made, Refused, made, halted}
use Rattle.statement_steps.specs.Attempts.{MayAttempt}
use Rattle.statement_steps.specs.declared.caller.Caller.{Caller}
use Rattle.statement_steps.specs.declared.stop.Stop.{Stop}
use Rattle.statement_steps.specs.declared.stop.Stop.TheVariants as stop
use Rattle.statement_steps.proofs.Numbers.{one_later}
use Rattle.statement_steps.specs.Faults.{stop_of}
use Rattle.statement_steps.specs.Steps.{IsTold, IsStep}
use Rattle.statement_steps.proofs.Parts.{stays, still_on, nothing_done, refused_here, no_memory}
use Rattle.sql_ast.specs.Queries.{SelectTree}
use Rattle.select_statement.specs.Explained.{told, printed}
use Rattle.select_statement.specs.Gathered.{Found}
use Rattle.select_statement.specs.Lent.{IsLookFor}
use Rattle.select_statement.specs.Selected.{answered, outcome, told_by, told_of, uncancelled, with_reads}
use Rattle.select_statement.specs.declared.answered.Answered.{Answered}

-- ---- a part by which nothing happens

pub outcome_done : {X T : Type 0} (view : X → T) (x : X) (stores : Stores) (caller : Caller) (wanted : Result T Fault) → MayAttempt stores caller → wanted ≡ Ok (view x) → IsStep view (Ok x) stores stores caller caller.cmd (λ h. outcome wanted)
outcome_done view x stores caller wanted may e = nothing_done view x stores caller (λ h. outcome wanted) may (λ h stands. ap outcome e)

pub outcome_refused : {X T : Type 0} (view : X → T) (r : Refusal) (stores : Stores) (caller : Caller) (wanted : Result T Fault) → MayAttempt stores caller → IsAnswerBy view (Err r) wanted
    → IsStep view (Err (stop_of r)) stores stores caller caller.cmd (λ h. outcome wanted)
outcome_refused view (Sql f) stores caller wanted may e = refused_here view f stores caller caller.cmd (λ h. outcome wanted) may (λ h stands. ap outcome e)
outcome_refused view NoMemory stores caller wanted may e = no_memory view stores stores caller caller.cmd (λ h. outcome wanted) (stays stores caller.session)

-- ---- the answer

-- what a run of the select gives, at each history for which the stores and the snapshot stand
abbrev pub Answers : Result Answer Refusal → Stores → Caller → (args : List Value) → SelectMeant → Planned → KeptSnapshot → Type 0
Answers r stores caller args m plan snap = (h : History) (s : TakenSnapshot) → AreLent stores.txs stores.rows snap h s → IsAnswer r (answer_of m (select_course (caller.sessions - 1) args m (shown h s) plan []))

-- and what it has read
abbrev pub Reads : Result Answer Refusal → List LeafId → Stores → Caller → (args : List Value) → SelectMeant → Planned → KeptSnapshot → Type 0
Reads r now stores caller args m plan snap = (h : History) (s : TakenSnapshot) → AreLent stores.txs stores.rows snap h s → IsRead r now (select_course (caller.sessions - 1) args m (shown h s) plan [])

-- a run for so many sessions that has read nothing before
pub told_for : (r : Result Answer Refusal) (stores : Stores) (caller : Caller) (args : List Value) (m : SelectMeant) (plan : Planned) (snap : KeptSnapshot) (n : ℕ) (before : List LeafId)
    → n ≡ caller.sessions - 1 → before ≡ [] → ((h : History) (s : TakenSnapshot) → AreLent stores.txs stores.rows snap h s → IsAnswer r (answer_of m (select_course n args m (shown h s) plan before)))
    → Answers r stores caller args m plan snap
told_for r stores caller args m plan snap n before count fresh answers h s are =
    let counted = subst (λ k. IsAnswer r (answer_of m (select_course k args m (shown h s) plan before))) count (answers h s are) in
    subst (λ ls. IsAnswer r (answer_of m (select_course (caller.sessions - 1) args m (shown h s) plan ls))) fresh counted

pub read_for_it : (r : Result Answer Refusal) (now : List LeafId) (stores : Stores) (caller : Caller) (args : List Value) (m : SelectMeant) (plan : Planned) (snap : KeptSnapshot) (n : ℕ) (before : List LeafId)
    → n ≡ caller.sessions - 1 → before ≡ [] → ((h : History) (s : TakenSnapshot) → AreLent stores.txs stores.rows snap h s → IsRead r now (select_course n args m (shown h s) plan before))
    → Reads r now stores caller args m plan snap
read_for_it r now stores caller args m plan snap n before count fresh reads h s are =
    let counted = subst (λ k. IsRead r now (select_course k args m (shown h s) plan before)) count (reads h s are) in
    subst (λ ls. IsRead r now (select_course (caller.sessions - 1) args m (shown h s) plan ls)) fresh counted

pub lent : (stores : Stores) (caller : Caller) (snap : KeptSnapshot) (h : History) → IsLookFor stores caller snap → Stands stores h → AreLent stores.txs stores.rows snap h (look_of h caller.session caller.cmd)
lent stores caller snap h look stands = record { table = stands.all.txs; rows = stands.all.rows; read = look.read h stands.all.txs stands.good; snapshot = look.stands h stands.all.txs }

-- the answer with what was read
is_told : (m : SelectMeant) (w : Course) (a : Answered) → answer_of m w ≡ Ok a.answer → a.trail.leaves ≡ reads_of w → told_of m w ≡ Ok (told_by a)
is_told m w a answer reads = ap (with_reads (reads_of w)) answer ∙ ap (λ ls. with_reads ls (Ok a.answer)) (sym reads)

pub answer_done : (a : Answered) (stores : Stores) (caller : Caller) (args : List Value) (m : SelectMeant) (plan : Planned) (snap : KeptSnapshot) → MayAttempt stores caller → IsLookFor stores caller snap → Answers (Ok a.answer) stores caller args m plan snap
    → Reads (Ok a.answer) a.trail.leaves stores caller args m plan snap → IsStep told_by (Ok a) stores stores caller (caller.cmd + 1) (answered caller args m plan)
answer_done a stores caller args m plan snap may look answers reads = record {
  is = λ h stands at.
      let are = lent stores caller snap h look stands in
      let s = look_of h caller.session caller.cmd in
      let told = is_told m (select_course (caller.sessions - 1) args m (shown h s) plan []) a (answers h s are) (reads h s are) in
      subst (IsTold told_by (Ok a) stores caller (caller.cmd + 1) h) (sym (ap outcome told))
      (refl, still_on stores h caller.session (caller.cmd + 1) stands (one_later h caller.session caller.cmd at));
  keeps = stays stores caller.session;
  waits = may.idle;
}

pub answer_refused : (r : Refusal) (stores : Stores) (caller : Caller) (args : List Value) (m : SelectMeant) (plan : Planned) (snap : KeptSnapshot) → MayAttempt stores caller → IsLookFor stores caller snap → Answers (Err r) stores caller args m plan snap
    → IsStep told_by (Err (stop_of r)) stores stores caller (caller.cmd + 1) (answered caller args m plan)
answer_refused (Sql f) stores caller args m plan snap may look answers =
    refused_here told_by f stores caller (caller.cmd + 1) (answered caller args m plan) may (λ h stands.
    let w = select_course (caller.sessions - 1) args m (shown h (look_of h caller.session caller.cmd)) plan [] in
    ap outcome (ap (with_reads (reads_of w)) (answers h (look_of h caller.session caller.cmd) (lent stores caller snap h look stands))))
answer_refused NoMemory stores caller args m plan snap may look answers = no_memory told_by stores stores caller (caller.cmd + 1) (answered caller args m plan) (stays stores caller.session)

-- ---- a plan that is printed

pub printed_done : (a : Answer) (stores : Stores) (caller : Caller) (t : SelectTree) (g : Found) (p : Planned) → MayAttempt stores caller → a ≡ told t g None p → IsStep (λ (x : Answer). x) (Ok a) stores stores caller (caller.cmd + 1) (printed t g p)
printed_done a stores caller t g p may e = record {
  is = λ h stands at.
      subst (λ m. IsTold (λ (x : Answer). x) (Ok a) stores caller (caller.cmd + 1) h (made [] m)) e
      (refl, still_on stores h caller.session (caller.cmd + 1) stands (one_later h caller.session caller.cmd at));
  keeps = stays stores caller.session;
  waits = may.idle;
}

-- ---- stores that have not changed

pub same_stores : {X T : Type 0} {view : X → T} {r : Result X Stop} {old new : Stores} {caller : Caller} {n : ℕ} {f : History → Made T} → new ≡ old → IsStep view r new new caller n f → IsStep view r old old caller n f
same_stores {view = view} {r = r} {caller = caller} {n = n} {f = f} same step = subst (λ (s : Stores). IsStep view r s s caller n f) same step

-- ---- a SELECT that cancels itself, or does not

pub cancelled_here : {X T : Type 0} (see : X → T) (own : Bool) (f : Fault) (g : History → Made T) (stores : Stores) (caller : Caller) (n : ℕ) → MayAttempt stores caller → own ≡ true → f ≡ statement_cancelled
    → IsStep see (Err (stop.Refused f)) stores stores caller n (uncancelled own g)
cancelled_here see own f g stores caller n may e is =
    refused_here see f stores caller n (uncancelled own g) may (λ h stands. ap (λ b. uncancelled b g h) e ∙ ap (λ x. halted [] (Refused x)) (sym is))

pub not_cancelled : {X T : Type 0} {see : X → T} {r : Result X Stop} {stores : Stores} {caller : Caller} {n : ℕ} (own : Bool) (g : History → Made T) → own ≡ false → IsStep see r stores stores caller n g → IsStep see r stores stores caller n (uncancelled own g)
not_cancelled {see = see} {r = r} {stores = stores} {caller = caller} {n = n} own g e step = subst (λ b. IsStep see r stores stores caller n (uncancelled b g)) (sym e) step
