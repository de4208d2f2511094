use Rattle.std.proofs.Common.{◌≡◌, ◌<◌, true, false, List, [], ◌∷◌, ℕ, length, slice_index_or, None, Some, sym, ap, subst, ◌∙◌, refl, arith}
use Rattle.pg_values.specs.Lists.{listed}
use Rattle.history.specs.Locks.{WaitBegan}
use Rattle.history.specs.Waits.{is_cause, waits_for, IsCycle, IsFree, ClosesNone, IsLeastCycle}
use Rattle.history.specs.History.{History, lock_events}
use Rattle.lock_table.specs.Answers.{after}
use Rattle.lock_table.specs.Kept.{KeptLocks}
use Rattle.lock_table.specs.Stands.{Tells, waiting}
use Rattle.lock_table.proofs.Tables.{granted_stands, waited_tells, waited_stands, taken_back}
use Rattle.lock_table.proofs.table.LockTable.ask.Goals as goal

pub returns-then-is_empty-clause-added : goal.returns-then-is_empty-clause-added
returns-then-is_empty-clause-added c h st =
    let free : IsFree (lock_events h) c.args.session c.args.want = λ y. sym (c.causes_of-behind.ensures (lock_events h) st.tells y) ∙ c.is_empty.ensures.none c.if-is_empty.true y in
    rw c.give.ensures.same (granted_stands c.args.self.now c.give.new.self.held h c.args.session c.args.want c.give.ensures.low c.requires.idle free c.give.ensures.holds st)

pub returns-in-Some-clause-answer : goal.returns-in-Some-clause-answer
returns-in-Some-clause-answer c h st =
    let T : KeptLocks → Type 0 = λ k. Tells k.held k.wants k.queue (WaitBegan c.args.session c.args.want ∷ lock_events h) in
    c.in-Some.ensures.found (WaitBegan c.args.session c.args.want ∷ lock_events h) (subst T (sym c.begin_wait.ensures.kept) (waited_tells c.args.self.now (lock_events h) c.args.session c.args.want c.requires.session st.tells))

pub returns-in-Some-clause-added : goal.returns-in-Some-clause-added
returns-in-Some-clause-added c h st =
    rw (c.end_wait.ensures, c.begin_wait.ensures.kept, taken_back c.args.self.now c.args.session c.args.want c.requires.session c.requires.idle c.begin_wait.ensures.new) st

pub returns-in-Some-clause-refused : goal.returns-in-Some-clause-refused
returns-in-Some-clause-refused c cycle is =
    rw (c.end_wait.ensures, c.begin_wait.ensures.kept) (taken_back c.args.self.now c.args.session c.args.want c.requires.session c.requires.idle c.begin_wait.ensures.new)

pub returns-in-None-clause-answer : goal.returns-in-None-clause-answer
returns-in-None-clause-answer c h st =
    let T : KeptLocks → Type 0 = λ k. Tells k.held k.wants k.queue (WaitBegan c.args.session c.args.want ∷ lock_events h) in
    let some = c.is_empty.ensures.some c.if-is_empty.false in
    record {
      all = c.causes_of-behind.ensures (lock_events h) st.tells;
      some = (some.0, sym (c.causes_of-behind.ensures (lock_events h) st.tells some.0) ∙ some.2);
      acyclic = c.in-None.ensures.none refl (WaitBegan c.args.session c.args.want ∷ lock_events h) (subst T (sym c.begin_wait.ensures.kept) (waited_tells c.args.self.now (lock_events h) c.args.session c.args.want c.requires.session st.tells));
    }

pub returns-in-None-clause-added : goal.returns-in-None-clause-added
returns-in-None-clause-added c h st =
    let T : KeptLocks → Type 0 = λ k. Tells k.held k.wants k.queue (WaitBegan c.args.session c.args.want ∷ lock_events h) in
    let some = c.is_empty.ensures.some c.if-is_empty.false in
    let low = c.begin_wait.ensures.low in
    rw c.begin_wait.ensures.kept (waited_stands c.args.self.now (lock_events h) c.args.session c.args.want c.requires.session (record {
      session = omega arith;
      idle = sym (st.tells.wants c.args.session) ∙ c.requires.idle;
      cause = (some.0, sym (c.causes_of-behind.ensures (lock_events h) st.tells some.0) ∙ some.2);
      acyclic = c.in-None.ensures.none refl (WaitBegan c.args.session c.args.want ∷ lock_events h) (subst T (sym c.begin_wait.ensures.kept) (waited_tells c.args.self.now (lock_events h) c.args.session c.args.want c.requires.session st.tells));
    }) st)
