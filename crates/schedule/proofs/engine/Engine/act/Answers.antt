use Rattle.std.proofs.Common.{◌≡◌, sym, refl, ◌∙◌}
use Rattle.schedule.specs.declared.database.Progress.TheVariants.{Waits, Ended}
use Rattle.schedule.specs.Run.{stepped}
use Rattle.schedule.proofs.Results.{ok_more, if_ok_more}
use Rattle.schedule.proofs.engine.Engine.act.Goals as goal

pub returns-in-Waits-clause-leaves : goal.returns-in-Waits-clause-leaves
returns-in-Waits-clause-leaves g c w st =
    let is : Waits ≡ g.D.Database.rules.progress w.db c.args.s = sym c.in-Waits.is ∙ c.in_ok-step.ensures.progress w.db st.db in
    rw (sym is) (c.pause.ensures.leaves (stepped g.D.Database.rules w c.args.s) (record {
      db = c.in_ok-step.ensures.stands w.db st.db;
      permutations = st.permutations;
      tasks = st.tasks;
      seats = st.seats;
      held = st.held;
      last = st.last;
      turn = refl;
      end = st.end;
    }))

pub returns-in-Waits-clause-report : goal.returns-in-Waits-clause-report
returns-in-Waits-clause-report g c w st =
    let is : Waits ≡ g.D.Database.rules.progress w.db c.args.s = sym c.in-Waits.is ∙ c.in_ok-step.ensures.progress w.db st.db in
    rw (sym is) (c.pause.ensures.report (stepped g.D.Database.rules w c.args.s) (record {
      db = c.in_ok-step.ensures.stands w.db st.db;
      permutations = st.permutations;
      tasks = st.tasks;
      seats = st.seats;
      held = st.held;
      last = st.last;
      turn = refl;
      end = st.end;
    }))

pub returns-in-Ended-clause-leaves : goal.returns-in-Ended-clause-leaves
returns-in-Ended-clause-leaves g c = ok_more c.end.result _ _ (λ f w st.
    let is : Ended ≡ g.D.Database.rules.progress w.db c.args.s = sym c.in-Ended.is ∙ c.in_ok-step.ensures.progress w.db st.db in
    rw (sym is) (f (stepped g.D.Database.rules w c.args.s) (record {
      db = c.in_ok-step.ensures.stands w.db st.db;
      permutations = st.permutations;
      tasks = st.tasks;
      seats = st.seats;
      held = st.held;
      last = st.last;
      turn = refl;
      end = st.end;
    }))) c.end.ensures.leaves

pub returns-in-Ended-clause-report : goal.returns-in-Ended-clause-report
returns-in-Ended-clause-report g c = if_ok_more c.end.result _ _ (λ r f w st.
    let is : Ended ≡ g.D.Database.rules.progress w.db c.args.s = sym c.in-Ended.is ∙ c.in_ok-step.ensures.progress w.db st.db in
    rw (sym is) (f (stepped g.D.Database.rules w c.args.s) (record {
      db = c.in_ok-step.ensures.stands w.db st.db;
      permutations = st.permutations;
      tasks = st.tasks;
      seats = st.seats;
      held = st.held;
      last = st.last;
      turn = refl;
      end = st.end;
    }))) c.end.ensures.report
