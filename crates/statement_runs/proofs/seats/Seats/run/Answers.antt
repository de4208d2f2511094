use Rattle.std.proofs.Common.{arith, rules, ◌≡◌, ◌<◌, ◌≤◌, ◌+◌, ◌++◌, ◌∷◌, [], false, refl, length, subst, sym, ap, ◌∙◌, is_some, Some, None, Ok, Err, slice_index_or, slice_set}
use Rattle.history.specs.History.{History}
use Rattle.sessions.specs.declared.outcome.Outcome.TheVariants as outcomes
use Rattle.sql_ast.specs.Statements.{statement_tree}
use Rattle.stores.specs.Numbers.{IsAt}
use Rattle.prepared_statements.specs.Kept.{listed}
use Rattle.statement_steps.specs.Attempts.{CanGoOn, IsAttempt, IsHalt}
use Rattle.statement_runs.specs.Attempted.{attempted}
use Rattle.statement_runs.specs.Database.{caller_of, refused_first}
use Rattle.statement_runs.specs.Given.{statement_given}
use Rattle.statement_steps.specs.Made.{number_after}
use Rattle.statement_runs.specs.Kept.{AreSeated, TellOf}
use Rattle.statement_runs.specs.Ran.{attempt_at, given_at, HasRun}
use Rattle.statement_runs.specs.Tallies.{added, Grows}
use Rattle.statement_runs.specs.Weight.{slack}
use Rattle.statement_runs.specs.contracts.seats.Seats.{the_view}
use Rattle.statement_steps.specs.declared.ending.Ending.{Ending}
use Rattle.statement_steps.specs.declared.ending.Ending.TheVariants as endings
use Rattle.statement_steps.specs.declared.rest.Rest.TheVariants.{Detach}
use Rattle.statement_steps.specs.declared.stop.Stop.TheVariants as stop
use Rattle.statement_runs.proofs.Lower.{tried_lower}
use Rattle.statement_runs.proofs.Steps.{seats, seated_after, same_size, as_long, known_of}
use Rattle.statement_runs.proofs.Runs.{IsTried, tried, as_meant, cut_gives, given_in, set_twice, first_ran, first_tells, done_tells, done_ran, refused_tells, refused_ran, commits_tells, commits_ran, waits_tells, waits_ran, ran_kept, goes_size, one_more}
use Rattle.statement_runs.proofs.seats.Seats.run.Goals as goal

pub returns-in-Some-clause-ran : goal.returns-in-Some-clause-ran
returns-in-Some-clause-ran c h tells =
    let number = (c.number_at-cmd.ensures ∙ ap (λ xs. slice_index_or xs c.args.asker.session 0) c.deref.ensures.value) in
    let first = (c.in_ok-refusal.ensures.is ∙ (ap (λ b. refused_first b c.number_at-cmd.result) (c.flag_at-cancelled.ensures ∙ ap (λ xs. slice_index_or xs c.args.asker.session false) c.deref-2.ensures.value) ∙ ap (refused_first (slice_index_or c.self.inside.cancelled.items c.args.asker.session false)) number)) in
    subst (λ v. TellOf v h → HasRun (attempt_at c.args.options.now v c.args.asker h c.args.settings (listed c.args.prepared.now) (statement_tree c.args.statement.now)) c.args.asker v
    (seats c.self.inside.stores c.self.inside.opened.items c.self.inside.commands.items (slice_set c.self.inside.cancelled.items c.args.asker.session false) (slice_set c.self.inside.rests.items c.args.asker.session None) c.self.inside.moved.items c.self.inside.queue.items c.self.inside.ready c.self.inside.whole)
    c.args.out.now.items c.args.out.now.items (outcomes.Refused c.in-Some.fault) h) c.self.view_is
    (λ told. first_ran (the_view c.self.inside) c.args.asker h c.args.out.now.items c.in-Some.fault _ c.self.invariant.seated (subst (λ v. c.args.asker.session < length v.opened) (sym c.self.view_is) c.requires.known) c.if-not-self.false
    (sym first ∙ c.in-Some.is) told)
    tells

pub invariant_of-self : goal.invariant_of-self
invariant_of-self c =
    ran_kept (the_view c.self.inside) (seats c.self.inside.stores c.self.inside.opened.items c.self.inside.commands.items (slice_set c.self.inside.cancelled.items c.args.asker.session false) (slice_set c.self.inside.rests.items c.args.asker.session None) c.self.inside.moved.items c.self.inside.queue.items c.self.inside.ready c.self.inside.whole) c.self.invariant c.if-not-self.false
    (seated_after (the_view c.self.inside) c.self.inside.stores _ _ _ _ _ _ _ _ c.self.invariant.seated refl refl (as_long _ _ _) (as_long _ _ _) refl (same_size c.self.inside.stores) c.self.invariant.seated.queue c.self.invariant.seated.ready)
    (λ h told. (h, first_tells (the_view c.self.inside) c.args.asker.session h c.self.invariant.seated (subst (λ v. c.args.asker.session < length v.opened) (sym c.self.view_is) c.requires.known) told))

pub overflow_add-next : goal.overflow_add-next
overflow_add-next c = let low = (c.in_ok-refusal.ensures.free c.in_default.is).1 in omega (arith, low)

pub attempt-answer-requires-clause-rest : goal.attempt-answer-requires-clause-rest
attempt-answer-requires-clause-rest c =
    let number = (c.number_at-cmd.ensures ∙ ap (λ xs. slice_index_or xs c.args.asker.session 0) c.deref.ensures.value) in
    let s = c.self.invariant.sound c.if-not-self.false in
    record {
      sound = (s.0, s.1.stands, subst (IsAt s.0 c.args.asker.session) (sym number) (s.1.numbered c.args.asker.session), subst (CanGoOn s.0 c.args.asker.session) (sym c.take_rest-rest.ensures.is) (s.1.waits.going_on c.args.asker.session));
      next = (c.in_ok-refusal.ensures.free c.in_default.is).1;
    }

pub invariant_of-self-in-Done : goal.invariant_of-self-in-Done
invariant_of-self-in-Done c =
    let number = (c.number_at-cmd.ensures ∙ ap (λ xs. slice_index_or xs c.args.asker.session 0) c.deref.ensures.value) in
    let it : IsTried (the_view c.self.inside) c.args.asker.session c.attempt-answer.new.stores c.ready-self-inside.result = record {
      seated = c.self.invariant.seated;
      known = (subst (λ v. c.args.asker.session < length v.opened) (sym c.self.view_is) c.requires.known);
      whole = c.if-not-self.false;
      flag = ap (λ xs. slice_index_or xs c.args.asker.session false) (sym c.deref-2.ensures.value) ∙ (sym c.flag_at-cancelled.ensures ∙ (c.in_ok-refusal.ensures.free c.in_default.is).0);
      low = subst (λ n. n < 4294967294) number (c.in_ok-refusal.ensures.free c.in_default.is).1;
      goes = c.attempt-answer.ensures.is.keeps;
      readies = c.ready-self-inside.ensures.is;
    } in
    ran_kept (the_view c.self.inside) (tried (the_view c.self.inside) c.attempt-answer.new.stores (slice_set c.self.inside.commands.items c.args.asker.session (c.number_at-cmd.result + 1)) c.take_rest-rest.new.rests.items c.self.inside.queue.items c.ready-self-inside.result) c.self.invariant c.if-not-self.false
    (seated_after (the_view c.self.inside) c.attempt-answer.new.stores _ _ _ _ _ _ _ _ c.self.invariant.seated refl (as_long _ _ _) refl (ap length c.take_rest-rest.ensures.taken ∙ as_long _ _ _) refl (goes_size c.self.inside.stores c.attempt-answer.new.stores c.args.asker.session c.attempt-answer.ensures.is.keeps) c.self.invariant.seated.queue (known_of (length c.attempt-answer.new.stores.locks.wants) c.ready-self-inside.result (length c.self.inside.opened.items) (c.attempt-answer.ensures.is.keeps.size.sessions ∙ c.self.invariant.seated.waits) c.ready-self-inside.ensures.known))
    (λ h told. (_, done_tells (the_view c.self.inside) c.args.asker c.attempt-answer.new.stores (c.number_at-cmd.result + 1) c.take_rest-rest.new.rests.items c.ready-self-inside.result h c.args.out.now.items c.attempt-answer.new.out.items _ it told (ap (λ n. n + 1) number) c.take_rest-rest.ensures.taken c.in-Ok.ensures.is.waits (as_meant c.args.options.now (the_view c.self.inside) c.args.asker h c.args.settings (listed c.args.prepared.now) (statement_tree c.args.statement.now) c.count-sessions.result c.number_at-cmd.result c.take_rest-rest.result (Ok endings.Done) c.attempt-answer.new.stores c.args.out.now.items c.attempt-answer.new.out.items (c.count-sessions.ensures.is ∙ ap (λ v. length v.opened) (sym c.self.view_is)) number c.take_rest-rest.ensures.is (subst (λ x. IsAttempt (Ok x) c.attempt-answer.new.stores c.args.out.now.items c.attempt-answer.new.out.items (record { session = c.args.asker.session; sessions = c.count-sessions.result; level = c.args.asker.level; cmd = c.number_at-cmd.result; kind = c.args.asker.kind }) h (attempted c.args.options.now (caller_of c.count-sessions.result c.number_at-cmd.result c.args.asker) c.take_rest-rest.result c.args.settings (listed c.args.prepared.now) (statement_tree c.args.statement.now) h)) c.in-Done.is (c.in-Ok.ensures.is.is h told.stands (subst (IsAt h c.args.asker.session) (sym number) (told.numbered c.args.asker.session)) (subst (CanGoOn h c.args.asker.session) (sym c.take_rest-rest.ensures.is) (told.waits.going_on c.args.asker.session)))))))

pub returns-in-Done-clause-ran : goal.returns-in-Done-clause-ran
returns-in-Done-clause-ran c h tells =
    let number = (c.number_at-cmd.ensures ∙ ap (λ xs. slice_index_or xs c.args.asker.session 0) c.deref.ensures.value) in
    let it : IsTried (the_view c.self.inside) c.args.asker.session c.attempt-answer.new.stores c.ready-self-inside.result = record {
      seated = c.self.invariant.seated;
      known = (subst (λ v. c.args.asker.session < length v.opened) (sym c.self.view_is) c.requires.known);
      whole = c.if-not-self.false;
      flag = ap (λ xs. slice_index_or xs c.args.asker.session false) (sym c.deref-2.ensures.value) ∙ (sym c.flag_at-cancelled.ensures ∙ (c.in_ok-refusal.ensures.free c.in_default.is).0);
      low = subst (λ n. n < 4294967294) number (c.in_ok-refusal.ensures.free c.in_default.is).1;
      goes = c.attempt-answer.ensures.is.keeps;
      readies = c.ready-self-inside.ensures.is;
    } in
    subst (λ v. TellOf v h → HasRun (attempt_at c.args.options.now v c.args.asker h c.args.settings (listed c.args.prepared.now) (statement_tree c.args.statement.now)) c.args.asker v
    c.give_up.new.self
    c.args.out.now.items c.attempt-answer.new.out.items outcomes.Done h) c.self.view_is
    (λ told. done_ran (the_view c.self.inside) c.give_up.new.self c.args.asker c.attempt-answer.new.stores (c.number_at-cmd.result + 1) c.take_rest-rest.new.rests.items c.ready-self-inside.result c.is_some-has_stood.result h c.args.out.now.items c.attempt-answer.new.out.items _ it told (ap (λ n. n + 1) number) c.take_rest-rest.ensures.taken c.in-Ok.ensures.is.waits (c.is_some-has_stood.ensures ∙ ap is_some c.take_rest-rest.ensures.is)
    c.give_up.ensures.adds c.give_up.ensures.commands c.give_up.ensures.cancelled c.give_up.ensures.rests (as_meant c.args.options.now (the_view c.self.inside) c.args.asker h c.args.settings (listed c.args.prepared.now) (statement_tree c.args.statement.now) c.count-sessions.result c.number_at-cmd.result c.take_rest-rest.result (Ok endings.Done) c.attempt-answer.new.stores c.args.out.now.items c.attempt-answer.new.out.items (c.count-sessions.ensures.is ∙ ap (λ v. length v.opened) (sym c.self.view_is)) number c.take_rest-rest.ensures.is (subst (λ x. IsAttempt (Ok x) c.attempt-answer.new.stores c.args.out.now.items c.attempt-answer.new.out.items (record { session = c.args.asker.session; sessions = c.count-sessions.result; level = c.args.asker.level; cmd = c.number_at-cmd.result; kind = c.args.asker.kind }) h (attempted c.args.options.now (caller_of c.count-sessions.result c.number_at-cmd.result c.args.asker) c.take_rest-rest.result c.args.settings (listed c.args.prepared.now) (statement_tree c.args.statement.now) h)) c.in-Done.is (c.in-Ok.ensures.is.is h told.stands (subst (IsAt h c.args.asker.session) (sym number) (told.numbered c.args.asker.session)) (subst (CanGoOn h c.args.asker.session) (sym c.take_rest-rest.ensures.is) (told.waits.going_on c.args.asker.session))))))
    tells

pub returns-in-Err-Refused-clause-ran : goal.returns-in-Err-Refused-clause-ran
returns-in-Err-Refused-clause-ran c h tells =
    let number = (c.number_at-cmd.ensures ∙ ap (λ xs. slice_index_or xs c.args.asker.session 0) c.deref.ensures.value) in
    let it : IsTried (the_view c.self.inside) c.args.asker.session c.attempt-answer.new.stores c.ready-self-inside.result = record {
      seated = c.self.invariant.seated;
      known = (subst (λ v. c.args.asker.session < length v.opened) (sym c.self.view_is) c.requires.known);
      whole = c.if-not-self.false;
      flag = ap (λ xs. slice_index_or xs c.args.asker.session false) (sym c.deref-2.ensures.value) ∙ (sym c.flag_at-cancelled.ensures ∙ (c.in_ok-refusal.ensures.free c.in_default.is).0);
      low = subst (λ n. n < 4294967294) number (c.in_ok-refusal.ensures.free c.in_default.is).1;
      goes = c.attempt-answer.ensures.is.keeps;
      readies = c.ready-self-inside.ensures.is;
    } in
    subst (λ f. HasRun (attempt_at c.args.options.now c.args.self.now c.args.asker h c.args.settings (listed c.args.prepared.now) (statement_tree c.args.statement.now)) c.args.asker c.args.self.now
    (tried (the_view c.self.inside) c.attempt-answer.new.stores (slice_set c.self.inside.commands.items c.args.asker.session (c.number_at-cmd.result + 1)) c.take_rest-rest.new.rests.items c.self.inside.queue.items c.ready-self-inside.result)
    c.args.out.now.items c.attempt-answer.new.out.items (outcomes.Refused f) h) (sym c.in-Err-Refused.fault-is)
    (subst (λ v. TellOf v h → HasRun (attempt_at c.args.options.now v c.args.asker h c.args.settings (listed c.args.prepared.now) (statement_tree c.args.statement.now)) c.args.asker v
    (tried (the_view c.self.inside) c.attempt-answer.new.stores (slice_set c.self.inside.commands.items c.args.asker.session (c.number_at-cmd.result + 1)) c.take_rest-rest.new.rests.items c.self.inside.queue.items c.ready-self-inside.result)
    c.args.out.now.items c.attempt-answer.new.out.items (outcomes.Refused c.in-Err-Refused.fault) h) c.self.view_is
    (λ told. refused_ran (the_view c.self.inside) c.args.asker c.attempt-answer.new.stores (c.number_at-cmd.result + 1) c.take_rest-rest.new.rests.items c.ready-self-inside.result h c.args.out.now.items c.attempt-answer.new.out.items _ c.in-Err-Refused.fault it told (ap (λ n. n + 1) number) c.take_rest-rest.ensures.taken (subst (λ x. IsHalt (Err x) c.attempt-answer.new.stores c.args.asker.session) c.in-Err-Refused.field-0-is c.in-Err-Refused.ensures.is.waits) (as_meant c.args.options.now (the_view c.self.inside) c.args.asker h c.args.settings (listed c.args.prepared.now) (statement_tree c.args.statement.now) c.count-sessions.result c.number_at-cmd.result c.take_rest-rest.result (Err (stop.Refused c.in-Err-Refused.fault)) c.attempt-answer.new.stores c.args.out.now.items c.attempt-answer.new.out.items (c.count-sessions.ensures.is ∙ ap (λ v. length v.opened) (sym c.self.view_is)) number c.take_rest-rest.ensures.is (subst (λ x. IsAttempt (Err x) c.attempt-answer.new.stores c.args.out.now.items c.attempt-answer.new.out.items (record { session = c.args.asker.session; sessions = c.count-sessions.result; level = c.args.asker.level; cmd = c.number_at-cmd.result; kind = c.args.asker.kind }) h (attempted c.args.options.now (caller_of c.count-sessions.result c.number_at-cmd.result c.args.asker) c.take_rest-rest.result c.args.settings (listed c.args.prepared.now) (statement_tree c.args.statement.now) h)) c.in-Err-Refused.field-0-is (c.in-Err-Refused.ensures.is.is h told.stands (subst (IsAt h c.args.asker.session) (sym number) (told.numbered c.args.asker.session)) (subst (CanGoOn h c.args.asker.session) (sym c.take_rest-rest.ensures.is) (told.waits.going_on c.args.asker.session))))))
    tells)

pub invariant_of-self-in-Err-Refused : goal.invariant_of-self-in-Err-Refused
invariant_of-self-in-Err-Refused c =
    let number = (c.number_at-cmd.ensures ∙ ap (λ xs. slice_index_or xs c.args.asker.session 0) c.deref.ensures.value) in
    let it : IsTried (the_view c.self.inside) c.args.asker.session c.attempt-answer.new.stores c.ready-self-inside.result = record {
      seated = c.self.invariant.seated;
      known = (subst (λ v. c.args.asker.session < length v.opened) (sym c.self.view_is) c.requires.known);
      whole = c.if-not-self.false;
      flag = ap (λ xs. slice_index_or xs c.args.asker.session false) (sym c.deref-2.ensures.value) ∙ (sym c.flag_at-cancelled.ensures ∙ (c.in_ok-refusal.ensures.free c.in_default.is).0);
      low = subst (λ n. n < 4294967294) number (c.in_ok-refusal.ensures.free c.in_default.is).1;
      goes = c.attempt-answer.ensures.is.keeps;
      readies = c.ready-self-inside.ensures.is;
    } in
    ran_kept (the_view c.self.inside) (tried (the_view c.self.inside) c.attempt-answer.new.stores (slice_set c.self.inside.commands.items c.args.asker.session (c.number_at-cmd.result + 1)) c.take_rest-rest.new.rests.items c.self.inside.queue.items c.ready-self-inside.result) c.self.invariant c.if-not-self.false
    (seated_after (the_view c.self.inside) c.attempt-answer.new.stores _ _ _ _ _ _ _ _ c.self.invariant.seated refl (as_long _ _ _) refl (ap length c.take_rest-rest.ensures.taken ∙ as_long _ _ _) refl (goes_size c.self.inside.stores c.attempt-answer.new.stores c.args.asker.session c.attempt-answer.ensures.is.keeps) c.self.invariant.seated.queue (known_of (length c.attempt-answer.new.stores.locks.wants) c.ready-self-inside.result (length c.self.inside.opened.items) (c.attempt-answer.ensures.is.keeps.size.sessions ∙ c.self.invariant.seated.waits) c.ready-self-inside.ensures.known))
    (λ h told. (_, refused_tells (the_view c.self.inside) c.args.asker c.attempt-answer.new.stores (c.number_at-cmd.result + 1) c.take_rest-rest.new.rests.items c.ready-self-inside.result h c.args.out.now.items c.attempt-answer.new.out.items _ c.in-Err-Refused.fault it told (ap (λ n. n + 1) number) c.take_rest-rest.ensures.taken (subst (λ x. IsHalt (Err x) c.attempt-answer.new.stores c.args.asker.session) c.in-Err-Refused.field-0-is c.in-Err-Refused.ensures.is.waits) (as_meant c.args.options.now (the_view c.self.inside) c.args.asker h c.args.settings (listed c.args.prepared.now) (statement_tree c.args.statement.now) c.count-sessions.result c.number_at-cmd.result c.take_rest-rest.result (Err (stop.Refused c.in-Err-Refused.fault)) c.attempt-answer.new.stores c.args.out.now.items c.attempt-answer.new.out.items (c.count-sessions.ensures.is ∙ ap (λ v. length v.opened) (sym c.self.view_is)) number c.take_rest-rest.ensures.is (subst (λ x. IsAttempt (Err x) c.attempt-answer.new.stores c.args.out.now.items c.attempt-answer.new.out.items (record { session = c.args.asker.session; sessions = c.count-sessions.result; level = c.args.asker.level; cmd = c.number_at-cmd.result; kind = c.args.asker.kind }) h (attempted c.args.options.now (caller_of c.count-sessions.result c.number_at-cmd.result c.args.asker) c.take_rest-rest.result c.args.settings (listed c.args.prepared.now) (statement_tree c.args.statement.now) h)) c.in-Err-Refused.field-0-is (c.in-Err-Refused.ensures.is.is h told.stands (subst (IsAt h c.args.asker.session) (sym number) (told.numbered c.args.asker.session)) (subst (CanGoOn h c.args.asker.session) (sym c.take_rest-rest.ensures.is) (told.waits.going_on c.args.asker.session)))))))

pub returns-in-Commits-clause-ran : goal.returns-in-Commits-clause-ran
returns-in-Commits-clause-ran c h tells =
    let number = (c.number_at-cmd.ensures ∙ ap (λ xs. slice_index_or xs c.args.asker.session 0) c.deref.ensures.value) in
    let it : IsTried (the_view c.self.inside) c.args.asker.session c.attempt-answer.new.stores c.ready-self-inside.result = record {
      seated = c.self.invariant.seated;
      known = (subst (λ v. c.args.asker.session < length v.opened) (sym c.self.view_is) c.requires.known);
      whole = c.if-not-self.false;
      flag = ap (λ xs. slice_index_or xs c.args.asker.session false) (sym c.deref-2.ensures.value) ∙ (sym c.flag_at-cancelled.ensures ∙ (c.in_ok-refusal.ensures.free c.in_default.is).0);
      low = subst (λ n. n < 4294967294) number (c.in_ok-refusal.ensures.free c.in_default.is).1;
      goes = c.attempt-answer.ensures.is.keeps;
      readies = c.ready-self-inside.ensures.is;
    } in
    subst (λ v. TellOf v h → HasRun (attempt_at c.args.options.now v c.args.asker h c.args.settings (listed c.args.prepared.now) (statement_tree c.args.statement.now)) c.args.asker v
    (tried (the_view c.self.inside) c.attempt-answer.new.stores (slice_set c.self.inside.commands.items c.args.asker.session (c.number_at-cmd.result + 1)) c.set_rest.new.rests.items c.self.inside.queue.items c.ready-self-inside.result)
    c.args.out.now.items c.attempt-answer.new.out.items outcomes.Commits h) c.self.view_is
    (λ told. commits_ran (the_view c.self.inside) c.args.asker c.attempt-answer.new.stores (c.number_at-cmd.result + 1) c.set_rest.new.rests.items c.ready-self-inside.result h c.args.out.now.items c.attempt-answer.new.out.items _ c.in-Commits.rest it told (ap (λ n. n + 1) number) (c.set_rest.ensures ∙ ((ap (λ xs. slice_set xs c.args.asker.session (Some (Detach c.in-Commits.rest))) c.take_rest-rest.ensures.taken ∙ set_twice c.self.inside.rests.items c.args.asker.session None (Some (Detach c.in-Commits.rest))))) c.in-Ok.ensures.is.waits (as_meant c.args.options.now (the_view c.self.inside) c.args.asker h c.args.settings (listed c.args.prepared.now) (statement_tree c.args.statement.now) c.count-sessions.result c.number_at-cmd.result c.take_rest-rest.result (Ok (endings.Commits c.in-Commits.rest)) c.attempt-answer.new.stores c.args.out.now.items c.attempt-answer.new.out.items (c.count-sessions.ensures.is ∙ ap (λ v. length v.opened) (sym c.self.view_is)) number c.take_rest-rest.ensures.is (subst (λ x. IsAttempt (Ok x) c.attempt-answer.new.stores c.args.out.now.items c.attempt-answer.new.out.items (record { session = c.args.asker.session; sessions = c.count-sessions.result; level = c.args.asker.level; cmd = c.number_at-cmd.result; kind = c.args.asker.kind }) h (attempted c.args.options.now (caller_of c.count-sessions.result c.number_at-cmd.result c.args.asker) c.take_rest-rest.result c.args.settings (listed c.args.prepared.now) (statement_tree c.args.statement.now) h)) c.in-Commits.is (c.in-Ok.ensures.is.is h told.stands (subst (IsAt h c.args.asker.session) (sym number) (told.numbered c.args.asker.session)) (subst (CanGoOn h c.args.asker.session) (sym c.take_rest-rest.ensures.is) (told.waits.going_on c.args.asker.session))))))
    tells

pub invariant_of-self-in-Commits : goal.invariant_of-self-in-Commits
invariant_of-self-in-Commits c =
    let number = (c.number_at-cmd.ensures ∙ ap (λ xs. slice_index_or xs c.args.asker.session 0) c.deref.ensures.value) in
    let it : IsTried (the_view c.self.inside) c.args.asker.session c.attempt-answer.new.stores c.ready-self-inside.result = record {
      seated = c.self.invariant.seated;
      known = (subst (λ v. c.args.asker.session < length v.opened) (sym c.self.view_is) c.requires.known);
      whole = c.if-not-self.false;
      flag = ap (λ xs. slice_index_or xs c.args.asker.session false) (sym c.deref-2.ensures.value) ∙ (sym c.flag_at-cancelled.ensures ∙ (c.in_ok-refusal.ensures.free c.in_default.is).0);
      low = subst (λ n. n < 4294967294) number (c.in_ok-refusal.ensures.free c.in_default.is).1;
      goes = c.attempt-answer.ensures.is.keeps;
      readies = c.ready-self-inside.ensures.is;
    } in
    ran_kept (the_view c.self.inside) (tried (the_view c.self.inside) c.attempt-answer.new.stores (slice_set c.self.inside.commands.items c.args.asker.session (c.number_at-cmd.result + 1)) c.set_rest.new.rests.items c.self.inside.queue.items c.ready-self-inside.result) c.self.invariant c.if-not-self.false
    (seated_after (the_view c.self.inside) c.attempt-answer.new.stores _ _ _ _ _ _ _ _ c.self.invariant.seated refl (as_long _ _ _) refl (ap length c.set_rest.ensures ∙ (as_long _ _ _ ∙ (ap length c.take_rest-rest.ensures.taken ∙ as_long _ _ _))) refl (goes_size c.self.inside.stores c.attempt-answer.new.stores c.args.asker.session c.attempt-answer.ensures.is.keeps)
    c.self.invariant.seated.queue (known_of (length c.attempt-answer.new.stores.locks.wants) c.ready-self-inside.result (length c.self.inside.opened.items) (c.attempt-answer.ensures.is.keeps.size.sessions ∙ c.self.invariant.seated.waits) c.ready-self-inside.ensures.known))
    (λ h told. (_, commits_tells (the_view c.self.inside) c.args.asker c.attempt-answer.new.stores (c.number_at-cmd.result + 1) c.set_rest.new.rests.items c.ready-self-inside.result h c.args.out.now.items c.attempt-answer.new.out.items _ c.in-Commits.rest it told (ap (λ n. n + 1) number) (c.set_rest.ensures ∙ ((ap (λ xs. slice_set xs c.args.asker.session (Some (Detach c.in-Commits.rest))) c.take_rest-rest.ensures.taken ∙ set_twice c.self.inside.rests.items c.args.asker.session None (Some (Detach c.in-Commits.rest))))) c.in-Ok.ensures.is.waits (as_meant c.args.options.now (the_view c.self.inside) c.args.asker h c.args.settings (listed c.args.prepared.now) (statement_tree c.args.statement.now) c.count-sessions.result c.number_at-cmd.result c.take_rest-rest.result (Ok (endings.Commits c.in-Commits.rest)) c.attempt-answer.new.stores c.args.out.now.items c.attempt-answer.new.out.items (c.count-sessions.ensures.is ∙ ap (λ v. length v.opened) (sym c.self.view_is)) number c.take_rest-rest.ensures.is (subst (λ x. IsAttempt (Ok x) c.attempt-answer.new.stores c.args.out.now.items c.attempt-answer.new.out.items (record { session = c.args.asker.session; sessions = c.count-sessions.result; level = c.args.asker.level; cmd = c.number_at-cmd.result; kind = c.args.asker.kind }) h (attempted c.args.options.now (caller_of c.count-sessions.result c.number_at-cmd.result c.args.asker) c.take_rest-rest.result c.args.settings (listed c.args.prepared.now) (statement_tree c.args.statement.now) h)) c.in-Commits.is (c.in-Ok.ensures.is.is h told.stands (subst (IsAt h c.args.asker.session) (sym number) (told.numbered c.args.asker.session)) (subst (CanGoOn h c.args.asker.session) (sym c.take_rest-rest.ensures.is) (told.waits.going_on c.args.asker.session)))))))

pub returns-else-is_err-clause-ran : goal.returns-else-is_err-clause-ran
returns-else-is_err-clause-ran c h tells =
    let pushed : c.push.new.self.items ≡ c.self.inside.queue.items ++ c.args.asker.session ∷ [] = search rules in
    let number = (c.number_at-cmd.ensures ∙ ap (λ xs. slice_index_or xs c.args.asker.session 0) c.deref.ensures.value) in
    let it : IsTried (the_view c.self.inside) c.args.asker.session c.attempt-answer.new.stores c.ready-self-inside.result = record {
      seated = c.self.invariant.seated;
      known = (subst (λ v. c.args.asker.session < length v.opened) (sym c.self.view_is) c.requires.known);
      whole = c.if-not-self.false;
      flag = ap (λ xs. slice_index_or xs c.args.asker.session false) (sym c.deref-2.ensures.value) ∙ (sym c.flag_at-cancelled.ensures ∙ (c.in_ok-refusal.ensures.free c.in_default.is).0);
      low = subst (λ n. n < 4294967294) number (c.in_ok-refusal.ensures.free c.in_default.is).1;
      goes = c.attempt-answer.ensures.is.keeps;
      readies = c.ready-self-inside.ensures.is;
    } in
    subst (λ v. TellOf v h → HasRun (attempt_at c.args.options.now v c.args.asker h c.args.settings (listed c.args.prepared.now) (statement_tree c.args.statement.now)) c.args.asker v
    (tried (the_view c.self.inside) c.attempt-answer.new.stores (slice_set c.self.inside.commands.items c.args.asker.session c.number_after.result) c.set_rest-in-Err-Waits.new.rests.items c.push.new.self.items c.ready-self-inside.result)
    c.args.out.now.items c.attempt-answer.new.out.items outcomes.Waits h) c.self.view_is
    (λ told. waits_ran (the_view c.self.inside) c.args.asker c.attempt-answer.new.stores c.number_after.result c.in-Err-Waits.rest c.set_rest-in-Err-Waits.new.rests.items c.push.new.self.items c.ready-self-inside.result h c.args.out.now.items c.attempt-answer.new.out.items _ it told (c.number_after.ensures ∙ (ap (λ r. number_after r c.number_at-cmd.result) c.in-Err-Waits.rest-is ∙ ap (number_after c.in-Err-Waits.rest) number)) (c.set_rest-in-Err-Waits.ensures ∙ (ap (slice_set c.take_rest-rest.new.rests.items c.args.asker.session) c.in-Err-Waits.rest-is ∙ (ap (λ xs. slice_set xs c.args.asker.session c.in-Err-Waits.rest) c.take_rest-rest.ensures.taken ∙ set_twice c.self.inside.rests.items c.args.asker.session None c.in-Err-Waits.rest))) (subst (λ x. IsHalt (Err x) c.attempt-answer.new.stores c.args.asker.session) c.in-Err-Waits.field-0-is c.in-Err-Waits.ensures.is.waits) pushed (as_meant c.args.options.now (the_view c.self.inside) c.args.asker h c.args.settings (listed c.args.prepared.now) (statement_tree c.args.statement.now) c.count-sessions.result c.number_at-cmd.result c.take_rest-rest.result (Err (stop.Waits c.in-Err-Waits.rest)) c.attempt-answer.new.stores c.args.out.now.items c.attempt-answer.new.out.items (c.count-sessions.ensures.is ∙ ap (λ v. length v.opened) (sym c.self.view_is)) number c.take_rest-rest.ensures.is (subst (λ x. IsAttempt (Err x) c.attempt-answer.new.stores c.args.out.now.items c.attempt-answer.new.out.items (record { session = c.args.asker.session; sessions = c.count-sessions.result; level = c.args.asker.level; cmd = c.number_at-cmd.result; kind = c.args.asker.kind }) h (attempted c.args.options.now (caller_of c.count-sessions.result c.number_at-cmd.result c.args.asker) c.take_rest-rest.result c.args.settings (listed c.args.prepared.now) (statement_tree c.args.statement.now) h)) c.in-Err-Waits.field-0-is (c.in-Err-Waits.ensures.is.is h told.stands (subst (IsAt h c.args.asker.session) (sym number) (told.numbered c.args.asker.session)) (subst (CanGoOn h c.args.asker.session) (sym c.take_rest-rest.ensures.is) (told.waits.going_on c.args.asker.session))))))
    tells

pub invariant_of-self-else-is_err : goal.invariant_of-self-else-is_err
invariant_of-self-else-is_err c =
    let pushed : c.push.new.self.items ≡ c.self.inside.queue.items ++ c.args.asker.session ∷ [] = search rules in
    let number = (c.number_at-cmd.ensures ∙ ap (λ xs. slice_index_or xs c.args.asker.session 0) c.deref.ensures.value) in
    let it : IsTried (the_view c.self.inside) c.args.asker.session c.attempt-answer.new.stores c.ready-self-inside.result = record {
      seated = c.self.invariant.seated;
      known = (subst (λ v. c.args.asker.session < length v.opened) (sym c.self.view_is) c.requires.known);
      whole = c.if-not-self.false;
      flag = ap (λ xs. slice_index_or xs c.args.asker.session false) (sym c.deref-2.ensures.value) ∙ (sym c.flag_at-cancelled.ensures ∙ (c.in_ok-refusal.ensures.free c.in_default.is).0);
      low = subst (λ n. n < 4294967294) number (c.in_ok-refusal.ensures.free c.in_default.is).1;
      goes = c.attempt-answer.ensures.is.keeps;
      readies = c.ready-self-inside.ensures.is;
    } in
    ran_kept (the_view c.self.inside) (tried (the_view c.self.inside) c.attempt-answer.new.stores (slice_set c.self.inside.commands.items c.args.asker.session c.number_after.result) c.set_rest-in-Err-Waits.new.rests.items c.push.new.self.items c.ready-self-inside.result) c.self.invariant c.if-not-self.false
    (seated_after (the_view c.self.inside) c.attempt-answer.new.stores _ _ _ _ _ _ _ _ c.self.invariant.seated refl (as_long _ _ _) refl (ap length c.set_rest-in-Err-Waits.ensures ∙ (as_long _ _ _ ∙ (ap length c.take_rest-rest.ensures.taken ∙ as_long _ _ _))) refl (goes_size c.self.inside.stores c.attempt-answer.new.stores c.args.asker.session c.attempt-answer.ensures.is.keeps)
    (one_more c.self.inside.queue.items c.push.new.self.items c.args.asker.session (length c.self.inside.opened.items) pushed c.self.invariant.seated.queue (subst (λ v. c.args.asker.session < length v.opened) (sym c.self.view_is) c.requires.known)) (known_of (length c.attempt-answer.new.stores.locks.wants) c.ready-self-inside.result (length c.self.inside.opened.items) (c.attempt-answer.ensures.is.keeps.size.sessions ∙ c.self.invariant.seated.waits) c.ready-self-inside.ensures.known))
    (λ h told. (_, waits_tells (the_view c.self.inside) c.args.asker c.attempt-answer.new.stores c.number_after.result c.in-Err-Waits.rest c.set_rest-in-Err-Waits.new.rests.items c.push.new.self.items c.ready-self-inside.result h c.args.out.now.items c.attempt-answer.new.out.items _ it told (c.number_after.ensures ∙ (ap (λ r. number_after r c.number_at-cmd.result) c.in-Err-Waits.rest-is ∙ ap (number_after c.in-Err-Waits.rest) number)) (c.set_rest-in-Err-Waits.ensures ∙ (ap (slice_set c.take_rest-rest.new.rests.items c.args.asker.session) c.in-Err-Waits.rest-is ∙ (ap (λ xs. slice_set xs c.args.asker.session c.in-Err-Waits.rest) c.take_rest-rest.ensures.taken ∙ set_twice c.self.inside.rests.items c.args.asker.session None c.in-Err-Waits.rest))) (subst (λ x. IsHalt (Err x) c.attempt-answer.new.stores c.args.asker.session) c.in-Err-Waits.field-0-is c.in-Err-Waits.ensures.is.waits) pushed (as_meant c.args.options.now (the_view c.self.inside) c.args.asker h c.args.settings (listed c.args.prepared.now) (statement_tree c.args.statement.now) c.count-sessions.result c.number_at-cmd.result c.take_rest-rest.result (Err (stop.Waits c.in-Err-Waits.rest)) c.attempt-answer.new.stores c.args.out.now.items c.attempt-answer.new.out.items (c.count-sessions.ensures.is ∙ ap (λ v. length v.opened) (sym c.self.view_is)) number c.take_rest-rest.ensures.is (subst (λ x. IsAttempt (Err x) c.attempt-answer.new.stores c.args.out.now.items c.attempt-answer.new.out.items (record { session = c.args.asker.session; sessions = c.count-sessions.result; level = c.args.asker.level; cmd = c.number_at-cmd.result; kind = c.args.asker.kind }) h (attempted c.args.options.now (caller_of c.count-sessions.result c.number_at-cmd.result c.args.asker) c.take_rest-rest.result c.args.settings (listed c.args.prepared.now) (statement_tree c.args.statement.now) h)) c.in-Err-Waits.field-0-is (c.in-Err-Waits.ensures.is.is h told.stands (subst (IsAt h c.args.asker.session) (sym number) (told.numbered c.args.asker.session)) (subst (CanGoOn h c.args.asker.session) (sym c.take_rest-rest.ensures.is) (told.waits.going_on c.args.asker.session)))))))

pub returns-else-is_err-clause-lower : goal.returns-else-is_err-clause-lower
returns-else-is_err-clause-lower c is =
    subst (λ v. slack (tried (the_view c.self.inside) c.attempt-answer.new.stores (slice_set c.self.inside.commands.items c.args.asker.session c.number_after.result) c.set_rest-in-Err-Waits.new.rests.items c.push.new.self.items c.ready-self-inside.result) ≤ slack v) c.self.view_is
    (tried_lower (the_view c.self.inside) c.attempt-answer.new.stores (slice_set c.self.inside.commands.items c.args.asker.session c.number_after.result) c.set_rest-in-Err-Waits.new.rests.items c.push.new.self.items c.ready-self-inside.result c.self.inside.whole c.attempt-answer.ensures.is.keeps.locks c.attempt-answer.ensures.is.keeps.size.tables)

pub returns-in-Some-clause-heard : goal.returns-in-Some-clause-heard
returns-in-Some-clause-heard c = subst (λ v. (h : History) × TellOf v h × AreSeated v) c.self.view_is (let told = c.self.invariant.sound c.if-not-self.false in (told.0, told.1, c.self.invariant.seated))

pub returns-in-Done-clause-heard : goal.returns-in-Done-clause-heard
returns-in-Done-clause-heard c = subst (λ v. (h : History) × TellOf v h × AreSeated v) c.self.view_is (let told = c.self.invariant.sound c.if-not-self.false in (told.0, told.1, c.self.invariant.seated))

pub returns-in-Err-Refused-clause-heard : goal.returns-in-Err-Refused-clause-heard
returns-in-Err-Refused-clause-heard c = subst (λ v. (h : History) × TellOf v h × AreSeated v) c.self.view_is (let told = c.self.invariant.sound c.if-not-self.false in (told.0, told.1, c.self.invariant.seated))

pub returns-in-Commits-clause-heard : goal.returns-in-Commits-clause-heard
returns-in-Commits-clause-heard c = subst (λ v. (h : History) × TellOf v h × AreSeated v) c.self.view_is (let told = c.self.invariant.sound c.if-not-self.false in (told.0, told.1, c.self.invariant.seated))

pub returns-else-is_err-clause-heard : goal.returns-else-is_err-clause-heard
returns-else-is_err-clause-heard c = subst (λ v. (h : History) × TellOf v h × AreSeated v) c.self.view_is (let told = c.self.invariant.sound c.if-not-self.false in (told.0, told.1, c.self.invariant.seated))

-- ---- what is counted

pub returns-in-Some-clause-tally : goal.returns-in-Some-clause-tally
returns-in-Some-clause-tally c h tells =
    let number = (c.number_at-cmd.ensures ∙ ap (λ xs. slice_index_or xs c.args.asker.session 0) c.deref.ensures.value) in
    subst (λ v. TellOf v h → c.args.tally.now ≡ added c.args.tally.now (given_at c.args.options.now v c.args.asker h c.args.settings (listed c.args.prepared.now) (statement_tree c.args.statement.now))) c.self.view_is
    (λ told. cut_gives c.args.options.now (the_view c.self.inside) c.args.asker h c.args.settings (listed c.args.prepared.now) (statement_tree c.args.statement.now) c.args.tally.now c.in-Some.fault (sym (c.in_ok-refusal.ensures.is ∙ (ap (λ b. refused_first b c.number_at-cmd.result) (c.flag_at-cancelled.ensures ∙ ap (λ xs. slice_index_or xs c.args.asker.session false) c.deref-2.ensures.value) ∙ ap (refused_first (slice_index_or c.self.inside.cancelled.items c.args.asker.session false)) number)) ∙ c.in-Some.is))
    tells

pub returns-in-Done-clause-tally : goal.returns-in-Done-clause-tally
returns-in-Done-clause-tally c h tells =
    let number = (c.number_at-cmd.ensures ∙ ap (λ xs. slice_index_or xs c.args.asker.session 0) c.deref.ensures.value) in
    subst (λ v. TellOf v h → c.attempt-answer.new.tally ≡ added c.args.tally.now (given_at c.args.options.now v c.args.asker h c.args.settings (listed c.args.prepared.now) (statement_tree c.args.statement.now))) c.self.view_is
    (λ told. given_in c.args.options.now (the_view c.self.inside) c.args.asker h c.args.settings (listed c.args.prepared.now) (statement_tree c.args.statement.now) c.count-sessions.result c.number_at-cmd.result c.take_rest-rest.result c.args.tally.now c.attempt-answer.new.tally (sym (c.in_ok-refusal.ensures.is ∙ (ap (λ b. refused_first b c.number_at-cmd.result) (c.flag_at-cancelled.ensures ∙ ap (λ xs. slice_index_or xs c.args.asker.session false) c.deref-2.ensures.value) ∙ ap (refused_first (slice_index_or c.self.inside.cancelled.items c.args.asker.session false)) number)) ∙ c.in_default.is) (c.count-sessions.ensures.is ∙ ap (λ v. length v.opened) (sym c.self.view_is)) number c.take_rest-rest.ensures.is
    (c.in-Ok.ensures.tally h told.stands (subst (IsAt h c.args.asker.session) (sym number) (told.numbered c.args.asker.session)) (subst (CanGoOn h c.args.asker.session) (sym c.take_rest-rest.ensures.is) (told.waits.going_on c.args.asker.session))))
    tells

pub returns-in-Err-Refused-clause-tally : goal.returns-in-Err-Refused-clause-tally
returns-in-Err-Refused-clause-tally c h tells =
    let number = (c.number_at-cmd.ensures ∙ ap (λ xs. slice_index_or xs c.args.asker.session 0) c.deref.ensures.value) in
    subst (λ v. TellOf v h → c.attempt-answer.new.tally ≡ added c.args.tally.now (given_at c.args.options.now v c.args.asker h c.args.settings (listed c.args.prepared.now) (statement_tree c.args.statement.now))) c.self.view_is
    (λ told. given_in c.args.options.now (the_view c.self.inside) c.args.asker h c.args.settings (listed c.args.prepared.now) (statement_tree c.args.statement.now) c.count-sessions.result c.number_at-cmd.result c.take_rest-rest.result c.args.tally.now c.attempt-answer.new.tally (sym (c.in_ok-refusal.ensures.is ∙ (ap (λ b. refused_first b c.number_at-cmd.result) (c.flag_at-cancelled.ensures ∙ ap (λ xs. slice_index_or xs c.args.asker.session false) c.deref-2.ensures.value) ∙ ap (refused_first (slice_index_or c.self.inside.cancelled.items c.args.asker.session false)) number)) ∙ c.in_default.is) (c.count-sessions.ensures.is ∙ ap (λ v. length v.opened) (sym c.self.view_is)) number c.take_rest-rest.ensures.is
    (subst (λ x. Grows {X = Ending} (Err x) c.args.tally.now c.attempt-answer.new.tally (statement_given c.args.options.now (caller_of c.count-sessions.result c.number_at-cmd.result c.args.asker) c.take_rest-rest.result c.args.settings (listed c.args.prepared.now) (statement_tree c.args.statement.now) h)) c.in-Err-Refused.field-0-is
    (c.in-Err-Refused.ensures.tally h told.stands (subst (IsAt h c.args.asker.session) (sym number) (told.numbered c.args.asker.session)) (subst (CanGoOn h c.args.asker.session) (sym c.take_rest-rest.ensures.is) (told.waits.going_on c.args.asker.session)))))
    tells

pub returns-in-Commits-clause-tally : goal.returns-in-Commits-clause-tally
returns-in-Commits-clause-tally c h tells =
    let number = (c.number_at-cmd.ensures ∙ ap (λ xs. slice_index_or xs c.args.asker.session 0) c.deref.ensures.value) in
    subst (λ v. TellOf v h → c.attempt-answer.new.tally ≡ added c.args.tally.now (given_at c.args.options.now v c.args.asker h c.args.settings (listed c.args.prepared.now) (statement_tree c.args.statement.now))) c.self.view_is
    (λ told. given_in c.args.options.now (the_view c.self.inside) c.args.asker h c.args.settings (listed c.args.prepared.now) (statement_tree c.args.statement.now) c.count-sessions.result c.number_at-cmd.result c.take_rest-rest.result c.args.tally.now c.attempt-answer.new.tally (sym (c.in_ok-refusal.ensures.is ∙ (ap (λ b. refused_first b c.number_at-cmd.result) (c.flag_at-cancelled.ensures ∙ ap (λ xs. slice_index_or xs c.args.asker.session false) c.deref-2.ensures.value) ∙ ap (refused_first (slice_index_or c.self.inside.cancelled.items c.args.asker.session false)) number)) ∙ c.in_default.is) (c.count-sessions.ensures.is ∙ ap (λ v. length v.opened) (sym c.self.view_is)) number c.take_rest-rest.ensures.is
    (c.in-Ok.ensures.tally h told.stands (subst (IsAt h c.args.asker.session) (sym number) (told.numbered c.args.asker.session)) (subst (CanGoOn h c.args.asker.session) (sym c.take_rest-rest.ensures.is) (told.waits.going_on c.args.asker.session))))
    tells

pub returns-else-is_err-clause-tally : goal.returns-else-is_err-clause-tally
returns-else-is_err-clause-tally c h tells =
    let number = (c.number_at-cmd.ensures ∙ ap (λ xs. slice_index_or xs c.args.asker.session 0) c.deref.ensures.value) in
    subst (λ v. TellOf v h → c.attempt-answer.new.tally ≡ added c.args.tally.now (given_at c.args.options.now v c.args.asker h c.args.settings (listed c.args.prepared.now) (statement_tree c.args.statement.now))) c.self.view_is
    (λ told. given_in c.args.options.now (the_view c.self.inside) c.args.asker h c.args.settings (listed c.args.prepared.now) (statement_tree c.args.statement.now) c.count-sessions.result c.number_at-cmd.result c.take_rest-rest.result c.args.tally.now c.attempt-answer.new.tally (sym (c.in_ok-refusal.ensures.is ∙ (ap (λ b. refused_first b c.number_at-cmd.result) (c.flag_at-cancelled.ensures ∙ ap (λ xs. slice_index_or xs c.args.asker.session false) c.deref-2.ensures.value) ∙ ap (refused_first (slice_index_or c.self.inside.cancelled.items c.args.asker.session false)) number)) ∙ c.in_default.is) (c.count-sessions.ensures.is ∙ ap (λ v. length v.opened) (sym c.self.view_is)) number c.take_rest-rest.ensures.is
    (subst (λ x. Grows {X = Ending} (Err x) c.args.tally.now c.attempt-answer.new.tally (statement_given c.args.options.now (caller_of c.count-sessions.result c.number_at-cmd.result c.args.asker) c.take_rest-rest.result c.args.settings (listed c.args.prepared.now) (statement_tree c.args.statement.now) h)) c.in-Err-Waits.field-0-is
    (c.in-Err-Waits.ensures.tally h told.stands (subst (IsAt h c.args.asker.session) (sym number) (told.numbered c.args.asker.session)) (subst (CanGoOn h c.args.asker.session) (sym c.take_rest-rest.ensures.is) (told.waits.going_on c.args.asker.session)))))
    tells
