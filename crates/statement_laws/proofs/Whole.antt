-- Whole statements do what they would do over all leaves.
use Rattle.std.proofs.Common.{◌≡◌, ℕ, ◌+◌, ◌-◌, ◌≤◌, arith, List, [], ◌∷◌, ◌++◌, inl, inr, refl, ap, sym, ◌∙◌, subst, Option, Some, None, Result, Ok, Err, length, map}
use Rattle.std.specs.List.{All}
use Rattle.std.proofs.lemmas.List.{length-append, append_assoc, map-append}
use Rattle.std.proofs.lemmas.List.Elements.{All-nil, All-cons, All-append}
use Rattle.pg_values.specs.declared.fault.Fault.{Fault}
use Rattle.pg_values.specs.declared.value.Value.{Value}
use Rattle.pg_values.specs.declared.lock_mode.LockMode.{LockMode}
use Rattle.pg_values.specs.declared.lock_mode.LockMode.TheVariants.{AccessShare, RowExclusive}
use Rattle.history.specs.Catalogue.{CatalogueEvents}
use Rattle.history.specs.Locks.{LockEvent}
use Rattle.history.specs.Snapshots.{TakenSnapshot}
use Rattle.history.specs.Transactions.{TxEvents, open_of}
use Rattle.history.specs.History.{History, LockChange, tx_events, catalogue_events}
use Rattle.expression_binder.specs.declared.scope.Param.{Param}
use Rattle.part_catalog.specs.Found.{made_at, is_meant, resolved, table_number}
use Rattle.part_catalog.proofs.Found.{last_is}
use Rattle.plan_tree.specs.Laws.{Rows, shown}
use Rattle.plan_tree.specs.Plans.{apart, plan_by, plan_for, plan_tables}
use Rattle.plan_tree.specs.declared.planning.Planning.{Planning}
use Rattle.cond_logic.specs.Asked.{ChangeMeant, SelectMeant}
use Rattle.pg_values.specs.declared.isolation.Isolation.{Isolation}
use Rattle.pg_values.specs.declared.isolation.Isolation.TheVariants.{ReadCommitted, ReadUncommitted, RepeatableRead}
use Rattle.select_answer.specs.Answer.{select_course}
use Rattle.soundness.specs.Worlds.{IsMade}
use Rattle.sql_ast.specs.Expressions.{Tree}
use Rattle.sql_ast.specs.Queries.{Joined, SelectTree, Setting}
use Rattle.sql_ast.specs.declared.named_table.NamedTable.{NamedTable}
use Rattle.sql_binder.specs.Selects.{from_of}
use Rattle.stores.specs.Events.{held, held_first, look_of}
use Rattle.stores.specs.Good.{IsGood}
use Rattle.stores.proofs.Commands.{looks_are_open}
use Rattle.stores.proofs.Meanwhile.{locks_keep_numbers, looks_keep_numbers}
use Rattle.statement_steps.specs.Asks.{found, held_at, kept_number, locked, meant_or_none, named, number_or}
use Rattle.statement_steps.specs.Ended.{giving}
use Rattle.statement_steps.specs.Gathered.{Found, RowsLeft}
use Rattle.statement_steps.specs.Made.{Halt, Made, and_then, behind, made, then_told, answered as answered_by}
use Rattle.statement_steps.specs.Steps.{follow}
use Rattle.statement_steps.specs.declared.caller.Caller.{Caller}
use Rattle.statement_steps.specs.declared.rest.Rest.{Rest}
use Rattle.row_router.specs.declared.path_part.PathPart.{PathPart}
use Rattle.row_router.specs.Histories.{path_of, table_of, tree_of}
use Rattle.row_router.specs.Trees.{TableTree}
use Rattle.statement_steps.specs.Below.{number_of}
use Rattle.select_statement.specs.Items.{items_of}
use Rattle.select_statement.specs.Laws.{Looks}
use Rattle.select_statement.specs.Moments.{SelectsArePlain}
use Rattle.select_statement.specs.Selected.{Told, answered, asked_by, told_of, begins, by_plan, locked_below, named_from, of_items, of_named, of_tables, outcome, trees_for, values_by}
use Rattle.select_statement.specs.Plain.{answer_in, locked_plainly, selected_plainly}
use Rattle.select_statement.proofs.Giving.{giving_then}
use Rattle.select_statement.proofs.Moments.{good_selects}
use Rattle.select_statement.proofs.Plain.{AreLocks, all_locks, both_locks, by_plan_plain, locked_locks, locks_show}
use Rattle.change_statement.specs.Changed.{Changing, Told as ChangeTold, begun_or_left, changed, changed_by, changed_from, changed_on, told_of as change_told}
use Rattle.change_statement.specs.Deleted.{deleting}
use Rattle.sql_binder.specs.Values.{values_of}
use Rattle.change_statement.specs.Gathered.{found_by, gathered, item_of, locked_all, meant, of_table}
use Rattle.change_statement.specs.Gathered as changes
use Rattle.change_statement.specs.Kept.{keeps_for, tables_locked}
use Rattle.change_statement.specs.Laws.{gathered_of, plainly_changed}
use Rattle.change_statement.specs.Standing.{left_of}
use Rattle.change_statement.specs.Updated.{updating}
use Rattle.change_statement.proofs.Moments.{good_changes}
use Rattle.statement_laws.specs.Whole.{CompletedSelectsArePlain, IsCaller, WholeStatementsArePlain, all_changed_by, begun_plainly, items_plainly, named_plainly, rows_in}

-- ---- parts one after the other

good_after : (es h : History) → IsGood (es ++ h) → IsGood h
good_after [] h good = good
good_after (e ∷ es) h good = good_after es h good.1

-- a statement came to its end by way of a part
record IsDoneBy {T U : Type 0} (m : Made T) (next : T → Made U) (a : U) : Type 0 where
  x : T
  told : m.told ≡ Ok x
  later : (next x).told ≡ Ok a
  events : (and_then m next).events ≡ (next x).events ++ m.events

done_by : {T U : Type 0} (m : Made T) (next : T → Made U) (a : U) → (and_then m next).told ≡ Ok a → IsDoneBy m next a
done_by {T = T} {U = U} m next a e = by m.told refl e
  where
    by : (r : Result T Halt) → m.told ≡ r → (then_told {U = U} r m.events next).told ≡ Ok a → IsDoneBy m next a
    by (Ok x) is done = record { x = x; told = is; later = done; events = ap (λ (r : Result T Halt). (then_told {U = U} r m.events next).events) is }
    by (Err stop) is done = absurd (let c = done in cc)

-- two that go on in the same way where the part is done
same_after : {T U : Type 0} (m : Made T) (f g : T → Made U) → ((x : T) → m.told ≡ Ok x → f x ≡ g x) → and_then m f ≡ and_then m g
same_after {T = T} m f g same = by m.told refl
  where
    by : (r : Result T Halt) → m.told ≡ r → then_told r m.events f ≡ then_told r m.events g
    by (Ok x) is = ap (behind m.events) (same x is)
    by (Err stop) is = refl

-- the history goes on from where the part has left it
went_on : {T U : Type 0} (h before : History) (m : Made T) (next : T → Made U) (x : T) → m.told ≡ Ok x → h ≡ (and_then m next).events ++ before → h ≡ (next x).events ++ (m.events ++ before)
went_on {T = T} {U = U} h before m next x told is =
    is ∙ (ap (λ (r : Result T Halt). (then_told {U = U} r m.events next).events ++ before) told ∙ append_assoc (next x).events m.events before)

-- ---- what locks and held snapshots leave as it was

locks_catalogue : (ls : List LockEvent) (h : History) → catalogue_events (map LockChange ls ++ h) ≡ catalogue_events h
locks_catalogue [] h = refl
locks_catalogue (l ∷ ls) h = locks_catalogue ls h

locks_tree : (ls : List LockEvent) (h : History) (s t cmd : ℕ) → tree_of (map LockChange ls ++ h) s t (look_of (map LockChange ls ++ h) s cmd) ≡ tree_of h s t (look_of h s cmd)
unfolding tree_of
locks_tree [] h s t cmd = refl
locks_tree (l ∷ ls) h s t cmd = locks_tree ls h s t cmd

locks_path : (ls : List LockEvent) (h : History) (s t : ℕ) → path_of (map LockChange ls ++ h) s t ≡ path_of h s t
unfolding path_of
locks_path [] h s t = refl
locks_path (l ∷ ls) h s t = locks_path ls h s t

locks_call : (c : Caller) (ls : List LockEvent) (h : History) → IsCaller c h → IsCaller c (map LockChange ls ++ h)
locks_call c [] h call = call
locks_call c (l ∷ ls) h call = let rest = locks_call c ls h call in record { tx = rest.tx; own = rest.own; at = locks_keep_numbers l (map LockChange ls ++ h) c.session c.cmd rest.at }

first_txs : (o : Option TakenSnapshot) (s : ℕ) (snap : TakenSnapshot) (h : History) → tx_events (held_first o s snap ++ h) ≡ tx_events h
first_txs None s snap h = refl
first_txs (Some old) s snap h = refl

held_call : (c : Caller) (level : Isolation) (h : History) → IsGood h → IsCaller c h → IsCaller c ((held_at level c.session c.cmd h).events ++ h)
held_call c ReadCommitted h good call = call
held_call c ReadUncommitted h good call = call
held_call c RepeatableRead h good call = record {
  tx = call.tx;
  own = ap (λ (txs : TxEvents). open_of txs c.session) (first_txs _ c.session _ h) ∙ call.own;
  at = (looks_keep_numbers h c.session c.session call.tx c.cmd c.cmd good call.at call.own (λ same. omega arith)).1;
}

-- what the caller's command reads under
looks : (c : Caller) (h : History) → IsGood h → IsCaller c h → Looks c h
looks c h good call = (looks_are_open h c.session call.tx c.cmd good call.at call.own).looking

-- ---- tables by their names

meant_locks : (name : List ℕ) (o : Option ℕ) → AreLocks (meant_or_none name o)
meant_locks name None = ([], refl)
meant_locks name (Some t) = ([], refl)

named_locks : (names : List (List ℕ)) (s : ℕ) (mode : LockMode) (name : List ℕ) (h : History) → AreLocks (named names s mode name h)
named_locks names s mode name h =
    both_locks (found s name h) (λ t. kept_number t (locked names s t mode ((found s name h).events ++ h))) (meant_locks name (resolved h s name)) (λ t. locked_locks names s t mode ((found s name h).events ++ h))

told_number : (t n : ℕ) (r : Result (Unit {0}) Halt) → number_or t r ≡ Ok n → t ≡ n
told_number t n (Ok u) e = let c = e in cc
told_number t n (Err stop) e = absurd (let c = e in cc)

found_number : (name : List ℕ) (o : Option ℕ) (t : ℕ) → (meant_or_none name o).told ≡ Ok t → o ≡ Some t
found_number name None t e = absurd (let c = e in cc)
found_number name (Some n) t e = let same : n ≡ t = (let c = e in cc) in ap Some same

named_made : (names : List (List ℕ)) (s : ℕ) (mode : LockMode) (name : List ℕ) (h : History) (n : ℕ) → (named names s mode name h).told ≡ Ok n → IsMade (catalogue_events h) n
named_made names s mode name h n e =
    let parts = done_by (found s name h) (λ t. kept_number t (locked names s t mode ((found s name h).events ++ h))) n e in
    let same = told_number parts.x n (locked names s parts.x mode ((found s name h).events ++ h)).told parts.later in
    subst (IsMade (catalogue_events h)) same (last_is (is_meant h s name) (table_number h) parts.x (found_number name (resolved h s name) parts.x parts.told)).0

-- those of a SELECT
record AreNamed (h after : History) (ns : List ℕ) (count : ℕ) : Type 0 where
  locks : List LockEvent
  events : after ≡ map LockChange locks
  made : All (IsMade (catalogue_events h)) ns
  all : length ns ≡ count

names_there : (names : List (List ℕ)) (c : Caller) (done : List ℕ) (js : List Joined) (h : History) (ns : List ℕ) → All (IsMade (catalogue_events h)) done → (named_from names c done js h).told ≡ Ok ns → AreNamed h (named_from names c done js h).events ns (length done + length js)
names_there names c done [] h ns made e =
    let same : done ≡ ns = (let d = e in cc) in
    record { locks = []; events = refl; made = subst (λ xs. All (IsMade (catalogue_events h)) xs) same made; all = let n = ap (length {A = ℕ}) same in omega (arith, n) }
names_there names c done (j ∷ js) h ns made e =
    let m = named names c.session AccessShare j.0.name h in
    let next = λ (n : ℕ). named_from names c (done ++ n ∷ []) js (m.events ++ h) in
    let parts = done_by m next ns e in
    let n = parts.x in
    let own = named_locks names c.session AccessShare j.0.name h in
    let same : catalogue_events (m.events ++ h) ≡ catalogue_events h = ap (λ (es : History). catalogue_events (es ++ h)) own.1 ∙ locks_catalogue own.0 h in
    let one : All (IsMade (catalogue_events h)) (n ∷ []) = All-cons (IsMade (catalogue_events h)) n [] (named_made names c.session AccessShare j.0.name h n parts.told) (All-nil (IsMade (catalogue_events h))) in
    let both : All (IsMade (catalogue_events h)) (done ++ n ∷ []) = All-append (IsMade (catalogue_events h)) done (n ∷ []) made one in
    let rest = names_there names c (done ++ n ∷ []) js (m.events ++ h) ns (subst (λ (cats : CatalogueEvents). All (IsMade cats) (done ++ n ∷ [])) (sym same) both) parts.later in
    let count = length-append done (n ∷ []) in
    let all = rest.all in
    record {
      locks = rest.locks ++ own.0;
      events = parts.events ∙ (ap (λ (es : History). es ++ m.events) rest.events ∙ (ap (λ (es : History). map LockChange rest.locks ++ es) own.1 ∙ sym (map-append LockChange rest.locks own.0)));
      made = subst (λ (cats : CatalogueEvents). All (IsMade cats) ns) same rest.made;
      all = omega (arith, count, all);
    }

-- two that go on alike where the part is done, of the first of which something is told
alone_after : {T U V : Type 0} (v : U → V) (m : Made T) (f : T → Made U) (g : T → Made V) → ((x : T) → m.told ≡ Ok x → giving v (f x) ≡ g x) → giving v (and_then m f) ≡ and_then m g
alone_after v m f g same = giving_then v m f ∙ same_after m (λ x. giving v (f x)) g same

-- ---- SELECT

module _ (h : History) (good : IsGood h) (how : Planning) (names : List (List ℕ)) (params : List Param) (c : Caller) (t : SelectTree) (a : Told) (few : length (from_of t) ≤ 4) where
  -- what starts the plan
  abbrev args : List Value
  args = values_by how params

  plan_plain : (g : History) (m : SelectMeant) (ns : List ℕ) → SelectsArePlain g → Looks c g → length ns ≤ 4 → All (IsMade (catalogue_events g)) ns → (by_plan how names c args m (plan_for how m.conditions (trees_for c ns g)) g).told ≡ Ok a
      → giving answer_in (by_plan how names c args m (plan_for how m.conditions (trees_for c ns g)) g) ≡ locked_plainly how names c args (trees_for c ns g) m g
  plan_plain g m ns plain looking low made done =
      let trees = trees_for c ns g in
      let plan = plan_for how m.conditions trees in
      let run = plan_by how args m.conditions trees in
      let locks = locked_below names c (plan_tables plan) g in
      let its = all_locks names c.session AccessShare (map number_of (plan_tables plan)) g in
      let rows : shown (locks.events ++ g) (look_of (locks.events ++ g) c.session c.cmd) ≡ shown g (look_of g c.session c.cmd) =
      ap (λ (es : History). shown (es ++ g) (look_of (es ++ g) c.session c.cmd)) its.1 ∙ locks_show g c.session c.cmd its.0 in
      let parts = done_by locks (λ u. answered c args m run (locks.events ++ g)) a done in
      elim (plain.2 how c args m ns looking low made) [
        | inl same ↦ by_plan_plain how names c args m trees g same
        | inr many ↦
            let same : answered c args m run (locks.events ++ g) ≡ answered c args m run g = ap (λ (r : Rows). outcome (told_of m (select_course (c.sessions - 1) args m r run []))) rows in
            let told = sym (ap (λ (x : Made Told). x.told) (same ∙ many.1)) ∙ parts.later in
            absurd (let d = told in cc)
      ]

  tables_plain : (g : History) (ns : List ℕ) → SelectsArePlain g → Looks c g → length ns ≤ 4 → All (IsMade (catalogue_events g)) ns → (of_tables how names params c t ns g).told ≡ Ok a → giving answer_in (of_tables how names params c t ns g) ≡ selected_plainly how names params c t ns g
  tables_plain g ns plain looking low made = by (asked_by how (items_of 0 (from_of t) (trees_for c ns g)) params c.session t)
    where
      by : (r : Result SelectMeant Fault) → (and_then (outcome r) (λ m. by_plan how names c args m (plan_for how m.conditions (trees_for c ns g)) ((outcome r).events ++ g))).told ≡ Ok a
          → giving answer_in (and_then (outcome r) (λ m. by_plan how names c args m (plan_for how m.conditions (trees_for c ns g)) ((outcome r).events ++ g))) ≡ and_then (outcome r) (λ m. locked_plainly how names c args (trees_for c ns g) m ((outcome r).events ++ g))
      by (Ok m) done = ap (behind []) (plan_plain g m ns plain looking low made done)
      by (Err f) done = refl

  named_plain : (g : History) → IsCaller c g → h ≡ (of_named how names params c t g).events ++ g → (of_named how names params c t g).told ≡ Ok a → giving answer_in (of_named how names params c t g) ≡ named_plainly how names params c t g
  named_plain g call is done =
      let m = named_from names c [] (from_of t) g in
      alone_after answer_in m (λ ns. of_tables how names params c t ns (m.events ++ g)) (λ ns. selected_plainly how names params c t ns (m.events ++ g)) (λ ns told.
      let there = names_there names c [] (from_of t) g ns (All-nil (IsMade (catalogue_events g))) told in
      let later = m.events ++ g in
      let goes = went_on h g m (λ xs. of_tables how names params c t xs later) ns told is in
      let good_then : IsGood later = good_after (of_tables how names params c t ns later).events later (subst IsGood goes good) in
      let call_then : IsCaller c later = subst (λ (es : History). IsCaller c (es ++ g)) (sym there.events) (locks_call c there.locks g call) in
      let same : catalogue_events later ≡ catalogue_events g = ap (λ (es : History). catalogue_events (es ++ g)) there.events ∙ locks_catalogue there.locks g in
      let count = there.all in
      let ends : (of_tables how names params c t ns later).told ≡ Ok a = sym (ap (λ (r : Result (List ℕ) Halt). (then_told {U = Told} r m.events (λ xs. of_tables how names params c t xs later)).told) told) ∙ done in
      tables_plain later ns (good_selects later good_then) (looks c later good_then call_then) (omega (arith, few, count)) (subst (λ (cats : CatalogueEvents). All (IsMade cats) ns) (sym same) there.made) ends)

  items_plain : (js : List Joined) (before : History) → IsCaller c before → h ≡ (of_items how names params c t js before).events ++ before → (of_items how names params c t js before).told ≡ Ok a → giving answer_in (of_items how names params c t js before) ≡ items_plainly how names params c t js before
  items_plain [] before call is done = refl
  items_plain (j ∷ js) before call is done =
      let m = begins c before in
      alone_after answer_in m (λ u. of_named how names params c t (m.events ++ before)) (λ u. named_plainly how names params c t (m.events ++ before)) (λ u told.
      let goes = went_on h before m (λ v. of_named how names params c t (m.events ++ before)) u told is in
      let good_before : IsGood before = good_after (of_items how names params c t (j ∷ js) before).events before (subst IsGood is good) in
      let ends : (of_named how names params c t (m.events ++ before)).told ≡ Ok a = sym (ap (λ (r : Result (Unit {0}) Halt). (then_told {U = Told} r m.events (λ v. of_named how names params c t (m.events ++ before))).told) told) ∙ done in
      named_plain (m.events ++ before) (held_call c c.level before good_before call) goes ends)

selects_plain : (h : History) → IsGood h → CompletedSelectsArePlain h
selects_plain h good how names params c t a before is call few done = items_plain h good how names params c t a few (from_of t) before call is done

-- ---- UPDATE and DELETE

answered_locks : {T : Type 0} (r : Result T Fault) → AreLocks (answered_by r)
answered_locks (Ok x) = ([], refl)
answered_locks (Err f) = ([], refl)

-- what was gathered is what is known where the rows are looked for
record IsGatheredOf (how : Planning) (args : List Value) (c : Caller) (h after : History) (g : Found) : Type 0 where
  table : ℕ
  asked : ChangeMeant
  made : IsMade (catalogue_events h) table
  is : g ≡ gathered_of how c args table asked after

module _ (how : Planning) (names : List (List ℕ)) (params : List Param) (c : Caller) (table : NamedTable) (settings : List Setting) (condition : Option Tree) where
  -- what starts the plan
  abbrev values : List Value
  values = values_of (apart how params)

  over_locks : (h : History) (t : ℕ) (tree : TableTree) (path : List PathPart) → AreLocks (changes.over how names params c table settings condition t tree path h)
  over_locks h t tree path =
      let first = meant how params c table settings condition t h in
      both_locks first (λ m. changes.locked how names c values t tree path m (first.events ++ h)) (answered_locks (changes.asked_by how (item_of table (made_at h t).columns) params c.session settings condition)) (λ m.
      let all = locked_all names c (tables_locked (keeps_for how.prunes m.condition) m.settings tree) (first.events ++ h) in
      both_locks all (λ u. made [] (found_by how values (table_of t) tree path m)) (all_locks names c.session RowExclusive (map number_of (tables_locked (keeps_for how.prunes m.condition) m.settings tree)) (first.events ++ h)) (λ u. ([], refl)))

  gathered_locks : (h : History) → AreLocks (gathered how names params c table settings condition h)
  gathered_locks h =
      let first = named names c.session RowExclusive table.name h in
      both_locks first (λ t. of_table how names params c table settings condition t (first.events ++ h)) (named_locks names c.session RowExclusive table.name h) (λ t. over_locks (first.events ++ h) t (tree_of (first.events ++ h) c.session t (look_of (first.events ++ h) c.session c.cmd)) (path_of (first.events ++ h) c.session t))

  gathered_there : (h : History) (g : Found) → (gathered how names params c table settings condition h).told ≡ Ok g → IsGatheredOf how values c h ((gathered how names params c table settings condition h).events ++ h) g
  gathered_there h g e =
      let whole = gathered how names params c table settings condition h in
      let locks = gathered_locks h in
      let first = named names c.session RowExclusive table.name h in
      let own = named_locks names c.session RowExclusive table.name h in
      let one = done_by first (λ t. of_table how names params c table settings condition t (first.events ++ h)) g e in
      let t = one.x in
      let there_after = first.events ++ h in
      let tree = tree_of there_after c.session t (look_of there_after c.session c.cmd) in
      let path = path_of there_after c.session t in
      let second = meant how params c table settings condition t there_after in
      let two = done_by second (λ m. changes.locked how names c values t tree path m (second.events ++ there_after)) g one.later in
      let m = two.x in
      let keeps = keeps_for how.prunes m.condition in
      let third = locked_all names c (tables_locked keeps m.settings tree) (second.events ++ there_after) in
      let three = done_by third (λ u. made [] (found_by how values (table_of t) tree path m)) g two.later in
      let found_is : found_by how values (table_of t) tree path m ≡ g = (let d = three.later in cc) in
      let last = whole.events ++ h in
      let same_tree : tree ≡ tree_of last c.session t (look_of last c.session c.cmd) =
      (ap (λ (es : History). tree_of (es ++ h) c.session t (look_of (es ++ h) c.session c.cmd)) own.1 ∙ locks_tree own.0 h c.session t c.cmd)
      ∙ sym (ap (λ (es : History). tree_of (es ++ h) c.session t (look_of (es ++ h) c.session c.cmd)) locks.1 ∙ locks_tree locks.0 h c.session t c.cmd) in
      let same_path : path ≡ path_of last c.session t =
      (ap (λ (es : History). path_of (es ++ h) c.session t) own.1 ∙ locks_path own.0 h c.session t) ∙ sym (ap (λ (es : History). path_of (es ++ h) c.session t) locks.1 ∙ locks_path locks.0 h c.session t) in
      record {
        table = t;
        asked = m;
        made = named_made names c.session RowExclusive table.name h t one.told;
        is = sym found_is ∙ (ap (λ (x : TableTree). found_by how values (table_of t) x path m) same_tree ∙ ap (λ (p : List PathPart). found_by how values (table_of t) (tree_of last c.session t (look_of last c.session c.cmd)) p m) same_path);
      }

-- from its beginning
abbrev begun : (change : Found → Changing) → Planning → List (List ℕ) → List Param → Caller → NamedTable → List Setting → Option Tree → History → Made ChangeTold
begun change how names params c table settings condition =
    follow (held_at c.level c.session c.cmd) (λ u. follow (gathered how names params c table settings condition) (λ g. changed (change g) names c g))

-- how many rows are changed
rows_alone : (t : ℕ → ChangeTold) → ((n : ℕ) → rows_in (t n) ≡ n) → (m : Made ℕ) → giving rows_in (giving t m) ≡ m
rows_alone t is m = by m.told
  where
    by : (r : Result ℕ Halt) → giving rows_in (giving t (record { events = m.events; told = r })) ≡ record { events = m.events; told = r }
    by (Ok n) = ap (λ (k : ℕ). made m.events k) (is n)
    by (Err stop) = refl

begun_plain : (change : Found → Changing) (h : History) → IsGood h → (how : Planning) (names : List (List ℕ)) (params : List Param) (c : Caller) (table : NamedTable) (settings : List Setting) (condition : Option Tree) (before : History)
    → h ≡ (begun change how names params c table settings condition before).events ++ before → IsCaller c before
    → giving rows_in (begun change how names params c table settings condition before) ≡ begun_plainly change how names params c table settings condition before
begun_plain change h good how names params c table settings condition before is call =
    let holds = held_at c.level c.session c.cmd before in
    let there_after = holds.events ++ before in
    let gathers = gathered how names params c table settings condition there_after in
    let whole = λ (u : Unit {0}). follow (gathered how names params c table settings condition) (λ g. changed (change g) names c g) there_after in
    alone_after rows_in holds whole (λ u. follow (gathered how names params c table settings condition) (λ g. plainly_changed (change g) names c g) there_after) (λ u told.
    let goes = went_on h before holds whole u told is in
    let good_before : IsGood before = good_after (and_then holds whole).events before (subst IsGood is good) in
    let call_then : IsCaller c there_after = held_call c c.level before good_before call in
    alone_after rows_in gathers (λ g. changed (change g) names c g (gathers.events ++ there_after)) (λ g. plainly_changed (change g) names c g (gathers.events ++ there_after)) (λ g found_told.
    let there = gathered_there how names params c table settings condition there_after g found_told in
    let locks = gathered_locks how names params c table settings condition there_after in
    let last = gathers.events ++ there_after in
    let on = went_on h there_after gathers (λ x. changed (change x) names c x last) g found_told goes in
    let good_last : IsGood last = good_after (changed (change g) names c g last).events last (subst IsGood on good) in
    let call_last : IsCaller c last = subst (λ (es : History). IsCaller c (es ++ there_after)) (sym locks.1) (locks_call c locks.0 there_after call_then) in
    let same : catalogue_events last ≡ catalogue_events there_after = ap (λ (es : History). catalogue_events (es ++ there_after)) locks.1 ∙ locks_catalogue locks.0 there_after in
    let made_last : IsMade (catalogue_events last) there.table = subst (λ (cats : CatalogueEvents). IsMade cats there.table) (sym same) there.made in
    let plain = good_changes last good_last how (values_of (apart how params)) (change g) names c there.table there.asked (looks c last good_last call_last) made_last in
    rows_alone (change_told g) (λ n. refl) (changed_from (change g) names c g last)
    ∙ subst (λ (x : Found). changed_from (change g) names c x last ≡ plainly_changed (change g) names c x last) (sym there.is) plain))

changed_plain : (change : Found → Changing) (h : History) → IsGood h → (how : Planning) (names : List (List ℕ)) (params : List Param) (c : Caller) (rest : Option Rest) (table : NamedTable) (settings : List Setting) (condition : Option Tree) (before : History)
    → h ≡ (changed_by change names c rest (begun change how names params c table settings condition) before).events ++ before → IsCaller c before
    → giving rows_in (changed_by change names c rest (begun change how names params c table settings condition) before) ≡ all_changed_by change how names params c rest table settings condition before
changed_plain change h good how names params c rest table settings condition before is call = by (left_of before c rest) is
  where
    by : (o : Option RowsLeft) → h ≡ (begun_or_left (begun change how names params c table settings condition) (λ r k. giving (change_told r.found) (changed_on change names c r k)) o before).events ++ before
        → giving rows_in (begun_or_left (begun change how names params c table settings condition) (λ r k. giving (change_told r.found) (changed_on change names c r k)) o before) ≡ begun_or_left (begun_plainly change how names params c table settings condition) (changed_on change names c) o before
    by None e = begun_plain change h good how names params c table settings condition before e call
    by (Some r) e = rows_alone (change_told r.found) (λ n. refl) (changed_on change names c r before)

pub good_whole : (h : History) → IsGood h → WholeStatementsArePlain h
good_whole h good = record {
  selects = selects_plain h good;
  updates = λ how names params c rest table settings condition before is call. changed_plain (λ g. updating c g) h good how names params c rest table settings condition before is call;
  deletes = λ how names params c rest table condition before is call. changed_plain (λ g. deleting c) h good how names params c rest table [] condition before is call;
}
