use Rattle.std.proofs.Common.{◌≡◌, List, ap, sym, subst, ◌∙◌, arith, slice_index_or, slice_set, vec_capacity}
use Rattle.std.proofs.lemmas.Grind.{common_steps, elements}
use Rattle.std.proofs.lemmas.Bool.Decides.{nat_tests}
use Rattle.pg_values.specs.Sets.{has, empty}
use Rattle.pg_values.specs.declared.session_set.SessionSet.{SessionSet}
use Rattle.lock_table.specs.Kept.{AreTaken}
use Rattle.lock_table.proofs.Taken.{same_taken}
use Rattle.lock_table.proofs.changes.put.Goals as goal

pub list_place-requires-clause-taken : goal.list_place-requires-clause-taken
list_place-requires-clause-taken c =
    subst (λ (sets : List SessionSet). AreTaken sets c.args.taken.now.items (vec_capacity c.args.taken.now)) (sym c.deref.ensures.value) (same_taken c.args.held.now.items c.reach.new.held.items c.args.taken.now.items _ c.reach.ensures.same c.requires.taken)

pub returns-clause-taken : goal.returns-clause-taken
returns-clause-taken c =
    let at = c.place-at.result in
    let new = slice_set c.reach.new.held.items at c.with.result in
    let here : slice_index_or new at empty ≡ c.with.result = grind (arith, common_steps, elements, c.reach.ensures.beyond) in
    c.list_place.ensures.taken new c.args.session (record {
      low = c.requires.session;
      here = ap (λ z. has z c.args.session) here ∙ c.with.ensures c.args.session ∙ grind (arith, common_steps, nat_tests);
      others = λ p other. grind (arith, common_steps, elements);
    })
