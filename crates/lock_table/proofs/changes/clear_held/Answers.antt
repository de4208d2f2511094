use Rattle.std.proofs.Common.{◌≡◌, ◌+◌, ◌*◌, ◌<◌, ◌==◌, ◌&&◌, not, length, slice_index_or, vec_capacity, refl, sym, subst, ◌∙◌, arith, rules}
use Rattle.std.proofs.lemmas.Fn.{filter_same}
use Rattle.std.proofs.lemmas.Grind.{common_steps, elements}
use Rattle.std.proofs.lemmas.List.{get_or_default}
use Rattle.pg_values.specs.Modes.{rank}
use Rattle.pg_values.specs.Sets.{has, empty}
use Rattle.pg_values.specs.declared.session_set.SessionSet.{SessionSet}
use Rattle.lock_table.specs.Kept.{is_empty_at, AreTaken}
use Rattle.lock_table.proofs.Taken.{as_read, place_there, left_more, left_all, left_taken}
use Rattle.lock_table.proofs.changes.clear_held.Goals as goal

pub index-requires : goal.index-requires
index-requires c =
    let places = c.deref-place-items.result.now in
    let taken = as_read _ _ _ _ c.deref-place-items.ensures.value c.requires.taken in
    let place = slice_index_or places c.loop-place.place-index 0 in
    let there = place_there c.args.held.now.items c.loop-place.held.items places _ c.loop-place.place-index place c.loop-place-test.true (get_or_default places c.loop-place.place-index 0 place c.loop-place-test.true) c.loop-place.invariant.len taken in
    grind (arith, common_steps, there)

pub index_mut-requires : goal.index_mut-requires
index_mut-requires c =
    let places = c.deref-place-items.result.now in
    let taken = as_read _ _ _ _ c.deref-place-items.ensures.value c.requires.taken in
    let place = slice_index_or places c.loop-place.place-index 0 in
    let there = place_there c.args.held.now.items c.loop-place.held.items places _ c.loop-place.place-index place c.loop-place-test.true (get_or_default places c.loop-place.place-index 0 place c.loop-place-test.true) c.loop-place.invariant.len taken in
    grind (arith, common_steps, there)

pub loop-place-preserved : goal.loop-place-preserved
loop-place-preserved c =
    let old = c.args.held.now.items in
    let now = c.loop-place.held.items in
    let places = c.deref-place-items.result.now in
    let n = c.loop-place.place-index in
    let taken = as_read _ _ _ _ c.deref-place-items.ensures.value c.requires.taken in
    let place = slice_index_or places n 0 in
    let is = get_or_default places n 0 place c.loop-place-test.true in
    let there : place < length now = place_there old now places _ n place c.loop-place-test.true is c.loop-place.invariant.len taken in
    let here : c.index.result.now ≡ slice_index_or now place empty = c.index.ensures ∙ get_or_default now place c.index.result.now empty there in
    record {
      len = grind (arith, common_steps, elements, c.loop-place.invariant.len);
      room = c.loop-place.invariant.room;
      left = left_more old now _ c.without.result places n place c.args.session c.loop-place-test.true is there refl
          (λ s. subst (λ (z : SessionSet). has c.without.result s ≡ (not (s == c.args.session) && has z s)) here (c.without.ensures.has s)) c.loop-place.invariant.left;
    }

pub returns-clause-holds : goal.returns-clause-holds
returns-clause-holds c = λ s t m.
    let taken = as_read _ _ _ _ c.deref-place-items.ensures.value c.requires.taken in
    left_all c.args.held.now.items c.loop-place.held.items c.deref-place-items.result.now _ c.args.session c.loop-place.place-index c.requires.session (omega (arith, c.loop-place-test.false)) c.loop-place.invariant.left taken (8 * t + rank m) s

pub returns-clause-taken : goal.returns-clause-taken
returns-clause-taken c =
    let new = c.loop-place.held.items in
    let taken = as_read _ _ _ _ c.deref-place-items.ensures.value c.requires.taken in
    let left = left_all c.args.held.now.items new c.deref-place-items.result.now _ c.args.session c.loop-place.place-index c.requires.session (omega (arith, c.loop-place-test.false)) c.loop-place.invariant.left taken in
    let kept = filter_same _ (λ p. not (is_empty_at new p)) _ (λ x b f' k. search rules) _ _ c.retain.ensures.filtered in
    subst (λ r. AreTaken new c.retain.new.self.items r) (sym c.retain.ensures.capacity) (left_taken c.args.held.now.items new c.args.taken.now.items c.retain.new.self.items (vec_capacity c.args.taken.now) c.args.session left kept c.requires.taken)
