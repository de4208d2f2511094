use Rattle.std.proofs.Common.{◌≡◌, ◌<◌, true, false, length, sym, ◌∙◌, arith}
use Rattle.std.specs.List.{slice_index_or}
use Rattle.pg_values.specs.declared.value.Value.TheVariants.{Null}
use Rattle.bound_forms.specs.Listed.{lists}
use Rattle.part_ddl.proofs.Sharing.{found_in_one, any_here, any_later}
use Rattle.part_ddl.proofs.placing.is_shared.Goals as goal

pub returns-then-is_some : goal.returns-then-is_some
returns-then-is_some c =
    let listed = c.args._listed.now in
    let values = c.args.values.now in
    let i = c.loop-i.i in
    let v = slice_index_or values i Null in
    let within : i < length values = omega (arith, c.loop-i-test.true, c.len-i-end.ensures) in
    let found : lists listed v ≡ true = found_in_one listed v c.args.one.now c.find_child_uncounted.result true c.requires.one c.find_child_uncounted.ensures (sym c.is_some.ensures ∙ c.if-is_some.true) in
    sym (any_here (lists listed) values i within found) ∙ c.loop-i.invariant

pub loop-i-preserved : goal.loop-i-preserved
loop-i-preserved c =
    let listed = c.args._listed.now in
    let values = c.args.values.now in
    let i = c.loop-i.i in
    let v = slice_index_or values i Null in
    let within : i < length values = omega (arith, c.loop-i-test.true, c.len-i-end.ensures) in
    let missed : lists listed v ≡ false = found_in_one listed v c.args.one.now c.find_child_uncounted.result false c.requires.one c.find_child_uncounted.ensures (sym c.is_some.ensures ∙ c.if-is_some.false) in
    sym (any_later (lists listed) values i within missed) ∙ c.loop-i.invariant
