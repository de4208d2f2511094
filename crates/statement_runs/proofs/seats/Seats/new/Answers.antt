use Rattle.std.proofs.Common.{rules, ◌≡◌, [], replicate, false}
use Rattle.statement_runs.proofs.Steps.{new_tells, new_kept}
use Rattle.statement_runs.proofs.seats.Seats.new.Goals as goal

pub invariant_of-result : goal.invariant_of-result
invariant_of-result c =
    let off : c.in_ok-vec.field-0.items ≡ replicate c.args.sessions false = search rules in
    let numbers : c.in_ok-vec-2.field-0.items ≡ replicate c.args.sessions 0 = search rules in
    let none : c.in_ok-vec-3.field-0.items ≡ replicate c.args.sessions false = search rules in
    let unmoved : c.in_ok-vec-4.field-0.items ≡ replicate c.args.sessions false = search rules in
    let empty : c.new-2.result.items ≡ [] = search rules in
    new_kept c.in_ok-stores.stores c.args.sessions c.in_ok-vec.field-0.items c.in_ok-vec-2.field-0.items c.in_ok-vec-3.field-0.items c.in_ok-nothing_left.field-0.items c.in_ok-vec-4.field-0.items c.new-2.result.items c.ready-ready.result c.requires
    off numbers none c.in_ok-nothing_left.ensures unmoved empty c.in_ok-stores.ensures.stands c.ready-ready.ensures.is c.ready-ready.ensures.known c.in_ok-stores.ensures.sessions c.in_ok-stores.ensures.tables

pub returns-clause-tells : goal.returns-clause-tells
returns-clause-tells c =
    let off : c.in_ok-vec.field-0.items ≡ replicate c.args.sessions false = search rules in
    let empty : c.new-2.result.items ≡ [] = search rules in
    new_tells c.in_ok-stores.stores c.args.sessions c.in_ok-vec.field-0.items c.in_ok-vec-2.field-0.items c.in_ok-vec-3.field-0.items c.in_ok-nothing_left.field-0.items c.in_ok-vec-4.field-0.items c.new-2.result.items c.ready-ready.result
    off c.in_ok-nothing_left.ensures empty c.in_ok-stores.ensures.stands c.ready-ready.ensures.is
