use Rattle.std.proofs.Common.{◌≡◌, ◌∙◌, [], ap, arith, length, map, slice_set, sym, vec_len}
use Rattle.prepared_statements.specs.Kept.{listed}
use Rattle.statement_runs.proofs.Prepared.{map_at, map_set}
use Rattle.statement_runs.proofs.executor.take_list.Goals as goal

pub returns-then-session-len-clause-is : goal.returns-then-session-len-clause-is
returns-then-session-len-clause-is c =
    let size : vec_len c.args.lists.now ≡ length c.args.lists.now.items = c.args.lists.now.ok.0 in
    ap listed c.replace.ensures.value
    ∙ sym (map_at listed c.args.lists.now.items c.args.session c.index_mut.result.now [] (omega (arith, c.if-session-len.true, c.len.ensures, size)) (sym c.index_mut.ensures.value))

pub returns-then-session-len-clause-taken : goal.returns-then-session-len-clause-taken
returns-then-session-len-clause-taken c =
    map_set listed c.args.lists.now.items c.args.session c.replace.new.dest
    ∙ ap (slice_set (map listed c.args.lists.now.items) c.args.session) (ap listed c.replace.ensures.after ∙ c.new-none.ensures)
