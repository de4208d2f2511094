use Rattle.std.proofs.Common.{◌≡◌, ◌++◌, take}
use Rattle.plan_text.specs.Conditions.{behind}
use Rattle.plan_text.proofs.rows.write_behind.Given as goal

abbrev pub invariant-loop-text : goal.invariant-loop-text
invariant-loop-text l = l.out.items ≡ l.initial.out.items ++ behind l.word (take l.text-index l.texts)
