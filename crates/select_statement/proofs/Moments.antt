-- Of each good history all this holds.
use Rattle.std.proofs.Common.{◌-◌}
use Rattle.history.specs.History.{History}
use Rattle.bound_forms.proofs.OverlapLaws.{at_most_one_among}
use Rattle.plan_tree.proofs.Missed.{none_missed}
use Rattle.plan_tree.proofs.Right.{shown_right}
use Rattle.plan_tree.proofs.Small.{trees_ordered, trees_prunable}
use Rattle.select_answer.proofs.Plain.{read_once}
use Rattle.select_answer.proofs.PlainAnswers.{pruned_plain, reads_plain}
use Rattle.stores.specs.Events.{look_of}
use Rattle.stores.specs.Good.{IsGood}
use Rattle.stores.specs.Laws.{GoodIsLegal}
use Rattle.stores.proofs.Goodness.{legal_of, permitted_of}
use Rattle.select_statement.specs.Moments.{ReadsArePlainIn, SelectsArePlain}
use Rattle.select_statement.proofs.Few.{leaves_few}
use Rattle.select_statement.proofs.Plain.{one_table_plain, tables_plain}

good_reads : (h : History) → IsGood h → ReadsArePlainIn h
good_reads h good how c args m ns = reads_plain none_missed shown_right trees_prunable trees_ordered at_most_one_among how (c.sessions - 1) args m h c.session ns (look_of h c.session c.cmd) (legal_of h good) (permitted_of h good)

pub good_selects : (h : History) → IsGood h → SelectsArePlain h
good_selects h good =
    let lawful : GoodIsLegal = λ e is. (legal_of e is, permitted_of e is) in
    let pruned = pruned_plain none_missed shown_right trees_prunable trees_ordered at_most_one_among in
    (good_reads h good, one_table_plain lawful leaves_few read_once pruned h good, tables_plain lawful pruned h good)
