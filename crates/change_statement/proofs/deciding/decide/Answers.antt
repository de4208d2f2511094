use Rattle.std.proofs.Common.{refl, ◌∙◌}
use Rattle.row_store.proofs.Changes.{count_is}
use Rattle.change_statement.specs.Verdicts.{updater_meant}
use Rattle.change_statement.proofs.Chains.{done_decided, first_decides, followed_decides}
use Rattle.change_statement.proofs.deciding.decide.Goals as goal

pub loop-verdict-init : goal.loop-verdict-init
loop-verdict-init c = record {
  known = c.if-not-is_born.ensures.known refl;
  born = c.if-not-is_born.ensures.seen refl;
  leaf = refl;
  decides = λ h txs st. first_decides h (updater_meant c.args.updater.now) c.args.id _ (count_is c.args.store.now h st);
}

pub loop-verdict-preserved : goal.loop-verdict-preserved
loop-verdict-preserved c =
    let later = c.in-Follow.ensures.fit in
    record {
      known = later.known;
      born = later.born;
      leaf = later.leaf ∙ c.loop-verdict.invariant.leaf;
      decides = λ h txs st. followed_decides h (updater_meant c.args.updater.now) c.args.id c.loop-verdict.version c.in-Follow.new _ c.loop-verdict.again c.loop-verdict.invariant.known later.later (λ next. c.in-Follow.ensures.is h next txs st) (c.loop-verdict.invariant.decides h txs st);
    }

pub returns-in-Done-clause-is : goal.returns-in-Done-clause-is
returns-in-Done-clause-is c h txs st =
    done_decided h (updater_meant c.args.updater.now) c.args.id c.loop-verdict.version _ c.loop-verdict.again c.in-Done.verdict (c.if-not-is_born.ensures.is h txs st) c.loop-verdict.invariant.known
    (λ next. c.in-Done.ensures.is h next txs st) (c.loop-verdict.invariant.decides h txs st)
