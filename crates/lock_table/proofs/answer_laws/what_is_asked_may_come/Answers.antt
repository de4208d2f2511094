use Rattle.lock_table.proofs.MayCome.{may_come}
use Rattle.lock_table.proofs.answer_laws.what_is_asked_may_come.Goals as goal

pub returns : goal.returns
returns c = may_come
