use Rattle.expression_binder.specs.Kinds.{kind_alone}
use Rattle.expression_binder.specs.Operands.{typed}
use Rattle.binding_laws.proofs.Operands.{alone_gives, scalar_has}
use Rattle.binding_laws.proofs.laws.operands_fit.Goals as goal

pub returns : goal.returns
returns c = λ s t x sound h e. scalar_has s sound t (kind_alone (typed s t).given) (kind_alone (typed s t).given) x h (alone_gives (typed s t).given) e
