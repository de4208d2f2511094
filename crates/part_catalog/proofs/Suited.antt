-- The bounds of one table's entries have an order.
use Rattle.std.proofs.Common.{◌≡◌, refl, true, List}
use Rattle.bound_forms.specs.declared.partition_bound.Bound.{Bound}
use Rattle.bound_forms.specs.declared.partition_bound.Bound.TheVariants.{Range, List as Listed, Hash, Default}
use Rattle.bound_forms.specs.declared.level.KeyColumn.{KeyColumn}
use Rattle.pg_values.specs.declared.strategy.Strategy.{Strategy}
use Rattle.pg_values.specs.declared.strategy.Strategy.TheVariants.{Range as ByRange, List as ByList, Hash as ByHash}
use Rattle.bound_forms.specs.Levels.{IsBoundAt}
use Rattle.bound_forms.specs.Ordered.{are_alike}
use Rattle.bound_forms.proofs.LevelLaws.{level_compare, level_kind}
use Rattle.history.specs.declared.catalogue.TableShape.{TableShape}
use Rattle.history.specs.declared.catalogue.TableShape.TheVariants.{Leaf, Level}
use Rattle.history.specs.Places.{TakesBound}
use Rattle.part_catalog.specs.Ordered.{HaveAnOrder}

alike_at : (s : Strategy) (columns : List KeyColumn) (a b : Bound) → IsBoundAt s columns a → IsBoundAt s columns b → are_alike a b ≡ true
alike_at s columns Default b h k = refl
alike_at s columns (Range l u) Default h k = refl
alike_at s columns (Listed vs) Default h k = refl
alike_at s columns (Hash m r) Default h k = refl
alike_at s columns (Range l u) (Range m v) h k = refl
alike_at s columns (Listed vs) (Listed ws) h k = refl
alike_at s columns (Hash m r) (Hash n q) h k = refl
alike_at ByRange columns (Range l u) (Listed ws) h k = absurd k
alike_at ByList columns (Range l u) (Listed ws) h k = absurd h
alike_at ByHash columns (Range l u) (Listed ws) h k = absurd h
alike_at ByRange columns (Range l u) (Hash n q) h k = absurd k
alike_at ByList columns (Range l u) (Hash n q) h k = absurd h
alike_at ByHash columns (Range l u) (Hash n q) h k = absurd h
alike_at ByRange columns (Listed vs) (Range m v) h k = absurd h
alike_at ByList columns (Listed vs) (Range m v) h k = absurd k
alike_at ByHash columns (Listed vs) (Range m v) h k = absurd h
alike_at ByRange columns (Listed vs) (Hash n q) h k = absurd h
alike_at ByList columns (Listed vs) (Hash n q) h k = absurd k
alike_at ByHash columns (Listed vs) (Hash n q) h k = absurd h
alike_at ByRange columns (Hash m r) (Range l u) h k = absurd h
alike_at ByList columns (Hash m r) (Range l u) h k = absurd h
alike_at ByHash columns (Hash m r) (Range l u) h k = absurd k
alike_at ByRange columns (Hash m r) (Listed ws) h k = absurd h
alike_at ByList columns (Hash m r) (Listed ws) h k = absurd h
alike_at ByHash columns (Hash m r) (Listed ws) h k = absurd k

pub have_an_order : (shape : TableShape) (a b : Bound) → TakesBound shape a → TakesBound shape b → HaveAnOrder a b
have_an_order (Leaf leaf) a b h k = absurd h
have_an_order (Level level) a b h k = record { alike = alike_at level.strategy level.columns a b h k; compare = level_compare level a b h k; first = level_kind level a h; second = level_kind level b k }
