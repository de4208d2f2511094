-- A chain ends where no sign comes.
use Rattle.std.proofs.Common.{◌≡◌, ℕ, zero, suc, Bool, false, List, refl, Ok}
use Rattle.grammar.specs.Reading.{Class, Rule, begins_in}
use Rattle.grammar.specs.Repeats.{read_repeats, read_step}
use Rattle.sql_tokens.specs.declared.token.Token.{Token}
use Rattle.sql_expressions.specs.Levels.{Deep, only_part}
use Rattle.sql_expressions.specs.Views.{joint_value}
use Rattle.sql_expressions.specs.declared.signs.Joint.{Joint}
use Rattle.sql_expressions.specs.declared.signs.Joint.TheVariants as joints

pub ends_there : {A B : Type 0} (sign : Class Token) (guard : A → Bool) (join : A → Token → B → A) (p : A → Rule Token B) (n : ℕ) (l : A) (ts : List Token) → begins_in sign ts ≡ false → read_repeats sign guard join (λ a. (p a).read) n l ts ≡ Ok (l, ts)
unfolding read_repeats read_step
ends_there sign guard join p zero l ts h = refl
ends_there sign guard join p (suc n) l ts h = rw h refl

-- one part is itself
pub single : (joint : Joint) (x : Deep) → joint_value joint (only_part x) ≡ x
single joints.Or x = refl
single joints.And x = refl
