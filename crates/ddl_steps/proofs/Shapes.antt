-- The shape of a parent whose level is told.
use Rattle.std.proofs.Common.{◌≡◌, ℕ, List, sym, subst, Ok}
use Rattle.history.specs.declared.catalogue.TableShape.TheVariants.{Level, Leaf}
use Rattle.history.specs.declared.catalogue.TableShape.{TableShape}
use Rattle.history.specs.Places.{TakesBound}
use Rattle.bound_forms.specs.declared.level.Level.{Level as OneLevel}
use Rattle.bound_forms.specs.declared.partition_bound.Bound.{Bound}
use Rattle.bound_forms.specs.Levels.{IsOfLevel}
use Rattle.part_ddl.specs.Placing.{level_told}

pub shape_at : (name : List ℕ) (shape : TableShape) (level : OneLevel) → level_told name shape ≡ Ok level → shape ≡ Level level
shape_at name (Leaf leaf) level e = absurd (let d = e in cc)
shape_at name (Level l) level e = let d = e in cc

pub takes_bound : (name : List ℕ) (shape : TableShape) (level : OneLevel) (b : Bound) → level_told name shape ≡ Ok level → IsOfLevel level b → TakesBound shape b
takes_bound name (Leaf leaf) level b is fits = absurd (let c = is in cc)
takes_bound name (Level own) level b is fits = let same : own ≡ level = (let c = is in cc) in subst (λ (l : OneLevel). IsOfLevel l b) (sym same) fits
