-- The modes of locks on tables, and which conflict (the manual, 13.3.1).
use Rattle.std.specs.Prelude.{ℕ, ◌==◌, Bool, List, [], ◌∷◌}
use Rattle.std.specs.List.{list_any}
use Rattle.pg_values.specs.declared.lock_mode.LockMode.{LockMode}
use Rattle.pg_values.specs.declared.lock_mode.LockMode.TheVariants.{AccessShare, RowShare, RowExclusive, ShareUpdateExclusive, Share, ShareRowExclusive, Exclusive, AccessExclusive}

abbrev pub every_mode : List LockMode
every_mode = AccessShare ∷ RowShare ∷ RowExclusive ∷ ShareUpdateExclusive ∷ Share ∷ ShareRowExclusive ∷ Exclusive ∷ AccessExclusive ∷ []

-- its place among them
abbrev pub rank : LockMode → ℕ
rank AccessShare = 0
rank RowShare = 1
rank RowExclusive = 2
rank ShareUpdateExclusive = 3
rank Share = 4
rank ShareRowExclusive = 5
rank Exclusive = 6
rank AccessExclusive = 7

abbrev pub same_mode : LockMode → LockMode → Bool
same_mode a b = rank a == rank b

-- the modes that it conflicts with
abbrev pub conflicting : LockMode → List LockMode
conflicting AccessShare = AccessExclusive ∷ []
conflicting RowShare = Exclusive ∷ AccessExclusive ∷ []
conflicting RowExclusive = Share ∷ ShareRowExclusive ∷ Exclusive ∷ AccessExclusive ∷ []
conflicting ShareUpdateExclusive = ShareUpdateExclusive ∷ Share ∷ ShareRowExclusive ∷ Exclusive ∷ AccessExclusive ∷ []
conflicting Share = RowExclusive ∷ ShareUpdateExclusive ∷ ShareRowExclusive ∷ Exclusive ∷ AccessExclusive ∷ []
conflicting ShareRowExclusive = RowExclusive ∷ ShareUpdateExclusive ∷ Share ∷ ShareRowExclusive ∷ Exclusive ∷ AccessExclusive ∷ []
conflicting Exclusive = RowShare ∷ RowExclusive ∷ ShareUpdateExclusive ∷ Share ∷ ShareRowExclusive ∷ Exclusive ∷ AccessExclusive ∷ []
conflicting AccessExclusive = every_mode

abbrev pub conflicts : LockMode → LockMode → Bool
conflicts a b = list_any (λ m. same_mode m b) (conflicting a)
