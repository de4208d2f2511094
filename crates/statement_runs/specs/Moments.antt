-- What holds at each moment of a run.
use Rattle.std.specs.Prelude.{◌≡◌, [], ◌∷◌, ◌++◌}
use Rattle.std.proofs.Common.{subst}
use Rattle.history.specs.History.{History}
use Rattle.soundness.specs.Laws.{EachRowInOneLeaf}
use Rattle.soundness.proofs.OneLeaf.{one_leaf_accepts}
use Rattle.stores.specs.Good.{IsGood}
use Rattle.stores.proofs.Goodness.{legal_of, permitted_of}

-- after each of its events, the last one and those before
abbrev pub Always : (History → Type 0) → History → Type 0
Always P h = (later earlier : History) → h ≡ later ++ earlier → P earlier

-- each row that a tree shows to a session lies in the one leaf of the tree that accepts it
abbrev pub AlwaysInOneLeaf : History → Type 0
AlwaysInOneLeaf h = Always EachRowInOneLeaf h

-- a good history was good before
good_before : (later earlier : History) → IsGood (later ++ earlier) → IsGood earlier
good_before [] earlier good = good
good_before (e ∷ later) earlier good = good_before later earlier good.1

pub good_always : (P : History → Type 0) → ((h : History) → IsGood h → P h) → (h : History) → IsGood h → Always P h
good_always P holds h good later earlier is = holds earlier (good_before later earlier (subst IsGood is good))

pub good_rows : (h : History) → IsGood h → AlwaysInOneLeaf h
good_rows h good = good_always EachRowInOneLeaf (λ e is. one_leaf_accepts e (legal_of e is) (permitted_of e is)) h good
