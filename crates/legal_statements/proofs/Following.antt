-- Events that may follow, one by one.
use Rattle.std.proofs.Common.{ℕ, [], ◌∷◌, Option, Some, None}
use Rattle.history.specs.History.{History}
use Rattle.history.specs.Legal.{command_of, IsNotAfter, IsInOrder}
use Rattle.legal_statements.specs.Laws.{FollowedIsLegal}

pub followed_is_legal : FollowedIsLegal
followed_is_legal [] h legal permitted follow = (legal, permitted)
followed_is_legal (e ∷ es) h legal permitted follow =
    let rest = followed_is_legal es h legal permitted follow.1 in
    ((follow.0.legal, follow.0.in_order, rest.0), (follow.0.permitted, rest.1))

never_after : (c : Option (ℕ × ℕ)) → IsNotAfter c None
never_after None = tt
never_after (Some c) = tt

-- an event without a command is in order
pub no_command : (h : History) → IsInOrder None h
no_command [] = tt
no_command (e ∷ h) = (never_after (command_of e), no_command h)
