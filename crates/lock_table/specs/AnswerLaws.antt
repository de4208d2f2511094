-- The lock table's answers are those that the history tells.
use Rattle.std.specs.Prelude.{◌≡◌, ℕ, ◌<◌, ◌++◌, true, None}
use Rattle.pg_values.specs.Sets.{has}
use Rattle.history.specs.declared.wait.Wanted.{Wanted}
use Rattle.history.specs.Locks.{LockEvents, wanted}
use Rattle.history.specs.LocksSound.{AreLocksSound}
use Rattle.history.specs.History.{History, lock_events}
use Rattle.lock_table.specs.declared.asked.Asked.{Asked}
use Rattle.lock_table.specs.declared.asked.Asked.TheVariants.{Granted, Waits, Deadlock}
use Rattle.lock_table.specs.Answers.{IsAnswer, after}
use Rattle.lock_table.specs.Asked.{asked_view, asked, asked_events, asked_history}

-- whoever is named as a cause to wait is a session
abbrev pub NamesSessions : Asked → Type 0
NamesSessions Granted = Unit {0}
NamesSessions (Waits behind) = (y : ℕ) → has behind y ≡ true → y < 128
NamesSessions (Deadlock cycle) = Unit {0}

-- the answer is the one that the history tells, whoever asks for whatever
abbrev pub AnswerIsTold : Asked → Type 0
AnswerIsTold answer = (h : LockEvents) (s : ℕ) (w : Wanted) → AreLocksSound h → s < 128 → IsAnswer h s w answer → asked_view answer ≡ asked h s w

-- and so is what happens then
abbrev pub HistoryIsTold : Asked → Type 0
HistoryIsTold answer = (h : History) (s : ℕ) (w : Wanted) → AreLocksSound (lock_events h) → s < 128 → IsAnswer (lock_events h) s w answer → after s w answer h ≡ asked_history h s w

abbrev pub EventsAreTold : Asked → Type 0
EventsAreTold answer = (h : History) (s : ℕ) (w : Wanted) → AreLocksSound (lock_events h) → s < 128 → IsAnswer (lock_events h) s w answer
    → lock_events (after s w answer h) ≡ asked_events (lock_events h) s w ++ lock_events h

-- what a session adds that asks, and does not wait, could come
abbrev pub WhatIsAskedMayCome : Type 0
WhatIsAskedMayCome = (h : LockEvents) (s : ℕ) (w : Wanted) → AreLocksSound h → s < 128 → wanted h s ≡ None → AreLocksSound (asked_events h s w ++ h)
