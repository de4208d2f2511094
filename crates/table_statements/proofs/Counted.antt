-- A statement that has got its locks counts as a command.
use Rattle.std.proofs.Common.{ℕ, ◌+◌, ◌++◌, [], Result, Ok, Err}
use Rattle.history.specs.History.{History}
use Rattle.stores.specs.declared.stores.Stores.{Stores}
use Rattle.statement_steps.specs.Made.{Made}
use Rattle.statement_steps.specs.Attempts.{WentOn}
use Rattle.statement_steps.specs.declared.caller.Caller.{Caller}
use Rattle.statement_steps.specs.declared.stop.Stop.{Stop}
use Rattle.statement_steps.specs.declared.stop.Stop.TheVariants as stop
use Rattle.statement_steps.proofs.Numbers.{one_later}
use Rattle.statement_steps.specs.Steps.{IsTold, IsStep}

later : (earlier h : History) (stores : Stores) (s n : ℕ) → WentOn earlier s n [] stores h → WentOn earlier s (n + 1) [] stores h
later earlier h stores s n went = record { stands = went.stands; at = one_later h s n went.at; others = went.others; since = went.since; queue = went.queue }

told_later : {X T : Type 0} (view : X → T) (r : Result X Stop) (new : Stores) (caller : Caller) (h : History) (m : Made T) → IsTold view r new caller caller.cmd h m → IsTold view r new caller (caller.cmd + 1) h m
told_later view (Ok x) new caller h m told = (told.0, later h (m.events ++ h) new caller.session caller.cmd told.1)
told_later view (Err (stop.Waits rest)) new caller h m told = told
told_later view (Err (stop.Refused f)) new caller h m told = told
told_later view (Err stop.NoMemory) new caller h m told = told

pub counted : {X T : Type 0} (view : X → T) (r : Result X Stop) (old new : Stores) (caller : Caller) (f : History → Made T) → IsStep view r old new caller caller.cmd f → IsStep view r old new caller (caller.cmd + 1) f
counted view r old new caller f step = record {
  is = λ h stands at. told_later view r new caller h (f h) (step.is h stands at);
  keeps = step.keeps;
  waits = step.waits;
}
