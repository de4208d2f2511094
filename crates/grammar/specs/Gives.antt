-- What a function returned is what a reader gives; but nothing is said where memory ran out.
use Rattle.std.specs.Prelude.{◌≡◌, Result, Ok, Err}
use Rattle.grammar.specs.Reading.{Stop, syntax_at, limit_at}
use Rattle.grammar.specs.declared.refused.Refused.{Refused}
use Rattle.grammar.specs.declared.refused.Refused.TheVariants.{NoMemory, Syntax, Limit}

-- The reader stops where the refusal says.
abbrev pub Refuses : {Y : Type 0} → Refused → Result Y Stop → Type 0
Refuses NoMemory read = Unit {0}
Refuses (Syntax n) read = read ≡ Err (syntax_at n)
Refuses (Limit n) read = read ≡ Err (limit_at n)

-- The reader gives what was returned, seen by `view`.
abbrev pub Gives : {X Y : Type 0} → (X → Y) → Result X Refused → Result Y Stop → Type 0
Gives view (Ok x) read = read ≡ Ok (view x)
Gives view (Err e) read = Refuses e read
