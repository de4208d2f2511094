use Rattle.std.proofs.Common.{◌≡◌, replicate}
use Rattle.schedule.specs.Blocks.{no_seat}
use Rattle.schedule.proofs.events.empty_seats.Given as goal

abbrev pub invariant-loop : goal.invariant-loop
invariant-loop l = l.seats.items ≡ replicate l.counter no_seat
