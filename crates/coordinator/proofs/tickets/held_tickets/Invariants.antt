use Rattle.std.proofs.Common.{◌≡◌, length, take}
use Rattle.loops.specs.Table.{table}
use Rattle.coordinator.specs.Limits.{jobs}
use Rattle.coordinator.specs.Views.{entry}
use Rattle.coordinator.specs.Tables.{ticket_at}
use Rattle.coordinator.proofs.tickets.held_tickets.Given as goal

abbrev pub invariant-loop-i : goal.invariant-loop-i
invariant-loop-i l = (length l.held ≡ jobs) × (take l.i l.held ≡ table l.i (λ k. ticket_at l.tickets (entry l.order k)))
