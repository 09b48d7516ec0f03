-- The tickets in the row that an answer is. Assumes nothing: these are definitions.
use Rattle.std.specs.Prelude.{ℕ, List, replicate, Option, None, Some, Result, Ok, Err}
use Rattle.coordinator.specs.Limits.{jobs}
use Rattle.coordinator.specs.declared.answers.Closed.{Closed}
use Rattle.refusals.specs.declared.refusal.Refusal.{Refusal}

-- of a call that closes nothing
abbrev pub no_tickets : List ℕ
no_tickets = replicate jobs 0

-- the tickets beside a close's numbers
abbrev pub tickets_of : Result (Option Closed) Refusal → List ℕ
tickets_of (Ok (Some c)) = c.tickets
tickets_of (Ok None) = no_tickets
tickets_of (Err r) = no_tickets
