-- Document 01's number and values for each answer. Assumes nothing: these are definitions.
use Rattle.std.specs.Prelude.{ℕ, List, [], take, Option, Some, None, Result, Ok, Err}
use Rattle.numbers.specs.declared.Ticket.{Ticket}
use Rattle.refusals.specs.declared.refusal.Refusal.{Refusal}
use Rattle.refusals.specs.Number.{number}
use Rattle.coordinator.specs.declared.answers.Opened.{Opened}
use Rattle.coordinator.specs.declared.answers.Asked.{Asked}
use Rattle.coordinator.specs.declared.answers.Closed.{Closed}

-- `refusal`: its number, or 0. Opening: ticket, added, moves. Asking: released, 1 or 0 where held. Confirming: released, 1 or 0, and whose ticket.
-- Closing: how many jobs were closed, 0 where held, and their tickets in order. What a call does not answer is zero.
pub record Values : Type 0 where
  pub refusal : ℕ
  pub ticket : ℕ
  pub added : ℕ
  pub moves : ℕ
  pub released : ℕ
  pub closed : ℕ
  pub tickets : List ℕ

abbrev pub refused : ℕ → Values
refused n = record { refusal = n; ticket = 0; added = 0; moves = 0; released = 0; closed = 0; tickets = [] }

abbrev pub open_values : Result Opened Refusal → Values
open_values (Err r) = refused (number r)
open_values (Ok o) = record { refusal = 0; ticket = o.ticket.0; added = o.added; moves = o.moves; released = 0; closed = 0; tickets = [] }

abbrev pub ask_values : Result Asked Refusal → Values
ask_values (Err r) = refused (number r)
ask_values (Ok Asked.Released) = record { refusal = 0; ticket = 0; added = 0; moves = 0; released = 1; closed = 0; tickets = [] }
ask_values (Ok Asked.Held) = record { refusal = 0; ticket = 0; added = 0; moves = 0; released = 0; closed = 0; tickets = [] }

abbrev pub confirm_values : Result (Option Ticket) Refusal → Values
confirm_values (Err r) = refused (number r)
confirm_values (Ok (Some t)) = record { refusal = 0; ticket = t.0; added = 0; moves = 0; released = 1; closed = 0; tickets = [] }
confirm_values (Ok None) = record { refusal = 0; ticket = 0; added = 0; moves = 0; released = 0; closed = 0; tickets = [] }

abbrev pub close_values : Result (Option Closed) Refusal → Values
close_values (Err r) = refused (number r)
close_values (Ok None) = record { refusal = 0; ticket = 0; added = 0; moves = 0; released = 0; closed = 0; tickets = [] }
close_values (Ok (Some c)) = record { refusal = 0; ticket = 0; added = 0; moves = 0; released = 0; closed = c.count; tickets = take c.count c.tickets }
