-- Closing a job, and the held closes that may go then. Assumes nothing: these are definitions.
use Rattle.std.specs.Prelude.{ℕ, zero, suc, Bool, true, false, List, eqb, set, replicate, Option, None, Some, Ok, Err}
use Rattle.coordinator.specs.declared.Coordinator.{Coordinator}
use Rattle.coordinator.specs.Limits.{jobs}
use Rattle.coordinator.specs.Views.{ticket}
use Rattle.coordinator.specs.Holder.{holder}
use Rattle.coordinator.specs.Refusal.{close_refusal, close_refusal_tested}
use Rattle.coordinator.specs.Change.{mark_held, removed}
use Rattle.coordinator.specs.Release.{may_close, may_close_now, first_of}
use Rattle.coordinator.specs.declared.answers.After.{After}
use Rattle.coordinator.specs.declared.answers.Closed.{Closed}
use Rattle.refusals.specs.declared.refusal.Refusal.{Refusal}

-- how many jobs are closed so far, their tickets in order, and the state left
pub record Closing : Type 0 where
  pub count : ℕ
  pub tickets : List ℕ
  pub state : Coordinator

abbrev pub no_tickets : List ℕ
no_tickets = replicate jobs 0

-- one more job, in slot j, is closed
unfoldable pub close_one : Closing → ℕ → Closing
close_one c j = record { count = suc c.count; tickets = set c.tickets c.count (ticket c.state j); state = removed c.state j }

-- as long as some held close may go, close the first; at most so many
unfoldable pub close_held : ℕ → Closing → Closing
close_held zero c = c
close_held (suc left) c = elim (eqb (may_close_now c.state) 0) [ true ↦ c | false ↦ close_held left (close_one c (first_of c.state (may_close_now c.state))) ]

-- the job in slot j closes, and then the held closes that may go
unfoldable pub closing : Coordinator → ℕ → Closing
closing s j = close_held jobs (close_one (record { count = 0; tickets = no_tickets; state = s }) j)

abbrev pub after_closing : Closing → After (Option Closed)
after_closing c = record { answer = Ok (Some (record { count = c.count; tickets = c.tickets })); state = c.state }

unfoldable pub closed_at : Coordinator → ℕ → After (Option Closed)
closed_at s j =
    elim (may_close s j) [
      | true ↦ after_closing (closing s j)
      | false ↦ record { answer = Ok None; state = mark_held s j }
    ]

-- refused, or done
abbrev pub close_answered : Option Refusal → Coordinator → ℕ → After (Option Closed)
close_answered refusal s t = elim refusal [ None ↦ closed_at s (holder s t) | Some r ↦ record { answer = Err r; state = s } ]

unfoldable pub after_close : Coordinator → ℕ → After (Option Closed)
after_close s t = close_answered (close_refusal s t) s t

-- the same, given whether the state is sound
unfoldable pub after_close_tested : Bool → Coordinator → ℕ → After (Option Closed)
after_close_tested is_sound s t = close_answered (close_refusal_tested is_sound s t) s t
