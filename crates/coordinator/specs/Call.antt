-- The calls as values, and what a sequence of them answers. Assumes nothing: these are definitions.
use Rattle.std.specs.Prelude.{ℕ, List, [], ◌∷◌, Option}
use Rattle.coordinator.specs.declared.Coordinator.{Coordinator}
use Rattle.coordinator.specs.Open.{after_open}
use Rattle.coordinator.specs.Ask.{after_ask}
use Rattle.coordinator.specs.Confirm.{after_confirm}
use Rattle.coordinator.specs.Close.{after_close}
use Rattle.coordinator.specs.Answer.{Values, open_values, ask_values, confirm_values, close_values}
use Rattle.coordinator.specs.declared.answers.After.{After}
use Rattle.coordinator.specs.declared.answers.Opened.{Opened}
use Rattle.coordinator.specs.declared.answers.Asked.{Asked}
use Rattle.coordinator.specs.declared.answers.Closed.{Closed}
use Rattle.numbers.specs.declared.Ticket.{Ticket}

-- a mask; a ticket and a database; a ticket
pub data Call : Type 0 where
  open_job : ℕ → Call
  ask_step : ℕ → ℕ → Call
  confirm_step : ℕ → ℕ → Call
  close_job : ℕ → Call

pub record Played : Type 0 where
  pub values : Values
  pub state : Coordinator

-- a call answers, and leaves a state
unfoldable pub play : Coordinator → Call → Played
play s (open_job mask) = let r : After Opened = after_open s mask in record { values = open_values r.answer; state = r.state }
play s (ask_step t k) = let r : After Asked = after_ask s t k in record { values = ask_values r.answer; state = r.state }
play s (confirm_step t k) = let r : After (Option Ticket) = after_confirm s t k in record { values = confirm_values r.answer; state = r.state }
play s (close_job t) = let r : After (Option Closed) = after_close s t in record { values = close_values r.answer; state = r.state }

-- what the calls answer one after another, each given the state that the last one left
unfoldable pub answers : Coordinator → List Call → List Values
answers s [] = []
answers s (c ∷ calls) = let r : Played = play s c in r.values ∷ answers r.state calls
