-- What a record answers given whether the state is sound, and how the code tells it. Assumes nothing: these are definitions.
use Rattle.std.specs.Prelude.{ℕ, Bool, ◌≡◌, get_or, Option, None, Some}
use Rattle.coordinator.specs.declared.Coordinator.{Coordinator}
use Rattle.coordinator.specs.Open.{after_open_tested}
use Rattle.coordinator.specs.Ask.{after_ask_tested}
use Rattle.coordinator.specs.Confirm.{after_confirm_tested}
use Rattle.coordinator.specs.Close.{after_close_tested}
use Rattle.coordinator.specs.Answer.{refused, open_values, ask_values, confirm_values, close_values}
use Rattle.coordinator.specs.Call.{Call, open_job, ask_step, confirm_step, close_job, Played}
use Rattle.record.specs.declared.answer.Answer.{Answer}
use Rattle.record.specs.Answer.{numbers_of}
use Rattle.coordinator.specs.declared.answers.After.{After}
use Rattle.coordinator.specs.declared.answers.Opened.{Opened}
use Rattle.coordinator.specs.declared.answers.Asked.{Asked}
use Rattle.coordinator.specs.declared.answers.Closed.{Closed}
use Rattle.numbers.specs.declared.Ticket.{Ticket}

unfoldable pub answer_tested : Bool → Coordinator → Option Call → Played
answer_tested is_sound s None = record { values = refused 11; state = s }
answer_tested is_sound s (Some (open_job mask)) = let r : After Opened = after_open_tested is_sound s mask in record { values = open_values r.answer; state = r.state }
answer_tested is_sound s (Some (ask_step t k)) = let r : After Asked = after_ask_tested is_sound s t k in record { values = ask_values r.answer; state = r.state }
answer_tested is_sound s (Some (confirm_step t k)) = let r : After (Option Ticket) = after_confirm_tested is_sound s t k in record { values = confirm_values r.answer; state = r.state }
answer_tested is_sound s (Some (close_job t)) = let r : After (Option Closed) = after_close_tested is_sound s t in record { values = close_values r.answer; state = r.state }

-- p is what was played, r tells its values, zeros after its tickets, and s is the state left
pub record Plays (p : Played) (r : Answer) (s : Coordinator) : Type 0 where
  pub numbers : r.numbers ≡ numbers_of p.values
  pub tickets : (i : ℕ) → get_or p.values.tickets i 0 ≡ get_or r.tickets i 0
  pub state : s ≡ p.state
