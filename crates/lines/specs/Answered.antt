-- What a record answers: three numbers of document 01, and the state left. Assumes nothing: these are definitions.
use Rattle.std.specs.Prelude.{ℕ, Option, None, Some}
use Rattle.coordinator.specs.declared.Coordinator.{Coordinator}
use Rattle.coordinator.specs.Call.{Call, open_job, ask_step, confirm_step, close_job, Played, play}
use Rattle.lines.specs.declared.said.Said.{Said}

-- the three numbers of a record's line after its index, and the state left
pub record Answered : Type 0 where
  pub state : Coordinator
  pub refusal : ℕ
  pub first : ℕ
  pub second : ℕ

-- the numbers said, beside the state left
abbrev pub beside : Coordinator → Said → Answered
beside s q = record { state = s; refusal = q.refusal; first = q.first; second = q.second }

-- Opening: ticket, moves. Asking: 1 released or 0 held, then 0. Confirming: 1 or 0 for whether one was released, then its ticket or 0.
-- Closing: how many jobs were closed, then 0.
unfoldable pub told : Call → Played → Answered
told (open_job mask) p = record { state = p.state; refusal = p.values.refusal; first = p.values.ticket; second = p.values.moves }
told (ask_step t k) p = record { state = p.state; refusal = p.values.refusal; first = p.values.released; second = 0 }
told (confirm_step t k) p = record { state = p.state; refusal = p.values.refusal; first = p.values.released; second = p.values.ticket }
told (close_job t) p = record { state = p.state; refusal = p.values.refusal; first = p.values.closed; second = 0 }

-- a call is played; what is no call is refused by 11, and changes nothing
unfoldable pub answered : Coordinator → Option Call → Answered
answered s None = record { state = s; refusal = 11; first = 0; second = 0 }
answered s (Some c) = told c (play s c)
